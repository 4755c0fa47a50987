-- `reader_steps::ends::end_padded` meets its contract. Assumes nothing.
use Rattle.std.proofs.Common.{◌+◌, ◌%◌, refl, arith}
use Rattle.meaning.proofs.RefusalLaws.{number_not_0}
use Rattle.reader_basic.specs.Answers.{counts_of}
use Rattle.reader_basic.proofs.Answers.{made, refused_at}
use Rattle.reader_basic.proofs.Leaves.{pads_at, ending_missing, ending_there}
use Rattle.reader_steps.specs.Rides.{context_of}
use Rattle.reader_steps.proofs.Deepening.{told}
use Rattle.reader_steps.proofs.ends.end_padded.Goals as goal

pub padded-padding-requires : goal.padded-padding-requires
padded-padding-requires c = (c.requires.1, c.requires.0, rw c.reached-so_far.ensures.0 c.requires.2, c.requires.3)

pub overflow_add-j : goal.overflow_add-j
overflow_add-j c = omega (arith, c.reached-so_far.ensures.0, c.requires.0, c.requires.2)

pub returns-in_err-due : goal.returns-in_err-due
returns-in_err-due c =
    let s = c.in_err-due.ensures in
    let so_far = c.reached-so_far.ensures in
    let p = pads_at (context_of c.args.ride).position c.args.place (c.args.j + (counts_of c.args.r).used) (c.args.shape % 16) c.args.part.now _ c.requires.3 (omega
    (arith, c.requires.0, c.requires.1, c.requires.2)) c.requires.2 (rw (made s.refusal c.padded-padding.result (grind arith), so_far.0) at c.padded-padding.ensures) in
    λ o end len n l l' e d. refused_at _ _ c.from_residual.ensures s (rw (so_far.0, so_far.1) (ending_missing _ _ _ _ end len n _ l l' o (counts_of c.args.r) _ c.requires.2 e p d (number_not_0 _)))

pub behind-requires : goal.behind-requires
behind-requires c =
    let p = pads_at (context_of c.args.ride).position c.args.place (c.args.j + (counts_of c.args.r).used) (c.args.shape % 16) c.args.part.now _ c.requires.3 (omega
    (arith, c.requires.0, c.requires.1, c.requires.2)) c.requires.2 (rw (made c.in_ok-due.ensures c.padded-padding.result (grind arith), c.reached-so_far.ensures.0) at c.padded-padding.ensures) in
    omega (arith, p.fits, c.requires.0, c.requires.2)

pub returns : goal.returns
returns c =
    let p = pads_at (context_of c.args.ride).position c.args.place (c.args.j + (counts_of c.args.r).used) (c.args.shape % 16) c.args.part.now _ c.requires.3 (omega
    (arith, c.requires.0, c.requires.1, c.requires.2)) c.requires.2 (rw (made c.in_ok-due.ensures c.padded-padding.result (grind arith), c.reached-so_far.ensures.0) at c.padded-padding.ensures) in
    λ o end len n l l' e d. told c.behind.ensures (ending_there _ _ _ _ end len n _ l l' o (counts_of c.args.r) _ c.requires.2 e p d refl)
