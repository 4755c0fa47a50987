-- `reader_steps::ends::padded` meets its contract. Assumes nothing.
use Rattle.std.proofs.Common.{refl, arith}
use Rattle.reader_steps.proofs.Paddings.{aligns_some, none_there, too_short, zeros_there, other_there}
use Rattle.reader_steps.proofs.ends.padded.Goals as goal

pub overflow_sub-due : goal.overflow_sub-due
overflow_sub-due c =
    omega (arith, aligns_some c.requires.3, c.alignment_of-alignment.ensures)

pub returns-then-due-eq0 : goal.returns-then-due-eq0
returns-then-due-eq0 c =
    none_there c.args.part.now c.args.j c.args.place c.args.ride c.requires.3 c.alignment_of-alignment.ensures _ c.wrapping_neg.result
    c.requires.0 c.requires.1 c.requires.2 refl c.wrapping_neg.ensures c.if-due-eq0.true

pub returns-then-part-j : goal.returns-then-part-j
returns-then-part-j c =
    too_short c.args.part.now c.args.j c.args.place c.args.ride c.requires.3 c.alignment_of-alignment.ensures _ c.wrapping_neg.result
    c.requires.0 c.requires.1 c.requires.2 refl c.wrapping_neg.ensures c.if-due-eq0.false c.if-part-j.true

pub returns-then-not-zeros : goal.returns-then-not-zeros
returns-then-not-zeros c =
    other_there c.args.part.now c.args.j c.args.place c.args.ride c.requires.3 c.alignment_of-alignment.ensures _ c.wrapping_neg.result
    c.requires.0 c.requires.1 c.requires.2 refl c.wrapping_neg.ensures
    c.if-due-eq0.false c.if-part-j.false c.zeros.ensures c.if-not-zeros.true

pub returns : goal.returns
returns c =
    zeros_there c.args.part.now c.args.j c.args.place c.args.ride c.requires.3 c.alignment_of-alignment.ensures _ c.wrapping_neg.result
    c.requires.0 c.requires.1 c.requires.2 refl c.wrapping_neg.ensures
    c.if-due-eq0.false c.if-part-j.false c.zeros.ensures c.if-not-zeros.false
