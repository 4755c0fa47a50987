-- The needs of `container`, and what answers each.
use mathlib.Core.Path.{refl}
use Rattle.meaning.proofs.RefusalLaws.{number_not_0}
use Rattle.reader_basic.proofs.Answers.{refused_at}
use Rattle.reader_steps.proofs.Characters.{typed_within}
use Rattle.reader_steps.proofs.Deepening.{told}
use Rattle.reader_steps.proofs.Readers.{container_on, container_stop, lead_fits}
use Rattle.signature.proofs.TreeLaws.{described_aligned}
use mathlib.Core.Bool.{false}
use mathlib.Core.List.{[]}
use native.Mathlib.Omega.{arith}
use Rattle.reader_cycle.proofs.+reading.Goals as goal

pub offset_bounds-shapes-at : goal.container-offset_bounds-shapes-at
offset_bounds-shapes-at t c =
    omega (arith, typed_within c.requires.0.typed, c.requires.0.typed.short)

pub bounds-shapes-at : goal.container-bounds-shapes-at
bounds-shapes-at t c =
    omega (arith, typed_within c.requires.0.typed, c.requires.0.typed.short)

pub padded-requires : goal.container-padded-requires
padded-requires t c =
    (c.requires.1.near, c.requires.1.in_frame, omega arith, described_aligned c.requires.0)

pub returns-in_err-lead : goal.container-returns-in_err-lead
returns-in_err-lead t c =
    let s = c.in_err-lead.ensures in
    refused_at _ _ c.from_residual.ensures s (container_stop _ _ _ _ _ _ _ _ _ _ _ c.requires.0 c.requires.1 c.requires.2 (rw s.refusal at c.padded.ensures) (number_not_0 _))

pub body-r-requires : goal.container-body-r-requires
body-r-requires t c =
    (omega (arith, c.decreases), (c.requires.0, c.requires.1, c.requires.2, lead_fits _ _ _ _ _ _ false _ 0 [] _ c.requires.0 c.requires.1 c.requires.2 (rw c.in_ok-lead.ensures at c.padded.ensures)))

pub behind-requires : goal.container-behind-requires
behind-requires t c =
    omega (arith, lead_fits _ _ _ _ _ _ false _ 0 [] _ c.requires.0 c.requires.1 c.requires.2 (rw c.in_ok-lead.ensures at c.padded.ensures), c.body-r.ensures.fits, c.requires.1.in_frame)

pub returns : goal.container-returns
returns t c =
    told c.behind.ensures (container_on _ _ _ _ _ _ _ _ _ _ _ c.requires.0 c.requires.1 c.requires.2 (rw c.in_ok-lead.ensures at c.padded.ensures) _ _ refl c.body-r.ensures)
