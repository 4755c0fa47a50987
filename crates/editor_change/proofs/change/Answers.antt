-- `change` meets its contract. Assumes nothing.
use mathlib.Core.Path.{refl}
use native.Mathlib.Omega.{arith}
use Rattle.std.proofs.lemmas.Result.{err_from_is_err_and}
use Rattle.meaning.proofs.RefusalLaws.{number_not_0}
use Rattle.editor_change.proofs.Tails.{used_short}
use Rattle.editor_change.proofs.Changes.{change_refused, change_allowed}
use Rattle.editor_change.proofs.change.Goals as goal

pub returns-in_err-check_length : goal.returns-in_err-check_length
returns-in_err-check_length c =
    let p = err_from_is_err_and c.from_residual.result c.from_residual.ensures.1 in
    rw (p.1, p.2) (change_refused c.requires (λ j. omega (arith, c.slice_known-1.given j)) _ c.in_err-check_length.ensures (number_not_0 _))

pub store-requires : goal.store-requires
store-requires c =
    (c.if-used-le-SMALLEST.true, change_allowed c.requires (λ j. omega (arith, c.slice_known-1.given j)) _ c.in_ok-check_length.ensures refl)

pub change_within-requires-2 : goal.change_within-requires-2
change_within-requires-2 c = (
  used_short _ _ c.requires.held.roomy c.requires.held.frame.short,
  omega arith,
  change_allowed c.requires (λ j. omega (arith, c.slice_known-1.given j)) _ c.in_ok-check_length.ensures refl,
)
