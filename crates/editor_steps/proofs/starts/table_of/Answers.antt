-- `table_of` meets its contract. Assumes nothing.
use mathlib.Core.Path.{ap, ◌∙◌}
use native.Mathlib.Omega.{arith}
use Prim.Native.Nat.{ℕ, ◌*◌}
use Rattle.editor_steps.proofs.starts.table_of.Goals as goal

pub overflow_mul-result : goal.overflow_mul-result
overflow_mul-result c =
    omega (arith, c.requires, ap (λ (i : ℕ). c.args.count * i) (c.width-width.ensures ∙ c.for_encoded_container-size.ensures))

pub overflow_sub-result : goal.overflow_sub-result
overflow_sub-result c =
    omega (arith, c.requires, ap (λ (i : ℕ). c.args.count * i) (c.width-width.ensures ∙ c.for_encoded_container-size.ensures))

pub returns : goal.returns
returns c =
    rw (c.width-width.ensures ∙ c.for_encoded_container-size.ensures)
