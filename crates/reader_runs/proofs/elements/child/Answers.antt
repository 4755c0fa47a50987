-- `reader_runs::elements::child` meets its contract. Assumes nothing.
use Rattle.reader_basic.proofs.Leaves.{child_before, child_there}
use lib.ListN.{length-take, length-drop}
use native.Mathlib.Omega.{arith}
use mathlib.Core.Path.{◌≡◌, sym, subst}
use Prim.Native.Nat.{ℕ, ◌+◌, ◌-◌}
use lib.ListN.{length, take, drop}
use Rattle.reader_runs.proofs.elements.child.Goals as goal

pub returns-then-e-j : goal.returns-then-e-j
returns-then-e-j g c =
    rw c.refused.ensures (child_before _ _ _ _ _ _ _ _ _ c.if-e-j.true)

pub read-requires : goal.read-requires
read-requires g c =
    let x : length (take (c.args.e - c.args.j) (drop c.args.j c.args.part.now)) ≡ c.args.e - c.args.j = simp (length-take, length-drop) (omega (arith, c.requires.1)) in
    subst (λ (k : ℕ). g.E.Element.stands c.args.element k (c.args.place + c.args.j)) (sym x) (c.requires.2 c.if-e-j.false)

pub returns : goal.returns
returns g c =
    child_there _ _ _ _ _ _ _ _ _ c.if-e-j.false c.requires.1 c.read.ensures
