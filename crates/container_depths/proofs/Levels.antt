-- How many containers may still be opened: the number that falls as containers nest. Assumes nothing.
use mathlib.Core.Path.{◌≡◌, sym, ap, ◌∙◌}
use mathlib.Core.Bool.{true}
use mathlib.Core.List.{List}
use Prim.Native.Nat.{ℕ, ◌+◌, ◌<◌}
use native.Mathlib.Omega.{arith}
use lib.Dec.{eqb}
use borrow.Author.Tests.{eq-eqb}
use borrow.Fn.Kind.{ParamKind}
use borrow.Fn.Kinds.{In}
use borrow.Fn.PlainCycle.{Measures, and, falls, is}
use Rattle.meaning.specs.Depths.{Opened, total, depth_refusal, opened}
use Rattle.meaning.proofs.Bounds.{total_most, total_opened}
use Rattle.container_depths.specs.Opening.{depths_of, Raised, Raises, level}
use Rattle.container_depths.specs.declared.ContainerDepths.{ContainerDepths}

-- of a function in a cycle of calls: what it is given at a measure, and what a call of it asks below one
abbrev pub given : (n : ℕ) (ps : List (ParamKind n)) → Measures n ps ℕ → In n ps → ℕ → In n ps
given n ps μ P t = and n ps (is n ps μ t) P

abbrev pub asked : (n : ℕ) (ps : List (ParamKind n)) → Measures n ps ℕ → In n ps → ℕ → In n ps
asked n ps μ P t = and n ps (falls n ps ◌<◌ μ t) P

-- of a container that may be opened
module _ (x : Opened) (d : ContainerDepths) (r : Raised) (h : Raises (depths_of d) (opened x (depths_of d)) r) (z : r.refusal ≡ 0) where
  pub raised_to : depths_of r.depths ≡ opened x (depths_of d)
  raised_to =
      let e : eqb (depth_refusal (opened x (depths_of d))) 0 ≡ true = eq-eqb _ 0 (sym h.refusal ∙ z) in
      h.depths ∙ rw e

  pub raised_shallow : depth_refusal (depths_of r.depths) ≡ 0
  raised_shallow = rw raised_to (sym h.refusal ∙ z)

  pub level_falls : level r.depths + 1 ≡ level d
  level_falls = omega (arith, ap total raised_to, total_opened x (depths_of d), total_most (depths_of r.depths) raised_shallow)
