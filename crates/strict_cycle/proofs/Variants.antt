-- A law for each way out of the walk over variants. Assumes nothing.
use mathlib.Core.Path.{◌≡◌, refl, sym, ap, ◌∙◌}
use mathlib.Core.List.{List}
use mathlib.Core.Option.{Option, none, some}
use mathlib.Core.Bool.{Bool, false}
use Prim.Native.Nat.{ℕ, suc, ◌-◌}
use native.Mathlib.Omega.{arith}
use lib.Dec.{eqb}
use lib.ListN.{length, take, drop}
use borrow.Author.Tests.{eq-eqb, ne_eqb}
use Rattle.meaning.specs.Choice.{pick}
use Rattle.meaning.specs.Depths as Depth
use Rattle.meaning.specs.Depths.{Depths, opened}
use Rattle.meaning.specs.Types.{Tree, basic, variant}
use Rattle.meaning.specs.TypeText.{type_of}
use Rattle.meaning.specs.Reading.{separator}
use Rattle.meaning_writing.specs.Strict.{Test, typed_written, variant_written, variant_test, test_of}
use Rattle.meaning_writing.proofs.StrictSteps.{test_basic, test_variant}
use Rattle.meaning.proofs.Bounds.{total_most}
use Rattle.container_depths.specs.Opening.{depths_of, Raised, Raises}
use Rattle.container_depths.specs.declared.ContainerDepths.{ContainerDepths}
use Rattle.signature.specs.Places.{is_type}
use Rattle.signature.specs.Trees.{tree_at}
use Rattle.signature.specs.declared.Letter.{Letter}
use Rattle.signature.proofs.Answers.{judged_none}
use Rattle.signature.proofs.TreeLaws.{Front}
use Rattle.container_depths.proofs.Levels.{raised_to}
use Rattle.strict_basic.specs.Basics.{letter_written, letter_test, LoneType}
use Rattle.strict_sizes.specs.Items.{tree_test}
use Rattle.strict_basic.proofs.BasicLaws.{letter_test_lem, letter_accepts}
use Rattle.strict_cycle.specs.Walks.{Inside, variant_accepts}
use Rattle.strict_cycle.proofs.Values.{deeper_not, deeper_on}

-- a text that is one type, by its table
module _ (d : ContainerDepths) (l : List ℕ) (w : Inside (length l) d) (s : ℕ) (hs : s ≡ separator l) where
  abbrev inner : Tree → Test
  inner u = test_of (64 - d.variant) u

  variant_accepts_lem : variant_accepts d l ≡ pick (eqb s 0) false (typed_written inner (depths_of d) l s (type_of (drop s l)))
  unfolding variant_test variant_written
  variant_accepts_lem =
      let v = total_most (depths_of d) w.shallow in
      let n : 65 - d.variant ≡ suc (64 - d.variant) = omega arith in
      ap (λ (x : Test). x.accepts (depths_of d) l) (ap (λ (m : ℕ). test_of m variant) n ∙ test_variant (64 - d.variant)) ∙ rw (← hs)

  pub variant_none : s ≡ 0 → false ≡ variant_accepts d l
  variant_none z = sym (variant_accepts_lem ∙ rw (eq-eqb s 0 z))

  module _ (z : s ≡ 0 → ⊥) (r : Raised) (u : Raises (depths_of d) (opened Depth.variant (depths_of d)) r) where
    pub variant_deep : (r.refusal ≡ 0 → ⊥) → false ≡ variant_accepts d l
    unfolding typed_written
    variant_deep y = sym (variant_accepts_lem ∙ rw (ne_eqb s 0 z) (go (type_of (drop s l))))
      where
        go : (o : Option Tree) → typed_written inner (depths_of d) l s o ≡ false
        go none = refl
        go (some t) = deeper_not Depth.variant d r u (λ f. (inner t).accepts f (take (s - 1) l)) y

    module _ (y : r.refusal ≡ 0) (sig : List ℕ) (q : sig ≡ drop s l) (end : ℕ) (he : end ≡ s - 1) where
      variant_typed_lem : (t : Tree) → type_of sig ≡ some t → variant_accepts d l ≡ (test_of (65 - r.depths.variant) t).accepts (depths_of r.depths) (take end l)
      unfolding typed_written
      variant_typed_lem t e =
          let n : 64 - d.variant ≡ 65 - r.depths.variant = omega (arith, ap (λ (x : Depths). x.variant) (raised_to Depth.variant d r u y)) in
          variant_accepts_lem ∙ rw (ne_eqb s 0 z, ← q, e) (deeper_on Depth.variant d r u (λ f. (inner t).accepts f (take (s - 1) l)) y)
          ∙ ap (λ (m : ℕ). (test_of m t).accepts (depths_of r.depths) (take (s - 1) l)) n ∙ ap (λ (m : ℕ). (test_of (65 - r.depths.variant) t).accepts (depths_of r.depths) (take m l)) (sym he)

      pub variant_lone : (k : Letter) → LoneType sig k → (b : Bool) → b ≡ letter_written k (take end l) → b ≡ variant_accepts d l
      variant_lone k j b g =
          g ∙ letter_accepts k (depths_of r.depths) (take end l)
          ∙ ap (λ (x : Test). x.accepts (depths_of r.depths) (take end l)) (ap letter_test j.same ∙ letter_test_lem j.it ∙ sym (test_basic (65 - r.depths.variant) j.it))
          ∙ sym (variant_typed_lem (basic j.it) j.type)

      pub variant_nested : type_of sig ≡ some variant → (b : Bool) → b ≡ variant_accepts r.depths (take end l) → b ≡ variant_accepts d l
      variant_nested t b g = g ∙ sym (variant_typed_lem variant t)

      pub variant_untyped : is_type sig ≡ false → false ≡ variant_accepts d l
      unfolding typed_written
      variant_untyped h = sym (variant_accepts_lem ∙ rw (ne_eqb s 0 z, ← q, judged_none sig h))

      pub variant_on : Front sig → (x : ℕ) → x ≡ 0 → (b : Bool) → b ≡ (tree_test r.depths.variant sig x).accepts (depths_of r.depths) (take end l) → b ≡ variant_accepts d l
      variant_on f x ex b g = g ∙ ap (λ (i : ℕ). (tree_test r.depths.variant sig i).accepts (depths_of r.depths) (take end l)) ex ∙ sym (variant_typed_lem (tree_at sig 0) f.type)
