-- A law for each way out of a value, a child and a maybe, and what callees ask. Assumes nothing.
use mathlib.Core.Path.{◌≡◌, refl, sym, ap, ◌∙◌}
use mathlib.Core.List.{List}
use mathlib.Core.Bool.{Bool, true, false, false≢true}
use Prim.Native.Nat.{ℕ, ◌+◌, ◌-◌}
use native.Mathlib.Omega.{arith}
use lib.ListN.{length, take, drop, get_or, length-take, length-drop}
use borrow.Author.Tests.{eq-eqb, ne_eqb}
use Rattle.meaning.specs.Depths as Depth
use Rattle.meaning.specs.Depths.{Depths, Opened, depth_refusal, opened}
use Rattle.meaning.specs.Types.{Basic, Tree, basic, variant, maybe, array, dictionary, structure, fixed}
use Rattle.meaning.specs.TypeText.{first_type}
use Rattle.meaning.specs.Written.{deeper}
use Rattle.meaning_writing.specs.Shapes.{part}
use Rattle.meaning_writing.specs.Strict.{Test, child_written, present_written, maybe_written, maybe_test, test_of}
use Rattle.meaning_writing.proofs.StrictSteps.{test_basic, test_maybe}
use Rattle.container_depths.specs.Opening.{depths_of, Raised, raised_in, Raises}
use Rattle.container_depths.specs.declared.ContainerDepths.{ContainerDepths}
use Rattle.std.specs.Prelude.{Result, Ok, Err, is_ok, eqb}
use Rattle.meaning.specs.declared.refusals.Refusal.{Refusal}
use Rattle.meaning.specs.Refused.{number_of}
use Rattle.meaning.proofs.RefusalLaws.{number_not_0}
use Rattle.signature.specs.Places.{basic_kind, letter_at}
use Rattle.signature.specs.Shapes.{shape_in}
use Rattle.signature.specs.Trees.{tree_at, behind_by, Typed}
use Rattle.signature.specs.declared.Letter.{Letter}
use Rattle.signature.specs.declared.Letter.TheVariants.{Variant, Maybe, Array, OpenStructure}
use Rattle.signature.specs.declared.shapes.Shape.{Shape}
use Rattle.signature.proofs.Dispatch.{Shown, shown, is_variant}
use Rattle.signature.proofs.TreeLaws.{described_as, described_fixed, maybe_tree, maybe_described}
use Rattle.meaning.proofs.Lists.{within_default}
use Rattle.container_depths.proofs.Levels.{raised_to, raised_shallow}
use Rattle.strict_basic.specs.Basics.{letter_written, is_basic}
use Rattle.strict_ends.specs.Ends.{Begins, NoStart}
use Rattle.strict_sizes.specs.Items.{Placed, tree_test, Known}
use Rattle.strict_ends.specs.declared.Extent.{Extent}
use Rattle.strict_basic.proofs.BasicLaws.{letter_test_lem, letter_accepts}
use Rattle.strict_cycle.specs.Walks.{Inside, variant_accepts}

-- ---- one container deeper

-- a raise that is done has no number
pub raised_ok : (d : ContainerDepths) (r : Result ContainerDepths Refusal) → is_ok r ≡ eqb (raised_in d r).refusal 0
raised_ok d (Ok a) = refl
raised_ok d (Err e) = sym (ne_eqb (number_of e) 0 (number_not_0 e))

module _ (x : Opened) (d : ContainerDepths) (r : Raised) (u : Raises (depths_of d) (opened x (depths_of d)) r) (f : Depths → Bool) where
  pub deeper_not : (r.refusal ≡ 0 → ⊥) → deeper (opened x (depths_of d)) f ≡ false
  deeper_not z = rw (ne_eqb (depth_refusal (opened x (depths_of d))) 0 (λ q. z (u.refusal ∙ q)))

  pub deeper_on : r.refusal ≡ 0 → deeper (opened x (depths_of d)) f ≡ f (depths_of r.depths)
  deeper_on z = rw (eq-eqb (depth_refusal (opened x (depths_of d))) 0 (sym u.refusal ∙ z), raised_to x d r u z)

pub inside_deeper : {len : ℕ} (x : Opened) (d : ContainerDepths) (r : Raised) → Inside len d → Raises (depths_of d) (opened x (depths_of d)) r → r.refusal ≡ 0 → Inside len r.depths
inside_deeper x d r w h z = record { in_frame = w.in_frame; shallow = raised_shallow x d r h z }

pub inside_take : {d : ContainerDepths} (n : ℕ) (l : List ℕ) → Inside (length l) d → Inside (length (take n l)) d
inside_take n l w = let q = w.in_frame in record { in_frame = simp length-take (omega arith); shallow = w.shallow }

pub inside_cut : {d : ContainerDepths} (i e : ℕ) (l : List ℕ) → Inside (length l) d → Inside (length (take (e - i) (drop i l))) d
inside_cut i e l w = let q = w.in_frame in record { in_frame = simp (length-take, length-drop) (omega arith); shallow = w.shallow }

-- ---- a value

basic_accepts : (b : Basic) (nested : ℕ) (k : Letter) (d : Depths) (l : List ℕ) → k ≡ basic_kind b → letter_written k l ≡ (test_of (65 - nested) (basic b)).accepts d l
basic_accepts b nested k d l e =
    ap (λ (x : Letter). letter_written x l) e ∙ letter_accepts (basic_kind b) d l ∙ ap (λ (x : Test). x.accepts d l) (letter_test_lem b ∙ sym (test_basic (65 - nested) b))

pub basic_by : (signature : List ℕ) (at : ℕ) (k : Letter) (nested : ℕ) (d : Depths) (l : List ℕ) (r : Bool) → Typed signature at → k ≡ letter_at signature at
    → (k ≡ Maybe → ⊥) → (k ≡ Array → ⊥) → (k ≡ OpenStructure → ⊥) → (k ≡ Variant → ⊥) → r ≡ letter_written k l → r ≡ (tree_test nested signature at).accepts d l
basic_by signature at k nested d l r t e no_maybe no_array no_open no_variant g = g ∙ go (tree_at signature at) (shown signature at _ _ t.found)
  where
    go : (s : Tree) → Shown signature at s (behind_by (first_type (drop at signature))) → letter_written k l ≡ (test_of (65 - nested) s).accepts d l
    go (basic b) w = basic_accepts b nested k d l (e ∙ w.letter)
    go variant w = absurd (no_variant (e ∙ w.letter))
    go (maybe s) w = absurd (no_maybe (e ∙ w.letter))
    go (array s) w = absurd (no_array (e ∙ w.letter))
    go (dictionary b s) w = absurd (no_array (e ∙ w.letter))
    go (structure ts) w = absurd (no_open (e ∙ w.letter))

-- a letter that the code found to be basic
pub basic_is : (signature : List ℕ) (at : ℕ) (k : Letter) (nested : ℕ) (d : Depths) (l : List ℕ) (r : Bool) → Typed signature at → k ≡ letter_at signature at → is_basic k ≡ true
    → r ≡ letter_written k l → r ≡ (tree_test nested signature at).accepts d l
basic_is signature at k nested d l r t e h g = g ∙ go (tree_at signature at) (shown signature at _ _ t.found)
  where
    no : {A : Type 0} (x : Letter) → letter_at signature at ≡ x → is_basic x ≡ false → A
    no x q f = absurd (false≢true (sym f ∙ ap is_basic (sym (e ∙ q)) ∙ h))

    go : (s : Tree) → Shown signature at s (behind_by (first_type (drop at signature))) → letter_written k l ≡ (test_of (65 - nested) s).accepts d l
    go (basic b) w = basic_accepts b nested k d l (e ∙ w.letter)
    go variant w = no Variant w.letter refl
    go (maybe s) w = no Maybe w.letter refl
    go (array s) w = no Array w.letter refl
    go (dictionary b s) w = no Array w.letter refl
    go (structure ts) w = no OpenStructure w.letter refl

pub value_variant : (signature : List ℕ) (at : ℕ) (d : ContainerDepths) (l : List ℕ) (r : Bool) → Typed signature at → letter_at signature at ≡ Variant → r ≡ variant_accepts d l
    → r ≡ (tree_test d.variant signature at).accepts (depths_of d) l
value_variant signature at d l r t e g = g ∙ ap (λ (s : Tree). (test_of (65 - d.variant) s).accepts (depths_of d) l) (sym (is_variant signature at _ _ t.found e).0)

-- ---- a child, whatever its test

module _ (t : Test) (d : Depths) (l : List ℕ) (s k e a : ℕ) (h : t.shape.alignment ≡ a) where
  pub child_not : NoStart l s k e a → child_written t d l s k e ≡ false
  child_not w = w.is t d h

  pub child_on : (at : ℕ) → Begins l s k e a at → (b : Bool) → b ≡ t.accepts d (take (e - at) (drop at l)) → child_written t d l s k e ≡ b
  unfolding part
  child_on at w b g = w.is t d h ∙ sym g

pub known_as : {x y : Extent} {test : ℕ → Test} → x ≡ y → Known y test → Known x test
known_as e g = rw e g

-- ---- a maybe

module _ {text tables : List ℕ} {s : Shape} (p : Placed text tables s) (e : letter_at text s.at ≡ Maybe) where
  pub held_placed : (c : Shape) → c ≡ shape_in text tables (s.at + 1) → Placed text tables c
  held_placed c q = record { shape = described_as q (maybe_described text s.at p.shape.typed e tables p.table.shapes); table = p.table }

  module _ (d : ContainerDepths) (l : List ℕ) where
    abbrev of : ℕ → Test
    of nested = tree_test nested text (s.at + 1)

    maybe_accepts : (tree_test d.variant text s.at).accepts (depths_of d) l ≡ maybe_written (fixed (tree_at text (s.at + 1))) (of d.variant) (depths_of d) l
    unfolding maybe_test
    maybe_accepts = ap (λ (x : Test). x.accepts (depths_of d) l) (ap (test_of (65 - d.variant)) (maybe_tree text s.at p.shape.typed e) ∙ test_maybe (65 - d.variant) (tree_at text (s.at + 1)))

    pub maybe_none : length l ≡ 0 → true ≡ (tree_test d.variant text s.at).accepts (depths_of d) l
    unfolding maybe_written
    maybe_none h = sym (maybe_accepts ∙ rw (eq-eqb (length l) 0 h))

    module _ (h : length l ≡ 0 → ⊥) (r : Raised) (u : Raises (depths_of d) (opened Depth.maybe (depths_of d)) r) where
      pub maybe_deep : (r.refusal ≡ 0 → ⊥) → false ≡ (tree_test d.variant text s.at).accepts (depths_of d) l
      unfolding maybe_written
      maybe_deep z = sym (maybe_accepts ∙ rw (ne_eqb (length l) 0 h) (deeper_not Depth.maybe d r u (present_written (fixed (tree_at text (s.at + 1))) (of d.variant) l) z))

      module _ (z : r.refusal ≡ 0) (c : Shape) (q : c ≡ shape_in text tables (s.at + 1)) where
        abbrev test : Test
        test = tree_test r.depths.variant text c.at

        maybe_in_lem : (tree_test d.variant text s.at).accepts (depths_of d) l ≡ present_written c.fixed test l (depths_of r.depths)
        unfolding maybe_written
        maybe_in_lem =
            let v : r.depths.variant ≡ d.variant = ap (λ (x : Depths). x.variant) (raised_to Depth.maybe d r u z) in
            let a : c.at ≡ s.at + 1 = ap (λ (x : Shape). x.at) q in
            let w : maybe_written (fixed (tree_at text (s.at + 1))) (of d.variant) (depths_of d) l ≡ present_written (fixed (tree_at text (s.at + 1))) (of d.variant) l (depths_of r.depths) =
            rw (ne_eqb (length l) 0 h) (deeper_on Depth.maybe d r u (present_written (fixed (tree_at text (s.at + 1))) (of d.variant) l) z) in
            maybe_accepts ∙ w ∙ ap (λ (i : ℕ). present_written (fixed (tree_at text i)) (tree_test d.variant text i) l (depths_of r.depths)) (sym a)
            ∙ ap (λ (b : Bool). present_written b (tree_test d.variant text c.at) l (depths_of r.depths)) (sym (described_fixed (held_placed c q).shape))
            ∙ ap (λ (n : ℕ). present_written c.fixed (tree_test n text c.at) l (depths_of r.depths)) (sym v)

        pub maybe_fixed : (b : Bool) → c.fixed ≡ true → b ≡ test.accepts (depths_of r.depths) l → b ≡ (tree_test d.variant text s.at).accepts (depths_of d) l
        unfolding present_written
        maybe_fixed b f g = g ∙ sym (maybe_in_lem ∙ ap (λ (x : Bool). present_written x test l (depths_of r.depths)) f)

        pub maybe_open : c.fixed ≡ false → (get_or l (length l - 1) 0 ≡ 0 → ⊥) → false ≡ (tree_test d.variant text s.at).accepts (depths_of d) l
        unfolding present_written
        maybe_open f g = sym (maybe_in_lem ∙ ap (λ (x : Bool). present_written x test l (depths_of r.depths)) f ∙ rw (ne_eqb (get_or l (length l - 1) 1) 0 (λ y. g (sym (within_default l (length l - 1) (omega arith)) ∙ y))))

        pub maybe_other : (b : Bool) → c.fixed ≡ false → get_or l (length l - 1) 0 ≡ 0 → b ≡ test.accepts (depths_of r.depths) (take (length l - 1) l) → b ≡ (tree_test d.variant text s.at).accepts (depths_of d) l
        unfolding present_written
        maybe_other b f g k = k ∙ sym (maybe_in_lem ∙ ap (λ (x : Bool). present_written x test l (depths_of r.depths)) f ∙ rw (eq-eqb (get_or l (length l - 1) 1) 0 (within_default l (length l - 1) (omega arith) ∙ g)))
