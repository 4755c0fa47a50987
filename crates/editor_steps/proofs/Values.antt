-- A law for each way out of a value and a maybe, and what their callees ask. Assumes nothing.
use types.Run.{OneOf, miss}
use denote.Enum.Declared.{tag_of}
use mathlib.Core.Path.{◌≡◌, refl, sym, ap, ◌∙◌, subst}
use mathlib.Core.List.{List, [], ◌∷◌, ◌++◌}
use mathlib.Core.Option.{Option, none, some}
use mathlib.Core.Bool.{Bool, true, false, false≢true}
use Prim.Native.Nat.{ℕ, ◌+◌, ◌-◌, ◌≤◌}
use native.Mathlib.Omega.{arith}
use lib.Dec.{eqb}
use lib.ListN.{length, take, drop, get_or, length-take}
use borrow.Author.Tests.{eq-eqb, ne_eqb, eqb-true}
use Rattle.meaning.specs.Choice.{pick}
use Rattle.meaning.specs.Padding.{zeros}
use Rattle.meaning.specs.Depths as Depth
use Rattle.meaning.specs.Depths.{Depths, Opened, depth_refusal, opened}
use Rattle.meaning.specs.Types.{bool, number, text, Tree, Fields, basic, variant, maybe, array, dictionary, structure, alignment, fixed, all_fixed, largest_alignment}
use Rattle.meaning.specs.TypeText.{first_type}
use Rattle.meaning.specs.Written.{deeper}
use Rattle.meaning.proofs.Tests.{both_true}
use Rattle.meaning_writing.specs.Strict.{Test, present_written, maybe_written, maybe_test, test_of}
use Rattle.meaning_writing.specs.Readings.{MaybeNumber, Slot, of_bool, of_number, slot_of, slot_type}
use Rattle.meaning_writing.specs.Edited.{Editor, child_bytes, round_child, count_maybe, maybe_editor, structure_editor, editor_of, editors_of}
use Rattle.meaning_writing.proofs.StrictSteps.{test_maybe}
use Rattle.meaning_writing.proofs.EditedSteps.{editor_basic, editor_maybe, editor_structure}
use Rattle.container_depths.specs.Opening.{depths_of, Raises, level}
use Rattle.container_depths.specs.declared.ContainerDepths.{ContainerDepths}
use Rattle.container_depths.specs.Opening.{Raised}
use Rattle.container_depths.proofs.Levels.{raised_to, raised_shallow, level_falls}
use Rattle.signature.specs.Places.{basic_kind, letter_at}
use Rattle.signature.specs.Shapes.{shape_in}
use Rattle.signature.specs.Trees.{tree_at, behind_by, Typed}
use Rattle.signature.specs.declared.Letter.{Letter}
use Rattle.signature.specs.declared.Letter.TheVariants.{Variant, Maybe, Array, OpenStructure}
use Rattle.signature.specs.declared.shapes.Shape.{Shape}
use Rattle.signature.specs.contracts.Letter.{the_type}
use Rattle.signature.proofs.Dispatch.{Shown, shown, is_variant}
use Rattle.signature.proofs.TreeLaws.{described_as, described_kind, described_fixed, maybe_tree, maybe_described}
use Rattle.strict_basic.specs.Basics.{letter_extent}
use Rattle.strict_ends.specs.Ends.{Laid}
use Rattle.strict_sizes.specs.Items.{Placed, tree_test}
use Rattle.strict_basic.proofs.BasicLaws.{letter_laid}
use Rattle.editor_steps.specs.declared.answers.Aim.{Aim}
use Rattle.editor_steps.specs.Walked.{Walked}
use Rattle.editor_steps.specs.Walks.{new_of, tree_editor, Walks, most, Ready, variant_test, variant_editor}
use Rattle.editor_steps.specs.Slots.{is_slot, Reads}
use Rattle.editor_steps.specs.Closing.{edits, Fits, Closes}
use Rattle.editor_steps.proofs.WalkLaws.{fits_here, through_closed}

-- ---- one container deeper, where the strict test went so deep

pub deeper_true : (e : Depths) (f : Depths → Bool) → deeper e f ≡ true → (depth_refusal e ≡ 0) × (f e ≡ true)
deeper_true e f h = let g = both_true (eqb (depth_refusal e) 0) (f e) h in (eqb-true (depth_refusal e) 0 g.0, g.1)

pub record Deeper (x : Opened) (d : ContainerDepths) (r : Raised) : Type 0 where
  pub to : depths_of r.depths ≡ opened x (depths_of d)
  pub shallow : depth_refusal (depths_of r.depths) ≡ 0
  pub falls : level r.depths + 1 ≡ level d

pub deepens : (x : Opened) (d : ContainerDepths) (r : Raised) → Raises (depths_of d) (opened x (depths_of d)) r → depth_refusal (opened x (depths_of d)) ≡ 0 → Deeper x d r
deepens x d r u h =
    let z : r.refusal ≡ 0 = u.refusal ∙ h in
    record { to = raised_to x d r u z; shallow = raised_shallow x d r u z; falls = level_falls x d r u z }

pub most_small : (d : ContainerDepths) → most d ≤ 247000000
most_small d = omega arith

pub ready_as : {t u : Test} {d : ContainerDepths} {p : ℕ} {l : List ℕ} → t ≡ u → Ready t d p l → Ready u d p l
ready_as {t} {u} {d} {p} {l} q r = subst (λ (z : Test). Ready z d p l) q r

-- ---- types without readings

pub fixed_none : (big : Bool) (n : ℕ) (t : Tree) (l : List ℕ) → fixed t ≡ true → (editor_of big n t).count l ≡ 0
unfolding fixed
fixed_none big n (basic b) l h = ap (λ (e : Editor). e.count l) (editor_basic big n b)
fixed_none big n variant l h = absurd (false≢true h)
fixed_none big n (maybe t) l h = absurd (false≢true h)
fixed_none big n (array t) l h = absurd (false≢true h)
fixed_none big n (dictionary b t) l h = absurd (false≢true h)
fixed_none big n (structure ts) l h =
    ap (λ (e : Editor). e.count l) (editor_structure big n ts) ∙ ap (λ (b : Bool). (structure_editor (λ d. opened Depth.structure d) (largest_alignment ts) b (editors_of big n ts)).count l) (all ts h)
    ∙ (unfold structure_editor in refl)
  where
    all : (ts : Fields) → fixed (structure ts) ≡ true → all_fixed ts ≡ true
    all ts h = h

-- the letters of no maybe, array, structure or variant
abbrev unnested : List ℕ
unnested = 0 ∷ 1 ∷ 2 ∷ 3 ∷ 4 ∷ 9 ∷ 10 ∷ 11 ∷ []

pub basic_none : (signature : List ℕ) (at : ℕ) (k : Letter) (big : Bool) (n : ℕ) (l : List ℕ) → Typed signature at → k ≡ letter_at signature at → OneOf unnested (tag_of the_type k)
    → 0 ≡ (editor_of big n (tree_at signature at)).count l
basic_none signature at k big n l t e h = go (tree_at signature at) (shown signature at _ _ t.found)
  where
    tags : (x : Letter) → letter_at signature at ≡ x → OneOf unnested (tag_of the_type x)
    tags x q = subst (λ (x : Letter). OneOf unnested (tag_of the_type x)) (e ∙ q) h

    go : (s : Tree) → Shown signature at s (behind_by (first_type (drop at signature))) → 0 ≡ (editor_of big n s).count l
    go (basic b) w = sym (ap (λ (e : Editor). e.count l) (editor_basic big n b))
    go variant w = absurd (miss unnested 5 tt (tags Variant w.letter))
    go (maybe s) w = absurd (miss unnested 6 tt (tags Maybe w.letter))
    go (array s) w = absurd (miss unnested 7 tt (tags Array w.letter))
    go (dictionary b s) w = absurd (miss unnested 7 tt (tags Array w.letter))
    go (structure ts) w = absurd (miss unnested 8 tt (tags OpenStructure w.letter))

-- ---- a value that is a variant

module _ (signature : List ℕ) (at : ℕ) (d : ContainerDepths) (t : Typed signature at) (e : letter_at signature at ≡ Variant) where
  pub variant_ready : {p : ℕ} {l : List ℕ} → Ready (tree_test d.variant signature at) d p l → Ready (variant_test d) d p l
  variant_ready r = ready_as (ap (test_of (65 - d.variant)) (is_variant signature at _ _ t.found e).0) r

  pub value_variant : (big : Bool) (p : ℕ) (l : List ℕ) (i : ℕ) (x : MaybeNumber) (m : ℕ) (out out' : List ℕ) (r : Walked) → Walks (variant_editor big d) (depths_of d) p l i x m out out' r
      → Walks (tree_editor big d.variant signature at) (depths_of d) p l i x m out out' r
  value_variant big p l i x m out out' r w =
      subst (λ (s : Tree). Walks (editor_of big (65 - d.variant) s) (depths_of d) p l i x m out out' r) (sym (is_variant signature at _ _ t.found e).0) w

-- ---- a maybe

-- what a reading's maybe holds, by its letter
pub record SlotAt (u : Tree) (k : Letter) : Type 0 where
  pub slot : Slot u
  pub is : slot_of u ≡ some slot
  pub kind : k ≡ basic_kind (slot_type slot)

module _ (sig : List ℕ) (at : ℕ) (k : Letter) (t : Typed sig at) (e : k ≡ letter_at sig at) where
  pub slot_there : is_slot k ≡ true → SlotAt (tree_at sig at) k
  slot_there h = go (tree_at sig at) (shown sig at _ _ t.found)
    where
      no : {A : Type 0} (x : Letter) → letter_at sig at ≡ x → is_slot x ≡ false → A
      no x q f = absurd (false≢true (sym f ∙ ap is_slot (sym (e ∙ q)) ∙ h))

      go : (s : Tree) → Shown sig at s (behind_by (first_type (drop at sig))) → SlotAt s k
      go (basic bool) w = record { slot = of_bool; is = unfold slot_of in refl; kind = e ∙ w.letter }
      go (basic (number c)) w = record { slot = of_number c; is = unfold slot_of in refl; kind = e ∙ w.letter }
      go (basic (text c)) w = no (basic_kind (text c)) w.letter refl
      go variant w = no Variant w.letter refl
      go (maybe s) w = no Maybe w.letter refl
      go (array s) w = no Array w.letter refl
      go (dictionary b s) w = no Array w.letter refl
      go (structure ts) w = no OpenStructure w.letter refl

  slot_none : is_slot k ≡ false → slot_of (tree_at sig at) ≡ none
  slot_none h = go (tree_at sig at) (shown sig at _ _ t.found)
    where
      no : {A : Type 0} (x : Letter) → letter_at sig at ≡ x → is_slot x ≡ true → A
      no x q f = absurd (false≢true (sym h ∙ ap is_slot (e ∙ q) ∙ f))

      go : (s : Tree) → Shown sig at s (behind_by (first_type (drop at sig))) → slot_of s ≡ none
      go (basic bool) w = no (basic_kind bool) w.letter refl
      go (basic (number c)) w = no (basic_kind (number c)) w.letter refl
      go (basic (text c)) w = unfold slot_of in refl
      go variant w = unfold slot_of in refl
      go (maybe s) w = unfold slot_of in refl
      go (array s) w = unfold slot_of in refl
      go (dictionary b s) w = unfold slot_of in refl
      go (structure ts) w = unfold slot_of in refl

module _ {text tables : List ℕ} {s : Shape} (p : Placed text tables s) (e : letter_at text s.at ≡ Maybe) (c : Shape) (q : c ≡ shape_in text tables (s.at + 1)) where
  pub held_placed : Placed text tables c
  held_placed = record { shape = described_as q (maybe_described text s.at p.shape.typed e tables p.table.shapes); table = p.table }

  held_at : c.at ≡ s.at + 1
  held_at = ap (λ (x : Shape). x.at) q

  abbrev inner : Tree
  inner = tree_at text c.at

  pub tree_is : tree_at text s.at ≡ maybe inner
  tree_is = maybe_tree text s.at p.shape.typed e ∙ ap (λ (i : ℕ). maybe (tree_at text i)) (sym held_at)

  module _ (big : Bool) (n : ℕ) where
    pub maybe_editor_lem : (o : Option (Slot inner)) → slot_of inner ≡ o → editor_of big n (tree_at text s.at) ≡ maybe_editor big o (alignment inner) (fixed inner) (editor_of big n inner)
    maybe_editor_lem o h = ap (editor_of big n) tree_is ∙ editor_maybe big n inner ∙ ap (λ (z : Option (Slot inner)). maybe_editor big z (alignment inner) (fixed inner) (editor_of big n inner)) h

  kind_is : c.kind ≡ letter_at text c.at
  kind_is = described_kind held_placed.shape

  pub slot_laid : is_slot c.kind ≡ true → Laid (letter_extent c.kind)
  slot_laid h =
      let g = slot_there text c.at c.kind held_placed.shape.typed kind_is h in
      subst (λ (k : Letter). Laid (letter_extent k)) (sym g.kind) (letter_laid (slot_type g.slot))

  pub maybe_reading : (aim : Aim) (d : ContainerDepths) (at : ℕ) (l : List ℕ) (i : ℕ) (out out' : List ℕ) (r : Walked) → is_slot c.kind ≡ true → Reads c.kind aim d at i out out' r
      → Walks (tree_editor aim.big d.variant text s.at) (depths_of d) at l i (new_of aim.new) (most d) out out' r
  maybe_reading aim d at l i out out' r h g =
      let k = slot_there text c.at c.kind held_placed.shape.typed kind_is h in
      subst (λ (z : Editor). Walks z (depths_of d) at l i (new_of aim.new) (most d) out out' r) (sym (maybe_editor_lem aim.big (65 - d.variant) (some k.slot) k.is))
      (g.is inner k.slot k.kind l (alignment inner) (fixed inner) (editor_of aim.big (65 - d.variant) inner))

  module _ (h : is_slot c.kind ≡ false) (d : ContainerDepths) (l : List ℕ) where
    module _ (big : Bool) where
      abbrev of : Editor
      of = tree_editor big d.variant text c.at

      editor_is : tree_editor big d.variant text s.at ≡ maybe_editor big {t = inner} none (alignment inner) (fixed inner) of
      editor_is = maybe_editor_lem big (65 - d.variant) none (slot_none text c.at c.kind held_placed.shape.typed kind_is h)

      count_is : (tree_editor big d.variant text s.at).count l ≡ count_maybe (fixed inner) of l
      unfolding maybe_editor
      count_is = ap (λ (z : Editor). z.count l) editor_is

      pub maybe_empty : length l ≡ 0 → 0 ≡ (tree_editor big d.variant text s.at).count l
      unfolding count_maybe
      maybe_empty z = sym (count_is ∙ rw (eq-eqb (length l) 0 z))

      pub maybe_fixed : c.fixed ≡ true → 0 ≡ (tree_editor big d.variant text s.at).count l
      unfolding count_maybe
      maybe_fixed f = sym (count_is ∙ go (eqb (length l) 0))
        where
          go : (b : Bool) → ◌≡◌ {A = ℕ} (pick b 0 (of.count (child_bytes (fixed inner) l))) 0
          go true = refl
          go false = fixed_none big (65 - d.variant) inner (child_bytes (fixed inner) l) (sym (described_fixed held_placed.shape) ∙ f)

    -- one that holds another value
    module _ (z : length l ≡ 0 → ⊥) (f : c.fixed ≡ false) (r : Raised) (u : Raises (depths_of d) (opened Depth.maybe (depths_of d)) r) (at : ℕ)
        (w : Ready (tree_test d.variant text s.at) d at l) where
      open_fixed : fixed inner ≡ false
      open_fixed = sym (described_fixed held_placed.shape) ∙ f

      present : deeper (opened Depth.maybe (depths_of d)) (present_written false (tree_test d.variant text c.at) l) ≡ true
      unfolding maybe_test maybe_written
      present =
          sym (ap (λ (x : Test). x.accepts (depths_of d) l) (ap (test_of (65 - d.variant)) tree_is ∙ test_maybe (65 - d.variant) inner)
          ∙ rw (ne_eqb (length l) 0 z) (ap (λ (b : Bool). deeper (opened Depth.maybe (depths_of d)) (present_written b (tree_test d.variant text c.at) l)) open_fixed))
          ∙ w.written

      pub maybe_deeper : Deeper Depth.maybe d r
      maybe_deeper = deepens Depth.maybe d r u (deeper_true (opened Depth.maybe (depths_of d)) (present_written false (tree_test d.variant text c.at) l) present).0

      same_variant : r.depths.variant ≡ d.variant
      same_variant = ap (λ (x : Depths). x.variant) maybe_deeper.to

      pub held_ready : Ready (tree_test r.depths.variant text c.at) r.depths at (take (length l - 1) l)
      unfolding present_written
      held_ready =
          let g = (deeper_true (opened Depth.maybe (depths_of d)) (present_written false (tree_test d.variant text c.at) l) present).1 in
          let k = both_true (eqb (get_or l (length l - 1) 1) 0) ((tree_test d.variant text c.at).accepts (opened Depth.maybe (depths_of d)) (take (length l - 1) l)) g in
          record {
            shallow = maybe_deeper.shallow;
            near = (let n = length-take (length l - 1) l in omega (arith, w.near));
            written =
                ap (λ (m : ℕ). (tree_test m text c.at).accepts (depths_of r.depths) (take (length l - 1) l)) same_variant
                ∙ ap (λ (y : Depths). (tree_test d.variant text c.at).accepts y (take (length l - 1) l)) maybe_deeper.to ∙ k.1;
          }

      module _ (big : Bool) (i : ℕ) (x : MaybeNumber) (out out₁ : List ℕ) (v : Walked)
          (k : Walks (tree_editor big r.depths.variant text c.at) (depths_of r.depths) at (take (length l - 1) l) i x (most r.depths) out out₁ v) where
        abbrev held : Editor
        held = tree_editor big r.depths.variant text c.at

        from_zero : Walks held (depths_of r.depths) (at + 0) (take (length l - 1) l) i x (most r.depths) out out₁ v
        from_zero = let y : at + 0 ≡ at = omega arith in rw y k

        pub maybe_fits : edits v ≡ true → Fits at 0 v
        maybe_fits y = fits_here held (depths_of r.depths) at 0 (take (length l - 1) l) i x (most r.depths) out out₁ v from_zero (omega (arith, most_small r.depths)) y

        held_is : tree_editor big d.variant text s.at ≡ maybe_editor big {t = inner} none (alignment inner) false held
        held_is = editor_is big ∙ ap (λ (b : Bool). maybe_editor big {t = inner} none (alignment inner) b (tree_editor big d.variant text c.at)) open_fixed
            ∙ ap (λ (m : ℕ). maybe_editor big {t = inner} none (alignment inner) false (tree_editor big m text c.at)) (sym same_variant)

        counted : (maybe_editor big {t = inner} none (alignment inner) false held).count l ≡ held.count (take (length l - 1) l)
        unfolding maybe_editor count_maybe child_bytes
        counted = rw (ne_eqb (length l) 0 z)

        spotted : (maybe_editor big {t = inner} none (alignment inner) false held).spot (depths_of d) at l i ≡ held.spot (depths_of r.depths) (at + 0) (take (length l - 1) l) i
        unfolding maybe_editor child_bytes
        spotted =
            let y : at ≡ at + 0 = omega arith in
            ap (λ (e : Depths). held.spot e at (take (length l - 1) l) i) (sym maybe_deeper.to) ∙ ap (λ (j : ℕ). held.spot (depths_of r.depths) j (take (length l - 1) l) i) y

        rounded : (maybe_editor big {t = inner} none (alignment inner) false held).edited l i x ≡ ([] ++ held.edited (take (length l - 1) l) i x) ++ zeros 1
        unfolding maybe_editor child_bytes round_child
        rounded = refl

        pub maybe_closed : (out₂ : List ℕ) (r' : Walked) → Closes at 0 (zeros 1) 1 v out₁ out₂ r' → Walks (tree_editor big d.variant text s.at) (depths_of d) at l i x (most d) out out₂ r'
        maybe_closed out₂ r' y = rw held_is
            (through_closed (maybe_editor big {t = inner} none (alignment inner) false held) (depths_of d) at l i held (depths_of r.depths) 0 (take (length l - 1) l) i x (most d) (most r.depths) out out₁ out₂ v r'
            [] (zeros 1) 1 y from_zero refl counted (λ v. spotted) (λ v n. rounded) refl (omega (arith, maybe_deeper.falls)))
