-- What an array or a dictionary repeats, by the definition; and the ways out of an array. Assumes nothing.
use mathlib.Core.Path.{◌≡◌, refl, sym, ap, ◌∙◌, subst}
use mathlib.Core.List.{List, [], ◌∷◌}
use mathlib.Core.Bool.{Bool, true, false}
use Prim.Native.Nat.{ℕ, ◌+◌, ◌-◌}
use native.Mathlib.Omega.{arith}
use Rattle.meaning.specs.Choice.{pick}
use Rattle.meaning.specs.Padding.{Aligns}
use Rattle.meaning.specs.Depths as Depth
use Rattle.meaning.specs.Depths.{Depths, opened}
use Rattle.meaning.specs.Types.{Basic, bool, number, text, Tree, array, dictionary, alignment, fixed, entry_alignment, entry_fixed}
use Rattle.meaning.specs.Written.{deeper}
use Rattle.meaning.proofs.TypeLaws.{aligned}
use Rattle.meaning_writing.specs.Shapes.{basic_shape}
use Rattle.meaning_writing.specs.Strict.{Test, array_written, array_test, entry_test, test_of}
use Rattle.meaning_writing.specs.Readings.{MaybeNumber}
use Rattle.meaning_writing.specs.Edited.{Editor, still, container_editor, array_editor, structure_editor, editor_of}
use Rattle.meaning_writing.proofs.StrictSteps.{test_array, test_dictionary, test_alignment}
use Rattle.meaning_writing.proofs.EditedSteps.{editor_array, editor_dictionary}
use Rattle.container_depths.specs.Opening.{depths_of, Raises}
use Rattle.container_depths.specs.declared.ContainerDepths.{ContainerDepths}
use Rattle.container_depths.specs.Opening.{Raised}
use Rattle.signature.specs.Places.{basic_kind, letter_at}
use Rattle.signature.specs.Items.{item_in, EntryOf, ElementOf}
use Rattle.signature.specs.Trees.{tree_at}
use Rattle.signature.specs.declared.Letter.{Letter}
use Rattle.signature.specs.declared.Letter.TheVariants.{Array}
use Rattle.signature.specs.declared.items.Item.{Item}
use Rattle.signature.specs.declared.shapes.Shape.{Shape}
use Rattle.strict_basic.specs.Basics.{letter_extent, letter_test}
use Rattle.strict_ends.specs.Ends.{Laid}
use Rattle.strict_sizes.specs.Items.{Placed, tree_test}
use Rattle.strict_basic.proofs.BasicLaws.{letter_test_lem, letter_laid}
use Rattle.strict_sizes.proofs.ItemLaws.{found_placed, found_entry, found_element}
use Rattle.editor_basic.proofs.ShapeLaws.{editor_alignment, editor_fixed}
use Rattle.editor_steps.specs.Walked.{Walked}
use Rattle.editor_steps.specs.Walks.{tree_editor, Walks, container_most, most, Ready, letter_editor, entry_editors, entry_tests, item_editor, item_test, Repeats, elements_test, elements_editor}
use Rattle.editor_steps.proofs.WalkLaws.{walks_by}
use Rattle.editor_steps.proofs.Values.{Deeper, deeper_true, deepens}

-- ---- the two kinds

module _ (nested : ℕ) (text : List ℕ) (i : Item) where
  pub plain_test : i.entry ≡ false → item_test nested text i ≡ tree_test nested text i.child.at
  unfolding item_test
  plain_test h = ap (λ (b : Bool). pick b (entry_test i.alignment i.fixed (entry_tests nested text i)) (tree_test nested text i.child.at)) h

  pub entry_test_lem : i.entry ≡ true → item_test nested text i ≡ entry_test i.alignment i.fixed (entry_tests nested text i)
  unfolding item_test
  entry_test_lem h = ap (λ (b : Bool). pick b (entry_test i.alignment i.fixed (entry_tests nested text i)) (tree_test nested text i.child.at)) h

  module _ (big : Bool) where
    pub plain_editor : i.entry ≡ false → item_editor big nested text i ≡ tree_editor big nested text i.child.at
    unfolding item_editor
    plain_editor h = ap (λ (b : Bool). pick b (structure_editor (λ d. d) i.alignment i.fixed (entry_editors big nested text i)) (tree_editor big nested text i.child.at)) h

    pub entry_editor : i.entry ≡ true → item_editor big nested text i ≡ structure_editor (λ d. d) i.alignment i.fixed (entry_editors big nested text i)
    unfolding item_editor
    entry_editor h = ap (λ (b : Bool). pick b (structure_editor (λ d. d) i.alignment i.fixed (entry_editors big nested text i)) (tree_editor big nested text i.child.at)) h

pub record ItemIs (text tables : List ℕ) (at : ℕ) (i : Item) : Type 0 where
  pub child : Placed text tables i.child
  pub aligns : Aligns i.alignment
  pub key : Laid (letter_extent i.key)
  pub test_is : (nested : ℕ) → tree_test nested text at ≡ array_test i.alignment i.fixed (item_test nested text i)
  pub editor_is : (big : Bool) (nested : ℕ) → tree_editor big nested text at ≡ array_editor i.alignment i.fixed (item_editor big nested text i)
  pub test_aligned : (nested : ℕ) → (item_test nested text i).shape.alignment ≡ i.alignment
  pub editor_aligned : i.fixed ≡ false → (big : Bool) (nested : ℕ) → (item_editor big nested text i).shape.alignment ≡ i.alignment
  pub editor_loose : i.fixed ≡ false → (big : Bool) (nested : ℕ) → (item_editor big nested text i).shape.fixed ≡ false

-- an element
array_tests : (n : ℕ) (tr it v : Tree) (a : ℕ) (fx : Bool) → tr ≡ array it → v ≡ it → a ≡ alignment it → fx ≡ fixed it → test_of n tr ≡ array_test a fx (test_of n v)
array_tests n tr it v a fx p q r s = rw (p, q, r, s) (test_array n it)

array_edits : (big : Bool) (n : ℕ) (tr it v : Tree) (a : ℕ) (fx : Bool) → tr ≡ array it → v ≡ it → a ≡ alignment it → fx ≡ fixed it → editor_of big n tr ≡ array_editor a fx (editor_of big n v)
array_edits big n tr it v a fx p q r s = rw (p, q, r, s) (editor_array big n it)

element_is : {text tables : List ℕ} {at : ℕ} (i : Item) → Placed text tables i.child → ElementOf text tables at i → ItemIs text tables at i
element_is {text} {tables} {at} i p e = record {
  child = p;
  aligns = rw e.same_alignment (aligned e.it);
  key = rw e.same_key (letter_laid bool);
  test_is = λ n. array_tests (65 - n) (tree_at text at) e.it (tree_at text i.child.at) i.alignment i.fixed e.tree e.value e.same_alignment e.same_fixed
      ∙ ap (array_test i.alignment i.fixed) (sym (plain_test n text i e.entry));
  editor_is = λ big n. array_edits big (65 - n) (tree_at text at) e.it (tree_at text i.child.at) i.alignment i.fixed e.tree e.value e.same_alignment e.same_fixed
      ∙ ap (array_editor i.alignment i.fixed) (sym (plain_editor n text i big e.entry));
  test_aligned = λ n. ap (λ (t : Test). t.shape.alignment) (plain_test n text i e.entry) ∙ test_alignment (65 - n) (tree_at text i.child.at) ∙ ap alignment e.value ∙ sym e.same_alignment;
  editor_aligned = λ f big n. ap (λ (t : Editor). t.shape.alignment) (plain_editor n text i big e.entry) ∙ editor_alignment big (65 - n) (tree_at text i.child.at) ∙ ap alignment e.value ∙ sym e.same_alignment;
  editor_loose = λ f big n. ap (λ (t : Editor). t.shape.fixed) (plain_editor n text i big e.entry) ∙ editor_fixed big (65 - n) (tree_at text i.child.at) ∙ ap fixed e.value ∙ sym e.same_fixed ∙ f;
}

-- an entry
letter_editor_lem : (b : Basic) → letter_editor (basic_kind b) ≡ still (basic_shape b)
letter_editor_lem bool = refl
letter_editor_lem (number c) = refl
letter_editor_lem (text c) = refl

dictionary_tests : (n : ℕ) (tr : Tree) (b : Basic) (it v : Tree) (a : ℕ) (fx : Bool) (k : Letter) → tr ≡ dictionary b it → v ≡ it → k ≡ basic_kind b → a ≡ entry_alignment b it → fx ≡ entry_fixed b it
    → test_of n tr ≡ array_test a fx (entry_test a fx (letter_test k ∷ test_of n v ∷ []))
dictionary_tests n tr b it v a fx k p q r s u = rw (p, q, r, s, u) (test_dictionary n b it ∙ rw (letter_test_lem b))

dictionary_edits : (big : Bool) (n : ℕ) (tr : Tree) (b : Basic) (it v : Tree) (a : ℕ) (fx : Bool) (k : Letter) → tr ≡ dictionary b it → v ≡ it → k ≡ basic_kind b → a ≡ entry_alignment b it
    → fx ≡ entry_fixed b it → editor_of big n tr ≡ array_editor a fx (structure_editor (λ d. d) a fx (letter_editor k ∷ editor_of big n v ∷ []))
dictionary_edits big n tr b it v a fx k p q r s u =
    ap (editor_of big n) p ∙ editor_dictionary big n b it
    ∙ ap (λ (e : Editor). array_editor (entry_alignment b it) (entry_fixed b it) (structure_editor (λ d. d) (entry_alignment b it) (entry_fixed b it) (e ∷ editor_of big n it ∷ []))) (sym (letter_editor_lem b))
    ∙ rw (q, r, s, u)

entry_is : {text tables : List ℕ} {at : ℕ} (i : Item) → Placed text tables i.child → EntryOf text tables at i → ItemIs text tables at i
unfolding alignment
entry_is {text} {tables} {at} i p e = record {
  child = p;
  aligns = rw e.same_alignment (aligned (dictionary e.key e.it));
  key = rw e.same_key (letter_laid e.key);
  test_is = λ n. dictionary_tests (65 - n) (tree_at text at) e.key e.it (tree_at text i.child.at) i.alignment i.fixed i.key e.tree e.value e.same_key e.same_alignment e.same_fixed
      ∙ ap (array_test i.alignment i.fixed) (sym (entry_test_lem n text i e.entry));
  editor_is = λ big n. dictionary_edits big (65 - n) (tree_at text at) e.key e.it (tree_at text i.child.at) i.alignment i.fixed i.key e.tree e.value e.same_key e.same_alignment e.same_fixed
      ∙ ap (array_editor i.alignment i.fixed) (sym (entry_editor n text i big e.entry));
  test_aligned = λ n. ap (λ (t : Test). t.shape.alignment) (entry_test_lem n text i e.entry) ∙ (unfold entry_test in refl);
  editor_aligned = λ f big n. ap (λ (t : Editor). t.shape.alignment) (entry_editor n text i big e.entry) ∙ loose_alignment i.alignment i.fixed (entry_editors big n text i) f;
  editor_loose = λ f big n. ap (λ (t : Editor). t.shape.fixed) (entry_editor n text i big e.entry) ∙ loose_fixed i.alignment i.fixed (entry_editors big n text i) f;
}
  where
    loose_alignment : (a : ℕ) (fx : Bool) (ts : List Editor) → fx ≡ false → (structure_editor (λ d. d) a fx ts).shape.alignment ≡ a
    loose_alignment a fx ts h = ap (λ (b : Bool). (structure_editor (λ d. d) a b ts).shape.alignment) h ∙ (unfold structure_editor container_editor in refl)

    loose_fixed : (a : ℕ) (fx : Bool) (ts : List Editor) → fx ≡ false → (structure_editor (λ d. d) a fx ts).shape.fixed ≡ false
    loose_fixed a fx ts h = ap (λ (b : Bool). (structure_editor (λ d. d) a b ts).shape.fixed) h ∙ (unfold structure_editor container_editor in refl)

pub item_is : (text tables : List ℕ) (s : Shape) → Placed text tables s → letter_at text s.at ≡ Array → (i : Item) → i ≡ item_in text tables s → ItemIs text tables s.at i
item_is sig tables s p first i q = go i.entry refl
  where
    go : (b : Bool) → i.entry ≡ b → ItemIs sig tables s.at i
    go true h = entry_is i (found_placed sig tables s p first i q) (found_entry sig tables s p first i q h)
    go false h = element_is i (found_placed sig tables s p first i q) (found_element sig tables s p first i q h)

-- ---- an array

module _ {text tables : List ℕ} {at : ℕ} {i : Item} (g : ItemIs text tables at i) (d : ContainerDepths) where
  pub array_fixed : (big : Bool) (l : List ℕ) → i.fixed ≡ true → 0 ≡ (tree_editor big d.variant text at).count l
  array_fixed big l h =
      sym (ap (λ (e : Editor). e.count l) (g.editor_is big d.variant) ∙ ap (λ (b : Bool). (array_editor i.alignment b (item_editor big d.variant text i)).count l) h ∙ (unfold array_editor in refl))

  module _ (f : i.fixed ≡ false) where
    pub repeats : Repeats text tables i
    repeats = record { child = g.child; aligned = g.aligns; loose = f; key = g.key; test_alignment = g.test_aligned; editor_alignment = g.editor_aligned f; editor_fixed = g.editor_loose f }

    module _ (r : Raised) (u : Raises (depths_of d) (opened Depth.array (depths_of d)) r) (p : ℕ) (l : List ℕ) (w : Ready (tree_test d.variant text at) d p l) where
      opens : deeper (opened Depth.array (depths_of d)) (array_written false (item_test d.variant text i) l) ≡ true
      unfolding array_test
      opens =
          sym (ap (λ (t : Test). t.accepts (depths_of d) l) (g.test_is d.variant)
          ∙ ap (λ (b : Bool). deeper (opened Depth.array (depths_of d)) (array_written b (item_test d.variant text i) l)) f) ∙ w.written

      pub array_deeper : Deeper Depth.array d r
      array_deeper = deepens Depth.array d r u (deeper_true (opened Depth.array (depths_of d)) (array_written false (item_test d.variant text i) l) opens).0

      same_variant : r.depths.variant ≡ d.variant
      same_variant = ap (λ (x : Depths). x.variant) array_deeper.to

      pub elements_ready : Ready (elements_test (item_test r.depths.variant text i)) r.depths p l
      elements_ready = record {
        shallow = array_deeper.shallow;
        near = w.near;
        written =
            ap (λ (n : ℕ). array_written false (item_test n text i) l (depths_of r.depths)) same_variant
            ∙ ap (λ (y : Depths). array_written false (item_test d.variant text i) l y) array_deeper.to
            ∙ (deeper_true (opened Depth.array (depths_of d)) (array_written false (item_test d.variant text i) l) opens).1;
      }

      module _ (big : Bool) (n : ℕ) (x : MaybeNumber) (out out' : List ℕ) (v : Walked) where
        editor_array_is : tree_editor big d.variant text at ≡ array_editor i.alignment false (item_editor big r.depths.variant text i)
        editor_array_is =
            g.editor_is big d.variant ∙ ap (λ (b : Bool). array_editor i.alignment b (item_editor big d.variant text i)) f
            ∙ ap (λ (m : ℕ). array_editor i.alignment false (item_editor big m text i)) (sym same_variant)

        abbrev opened_editor : Editor
        opened_editor = array_editor i.alignment false (item_editor big r.depths.variant text i)

        same_count : (elements_editor (item_editor big r.depths.variant text i)).count l ≡ opened_editor.count l
        unfolding array_editor container_editor
        same_count = refl

        same_spot : (elements_editor (item_editor big r.depths.variant text i)).spot (depths_of r.depths) p l n ≡ opened_editor.spot (depths_of d) p l n
        unfolding array_editor container_editor
        same_spot = ap (λ (y : Depths). (elements_editor (item_editor big r.depths.variant text i)).spot y p l n) array_deeper.to

        same_edited : (elements_editor (item_editor big r.depths.variant text i)).edited l n x ≡ opened_editor.edited l n x
        unfolding array_editor container_editor
        same_edited = refl

        pub array_walks : Walks (elements_editor (item_editor big r.depths.variant text i)) (depths_of r.depths) p l n x (most r.depths + container_most) out out' v
            → Walks (tree_editor big d.variant text at) (depths_of d) p l n x (most d) out out' v
        array_walks k =
            subst (λ (e : Editor). Walks e (depths_of d) p l n x (most d) out out' v) (sym editor_array_is)
            (walks_by (elements_editor (item_editor big r.depths.variant text i)) (depths_of r.depths) opened_editor (depths_of d) p l n x (most r.depths + container_most) (most d) out out' v
            same_count same_spot same_edited (omega (arith, array_deeper.falls)) k)
