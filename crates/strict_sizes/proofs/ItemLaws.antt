-- What an array or a dictionary repeats. Assumes nothing.
use mathlib.Core.Path.{◌≡◌, refl, sym, ap, subst⁻¹, ◌∙◌}
use mathlib.Core.Logic.{◌⊎◌, inl, inr}
use mathlib.Core.List.{List, [], ◌∷◌}
use mathlib.Core.Bool.{Bool, true, false, false≢true}
use Prim.Native.Nat.{ℕ, ◌+◌, ◌-◌, ◌≤◌}
use native.Mathlib.Omega.{arith}
use Rattle.meaning.specs.Choice.{pick}
use Rattle.meaning.specs.Padding.{padding, Aligns}
use Rattle.meaning.specs.Types.{Number as NumberType, number_width, Basic, number, text, Tree, basic, maybe, array, dictionary, basic_fixed, alignment, fixed, entry_alignment, entry_fixed}
use Rattle.meaning_writing.specs.Shapes.{sizes_from}
use Rattle.meaning_writing.specs.Strict.{Test, test_shapes, basic_written, basic_test, present_written, maybe_written, maybe_test, array_test, entry_test, test_of}
use Rattle.meaning.proofs.Tests.{both_true}
use Rattle.meaning.proofs.PaddingLaws.{padding_below}
use Rattle.meaning.proofs.TypeLaws.{aligns_most, number_aligned, aligned}
use Rattle.meaning_writing.proofs.StrictSteps.{test_basic, test_maybe, test_array, test_dictionary}
use Rattle.signature.specs.Places.{basic_kind, letter_at}
use Rattle.signature.specs.Items.{item_in, EntryOf, ElementOf}
use Rattle.signature.specs.Trees.{tree_at}
use Rattle.signature.specs.declared.Letter.{Letter}
use Rattle.signature.specs.declared.Letter.TheVariants.{End, Bad, Boolean, Number, Text, Variant, Maybe, Array, OpenStructure, CloseStructure, OpenEntry, CloseEntry}
use Rattle.signature.specs.declared.items.Item as signature_item
use Rattle.signature.specs.declared.shapes.Shape.{Shape}
use Rattle.signature.proofs.Dispatch.{is_number, is_text_lem, is_maybe}
use Rattle.signature.proofs.ItemLaws.{number_held, entry_of, element_of, opens}
use Rattle.signature.proofs.TreeLaws.{described_kind, described_alignment, described_fixed}
use Rattle.signature.specs.Steps.{is_text}
use Rattle.strict_basic.proofs.BasicLaws.{letter_test_lem, letter_laid, key_small, laid_as}
use Rattle.strict_basic.specs.Basics.{letter_extent, letter_test, text_test, reading_test}
use Rattle.strict_ends.specs.Ends.{extent, Laid, end_of}
use Rattle.strict_sizes.specs.Sizes.{Tabled, extent_in, any_in}
use Rattle.strict_sizes.specs.Items.{Placed, tree_test, item_test, reads, repeats_of, entry_end, entry_size, Known, Alike, Reads, ItemAt}
use Rattle.strict_ends.specs.declared.Extent.{Extent}
use Rattle.strict_sizes.specs.declared.items.Item.{Item}
use Rattle.std.specs.Prelude.{⊤}
use Rattle.strict_sizes.specs.declared.items.Repeats.{Repeats}
use Rattle.strict_sizes.specs.declared.items.Repeats.TheVariants as repeats
use Rattle.strict_sizes.proofs.TableLaws.{placed_known, placed_any, size_most}

sizes_two : (u v : Test) → sizes_from 0 (test_shapes (u ∷ v ∷ []))
    ≡ 0 + padding 0 u.shape.alignment + u.shape.size + padding (0 + padding 0 u.shape.alignment + u.shape.size) v.shape.alignment + v.shape.size
unfolding sizes_from
sizes_two u v = refl

entry_size_lem : (a : ℕ) (fx : Bool) (ts : List Test) → (entry_test a fx ts).shape.size ≡ sizes_from 0 (test_shapes ts) + padding (sizes_from 0 (test_shapes ts)) a
unfolding entry_test
entry_size_lem a fx ts = refl

entry_alignment_lem : (a : ℕ) (fx : Bool) (ts : List Test) → (entry_test a fx ts).shape.alignment ≡ a
unfolding entry_test
entry_alignment_lem a fx ts = refl

entry_fixed_lem : (a : ℕ) (fx : Bool) (ts : List Test) → (entry_test a fx ts).shape.fixed ≡ fx
unfolding entry_test
entry_fixed_lem a fx ts = refl

pub end_most : (x : Extent) → Laid x → (k : ℕ) → end_of x k ≤ k + 8 + x.size
end_most x h k = omega (arith, padding_below h.aligned k, aligns_most h.aligned)

-- an entry's test, by its key's letter and its value's extent
module _ (k : Letter) (x : Extent) (a : ℕ) (fx : Bool) (test : ℕ → Test) (g : Known x test) (hk : Laid (letter_extent k)) (hm : (letter_extent k).size ≤ 8) (vm : x.size ≤ 4080) (ha : Aligns a) (hf : fx ≡ true → x.fixed ≡ true) where
  abbrev whole : ℕ → Test
  whole m = entry_test a fx (letter_test k ∷ test m ∷ [])

  entry_sized : (m : ℕ) → fx ≡ true → (whole m).shape.size ≡ entry_size k x a
  unfolding letter_test
  entry_sized m f =
      let e : sizes_from 0 (test_shapes (letter_test k ∷ test m ∷ [])) ≡ entry_end k x =
      sizes_two (letter_test k) (test m) ∙ ap (λ (i : ℕ). end_of (letter_extent k) 0 + padding (end_of (letter_extent k) 0) i + (test m).shape.size) (g.same_alignment m)
      ∙ ap (λ (i : ℕ). end_of (letter_extent k) 0 + padding (end_of (letter_extent k) 0) x.alignment + i) (g.same_size m (hf f)) in
      entry_size_lem a fx (letter_test k ∷ test m ∷ []) ∙ ap (λ (i : ℕ). i + padding i a) e

  entry_known : Known (extent a fx (entry_size k x a)) whole
  entry_known = record {
    laid = record {
      aligned = ha;
      small = omega (arith, end_most (letter_extent k) hk 0, end_most x g.laid (end_of (letter_extent k) 0), padding_below ha (entry_end k x), aligns_most ha);
    };
    positive = λ f. (let p = g.positive (hf f) in omega arith);
    same_alignment = λ m. entry_alignment_lem a fx _;
    same_fixed = λ m. entry_fixed_lem a fx _;
    same_size = λ m f. entry_sized m f;
  }

dictionary_repeats : (m : ℕ) (tr : Tree) (b : Basic) (it v : Tree) (a : ℕ) (fx : Bool) (k : Letter) → tr ≡ dictionary b it → v ≡ it → k ≡ basic_kind b → a ≡ entry_alignment b it → fx ≡ entry_fixed b it
    → test_of m tr ≡ array_test a fx (entry_test a fx (letter_test k ∷ test_of m v ∷ []))
dictionary_repeats m tr b it v a fx k p q r s u = rw (p, q, r, s, u) (test_dictionary m b it ∙ rw (letter_test_lem b))

array_repeats : (m : ℕ) (tr it v : Tree) (a : ℕ) (fx : Bool) → tr ≡ array it → v ≡ it → a ≡ alignment v → fx ≡ fixed v → test_of m tr ≡ array_test a fx (test_of m v)
array_repeats m tr it v a fx p q r s = rw (r, s) (rw (p, q) (test_array m it))

-- a reading is tested by the number of its bytes
reading_is : (m : ℕ) (t : Tree) (w : ℕ) (it : NumberType) → t ≡ maybe (basic (number it)) → w ≡ number_width it → test_of m t ≡ reading_test w
unfolding maybe_test maybe_written present_written basic_test basic_written alignment fixed reading_test
reading_is m t w it p q =
    rw (p, q) (test_maybe m (basic (number it)) ∙ ap (maybe_test (number_width it) true) (test_basic m (number it)))

-- what is known of elements, which are no entries
abbrev ElementTold : Extent → (ℕ → Test) → Repeats → Type 0
ElementTold x test (repeats.Entries key) = ⊥
ElementTold x test repeats.AnyBytes = Alike x test
ElementTold x test repeats.Texts = (nested : ℕ) → test nested ≡ text_test
ElementTold x test (repeats.Readings w) = Reads w test
ElementTold x test repeats.Others = ⊤

-- what the walk asks of an entry
pub record Keyed (k : Letter) (x : Extent) (a : ℕ) : Type 0 where
  pub key : Laid (letter_extent k)
  pub key_most : (letter_extent k).size ≤ 8
  pub value : Laid x
  pub value_most : x.size ≤ 4080
  pub aligned : Aligns a

module _ {l t : List ℕ} {at : ℕ} (f : signature_item.Item) (w : Tabled l t) where
  module _ (e : EntryOf l t at f) where
    child_placed : Placed l t f.child
    child_placed = record { shape = e.child; table = w }

    aligns : f.alignment ≡ entry_alignment e.key e.it
    unfolding alignment
    aligns = e.same_alignment

    pub entry_keyed : (x : Extent) → x ≡ extent_in t f.child → Keyed f.key x f.alignment
    entry_keyed x h = record {
      key = laid_as (ap letter_extent e.same_key) (letter_laid e.key);
      key_most = rw e.same_key (key_small e.key);
      value = laid_as h (placed_known child_placed).laid;
      value_most = rw h (size_most child_placed);
      aligned = rw e.same_alignment (aligned (dictionary e.key e.it));
    }

    second_fixed : f.fixed ≡ true → f.child.fixed ≡ true
    second_fixed h = described_fixed e.child ∙ ap fixed e.value ∙ (both_true (basic_fixed e.key) (fixed e.it) (sym e.same_fixed ∙ h)).1

    -- an entry as the walk has it
    abbrev entry_as : Extent → ℕ → Item
    entry_as x n = record { child = f.child; extent = extent f.alignment f.fixed n; repeats = repeats.Entries f.key }

    pub entry_is : (x : Extent) → x ≡ extent_in t f.child → (n : ℕ) → n ≡ entry_size f.key x f.alignment → ItemAt l t at (entry_as x n)
    unfolding item_test
    entry_is x hx n hn =
        let k = entry_keyed x hx in
        let c = entry_known f.key (extent_in t f.child) f.alignment f.fixed (λ m. tree_test m l f.child.at) (placed_known child_placed) k.key k.key_most (size_most child_placed) k.aligned second_fixed in
        let z : n ≡ entry_size f.key (extent_in t f.child) f.alignment = hn ∙ ap (λ (y : Extent). entry_size f.key y f.alignment) hx in
        subst⁻¹ (λ (m : ℕ). ItemAt l t at (entry_as x m)) z (record {
          repeated = record { child = child_placed; known = c; told = k.key };
          repeats = λ m. dictionary_repeats (65 - m) (tree_at l at) e.key e.it (tree_at l f.child.at) f.alignment f.fixed f.key e.tree e.value e.same_key aligns e.same_fixed;
        })

  module _ (e : ElementOf l t at f) where
    element_placed : Placed l t f.child
    element_placed = record { shape = e.child; table = w }

    text_is : is_text f.child.kind ≡ true → (m : ℕ) → tree_test m l f.child.at ≡ text_test
    unfolding basic_test basic_written text_test
    text_is h m = go f.child.kind (sym (described_kind e.child)) h
      where
        by : (c : ℕ) → letter_at l f.child.at ≡ Text c → tree_test m l f.child.at ≡ text_test
        by c q = let n = is_text_lem l f.child.at _ _ c e.child.typed.found q in ap (test_of (65 - m)) n.type ∙ test_basic (65 - m) (text n.it)

        go : (k : Letter) → letter_at l f.child.at ≡ k → is_text k ≡ true → tree_test m l f.child.at ≡ text_test
        go (Text c) q h = by c q
        go End q h = absurd (false≢true h)
        go Bad q h = absurd (false≢true h)
        go Boolean q h = absurd (false≢true h)
        go (Number c w) q h = absurd (false≢true h)
        go Variant q h = absurd (false≢true h)
        go Maybe q h = absurd (false≢true h)
        go Array q h = absurd (false≢true h)
        go OpenStructure q h = absurd (false≢true h)
        go CloseStructure q h = absurd (false≢true h)
        go OpenEntry q h = absurd (false≢true h)
        go CloseEntry q h = absurd (false≢true h)

    -- a number in a maybe
    held_is : (c w : ℕ) → f.fixed ≡ false → f.number ≡ Number c w → Reads w (λ m. tree_test m l f.child.at)
    unfolding fixed
    held_is c w fx q = go (number_held (letter_at l f.child.at) (letter_at l (f.child.at + 1)) c w (sym e.same_number ∙ q))
      where
        go : (letter_at l f.child.at ≡ Number c w) ⊎ ((letter_at l f.child.at ≡ Maybe) × (letter_at l (f.child.at + 1) ≡ Number c w)) → Reads w (λ m. tree_test m l f.child.at)
        go (inl x) =
            let n = is_number l f.child.at _ _ c w e.child.typed.found x in
            absurd (false≢true (sym fx ∙ e.same_fixed ∙ ap fixed (sym e.value ∙ n.type)))
        go (inr (x, y)) =
            let m = is_maybe l f.child.at _ _ e.child.typed.found x in
            let n = is_number l (f.child.at + 1) m.it _ c w m.child y in
            record {
              aligned = rw n.width_is (number_aligned n.it);
              is = λ k. reading_is (65 - k) (tree_at l f.child.at) w n.it (m.type ∙ ap maybe n.type) n.width_is;
            }

    array_is : (m : ℕ) → tree_test m l at ≡ array_test f.child.alignment f.child.fixed (tree_test m l f.child.at)
    array_is m = array_repeats (65 - m) (tree_at l at) e.it (tree_at l f.child.at) f.child.alignment f.child.fixed e.tree e.value (described_alignment e.child) (described_fixed e.child)

    told_is : (any : Bool) → any ≡ any_in t f.child → ElementTold (extent_in t f.child) (λ m. tree_test m l f.child.at) (repeats_of f.child.kind any f.fixed f.number)
    told_is true h = placed_any element_placed (sym h)
    told_is false h = texts (is_text f.child.kind) refl
      where
        holds : (k : Letter) → f.fixed ≡ false → f.number ≡ k → ElementTold (extent_in t f.child) (λ m. tree_test m l f.child.at) (reads k)
        holds (Number c w) p q = held_is c w p q
        holds End p q = tt
        holds Bad p q = tt
        holds Boolean p q = tt
        holds (Text c) p q = tt
        holds Variant p q = tt
        holds Maybe p q = tt
        holds Array p q = tt
        holds OpenStructure p q = tt
        holds CloseStructure p q = tt
        holds OpenEntry p q = tt
        holds CloseEntry p q = tt

        numbers : (b : Bool) → f.fixed ≡ b → ElementTold (extent_in t f.child) (λ m. tree_test m l f.child.at) (pick b repeats.Others (reads f.number))
        numbers true p = tt
        numbers false p = holds f.number p refl

        texts : (b : Bool) → is_text f.child.kind ≡ b → ElementTold (extent_in t f.child) (λ m. tree_test m l f.child.at) (pick b repeats.Texts (pick f.fixed repeats.Others (reads f.number)))
        texts true p = text_is p
        texts false p = numbers f.fixed refl

    -- an element as the walk has it
    abbrev element_as : Extent → Repeats → Item
    element_as x r = record { child = f.child; extent = x; repeats = r }

    element_by : (r : Repeats) → ElementTold (extent_in t f.child) (λ m. tree_test m l f.child.at) r → ItemAt l t at (element_as (extent_in t f.child) r)
    unfolding item_test
    element_by (repeats.Entries key) g = absurd g
    element_by repeats.AnyBytes g = record { repeated = record { child = element_placed; known = placed_known element_placed; told = g }; repeats = array_is }
    element_by repeats.Texts g = record { repeated = record { child = element_placed; known = placed_known element_placed; told = g }; repeats = array_is }
    element_by (repeats.Readings w) g = record { repeated = record { child = element_placed; known = placed_known element_placed; told = g }; repeats = array_is }
    element_by repeats.Others g = record { repeated = record { child = element_placed; known = placed_known element_placed; told = g }; repeats = array_is }

    pub element_is : (x : Extent) → x ≡ extent_in t f.child → (any : Bool) → any ≡ any_in t f.child → (r : Repeats) → r ≡ repeats_of f.child.kind any f.fixed f.number → ItemAt l t at (element_as x r)
    element_is x hx any ha r hr =
        subst⁻¹ (λ (y : Extent). ItemAt l t at (element_as y r)) hx
        (subst⁻¹ (λ (y : Repeats). ItemAt l t at (element_as (extent_in t f.child) y)) hr (element_by (repeats_of f.child.kind any f.fixed f.number) (told_is any ha)))

-- which of the two it is
module _ (l t : List ℕ) (s : Shape) (p : Placed l t s) (first : letter_at l s.at ≡ Array) (f : signature_item.Item) (q : f ≡ item_in l t s) where
  pub found_placed : Placed l t f.child
  found_placed = opens (letter_at l (s.at + 1))
      (λ o. record { shape = (subst⁻¹ (λ (y : signature_item.Item). EntryOf l t s.at y) q (entry_of l t s p.shape first o)).child; table = p.table })
      (λ o. record { shape = (subst⁻¹ (λ (y : signature_item.Item). ElementOf l t s.at y) q (element_of l t s p.shape first o)).child; table = p.table })

  pub found_entry : f.entry ≡ true → EntryOf l t s.at f
  found_entry h = opens (letter_at l (s.at + 1))
      (λ o. subst⁻¹ (λ (y : signature_item.Item). EntryOf l t s.at y) q (entry_of l t s p.shape first o))
      (λ o. absurd (false≢true (sym (subst⁻¹ (λ (y : signature_item.Item). ElementOf l t s.at y) q (element_of l t s p.shape first o)).entry ∙ h)))

  pub found_element : f.entry ≡ false → ElementOf l t s.at f
  found_element h = opens (letter_at l (s.at + 1))
      (λ o. absurd (false≢true (sym h ∙ (subst⁻¹ (λ (y : signature_item.Item). EntryOf l t s.at y) q (entry_of l t s p.shape first o)).entry)))
      (λ o. subst⁻¹ (λ (y : signature_item.Item). ElementOf l t s.at y) q (element_of l t s p.shape first o))
