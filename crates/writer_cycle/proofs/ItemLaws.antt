-- What an array or a dictionary repeats, and one step of what a type is written as. Assumes nothing.
use mathlib.Core.Path.{◌≡◌, refl, ap, sym, subst⁻¹, ◌∙◌}
use mathlib.Core.Logic.{◌⊎◌, inl, inr}
use mathlib.Core.List.{List}
use mathlib.Core.Bool.{Bool, true, false, false≢true}
use native.Mathlib.Omega.{arith}
use Prim.Native.Nat.{ℕ, zero, suc, ◌+◌, ◌-◌, ◌≤◌}
use Rattle.meaning.specs.Letters.{number_letter}
use Rattle.meaning.specs.Types.{Number as NumberType, number_width, byte, int16, uint16, int32, uint32, int64, uint64, double, string, object_path, signature, Basic, bool, number, text, basic_fixed}
use Rattle.meaning.specs.Types.{Tree, Fields, basic, variant, maybe, array, dictionary, structure, alignment, fixed, largest_alignment, all_fixed, entry_alignment, entry_fixed}
use Rattle.meaning.specs.TypeText.{basic_among}
use Rattle.meaning.proofs.TypeLaws.{aligned}
use Rattle.meaning_writing.specs.Emitting.{emit_basic, emit_maybe, emit_array, emit_entry, emit_structure, emit_variant, emit_over, emit}
use Rattle.meaning.proofs.Tests.{both_true}
use Rattle.signature.specs.Places.{basic_kind, letter_at}
use Rattle.signature.specs.Items.{held_number, item_in, EntryOf, ElementOf}
use Rattle.signature.specs.Trees.{tree_at, Described}
use Rattle.signature.specs.declared.Letter.{Letter}
use Rattle.signature.specs.declared.Letter.TheVariants.{End, Number, Maybe, Array}
use Rattle.signature.specs.declared.shapes.Shape.{Shape}
use Rattle.signature.specs.declared.items.Item.{Item}
use Rattle.signature.proofs.Dispatch.{is_number, is_maybe}
use Rattle.signature.proofs.ItemLaws.{opens, number_held, entry_of, element_of}
use Rattle.writer_basic.specs.Wrote.{key_basic, IsKey}
use Rattle.writer_cycle.specs.Places.{value_of, fields_of, item_of, NumberItem, ItemAt}

-- ---- what a type is written as, one step

module _ (texts : List ℕ) (big : Bool) where
  pub emit_basic_lem : (n : ℕ) (b : Basic) → emit texts big n (basic b) ≡ emit_basic texts big b
  unfolding emit emit_over
  emit_basic_lem zero b = refl
  emit_basic_lem (suc n) b = refl

  pub emit_maybe_lem : (n : ℕ) (t : Tree) → emit texts big n (maybe t) ≡ emit_maybe (alignment t) (fixed t) (emit texts big n t)
  unfolding emit emit_over
  emit_maybe_lem zero t = refl
  emit_maybe_lem (suc n) t = refl

  pub emit_array_lem : (n : ℕ) (t : Tree) → emit texts big n (array t) ≡ emit_array 97 (alignment t) (fixed t) (emit texts big n t)
  unfolding emit emit_over
  emit_array_lem zero t = refl
  emit_array_lem (suc n) t = refl

  pub emit_dictionary : (n : ℕ) (b : Basic) (t : Tree) → emit texts big n (dictionary b t)
      ≡ emit_array 123 (entry_alignment b t) (entry_fixed b t) (emit_entry (entry_alignment b t) (entry_fixed b t) (emit_basic texts big b) (emit texts big n t))
  unfolding emit emit_over
  emit_dictionary zero b t = refl
  emit_dictionary (suc n) b t = refl

  pub emit_structure_lem : (nested : ℕ) (ts : Fields) → nested ≤ 64 → value_of texts big nested (structure ts) ≡ emit_structure (largest_alignment ts) (all_fixed ts) (fields_of texts big nested ts)
  unfolding emit emit_over
  emit_structure_lem nested ts h = let e : 65 - nested ≡ suc (64 - nested) = omega arith in rw e

  pub emit_variant_lem : (nested : ℕ) → nested ≤ 64 → value_of texts big nested variant ≡ emit_variant texts big (λ u. emit texts big (64 - nested) u)
  unfolding emit emit_over
  emit_variant_lem nested h = let e : 65 - nested ≡ suc (64 - nested) = omega arith in rw e

  pub emit_over_lem : (nested : ℕ) (t : Tree) → nested ≤ 64 → emit_over texts big (emit_variant texts big (λ u. emit texts big (64 - nested) u)) t ≡ value_of texts big nested t
  unfolding emit
  emit_over_lem nested t h = let e : 65 - nested ≡ suc (64 - nested) = omega arith in rw e

-- ---- keys

pub key_of : (b : Basic) → key_basic (basic_kind b) ≡ b
unfolding basic_among
key_of bool = refl
key_of (number byte) = refl
key_of (number int16) = refl
key_of (number uint16) = refl
key_of (number int32) = refl
key_of (number uint32) = refl
key_of (number int64) = refl
key_of (number uint64) = refl
key_of (number double) = refl
key_of (text string) = refl
key_of (text object_path) = refl
key_of (text signature) = refl

pub is_key : (b : Basic) → IsKey (basic_kind b)
is_key b = record { is = ap basic_kind (key_of b) }

-- ---- items

abbrev item : Bool → Shape → Letter → Bool → ℕ → Bool → Letter → Item
item entry child key keyed a f m = record { entry = entry; child = child; key = key; keyed = keyed; alignment = a; fixed = f; number = m }

same_item : {e e' : Bool} (c : Shape) {k k' : Letter} {x x' : Bool} {a a' : ℕ} {f f' : Bool} (m : Letter)
    → e ≡ e' → k ≡ k' → x ≡ x' → a ≡ a' → f ≡ f' → item e c k x a f m ≡ item e' c k' x' a' f' m
same_item c m p r s t u = cc

-- a dictionary of a key and a value
module _ (text shapes : List ℕ) (at : ℕ) (b : Basic) (t : Tree) (whole : tree_at text at ≡ dictionary b t) (c : Shape) (there : Described text shapes c) (value : tree_at text c.at ≡ t) where
  entry_item_lem : (i : Item) (m : Letter) → i ≡ item true c (basic_kind b) (basic_fixed b) (entry_alignment b t) (entry_fixed b t) m → ItemAt text shapes at i
  unfolding item_of
  entry_item_lem i m e = rw e (record {
    repeated = record {
      child = there;
      aligned = (unfold alignment in aligned (dictionary b t));
      key = λ q. is_key b;
      keyed = λ q. ap basic_fixed (sym (key_of b));
      whole = λ q f. ap basic_fixed (key_of b) ∙ (both_true (basic_fixed b) (fixed t) f).0;
      alone = λ q. absurd (false≢true (sym q));
      loose = λ q. absurd (false≢true (sym q));
      number = λ q. absurd (false≢true (sym q));
    };
    body = λ texts big nested h. rw (whole, value, key_of b) (emit_dictionary texts big (65 - nested) b t);
  })

-- a number, plain or in a maybe
number_item : (l : List ℕ) {t : List ℕ} (c : Shape) → Described l t c → (f : Bool) → f ≡ fixed (tree_at l c.at) → (m : Letter) → m ≡ held_number (letter_at l c.at) (letter_at l (c.at + 1)) → (keyed : Bool) (a d w : ℕ) → m ≡ Number d w → NumberItem l (item false c End keyed a f m) (Number d w)
unfolding fixed
number_item l c there f hf m h keyed a d w z = go (number_held (letter_at l c.at) (letter_at l (c.at + 1)) d w (sym h ∙ z))
  where
    key_is : (n : NumberType) → d ≡ number_letter n → w ≡ number_width n → (key_basic (Number d w) ≡ number n) × IsKey (Number d w)
    key_is n x y = let k : Number d w ≡ basic_kind (number n) = rw (x, y) in (ap key_basic k ∙ key_of (number n), subst⁻¹ IsKey k (is_key (number n)))

    go : (letter_at l c.at ≡ Number d w) ⊎ ((letter_at l c.at ≡ Maybe) × (letter_at l (c.at + 1) ≡ Number d w)) → NumberItem l (item false c End keyed a f m) (Number d w)
    go (inl x) =
        let n = is_number l c.at _ _ d w there.typed.found x in
        let k = key_is n.it n.code_is n.width_is in
        let s : tree_at l c.at ≡ basic (key_basic (Number d w)) = n.type ∙ ap basic (sym k.0) in
        record { key = k.1; whole = ap basic_fixed k.0; plain = λ y. s; held = λ y. absurd (false≢true (sym y ∙ hf ∙ ap fixed n.type)) }
    go (inr (x, y)) =
        let m = is_maybe l c.at _ _ there.typed.found x in
        let n = is_number l (c.at + 1) m.it _ d w m.child y in
        let k = key_is n.it n.code_is n.width_is in
        let s : tree_at l c.at ≡ maybe (basic (key_basic (Number d w))) = m.type ∙ ap maybe (n.type ∙ ap basic (sym k.0)) in
        record { key = k.1; whole = ap basic_fixed k.0; plain = λ y. absurd (false≢true (sym (hf ∙ ap fixed s) ∙ y)); held = λ y. s }

-- an array of an element
module _ (text shapes : List ℕ) (at : ℕ) (t : Tree) (whole : tree_at text at ≡ array t) (c : Shape) (there : Described text shapes c) (value : tree_at text c.at ≡ t) where
  element_item_lem : (i : Item) (keyed : Bool) (m : Letter) → m ≡ held_number (letter_at text c.at) (letter_at text (c.at + 1)) → i ≡ item false c End keyed (alignment t) (fixed t) m → ItemAt text shapes at i
  unfolding item_of
  element_item_lem i keyed m h e = rw e (record {
    repeated = record {
      child = there;
      aligned = aligned t;
      key = λ q. absurd (false≢true q);
      keyed = λ q. absurd (false≢true q);
      whole = λ q. absurd (false≢true q);
      alone = λ q. ap alignment (sym value);
      loose = λ q. ap fixed (sym value);
      number = λ q d w z. number_item text c there (fixed t) (ap fixed (sym value)) m h keyed (alignment t) d w z;
    };
    body = λ texts big nested h. rw (whole, value) (emit_array_lem texts big (65 - nested) t);
  })

-- what the code finds is what the array or dictionary repeats
pub item_at : (l t : List ℕ) (s : Shape) → Described l t s → letter_at l s.at ≡ Array → (i : Item) → i ≡ item_in l t s → ItemAt l t s.at i
item_at l t s d first i e = rw e (opens (letter_at l (s.at + 1)) (λ h. entry (entry_of l t s d first h)) (λ h. element (element_of l t s d first h)))
  where
    entry : EntryOf l t s.at (item_in l t s) → ItemAt l t s.at (item_in l t s)
    entry o = entry_item_lem l t s.at o.key o.it o.tree (item_in l t s).child o.child o.value (item_in l t s) (item_in l t s).number
        (same_item (item_in l t s).child (item_in l t s).number o.entry o.same_key o.same_keyed (unfold alignment in o.same_alignment) o.same_fixed)

    element : ElementOf l t s.at (item_in l t s) → ItemAt l t s.at (item_in l t s)
    element o = element_item_lem l t s.at o.it o.tree (item_in l t s).child o.child o.value (item_in l t s) (item_in l t s).keyed (item_in l t s).number o.same_number
        (same_item (item_in l t s).child (item_in l t s).number o.entry o.same_key refl o.same_alignment o.same_fixed)
