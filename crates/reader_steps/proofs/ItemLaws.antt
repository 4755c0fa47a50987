-- What an array or a dictionary repeats, as a step of reading. Assumes nothing.
use Rattle.std.proofs.Common.{◌≡◌, ℕ, zero, suc, ◌+◌, ◌-◌, ◌<◌, ◌≤◌, Bool, true, false, ◌&&◌, ◌⊎◌, List, length, sym, refl, ap, ◌∙◌, inl, inr, arith}
use mathlib.Core.Path.{subst⁻¹}
use mathlib.Core.Bool.{false≢true}
use Rattle.meaning.specs.Types.{Number as NumberType, number_width, Basic, bool, number, text, Tree, basic, maybe, array, dictionary, basic_fixed, alignment, fixed}
use Rattle.meaning.specs.Letters.{number_letter}
use Rattle.meaning.specs.Depths.{Depths}
use Rattle.meaning.specs.Outcome.{chain, passing}
use Rattle.meaning.specs.Reading.{Reader, Step, read_basic, read_number, read_maybe, read_tree, elements, elements_to, child_step, entry_step, reading}
use Rattle.meaning.proofs.Bounds.{Bounded, basic_bounded, child_step_lem, entry_step_lem, bounded}
use Rattle.meaning.proofs.TypeLaws.{number_aligned, aligned}
use Rattle.signature.specs.Places.{basic_kind, letter_at}
use Rattle.signature.specs.Trees.{tree_at, Typed, Described}
use Rattle.signature.specs.Items.{held_number, item_in, EntryOf, ElementOf}
use Rattle.signature.specs.declared.Letter.{Letter}
use Rattle.signature.specs.declared.Letter.TheVariants.{End, Number, Text, Maybe, Array}
use Rattle.signature.specs.declared.shapes.Shape.{Shape}
use Rattle.signature.specs.declared.items.Item.{Item}
use Rattle.signature.proofs.Dispatch.{is_number, is_maybe}
use Rattle.signature.proofs.ItemLaws.{number_held, entry_of, element_of, opens}
use Rattle.reader_basic.specs.Answers.{Done}
use Rattle.reader_basic.specs.Parts.{KeyAligned, key_reader}
use Rattle.meaning.specs.Calls.{Counts}
use Rattle.meaning.specs.Choice.{pick}
use Rattle.meaning.specs.Outcome.{Outcome}
use Rattle.meaning.specs.Reading.{read_text}
use Rattle.meaning.proofs.Tests.{both_true}
use Rattle.container_depths.specs.Opening.{depths_of}
use Rattle.framing_offsets.specs.declared.OffsetTable.{OffsetTable}
use Rattle.signature.proofs.TreeLaws.{described_kind}
use Rattle.reader_basic.specs.Parts.{elements_by}
use Rattle.reader_basic.specs.declared.Context.{Context}
use Rattle.reader_steps.specs.Places.{body_in, item_step, step_in, value_at, element_kind, framed_of, Repeated, ItemAt, NumberStep}
use Rattle.reader_steps.proofs.Readers.{number_by, width_by_lem, reads_text}

abbrev item : Bool → Shape → Letter → Bool → ℕ → Bool → Letter → Item
item entry child key keyed a f m = record { entry = entry; child = child; key = key; keyed = keyed; alignment = a; fixed = f; number = m }

same_item : {e e' : Bool} (c : Shape) {k k' : Letter} {x x' : Bool} {a a' : ℕ} {f f' : Bool} {m m' : Letter}
    → e ≡ e' → k ≡ k' → x ≡ x' → a ≡ a' → f ≡ f' → m ≡ m' → item e c k x a f m ≡ item e' c k' x' a' f' m'
same_item c p r s t u v = cc

-- a key by its letter
pub key_reader_lem : (position : ℕ) (big : Bool) (b : Basic) → read_basic position big b ≡ key_reader position big (basic_kind b)
unfolding read_basic
key_reader_lem position big bool = refl
key_reader_lem position big (number c) = refl
key_reader_lem position big (text c) = refl

pub key_aligned : (b : Basic) → KeyAligned (basic_kind b)
key_aligned bool = tt
key_aligned (number c) = number_aligned c
key_aligned (text c) = tt

-- a step that is fixed uses a byte
entry_pays : (position a : ℕ) (fk fv : Bool) (key value : Reader) → Bounded fk key → Bounded fv value → (fk && fv) ≡ true → (d : Depths) (k : ℕ) (l : List ℕ) (b j : ℕ) → j ≤ length l
    → (entry_step position a fk (fk && fv) key value d k l b j (length l)).refusal ≡ 0 → 0 < (entry_step position a fk (fk && fv) key value d k l b j (length l)).used
entry_pays position a true true key value wk wv e d k l b j h z = let g = entry_step_lem position a true true key value wk wv d k l b j h in omega (arith, g.least z)
entry_pays position a true false key value wk wv e d k l b j h z = absurd (false≢true e)
entry_pays position a false fv key value wk wv e d k l b j h z = absurd (false≢true e)

child_pays : (position : ℕ) (f : Bool) (read : Reader) → Bounded f read → f ≡ true → (d : Depths) (k : ℕ) (l : List ℕ) (b j : ℕ) → j ≤ length l
    → (child_step read d k l b j (length l)).refusal ≡ 0 → 0 < (child_step read d k l b j (length l)).used
child_pays position true read w e d k l b j h z = let g = child_step_lem position true read w d k l b j h in omega (arith, g.least z)
child_pays position false read w e d k l b j h z = absurd (false≢true e)

-- a dictionary of a key and a value
module _ (text shapes : List ℕ) (at : ℕ) (b : Basic) (t : Tree) (whole : tree_at text at ≡ dictionary b t) (c : Shape) (there : Described text shapes c) (value : tree_at text c.at ≡ t) where
  entry_item_lem : (i : Item) → i ≡ item true c (basic_kind b) (basic_fixed b) (alignment (dictionary b t)) (basic_fixed b && fixed t) End → ItemAt text shapes at i
  unfolding body_in alignment
  entry_item_lem i e = rw e (record {
    repeated = record {
      child = there;
      aligned = aligned (dictionary b t);
      key = key_aligned b;
      keyed = λ f y. (both_true (basic_fixed b) (fixed t) f).0;
      number = λ c w q. let y : ◌≡◌ {A = ℕ} 0 1 = cc in absurd (omega arith);
      pays = λ f position big nested d k l s j h. rw (value, ← key_reader_lem position big b)
          (entry_pays position (alignment (dictionary b t)) (basic_fixed b) (fixed t) (read_basic position big b) (reading position big (65 - nested) t)
          (basic_bounded position big b) (bounded position big (65 - nested) t) f d k l s j h);
    };
    body = λ position big nested d k l n. rw (whole, value, key_reader_lem position big b);
  })

-- a number in a maybe
maybe_read : (position : ℕ) (big : Bool) (n : ℕ) (it : NumberType)
    → reading position big n (maybe (basic (number it))) ≡ read_maybe position (number_width it) true (read_number position big (number_letter it) (number_width it))
unfolding reading read_tree read_basic alignment fixed
maybe_read position big zero it = refl
maybe_read position big (suc n) it = refl

maybe_by_lem : (position : ℕ) (big : Bool) (n c w : ℕ) (t : Tree) (it : NumberType) → t ≡ maybe (basic (number it)) → c ≡ number_letter it → w ≡ number_width it
    → reading position big n t ≡ read_maybe position w true (read_number position big c w)
maybe_by_lem position big n c w t it e f g = rw (e, f, g) (maybe_read position big n it)

-- an element that is a number, or holds one in a maybe
module _ (text : List ℕ) (at : ℕ) (typed : Typed text at) (i : Item) (e : i.entry ≡ false) (a : i.child.at ≡ at) (f : i.fixed ≡ fixed (tree_at text at)) where
  step_is : (position : ℕ) (big : Bool) (nested : ℕ) (R : Reader) → reading position big (65 - nested) (tree_at text at) ≡ R → item_step position big nested text i ≡ child_step R
  step_is position big nested R q = rw (e, a, q)

  pub number_step : (num : Letter) → num ≡ held_number (letter_at text at) (letter_at text (at + 1)) → (c w : ℕ) → num ≡ Number c w → NumberStep text i c w
  unfolding fixed
  number_step num h c w q = go (number_held (letter_at text at) (letter_at text (at + 1)) c w (sym h ∙ q))
    where
      go : (letter_at text at ≡ Number c w) ⊎ ((letter_at text at ≡ Maybe) × (letter_at text (at + 1) ≡ Number c w)) → NumberStep text i c w
      go (inl x) =
          let n = is_number text at (tree_at text at) _ c w typed.found x in
          let s : tree_at text at ≡ basic (number n.it) = n.type in
          record {
            aligned = width_by_lem w n.it n.width_is;
            plain = λ y position big nested. step_is position big nested _ (number_by position big (65 - nested) c w (tree_at text at) n.it s n.code_is n.width_is);
            held = λ y. absurd (false≢true (sym y ∙ f ∙ ap fixed s));
          }
      go (inr (x, y)) =
          let m = is_maybe text at (tree_at text at) _ typed.found x in
          let n = is_number text (at + 1) m.it _ c w m.child y in
          let s : tree_at text at ≡ maybe (basic (number n.it)) = m.type ∙ ap maybe n.type in
          record {
            aligned = width_by_lem w n.it n.width_is;
            plain = λ y. absurd (false≢true (sym (ap fixed s) ∙ sym f ∙ y));
            held = λ y position big nested. step_is position big nested _ (maybe_by_lem position big (65 - nested) c w (tree_at text at) n.it s n.code_is n.width_is);
          }

-- an array of an element
module _ (text shapes : List ℕ) (at : ℕ) (t : Tree) (whole : tree_at text at ≡ array t) (c : Shape) (there : Described text shapes c) (value : tree_at text c.at ≡ t) where
  child_item : (i : Item) (keyed : Bool) (num : Letter) → num ≡ held_number (letter_at text c.at) (letter_at text (c.at + 1))
      → i ≡ item false c End keyed (alignment t) (fixed t) num → ItemAt text shapes at i
  unfolding body_in
  child_item i keyed num h e = rw e (record {
    repeated = record {
      child = there;
      aligned = aligned t;
      key = tt;
      keyed = λ f y. absurd (false≢true y);
      number = number_step text c.at there.typed _ refl refl (ap fixed (sym value)) num h;
      pays = λ f position big nested d k l s j h. rw value
          (child_pays position (fixed t) (reading position big (65 - nested) t) (bounded position big (65 - nested) t) f d k l s j h);
    };
    body = λ position big nested d k l n. rw (whole, value);
  })

-- what the code finds is what the array or dictionary repeats
pub item_at : (l t : List ℕ) (s : Shape) → Described l t s → letter_at l s.at ≡ Array → (i : Item) → i ≡ item_in l t s → ItemAt l t s.at i
item_at l t s d first i e = rw e (opens (letter_at l (s.at + 1)) (λ h. entry (entry_of l t s d first h)) (λ h. element (element_of l t s d first h)))
  where
    entry : EntryOf l t s.at (item_in l t s) → ItemAt l t s.at (item_in l t s)
    entry o = entry_item_lem l t s.at o.key o.it o.tree (item_in l t s).child o.child o.value (item_in l t s)
        (same_item (item_in l t s).child o.entry o.same_key o.same_keyed o.same_alignment o.same_fixed o.same_number)

    element : ElementOf l t s.at (item_in l t s) → ItemAt l t s.at (item_in l t s)
    element o = child_item l t s.at o.it o.tree (item_in l t s).child o.child o.value (item_in l t s) (item_in l t s).keyed (item_in l t s).number o.same_number
        (same_item (item_in l t s).child o.entry o.same_key refl o.same_alignment o.same_fixed refl)

-- arrays of numbers, as what is repeated in them
module _ (text : List ℕ) (i : Item) (c w : ℕ) (q : NumberStep text i c w) (position : ℕ) (big : Bool) (nested : ℕ) (d : Depths) (place : ℕ) (part : List ℕ) (b lead end len n : ℕ) (l l' : List ℕ) (r : Counts) where
  pub plain_numbers : i.fixed ≡ true → ((d : Depths) (b : ℕ) → Done (elements (length part) (child_step (read_number position big c w) d place part b) (length part) lead) end len n l l' r)
      → Done (elements (length part) (item_step position big nested text i d place part b) (length part) lead) end len n l l' r
  plain_numbers f g = subst⁻¹ (λ (s : Step). Done (elements (length part) (s d place part b) (length part) lead) end len n l l' r) (q.plain f position big nested) (g d b)

  pub held_numbers : (ends : List ℕ) (more : ℕ) → i.fixed ≡ false
      → Done (chain (elements_to (child_step (read_maybe position w true (read_number position big c w)) d place part b) lead ends lead) (passing more)) end len n l l' r
      → Done (chain (elements_to (item_step position big nested text i d place part b) lead ends lead) (passing more)) end len n l l' r
  held_numbers ends more f g = subst⁻¹ (λ (s : Step). Done (chain (elements_to (s d place part b) lead ends lead) (passing more)) end len n l l' r) (q.held f position big nested) g

-- the elements are texts
pub held_texts : (c : Context) (x shapes : List ℕ) (i : Item) (k : ℕ) → Repeated x shapes i → Text k ≡ element_kind i → (t : OffsetTable) (place : ℕ) (part : List ℕ) (lead end len n : ℕ) (l l' : List ℕ) (r : Counts)
    → ((d : Depths) → Done (elements_by (child_step (read_text k) d place part (lead + t.start)) t part lead) end len n l l' r) → Done (framed_of c x i t place part lead) end len n l l' r
held_texts c x shapes i k w e t place part lead end len n l l' r g = go i.entry refl e
  where
    go : (b : Bool) → i.entry ≡ b → Text k ≡ pick b End i.child.kind → Done (framed_of c x i t place part lead) end len n l l' r
    go true h q = let y : ◌≡◌ {A = ℕ} 0 1 = cc in absurd (omega arith)
    go false h q =
        let a : letter_at x i.child.at ≡ Text k = sym (q ∙ described_kind w.child) in
        let s : step_in c x i ≡ child_step (read_text k) (depths_of c.depths) =
        ap (λ (b : Bool). pick b (entry_step c.position i.alignment i.keyed i.fixed (key_reader c.position c.big i.key) (value_at c (tree_at x i.child.at))) (child_step (value_at c (tree_at x i.child.at))) (depths_of c.depths)) h
        ∙ ap (λ (R : Reader). child_step R (depths_of c.depths)) (reads_text x i.child.at w.child.typed c.position c.big c.depths.variant k a) in
        subst⁻¹ (λ (f : ℕ → List ℕ → ℕ → ℕ → ℕ → Outcome). Done (elements_by (f place part (lead + t.start)) t part lead) end len n l l' r) s (g (depths_of c.depths))
