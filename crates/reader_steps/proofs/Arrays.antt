-- A law for each way out of the readers of arrays and dictionaries. Assumes nothing.
use Rattle.std.proofs.Common.{◌≡◌, ℕ, ◌+◌, ◌-◌, ◌<◌, ◌≤◌, Bool, true, false, List, [], length, take, drop, sym, refl, ap, ◌∙◌, arith, length-drop, drop_of_length-le, drop-drop}
use mathlib.Core.Path.{subst⁻¹}
use Rattle.meaning.specs.Choice.{pick}
use Rattle.meaning.specs.Depths as Depth
use Rattle.meaning.specs.Depths.{Depths}
use Rattle.meaning.specs.Numbers.{value}
use Rattle.meaning.specs.Letters.{container_end}
use Rattle.meaning.specs.Offsets.{Table, first_width, encoded_width, entries, none_above, table_from, table_of, ends_of, table_stands}
use Rattle.meaning.specs.Events.{event, opening}
use Rattle.meaning.specs.Outcome.{Outcome, done, refused, chain, passing, closing_at, enclosed}
use Rattle.meaning.specs.Reading.{Step, elements, elements_to, tabled, array_body, array_in}
use Rattle.container_depths.specs.Opening.{depths_of}
use Rattle.framing_offset_size.specs.Widths.{width_of}
use Rattle.framing_offset_size.proofs.WidthLaws.{width_positive}
use Rattle.framing_offsets.specs.Tables.{table_in, empty_table, EncodedArray, Encoded, offset_in}
use Rattle.framing_offsets.specs.Held.{held_table}
use Rattle.framing_offsets.specs.declared.OffsetTable.{OffsetTable}
use Rattle.utils.specs.Checks.{Checked}
use Rattle.framing_offsets.proofs.HeldLaws.{offset_through}
use Rattle.events.specs.Slices.{next_event, put}
use Rattle.reader_basic.specs.Answers.{Done, From}
use Rattle.signature.specs.Trees.{tree_at}
use Rattle.reader_steps.specs.Openings.{Inner, Deeper, Opens}
use Rattle.reader_steps.specs.Places.{inside_of, item_step, elements_of, framed_of, ItemAt, Repeated}
use Rattle.meaning.specs.Calls.{Counts}
use Rattle.reader_basic.specs.declared.Context.{Context}
use Rattle.signature.specs.declared.items.Item.{Item}
use Rattle.signature.specs.Items.{item_kind}
use Rattle.reader_basic.proofs.Answers.{answer, refusing, plain, after_event}
use Rattle.reader_basic.proofs.Leaves.{closed}
use Rattle.reader_basic.proofs.Loops.{elements_none}
use Rattle.reader_steps.proofs.Deepening.{too_deep, within_open, same_inside}

pub enclosed_on : (kind p end len n m : ℕ) (l l₁ l' : List ℕ) (o : Outcome) (s : Counts) → m ≡ next_event n → l₁ ≡ put l n (event kind p 0) → Done (chain o (closing_at p)) end len m l₁ l' s → Done (enclosed kind p o) end len n l l' s
unfolding enclosed
enclosed_on kind p end len n m l l₁ l' o s a b d = after_event end len n m l l₁ l' (opening kind p) (chain o (closing_at p)) s a b d

-- an array's body, by whether its elements are fixed and whether its table stands
module _ (kind : ℕ) (fx : Bool) (step : Step) (k : ℕ) (l : List ℕ) (n : ℕ) (d : Depths) where
  body_fixed : fx ≡ true → array_body kind fx step k l n d ≡ enclosed kind (k + n) (elements (length l) (step d k l (length l)) (length l) n)
  unfolding array_body
  body_fixed f = rw f

  body_no_table : fx ≡ false → table_stands (table_of (drop n l)) (drop n l) ≡ false → array_body kind fx step k l n d ≡ refused 3 (k + n)
  unfolding array_body tabled
  body_no_table f b = rw f (rw b)

  body_tabled : fx ≡ false → table_stands (table_of (drop n l)) (drop n l) ≡ true → (t : Table) → table_of (drop n l) ≡ t
      → array_body kind fx step k l n d ≡ enclosed kind (k + n) (chain (elements_to (step d k l (n + t.start)) n (ends_of t (drop n l)) n) (passing (length l - (n + t.start))))
  unfolding array_body tabled
  body_tabled f b t e = rw f (rw (b, e))

-- and where no byte is left for it
no_table_stands : table_stands (table_of []) [] ≡ true
unfolding table_stands table_of table_from ends_of entries encoded_width first_width value none_above
no_table_stands = refl

no_table_is : table_of [] ≡ empty_table
unfolding table_of table_from encoded_width first_width value
no_table_is = refl

module _ (kind : ℕ) (step : Step) (k : ℕ) (l : List ℕ) (n : ℕ) (d : Depths) (h : length l ≤ n) where
  no_ends : chain (elements_to (step d k l (n + 0)) n (ends_of empty_table (drop n l)) n) (passing (length l - (n + 0))) ≡ done 0 []
  unfolding chain elements_to ends_of entries
  no_ends = let z : 0 + (length l - (n + 0)) ≡ 0 = omega arith in ap (λ (u : ℕ). done u []) z

  body_empty : (fx : Bool) → array_body kind fx step k l n d ≡ enclosed kind (k + n) (done 0 [])
  unfolding array_body
  body_empty true = ap (λ (o : Outcome). enclosed kind (k + n) o) (elements_none (step d k l (length l)) l n 0 [] (length l) n h)
  body_empty false =
      let e : drop n l ≡ [] = drop_of_length-le l h in
      body_tabled kind false step k l n d refl (rw e no_table_stands) empty_table (rw e no_table_is) ∙ ap (λ (o : Outcome). enclosed kind (k + n) o) no_ends

pub empty_done : (kind p end len n m count : ℕ) (l l₁ l' : List ℕ) → m ≡ next_event n → l₁ ≡ put l n (event kind p 0) → count ≡ next_event m → l' ≡ put l₁ m (event container_end p 0)
    → Done (enclosed kind p (done 0 [])) end len n l l' (answer 0 0 count)
empty_done kind p end len n m count l l₁ l' a b c e =
    let z : p + 0 ≡ p = omega arith in
    enclosed_on kind p end len n m l l₁ l' (done 0 []) (answer 0 0 count) a b
    (closed end len m count p l₁ l₁ l' (done 0 []) (answer 0 0 m) refl c (rw z e) (plain 0 end len m l₁ (omega arith) (omega arith)))

-- ---- the ways out of array
module _ {text shapes : List ℕ} {at : ℕ} {i : Item} (a : ItemAt text shapes at i) (part : List ℕ) (lead place : ℕ) (c : Context) (n : ℕ) (l : List ℕ) where
  abbrev body : Outcome
  body = inside_of c (tree_at text at) place part lead

  pub array_deep : {r : Inner} → Opens Depth.array c r → (r.refusal ≡ 0 → ⊥) → From body part lead n l l (answer r.refusal 0 n)
  unfolding array_in
  array_deep o z = rw (a.body c.position c.big c.depths.variant c.depths place part lead) (too_deep (place + lead) _ _ _ n l o z)

  module _ {c' : Context} (d : Deeper Depth.array c c') where
    opened_body : body ≡ array_body (item_kind i) i.fixed (item_step c'.position c'.big c'.depths.variant text i) place part lead (depths_of c'.depths)
    unfolding array_in
    opened_body =
        a.body c.position c.big c.depths.variant c.depths place part lead
        ∙ within_open d (place + lead) (array_body (item_kind i) i.fixed (item_step c.position c.big c.depths.variant text i) place part lead)
        ∙ ap (λ (x : Step). array_body (item_kind i) i.fixed x place part lead (depths_of c'.depths))
        (same_inside d (λ y w v. item_step y w v text i) c.depths.variant (ap (λ (y : Depths). y.variant) d.depths))

    pub array_fixed : (m : ℕ) (l₁ l' : List ℕ) (s : Counts) → i.fixed ≡ true → m ≡ next_event n → l₁ ≡ put l n (event (item_kind i) (place + lead) 0)
        → From (chain (elements_of c' text i place part lead) (closing_at (place + lead))) part lead m l₁ l' s → From body part lead n l l' s
    array_fixed m l₁ l' s f p q g =
        rw (opened_body ∙ body_fixed (item_kind i) i.fixed (item_step c'.position c'.big c'.depths.variant text i) place part lead (depths_of c'.depths) f)
        (enclosed_on (item_kind i) (place + lead) _ _ n m l l₁ l' _ s p q g)

    pub array_empty : (kind : ℕ) (l' : List ℕ) (s : Counts) → length part ≤ lead → kind ≡ item_kind i → ((end len : ℕ) → Done (enclosed kind (place + lead) (done 0 [])) end len n l l' s) → From body part lead n l l' s
    array_empty kind l' s h e g =
        rw (opened_body ∙ body_empty (item_kind i) (item_step c'.position c'.big c'.depths.variant text i) place part lead (depths_of c'.depths) h i.fixed, ← e)
        (g (length part - lead) (length part - lead))

    module _ (f : i.fixed ≡ false) (e : EncodedArray) (t : Encoded (drop lead part) e) where
      table_is : (b : Bool) → e.refusal ≡ pick b 0 3 → e.refusal ≡ 0 → b ≡ true
      table_is true h y = refl
      table_is false h y = absurd (omega arith)

      no_table : (b : Bool) → e.refusal ≡ pick b 0 3 → (e.refusal ≡ 0 → ⊥) → b ≡ false
      no_table true h y = absurd (y h)
      no_table false h y = refl

      three : (b : Bool) → e.refusal ≡ pick b 0 3 → (e.refusal ≡ 0 → ⊥) → e.refusal ≡ 3
      three true h y = absurd (y h)
      three false h y = h

      pub array_no_table : (e.refusal ≡ 0 → ⊥) → From body part lead n l l (answer e.refusal 0 n)
      array_no_table y = subst⁻¹ (λ (k : ℕ). From body part lead n l l (answer k 0 n)) (three (table_stands (table_of (drop lead part)) (drop lead part)) t.refusal y)
          (rw (opened_body ∙ body_no_table (item_kind i) i.fixed (item_step c'.position c'.big c'.depths.variant text i) place part lead (depths_of c'.depths) f (no_table _ t.refusal y))
          (refusing 3 (place + lead) _ _ n l (λ w. omega arith)))

      pub array_framed : (m : ℕ) (l₁ l' : List ℕ) (s : Counts) → e.refusal ≡ 0 → m ≡ next_event n → l₁ ≡ put l n (event (item_kind i) (place + lead) 0)
          → From (chain (framed_of c' text i e.offsets place part lead) (closing_at (place + lead))) part lead m l₁ l' s → From body part lead n l l' s
      array_framed m l₁ l' s y p q g =
          let b = table_is _ t.refusal y in
          let w : table_in e.offsets ≡ table_of (drop lead part) = t.table ∙ ap (λ (x : Bool). pick x (table_of (drop lead part)) empty_table) b in
          rw (opened_body ∙ body_tabled (item_kind i) i.fixed (item_step c'.position c'.big c'.depths.variant text i) place part lead (depths_of c'.depths) f b (table_in e.offsets) (sym w))
          (enclosed_on (item_kind i) (place + lead) _ _ n m l l₁ l' _ s p q g)

-- what the bytes of a table say of an offset is what the table says of it in its container
pub offset_told : (o : OffsetTable) (i lead : ℕ) (part : List ℕ) {r : Checked} → i < o.count
    → r ≡ offset_in (held_table (width_of o.size) (take (length part - (lead + o.start)) (drop (lead + o.start) part))) i (take (length part - (lead + o.start)) (drop (lead + o.start) part))
    → r ≡ offset_in (table_in o) i (drop lead part)
offset_told o i lead part h e =
    let z : length part - (lead + o.start) ≡ length (drop lead part) - o.start = simp length-drop (omega arith) in
    offset_through (table_in o) i (drop lead part) h (width_positive o.size) (rw (z, sym (drop-drop o.start lead part)) at e)

-- a fixed step that is done uses a byte
pub item_least : (text shapes : List ℕ) (i : Item) → Repeated text shapes i → i.fixed ≡ true → (position : ℕ) (big : Bool) (nested : ℕ) (d : Depths) (place : ℕ) (part : List ℕ) (b j end len n : ℕ) (l l' : List ℕ) (r : Counts)
    → j ≤ length part → Done (item_step position big nested text i d place part b j (length part)) end len n l l' r → r.refusal ≡ 0 → 0 < r.used
item_least text shapes i p f position big nested d place part b j end len n l l' r h g z = omega (arith, g.used, p.pays f position big nested d place part b j h (sym g.refusal ∙ z))
