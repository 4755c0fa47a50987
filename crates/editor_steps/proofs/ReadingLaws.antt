-- A law for each way out of a reading, by the letter of what its maybe holds. Assumes nothing.
use types.Run.{OneOf, miss}
use denote.Enum.Declared.{tag_of}
use mathlib.Core.Path.{◌≡◌, refl, sym, ap, ◌∙◌, subst}
use mathlib.Core.List.{List, [], ◌∷◌}
use mathlib.Core.Option.{none, some}
use mathlib.Core.Bool.{Bool, true, false}
use Prim.Native.Nat.{ℕ, ◌+◌, ◌-◌, ◌%◌, ◌^◌, ◌≤◌, ◌<◌}
use native.Mathlib.Omega.{arith}
use lib.Dec.{leb}
use lib.ListN.{length, drop}
use borrow.Author.Tests.{eq-eqb, ne_eqb, leb-true}
use Rattle.meaning.specs.Numbers.{bytes, ordered}
use Rattle.meaning.specs.Depths as Depth
use Rattle.meaning.specs.Depths.{Depths, depth_refusal, opened}
use Rattle.meaning.specs.Types.{Tree, number_width}
use Rattle.meaning.proofs.NumberLaws.{length_bytes, length_ordered}
use Rattle.meaning_writing.specs.Readings.{MaybeNumber, spot_at, spells, may_stand, Slot, of_bool, of_number, slot_type}
use Rattle.meaning_writing.specs.Edited.{Editor, slot_bytes, maybe_editor}
use Rattle.container_depths.specs.declared.ContainerDepths.{ContainerDepths}
use Rattle.signature.specs.Places.{basic_kind}
use Rattle.signature.specs.declared.Letter.{Letter}
use Rattle.signature.specs.declared.Letter.TheVariants.{End, Bad, Boolean, Number, Text, Variant, Maybe, Array, OpenStructure, CloseStructure, OpenEntry, CloseEntry}
use Rattle.signature.specs.contracts.Letter.{the_type}
use Rattle.strict_basic.specs.Basics.{letter_extent}
use Rattle.strict_ends.specs.Ends.{Laid}
use Rattle.strict_ends.specs.declared.Extent.{Extent}
use Rattle.editor_basic.specs.Puts.{over}
use Rattle.editor_steps.specs.declared.answers.Aim.{Aim}
use Rattle.std.specs.Prelude.{None, Some}
use Rattle.editor_steps.specs.Walked.{Walked, counted_as, refused_as, edited_as}
use Rattle.editor_steps.specs.Walks.{new_of, barred, Walks, most}
use Rattle.editor_steps.specs.Slots.{is_slot, letter_spells}
use Rattle.editor_steps.proofs.WalkLaws.{unfound, counts}

-- ---- letters

abbrev slotless : List ℕ
slotless = 0 ∷ 1 ∷ 4 ∷ 5 ∷ 6 ∷ 7 ∷ 8 ∷ 9 ∷ 10 ∷ 11 ∷ []

pub slot_not : (k : Letter) → OneOf slotless (tag_of the_type k) → false ≡ is_slot k
slot_not End h = refl
slot_not Bad h = refl
slot_not Boolean h = absurd (miss slotless 2 tt h)
slot_not (Number c w) h = absurd (miss slotless 3 tt h)
slot_not (Text c) h = refl
slot_not Variant h = refl
slot_not Maybe h = refl
slot_not Array h = refl
slot_not OpenStructure h = refl
slot_not CloseStructure h = refl
slot_not OpenEntry h = refl
slot_not CloseEntry h = refl

abbrev numberless : List ℕ
numberless = 0 ∷ 1 ∷ 2 ∷ 4 ∷ 5 ∷ 6 ∷ 7 ∷ 8 ∷ 9 ∷ 10 ∷ 11 ∷ []

pub spells_bool : (k : Letter) (n : ℕ) → OneOf numberless (tag_of the_type k) → leb n 1 ≡ letter_spells k n
spells_bool End n h = refl
spells_bool Bad n h = refl
spells_bool Boolean n h = refl
spells_bool (Number c w) n h = absurd (miss numberless 3 tt h)
spells_bool (Text c) n h = refl
spells_bool Variant n h = refl
spells_bool Maybe n h = refl
spells_bool Array n h = refl
spells_bool OpenStructure n h = refl
spells_bool CloseStructure n h = refl
spells_bool OpenEntry n h = refl
spells_bool CloseEntry n h = refl

-- ---- what bars a reading

spelled_is : {u : Tree} (s : Slot u) (k : Letter) (n : ℕ) → k ≡ basic_kind (slot_type s) → spells (slot_type s) (some n) ≡ letter_spells k n
unfolding spells
spelled_is of_bool k n h = ap (λ (x : Letter). letter_spells x n) (sym h)
spelled_is (of_number c) k n h = ap (λ (x : Letter). letter_spells x n) (sym h)

none_spells : {u : Tree} (s : Slot u) → spells (slot_type s) none ≡ true
unfolding spells
none_spells of_bool = refl
none_spells (of_number c) = refl

module _ {u : Tree} (s : Slot u) (p : ℕ) (d : Depths) where
  pub bars_none : 0 ≡ barred (spot_at (slot_type s) p d) none
  unfolding barred may_stand
  bars_none = rw (none_spells s)

  module _ (k : Letter) (n : ℕ) (h : k ≡ basic_kind (slot_type s)) where
    pub bars_value : letter_spells k n ≡ false → 17 ≡ barred (spot_at (slot_type s) p d) (some n)
    unfolding barred
    bars_value f = rw (spelled_is s k n h, f)

    pub bars_depth : letter_spells k n ≡ true → (depth_refusal (opened Depth.maybe d) ≡ 0 → ⊥) → 12 ≡ barred (spot_at (slot_type s) p d) (some n)
    unfolding barred may_stand
    bars_depth f z = rw (spelled_is s k n h, f, ne_eqb (depth_refusal (opened Depth.maybe d)) 0 z)

    pub bars_not : letter_spells k n ≡ true → depth_refusal (opened Depth.maybe d) ≡ 0 → 0 ≡ barred (spot_at (slot_type s) p d) (some n)
    unfolding barred may_stand
    bars_not f z = rw (spelled_is s k n h, f, eq-eqb (depth_refusal (opened Depth.maybe d)) 0 z)

-- ---- its bytes

one_byte : (big : Bool) (n : ℕ) → n ≤ 1 → ordered big (bytes 1 n) ≡ n ∷ []
unfolding bytes
one_byte true n h = let e : n % 256 ≡ n = omega arith in rw e
one_byte false n h = let e : n % 256 ≡ n = omega arith in rw e

pub slot_bytes_lem : (big : Bool) {u : Tree} (s : Slot u) (k : Letter) (n : ℕ) → k ≡ basic_kind (slot_type s) → letter_spells k n ≡ true
    → (slot_bytes big s (some n) ≡ ordered big (bytes (letter_extent k).size n)) × ((letter_extent k).size ≡ length (slot_bytes big s (some n)))
unfolding slot_bytes
slot_bytes_lem big of_bool k n h f =
    let q : (letter_extent k).size ≡ 1 = ap (λ (x : Letter). (letter_extent x).size) h in
    let g : n ≤ 1 = leb-true n 1 (ap (λ (x : Letter). letter_spells x n) (sym h) ∙ f) in
    (sym (ap (λ (w : ℕ). ordered big (bytes w n)) q ∙ one_byte big n g), q)
slot_bytes_lem big (of_number c) k n h f =
    let q : (letter_extent k).size ≡ number_width c = ap (λ (x : Letter). (letter_extent x).size) h in
    (ap (λ (w : ℕ). ordered big (bytes w n)) (sym q), q ∙ sym (length_ordered big (bytes (number_width c) n) ∙ length_bytes (number_width c) n))

-- ---- the walk over it

module _ (big : Bool) {u : Tree} (s : Slot u) (a : ℕ) (fx : Bool) (t : Editor) (d : Depths) (p : ℕ) (l : List ℕ) (i : ℕ) (x : MaybeNumber) (m : ℕ) (out : List ℕ) where
  abbrev e : Editor
  e = maybe_editor big (some s) a fx t

  pub slot_past : (r : Walked) → r ≡ counted_as 1 → 0 < i → Walks e d p l i x m out out r
  slot_past r h g = counts e d p l i x m out out 1 r h (unfold maybe_editor in refl) (omega arith) refl

  pub slot_refused : (r : Walked) (k : ℕ) → i ≤ 0 → r ≡ refused_as k → (k ≡ 0 → ⊥) → k ≡ barred (spot_at (slot_type s) p d) x → Walks e d p l i x m out out r
  unfolding maybe_editor
  slot_refused r k g h z b =
      let ref : r.refusal ≡ k = ap (λ (v : Walked). v.refusal) h in
      record {
        past = λ f. unfound f (ap (λ (v : Walked). v.found) h);
        here = λ f. record { within = omega arith; refusal_is = ref ∙ b; kept = λ q. refl; made = λ q. absurd (z (sym ref ∙ q)) };
      }

  pub slot_made : (out' : List ℕ) (r : Walked) (n : ℕ) → i ≤ 0 → r ≡ edited_as p n → 0 ≡ barred (spot_at (slot_type s) p d) x → n ≡ length (slot_bytes big s x) → n ≤ m
      → out' ≡ over out 0 (slot_bytes big s x) → Walks e d p l i x m out out' r
  unfolding maybe_editor
  slot_made out' r n g h b q k o =
      let pr : r.place ≡ p = ap (λ (v : Walked). v.place) h in
      let lr : r.length ≡ n = ap (λ (v : Walked). v.length) h in
      let ref : r.refusal ≡ 0 = ap (λ (v : Walked). v.refusal) h in
      let z : r.place - p ≡ 0 = omega arith in
      record {
        past = λ f. unfound f (ap (λ (v : Walked). v.found) h);
        here = λ f. record {
          within = omega arith;
          refusal_is = ref ∙ b;
          kept = λ y. absurd (y ref);
          made = λ y. record {
            place_is = pr;
            after = omega arith;
            inside = omega arith;
            length_is = lr ∙ q;
            short = omega arith;
            bytes_is = o ∙ ap (λ (j : ℕ). over out 0 (drop j (slot_bytes big s x))) (sym z);
          };
        };
      }

pub width_small : (k : Letter) → Laid (letter_extent k) → (x : Extent) → x ≡ letter_extent k → 0 + x.size < 2 ^ 32
width_small k g x h = let q = ap (λ (y : Extent). y.size) h in omega (arith, g.small)

module _ (aim : Aim) {u : Tree} (s : Slot u) (a : ℕ) (fx : Bool) (t : Editor) (d : Depths) (p : ℕ) (l : List ℕ) (i m : ℕ) (out out' : List ℕ) (r : Walked) where
  pub nothing_put : i ≤ 0 → r ≡ edited_as p 0 → aim.new ≡ None → out' ≡ out → Walks (maybe_editor aim.big (some s) a fx t) d p l i (new_of aim.new) m out out' r
  unfolding slot_bytes over
  nothing_put g h q o =
      ap_new q (slot_made aim.big s a fx t d p l i none m out out' r 0 g h (bars_none s p d) (bytes_none aim.big s) (omega arith) (o ∙ ap (λ (z : List ℕ). over out 0 z) (sym (none_bytes aim.big s))))
    where
      bytes_none : (big : Bool) {v : Tree} (s : Slot v) → 0 ≡ length (slot_bytes big s none)
      bytes_none big of_bool = refl
      bytes_none big (of_number c) = refl

      none_bytes : (big : Bool) {v : Tree} (s : Slot v) → slot_bytes big s none ≡ []
      none_bytes big of_bool = refl
      none_bytes big (of_number c) = refl

      ap_new : aim.new ≡ None → Walks (maybe_editor aim.big (some s) a fx t) d p l i none m out out' r → Walks (maybe_editor aim.big (some s) a fx t) d p l i (new_of aim.new) m out out' r
      ap_new q w = subst (λ (x : MaybeNumber). Walks (maybe_editor aim.big (some s) a fx t) d p l i x m out out' r) (sym (ap new_of q)) w

  pub number_put : (n : ℕ) → i ≤ 0 → aim.new ≡ Some n → Walks (maybe_editor aim.big (some s) a fx t) d p l 0 (some n) m out out' r
      → Walks (maybe_editor aim.big (some s) a fx t) d p l i (new_of aim.new) m out out' r
  number_put n g q w =
      let z : i ≡ 0 = omega arith in
      subst (λ (j : ℕ). Walks (maybe_editor aim.big (some s) a fx t) d p l j (new_of aim.new) m out out' r) (sym z)
      (subst (λ (x : MaybeNumber). Walks (maybe_editor aim.big (some s) a fx t) d p l 0 x m out out' r) (sym (ap new_of q)) w)

pub put_made : (big : Bool) {u : Tree} (s : Slot u) (a : ℕ) (fx : Bool) (t : Editor) (d : Depths) (p : ℕ) (l : List ℕ) (m : ℕ) (out out' : List ℕ) (r : Walked) (k : Letter) (n : ℕ) (x : Extent)
    → k ≡ basic_kind (slot_type s) → letter_spells k n ≡ true → depth_refusal (opened Depth.maybe d) ≡ 0 → x ≡ letter_extent k → x.size ≤ m → r ≡ edited_as p x.size
    → out' ≡ over out 0 (ordered big (bytes x.size n)) → Walks (maybe_editor big (some s) a fx t) d p l 0 (some n) m out out' r
put_made big s a fx t d p l m out out' r k n x q f z hx h e o =
    let b = slot_bytes_lem big s k n q f in
    let v : x.size ≡ (letter_extent k).size = ap (λ (y : Extent). y.size) hx in
    slot_made big s a fx t d p l 0 (some n) m out out' r x.size (omega arith) e (bars_not s p d k n q f z) (v ∙ b.1) h
    (o ∙ ap (λ (w : ℕ). over out 0 (ordered big (bytes w n))) v ∙ ap (λ (y : List ℕ). over out 0 y) (sym b.0))

pub width_fits : (k : Letter) → Laid (letter_extent k) → (x : Extent) → x ≡ letter_extent k → (d : ContainerDepths) → x.size ≤ most d
width_fits k g x h d = let q = ap (λ (y : Extent). y.size) h in omega (arith, g.small)
