-- The elements of an array and the fields of a structure that the strict test accepts stand as the rewriter asks. Assumes nothing.
use mathlib.Core.Path.{◌≡◌, refl, sym, ap, ◌∙◌, subst}
use mathlib.Core.List.{List, [], ◌∷◌}
use mathlib.Core.Bool.{Bool, true, false, ◌&&◌}
use Prim.Native.Nat.{ℕ, zero, suc, ◌+◌, ◌*◌, ◌≤◌}
use native.Mathlib.Omega.{arith}
use lib.Dec.{leb}
use lib.ListN.{length}
use borrow.Author.Tests.{le-leb, leb-true}
use Rattle.meaning.specs.Depths.{Depths}
use Rattle.meaning.specs.Limits.{largest_frame}
use Rattle.meaning.specs.Numbers.{value}
use Rattle.meaning.specs.Padding.{Aligns}
use Rattle.meaning.specs.Types.{Tree, Fields, last, next, fixed}
use Rattle.meaning.proofs.Tests.{both_true}
use Rattle.meaning_writing.specs.Shapes.{part, behind_padding, fixed_end, last_end, field_end, offsets_left}
use Rattle.meaning_writing.specs.Strict.{Test, all_zero, child_written, element_end, elements_written, fields_written, test_of, tests_of}
use Rattle.meaning_writing.proofs.StrictLaws.{ChildAt, child_sound}
use Rattle.meaning_writing.proofs.StrictSteps.{tests_last, tests_next}
use Rattle.signature.specs.Trees.{fields_at, Rowed}
use Rattle.strict_sizes.specs.Sizes.{offsets_in, Tabled}
use Rattle.strict_sizes.proofs.SizeLaws.{Some, some_tests}
use Rattle.framing_offset_size.specs.Widths.{width_of}
use Rattle.editor_basic.specs.declared.elements.Elements.{Elements}
use Rattle.editor_basic.specs.declared.fields.Row.{Row}
use Rattle.editor_basic.specs.declared.fields.Field.{Field}
use Rattle.editor_basic.specs.Elements.{rises, Standing}
use Rattle.editor_basic.specs.Rows.{type_shape, last_stop, next_stop, between, row_rises, StandingRow, type_at, FirstField}
use Rattle.editor_basic.proofs.ShapeLaws.{same_start, same_last, same_next, test_same}

pub rises_written : (t : Test) (d : Depths) (l : List ℕ) (w s : ℕ) → s ≤ length l → (m j k : ℕ) → elements_written false t d l w s m j k ≡ true
    → rises t.shape.alignment l w m j k ≡ true
unfolding elements_written child_written element_end rises
rises_written t d l w s h zero j k g = refl
rises_written t d l w s h (suc m) j k g =
    let v = value (part j (j + w) l) in
    let from = behind_padding k t.shape in
    let x = both_true (child_written t d l s k v) (elements_written false t d l w s m (j + w) v) g in
    let y = both_true (leb from v) (leb v s && (all_zero (part k from l) && t.accepts d (part from v l))) x.0 in
    let z = both_true (leb v s) (all_zero (part k from l) && t.accepts d (part from v l)) y.1 in
    rw (y.0, le-leb v (length l) (omega (arith, leb-true v s z.0))) (rises_written t d l w s h m (j + w) v x.1)

pub elements_stand : (t : Test) (d : Depths) (e : Elements) (l : List ℕ) (s : ℕ) → Aligns t.shape.alignment → t.shape.alignment ≡ e.alignment → length l ≤ largest_frame → s ≤ length l
    → e.place ≤ length l → e.from + e.count * width_of e.size ≤ length l → elements_written false t d l (width_of e.size) s e.count e.from e.place ≡ true → Standing e l
elements_stand t d e l s al q short h inside room g = record {
  aligned = subst Aligns q al;
  short = short;
  inside = inside;
  room = room;
  up = ap (λ (a : ℕ). rises a l (width_of e.size) e.count e.from e.place) (sym q) ∙ rises_written t d l (width_of e.size) s h e.count e.from e.place g;
}

-- ---- fields

fields_last : (fx : Bool) (a : ℕ) (d : Depths) (l : List ℕ) (b w : ℕ) (t : Test) (k e : ℕ) → fields_written fx a d l b w (t ∷ []) k e ≡ true
    → child_written t d l b k (last_end t.shape.fixed (fixed_end k t.shape) b) ≡ true
unfolding fields_written
fields_last fx a d l b w t k e h = (both_true _ _ h).0

fields_first : (fx : Bool) (a : ℕ) (d : Depths) (l : List ℕ) (b w : ℕ) (t : Test) (us : List Test) → Some us → (k e i : ℕ) → i ≡ field_end t.shape.fixed l w e (fixed_end k t.shape)
    → fields_written fx a d l b w (t ∷ us) k e ≡ true
    → (child_written t d l b k i ≡ true) × (fields_written fx a d l b w us i (offsets_left t.shape.fixed w e) ≡ true)
fields_first fx a d l b w t us o k e i q h =
    rw (q, o.it) (both_true _ _ (unfold fields_written in ap (λ (z : List Test). fields_written fx a d l b w (t ∷ z) k e) (sym o.it) ∙ h))

module _ (fx : Bool) (a : ℕ) (d : Depths) (l : List ℕ) (b w : ℕ) (inside : b ≤ length l) (n : ℕ) where
  abbrev wholly : Fields → ℕ → ℕ → Bool
  wholly ts k e = fields_written fx a d l b w (tests_of n ts) k e

  written_last : (t : Tree) (k e : ℕ) → wholly (last t) k e ≡ true → ChildAt (test_of n t) d l b k (last_stop t b k)
  written_last t k e h =
      let x = fields_last fx a d l b w (test_of n t) k e (ap (λ (z : List Test). fields_written fx a d l b w z k e) (sym (tests_last n t)) ∙ h) in
      child_sound (test_of n t) d l b k (last_stop t b k) inside (rw (← same_last (test_same n t) b k) x)

  written_next : (t : Tree) (ts : Fields) (k e : ℕ) → wholly (next t ts) k e ≡ true
      → ChildAt (test_of n t) d l b k (next_stop t l w e k) × (wholly ts (next_stop t l w e k) (offsets_left (fixed t) w e) ≡ true)
  written_next t ts k e h =
      let g = test_same n t in
      let x = fields_first fx a d l b w (test_of n t) (tests_of n ts) (some_tests n ts) k e (next_stop t l w e k) (sym (same_next g l w e k))
      (ap (λ (z : List Test). fields_written fx a d l b w z k e) (sym (tests_next n t ts)) ∙ h) in (
        child_sound (test_of n t) d l b k (next_stop t l w e k) inside x.0,
        ap (λ (f : Bool). wholly ts (next_stop t l w e k) (offsets_left f w e)) (sym g.same_fixed) ∙ x.1,
      )

  -- such a field begins before it ends, inside the structure
  between_written : (t : Tree) (k i : ℕ) → ChildAt (test_of n t) d l b k i → between l b w t k i ≡ true
  between_written t k i c =
      rw (le-leb (behind_padding k (type_shape t)) i (omega (arith, c.least, same_start (test_same n t) k)), le-leb i (length l) (omega (arith, c.most)))

  pub row_rises_lem : (ts : Fields) (k e : ℕ) → wholly ts k e ≡ true → row_rises l b w ts k e ≡ true
  unfolding row_rises
  row_rises_lem (last t) k e h = between_written t k (last_stop t b k) (written_last t k e h)
  row_rises_lem (next t ts) k e h =
      let x = written_next t ts k e h in
      rw (between_written t k (next_stop t l w e k) x.0) (row_rises_lem ts (next_stop t l w e k) (offsets_left (fixed t) w e) x.1)

-- the whole row of a structure
abbrev pub whole_row : ℕ → ℕ → ℕ → ℕ → Row
whole_row at n b w = record { at = at; place = 0; end = n; body = b; width = w }

pub row_stands : (fx : Bool) (a : ℕ) (d : Depths) (text tables l : List ℕ) (at b w n : ℕ) → Rowed text at → Tabled text tables → length l ≤ largest_frame → Aligns w
    → b + offsets_in (fields_at text at) * w ≡ length l → fields_written fx a d l b w (tests_of n (fields_at text at)) 0 (length l) ≡ true
    → StandingRow text tables (whole_row at (length l) b w) l
row_stands fx a d text tables l at b w n rowed table short wide exact h = record {
  rowed = rowed;
  table = table;
  short = short;
  wide = wide;
  inside = omega arith;
  body_inside = omega arith;
  end_inside = omega arith;
  room = omega arith;
  up = row_rises_lem fx a d l b w (omega arith) n (fields_at text at) 0 (length l) h;
}

-- a field where the row is written: its bytes are, and so are the fields behind it
module _ (fx : Bool) (a : ℕ) (d : Depths) {text tables : List ℕ} {r : Row} {l : List ℕ} (z : StandingRow text tables r l) {f : Field} (g : FirstField text tables r l f) (n : ℕ)
    (h : fields_written fx a d l r.body r.width (tests_of n (fields_at text r.at)) r.place r.end ≡ true) where
  abbrev its : Tree
  its = type_at text r

  accepted : (i : ℕ) → f.stop ≡ i → ChildAt (test_of n its) d l r.body r.place i → ((test_of n its).accepts d (part f.start f.stop l) ≡ true) × (f.stop ≤ r.body)
  accepted i q c =
      let s : f.start ≡ behind_padding r.place (test_of n its).shape = g.start_is ∙ sym (same_start (test_same n its) r.place) in
      rw (s, q) (c.it, c.most)

  here : (ts : Fields) → fields_at text r.at ≡ ts → fields_written fx a d l r.body r.width (tests_of n ts) r.place r.end ≡ true
  here ts q = ap (λ (us : Fields). fields_written fx a d l r.body r.width (tests_of n us) r.place r.end) (sym q) ∙ h

  pub field_accepted : ((test_of n its).accepts d (part f.start f.stop l) ≡ true) × (f.stop ≤ r.body)
  field_accepted = go f.last refl
    where
      go : (b : Bool) → f.last ≡ b → ((test_of n its).accepts d (part f.start f.stop l) ≡ true) × (f.stop ≤ r.body)
      go true e = let y = g.final e in accepted _ y.stop_is (written_last fx a d l r.body r.width z.body_inside n its r.place r.end (here _ y.fields))
      go false e = let y = g.rest e in accepted _ y.stop_is (written_next fx a d l r.body r.width z.body_inside n its (fields_at text f.next) r.place r.end (here _ y.fields)).0

  pub fields_accepted : f.last ≡ false → fields_written fx a d l r.body r.width (tests_of n (fields_at text f.next)) f.stop f.left ≡ true
  fields_accepted e =
      let y = g.rest e in
      rw (y.stop_is, y.left_is) (written_next fx a d l r.body r.width z.body_inside n its (fields_at text f.next) r.place r.end (here _ y.fields)).1
