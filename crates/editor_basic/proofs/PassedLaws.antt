-- The fields that a walk over a structure has passed: they stay as they are, and so do their ends, which stand behind the offset of the
-- field that is next. Then a structure with that field changed is what stands in front of it, the field, and what the finisher writes.
-- Assumes nothing.
use mathlib.Core.Path.{◌≡◌, refl, sym, ap, ◌∙◌}
use mathlib.Core.List.{List, [], ◌∷◌, ◌++◌, append_assoc, append-nil, reverse, reverse-cons}
use mathlib.Core.Bool.{Bool, true, false}
use Prim.Native.Nat.{ℕ, suc, ◌+◌, ◌-◌, ◌*◌, ◌/◌, ◌≤◌, ◌<◌}
use native.Mathlib.Nat.{mul-div_cancel}
use native.Mathlib.Omega.{arith}
use lib.ListN.{length, drop}
use Rattle.meaning.specs.Numbers.{value}
use Rattle.meaning.specs.Offsets.{entries}
use Rattle.meaning.specs.Padding.{padding}
use Rattle.meaning.specs.Types.{Tree, fixed}
use Rattle.meaning.specs.Written.{Piece, stop, layout, unless, field_ends, structure_bytes}
use Rattle.meaning.proofs.PaddingLaws.{aligns_positive}
use Rattle.meaning.proofs.LayoutLaws.{field_ends_one, layout_none}
use Rattle.meaning_writing.specs.Shapes.{part, one_more, field_end, offsets_left}
use Rattle.meaning_writing.proofs.Parts.{length_part}
use Rattle.meaning_writing.proofs.PieceLaws.{field_ends_more}
use Rattle.meaning_writing.proofs.EditedSteps.{end_of, end_of_cons, ends_before, up_to, up_to_end, offsets_now, structure_rewritten, structure_length}
use Rattle.signature.specs.Trees.{fields_at}
use Rattle.strict_sizes.specs.Sizes.{offsets_in}
use Rattle.editor_basic.specs.declared.fields.Row.{Row}
use Rattle.editor_basic.specs.declared.fields.Field.{Field}
use Rattle.editor_basic.specs.Rows.{fields_in, next_stop, StandingRow, behind_field, found_field, type_at, FirstField, kept_ends, last_now, last_length_now, row_ends, row_now, row_length_now}
use Rattle.editor_basic.proofs.BackLaws.{some_pieces}
use Rattle.editor_basic.proofs.FinishLaws.{entries_next}
use Rattle.editor_basic.proofs.RowLaws.{count_is}

-- ---- fields in front, and one more

pub ends_before_more : (k : ℕ) (xs : List Piece) (c : Piece) → ends_before k (xs ++ (c ∷ [])) ≡ ends_before k xs ++ unless c.fixed (stop (end_of k xs) c) []
unfolding ends_before layout
ends_before_more k [] c = let e : k + 0 ≡ k = omega arith in rw e
ends_before_more k (x ∷ xs) c =
    ap (λ (es : List ℕ). unless x.fixed (stop k x) es) (ends_before_more (stop k x) xs c ∙ ap (λ (i : ℕ). ends_before (stop k x) xs ++ unless c.fixed (stop i c) []) (sym (end_of_cons k x xs)))
    ∙ over x.fixed
  where
    over : (b : Bool) → unless b (stop k x) (ends_before (stop k x) xs ++ unless c.fixed (stop (end_of k (x ∷ xs)) c) [])
        ≡ unless b (stop k x) (ends_before (stop k x) xs) ++ unless c.fixed (stop (end_of k (x ∷ xs)) c) []
    over true = refl
    over false = refl

pub end_of_more : (k : ℕ) (xs : List Piece) (c : Piece) → end_of k (xs ++ (c ∷ [])) ≡ stop (end_of k xs) c
end_of_more k [] c = end_of_cons k c [] ∙ none (stop k c) ∙ ap (λ (i : ℕ). stop i c) (sym (none k))
  where
    none : (i : ℕ) → end_of i [] ≡ i
    none i = let n = ap length (layout_none i) in omega arith
end_of_more k (x ∷ xs) c = end_of_cons k x (xs ++ (c ∷ [])) ∙ end_of_more (stop k x) xs c ∙ ap (λ (i : ℕ). stop i c) (sym (end_of_cons k x xs))

-- ---- the offsets of those in front

-- one more of them, in front of the others in the bytes
pub kept_more : (e w : ℕ) (l : List ℕ) (m : ℕ) → 0 < w → w ≤ e → e + m * w ≡ length l → kept_ends (e - w) w l ≡ kept_ends e w l ++ (value (part (e - w) e l) ∷ [])
kept_more e w l m p h g =
    let a : length l - (e - w) ≡ suc m * w = omega arith in
    let b : length l - e ≡ m * w = omega arith in
    let x : (length l - (e - w)) / w ≡ suc m = ap (λ (i : ℕ). i / w) a ∙ mul-div_cancel (suc m) p in
    let y : (length l - e) / w ≡ m = ap (λ (i : ℕ). i / w) b ∙ mul-div_cancel m p in
    let z : e - w + w ≡ e = omega arith in
    let s : suc m - 1 ≡ m = omega arith in
    ap (λ (i : ℕ). reverse (entries i w (drop (e - w) l))) x
    ∙ ap reverse (entries_next (suc m) w (e - w) l (omega arith))
    ∙ reverse-cons (value (part (e - w) (e - w + w) l)) (entries (suc m - 1) w (drop (e - w + w) l))
    ∙ ap (λ (i : ℕ). reverse (entries (suc m - 1) w (drop i l)) ++ (value (part (e - w) i l) ∷ [])) z
    ∙ ap (λ (i : ℕ). reverse (entries i w (drop e l)) ++ (value (part (e - w) e l) ∷ [])) (s ∙ sym y)

-- ---- what a walk has passed

pub record Passed (text : List ℕ) (whole now : Row) (l : List ℕ) : Type 0 where
  pub front : List Piece
  pub is : fields_in text whole l ≡ front ++ fields_in text now l
  pub place : end_of 0 front ≡ now.place
  pub kept : ℕ
  pub counted : now.end + kept * now.width ≡ length l
  pub ends : ends_before 0 front ≡ kept_ends now.end now.width l
  pub exact : now.body + offsets_in (fields_at text now.at) * now.width ≡ now.end

none_kept : (e w : ℕ) (l : List ℕ) → 0 < w → e ≡ length l → [] ≡ kept_ends e w l
unfolding entries
none_kept e w l p h =
    let z : length l - e ≡ 0 * w = omega arith in
    let n : (length l - e) / w ≡ 0 = ap (λ (i : ℕ). i / w) z ∙ mul-div_cancel 0 p in
    sym (ap (λ (i : ℕ). reverse (entries i w (drop e l))) n)

no_ends : [] ≡ ends_before 0 []
unfolding ends_before
no_ends = refl

pub passed_begin : (text : List ℕ) (whole : Row) (l : List ℕ) → 0 < whole.width → whole.place ≡ 0 → whole.end ≡ length l
    → whole.body + offsets_in (fields_at text whole.at) * whole.width ≡ length l → Passed text whole whole l
passed_begin text whole l p h e x = record {
  front = [];
  is = refl;
  place = (let n = ap length (layout_none 0) in omega arith);
  kept = 0;
  counted = omega arith;
  ends = sym no_ends ∙ none_kept whole.end whole.width l p e;
  exact = x ∙ sym e;
}

-- where a field with an offset ends
loose_end : (t : Tree) (l : List ℕ) (w e k : ℕ) → fixed t ≡ false → next_stop t l w e k ≡ value (part (e - w) e l)
unfolding field_end
loose_end t l w e k h = rw h

module _ {text tables : List ℕ} {whole r : Row} {l : List ℕ} (q : Passed text whole r l) (z : StandingRow text tables r l) {f : Field} (g : FirstField text tables r l f) where
  -- where it stops is where it ends
  pub field_stop : stop (end_of 0 q.front) (found_field f l) ≡ f.stop
  unfolding stop
  field_stop =
      let n : length (part f.start f.stop l) ≡ f.stop - f.start = length_part f.start f.stop l g.inside in
      let a : end_of 0 q.front + padding (end_of 0 q.front) f.alignment ≡ f.start =
      rw (q.place, g.same_alignment) (sym g.start_is) in
      omega (arith, g.order)

  module _ (h : f.last ≡ false) where
    offsets : offsets_in (fields_at text r.at) ≡ one_more f.fixed (offsets_in (fields_at text f.next))
    offsets = count_is _ _ _ (g.rest h).fields ∙ ap (λ (b : Bool). one_more b (offsets_in (fields_at text f.next))) (sym g.same_fixed)

    -- by whether it has an offset
    record Counted : Type 0 where
      pub more : ℕ
      pub counted_next : f.left + more * r.width ≡ length l
      pub exact_next : r.body + offsets_in (fields_at text f.next) * r.width ≡ f.left
      pub ends_next : ends_before 0 q.front ++ unless f.fixed f.stop [] ≡ kept_ends f.left r.width l

    counting : (b : Bool) → f.fixed ≡ b → Counted
    counting true e =
        let m = g.rest h in
        let x : f.left ≡ r.end = m.left_is ∙ ap (λ (b : Bool). offsets_left b r.width r.end) (sym g.same_fixed ∙ e) in
        let n : offsets_in (fields_at text f.next) ≡ offsets_in (fields_at text r.at) = sym (offsets ∙ ap (λ (b : Bool). one_more b (offsets_in (fields_at text f.next))) e) in
        record {
          more = q.kept;
          counted_next = rw x q.counted;
          exact_next = rw (x, n) q.exact;
          ends_next = rw (e, x) (append-nil (ends_before 0 q.front) ∙ q.ends);
        }
    counting false e =
        let m = g.rest h in
        let x : f.left ≡ r.end - r.width = m.left_is ∙ ap (λ (b : Bool). offsets_left b r.width r.end) (sym g.same_fixed ∙ e) in
        let n : offsets_in (fields_at text r.at) ≡ suc (offsets_in (fields_at text f.next)) = offsets ∙ ap (λ (b : Bool). one_more b (offsets_in (fields_at text f.next))) e in
        let y : r.body + suc (offsets_in (fields_at text f.next)) * r.width ≡ r.end = rw n at q.exact in
        let v : f.stop ≡ value (part (r.end - r.width) r.end l) =
        m.stop_is ∙ loose_end (type_at text r) l r.width r.end r.place (sym g.same_fixed ∙ e) in
        let c = q.counted in
        record {
          more = suc q.kept;
          counted_next = omega arith;
          exact_next = omega arith;
          ends_next = rw (e, x, v, q.ends) (sym (kept_more r.end r.width l q.kept (aligns_positive z.wide) (omega arith) q.counted));
        }

    pub passed_next : Passed text whole (behind_field r f) l
    passed_next =
        let c = counting f.fixed refl in
        record {
          front = q.front ++ (found_field f l ∷ []);
          is = q.is ∙ ap (λ (cs : List Piece). q.front ++ cs) (g.rest h).pieces ∙ sym (append_assoc q.front (found_field f l ∷ []) (fields_in text (behind_field r f) l));
          place = end_of_more 0 q.front (found_field f l) ∙ field_stop;
          kept = c.more;
          counted = c.counted_next;
          ends = ends_before_more 0 q.front (found_field f l) ∙ ap (λ (i : ℕ). ends_before 0 q.front ++ unless f.fixed i []) field_stop ∙ c.ends_next;
          exact = c.exact_next;
        }

    -- what the finisher asks, of one that is not fixed
    pub passed_behind : f.fixed ≡ false → (f.left + r.width ≡ r.end) × (f.left + r.width ≤ length l)
    passed_behind e =
        let m = g.rest h in
        let x : f.left ≡ r.end - r.width = m.left_is ∙ ap (λ (b : Bool). offsets_left b r.width r.end) (sym g.same_fixed ∙ e) in
        let n : offsets_in (fields_at text r.at) ≡ suc (offsets_in (fields_at text f.next)) = offsets ∙ ap (λ (b : Bool). one_more b (offsets_in (fields_at text f.next))) e in
        let y : r.body + suc (offsets_in (fields_at text f.next)) * r.width ≡ r.end = rw n at q.exact in
        (omega arith, omega (arith, z.end_inside))

-- ---- the structure with a field changed

-- the last field, where the offsets of those in front stand from e on
pub last_now_lem : (xs : List Piece) (c : Piece) (a e w : ℕ) (l : List ℕ) → ends_before 0 xs ≡ kept_ends e w l
    → (structure_bytes a false (xs ++ (c ∷ [])) ≡ up_to xs c [] ++ last_now e w l (up_to_end xs c []))
    × (length (structure_bytes a false (xs ++ (c ∷ []))) ≡ last_length_now e w l (up_to_end xs c []))
last_now_lem xs c a e w l h =
    let to : ℕ = up_to_end xs c [] in
    let none : layout to [] ≡ [] = layout_none to in
    let end : end_of to [] ≡ to = (let n = ap length none in omega arith) in
    let es : offsets_now xs c [] ≡ kept_ends e w l = ap (λ (fs : List ℕ). ends_before 0 xs ++ fs) (field_ends_one (end_of 0 xs) c) ∙ append-nil (ends_before 0 xs) ∙ h in
    (structure_rewritten xs c [] a ∙ rw (end, es, none), structure_length xs c [] a ∙ rw (end, es))

-- a dictionary's entry: the key's end, unless it is fixed
pub key_fixed_lem : (key : Piece) (w : ℕ) (l : List ℕ) → 0 < w → key.fixed ≡ true → ends_before 0 (key ∷ []) ≡ kept_ends (length l) w l
unfolding ends_before
key_fixed_lem key w l p h = rw h (none_kept (length l) w l p refl)

pub key_loose : (key : Piece) (w : ℕ) (l : List ℕ) → 0 < w → w ≤ length l → key.fixed ≡ false → stop 0 key ≡ value (part (length l - w) (length l) l)
    → ends_before 0 (key ∷ []) ≡ kept_ends (length l - w) w l
unfolding ends_before
key_loose key w l p h f e =
    let n : [] ≡ kept_ends (length l) w l = none_kept (length l) w l p refl in
    one false f ∙ ap (λ (i : ℕ). i ∷ []) e
    ∙ ap (λ (es : List ℕ). es ++ (value (part (length l - w) (length l) l) ∷ [])) n ∙ sym (kept_more (length l) w l 0 p h (omega arith))
  where
    one : (b : Bool) → key.fixed ≡ b → ends_before 0 (key ∷ []) ≡ unless b (stop 0 key) []
    one b q = rw q

module _ {text : List ℕ} {whole r : Row} {l : List ℕ} (q : Passed text whole r l) (c : Piece) (a : ℕ) where
  pub last_rewritten : (structure_bytes a false (q.front ++ (c ∷ [])) ≡ up_to q.front c [] ++ last_now r.end r.width l (up_to_end q.front c []))
      × (length (structure_bytes a false (q.front ++ (c ∷ []))) ≡ last_length_now r.end r.width l (up_to_end q.front c []))
  last_rewritten = last_now_lem q.front c a r.end r.width l q.ends

  -- one with others behind it
  pub row_rewritten : (rest : Row) → c.fixed ≡ false → rest.end + rest.width ≡ r.end → rest.width ≡ r.width
      → (structure_bytes a false (q.front ++ (c ∷ fields_in text rest l)) ≡ up_to q.front c (fields_in text rest l) ++ row_now text rest l (up_to_end q.front c (fields_in text rest l)))
      × (length (structure_bytes a false (q.front ++ (c ∷ fields_in text rest l))) ≡ row_length_now text rest l (up_to_end q.front c (fields_in text rest l)))
  row_rewritten rest hc he hw =
      let ys : List Piece = fields_in text rest l in
      let to : ℕ = up_to_end q.front c ys in
      let some : 0 < length ys = some_pieces l rest.body rest.width (fields_at text rest.at) rest.place rest.end in
      let kept : ends_before 0 q.front ≡ kept_ends (rest.end + rest.width) rest.width l = q.ends ∙ rw (he, hw) in
      let es : offsets_now q.front c ys ≡ row_ends text rest l to =
      ap (λ (fs : List ℕ). ends_before 0 q.front ++ fs) (field_ends_more (end_of 0 q.front) c ys some ∙ ap (λ (b : Bool). unless b to (field_ends to ys)) hc)
      ∙ ap (λ (fs : List ℕ). fs ++ (to ∷ field_ends to ys)) kept in (
        structure_rewritten q.front c ys a ∙ rw es,
        structure_length q.front c ys a ∙ rw es,
      )
