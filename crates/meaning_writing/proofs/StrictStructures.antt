-- The strict test holds of the written forms and of nothing else: structures and dictionary entries. Assumes nothing.
use mathlib.Core.Path.{◌≡◌, refl, sym, ap, ◌∙◌, subst}
use mathlib.Core.List.{List, [], ◌∷◌, ◌++◌, append-nil, append_assoc}
use mathlib.Core.Bool.{Bool, true, false, ◌&&◌}
use Prim.Native.Nat.{ℕ, suc, ◌+◌, ◌-◌, ◌*◌, ◌^◌, ◌≤◌, ◌<◌}
use native.Mathlib.Nat.{zero-mul}
use native.Mathlib.Omega.{arith}
use lib.Dec.{T, leb, eqb}
use lib.ListN.{length, length-append, length-replicate}
use borrow.Author.Tests.{le-leb, eq-eqb, leb-true, eqb-true}
use Rattle.meaning.specs.Numbers.{bytes, value}
use Rattle.meaning.specs.Padding.{Aligns, padding, zeros}
use Rattle.meaning.specs.Offsets.{encoded_width, written_width, back_table}
use Rattle.meaning.specs.Depths as Depth
use Rattle.meaning.specs.Depths.{Depths, opened}
use Rattle.meaning.specs.Written.{Piece, fits, stop, layout, field_ends, unless, structure_bytes, structure_piece, entry_piece}
use Rattle.meaning_writing.specs.Shapes.{all_shapes_fixed, one_more, offset_count, last_end, field_end, offsets_left, sizes_from, part}
use Rattle.meaning_writing.specs.Strict.{all_zero, Test, child_written, fields_finished, fields_written, offsets_written, structure_written, structure_test, entry_test, test_shapes}
use Rattle.meaning.proofs.Tests.{both, both_left, both_right, impossible, both_true, and_true}
use Rattle.meaning.proofs.FitLaws.{all_fit, all_fit_lem, children_fit, fits_by_all, fits_by_children}
use Rattle.meaning.proofs.NumberLaws.{Bytes, length_bytes, value_bytes}
use Rattle.meaning.proofs.PaddingLaws.{padding_aligned}
use Rattle.meaning.proofs.OffsetLaws.{Chosen, written_width_chosen}
use Rattle.meaning.proofs.LayoutLaws.{length_layout, length_back_table, field_ends_one, stop_placed, layout_none}
use Rattle.meaning_writing.proofs.Parts.{part_whole, part_none, part_split, length_part, part_mid, part_end, zeros_all, all_zeros, part_bytes, offset_form}
use Rattle.meaning_writing.proofs.PieceLaws.{deeper_true, deeper_opens, deeper_accepts, chosen_width, chosen_below, stop_is, split}
use Rattle.meaning_writing.proofs.ShapeLaws.{ShapedRow, and_one, last_shaped, ends_two, next_shaped, structure_shaped}
use Rattle.meaning_writing.proofs.StrictLaws.{Judges, child_sound, child_complete, child_laid, stop_there}

pub no_table : (w : ℕ) → back_table w [] ≡ []
unfolding back_table
no_table w = refl

-- what fields from the place k on that pass are: the written form of values, up to an end, with their offsets up to e
pub record Laid {A : Type 0} (ts : List Test) (p : A → List Piece) (all : Bool) (a : ℕ) (d : Depths) (l : List ℕ) (b w k e : ℕ) : Type 0 where
  pub v : A
  pub end : ℕ
  pub laid : layout k (p v) ≡ part k end l
  pub least : k ≤ end
  pub most : end ≤ b
  pub finished : fields_finished all a end b l ≡ true
  pub table_is : back_table w (field_ends k (p v)) ≡ part (e - offset_count (test_shapes ts) * w) e l
  pub fit : T (all_fit (p v) d)

-- where the table stands in l
pub record BackTableAt (l : List ℕ) (w e : ℕ) (es : List ℕ) : Type 0 where
  pub front : List ℕ
  pub back : List ℕ
  pub is_here : l ≡ front ++ (back_table w es ++ back)
  pub end_is : length front + length es * w ≡ e

-- the tests ts are those of the fields that are written as p says
pub record JudgesRow {A : Type 0} (ts : List Test) (p : A → List Piece) : Type 0 where
  pub shaped : ShapedRow (test_shapes ts) p
  pub solid : all_shapes_fixed (test_shapes ts) ≡ true → (k : ℕ) → k < sizes_from k (test_shapes ts)
  pub sound : (all : Bool) (a : ℕ) (d : Depths) (l : List ℕ) (b w k e : ℕ) → Bytes l → b ≤ length l → offset_count (test_shapes ts) * w ≤ e → e ≤ length l → fields_written all a d l b w ts k e ≡ true → Laid ts p all a d l b w k e
  pub complete : (all : Bool) (a : ℕ) (d : Depths) (l : List ℕ) (b w : ℕ) (v : A) (k e s : ℕ) (x y : List ℕ) → (all ≡ true → all_shapes_fixed (test_shapes ts) ≡ true) → (all ≡ false → s ≡ b) → b ≤ 65536 → (all ≡ false → b < 256 ^ w)
      → T (all_fit (p v) d) → l ≡ x ++ (layout k (p v) ++ y) → length x ≡ k → k + length (layout k (p v)) ≡ s → s ≤ b → fields_finished all a s b l ≡ true
      → BackTableAt l w e (field_ends k (p v)) → fields_written all a d l b w ts k e ≡ true

-- ---- one field, the last
last_is : (fx all : Bool) (x b e : ℕ) → (fx ≡ true → x ≡ e) → (all ≡ true → (fx && true) ≡ true) → (all ≡ false → e ≡ b) → last_end fx x b ≡ e
last_is true all x b e f g h = f refl
last_is false true x b e f g h = impossible (g refl)
last_is false false x b e f g h = sym (h refl)

module _ {A : Type 0} (t : Test) (p : A → Piece) (g : Judges t p) where
  one_sound : (all : Bool) (a : ℕ) (d : Depths) (l : List ℕ) (b w k e : ℕ) → Bytes l → b ≤ length l → offset_count (test_shapes (t ∷ [])) * w ≤ e → e ≤ length l → fields_written all a d l b w (t ∷ []) k e ≡ true
      → Laid (t ∷ []) (λ v. p v ∷ []) all a d l b w k e
  unfolding fields_written all_fit offset_count
  one_sound all a d l b w k e by hb room he h =
      let o : ℕ = last_end t.shape.fixed (k + padding k t.shape.alignment + t.shape.size) b in
      let x = both_true (child_written t d l b k o) (fields_finished all a o b l) h in
      let c = child_sound t d l b k o hb x.0 in
      let i = g.sound d (part (k + padding k t.shape.alignment) o l) (part_bytes (k + padding k t.shape.alignment) o by) c.it in
      let q : stop k (p i.v) ≡ o = stop_there l k o t.shape.alignment (p i.v) (g.shaped.alignment_is i.v) i.form c.least (let z = c.most in omega arith) in
      record {
        v = i.v;
        end = o;
        laid = child_laid l k o o t.shape.alignment (p i.v) [] (g.shaped.alignment_is i.v) i.form q (layout_none o ∙ sym (part_none o o l (omega arith))) c.gap c.least (omega arith);
        least = (let z = c.least in omega arith);
        most = c.most;
        finished = x.1;
        table_is = ap (λ (z : List ℕ). back_table w z) (field_ends_one k (p i.v)) ∙ no_table w ∙ sym (part_none (e - 0 * w) e l (omega arith));
        fit = both (fits (p i.v) d) true i.fit tt;
      }

  one_complete : (all : Bool) (a : ℕ) (d : Depths) (l : List ℕ) (b w : ℕ) (v : A) (k e s : ℕ) (x y : List ℕ) → (all ≡ true → (t.shape.fixed && true) ≡ true) → (all ≡ false → s ≡ b) → b ≤ 65536
      → T (all_fit (p v ∷ []) d) → l ≡ x ++ (layout k (p v ∷ []) ++ y) → length x ≡ k → k + length (layout k (p v ∷ [])) ≡ s → s ≤ b → fields_finished all a s b l ≡ true
      → fields_written all a d l b w (t ∷ []) k e ≡ true
  unfolding fields_written all_fit
  one_complete all a d l b w v k e s x y hf hb big f hl hx hs le finished =
      let c : Piece = p v in
      let m : length (layout (stop k c) []) ≡ 0 = ap length (layout_none (stop k c)) in
      let n : stop k c ≡ s = omega (arith, length_layout k c []) in
      let u : padding k c.alignment ≡ padding k t.shape.alignment = ap (λ (z : ℕ). padding k z) (g.shaped.alignment_is v) in
      let r : last_end t.shape.fixed (k + padding k t.shape.alignment + t.shape.size) b ≡ s = last_is t.shape.fixed all _ b s (λ q. omega (arith, g.shaped.size_is q v, stop_is k c)) hf hb in
      let o = split x y l k c [] hl in
      rw r
      (and_true (child_written t d l b k s) (fields_finished all a s b l)
      (child_complete t d l b k s c x (layout (stop k c) [] ++ y) (g.shaped.alignment_is v) o.first hx n le (g.complete d v (fit_left (fits c d) f) (omega (arith, stop_is k c))))
      finished)
    where
      fit_left : (b : Bool) → T (b && true) → T b
      fit_left true t = tt
      fit_left false t = t

  pub last_judged : JudgesRow (t ∷ []) (λ v. p v ∷ [])
  unfolding offset_count sizes_from
  last_judged = record {
    shaped = last_shaped t.shape p g.shaped;
    solid = λ h k. omega (arith, g.solid (and_one t.shape.fixed h));
    sound = one_sound;
    complete = λ all a d l b w v k e s x y hf hb big hw f hl hx hs le finished bk. one_complete all a d l b w v k e s x y hf hb big f hl hx hs le finished;
  }

-- ---- a field, and those behind it
left_room : (fx : Bool) (n w e : ℕ) → one_more fx n * w ≤ e → n * w ≤ offsets_left fx w e
left_room true n w e h = h
left_room false n w e h = omega arith

left_le : (fx : Bool) (w e m : ℕ) → e ≤ m → offsets_left fx w e ≤ m
left_le true w e m h = h
left_le false w e m h = omega arith

field_tab : (fx : Bool) (l : List ℕ) (w e n o : ℕ) (es : List ℕ) → Bytes l → e ≤ length l → one_more fx n * w ≤ e
    → back_table w es ≡ part (offsets_left fx w e - n * w) (offsets_left fx w e) l → (fx ≡ false → value (part (e - w) e l) ≡ o)
    → back_table w (unless fx o es) ≡ part (e - one_more fx n * w) e l
unfolding back_table
field_tab true l w e n o es by he room h v = h
field_tab false l w e n o es by he room h v =
    let a : (e - w) + w ≡ e = omega arith in
    let u : value (part (e - w) ((e - w) + w) l) ≡ o = ap (λ (z : ℕ). value (part (e - w) z l)) a ∙ v refl in
    let f : bytes w o ≡ part (e - w) e l = offset_form l (e - w) w o by (omega arith) u ∙ ap (λ (z : ℕ). part (e - w) z l) a in
    let q : e - suc n * w ≡ (e - w) - n * w = omega arith in
    rw (h, f, q) (sym (part_split ((e - w) - n * w) (e - w) e l (omega arith) (omega arith)))

field_end_false : (fx : Bool) (l : List ℕ) (w e x : ℕ) → fx ≡ false → value (part (e - w) e l) ≡ field_end fx l w e x
unfolding field_end
field_end_false true l w e x h = impossible (sym h)
field_end_false false l w e x h = refl

pub field_end_is : (fx : Bool) (l : List ℕ) (w e x o : ℕ) → (fx ≡ true → x ≡ o) → (fx ≡ false → value (part (e - w) e l) ≡ o) → field_end fx l w e x ≡ o
unfolding field_end
field_end_is true l w e x o f g = f refl
field_end_is false l w e x o f g = g refl

cons_back : (w o : ℕ) (es y : List ℕ) → back_table w (o ∷ es) ++ y ≡ back_table w es ++ (bytes w o ++ y)
unfolding back_table
cons_back w o es y = append_assoc (back_table w es) (bytes w o) y

-- the table without its first end
pub back_rest : (fx : Bool) (l : List ℕ) (w e o : ℕ) (es : List ℕ) → BackTableAt l w e (unless fx o es) → BackTableAt l w (offsets_left fx w e) es
back_rest true l w e o es t = t
back_rest false l w e o es t = record {
  front = t.front;
  back = bytes w o ++ t.back;
  is_here = t.is_here ∙ ap (λ (z : List ℕ). t.front ++ z) (cons_back w o es t.back);
  end_is = (let n = t.end_is in omega arith);
}

pub back_value : (l : List ℕ) (w e o : ℕ) (es : List ℕ) → BackTableAt l w e (o ∷ es) → o < 256 ^ w → value (part (e - w) e l) ≡ o
unfolding back_rest
back_value l w e o es t h =
    let r = back_rest false l w e o es t in
    let n = t.end_is in
    let c : part (e - w) e l ≡ bytes w o =
    part_mid l (r.front ++ back_table w es) (bytes w o) t.back (e - w) e (r.is_here ∙ sym (append_assoc r.front (back_table w es) (bytes w o ++ t.back)))
    (length-append r.front (back_table w es) ∙ (let m = length_back_table w es in omega arith)) (rw length_bytes (omega arith)) in
    rw c (value_bytes w o h)

pub back_eq : (l : List ℕ) (w e : ℕ) (es es' : List ℕ) → es ≡ es' → BackTableAt l w e es → BackTableAt l w e es'
back_eq l w e es es' h t = subst (λ (z : List ℕ). BackTableAt l w e z) h t

module _ {A B : Type 0} (t : Test) (p : A → Piece) (g : Judges t p) (u : Test) (ts : List Test) (q : B → List Piece) (r : JudgesRow (u ∷ ts) q) where
  abbrev both_p : A × B → List Piece
  both_p v = p v.0 ∷ q v.1

  two_sound : (all : Bool) (a : ℕ) (d : Depths) (l : List ℕ) (b w k e : ℕ) → Bytes l → b ≤ length l → offset_count (test_shapes (t ∷ u ∷ ts)) * w ≤ e → e ≤ length l → fields_written all a d l b w (t ∷ u ∷ ts) k e ≡ true
      → Laid (t ∷ u ∷ ts) both_p all a d l b w k e
  unfolding fields_written all_fit offset_count
  two_sound all a d l b w k e by hb room he h =
      let n : ℕ = offset_count (test_shapes (u ∷ ts)) in
      let o : ℕ = field_end t.shape.fixed l w e (k + padding k t.shape.alignment + t.shape.size) in
      let x = both_true (child_written t d l b k o) (fields_written all a d l b w (u ∷ ts) o (offsets_left t.shape.fixed w e)) h in
      let c = child_sound t d l b k o hb x.0 in
      let i = g.sound d (part (k + padding k t.shape.alignment) o l) (part_bytes (k + padding k t.shape.alignment) o by) c.it in
      let s : stop k (p i.v) ≡ o = stop_there l k o t.shape.alignment (p i.v) (g.shaped.alignment_is i.v) i.form c.least (let z = c.most in omega arith) in
      let m = r.sound all a d l b w o (offsets_left t.shape.fixed w e) by hb (left_room t.shape.fixed n w e room) (left_le t.shape.fixed w e (length l) he) x.1 in
      record {
        v = (i.v, m.v);
        end = m.end;
        laid = child_laid l k o m.end t.shape.alignment (p i.v) (q m.v) (g.shaped.alignment_is i.v) i.form s m.laid c.gap c.least m.least;
        least = (let z = c.least in let y = m.least in omega arith);
        most = m.most;
        finished = m.finished;
        table_is = ends_at (i.v, m.v) k o w s t.shape.fixed refl
            ∙ field_tab t.shape.fixed l w e n o (field_ends o (q m.v)) by he room m.table_is (λ z. field_end_false t.shape.fixed l w e _ z);
        fit = both (fits (p i.v) d) (all_fit (q m.v) d) i.fit m.fit;
      }
    where
      ends_at : (v : A × B) (k o w : ℕ) → stop k (p v.0) ≡ o → (fx : Bool) → t.shape.fixed ≡ fx → back_table w (field_ends k (both_p v)) ≡ back_table w (unless fx o (field_ends o (q v.1)))
      ends_at v k o w s fx hf =
          ap (λ (z : List ℕ). back_table w z) (ends_two t.shape p g.shaped u.shape (test_shapes ts) q r.shaped v k)
          ∙ ap (λ (z : ℕ). back_table w (unless t.shape.fixed z (field_ends z (q v.1)))) s
          ∙ ap (λ (z : Bool). back_table w (unless z o (field_ends o (q v.1)))) hf

  two_complete : (all : Bool) (a : ℕ) (d : Depths) (l : List ℕ) (b w : ℕ) (v : A × B) (k e s : ℕ) (x y : List ℕ) → (all ≡ true → all_shapes_fixed (test_shapes (t ∷ u ∷ ts)) ≡ true) → (all ≡ false → s ≡ b) → b ≤ 65536 → (all ≡ false → b < 256 ^ w)
      → T (all_fit (both_p v) d) → l ≡ x ++ (layout k (both_p v) ++ y) → length x ≡ k → k + length (layout k (both_p v)) ≡ s → s ≤ b → fields_finished all a s b l ≡ true
      → BackTableAt l w e (field_ends k (both_p v)) → fields_written all a d l b w (t ∷ u ∷ ts) k e ≡ true
  unfolding fields_written all_fit
  two_complete all a d l b w v k e s x y hf hb big hw f hl hx hs le finished bk =
      let c : Piece = p v.0 in
      let cs : List Piece = q v.1 in
      let n = length_layout k c cs in
      let m = stop_placed k c in
      let al : padding k c.alignment ≡ padding k t.shape.alignment = ap (λ (z : ℕ). padding k z) (g.shaped.alignment_is v.0) in
      let o = split x y l k c cs hl in
      let bk' : BackTableAt l w e (unless t.shape.fixed (stop k c) (field_ends (stop k c) cs)) = back_eq l w e _ _ (ends_two t.shape p g.shaped u.shape (test_shapes ts) q r.shaped v k) bk in
      let i : field_end t.shape.fixed l w e (k + padding k t.shape.alignment + t.shape.size) ≡ stop k c =
      field_end_is t.shape.fixed l w e _ (stop k c) (λ z. omega (arith, g.shaped.size_is z v.0, stop_is k c))
      (λ z. back_value l w e (stop k c) (field_ends (stop k c) cs) (subst (λ (fx : Bool). BackTableAt l w e (unless fx (stop k c) (field_ends (stop k c) cs))) z bk') (small all t.shape.fixed w b z hf hw (omega arith))) in
      rw i
      (and_true (child_written t d l b k (stop k c)) (fields_written all a d l b w (u ∷ ts) (stop k c) (offsets_left t.shape.fixed w e))
      (child_complete t d l b k (stop k c) c x (layout (stop k c) cs ++ y) (g.shaped.alignment_is v.0) o.first hx refl (omega arith) (g.complete d v.0 (both_left (fits c d) (all_fit cs d) f) (omega (arith, stop_is k c))))
      (r.complete all a d l b w v.1 (stop k c) (offsets_left t.shape.fixed w e) s (x ++ (zeros (padding k c.alignment) ++ c.bytes)) y (λ z. (both_true t.shape.fixed (all_shapes_fixed (test_shapes (u ∷ ts))) (hf z)).1) hb big hw
      (both_right (fits c d) (all_fit cs d) f) o.rest (length-append x (zeros (padding k c.alignment) ++ c.bytes) ∙ omega arith) (omega arith) le finished
      (back_rest t.shape.fixed l w e (stop k c) (field_ends (stop k c) cs) bk')))
    where
      small : (all fx : Bool) (w b : ℕ) → fx ≡ false → (all ≡ true → (fx && all_shapes_fixed (test_shapes (u ∷ ts))) ≡ true) → (all ≡ false → b < 256 ^ w) → {n : ℕ} → n ≤ b → n < 256 ^ w
      small true fx w b z hf hw le = impossible (sym z ∙ (both_true fx (all_shapes_fixed (test_shapes (u ∷ ts))) (hf refl)).0)
      small false fx w b z hf hw le = omega (arith, hw refl)

  pub next_judged : JudgesRow (t ∷ u ∷ ts) both_p
  unfolding offset_count sizes_from
  next_judged = record {
    shaped = next_shaped t.shape p g.shaped u.shape (test_shapes ts) q r.shaped;
    solid = λ h k. omega (arith, r.solid (both_true t.shape.fixed (all_shapes_fixed (test_shapes (u ∷ ts))) h).1 (k + padding k t.shape.alignment + t.shape.size));
    sound = two_sound;
    complete = two_complete;
  }

-- ---- the whole
written_width_none : (b : ℕ) → written_width b 0 ≡ encoded_width b
unfolding written_width encoded_width
written_width_none b = refl

form_fixed : (a : ℕ) (l : List ℕ) (e : ℕ) (cs : List Piece) → layout 0 cs ≡ part 0 e l → e ≤ length l → e + padding e a ≡ length l → all_zero (part e (length l) l) ≡ true → structure_bytes a true cs ≡ l
unfolding structure_bytes
form_fixed a l e cs laid le n c =
    let q : length (layout 0 cs) ≡ e = ap length laid ∙ length_part 0 e l le ∙ omega arith in
    let m : length (part e (length l) l) ≡ padding e a = length_part e (length l) l (omega arith) ∙ omega arith in
    let z : zeros (padding e a) ≡ part e (length l) l = ap (λ (i : ℕ). zeros i) (sym m) ∙ sym (zeros_all (part e (length l) l) c) in
    rw (q, z, laid) (sym (part_split 0 e (length l) l (omega arith) le) ∙ part_whole l)

form_other : (a : ℕ) (l : List ℕ) (b w n : ℕ) (cs : List Piece) → layout 0 cs ≡ part 0 b l → b ≤ length l → length (field_ends 0 cs) ≡ n → written_width b n ≡ w → back_table w (field_ends 0 cs) ≡ part b (length l) l → structure_bytes a false cs ≡ l
unfolding structure_bytes
form_other a l b w n cs laid le m f tabled =
    let q : length (layout 0 cs) ≡ b = ap length laid ∙ length_part 0 b l le ∙ omega arith in
    rw (q, m, f, laid, tabled) (sym (part_split 0 b (length l) l (omega arith) le) ∙ part_whole l)

module _ {A : Type 0} (a : ℕ) (ts : List Test) (p : A → List Piece) (r : JudgesRow ts p) where
  fixed_go : (d : Depths) (l : List ℕ) (b w n : ℕ) → n ≡ 0 → (m : Laid ts p true a d l b w 0 (length l)) → b ≡ length l - n * w → structure_bytes a true (p m.v) ≡ l
  unfolding fields_finished
  fixed_go d l b w n z m hb =
      let nz : n * w ≡ 0 = rw z (zero-mul w) in
      let q : b ≡ length l = omega arith in
      let x = both_true (eqb (m.end + padding m.end a) b) (all_zero (part m.end b l)) m.finished in
      let most = m.most in
      form_fixed a l m.end (p m.v) m.laid (omega arith) (eqb-true (m.end + padding m.end a) b x.0 ∙ q) (subst (λ (i : ℕ). all_zero (part m.end i l) ≡ true) q x.1)

  other_go : (d : Depths) (l : List ℕ) (b w n : ℕ) → n ≡ offset_count (test_shapes ts) → written_width b n ≡ w → (m : Laid ts p false a d l b w 0 (length l)) → n * w ≤ length l → b ≡ length l - n * w → structure_bytes a false (p m.v) ≡ l
  unfolding fields_finished
  other_go d l b w n hn f m le hb =
      let q : m.end ≡ b = eqb-true m.end b m.finished in
      let o : length l - offset_count (test_shapes ts) * w ≡ b = ap (λ (i : ℕ). length l - i * w) (sym hn) ∙ sym hb in
      form_other a l b w n (p m.v) (m.laid ∙ ap (λ (i : ℕ). part 0 i l) q) (omega arith) (r.shaped.offsets_are m.v 0 ∙ sym hn) f (m.table_is ∙ ap (λ (i : ℕ). part i (length l) l) o)

  body_go : (fx : Bool) → (fx ≡ true → all_shapes_fixed (test_shapes ts) ≡ true) → (d : Depths) (l : List ℕ) (b w n : ℕ) → n ≡ offset_count (test_shapes ts) → written_width b n ≡ w → (m : Laid ts p fx a d l b w 0 (length l)) → n * w ≤ length l → b ≡ length l - n * w → structure_bytes a fx (p m.v) ≡ l
  body_go true hf d l b w n hn f m le hb = fixed_go d l b w n (hn ∙ r.shaped.no_offsets (hf refl)) m hb
  body_go false hf d l b w n hn f m le hb = other_go d l b w n hn f m le hb

  wide_sound : (fx : Bool) → (fx ≡ true → all_shapes_fixed (test_shapes ts) ≡ true) → (d : Depths) (l : List ℕ) (w n : ℕ) → n ≡ offset_count (test_shapes ts) → Bytes l → offsets_written fx a ts l d w n ≡ true → (v : A) × ((structure_bytes a fx (p v) ≡ l) × T (all_fit (p v) d))
  unfolding offsets_written
  wide_sound fx hf d l w n hn by h =
      let b : ℕ = length l - n * w in
      let x = both_true (leb (n * w) (length l)) (eqb (written_width b n) w && fields_written fx a d l b w ts 0 (length l)) h in
      let y = both_true (eqb (written_width b n) w) (fields_written fx a d l b w ts 0 (length l)) x.1 in
      let le : n * w ≤ length l = leb-true (n * w) (length l) x.0 in
      let f : written_width b n ≡ w = eqb-true (written_width b n) w y.0 in
      let room : offset_count (test_shapes ts) * w ≤ length l = rw (← hn) le in
      let m = r.sound fx a d l b w 0 (length l) by (omega arith) room (omega arith) y.1 in
      (m.v, (body_go fx hf d l b w n hn f m le refl, m.fit))

  pub body_sound : (fx : Bool) → (fx ≡ true → all_shapes_fixed (test_shapes ts) ≡ true) → (d : Depths) (l : List ℕ) → Bytes l → structure_written fx a ts l d ≡ true → (v : A) × ((structure_bytes a fx (p v) ≡ l) × T (all_fit (p v) d))
  unfolding structure_written
  body_sound fx hf d l by h = wide_sound fx hf d l (encoded_width (length l)) (offset_count (test_shapes ts)) refl by h

  fixed_complete : all_shapes_fixed (test_shapes ts) ≡ true → (d : Depths) (v : A) (l : List ℕ) (s : ℕ) → T (all_fit (p v) d) → length (layout 0 (p v)) ≡ s → l ≡ layout 0 (p v) ++ zeros (padding s a) → length l ≤ 65536 → structure_written true a ts l d ≡ true
  unfolding structure_written offsets_written fields_finished
  fixed_complete hf d v l s f hs hl big =
      let z : offset_count (test_shapes ts) ≡ 0 = r.shaped.no_offsets hf in
      let w : ℕ = encoded_width (length l) in
      let nz : offset_count (test_shapes ts) * w ≡ 0 = rw z (zero-mul w) in
      let b : length l - offset_count (test_shapes ts) * w ≡ length l = omega arith in
      let n : s + padding s a ≡ length l = sym (ap length hl ∙ simp (length-append, length-replicate) (omega arith)) in
      let c : all_zero (part s (length l) l) ≡ true = ap all_zero (part_end l (layout 0 (p v)) (zeros (padding s a)) s (length l) hl hs (rw length-replicate n)) ∙ all_zeros (padding s a) in
      let e : field_ends 0 (p v) ≡ [] = empty (field_ends 0 (p v)) (r.shaped.offsets_are v 0 ∙ z) in
      and_true (leb (offset_count (test_shapes ts) * w) (length l)) (eqb (written_width (length l - offset_count (test_shapes ts) * w) (offset_count (test_shapes ts))) w && fields_written true a d l (length l - offset_count (test_shapes ts) * w) w ts 0 (length l)) (le-leb (offset_count (test_shapes ts) * w) (length l) (omega arith))
      (and_true (eqb (written_width (length l - offset_count (test_shapes ts) * w) (offset_count (test_shapes ts))) w) (fields_written true a d l (length l - offset_count (test_shapes ts) * w) w ts 0 (length l))
      (eq-eqb _ w (ap (λ (i : ℕ). written_width i (offset_count (test_shapes ts))) b ∙ ap (λ (i : ℕ). written_width (length l) i) z ∙ written_width_none (length l)))
      (subst (λ (i : ℕ). fields_written true a d l i w ts 0 (length l) ≡ true) (sym b)
      (r.complete true a d l (length l) w v 0 (length l) s [] (zeros (padding s a)) (λ q. hf) (λ q. impossible (sym q)) big (λ q. impossible (sym q)) f hl refl (omega arith) (omega arith)
      (and_true (eqb (s + padding s a) (length l)) (all_zero (part s (length l) l)) (eq-eqb _ _ n) c)
      (back_eq l w (length l) [] (field_ends 0 (p v)) (sym e) (record { front = l; back = []; is_here = sym (append-nil l) ∙ ap (λ (i : List ℕ). l ++ (i ++ [])) (sym (no_table w)); end_is = omega arith })))))
    where
      empty : (l : List ℕ) → length l ≡ 0 → l ≡ []
      empty [] h = refl
      empty (x ∷ l) h = absurd (omega arith)

  other_complete : (d : Depths) (v : A) (l : List ℕ) (s w : ℕ) → T (all_fit (p v) d) → length (layout 0 (p v)) ≡ s → written_width s (offset_count (test_shapes ts)) ≡ w → Chosen s (offset_count (test_shapes ts)) w → l ≡ layout 0 (p v) ++ back_table w (field_ends 0 (p v)) → length l ≤ 65536
      → structure_written false a ts l d ≡ true
  unfolding structure_written offsets_written fields_finished
  other_complete d v l s w f hs hw fv hl big =
      let n : ℕ = offset_count (test_shapes ts) in
      let m : length (field_ends 0 (p v)) ≡ n = r.shaped.offsets_are v 0 in
      let tl : length (back_table w (field_ends 0 (p v))) ≡ n * w = length_back_table w (field_ends 0 (p v)) ∙ ap (λ (i : ℕ). i * w) m in
      let len : length l ≡ s + n * w = ap length hl ∙ length-append (layout 0 (p v)) (back_table w (field_ends 0 (p v))) ∙ omega arith in
      let e : encoded_width (length l) ≡ w = ap encoded_width len ∙ chosen_width fv in
      let b : length l - n * w ≡ s = omega arith in
      rw e
      (rw b
      (and_true (leb (n * w) (length l)) (eqb (written_width s n) w && fields_written false a d l s w ts 0 (length l)) (le-leb (n * w) (length l) (omega arith))
      (and_true (eqb (written_width s n) w) (fields_written false a d l s w ts 0 (length l)) (eq-eqb _ w hw)
      (r.complete false a d l s w v 0 (length l) s [] (back_table w (field_ends 0 (p v))) (λ q. impossible q) (λ q. refl) (omega arith) (λ q. chosen_below fv) f hl refl (omega arith) (omega arith) (eq-eqb s s refl)
      (record { front = layout 0 (p v); back = []; is_here = hl ∙ ap (λ (i : List ℕ). layout 0 (p v) ++ i) (sym (append-nil (back_table w (field_ends 0 (p v))))); end_is = (let q : length (field_ends 0 (p v)) * w ≡ n * w = ap (λ (i : ℕ). i * w) m in omega arith) })))))

  pub body_complete : (fx : Bool) → (fx ≡ true → all_shapes_fixed (test_shapes ts) ≡ true) → (d : Depths) (v : A) → T (all_fit (p v) d) → length (structure_bytes a fx (p v)) ≤ 65536 → structure_written fx a ts (structure_bytes a fx (p v)) d ≡ true
  unfolding structure_bytes
  body_complete true hf d v f big = fixed_complete (hf refl) d v (layout 0 (p v) ++ zeros (padding (length (layout 0 (p v))) a)) (length (layout 0 (p v))) f refl refl big
  body_complete false hf d v f big =
      let s : ℕ = length (layout 0 (p v)) in
      let m : length (field_ends 0 (p v)) ≡ offset_count (test_shapes ts) = r.shaped.offsets_are v 0 in
      let q : written_width s (offset_count (test_shapes ts)) ≡ written_width s (length (field_ends 0 (p v))) = ap (λ (i : ℕ). written_width s i) (sym m) in
      let es : List ℕ = field_ends 0 (p v) in
      let w : ℕ = written_width s (length es) in
      let n : length (layout 0 (p v) ++ back_table w es) ≡ s + length es * w = length-append (layout 0 (p v)) (back_table w es) ∙ (let i = length_back_table w es in omega arith) in
      other_complete d v (layout 0 (p v) ++ back_table w es) s w f refl q (subst (λ (i : ℕ). Chosen s i w) m (written_width_chosen s (length es) (omega arith))) refl big

  pub entry_judged : Aligns a → (fx : Bool) → (fx ≡ true → all_shapes_fixed (test_shapes ts) ≡ true) → Judges (entry_test a fx ts) (λ v. entry_piece a fx (p v))
  unfolding entry_test entry_piece
  entry_judged al fx hf = record {
    shaped = record { alignment_is = λ v. refl; fixed_is = λ v. refl; size_is = λ h v. ap (λ (i : Bool). length (structure_bytes a i (p v))) h ∙ structure_shaped a (test_shapes ts) p r.shaped (hf h) v };
    solid = λ h. omega (arith, r.solid (hf h) 0);
    level = λ h. padding_aligned al (sizes_from 0 (test_shapes ts));
    aligned = al;
    sound = λ d l by h. let x = body_sound fx hf d l by h in record { v = x.0; form = x.1.0; fit = fits_by_all (p x.0) d x.1.1 };
    complete = λ d v f big. body_complete fx hf d v (all_fit_lem (p v) d f) big;
  }

  pub structure_judged : Aligns a → (fx : Bool) → (fx ≡ true → all_shapes_fixed (test_shapes ts) ≡ true) → Judges (structure_test a fx ts) (λ v. structure_piece a fx (p v))
  unfolding structure_test structure_piece
  structure_judged al fx hf = record {
    shaped = record { alignment_is = λ v. refl; fixed_is = λ v. refl; size_is = λ h v. ap (λ (i : Bool). length (structure_bytes a i (p v))) h ∙ structure_shaped a (test_shapes ts) p r.shaped (hf h) v };
    solid = λ h. omega (arith, r.solid (hf h) 0);
    level = λ h. padding_aligned al (sizes_from 0 (test_shapes ts));
    aligned = al;
    sound = λ d l by h.
        let e : Depths = opened Depth.structure d in
        let y = body_sound fx hf e l by (deeper_true e (structure_written fx a ts l) h) in
        record { v = y.0; form = y.1.0; fit = fits_by_children (p y.0) e (deeper_opens e (structure_written fx a ts l) (all_fit (p y.0)) h y.1.1) };
    complete = λ d v f big. deeper_accepts (opened Depth.structure d) (all_fit (p v)) (structure_written fx a ts (structure_bytes a fx (p v))) (children_fit (p v) (opened Depth.structure d) f) (λ k. body_complete fx hf (opened Depth.structure d) v k big);
  }
