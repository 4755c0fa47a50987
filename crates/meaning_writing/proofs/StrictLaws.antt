-- The strict test holds of the written forms and of nothing else: basic values, maybes, arrays. Assumes nothing.
use mathlib.Core.Path.{◌≡◌, refl, sym, ap, ◌∙◌, subst}
use mathlib.Core.List.{List, [], ◌∷◌, ◌++◌, map, append-nil, append_assoc, reverse_aux}
use mathlib.Core.Option.{Option, none, some}
use mathlib.Core.Bool.{Bool, true, false, ◌&&◌}
use Prim.Native.Nat.{ℕ, zero, suc, ◌+◌, ◌-◌, ◌*◌, ◌/◌, ◌%◌, ◌^◌, ◌≤◌, ◌<◌}
use native.Mathlib.Nat.{mod_self, add-mod, zero-mod, mul-div_cancel}
use native.Mathlib.Omega.{arith}
use lib.Dec.{T, leb, eqb}
use lib.ListN.{length, take, get_or, length-append, length-replicate}
use borrow.Author.Tests.{le-leb, eq-eqb, ne_eqb, leb-true, eqb-true, lt-ltb}
use Rattle.meaning.specs.Numbers.{bytes, value, ordered}
use Rattle.meaning.specs.Padding.{Aligns, padding, zeros}
use Rattle.meaning.specs.Offsets.{encoded_width, written_width, table, last_offset}
use Rattle.meaning.specs.Texts.{text_refusal}
use Rattle.meaning.specs.Depths as Depth
use Rattle.meaning.specs.Depths.{Depths, opened}
use Rattle.meaning.specs.Types.{Number, Text, Basic, bool, number, text, number_width, basic_alignment, basic_fixed}
use Rattle.meaning.specs.Values.{BasicValue}
use Rattle.meaning.specs.Written.{Piece, fits, stop, layout, ends, deeper, basic_piece, maybe_piece, array_bytes, array_piece}
use Rattle.meaning_writing.specs.Shapes.{basic_size, part}
use Rattle.meaning_writing.specs.Strict.{all_zero, Test, basic_written, basic_test, present_written, maybe_written, maybe_test, child_written, element_end, elements_written, table_written, array_written, array_test}
use Rattle.meaning.proofs.Tests.{both, both_left, both_right, from_test, to_test, impossible, both_true, and_true}
use Rattle.meaning.proofs.FitLaws.{all_fit, held_fits, children_fit, fits_by_held, fits_by_children}
use Rattle.meaning.proofs.NumberLaws.{Bytes, none as no_bytes, more, bytes_value, length_bytes, length_ordered, ordered_twice, value_bytes, value_below}
use Rattle.meaning.proofs.PaddingLaws.{padding_none}
use Rattle.meaning.proofs.TypeLaws.{number_positive, basic_aligned}
use Rattle.meaning.proofs.OffsetLaws.{Chosen, written_width_chosen}
use Rattle.meaning.proofs.LayoutLaws.{layout_cons, length_layout, length_table, length_ends, last_offset_table, stop_placed, layout_none}
use Rattle.meaning_writing.proofs.Parts.{part_whole, part_none, part_split, length_part, part_mid, zeros_all, all_zeros, take_bytes, part_bytes, offset_form, but_last, last_zero, last_off}
use Rattle.meaning_writing.proofs.PieceLaws.{maybe_alignment, maybe_fixed, deeper_true, deeper_opens, deeper_accepts, chosen_width, chosen_below, stop_is, split}
use Rattle.meaning_writing.proofs.ShapeLaws.{Shaped, basic_shaped, loose_shaped}

-- l is the written form of a value that may be read where d is open
pub record FormOf {A : Type 0} (p : A → Piece) (d : Depths) (l : List ℕ) : Type 0 where
  pub v : A
  pub form : (p v).bytes ≡ l
  pub fit : T (fits (p v) d)

-- the test t is that of the values written as p says
pub record Judges {A : Type 0} (t : Test) (p : A → Piece) : Type 0 where
  pub shaped : Shaped t.shape p
  pub solid : t.shape.fixed ≡ true → 0 < t.shape.size
  pub level : t.shape.fixed ≡ true → t.shape.size % t.shape.alignment ≡ 0
  pub aligned : Aligns t.shape.alignment
  pub sound : (d : Depths) (l : List ℕ) → Bytes l → t.accepts d l ≡ true → FormOf p d l
  pub complete : (d : Depths) (v : A) → T (fits (p v) d) → length (p v).bytes ≤ 65536 → t.accepts d (p v).bytes ≡ true

-- ---- basic values
bool_sound : (big : Bool) (l : List ℕ) → basic_written bool l ≡ true → (d : Depths) → FormOf (basic_piece big bool) d l
unfolding basic_written basic_piece
bool_sound big [] h d = impossible h
bool_sound big (zero ∷ []) h d = record { v = false; form = refl; fit = tt }
bool_sound big (suc zero ∷ []) h d = record { v = true; form = refl; fit = tt }
bool_sound big (suc (suc x) ∷ []) h d = absurd (let k = leb-true (suc (suc x)) 1 h in omega arith)
bool_sound big (x ∷ y ∷ l) h d = absurd (let g = both_true (eqb (length (x ∷ y ∷ l)) 1) (leb x 1) h in let k = eqb-true (length (x ∷ y ∷ l)) 1 g.0 in omega arith)

bytes_back : {x y : List ℕ} → Bytes x → Bytes y → Bytes (reverse_aux x y)
bytes_back no_bytes b = b
bytes_back (more h a) b = bytes_back a (more h b)

bytes_ordered : (big : Bool) {l : List ℕ} → Bytes l → Bytes (ordered big l)
bytes_ordered true b = bytes_back b no_bytes
bytes_ordered false b = b

number_sound : (big : Bool) (c : Number) (l : List ℕ) → Bytes l → basic_written (number c) l ≡ true → (d : Depths) → FormOf (basic_piece big (number c)) d l
unfolding basic_written basic_piece
number_sound big c l b h d =
    let n : length (ordered big l) ≡ number_width c = length_ordered big l ∙ eqb-true (length l) (number_width c) h in
    let g : bytes (number_width c) (value (ordered big l)) ≡ ordered big l = rw n at (bytes_value (bytes_ordered big b)) in
    let u : value (ordered big l) < 256 ^ number_width c = value_below (bytes_ordered big b) (number_width c) n in
    record { v = value (ordered big l); form = rw g (ordered_twice big l); fit = to_test _ (and_true _ true (lt-ltb (value (ordered big l)) (256 ^ number_width c) u) refl) }

text_sound : (big : Bool) (c : Text) (l : List ℕ) → basic_written (text c) l ≡ true → (d : Depths) → FormOf (basic_piece big (text c)) d l
unfolding basic_written basic_piece
text_sound big c l h d =
    let g = both_true _ _ h in
    let k = both_true _ _ g.1 in
    record {
      v = take (length l - 1) l;
      form = sym (but_last l 0 (leb-true 1 (length l) g.0) (eqb-true (get_or l (length l - 1) 1) 0 k.0));
      fit = to_test _ (and_true _ true k.1 refl);
    }

basic_sound : (big : Bool) (b : Basic) (d : Depths) (l : List ℕ) → Bytes l → basic_written b l ≡ true → FormOf (basic_piece big b) d l
basic_sound big bool d l b h = bool_sound big l h d
basic_sound big (number c) d l b h = number_sound big c l b h d
basic_sound big (text c) d l b h = text_sound big c l h d

basic_complete : (big : Bool) (b : Basic) (d : Depths) (v : BasicValue b) → T (fits (basic_piece big b v) d) → basic_written b (basic_piece big b v).bytes ≡ true
unfolding basic_written basic_piece
basic_complete big bool d true f = refl
basic_complete big bool d false f = refl
basic_complete big (number c) d v f = eq-eqb _ (number_width c) (length_ordered big (bytes (number_width c) v) ∙ length_bytes (number_width c) v)
basic_complete big (text c) d v f =
    let n : 1 ≤ length (v ++ (0 ∷ [])) = simp length-append (omega arith) in
    and_true _ _ (le-leb 1 (length (v ++ (0 ∷ []))) n) (and_true _ _ (eq-eqb _ 0 (last_zero v)) (rw (last_off v) (from_test _ (both_left (eqb (text_refusal v) 0) true f))))

basic_positive : (b : Basic) → basic_fixed b ≡ true → 0 < basic_size b
basic_positive bool h = omega arith
basic_positive (number c) h = number_positive c
basic_positive (text c) h = impossible h

basic_level : (b : Basic) → basic_size b % basic_alignment b ≡ 0
basic_level bool = refl
basic_level (number c) = mod_self (number_width c)
basic_level (text c) = refl

pub basic_judged : (big : Bool) (b : Basic) → Judges (basic_test b) (basic_piece big b)
unfolding basic_test
basic_judged big b = record {
  shaped = basic_shaped big b;
  solid = basic_positive b;
  level = λ h. basic_level b;
  aligned = basic_aligned b;
  sound = λ d l b' h. basic_sound big b d l b' h;
  complete = λ d v f s. basic_complete big b d v f;
}

-- ---- maybes
module _ {A : Type 0} (a : ℕ) (t : Test) (p : A → Piece) (g : Judges t p) where
  present_sound : (fx : Bool) (d : Depths) (l : List ℕ) → Bytes l → 0 < length l → deeper (opened Depth.maybe d) (present_written fx t l) ≡ true → FormOf (maybe_piece a fx p) d l
  unfolding present_written maybe_piece
  present_sound true d l b n h =
      let e : Depths = opened Depth.maybe d in
      let i = g.sound e l b (deeper_true e (present_written true t l) h) in
      record { v = some i.v; form = i.form; fit = fits_by_held (p i.v) e (deeper_opens e (present_written true t l) (fits (p i.v)) h i.fit) }
  present_sound false d l b n h =
      let e : Depths = opened Depth.maybe d in
      let y = both_true (eqb (get_or l (length l - 1) 1) 0) (t.accepts e (take (length l - 1) l)) (deeper_true e (present_written false t l) h) in
      let i = g.sound e (take (length l - 1) l) (take_bytes (length l - 1) b) y.1 in
      record {
        v = some i.v;
        form = ap (λ (z : List ℕ). z ++ (0 ∷ [])) i.form ∙ sym (but_last l 0 n (eqb-true (get_or l (length l - 1) 1) 0 y.0));
        fit = fits_by_held (p i.v) e (deeper_opens e (present_written false t l) (fits (p i.v)) h i.fit);
      }

  maybe_sound : (fx : Bool) (d : Depths) (l : List ℕ) → Bytes l → maybe_written fx t d l ≡ true → FormOf (maybe_piece a fx p) d l
  unfolding maybe_written maybe_piece
  maybe_sound fx d [] b h = record { v = none; form = refl; fit = tt }
  maybe_sound fx d (x ∷ l) b h =
      let z : eqb (length (x ∷ l)) 0 ≡ false = ne_eqb (length (x ∷ l)) 0 (λ e. omega arith) in
      present_sound fx d (x ∷ l) b (omega arith) (rw z at h)

  -- what has a byte is present
  present_complete : (fx : Bool) (d : Depths) (l : List ℕ) → 0 < length l → deeper (opened Depth.maybe d) (present_written fx t l) ≡ true → maybe_written fx t d l ≡ true
  unfolding maybe_written
  present_complete fx d l n h = rw (ne_eqb (length l) 0 (λ e. omega arith)) h

  maybe_complete : (fx : Bool) → (fx ≡ true → t.shape.fixed ≡ true) → (d : Depths) (v : Option A) → T (fits (maybe_piece a fx p v) d) → length (maybe_piece a fx p v).bytes ≤ 65536 → maybe_written fx t d (maybe_piece a fx p v).bytes ≡ true
  unfolding maybe_piece present_written
  maybe_complete fx e d none f s = unfold maybe_written in refl
  maybe_complete true e d (some v) f s =
      present_complete true d (p v).bytes (omega (arith, g.solid (e refl), g.shaped.size_is (e refl) v))
      (deeper_accepts (opened Depth.maybe d) (fits (p v)) (present_written true t (p v).bytes) (held_fits (p v) (opened Depth.maybe d) f) (λ k. g.complete (opened Depth.maybe d) v k s))
  maybe_complete false e d (some v) f s =
      let n : length ((p v).bytes ++ (0 ∷ [])) ≡ length (p v).bytes + 1 = simp length-append in
      present_complete false d ((p v).bytes ++ (0 ∷ [])) (omega arith)
      (deeper_accepts (opened Depth.maybe d) (fits (p v)) (present_written false t ((p v).bytes ++ (0 ∷ []))) (held_fits (p v) (opened Depth.maybe d) f) (λ k.
      and_true _ _ (eq-eqb _ 0 (last_zero (p v).bytes)) (rw (last_off (p v).bytes) (g.complete (opened Depth.maybe d) v k (omega arith)))))

pub maybe_judged : {A : Type 0} (a : ℕ) (fx : Bool) (t : Test) (p : A → Piece) → t.shape.alignment ≡ a → t.shape.fixed ≡ fx → Judges t p → Judges (maybe_test a fx t) (maybe_piece a fx p)
unfolding maybe_test
maybe_judged a fx t p ha hf g = record {
  shaped = loose_shaped _ _ (maybe_alignment a fx p) (maybe_fixed a fx p);
  solid = λ h. impossible h;
  level = λ h. impossible h;
  aligned = subst Aligns ha g.aligned;
  sound = maybe_sound a t p g fx;
  complete = maybe_complete a t p g fx (λ e. hf ∙ e);
}

-- ---- a child in its place
pub record ChildAt (t : Test) (d : Depths) (l : List ℕ) (s k e : ℕ) : Type 0 where
  pub least : k + padding k t.shape.alignment ≤ e
  pub most : e ≤ s
  pub gap : part k (k + padding k t.shape.alignment) l ≡ zeros (padding k t.shape.alignment)
  pub it : t.accepts d (part (k + padding k t.shape.alignment) e l) ≡ true

pub child_sound : (t : Test) (d : Depths) (l : List ℕ) (s k e : ℕ) → s ≤ length l → child_written t d l s k e ≡ true → ChildAt t d l s k e
unfolding child_written
child_sound t d l s k e n h =
    let p : ℕ = k + padding k t.shape.alignment in
    let a = both_true (leb p e) (leb e s && (all_zero (part k p l) && t.accepts d (part p e l))) h in
    let b = both_true (leb e s) (all_zero (part k p l) && t.accepts d (part p e l)) a.1 in
    let c = both_true (all_zero (part k p l)) (t.accepts d (part p e l)) b.1 in
    let least : p ≤ e = leb-true p e a.0 in
    let most : e ≤ s = leb-true e s b.0 in
    let m : length (part k p l) ≡ padding k t.shape.alignment = length_part k p l (omega arith) ∙ omega arith in
    record { least = least; most = most; gap = zeros_all (part k p l) c.0 ∙ ap (λ (i : ℕ). zeros i) m; it = c.1 }

-- of a piece that stands behind x and before y
pub child_complete : (t : Test) (d : Depths) (l : List ℕ) (s k e : ℕ) (c : Piece) (x y : List ℕ) → c.alignment ≡ t.shape.alignment → l ≡ x ++ ((zeros (padding k c.alignment) ++ c.bytes) ++ y) → length x ≡ k → stop k c ≡ e → e ≤ s
    → t.accepts d c.bytes ≡ true → child_written t d l s k e ≡ true
unfolding child_written stop
child_complete t d l s k e c x y ha hl hx he hs h =
    let p : ℕ = k + padding k t.shape.alignment in
    let z : List ℕ = zeros (padding k t.shape.alignment) in
    let hp : padding k c.alignment ≡ padding k t.shape.alignment = ap (λ (a : ℕ). padding k a) ha in
    let f : l ≡ x ++ (z ++ (c.bytes ++ y)) = hl ∙ ap (λ (i : ℕ). x ++ ((zeros i ++ c.bytes) ++ y)) hp ∙ simp append_assoc in
    let g : l ≡ (x ++ z) ++ (c.bytes ++ y) = f ∙ simp append_assoc in
    let a : part k p l ≡ z = part_mid l x z (c.bytes ++ y) k p f hx (simp length-replicate) in
    let b : part p e l ≡ c.bytes = part_mid l (x ++ z) c.bytes y p e g (simp (length-append, length-replicate) (omega arith)) (omega arith) in
    and_true (leb p e) _ (le-leb p e (omega arith)) (and_true (leb e s) _ (le-leb e s hs) (and_true (all_zero (part k p l)) _ (rw a (all_zeros (padding k t.shape.alignment))) (rw b h)))

-- a laid out child, from the bytes
pub child_laid : (l : List ℕ) (k e s a : ℕ) (c : Piece) (cs : List Piece) → c.alignment ≡ a → c.bytes ≡ part (k + padding k a) e l → stop k c ≡ e → layout e cs ≡ part e s l
    → part k (k + padding k a) l ≡ zeros (padding k a) → k + padding k a ≤ e → e ≤ s → layout k (c ∷ cs) ≡ part k s l
child_laid l k e s a c cs ha hb he hl hz least most =
    let p : ℕ = k + padding k a in
    let i : zeros (padding k c.alignment) ≡ part k p l = ap (λ (x : ℕ). zeros (padding k x)) ha ∙ sym hz in
    let j : layout (stop k c) cs ≡ part e s l = ap (λ (x : ℕ). layout x cs) he ∙ hl in
    let m : part k s l ≡ part k p l ++ (part p e l ++ part e s l) = part_split k p s l (omega arith) (omega arith) ∙ ap (λ (x : List ℕ). part k p l ++ x) (part_split p e s l least most) in
    layout_cons k c cs ∙ (cc)

pub stop_there : (l : List ℕ) (k e a : ℕ) (c : Piece) → c.alignment ≡ a → c.bytes ≡ part (k + padding k a) e l → k + padding k a ≤ e → e ≤ length l → stop k c ≡ e
unfolding stop
stop_there l k e a c ha hb least most =
    let i : padding k c.alignment ≡ padding k a = ap (λ (x : ℕ). padding k x) ha in
    let n : length c.bytes ≡ e - (k + padding k a) = ap length hb ∙ length_part (k + padding k a) e l most in
    omega arith

-- ---- elements
pub record Elements {A : Type 0} (p : A → Piece) (fx : Bool) (d : Depths) (l : List ℕ) (w s m j k : ℕ) : Type 0 where
  pub vs : List A
  pub laid : layout k (map p vs) ≡ part k s l
  pub table_is : fx ≡ false → table w (ends k (map p vs)) ≡ part j (j + m * w) l
  pub count_is : length (map p vs) ≡ m
  pub fit : T (all_fit (map p vs) d)

end_false : (fx : Bool) (l : List ℕ) (w j x : ℕ) → fx ≡ false → value (part j (j + w) l) ≡ element_end fx l w j x
unfolding element_end
end_false true l w j x h = impossible (sym h)
end_false false l w j x h = refl

tab_cons : (l : List ℕ) (w j m k e : ℕ) (c : Piece) (cs : List Piece) → stop k c ≡ e → bytes w e ≡ part j (j + w) l → table w (ends e cs) ≡ part (j + w) ((j + w) + m * w) l
    → table w (ends k (c ∷ cs)) ≡ part j (j + suc m * w) l
unfolding table ends
tab_cons l w j m k e c cs h u n =
    let z : j + suc m * w ≡ (j + w) + m * w = omega arith in
    rw (h, u, n, z) (sym (part_split j (j + w) ((j + w) + m * w) l (omega arith) (omega arith)))

module _ {A : Type 0} (t : Test) (p : A → Piece) (g : Judges t p) (fx : Bool) (d : Depths) (l : List ℕ) (b : Bytes l) (w s : ℕ) (hs : s ≤ length l) where
  elements_sound : (m j k : ℕ) → (fx ≡ false → j + m * w ≤ length l) → elements_written fx t d l w s m j k ≡ true → Elements p fx d l w s m j k
  unfolding elements_written ends table all_fit
  elements_sound zero j k room h =
      let e : k ≡ s = eqb-true k s h in
      record { vs = []; laid = layout_none k ∙ sym (part_none k s l (omega arith)); table_is = λ q. sym (part_none j (j + 0 * w) l (omega arith)); count_is = refl; fit = tt }
  elements_sound (suc m) j k room h =
      let e : ℕ = element_end fx l w j (k + padding k t.shape.alignment + t.shape.size) in
      let x = both_true (child_written t d l s k e) (elements_written fx t d l w s m (j + w) e) h in
      let c = child_sound t d l s k e hs x.0 in
      let i = g.sound d (part (k + padding k t.shape.alignment) e l) (part_bytes (k + padding k t.shape.alignment) e b) c.it in
      let o : stop k (p i.v) ≡ e = stop_there l k e t.shape.alignment (p i.v) (g.shaped.alignment_is i.v) i.form c.least (let q = c.most in omega arith) in
      let r = elements_sound m (j + w) e (λ q. let y = room q in omega arith) x.1 in
      record {
        vs = i.v ∷ r.vs;
        laid = child_laid l k e s t.shape.alignment (p i.v) (map p r.vs) (g.shaped.alignment_is i.v) i.form o r.laid c.gap c.least c.most;
        table_is = λ q.
            let y = room q in
            let u : bytes w e ≡ part j (j + w) l = offset_form l j w e b (omega arith) (end_false fx l w j _ q) in
            tab_cons l w j m k e (p i.v) (map p r.vs) o u (r.table_is q);
        count_is = ap suc r.count_is;
        fit = both (fits (p i.v) d) (all_fit (map p r.vs) d) i.fit r.fit;
      }

table_end : (l : List ℕ) (s e : ℕ) → s ≤ e → e ≡ length l → part 0 s l ++ part s e l ≡ l
table_end l s e h g = rw g (sym (part_split 0 s (length l) l (omega arith) (omega arith)) ∙ part_whole l)

array_form : (l : List ℕ) (w s m : ℕ) (cs : List Piece) → layout 0 cs ≡ part 0 s l → table w (ends 0 cs) ≡ part s (s + m * w) l → length cs ≡ m → written_width s m ≡ w → s + m * w ≡ length l → array_bytes false cs ≡ l
unfolding array_bytes
array_form l w s m cs laid tabled count_is f n =
    let e : length (layout 0 cs) ≡ s = ap length laid ∙ length_part 0 s l (omega arith) ∙ omega arith in
    rw (e, count_is, f, laid, tabled) (table_end l s (s + m * w) (omega arith) n)

module _ {A : Type 0} (t : Test) (p : A → Piece) (g : Judges t p) where
  array_sound : (fx : Bool) (d : Depths) (l : List ℕ) → Bytes l → array_written fx t l d ≡ true → (vs : List A) × ((array_bytes fx (map p vs) ≡ l) × T (all_fit (map p vs) d))
  unfolding array_written table_written array_bytes
  array_sound true d l b h =
      let r = elements_sound t p g true d l b 0 (length l) (omega arith) (length l / t.shape.size) 0 0 (λ q. impossible (sym q)) h in
      (r.vs, (r.laid ∙ part_whole l, r.fit))
  array_sound false d l b h =
      let w : ℕ = encoded_width (length l) in
      let s : ℕ = last_offset w l in
      let m : ℕ = (length l - s) / w in
      let x = both_true (eqb (s + m * w) (length l)) (eqb (written_width s m) w && elements_written false t d l w s m s 0) h in
      let y = both_true (eqb (written_width s m) w) (elements_written false t d l w s m s 0) x.1 in
      let n : s + m * w ≡ length l = eqb-true (s + m * w) (length l) x.0 in
      let f : written_width s m ≡ w = eqb-true (written_width s m) w y.0 in
      let r = elements_sound t p g false d l b w s (omega arith) m s 0 (λ q. omega arith) y.1 in
      (r.vs, (array_form l w s m (map p r.vs) r.laid (r.table_is refl) r.count_is f n, r.fit))

-- ---- and back: written elements pass
end_is : (fx : Bool) (l : List ℕ) (w j x e : ℕ) → (fx ≡ true → x ≡ e) → (fx ≡ false → value (part j (j + w) l) ≡ e) → element_end fx l w j x ≡ e
unfolding element_end
end_is true l w j x e f g = f refl
end_is false l w j x e f g = g refl

-- where the table stands in l
pub record TableAt (l : List ℕ) (w j : ℕ) (es : List ℕ) : Type 0 where
  pub front : List ℕ
  pub back : List ℕ
  pub is_here : l ≡ front ++ (table w es ++ back)
  pub front_is : length front ≡ j

pub table_step : (l : List ℕ) (w j e : ℕ) (es : List ℕ) → TableAt l w j (e ∷ es) → TableAt l w (j + w) es
unfolding table
table_step l w j e es t = record {
  front = t.front ++ bytes w e;
  back = t.back;
  is_here = t.is_here ∙ simp append_assoc;
  front_is = let n = t.front_is in simp (length-append, length_bytes) (omega arith);
}

pub table_value : (l : List ℕ) (w j e : ℕ) (es : List ℕ) → TableAt l w j (e ∷ es) → e < 256 ^ w → value (part j (j + w) l) ≡ e
unfolding table
table_value l w j e es t h =
    let c : part j (j + w) l ≡ bytes w e = part_mid l t.front (bytes w e) (table w es ++ t.back) j (j + w) (t.is_here ∙ simp append_assoc) t.front_is (rw length_bytes) in
    rw c (value_bytes w e h)

module _ {A : Type 0} (t : Test) (p : A → Piece) (g : Judges t p) (fx : Bool) (hf : t.shape.fixed ≡ fx) (d : Depths) (l : List ℕ) (w s : ℕ) (hw : fx ≡ false → s < 256 ^ w) where
  elements_complete : (vs : List A) (j k : ℕ) (x y : List ℕ) → T (all_fit (map p vs) d) → l ≡ x ++ (layout k (map p vs) ++ y) → length x ≡ k → k + length (layout k (map p vs)) ≡ s → s ≤ 65536
      → (fx ≡ false → TableAt l w j (ends k (map p vs))) → elements_written fx t d l w s (length (map p vs)) j k ≡ true
  unfolding elements_written ends all_fit
  elements_complete [] j k x y f hl hx hs big ht = let n : length (layout k []) ≡ 0 = ap length (layout_none k) in eq-eqb k s (omega arith)
  elements_complete (v ∷ vs) j k x y f hl hx hs big ht =
      let c : Piece = p v in
      let n = length_layout k c (map p vs) in
      let m = stop_placed k c in
      let o = split x y l k c (map p vs) hl in
      let u : length (zeros (padding k c.alignment) ++ c.bytes) ≡ padding k c.alignment + length c.bytes = simp (length-append, length-replicate) in
      let i : element_end fx l w j (k + padding k t.shape.alignment + t.shape.size) ≡ stop k c =
      end_is fx l w j (k + padding k t.shape.alignment + t.shape.size) (stop k c)
      (λ q. let a : padding k c.alignment ≡ padding k t.shape.alignment = ap (λ (z : ℕ). padding k z) (g.shaped.alignment_is v) in omega (arith, g.shaped.size_is (hf ∙ q) v, stop_is k c))
      (λ q. table_value l w j (stop k c) (ends (stop k c) (map p vs)) (ht q) (omega (arith, hw q))) in
      rw i
      (and_true _ _
      (child_complete t d l s k (stop k c) c x (layout (stop k c) (map p vs) ++ y) (g.shaped.alignment_is v) o.first hx refl (omega arith) (g.complete d v (both_left (fits (p v) d) (all_fit (map p vs) d) f) (omega arith)))
      (elements_complete vs (j + w) (stop k c) (x ++ (zeros (padding k c.alignment) ++ c.bytes)) y (both_right (fits (p v) d) (all_fit (map p vs) d) f) o.rest (length-append x (zeros (padding k c.alignment) ++ c.bytes) ∙ omega arith) (omega arith) big
      (λ q. table_step l w j (stop k c) (ends (stop k c) (map p vs)) (ht q))))

-- elements of fixed size lie one behind another
run_length : {A : Type 0} (t : Test) (p : A → Piece) → Judges t p → t.shape.fixed ≡ true → (vs : List A) (k : ℕ) → k % t.shape.alignment ≡ 0 → length (layout k (map p vs)) ≡ length (map p vs) * t.shape.size
run_length t p g h [] k z = ap length (layout_none k) ∙ omega arith
run_length t p g h (v ∷ vs) k z =
    let n = length_layout k (p v) (map p vs) in
    let a : padding k (p v).alignment ≡ 0 = ap (λ (x : ℕ). padding k x) (g.shaped.alignment_is v) ∙ padding_none g.aligned k z in
    let e : stop k (p v) ≡ k + t.shape.size = omega (arith, g.shaped.size_is h v, stop_is k (p v)) in
    let y : (k + t.shape.size) % t.shape.alignment ≡ 0 = add-mod k t.shape.size t.shape.alignment ∙ rw (z, g.level h) (zero-mod t.shape.alignment) in
    let i = run_length t p g h vs (stop k (p v)) (rw e y) in
    omega arith

pub whole_table : (l : List ℕ) (w s : ℕ) (b es : List ℕ) → l ≡ b ++ table w es → length b ≡ s → TableAt l w s es
whole_table l w s b es h n = record { front = b; back = []; is_here = rw append-nil h; front_is = n }

module _ {A : Type 0} (t : Test) (p : A → Piece) (g : Judges t p) where
  table_complete : (d : Depths) (vs : List A) (l : List ℕ) (w s : ℕ) → t.shape.fixed ≡ false → T (all_fit (map p vs) d) → length (layout 0 (map p vs)) ≡ s → Chosen s (length (map p vs)) w → written_width s (length (map p vs)) ≡ w
      → s + length (map p vs) * w ≤ 65536 → l ≡ layout 0 (map p vs) ++ table w (ends 0 (map p vs)) → table_written t d l w s (length (map p vs)) ≡ true
  unfolding table_written
  table_complete d vs l w s hf f hs hw hfit big hl =
      let cs : List Piece = map p vs in
      let n : length l ≡ s + length cs * w = ap length hl ∙ (simp (length-append, length_table, length_ends) (omega arith)) in
      and_true (eqb (s + length cs * w) (length l)) _ (eq-eqb _ _ (sym n))
      (and_true (eqb (written_width s (length cs)) w) _ (eq-eqb _ _ hfit)
      (elements_complete t p g false hf d l w s (λ q. chosen_below hw) vs s 0 [] (table w (ends 0 cs)) f hl refl (omega arith) (omega arith) (λ q. whole_table l w s (layout 0 cs) (ends 0 cs) hl hs)))

  array_complete : (fx : Bool) (d : Depths) (vs : List A) → t.shape.fixed ≡ fx → T (all_fit (map p vs) d) → length (array_bytes fx (map p vs)) ≤ 65536 → array_written fx t (array_bytes fx (map p vs)) d ≡ true
  unfolding array_bytes array_written
  array_complete true d vs hf f big =
      let cs : List Piece = map p vs in
      let l : List ℕ = layout 0 cs in
      let n : length l ≡ length cs * t.shape.size = run_length t p g hf vs 0 (zero-mod t.shape.alignment) in
      let m : length l / t.shape.size ≡ length cs = rw n (mul-div_cancel (length cs) (g.solid hf)) in
      rw m (elements_complete t p g true hf d l 0 (length l) (λ q. impossible (sym q)) vs 0 0 [] [] f (sym (append-nil l)) refl (omega arith) big (λ q. impossible (sym q)))
  array_complete false d vs hf f big =
      let cs : List Piece = map p vs in
      let s : ℕ = length (layout 0 cs) in
      let w : ℕ = written_width s (length cs) in
      let l : List ℕ = layout 0 cs ++ table w (ends 0 cs) in
      let n : length l ≡ s + length cs * w = simp (length-append, length_table, length_ends) in
      let b : s + length cs * w ≤ 65536 = omega arith in
      let v = written_width_chosen s (length cs) b in
      let e : encoded_width (length l) ≡ w = rw n (chosen_width v) in
      let o : last_offset w l ≡ s = last_offset_table w s cs refl (chosen_below v) in
      let m : (length l - s) / w ≡ length cs = (let q : length l - s ≡ length cs * w = omega arith in rw q (mul-div_cancel (length cs) v.positive)) in
      rw (e, o, m) (table_complete d vs l w s hf f refl v refl b refl)

pub array_judged : {A : Type 0} (o a : ℕ) (fx : Bool) (t : Test) (p : A → Piece) → t.shape.alignment ≡ a → t.shape.fixed ≡ fx → Judges t p → Judges (array_test a fx t) (λ vs. array_piece o a fx (map p vs))
unfolding array_test array_piece
array_judged {A} o a fx t p ha hf g = record {
  shaped = loose_shaped _ _ (λ v. refl) (λ v. refl);
  solid = λ h. impossible h;
  level = λ h. impossible h;
  aligned = subst Aligns ha g.aligned;
  sound = sound;
  complete = λ d vs f big. deeper_accepts (opened Depth.array d) (all_fit (map p vs)) (array_written fx t (array_bytes fx (map p vs))) (children_fit (map p vs) (opened Depth.array d) f) (λ k. array_complete t p g fx (opened Depth.array d) vs hf k big);
}
  where
    sound : (d : Depths) (l : List ℕ) → Bytes l → deeper (opened Depth.array d) (array_written fx t l) ≡ true → FormOf (λ (vs : List A). array_piece o a fx (map p vs)) d l
    sound d l b h =
        let e : Depths = opened Depth.array d in
        let r = array_sound t p g fx e l b (deeper_true e (array_written fx t l) h) in
        record { v = r.0; form = r.1.0; fit = fits_by_children (map p r.0) e (deeper_opens e (array_written fx t l) (all_fit (map p r.0)) h r.1.1) }
