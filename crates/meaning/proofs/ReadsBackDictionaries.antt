-- What was written reads as it was meant: the entries of dictionaries. Assumes nothing.
use mathlib.Core.Path.{◌≡◌, refl, sym, ap, ◌∙◌}
use mathlib.Core.List.{List, [], ◌∷◌, ◌++◌, map, append-nil, append_assoc}
use mathlib.Core.Bool.{Bool, true, false, ◌&&◌}
use Prim.Native.Nat.{ℕ, ◌+◌, ◌*◌, ◌-◌, ◌%◌, ◌≤◌, ◌<◌}
use native.Mathlib.Omega.{arith}
use lib.Dec.{T}
use lib.ListN.{length, take, drop, length-append, length-replicate}
use lib.Seq.{drop_at, take_at}
use borrow.Author.Tests.{le-leb}
use Rattle.meaning.specs.Numbers.{bytes}
use Rattle.meaning.specs.Padding.{padding, zeros, Aligns}
use Rattle.meaning.specs.Offsets.{encoded_width, written_width, last_offset, back_table}
use Rattle.meaning.specs.Depths.{Depths}
use Rattle.meaning.specs.Events.{Event}
use Rattle.meaning.specs.Written.{Piece, fits, stop, layout, events_from, field_ends, structure_bytes, entry_piece, array_piece}
use Rattle.meaning.specs.Outcome.{done, passing}
use Rattle.meaning.specs.Reading.{Reader, child, further, end_padding, value_from, fixed_key, value_before, key_to, text_key, entry_from, read_entry, entry_step, read_array}
use Rattle.meaning.proofs.Tests.{both_left, both_right}
use Rattle.meaning.proofs.NumberLaws.{length_bytes, value_bytes}
use Rattle.meaning.proofs.PaddingLaws.{padding_shift, padding_aligned, Divides}
use Rattle.meaning.proofs.OffsetLaws.{encoded_width_fits, fits_below, Chosen, written_width_chosen}
use Rattle.meaning.proofs.FitLaws.{all_fit, all_fit_lem}
use Rattle.meaning.proofs.OutcomeLaws.{chain_done, behind_padding_lem}
use Rattle.meaning.proofs.LayoutLaws.{All, nil, cons, layout_cons, layout_one, events_cons, events_one, field_ends_one, field_ends_fixed, field_ends_other, placed, length_placed, stop_placed, last_offset_at}
use Rattle.meaning.proofs.ReadsBack.{Reads, Good, child_reads, child_before, Steps, array_reads}
use Rattle.meaning.proofs.ReadsBackStructures.{last_padded}

-- a key and a value, laid out from 0
module _ (ck cv : Piece) where
  abbrev pub pair : List Piece
  pair = ck ∷ cv ∷ []

  abbrev mid : ℕ
  mid = stop 0 ck

  pub layout_pair : layout 0 pair ≡ placed 0 ck ++ placed mid cv
  layout_pair = rw (layout_cons 0 ck (cv ∷ []), layout_one mid cv) (sym (append_assoc (zeros (padding 0 ck.alignment)) ck.bytes (placed mid cv)))

  pub length_pair : length (layout 0 pair) ≡ length (placed 0 ck) + length (placed mid cv)
  length_pair = ap length layout_pair ∙ length-append (placed 0 ck) (placed mid cv)

  pub events_pair : (p : ℕ) → events_from p 0 pair ≡ ck.events (p + (0 + padding 0 ck.alignment)) ++ cv.events (p + (mid + padding mid cv.alignment))
  events_pair p = rw (events_cons p 0 ck (cv ∷ []), events_one p mid cv)

  pub stop_pair : length (placed 0 ck) ≡ mid
  stop_pair = omega (arith, stop_placed 0 ck)

module _ (position a : ℕ) (fx : Bool) (key value : Reader) (d : Depths) (k : ℕ) (l : List ℕ) (b : ℕ) where
  -- past the entry's padding
  entry_behind : (fk : Bool) (i e p u v : ℕ) (x y : List ℕ) (es : List Event) → l ≡ x ++ (zeros p ++ y) → length x ≡ i → p ≡ padding (position + (k + i)) a
      → entry_from position a fx key value d k l b fk e (i + p) ≡ done v es → u ≡ p + v → read_entry position a fx key value d k l b fk i e ≡ done u es
  unfolding read_entry
  entry_behind fk i e p u v x y es hl hx hp h hu =
      let dr : drop i l ≡ zeros p ++ y = rw hl (drop_at x (zeros p ++ y) i hx) in
      rw dr (behind_padding_lem position a (k + i) p u v y (further (entry_from position a fx key value d k l b fk e) i) es hp h hu)

  -- behind its padding, from the place n
  module _ (n : ℕ) (z : (position + (k + n)) % a ≡ 0) (ck cv : Piece) (gk : Reads position key ck) (gv : Reads position value cv) (dk : Divides ck.alignment a) (dv : Divides cv.alignment a)
      (f : T (all_fit (pair ck cv) d)) (s : length (layout 0 (pair ck cv)) ≤ 65536) where
    key_fits : T (fits ck d)
    unfolding all_fit
    key_fits = both_left (fits ck d) (fits cv d && true) f

    value_fits : T (fits cv d)
    unfolding all_fit
    value_fits = both_left (fits cv d) true (both_right (fits ck d) (fits cv d && true) f)

    -- the events of the two
    joined : (es : List Event) → es ≡ cv.events (k + n + (stop 0 ck + padding (stop 0 ck) cv.alignment))
        → events_from (k + n) 0 (pair ck cv) ≡ ck.events (k + n + (0 + padding 0 ck.alignment)) ++ es
    joined es h = events_pair ck cv (k + n) ∙ rw h

    -- a text, the value, and the key's offset of width w
    text_read : (e w : ℕ) (x y : List ℕ) → l ≡ x ++ (layout 0 (pair ck cv) ++ (bytes w (stop 0 ck) ++ y)) → length x ≡ n → n + length (layout 0 (pair ck cv)) + w ≡ e → n + stop 0 ck ≤ b
        → key_to position a fx key value d k l b n e w (n + stop 0 ck) ≡ done (length (layout 0 (pair ck cv)) + w) (events_from (k + n) 0 (pair ck cv))
    unfolding key_to value_before
    text_read e w x y hl hx he hb =
        let j : ℕ = stop 0 ck in
        let b1 : List ℕ = placed 0 ck in
        let b2 : List ℕ = placed j cv in
        let v0 = stop_pair ck cv in
        let v1 = stop_placed j cv in
        let v3 = length_pair ck cv in
        let v5 = length_placed 0 ck in
        let v6 = length_placed j cv in
        let e1 : e - w ≡ n + stop j cv = omega arith in
        let l1 : l ≡ x ++ (b1 ++ (b2 ++ (bytes w j ++ y))) = hl ∙ rw (layout_pair ck cv) (simp append_assoc) in
        let l2 : l ≡ (x ++ b1) ++ (b2 ++ (bytes w j ++ y)) = l1 ∙ sym (append_assoc x b1 (b2 ++ (bytes w j ++ y))) in
        let ek : List Event = ck.events (k + n + (0 + padding 0 ck.alignment)) in
        let ev : List Event = cv.events (k + n + (j + padding j cv.alignment)) in
        rw (le-leb (n + j) b hb)
        (chain_done (child (key d) k l n (n + j)) (further (value_before position a fx key value d k l b e w) n) (length b1) (length b2 + w) (length (layout 0 (pair ck cv)) + w) ek ev (events_from (k + n) 0 (pair ck cv))
        (child_reads position key d k n l ck 0 n x (b2 ++ (bytes w j ++ y)) gk (dk (position + (k + n)) z) key_fits (omega arith) l1 hx (omega arith))
        (rw (le-leb (n + length b1 + w) e (omega arith), e1)
        (chain_done (child (value d) k l (n + length b1) (n + stop j cv)) (passing w) (length b2) w (length b2 + w) ev [] ev
        (child_reads position value d k n l cv j (n + length b1) (x ++ b1) (bytes w j ++ y) gv (dv (position + (k + n)) z) value_fits (omega arith) l2 (simp length-append (omega arith)) (omega arith))
        refl refl (rw append-nil)))
        (omega arith) (joined ev refl))

    -- its width and the key's end are found again
    pub key_read : (e w : ℕ) (x y : List ℕ) → Chosen (length (layout 0 (pair ck cv))) 1 w
        → l ≡ x ++ (layout 0 (pair ck cv) ++ (bytes w (stop 0 ck) ++ y)) → length x ≡ n → n + length (layout 0 (pair ck cv)) + w ≡ e → e ≤ b
        → entry_from position a fx key value d k l b false e n ≡ done (length (layout 0 (pair ck cv)) + w) (events_from (k + n) 0 (pair ck cv))
    unfolding entry_from text_key
    key_read e w x y c hl hx he hb =
        let o : ℕ = length (layout 0 (pair ck cv)) in
        let q : List ℕ = layout 0 (pair ck cv) ++ bytes w (stop 0 ck) in
        let v0 = stop_pair ck cv in
        let v3 = length_pair ck cv in
        let m1 : e - n ≡ o + 1 * w = omega arith in
        let wd : encoded_width (e - n) ≡ w = rw m1 (encoded_width_fits c.fits c.positive) in
        let l1 : l ≡ x ++ (q ++ y) = hl ∙ simp append_assoc in
        let tk : take (e - n) (drop n l) ≡ q = rw (l1, drop_at x (q ++ y) n hx) (take_at q y (e - n) (simp (length-append, length_bytes) (omega arith))) in
        let lo : last_offset w q ≡ stop 0 ck = last_offset_at w (layout 0 (pair ck cv)) (bytes w (stop 0 ck)) (length_bytes w (stop 0 ck)) ∙ value_bytes w (stop 0 ck) (omega (arith, fits_below c.fits c.positive)) in
        rw (le-leb n e (omega arith), wd, tk, lo) (text_read e w x y hl hx he (omega arith))

    -- a key of fixed size, and the value behind it
    fixed_joined : (e u v : ℕ) → child (key d) k l n e ≡ done (length (placed 0 ck)) (ck.events (k + n + (0 + padding 0 ck.alignment)))
        → value_from position a fx key value d k l b e (n + length (placed 0 ck)) ≡ done v (cv.events (k + n + (stop 0 ck + padding (stop 0 ck) cv.alignment))) → u ≡ length (placed 0 ck) + v
        → entry_from position a fx key value d k l b true e n ≡ done u (events_from (k + n) 0 (pair ck cv))
    unfolding entry_from fixed_key
    fixed_joined e u v hk hv hu =
        chain_done (child (key d) k l n e) (further (value_from position a fx key value d k l b e) n) (length (placed 0 ck)) v u _ _ (events_from (k + n) 0 (pair ck cv)) hk hv hu (joined _ refl)

    -- and what lies behind the key is r, up to e
    key_before : (e : ℕ) (x r y : List ℕ) → ck.fixed ≡ true → l ≡ x ++ (placed 0 ck ++ (r ++ y)) → length x ≡ n → n + length (placed 0 ck) + length r ≡ e
        → child (key d) k l n e ≡ done (length (placed 0 ck)) (ck.events (k + n + (0 + padding 0 ck.alignment)))
    key_before e x r y h hl hx he =
        let v5 = length_placed 0 ck in
        let v3 = length_pair ck cv in
        child_before position key d k n l ck 0 n e x r y gk h (dk (position + (k + n)) z) key_fits (omega arith) (hl ∙ simp append_assoc) hx (omega arith)
        (simp (length-append, length-replicate) (omega arith))

    pub half_read : fx ≡ false → (e : ℕ) (x y : List ℕ) → ck.fixed ≡ true → l ≡ x ++ (layout 0 (pair ck cv) ++ y) → length x ≡ n → n + length (layout 0 (pair ck cv)) ≡ e
        → entry_from position a fx key value d k l b true e n ≡ done (length (layout 0 (pair ck cv))) (events_from (k + n) 0 (pair ck cv))
    unfolding value_from end_padding
    half_read hf e x y h hl hx he =
        let j : ℕ = stop 0 ck in
        let v0 = stop_pair ck cv in
        let v1 = stop_placed j cv in
        let v3 = length_pair ck cv in
        let v6 = length_placed j cv in
        let e1 : e ≡ n + stop j cv = omega arith in
        let l1 : l ≡ x ++ (placed 0 ck ++ (placed j cv ++ y)) = hl ∙ rw (layout_pair ck cv) (simp append_assoc) in
        fixed_joined e (length (layout 0 (pair ck cv))) (length (placed j cv)) (key_before e x (placed j cv) y h l1 hx (omega arith))
        (rw (hf, e1) (child_reads position value d k n l cv j (n + length (placed 0 ck)) (x ++ placed 0 ck) y gv (dv (position + (k + n)) z) value_fits (omega arith)
        (l1 ∙ sym (append_assoc x (placed 0 ck) (placed j cv ++ y))) (simp length-append (omega arith)) (omega arith))) (omega arith)

    pub full_read : fx ≡ true → (e p : ℕ) (x y : List ℕ) → ck.fixed ≡ true → cv.fixed ≡ true → l ≡ x ++ (layout 0 (pair ck cv) ++ (zeros p ++ y)) → length x ≡ n → length l ≡ e
        → p ≡ padding (length (layout 0 (pair ck cv))) a
        → entry_from position a fx key value d k l b true e n ≡ done (length (layout 0 (pair ck cv)) + p) (events_from (k + n) 0 (pair ck cv))
    unfolding value_from
    full_read hf e p x y h h' hl hx he hp =
        let j : ℕ = stop 0 ck in
        let v0 = stop_pair ck cv in
        let v3 = length_pair ck cv in
        let v6 = length_placed j cv in
        let l1 : l ≡ x ++ (placed 0 ck ++ ((placed j cv ++ (zeros p ++ y)) ++ [])) = hl ∙ rw (layout_pair ck cv) (simp (append-nil, append_assoc)) in
        let l2 : l ≡ (x ++ placed 0 ck) ++ (placed j cv ++ (zeros p ++ y)) = hl ∙ rw (layout_pair ck cv) (simp append_assoc) in
        let e1 : n + length (placed 0 ck) + length (placed j cv ++ (zeros p ++ y)) ≡ e = omega (arith, ap length l2 ∙ length-append (x ++ placed 0 ck) (placed j cv ++ (zeros p ++ y)), length-append x (placed 0 ck)) in
        fixed_joined e (length (layout 0 (pair ck cv)) + p) (length (placed j cv) + p) (key_before e x (placed j cv ++ (zeros p ++ y)) [] h l1 hx e1)
        (rw hf (last_padded position a d k n l z value cv j (n + length (placed 0 ck)) e p (x ++ placed 0 ck) y gv h' dv value_fits (omega arith) l2 (simp length-append (omega arith)) (omega arith) he
        (let m : length (layout 0 (pair ck cv)) ≡ j + length (placed j cv) = omega arith in rw (← m) hp))) (omega arith)

-- an entry is a step of its dictionary
module _ (position a : ℕ) (al : Aligns a) (key value : Reader) (d : Depths) (k n b : ℕ) (l : List ℕ) (ck cv : Piece) (gk : Reads position key ck) (gv : Reads position value cv)
    (dk : Divides ck.alignment a) (dv : Divides cv.alignment a) (z : (position + (k + n)) % a ≡ 0) (f : T (all_fit (pair ck cv) d)) where
  -- where the entry starts behind its padding
  module _ (j i : ℕ) (hi : i ≡ n + j) where
    starts : (position + (k + (i + padding j a))) % a ≡ 0
    starts =
        let m : position + (k + (i + padding j a)) ≡ (position + (k + n) + j) + padding j a = omega arith in
        rw (m, ← padding_shift (position + (k + n)) j a z) (padding_aligned al (position + (k + n) + j))

    padding_here : padding j a ≡ padding (position + (k + i)) a
    padding_here = let m : position + (k + i) ≡ position + (k + n) + j = omega arith in rw m (sym (padding_shift (position + (k + n)) j a z))

    -- an entry of v bytes behind its padding, as a step reads it
    stepped : (fk fx : Bool) (e v : ℕ) (x y : List ℕ) → l ≡ x ++ (zeros (padding j a) ++ y) → length x ≡ i
        → entry_from position a fx key value d k l b fk e (i + padding j a) ≡ done v (events_from (k + (i + padding j a)) 0 (pair ck cv))
        → read_entry position a fx key value d k l b fk i e ≡ done (padding j a + v) (events_from (k + n + (j + padding j a)) 0 (pair ck cv))
    stepped fk fx e v x y hl hx h =
        let m : k + (i + padding j a) ≡ k + n + (j + padding j a) = omega arith in
        entry_behind position a fx key value d k l b fk i e (padding j a) (padding j a + v) v x y (events_from (k + n + (j + padding j a)) 0 (pair ck cv)) hl hx padding_here (rw m at h) refl

  -- what an entry is written as
  half_bytes : ck.fixed ≡ true → structure_bytes a false (pair ck cv) ≡ layout 0 (pair ck cv)
  unfolding structure_bytes back_table
  half_bytes h = let ne : field_ends 0 (pair ck cv) ≡ [] = field_ends_fixed 0 ck cv [] h ∙ field_ends_one (stop 0 ck) cv in rw ne (rw append-nil)

  text_bytes : ck.fixed ≡ false → structure_bytes a false (pair ck cv) ≡ layout 0 (pair ck cv) ++ bytes (written_width (length (layout 0 (pair ck cv))) 1) (stop 0 ck)
  unfolding structure_bytes back_table
  text_bytes h =
      let ne : field_ends 0 (pair ck cv) ≡ stop 0 ck ∷ [] = field_ends_other 0 ck cv [] h ∙ ap (λ (es : List ℕ). stop 0 ck ∷ es) (field_ends_one (stop 0 ck) cv) in rw ne

  step_full : ck.fixed ≡ true → cv.fixed ≡ true → 0 < length ck.bytes → Steps true (read_entry position a true key value d k l b true) k n b l (entry_piece a true (pair ck cv))
  unfolding entry_piece structure_bytes
  step_full h h' o =
      let v = length_pair ck cv in
      let v2 = length_placed 0 ck in
      let m : ℕ = padding (length (layout 0 (pair ck cv))) a in
      let w = length-append (layout 0 (pair ck cv)) (zeros m) in (
        omega arith,
        λ j i e x y s hl hx hi he.
            (let c : padding j a + (length (layout 0 (pair ck cv)) + m) ≡ length (zeros (padding j a) ++ (layout 0 (pair ck cv) ++ zeros m)) = simp (length-append, length-replicate) in
            rw c at (stepped j i hi true true e (length (layout 0 (pair ck cv)) + m) x ((layout 0 (pair ck cv) ++ zeros m) ++ y) hl hx
            (full_read position a true key value d k l b (i + padding j a) (starts j i hi) ck cv gk gv dk dv f (omega arith) refl e m (x ++ zeros (padding j a)) y h h' (hl ∙ simp append_assoc)
            (simp (length-append, length-replicate) (omega arith)) he refl))),
      )

  step_half : ck.fixed ≡ true → Steps false (read_entry position a false key value d k l b true) k n b l (entry_piece a false (pair ck cv))
  unfolding entry_piece stop
  step_half h j i x y s hb hl hx hi =
      let o : ℕ = length (layout 0 (pair ck cv)) in
      let eq = half_bytes h in
      let s' = rw eq at s in
      let hl' = rw eq at hl in
      let c : padding j a + o ≡ length (zeros (padding j a) ++ layout 0 (pair ck cv)) = simp (length-append, length-replicate) in
      rw (eq, ← c) (stepped j i hi true false (n + (j + padding j a + o)) o x (layout 0 (pair ck cv) ++ y) (hl' ∙ simp append_assoc) hx
      (half_read position a false key value d k l b (i + padding j a) (starts j i hi) ck cv gk gv dk dv f s' refl (n + (j + padding j a + o)) (x ++ zeros (padding j a)) y h (hl' ∙ simp append_assoc)
      (simp (length-append, length-replicate) (omega arith)) (omega arith)))

  step_text : ck.fixed ≡ false → Steps false (read_entry position a false key value d k l b false) k n b l (entry_piece a false (pair ck cv))
  unfolding entry_piece stop
  step_text h j i x y s hb hl hx hi =
      let o : ℕ = length (layout 0 (pair ck cv)) in
      let w : ℕ = written_width o 1 in
      let q : List ℕ = layout 0 (pair ck cv) ++ bytes w (stop 0 ck) in
      let v : length q ≡ o + w = simp (length-append, length_bytes) in
      let eq = text_bytes h in
      let s' = rw eq at s in
      let hl' = rw eq at hl in
      let hb' = rw eq at hb in
      let c : padding j a + (o + w) ≡ length (zeros (padding j a) ++ q) = simp (length-append, length-replicate, length_bytes) in
      rw (eq, ← c) (stepped j i hi false false (n + (j + padding j a + length q)) (o + w) x (q ++ y) (hl' ∙ simp append_assoc) hx
      (key_read position a false key value d k l b (i + padding j a) (starts j i hi) ck cv gk gv dk dv f (omega arith) (n + (j + padding j a + length q)) w (x ++ zeros (padding j a)) y
      (written_width_chosen o 1 (omega arith)) (hl' ∙ simp append_assoc) (simp (length-append, length-replicate) (omega arith)) (omega arith) hb'))

-- every entry is a step
module _ {A : Type 0} (position a ak av : ℕ) (al : Aligns a) (fk fv : Bool) (key value : Reader) (pk pv : A → Piece) (gk : (x : A) → Good position key ak fk (pk x))
    (gv : (x : A) → Good position value av fv (pv x)) (dk : Divides ak a) (dv : Divides av a) where
  abbrev pub entry : A → Piece
  entry x = entry_piece a (fk && fv) (pair (pk x) (pv x))

  under : (c e : ℕ) → c ≡ e → Divides e a → Divides c a
  under c e h v m w = rw h (v m w)

  module _ (d : Depths) (k n b : ℕ) (l : List ℕ) (z : (position + (k + n)) % a ≡ 0) where
    entry_step_lem : (fk fv : Bool) (x : A) → Good position key ak fk (pk x) → Good position value av fv (pv x) → T (all_fit (pair (pk x) (pv x)) d)
        → Steps (fk && fv) (entry_step position a fk (fk && fv) key value d k l b) k n b l (entry_piece a (fk && fv) (pair (pk x) (pv x)))
    unfolding entry_step
    entry_step_lem true true x g h f = step_full position a al key value d k n b l (pk x) (pv x) g.reads h.reads (under (pk x).alignment ak g.alignment_is dk) (under (pv x).alignment av h.alignment_is dv) z f g.fixed_is h.fixed_is (g.solid tt)
    entry_step_lem true false x g h f = step_half position a al key value d k n b l (pk x) (pv x) g.reads h.reads (under (pk x).alignment ak g.alignment_is dk) (under (pv x).alignment av h.alignment_is dv) z f g.fixed_is
    entry_step_lem false fv x g h f = step_text position a al key value d k n b l (pk x) (pv x) g.reads h.reads (under (pk x).alignment ak g.alignment_is dk) (under (pv x).alignment av h.alignment_is dv) z f g.fixed_is

    entry_steps : (xs : List A) → T (all_fit (map entry xs) d) → All (Steps (fk && fv) (entry_step position a fk (fk && fv) key value d k l b) k n b l) (map entry xs)
    unfolding all_fit entry_piece
    entry_steps [] f = nil
    entry_steps (x ∷ xs) f = cons (entry_step_lem fk fv x (gk x) (gv x) (all_fit_lem (pair (pk x) (pv x)) d (both_left (fits (entry x) d) (all_fit (map entry xs) d) f)))
        (entry_steps xs (both_right (fits (entry x) d) (all_fit (map entry xs) d) f))

  pub dictionary_reads : (xs : List A) → Reads position (read_array position 123 a (fk && fv) (entry_step position a fk (fk && fv) key value)) (array_piece 123 a (fk && fv) (map entry xs))
  dictionary_reads xs = array_reads position 123 a al (fk && fv) (entry_step position a fk (fk && fv) key value) (map entry xs) (λ d k n b l z h f. entry_steps d k n b l z xs f)
