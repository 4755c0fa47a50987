-- What was written reads as it was meant: structures. Assumes nothing.
use mathlib.Core.Path.{◌≡◌, refl, sym, ap, ◌∙◌}
use mathlib.Core.List.{List, [], ◌∷◌, ◌++◌, append-nil, append_assoc}
use mathlib.Core.Bool.{Bool, true, false}
use Prim.Native.Nat.{ℕ, suc, ◌+◌, ◌*◌, ◌-◌, ◌%◌, ◌^◌, ◌≤◌, ◌<◌}
use native.Mathlib.Nat.{zero-add}
use native.Mathlib.Omega.{arith}
use lib.Dec.{T, eqb}
use lib.ListN.{length, drop, length-append, length-replicate}
use lib.Seq.{take_at, drop_at}
use borrow.Author.Tests.{le-leb, ne_eqb}
use Rattle.meaning.specs.Numbers.{bytes}
use Rattle.meaning.specs.Padding.{padding, zeros, Aligns}
use Rattle.meaning.specs.Offsets.{encoded_width, written_width, back_table}
use Rattle.meaning.specs.Depths as Depth
use Rattle.meaning.specs.Depths.{Depths, depth_refusal, opened}
use Rattle.meaning.specs.Events.{Event}
use Rattle.meaning.specs.Written.{Piece, fits, stop, layout, events_from, field_ends, deeper, enclosing, structure_bytes, structure_piece}
use Rattle.meaning.specs.Outcome.{done, chain, passing}
use Rattle.meaning.specs.Reading.{Reader, child, further, Field, offset_stands, field_offset, padded, end_padding, fields_in, structure_body, structure_in, read_structure}
use Rattle.meaning.proofs.Tests.{both_left, both_right}
use Rattle.meaning.proofs.NumberLaws.{length_bytes, value_bytes}
use Rattle.meaning.proofs.PaddingLaws.{padding_shift, Divides}
use Rattle.meaning.proofs.OffsetLaws.{encoded_width_fits, encoded_width_positive, fits_below, Chosen, written_width_chosen}
use Rattle.meaning.proofs.FitLaws.{all_fit, children_fit}
use Rattle.meaning.proofs.OutcomeLaws.{chain_done, enclosed_done, within_done, pad_done, behind_padding_lem}
use Rattle.meaning.proofs.LayoutLaws.{All, nil, cons, layout_cons, layout_one, events_cons, events_one, field_ends_one, field_ends_fixed, field_ends_other, back_table_cons, back_table_one, layout_split, layout_shift, placed, length_placed, stop_placed, length_layout, length_back_table}
use Rattle.meaning.proofs.ReadsBack.{behind_aligned, Reads, child_reads, child_before}

-- the offset that was written there is read
module _ (n w e o : ℕ) (l x y : List ℕ) (hl : l ≡ x ++ (bytes w o ++ y)) (he : length x + w ≡ e) (hn : n ≤ length x) (hw : 0 < w) where
  offset_stands_lem : offset_stands n w e ≡ true
  unfolding offset_stands
  offset_stands_lem = rw (le-leb n e (omega arith), le-leb w e (omega arith), ne_eqb e n (λ h. omega arith), le-leb (n + w) e (omega arith))

  offset_read : o < 256 ^ w → field_offset n w e l ≡ o
  unfolding field_offset
  offset_read b =
      rw (ne_eqb e n (λ h. omega arith), hl, drop_at x (bytes w o ++ y) (e - w) (omega arith), take_at (bytes w o) y w (length_bytes w o)) (value_bytes w o b)

module _ (position : ℕ) where
  -- fields and the pieces that they read, in a structure of alignment a
  pub data Row (a : ℕ) : List Field → List Piece → Type 0 where
    none : Row a [] []
    more : {f : Field} {c : Piece} {fs : List Field} {cs : List Piece} → Reads position f.reader c → f.fixed ≡ c.fixed → Divides c.alignment a → Row a fs cs → Row a (f ∷ fs) (c ∷ cs)

  module _ (fx : Bool) (a : ℕ) (k : ℕ) (l : List ℕ) (n w : ℕ) (d : Depths) (f g : Field) (fs : List Field) (e j : ℕ) where
    pub fields_fixed : f.fixed ≡ true → fields_in position fx a k l n w d (f ∷ g ∷ fs) e j ≡ chain (child (f.reader d) k l j e) (further (fields_in position fx a k l n w d (g ∷ fs) e) j)
    unfolding fields_in
    fields_fixed h = rw h

    pub fields_other : f.fixed ≡ false → offset_stands n w e ≡ true → fields_in position fx a k l n w d (f ∷ g ∷ fs) e j
        ≡ chain (child (f.reader d) k l j (n + field_offset n w e l)) (further (fields_in position fx a k l n w d (g ∷ fs) (e - w)) j)
    unfolding fields_in
    fields_other h s = rw (h, s)

  -- in a structure that begins at n of the part l, which stands at k
  module _ (a : ℕ) (d : Depths) (k n : ℕ) (l : List ℕ) (z : (position + (k + n)) % a ≡ 0) where
    -- a last child of fixed size, and the padding at the end
    pub last_padded : (read : Reader) (c : Piece) (j i e p : ℕ) (x r : List ℕ) → Reads position read c → c.fixed ≡ true → Divides c.alignment a → T (fits c d) → length c.bytes ≤ 65536
        → l ≡ x ++ (placed j c ++ (zeros p ++ r)) → length x ≡ i → i ≡ n + j → length l ≡ e → p ≡ padding (j + length (placed j c)) a
        → end_padding position true a k l i (child (read d) k l i e) ≡ done (length (placed j c) + p) (c.events (k + n + (j + padding j c.alignment)))
    unfolding end_padding padded
    last_padded read c j i e p x r g q v t s hl hx hi he hp =
        let m : ℕ = length (placed j c) in
        let h1 : l ≡ x ++ ((zeros (padding j c.alignment) ++ (c.bytes ++ (zeros p ++ r))) ++ []) = hl ∙ simp (append-nil, append_assoc) in
        let e1 : i + length (zeros (padding j c.alignment) ++ (c.bytes ++ (zeros p ++ r))) ≡ e =
        simp (length-append, length-replicate) (omega (arith, simp (length-append, length-replicate) at (ap length h1))) in
        let h2 : l ≡ (x ++ placed j c) ++ (zeros p ++ r) = hl ∙ simp append_assoc in
        let dr : drop (i + m) l ≡ zeros p ++ r = rw h2 (drop_at (x ++ placed j c) (zeros p ++ r) (i + m) (simp length-append (omega arith))) in
        let k1 : position + (k + (i + m)) ≡ position + (k + n) + (j + m) = omega arith in
        let hp1 : p ≡ padding (position + (k + (i + m))) a = rw (k1, padding_shift (position + (k + n)) (j + m) a z) hp in
        rw (child_before position read d k n l c j i e x (zeros p ++ r) [] g q (v (position + (k + n)) z) t s h1 hx hi e1, dr, pad_done position a (k + (i + m)) p r hp1)

    module _ (w : ℕ) (hw : 0 < w) where
      -- one field that is fixed and not last; what lies behind the fields is r, up to e
      fixed_step : (fx : Bool) (f g : Field) (fs : List Field) (c : Piece) (cs : List Piece) (j i e u u' : ℕ) (x y r : List ℕ) → Reads position f.reader c → f.fixed ≡ true → c.fixed ≡ true
          → Divides c.alignment a → T (fits c d) → length (layout j (c ∷ cs)) ≤ 65536
          → l ≡ x ++ (layout j (c ∷ cs) ++ (r ++ y)) → length x ≡ i → i ≡ n + j → i + length (layout j (c ∷ cs)) + length r ≡ e
          → fields_in position fx a k l n w d (g ∷ fs) e (i + length (placed j c)) ≡ done u' (events_from (k + n) (stop j c) cs)
          → u ≡ length (placed j c) + u'
          → fields_in position fx a k l n w d (f ∷ g ∷ fs) e i ≡ done u (events_from (k + n) j (c ∷ cs))
      fixed_step fx f g fs c cs j i e u u' x y r q b b' v t s hl hx hi he ih hu =
          let v1 = stop_placed j c in
          let v2 = length_layout j c cs in
          let v3 = length_placed j c in
          let l2 : l ≡ x ++ ((zeros (padding j c.alignment) ++ (c.bytes ++ (layout (stop j c) cs ++ r))) ++ y) = hl ∙ rw layout_cons (simp append_assoc) in
          let n2 : i + length (zeros (padding j c.alignment) ++ (c.bytes ++ (layout (stop j c) cs ++ r))) ≡ e = simp (length-append, length-replicate) (omega arith) in
          fields_fixed fx a k l n w d f g fs e i b
          ∙ chain_done (child (f.reader d) k l i e) (further (fields_in position fx a k l n w d (g ∷ fs) e) i)
          (length (placed j c)) u' u
          (c.events (k + n + (j + padding j c.alignment))) (events_from (k + n) (stop j c) cs) (events_from (k + n) j (c ∷ cs))
          (child_before position f.reader d k n l c j i e x (layout (stop j c) cs ++ r) y q b' (v (position + (k + n)) z) t (omega arith) l2 hx hi n2)
          ih hu (events_cons (k + n) j c cs)

      -- one field that is neither fixed nor last, whose offset stands behind r
      other_step : (f g : Field) (fs : List Field) (c : Piece) (cs : List Piece) (j i e u u' : ℕ) (x y r : List ℕ) → Reads position f.reader c → f.fixed ≡ false → Divides c.alignment a → T (fits c d)
          → length (layout j (c ∷ cs)) ≤ 65536 → j + length (layout j (c ∷ cs)) < 256 ^ w
          → l ≡ x ++ (layout j (c ∷ cs) ++ ((r ++ bytes w (stop j c)) ++ y)) → length x ≡ i → i ≡ n + j → i + length (layout j (c ∷ cs)) + length r + w ≡ e
          → fields_in position false a k l n w d (g ∷ fs) (e - w) (i + length (placed j c)) ≡ done u' (events_from (k + n) (stop j c) cs)
          → u ≡ length (placed j c) + u'
          → fields_in position false a k l n w d (f ∷ g ∷ fs) e i ≡ done u (events_from (k + n) j (c ∷ cs))
      other_step f g fs c cs j i e u u' x y r q b v t s m hl hx hi he ih hu =
          let v1 = stop_placed j c in
          let v2 = length_layout j c cs in
          let v3 = length_placed j c in
          let b1 : List ℕ = x ++ (layout j (c ∷ cs) ++ r) in
          let l1 : l ≡ b1 ++ (bytes w (stop j c) ++ y) = hl ∙ simp append_assoc in
          let n1 : length b1 ≡ i + length (layout j (c ∷ cs)) + length r = simp length-append (omega arith) in
          let l2 : l ≡ x ++ (placed j c ++ (layout (stop j c) cs ++ ((r ++ bytes w (stop j c)) ++ y))) = layout_split x ((r ++ bytes w (stop j c)) ++ y) l j c cs hl in
          let o = offset_read n w e (stop j c) l b1 y l1 (omega arith) (omega arith) hw (omega arith) in
          fields_other false a k l n w d f g fs e i b (offset_stands_lem n w e (stop j c) l b1 y l1 (omega arith) (omega arith) hw)
          ∙ rw o (chain_done (child (f.reader d) k l i (n + stop j c)) (further (fields_in position false a k l n w d (g ∷ fs) (e - w)) i)
          (length (placed j c)) u' u
          (c.events (k + n + (j + padding j c.alignment))) (events_from (k + n) (stop j c) cs) (events_from (k + n) j (c ∷ cs))
          (child_reads position f.reader d k n l c j i x (layout (stop j c) cs ++ ((r ++ bytes w (stop j c)) ++ y)) q (v (position + (k + n)) z) t (omega arith) l2 hx hi)
          ih hu (events_cons (k + n) j c cs))

      -- the last field of a structure that is not fixed in size: the table is passed
      last_step : (f : Field) (c : Piece) (j i e m : ℕ) (x y : List ℕ) → Reads position f.reader c → Divides c.alignment a → T (fits c d) → length c.bytes ≤ 65536
          → l ≡ x ++ (placed j c ++ y) → length x ≡ i → i ≡ n + j → i + length (placed j c) ≡ e → length l ≡ e + m
          → fields_in position false a k l n w d (f ∷ []) e i ≡ done (length (placed j c) + m) (events_from (k + n) j (c ∷ []))
      unfolding fields_in end_padding
      last_step f c j i e m x y g v t s hl hx hi he hm =
          let v1 = stop_placed j c in
          let e1 : e ≡ n + stop j c = omega arith in
          let m1 : length l - e ≡ m = omega arith in
          chain_done (child (f.reader d) k l i e) (passing (length l - e)) (length (placed j c)) m (length (placed j c) + m)
          (c.events (k + n + (j + padding j c.alignment))) [] (events_from (k + n) j (c ∷ []))
          (rw e1 (child_reads position f.reader d k n l c j i x y g (v (position + (k + n)) z) t s hl hx hi))
          (rw m1) refl (rw (events_one (k + n) j c, append-nil))

      -- the fields of a structure of fixed size, and its padding at the end
      pub fixed_read : {fs : List Field} {cs : List Piece} (j i e p : ℕ) (x r : List ℕ) → 0 < length cs → Row a fs cs → All (λ c. c.fixed ≡ true) cs → T (all_fit cs d)
          → length (layout j cs) ≤ 65536 → l ≡ x ++ (layout j cs ++ (zeros p ++ r)) → length x ≡ i → i ≡ n + j → length l ≡ e → p ≡ padding (j + length (layout j cs)) a
          → fields_in position true a k l n w d fs e i ≡ done (length (layout j cs) + p) (events_from (k + n) j cs)
      unfolding all_fit fields_in
      fixed_read j i e p x r o none nil t s hl hx hi he hp = absurd (omega arith)
      fixed_read j i e p x r o (more {f = f} {c = c} g h v none) (cons q nil) t s hl hx hi he hp =
          let y = layout_one j c in
          let m0 : length l - e ≡ 0 = omega arith in
          rw (y, events_one (k + n) j c)
          (chain_done (end_padding position true a k l i (child (f.reader d) k l i e)) (passing (length l - e)) (length (placed j c) + p) 0 (length (placed j c) + p)
          (c.events (k + n + (j + padding j c.alignment))) [] (c.events (k + n + (j + padding j c.alignment)))
          (last_padded f.reader c j i e p x r g q v (both_left (fits c d) true t) (omega (arith, ap length y, length_placed j c)) (rw y at hl) hx hi he (rw y at hp))
          (rw m0) (omega arith) (rw append-nil))
      fixed_read j i e p x r o (more {f = f} {c = c} g h v (more {f = f'} {c = c'} {fs = gs} {cs = ds} g' h' v' rs)) (cons q qs) t s hl hx hi he hp =
          let v1 = stop_placed j c in
          let v2 = length_layout j c (c' ∷ ds) in
          let h1 : l ≡ x ++ (layout j (c ∷ c' ∷ ds) ++ ((zeros p ++ r) ++ [])) = hl ∙ simp append-nil in
          fixed_step true f f' gs c (c' ∷ ds) j i e (length (layout j (c ∷ c' ∷ ds)) + p) (length (layout (stop j c) (c' ∷ ds)) + p) x [] (zeros p ++ r) g (h ∙ q) q v
          (both_left (fits c d) (all_fit (c' ∷ ds) d) t) s h1 hx hi
          (simp (length-append, length-replicate) (omega (arith, simp (length-append, length-replicate) at (ap length hl))))
          (fixed_read (stop j c) (i + length (placed j c)) e p (x ++ placed j c) r (omega arith) (more {f = f'} g' h' v' rs) qs (both_right (fits c d) (all_fit (c' ∷ ds) d) t) (omega arith)
          (layout_shift x (zeros p ++ r) l j c (c' ∷ ds) hl) (simp length-append (omega arith)) (omega arith) he (rw (← length_layout j c (c' ∷ ds)) hp))
          (omega arith)

      -- one field that is not last, of a structure that is not fixed in size
      next_step : (b : Bool) (f g : Field) (fs : List Field) (c c' : Piece) (ds : List Piece) (j i e m : ℕ) (x y : List ℕ) → c.fixed ≡ b → Reads position f.reader c → f.fixed ≡ c.fixed
          → Divides c.alignment a → T (fits c d) → length (layout j (c ∷ c' ∷ ds)) ≤ 65536 → j + length (layout j (c ∷ c' ∷ ds)) < 256 ^ w
          → l ≡ x ++ (layout j (c ∷ c' ∷ ds) ++ (back_table w (field_ends j (c ∷ c' ∷ ds)) ++ y)) → length x ≡ i → i ≡ n + j
          → i + length (layout j (c ∷ c' ∷ ds)) + length (field_ends j (c ∷ c' ∷ ds)) * w ≡ e
          → ((e : ℕ) (y : List ℕ) → l ≡ (x ++ placed j c) ++ (layout (stop j c) (c' ∷ ds) ++ (back_table w (field_ends (stop j c) (c' ∷ ds)) ++ y))
          → i + length (placed j c) + length (layout (stop j c) (c' ∷ ds)) + length (field_ends (stop j c) (c' ∷ ds)) * w ≡ e
          → fields_in position false a k l n w d (g ∷ fs) e (i + length (placed j c)) ≡ done (length (layout (stop j c) (c' ∷ ds)) + m) (events_from (k + n) (stop j c) (c' ∷ ds)))
          → fields_in position false a k l n w d (f ∷ g ∷ fs) e i ≡ done (length (layout j (c ∷ c' ∷ ds)) + m) (events_from (k + n) j (c ∷ c' ∷ ds))
      next_step true f g fs c c' ds j i e m x y q rd h v t s b hl hx hi he ih =
          let v1 = stop_placed j c in
          let v2 = length_layout j c (c' ∷ ds) in
          let v3 = length_back_table w (field_ends (stop j c) (c' ∷ ds)) in
          let h1 = rw (field_ends_fixed j c c' ds q) at hl in
          let e1 = rw (field_ends_fixed j c c' ds q) at he in
          fixed_step false f g fs c (c' ∷ ds) j i e (length (layout j (c ∷ c' ∷ ds)) + m) (length (layout (stop j c) (c' ∷ ds)) + m) x y (back_table w (field_ends (stop j c) (c' ∷ ds))) rd (h ∙ q) q v t s h1 hx hi (omega arith)
          (ih e y (layout_shift x (back_table w (field_ends (stop j c) (c' ∷ ds)) ++ y) l j c (c' ∷ ds) h1) (omega arith)) (omega arith)
      next_step false f g fs c c' ds j i e m x y q rd h v t s b hl hx hi he ih =
          let es : List ℕ = field_ends (stop j c) (c' ∷ ds) in
          let v1 = stop_placed j c in
          let v2 = length_layout j c (c' ∷ ds) in
          let v3 = length_back_table w es in
          let h1 = rw (field_ends_other j c c' ds q, back_table_cons) at hl in
          let e1 : i + length (layout j (c ∷ c' ∷ ds)) + suc (length es) * w ≡ e = rw (field_ends_other j c c' ds q) at he in
          other_step f g fs c (c' ∷ ds) j i e (length (layout j (c ∷ c' ∷ ds)) + m) (length (layout (stop j c) (c' ∷ ds)) + m) x y (back_table w es) rd (h ∙ q) v t s b h1 hx hi (omega arith)
          (ih (e - w) (bytes w (stop j c) ++ y) (h1 ∙ rw (layout_cons j c) (simp append_assoc)) (omega arith)) (omega arith)

      -- the fields of a structure that is not fixed in size; the whole table has m bytes
      pub fields_read : {fs : List Field} {cs : List Piece} (j i e m : ℕ) (x y : List ℕ) → 0 < length cs → Row a fs cs → T (all_fit cs d)
          → length (layout j cs) ≤ 65536 → j + length (layout j cs) < 256 ^ w
          → l ≡ x ++ (layout j cs ++ (back_table w (field_ends j cs) ++ y)) → length x ≡ i → i ≡ n + j → i + length (layout j cs) + length (field_ends j cs) * w ≡ e → length l ≡ i + length (layout j cs) + m
          → fields_in position false a k l n w d fs e i ≡ done (length (layout j cs) + m) (events_from (k + n) j cs)
      unfolding all_fit
      fields_read j i e m x y o none t s b hl hx hi he hm = absurd (omega arith)
      fields_read j i e m x y o (more {f = f} {c = c} g h v none) t s b hl hx hi he hm =
          let y1 = layout_one j c in
          let h1 : l ≡ x ++ (placed j c ++ y) = rw (back_table_one w j c, y1) at hl in
          let e1 : i + length (placed j c) ≡ e = omega (arith, rw (field_ends_one j c) at he, ap length y1) in
          rw y1 (last_step f c j i e m x y g v (both_left (fits c d) true t) (omega (arith, ap length y1, length_placed j c)) h1 hx hi e1 (omega (arith, ap length y1)))
      fields_read j i e m x y o (more {f = f} {c = c} g h v (more {f = f'} {c = c'} {fs = gs} {cs = ds} g' h' v' r)) t s b hl hx hi he hm =
          let v1 = stop_placed j c in
          let v2 = length_layout j c (c' ∷ ds) in
          next_step c.fixed f f' gs c c' ds j i e m x y refl g h v (both_left (fits c d) (all_fit (c' ∷ ds) d) t) s b hl hx hi he
          (λ e' y' hl' he'. fields_read (stop j c) (i + length (placed j c)) e' m (x ++ placed j c) y' (omega arith) (more g' h' v' r) (both_right (fits c d) (all_fit (c' ∷ ds) d) t)
          (omega arith) (omega arith) hl' (simp length-append (omega arith)) (omega arith) he' (omega arith))

  -- a structure at a place k behind padding p
  module _ (a : ℕ) (fs : List Field) (cs : List Piece) (g : Row a fs cs) (o : 0 < length cs) (d : Depths) (k p q : ℕ) (f : T (all_fit cs d)) (z : (position + (k + p)) % a ≡ 0) (hq : q ≡ k + p) where
    structure_fixed : (e : ℕ) (r : List ℕ) → All (λ c. c.fixed ≡ true) cs → length (layout 0 cs) ≤ 65536 → e ≡ padding (length (layout 0 cs)) a
        → structure_body position a true fs k (zeros p ++ (layout 0 cs ++ (zeros e ++ r))) p d ≡ done (length (layout 0 cs) + e) (enclosing 40 q (length (layout 0 cs) + e) (events_from q 0 cs))
    unfolding structure_body
    structure_fixed e r x s he =
        let l : List ℕ = zeros p ++ (layout 0 cs ++ (zeros e ++ r)) in
        rw (← hq) (enclosed_done 40 q (length (layout 0 cs) + e) (length (layout 0 cs) + e) _ (events_from q 0 cs)
        (rw hq (fixed_read a d k p l z _ (encoded_width_positive (length l - p)) 0 p (length l) e (zeros p) r o g x f s refl (length-replicate p 0) (omega arith) refl (rw zero-add he))) refl)

    structure_other : (w : ℕ) → Chosen (length (layout 0 cs)) (length (field_ends 0 cs)) w → length (layout 0 cs) + length (field_ends 0 cs) * w ≤ 65536
        → structure_body position a false fs k (zeros p ++ (layout 0 cs ++ back_table w (field_ends 0 cs))) p d
        ≡ done (length (layout 0 cs) + length (field_ends 0 cs) * w) (enclosing 40 q (length (layout 0 cs) + length (field_ends 0 cs) * w) (events_from q 0 cs))
    unfolding structure_body
    structure_other w c s =
        let b : ℕ = length (layout 0 cs) in
        let m : ℕ = length (field_ends 0 cs) * w in
        let y : List ℕ = back_table w (field_ends 0 cs) in
        let l : List ℕ = zeros p ++ (layout 0 cs ++ y) in
        let h : l ≡ zeros p ++ (layout 0 cs ++ (y ++ [])) = simp append-nil in
        let n : p + b + m ≡ length l = simp (length-append, length-replicate, length_back_table) (omega arith) in
        let wd : encoded_width (length l - p) ≡ w = (let e : length l - p ≡ b + m = omega arith in rw e (encoded_width_fits c.fits c.positive)) in
        rw (wd, ← hq) (enclosed_done 40 q (b + m) (b + m) _ (events_from q 0 cs)
        (rw hq (fields_read a d k p l z w c.positive 0 p (length l) m (zeros p) [] o g f (omega arith) (rw zero-add (fits_below c.fits c.positive)) h (length-replicate p 0) (omega arith) n (sym n))) refl)

  read_structure_done : (a : ℕ) (fx : Bool) (fs : List Field) (fits : Depths → Bool) (d : Depths) (k p u v : ℕ) (y : List ℕ) (es : List Event) → T (deeper (opened Depth.structure d) fits) → p ≡ padding (position + k) a
      → (T (fits (opened Depth.structure d)) → structure_body position a fx fs k (zeros p ++ y) p (opened Depth.structure d) ≡ done v es) → u ≡ p + v
      → read_structure position a fx fs d k (zeros p ++ y) ≡ done u es
  unfolding read_structure structure_in
  read_structure_done a fx fs fits d k p u v y es f hp h hu =
      behind_padding_lem position a k p u v y (structure_in position a fx fs d k (zeros p ++ y)) es hp
      (within_done (opened Depth.structure d) (k + p) (structure_body position a fx fs k (zeros p ++ y) p) (both_left (eqb (depth_refusal (opened Depth.structure d)) 0) (fits (opened Depth.structure d)) f)
      (h (both_right (eqb (depth_refusal (opened Depth.structure d)) 0) (fits (opened Depth.structure d)) f))) hu

  pub structure_reads : (a : ℕ) (al : Aligns a) (fx : Bool) (fs : List Field) (cs : List Piece) → Row a fs cs → 0 < length cs → (T fx → All (λ c. c.fixed ≡ true) cs)
      → Reads position (read_structure position a fx fs) (structure_piece a fx cs)
  unfolding structure_piece structure_bytes
  structure_reads a al true fs cs g o x d k p u q r f s t hp hu hq =
      let b : ℕ = length (layout 0 cs) in
      let e : ℕ = padding b a in
      let n : length (layout 0 cs ++ zeros e) ≡ b + e = simp (length-append, length-replicate) in
      let here : (position + (k + p)) % a ≡ 0 = behind_aligned position al k p hp in
      rw (append_assoc, n) (read_structure_done a true fs (all_fit cs) d k p u (b + e) (layout 0 cs ++ (zeros e ++ r)) _ (children_fit cs (opened Depth.structure d) f) hp (λ f'.
      structure_fixed a fs cs g o (opened Depth.structure d) k p q f' here hq e r (x tt) (omega arith) refl) (omega arith))
  structure_reads a al false fs cs g o x d k p u q r f s t hp hu hq =
      let b : ℕ = length (layout 0 cs) in
      let w : ℕ = written_width b (length (field_ends 0 cs)) in
      let y : List ℕ = back_table w (field_ends 0 cs) in
      let n : length (layout 0 cs ++ y) ≡ b + length (field_ends 0 cs) * w = simp (length-append, length_back_table) in
      let here : (position + (k + p)) % a ≡ 0 = behind_aligned position al k p hp in
      rw (t, append-nil, n) (read_structure_done a false fs (all_fit cs) d k p u (b + length (field_ends 0 cs) * w) (layout 0 cs ++ y) _ (children_fit cs (opened Depth.structure d) f) hp (λ f'.
      structure_other a fs cs g o (opened Depth.structure d) k p q f' here hq w (written_width_chosen b (length (field_ends 0 cs)) (omega arith)) (omega arith)) (omega arith))
