-- What was written reads as it was meant: basic values, maybes, arrays. Assumes nothing.
use mathlib.Core.Path.{◌≡◌, refl, sym, ap, ◌∙◌}
use mathlib.Core.List.{List, [], ◌∷◌, ◌++◌, append-nil, append_assoc}
use mathlib.Core.Option.{Option, none, some}
use mathlib.Core.Bool.{Bool, true, false}
use Prim.Native.Nat.{ℕ, zero, suc, ◌+◌, ◌*◌, ◌-◌, ◌%◌, ◌^◌, ◌≤◌, ◌<◌}
use native.Mathlib.Omega.{arith}
use native.Mathlib.Nat.{zero-add}
use lib.Dec.{T, ltb, eqb, ltb→lt}
use lib.ListN.{length, drop, get_or, length-append, length-replicate}
use lib.Seq.{take_at, drop_at, get_or_at}
use borrow.Author.Tests.{le-leb, lt-leb, eq-eqb, ne_eqb}
use Rattle.meaning.specs.Numbers.{bytes, ordered}
use Rattle.meaning.specs.Padding.{padding, zeros, Aligns}
use Rattle.meaning.specs.Offsets.{written_width, table}
use Rattle.meaning.specs.Texts.{without_final_nul, text_refusal}
use Rattle.meaning.specs.Depths as Depth
use Rattle.meaning.specs.Depths.{Depths, depth_refusal, opened}
use Rattle.meaning.specs.Types.{Number, Text, bool, number, text, number_width}
use Rattle.meaning.specs.Letters.{number_letter}
use Rattle.meaning.specs.Events.{Event, event, present, nothing}
use Rattle.meaning.specs.Written.{Piece, fits, stop, layout, events_from, ends, deeper, bit, basic_piece, maybe_piece, enclosing, array_bytes, array_piece}
use Rattle.meaning.specs.Outcome.{Outcome, done, chain, unused, passing}
use Rattle.meaning.specs.Reading.{Reader, child, text_as, read_text, read_bool, number_in, read_number, read_basic, end_byte, present_in, maybe_in, read_maybe, further, elements, elements_to, Step, tabled, array_body, array_in, read_array, child_step}
use Rattle.meaning.proofs.Tests.{both_left, both_right, from_test}
use Rattle.meaning.proofs.NumberLaws.{length_bytes, value_bytes, ordered_twice, length_ordered}
use Rattle.meaning.proofs.PaddingLaws.{padding_shift, padding_aligned, padding_none}
use Rattle.meaning.proofs.OffsetLaws.{Chosen, written_width_chosen}
use Rattle.meaning.proofs.FitLaws.{all_fit, held_fits, children_fit}
use Rattle.meaning.proofs.OutcomeLaws.{chain_done, enclosed_done, within_done, behind_padding_lem, child_between, child_last}
use Rattle.meaning.proofs.LayoutLaws.{All, nil, cons, layout_split, layout_shift, placed, length_placed, stop_placed, length_layout, length_table, length_ends, table_found, ends_found, table_stands_lem}

-- a child that is not fixed in size fills its part
abbrev pub Fills : Bool → List ℕ → Type 0
Fills true r = Unit {0}
Fills false r = r ≡ []

pub fills_nil : (b : Bool) → Fills b []
fills_nil true = tt
fills_nil false = refl

pub fills_fixed : (b : Bool) (r : List ℕ) → b ≡ true → Fills b r
fills_fixed b r h = rw h tt

-- a text with its nul
pub without_nul : (v : List ℕ) → without_final_nul (v ++ (0 ∷ [])) ≡ v
unfolding without_final_nul
without_nul v =
    let n : length (v ++ (0 ∷ [])) - 1 ≡ length v = simp length-append (omega arith) in
    rw (n, eq-eqb (get_or (v ++ (0 ∷ [])) (length v) 1) 0 (get_or_at v 0 [] 1 (length v) refl)) (take_at v (0 ∷ []) (length v) refl)

-- behind its padding a piece stands at a multiple of its alignment
pub behind_aligned : (position : ℕ) {a : ℕ} → Aligns a → (k p : ℕ) → p ≡ padding (position + k) a → (position + (k + p)) % a ≡ 0
behind_aligned position al k p hp = let m : position + (k + p) ≡ position + k + p = omega arith in rw (m, hp) (padding_aligned al (position + k))

module _ (position : ℕ) where
  -- a reader reads a piece wherever it stands: behind the padding p that the place k asks for, and, if its size is fixed, before anything
  abbrev pub Reads : Reader → Piece → Type 0
  Reads read c = (d : Depths) (k p u q : ℕ) (r : List ℕ) → T (fits c d) → length c.bytes ≤ 65536 → Fills c.fixed r
      → p ≡ padding (position + k) c.alignment → u ≡ p + length c.bytes → q ≡ k + p
      → read d k (zeros p ++ (c.bytes ++ r)) ≡ done u (c.events q)

  -- the piece c is read, has the alignment a, and is fixed in size as fx says
  pub record Good (read : Reader) (a : ℕ) (fx : Bool) (c : Piece) : Type 0 where
    pub reads : Reads read c
    pub alignment_is : c.alignment ≡ a
    pub fixed_is : c.fixed ≡ fx
    pub solid : T fx → 0 < length c.bytes

  -- a piece at an aligned place that is its whole part
  pub reads_here : {read : Reader} {a : ℕ} {fx : Bool} {c : Piece} → Aligns a → Good read a fx c → (d : Depths) (k : ℕ) → T (fits c d) → length c.bytes ≤ 65536 → (position + k) % a ≡ 0
      → read d k c.bytes ≡ done (length c.bytes) (c.events k)
  reads_here {read} {a} {fx} {c} al g d k f s z =
      let h = g.reads d k 0 (length c.bytes) k [] f s (fills_nil c.fixed) (sym (rw g.alignment_is (padding_none al (position + k) z))) (omega arith) (omega arith) in
      rw append-nil at h

  -- ---- basic values

  pub number_reads : (big : Bool) (c : Number) (v : ℕ) → Reads (read_basic position big (number c)) (basic_piece big (number c) v)
  unfolding read_basic read_number basic_piece unused number_in
  number_reads big c v d k p u q r f s t hp hu hq =
      let w : ℕ = number_width c in
      let b : List ℕ = ordered big (bytes w v) in
      let n : length b ≡ w = length_ordered big (bytes w v) ∙ length_bytes w v in
      let h : p + w ≤ length (zeros p ++ (b ++ r)) = simp (length-append, length-replicate) (omega arith) in
      let e : number_in big (number_letter c) w k (zeros p ++ (b ++ r)) p ≡ done w (event (number_letter c) q v ∷ []) =
      rw (
        le-leb (p + w) (length (zeros p ++ (b ++ r))) h,
        drop_at (zeros p) (b ++ r) p (length-replicate p 0),
        take_at b r w n,
        ordered_twice,
        value_bytes w v (ltb→lt v (256 ^ w) (both_left (ltb v (256 ^ w)) true f)),
        hq,
      ) in
      rw (behind_padding_lem position w k p u w (b ++ r) (number_in big (number_letter c) w k (zeros p ++ (b ++ r))) (event (number_letter c) q v ∷ []) hp e (omega arith))

  pub bool_reads : (big v : Bool) → Reads (read_basic position big bool) (basic_piece big bool v)
  unfolding read_basic basic_piece read_bool padding
  bool_reads big v d k p u q r f s t hp hu hq = go v p u q (omega arith) hu hq
    where
      go : (v : Bool) (p u q : ℕ) → p ≡ 0 → u ≡ p + 1 → q ≡ k + p → read_bool d k (zeros p ++ ((bit v ∷ []) ++ r)) ≡ done u (event 98 q (bit v) ∷ [])
      go true p u q z hu hq = let a : u ≡ 1 = omega arith in let b : q ≡ k = omega arith in rw (z, ne_eqb (length (1 ∷ r)) 0 (λ h. omega arith), a, b)
      go false p u q z hu hq = let a : u ≡ 1 = omega arith in let b : q ≡ k = omega arith in rw (z, ne_eqb (length (0 ∷ r)) 0 (λ h. omega arith), a, b)

  pub text_reads : (big : Bool) (c : Text) (v : List ℕ) → Reads (read_basic position big (text c)) (basic_piece big (text c) v)
  unfolding read_basic basic_piece read_text text_as padding
  text_reads big c v d k p u q r f s t hp hu hq =
      let z : p ≡ 0 = omega arith in
      let m : length (v ++ (0 ∷ [])) + 0 ≡ u = omega arith in
      let n : q ≡ k = omega arith in
      rw (z, t, append-nil, without_nul, from_test (eqb (text_refusal v) 0) (both_left (eqb (text_refusal v) 0) true f), m, n)

  -- ---- maybes: nothing; something of fixed size; something else, and a nul

  module _ (read : Reader) (a : ℕ) (al : Aligns a) (d : Depths) (k p u q : ℕ) (hp : p ≡ padding (position + k) a) (hq : q ≡ k + p) where
    maybe_nothing : (fx : Bool) → u ≡ p → read_maybe position a fx read d k (zeros p ++ []) ≡ done u (nothing q ∷ [])
    unfolding read_maybe maybe_in
    maybe_nothing fx hu =
        let n : length (zeros p ++ []) ≤ p = simp (length-append, length-replicate) (omega arith) in
        behind_padding_lem position a k p u 0 [] (maybe_in fx read d k (zeros p ++ [])) (nothing q ∷ []) hp (rw (le-leb (length (zeros p ++ [])) p n, hq)) (omega arith)

    -- what is known of a child that is there
    module _ (c : Piece) (f : T (deeper (opened Depth.maybe d) (fits c))) (s : length c.bytes ≤ 65536) where
      maybe_present : (fx : Bool) (l y : List ℕ) (v : ℕ) → l ≡ zeros p ++ y → p < length l
          → present_in fx read k l p (opened Depth.maybe d) ≡ done v (present q ∷ c.events q) → u ≡ p + v
          → read_maybe position a fx read d k l ≡ done u (present q ∷ c.events q)
      unfolding read_maybe maybe_in
      maybe_present fx l y v hl h e hu =
          rw hl (behind_padding_lem position a k p u v y (maybe_in fx read d k (zeros p ++ y)) (present q ∷ c.events q) hp
          (rw (← hl) (rw (lt-leb (length l) p h)
          (within_done (opened Depth.maybe d) (k + p) (present_in fx read k l p) (both_left (eqb (depth_refusal (opened Depth.maybe d)) 0) (fits c (opened Depth.maybe d)) f) e))) hu)

      child_fits : T (fits c (opened Depth.maybe d))
      child_fits = both_right (eqb (depth_refusal (opened Depth.maybe d)) 0) (fits c (opened Depth.maybe d)) f

      maybe_fixed : Good read a true c → u ≡ p + length c.bytes → read_maybe position a true read d k (zeros p ++ c.bytes) ≡ done u (present q ∷ c.events q)
      unfolding present_in
      maybe_fixed g hu =
          let l : List ℕ = zeros p ++ c.bytes in
          let n : length l ≡ p + length c.bytes = simp (length-append, length-replicate) in
          let here : (position + (k + p)) % a ≡ 0 = behind_aligned position al k p hp in
          maybe_present true l c.bytes (length c.bytes) refl (omega (arith, g.solid tt))
          (rw (
            child_last (read (opened Depth.maybe d)) k (zeros p) c.bytes p (length l) (length-replicate p 0) (sym n),
            reads_here al g (opened Depth.maybe d) (k + p) child_fits s here,
            hq,
            zero-add,
          )) hu

      maybe_other : Good read a false c → u ≡ p + (length c.bytes + 1) → read_maybe position a false read d k (zeros p ++ (c.bytes ++ (0 ∷ []))) ≡ done u (present q ∷ c.events q)
      unfolding present_in end_byte
      maybe_other g hu =
          let b : ℕ = length c.bytes in
          let l : List ℕ = zeros p ++ (c.bytes ++ (0 ∷ [])) in
          let n : length l ≡ p + b + 1 = simp (length-append, length-replicate) (omega arith) in
          let here : (position + (k + p)) % a ≡ 0 = behind_aligned position al k p hp in
          let nul : get_or l (p + b) 1 ≡ 0 =
          rw (← append_assoc (zeros p) c.bytes (0 ∷ [])) (get_or_at (zeros p ++ c.bytes) 0 [] 1 (p + b) (simp (length-append, length-replicate))) in
          let r : child (read (opened Depth.maybe d)) k l p (length l - 1) ≡ done b (c.events (k + p)) =
          child_between (read (opened Depth.maybe d)) k (zeros p) c.bytes (0 ∷ []) p (length l - 1) (length-replicate p 0) (omega arith)
          ∙ reads_here al g (opened Depth.maybe d) (k + p) child_fits s here in
          let e : chain (child (read (opened Depth.maybe d)) k l p (length l - 1)) (end_byte k l p) ≡ done (b + 1) (c.events q) =
          chain_done (child (read (opened Depth.maybe d)) k l p (length l - 1)) (end_byte k l p) b 1 (b + 1) (c.events (k + p)) [] (c.events q) r (rw (eq-eqb (get_or l (p + b) 1) 0 nul)) refl (rw (hq, append-nil)) in
          maybe_present false l (c.bytes ++ (0 ∷ [])) (b + 1) refl (omega arith) (rw (e, hq, zero-add)) hu

  pub maybe_reads : {A : Type 0} (read : Reader) (a : ℕ) (al : Aligns a) (pc : A → Piece) (fx : Bool) → ((v : A) → Good read a fx (pc v)) → (v : Option A)
      → Reads (read_maybe position a fx read) (maybe_piece a fx pc v)
  unfolding maybe_piece
  maybe_reads read a al pc fx g none d k p u q r f s t hp hu hq = rw t (maybe_nothing read a al d k p u q hp hq fx (omega arith))
  maybe_reads read a al pc true g (some v) d k p u q r f s t hp hu hq = rw (t, append-nil) (maybe_fixed read a al d k p u q hp hq (pc v) (held_fits (pc v) (opened Depth.maybe d) f) s (g v) hu)
  maybe_reads read a al pc false g (some v) d k p u q r f s t hp hu hq =
      rw (t, append-nil) (maybe_other read a al d k p u q hp hq (pc v) (held_fits (pc v) (opened Depth.maybe d) f) (omega (arith, simp length-append at s)) (g v) (omega (arith, simp length-append at hu)))

  -- ---- arrays

  -- a child that fills its part from i to its end, in a container whose body begins at n of the part l
  pub child_reads : (read : Reader) (d : Depths) (k n : ℕ) (l : List ℕ) (c : Piece) (j i : ℕ) (x y : List ℕ) → Reads read c → (position + (k + n)) % c.alignment ≡ 0 → T (fits c d)
      → length c.bytes ≤ 65536 → l ≡ x ++ (placed j c ++ y) → length x ≡ i → i ≡ n + j
      → child (read d) k l i (n + stop j c) ≡ done (length (placed j c)) (c.events (k + n + (j + padding j c.alignment)))
  child_reads read d k n l c j i x y g z f s hl hx hi =
      let e = stop_placed j c in
      let m : position + (k + i) ≡ position + (k + n) + j = omega arith in
      let h = g d (k + i) (padding j c.alignment) (length (placed j c)) (k + n + (j + padding j c.alignment)) [] f s (fills_nil c.fixed)
      (rw m (sym (padding_shift (position + (k + n)) j c.alignment z))) (length_placed j c) (omega arith) in
      rw hl (child_between (read d) k x (placed j c) y i (n + stop j c) hx (omega arith)) ∙ (rw append-nil at h)

  -- a child of fixed size, in a part that goes on behind it
  pub child_before : (read : Reader) (d : Depths) (k n : ℕ) (l : List ℕ) (c : Piece) (j i e : ℕ) (x y y' : List ℕ) → Reads read c → c.fixed ≡ true → (position + (k + n)) % c.alignment ≡ 0 → T (fits c d)
      → length c.bytes ≤ 65536 → l ≡ x ++ ((zeros (padding j c.alignment) ++ (c.bytes ++ y)) ++ y') → length x ≡ i → i ≡ n + j
      → i + length (zeros (padding j c.alignment) ++ (c.bytes ++ y)) ≡ e
      → child (read d) k l i e ≡ done (length (placed j c)) (c.events (k + n + (j + padding j c.alignment)))
  child_before read d k n l c j i e x y y' g b z f s hl hx hi he =
      let m : position + (k + i) ≡ position + (k + n) + j = omega arith in
      rw hl (child_between (read d) k x (zeros (padding j c.alignment) ++ (c.bytes ++ y)) y' i e hx he)
      ∙ g d (k + i) (padding j c.alignment) (length (placed j c)) (k + n + (j + padding j c.alignment)) y f s (fills_fixed c.fixed y b)
      (rw m (sym (padding_shift (position + (k + n)) j c.alignment z))) (length_placed j c) (omega arith)

-- What a step of an array or dictionary does with one element, whose container's body goes from n to b of the part l, at k:
-- one of fixed size is read and left where the next begins; any other is read up to its end.
abbrev pub Steps : Bool → (ℕ → ℕ → Outcome) → ℕ → ℕ → ℕ → List ℕ → Piece → Type 0
Steps true step k n b l c = (0 < length c.bytes) × ((j i e : ℕ) (x y : List ℕ) → length c.bytes ≤ 65536 → l ≡ x ++ (zeros (padding j c.alignment) ++ (c.bytes ++ y)) → length x ≡ i → i ≡ n + j → length l ≡ e
    → step i e ≡ done (length (placed j c)) (c.events (k + n + (j + padding j c.alignment))))
Steps false step k n b l c = (j i : ℕ) (x y : List ℕ) → length c.bytes ≤ 65536 → n + stop j c ≤ b → l ≡ x ++ (placed j c ++ y) → length x ≡ i → i ≡ n + j
    → step i (n + stop j c) ≡ done (length (placed j c)) (c.events (k + n + (j + padding j c.alignment)))

module _ (step : ℕ → ℕ → Outcome) (k n b : ℕ) (l : List ℕ) where
  -- elements by their ends
  pub ends_read : (cs : List Piece) (j i : ℕ) (x y : List ℕ) → All (Steps false step k n b l) cs → length (layout j cs) ≤ 65536 → n + j + length (layout j cs) ≤ b
      → l ≡ x ++ (layout j cs ++ y) → length x ≡ i → i ≡ n + j → elements_to step n (ends j cs) i ≡ done (length (layout j cs)) (events_from (k + n) j cs)
  unfolding elements_to ends layout events_from
  ends_read [] j i x y nil s hb hl hx hi = refl
  ends_read (c ∷ cs) j i x y (cons g gs) s hb hl hx hi =
      let e = stop_placed j c in
      let v = length_layout j c cs in
      let t = length_placed j c in
      chain_done (step i (n + stop j c)) (further (elements_to step n (ends (stop j c) cs)) i)
      (length (placed j c)) (length (layout (stop j c) cs)) (length (layout j (c ∷ cs)))
      (c.events (k + n + (j + padding j c.alignment))) (events_from (k + n) (stop j c) cs) (events_from (k + n) j (c ∷ cs))
      (g j i x (layout (stop j c) cs ++ y) (omega arith) (omega arith) (layout_split x y l j c cs hl) hx hi)
      (ends_read cs (stop j c) (i + length (placed j c)) (x ++ placed j c) y gs (omega arith) (omega arith) (layout_shift x y l j c cs hl) (simp length-append (omega arith)) (omega arith))
      (omega arith) refl

  -- elements of fixed size, to the end
  pub all_read : (cs : List Piece) (m j i e : ℕ) (x : List ℕ) → All (Steps true step k n b l) cs → length (layout j cs) ≤ 65536
      → l ≡ x ++ layout j cs → length x ≡ i → i ≡ n + j → length l ≡ e → length (layout j cs) ≤ m → elements m step e i ≡ done (length (layout j cs)) (events_from (k + n) j cs)
  unfolding elements layout events_from
  all_read [] zero j i e x nil s hl hx hi he hm = rw (le-leb e i (omega (arith, ap length hl ∙ length-append x [])))
  all_read [] (suc m) j i e x nil s hl hx hi he hm = rw (le-leb e i (omega (arith, ap length hl ∙ length-append x [])))
  all_read (c ∷ cs) zero j i e x (cons g gs) s hl hx hi he hm = absurd (omega (arith, g.0, stop_placed j c, length_placed j c, length_layout j c cs))
  all_read (c ∷ cs) (suc m) j i e x (cons g gs) s hl hx hi he hm =
      let t = length_placed j c in
      let o = g.0 in
      let le = stop_placed j c in
      let v = length_layout j c cs in
      let ll : length l ≡ i + length (layout j (c ∷ cs)) = ap length hl ∙ length-append x (layout j (c ∷ cs)) ∙ rw hx in
      rw (lt-leb e i (omega arith))
      (chain_done (step i e) (further (elements m step e) i)
      (length (placed j c)) (length (layout (stop j c) cs)) (length (layout j (c ∷ cs)))
      (c.events (k + n + (j + padding j c.alignment))) (events_from (k + n) (stop j c) cs) (events_from (k + n) j (c ∷ cs))
      (g.1 j i e x (layout (stop j c) cs) (omega arith) hl hx hi he)
      (all_read cs m (stop j c) (i + length (placed j c)) e (x ++ placed j c) gs (omega arith) (hl ∙ simp append_assoc) (simp length-append (omega arith)) (omega arith) he (omega arith))
      (omega arith) refl)

-- arrays and dictionaries at a place k behind padding p, over what is open in them
module _ (kind : ℕ) (step : Step) (cs : List Piece) (d : Depths) (k p q : ℕ) (hq : q ≡ k + p) where
  array_fixed : (l : List ℕ) → l ≡ zeros p ++ layout 0 cs → All (Steps true (step d k l (length l)) k p (length l) l) cs → length (layout 0 cs) ≤ 65536
      → array_body kind true step k l p d ≡ done (length (layout 0 cs)) (enclosing kind q (length (layout 0 cs)) (events_from q 0 cs))
  unfolding array_body
  array_fixed l hl g s =
      let m : length l ≡ p + length (layout 0 cs) = rw hl (simp (length-append, length-replicate)) in
      rw (← hq) (enclosed_done kind q (length (layout 0 cs)) (length (layout 0 cs)) _ (events_from q 0 cs)
      (rw hq (all_read (step d k l (length l)) k p (length l) l cs (length l) 0 p (length l) (zeros p) g s hl (length-replicate p 0) (omega arith) refl (omega arith))) refl)

  array_other : (l : List ℕ) (w : ℕ) → l ≡ zeros p ++ (layout 0 cs ++ table w (ends 0 cs)) → All (Steps false (step d k l (p + length (layout 0 cs))) k p (p + length (layout 0 cs)) l) cs
      → Chosen (length (layout 0 cs)) (length cs) w → length (layout 0 cs) + length cs * w ≤ 65536
      → array_body kind false step k l p d ≡ done (length (layout 0 cs) + length cs * w) (enclosing kind q (length (layout 0 cs) + length cs * w) (events_from q 0 cs))
  unfolding array_body tabled
  array_other l w hl g c s =
      let b : ℕ = length (layout 0 cs) in
      let y : List ℕ = table w (ends 0 cs) in
      let t = c.fits in
      let hw = c.positive in
      let m : length l - (p + b) ≡ length cs * w = rw hl (simp (length-append, length-replicate, length_table, length_ends) (omega arith)) in
      let dr : drop p l ≡ layout 0 cs ++ y = rw hl (drop_at (zeros p) (layout 0 cs ++ y) p (length-replicate p 0)) in
      let r = ends_read (step d k l (p + b)) k p (p + b) l cs 0 p (zeros p) y g (omega arith) (omega arith) hl (length-replicate p 0) (omega arith) in
      let e : chain (elements_to (step d k l (p + b)) p (ends 0 cs) p) (passing (length l - (p + b))) ≡ done (b + length cs * w) (events_from q 0 cs) =
      chain_done _ (passing (length l - (p + b))) b (length cs * w) (b + length cs * w) (events_from (k + p) 0 cs) [] (events_from q 0 cs) r (rw m) refl (rw (hq, append-nil)) in
      rw (dr, table_found w b cs refl t hw) (rw (table_stands_lem w b cs refl t hw, ends_found w b cs refl t hw, ← hq)
      (enclosed_done kind q (b + length cs * w) (b + length cs * w) _ (events_from q 0 cs) e refl))

module _ (position : ℕ) where
  read_array_done : (kind a : ℕ) (fx : Bool) (step : Step) (fits : Depths → Bool) (d : Depths) (k p u v : ℕ) (y : List ℕ) (es : List Event) → T (deeper (opened Depth.array d) fits) → p ≡ padding (position + k) a
      → (T (fits (opened Depth.array d)) → array_body kind fx step k (zeros p ++ y) p (opened Depth.array d) ≡ done v es) → u ≡ p + v
      → read_array position kind a fx step d k (zeros p ++ y) ≡ done u es
  unfolding read_array array_in
  read_array_done kind a fx step fits d k p u v y es f hp h hu =
      behind_padding_lem position a k p u v y (array_in kind fx step d k (zeros p ++ y)) es hp
      (within_done (opened Depth.array d) (k + p) (array_body kind fx step k (zeros p ++ y) p) (both_left (eqb (depth_refusal (opened Depth.array d)) 0) (fits (opened Depth.array d)) f)
      (h (both_right (eqb (depth_refusal (opened Depth.array d)) 0) (fits (opened Depth.array d)) f))) hu

  -- by steps that read each element
  pub array_reads : (kind a : ℕ) (al : Aligns a) (fx : Bool) (step : Step) (cs : List Piece)
      → ((d : Depths) (k n b : ℕ) (l : List ℕ) → (position + (k + n)) % a ≡ 0 → n + length (layout 0 cs) ≡ b → T (all_fit cs d) → All (Steps fx (step d k l b) k n b l) cs)
      → Reads position (read_array position kind a fx step) (array_piece kind a fx cs)
  unfolding array_piece array_bytes
  array_reads kind a al true step cs g d k p u q r f s t hp hu hq =
      let l : List ℕ = zeros p ++ layout 0 cs in
      let here : (position + (k + p)) % a ≡ 0 = behind_aligned position al k p hp in
      rw (t, append-nil)
      (read_array_done kind a true step (all_fit cs) d k p u (length (layout 0 cs)) (layout 0 cs) _ (children_fit cs (opened Depth.array d) f) hp (λ f'.
      array_fixed kind step cs (opened Depth.array d) k p q hq l refl
      (g (opened Depth.array d) k p (length l) l here (simp (length-append, length-replicate)) f') s) hu)
  array_reads kind a al false step cs g d k p u q r f s t hp hu hq =
      let b : ℕ = length (layout 0 cs) in
      let w : ℕ = written_width b (length cs) in
      let y : List ℕ = layout 0 cs ++ table w (ends 0 cs) in
      let n : length y ≡ b + length cs * w = simp (length-append, length_table, length_ends) in
      let here : (position + (k + p)) % a ≡ 0 = behind_aligned position al k p hp in
      rw (t, append-nil, n)
      (read_array_done kind a false step (all_fit cs) d k p u (b + length cs * w) y _ (children_fit cs (opened Depth.array d) f) hp (λ f'.
      array_other kind step cs (opened Depth.array d) k p q hq (zeros p ++ y) w refl
      (g (opened Depth.array d) k p (p + b) (zeros p ++ y) here refl f') (written_width_chosen b (length cs) (omega arith)) (omega arith)) (omega arith))

  -- an array's step is its element's reader
  child_steps : (read : Reader) (a : ℕ) (fx : Bool) (cs : List Piece) (d : Depths) (k n b : ℕ) (l : List ℕ) → (position + (k + n)) % a ≡ 0 → All (Good position read a fx) cs → T (all_fit cs d)
      → All (Steps fx (child_step read d k l b) k n b l) cs
  unfolding all_fit child_step
  child_steps read a fx cs d k n b l z nil f = nil
  child_steps read a true cs d k n b l z (cons {c = c} {cs = ds} g gs) f =
      cons (
        g.solid tt,
        λ j i e x y s hl hx hi he.
            child_before position read d k n l c j i e x y [] g.reads g.fixed_is (rw g.alignment_is z) (both_left (fits c d) (all_fit ds d) f) s (hl ∙ rw append-nil) hx hi
            (sym (ap length hl ∙ rw (length-append x, hx)) ∙ he),
      )
      (child_steps read a true ds d k n b l z gs (both_right (fits c d) (all_fit ds d) f))
  child_steps read a false cs d k n b l z (cons {c = c} {cs = ds} g gs) f =
      cons (λ j i x y s hb hl hx hi. child_reads position read d k n l c j i x y g.reads (rw g.alignment_is z) (both_left (fits c d) (all_fit ds d) f) s hl hx hi)
      (child_steps read a false ds d k n b l z gs (both_right (fits c d) (all_fit ds d) f))

  pub elements_read : (kind : ℕ) (read : Reader) (a : ℕ) (al : Aligns a) (fx : Bool) (cs : List Piece) → All (Good position read a fx) cs
      → Reads position (read_array position kind a fx (child_step read)) (array_piece kind a fx cs)
  elements_read kind read a al fx cs g = array_reads kind a al fx (child_step read) cs (λ d k n b l z h f. child_steps read a fx cs d k n b l z g f)
