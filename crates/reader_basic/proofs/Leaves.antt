-- What the leaves answer, as the readings that they are of: padding, numbers, bools, texts and offsets. Assumes nothing.
use Rattle.de.proofs.PaddingAnswers.{padding_at_is}
use Rattle.de.proofs.PartAnswers.{bool_at_is}
use Rattle.framing_offset_size.proofs.WidthLaws.{last_offset_in_is}
use mathlib.Core.Path.{◌≡◌, refl, ap, sym, ◌∙◌}
use mathlib.Core.List.{List, [], ◌∷◌}
use mathlib.Core.Bool.{Bool, true, false, ◌||◌}
use Prim.Native.Nat.{ℕ, zero, suc, ◌+◌, ◌-◌, ◌≤◌, ◌<◌}
use native.Mathlib.Omega.{arith}
use native.Mathlib.Nat.{add-zero, add_assoc}
use lib.Dec.{leb, ltb, eqb}
use lib.ListN.{length, take, drop, get_or, length-take, length-drop}
use lib.Seq.{take-nil, take-take, drop-drop}
use borrow.Author.Tests.{eq-eqb, ne_eqb, lt-ltb, le-ltb, le-leb, lt-leb, leb-true, leb-false, eqb-true, eqb-false}
use mir.Val.{bool_byte}
use Rattle.meaning.specs.Choice.{pick}
use Rattle.meaning.specs.Padding.{padding, leading_zeros, Aligns}
use Rattle.meaning.specs.Numbers.{value, ordered}
use Rattle.meaning.specs.Offsets.{offset_before}
use Rattle.meaning.specs.Texts.{without_final_nul, text_refusal}
use Rattle.meaning.specs.Depths.{Depths}
use Rattle.meaning.specs.Events.{event, text_event}
use Rattle.meaning.specs.Outcome.{Outcome, done, refused, chain, unused, closing_at}
use Rattle.meaning.specs.Reading.{child, padding_of, pad, read_bool, number_in, read_number, text_as, read_text, padded, end_padding, offset_stands, field_offset, last_nul}
use Rattle.meaning.proofs.TextSteps.{get_d_any}
use Rattle.meaning.proofs.OutcomeLaws.{unpadded}
use Rattle.utils.specs.Checks as leaf
use Rattle.utils.specs.Checks.{padding_for}
use Rattle.de.proofs.PaddingAnswers.{padding_in}
use Rattle.de.specs.Parts.{padding_at}
use Rattle.byte_order.specs.Standing.{number_at, number_of}
use Rattle.de.specs.Parts.{bool_at}
use Rattle.framing_offset_size.specs.Widths.{last_offset_in}
use Rattle.container_depths.specs.declared.ContainerDepths.{ContainerDepths}
use Rattle.reader_basic.specs.Parts.{Within, Inside, offset_answer}
use Rattle.events.specs.Slices.{next_event, put, put_all, advance}
use Rattle.reader_basic.specs.Answers.{Done}
use Rattle.meaning.specs.Calls.{Counts}
use Rattle.reader_basic.specs.declared.Context.{Context}
use Rattle.reader_basic.proofs.Answers.{answer, refusing, single, wider, both}
use Rattle.reader_basic.proofs.Rests.{Rest, rest_chain}

-- ---- padding

-- a leaf's answer is a reading with no event, of a part of so many bytes
pub record Pads (o : Outcome) (room : ℕ) (r : leaf.Checked) : Type 0 where
  pub place : ℕ
  pub there : r.refusal ≡ 0 → o ≡ done r.value []
  pub missing : (r.refusal ≡ 0 → ⊥) → o ≡ refused r.refusal place
  pub none_used : (r.refusal ≡ 0 → ⊥) → r.value ≡ 0
  pub fits : r.value ≤ room

module _ (p j k : ℕ) (l : List ℕ) (h : j ≤ length l) where
  pads_in : Pads (padding_of p k (drop j l)) (length l - j) (padding_in (leaf.passed p) j l)
  unfolding padding_in padding_of
  pads_in = go (eqb p 0) (leb (j + p) (length l)) (leb p (leading_zeros (drop j l))) refl refl refl
    where
      m : length (drop j l) ≡ length l - j
      m = length-drop j l

      go : (x y z : Bool) → eqb p 0 ≡ x → leb (j + p) (length l) ≡ y → leb p (leading_zeros (drop j l)) ≡ z
          → Pads (pick (ltb (length (drop j l)) p) (refused 3 (k + length (drop j l))) (pick (ltb (leading_zeros (drop j l)) p) (refused 4 (k + leading_zeros (drop j l))) (done p [])))
          (length l - j) (pick x (leaf.passed p) (pick y (pick z (leaf.passed p) (leaf.failed 4)) (leaf.failed 3)))
      go true y z a b c =
          let e : p ≡ 0 = eqb-true p 0 a in
          rw (le-ltb (length (drop j l)) p (omega arith), le-ltb (leading_zeros (drop j l)) p (omega arith))
          (record { place = 0; there = λ q. refl; missing = λ q. absurd (q refl); none_used = λ q. absurd (q refl); fits = omega arith })
      go false true true a b c =
          let f = leb-true (j + p) (length l) b in
          rw (le-ltb (length (drop j l)) p (omega (arith, m)), le-ltb (leading_zeros (drop j l)) p (leb-true p _ c))
          (record { place = 0; there = λ q. refl; missing = λ q. absurd (q refl); none_used = λ q. absurd (q refl); fits = omega arith })
      go false true false a b c =
          let f = leb-true (j + p) (length l) b in
          rw (le-ltb (length (drop j l)) p (omega (arith, m)), lt-ltb (leading_zeros (drop j l)) p (leb-false p _ c))
          (record { place = k + leading_zeros (drop j l); there = λ q. absurd (omega arith); missing = λ q. refl; none_used = λ q. refl; fits = omega arith })
      go false false z a b c =
          let f = leb-false (j + p) (length l) b in
          rw (lt-ltb (length (drop j l)) p (omega (arith, m)))
          (record { place = k + length (drop j l); there = λ q. absurd (omega arith); missing = λ q. refl; none_used = λ q. refl; fits = omega arith })

padding_for_lem : (n : ℕ) {a : ℕ} → Aligns a → padding_for n a ≡ leaf.passed (padding n a)
unfolding padding_for
padding_for_lem n al = rw al.listed

-- the padding at the place j of a part that begins at a place
pub pads_at : (position place j a : ℕ) (l : List ℕ) (r : leaf.Checked) → Aligns a → position + place + j ≤ 18446744073709551615 → j ≤ length l
    → r ≡ padding_at (position + place) j a l → Pads (pad position a (place + j) (drop j l)) (length l - j) r
unfolding pad
pads_at position place j a l r s n h e =
    rw (e, padding_at_is (position + place) j a l, le-ltb 18446744073709551615 (position + place + j) n, padding_for_lem (position + place + j) s, add_assoc position place j)
    (pads_in (padding (position + (place + j)) a) j (place + j) l h)

-- and at its front
pub pads_first : (position place a : ℕ) (l : List ℕ) (r : leaf.Checked) → Aligns a → position + place ≤ 18446744073709551615
    → r ≡ padding_at (position + place) 0 a l → Pads (pad position a place l) (length l) r
pads_first position place a l r s n e =
    let g = pads_at position place 0 a l r s (omega arith) (omega arith) e in
    let z : length l - 0 ≡ length l = omega arith in
    rw (← add-zero place, ← z) g

-- the same inside the frame
pub pads_inside : (c : Context) (place a : ℕ) (l : List ℕ) (r : leaf.Checked) → Inside (length l) place c → Aligns a → r ≡ padding_at (c.position + place) 0 a l → Pads (pad c.position a place l) (length l) r
pads_inside c place a l r w s e = pads_first c.position place a l r s (omega (arith, w.in_frame, w.near)) e

-- as the answer of a reader that tells no event
pub pads_done : {o : Outcome} {room : ℕ} {r : leaf.Checked} (n : ℕ) (l : List ℕ) → Pads o room r → Done o room room n l l (answer r.refusal r.value n)
unfolding put_all advance
pads_done {o} {room} {r} n l p = go (eqb r.refusal 0) refl
  where
    go : (b : Bool) → eqb r.refusal 0 ≡ b → Done o room room n l l (answer r.refusal r.value n)
    go true e =
        let z = eqb-true r.refusal 0 e in
        rw (p.there z) (record { refusal = z; used = refl; fits = p.fits; ends = λ q. p.fits; count = refl; slice = refl })
    go false e =
        let z = eqb-false r.refusal 0 e in
        rw (p.missing z) (record { refusal = refl; used = p.none_used z; fits = p.fits; ends = λ q. p.fits; count = refl; slice = refl })

-- padding, and what is read behind it: the padding is refused, or what is read answers from its end on
module _ {o : Outcome} {room : ℕ} {r : leaf.Checked} (f : ℕ → Outcome) (end len n : ℕ) (l : List ℕ) (p : Pads o room r) where
  pub pads_stop : (r.refusal ≡ 0 → ⊥) → Done (chain o f) end len n l l (answer r.refusal 0 n)
  unfolding chain
  pads_stop z = rw (p.missing z, ne_eqb r.refusal 0 z) (refusing r.refusal p.place end len n l z)

  module _ (end' len' : ℕ) (z : r.refusal ≡ 0) (h : r.value + len' ≤ len) (i : r.value + end' ≤ end) where
    pub pads_rest : Rest (chain o f) end len n l r.value (f r.value) end' len' n l
    pads_rest = rest_chain end room end' len room len' n l l o f (answer r.refusal r.value n) z h i (pads_done n l p)

    pub pads_on : (l' : List ℕ) (s : Counts) → Done (f r.value) end' len' n l l' s → Done (chain o f) end len n l l' (answer s.refusal (r.value + s.used) s.count)
    pads_on l' s d = pads_rest.whole l' s d

-- ---- closing a container

pub closed : (end len n m place : ℕ) (l l₁ l' : List ℕ) (o : Outcome) (r : Counts) → r.refusal ≡ 0 → m ≡ next_event r.count → l' ≡ put l₁ r.count (event 41 (place + r.used) 0)
    → Done o end len n l l₁ r → Done (chain o (closing_at place)) end len n l l' (answer 0 r.used m)
closed end len n m place l l₁ l' o r z p q d =
    let f = d.fits in
    let g = d.ends z in
    rw (← add-zero r.used)
    (both end end 0 len len 0 n l l₁ l' o (closing_at place) r (answer 0 0 m) z (omega arith) (omega arith) d (single 0 0 0 r.count m l₁ l' (event 41 (place + r.used) 0) (omega arith) (omega arith) p q))

-- ---- bools

-- a bool as a number
pub bool_told : (b : Bool) → bool_byte b ≡ pick b 1 0
bool_told true = refl
bool_told false = refl

module _ (d : Depths) (k n : ℕ) (l out : List ℕ) (r : leaf.Checked) (e : r ≡ bool_at l 0) where
  pub bool_missing : (r.refusal ≡ 0 → ⊥) → Done (read_bool d k l) (length l) (length l) n out out (answer r.refusal 0 n)
  unfolding read_bool
  bool_missing z = go (eqb (length l) 0) refl
    where
      go : (b : Bool) → eqb (length l) 0 ≡ b → Done (pick b (refused 3 k) (done 1 (event 98 k (pick (eqb (get_or l 0 0) 0) 0 1) ∷ []))) (length l) (length l) n out out (answer r.refusal 0 n)
      go true h =
          let s : length l < 0 + 1 = omega (arith, eqb-true (length l) 0 h) in
          let w : r.refusal ≡ 3 = ap (λ x. x.refusal) (e ∙ bool_at_is l 0) ∙ rw (lt-leb (0 + 1) (length l) s) in
          rw w (refusing 3 k (length l) (length l) n out (λ q. omega arith))
      go false h =
          let s : 0 + 1 ≤ length l = omega (arith, eqb-false (length l) 0 h) in
          let w : r.refusal ≡ 0 = ap (λ x. x.refusal) (e ∙ bool_at_is l 0) ∙ rw (le-leb (0 + 1) (length l) s) in
          absurd (z w)

  pub bool_there : (m : ℕ) (out' : List ℕ) → r.refusal ≡ 0 → m ≡ next_event n → out' ≡ put out n (event 98 k r.value)
      → Done (read_bool d k l) (length l) (length l) n out out' (answer 0 1 m)
  unfolding read_bool
  bool_there m out' z p q = go (eqb (length l) 0) refl
    where
      go : (b : Bool) → eqb (length l) 0 ≡ b → Done (pick b (refused 3 k) (done 1 (event 98 k (pick (eqb (get_or l 0 0) 0) 0 1) ∷ []))) (length l) (length l) n out out' (answer 0 1 m)
      go true h =
          let s : length l < 0 + 1 = omega (arith, eqb-true (length l) 0 h) in
          let w : r.refusal ≡ 3 = ap (λ x. x.refusal) (e ∙ bool_at_is l 0) ∙ rw (lt-leb (0 + 1) (length l) s) in
          absurd (omega arith)
      go false h =
          let s : 0 + 1 ≤ length l = omega (arith, eqb-false (length l) 0 h) in
          let w : r.value ≡ pick (eqb (get_or l 0 0) 0) 0 1 = ap (λ x. x.value) (e ∙ bool_at_is l 0) ∙ rw (le-leb (0 + 1) (length l) s) in
          single 1 (length l) (length l) n m out out' _ (omega arith) (omega arith) p (q ∙ ap (λ x. put out n (event 98 k x)) w)

-- ---- numbers

-- the last width is 8
module _ (position : ℕ) (big : Bool) (kind w : ℕ) (d : Depths) (k n : ℕ) (l out : List ℕ) (r : leaf.Checked) (p : Pads (pad position w k l) (length l) r) where
  pub number_unpadded : (r.refusal ≡ 0 → ⊥) → Done (read_number position big kind w d k l) (length l) (length l) n out out (answer r.refusal 0 n)
  unfolding read_number chain unused
  number_unpadded z = rw (p.missing z, ne_eqb r.refusal 0 z, ne_eqb r.refusal 0 z) (refusing r.refusal p.place (length l) (length l) n out z)

  module _ (f : leaf.Checked) (z : r.refusal ≡ 0) (e : f ≡ number_at w big l r.value) where
    pub number_short : (f.refusal ≡ 0 → ⊥) → Done (read_number position big kind w d k l) (length l) (length l) n out out (answer f.refusal 0 n)
    unfolding read_number chain unused number_in number_at
    number_short y = go (leb (r.value + w) (length l)) refl
      where
        go : (b : Bool) → leb (r.value + w) (length l) ≡ b → Done (read_number position big kind w d k l) (length l) (length l) n out out (answer f.refusal 0 n)
        go true h = let x : f.refusal ≡ 0 = ap (λ x. x.refusal) e ∙ rw h in absurd (y x)
        go false h =
            let x : f.refusal ≡ 3 = ap (λ x. x.refusal) e ∙ rw h in
            rw x (rw (p.there z) (rw h (refusing 3 (k + r.value) (length l) (length l) n out (λ q. omega arith))))

    pub number_there : (m : ℕ) (out' : List ℕ) → f.refusal ≡ 0 → m ≡ next_event n → out' ≡ put out n (event kind (k + r.value) f.value)
        → Done (read_number position big kind w d k l) (length l) (length l) n out out' (answer 0 (r.value + w) m)
    unfolding read_number chain unused number_in number_at
    number_there m out' y i q = go (leb (r.value + w) (length l)) refl
      where
        go : (b : Bool) → leb (r.value + w) (length l) ≡ b → Done (read_number position big kind w d k l) (length l) (length l) n out out' (answer 0 (r.value + w) m)
        go true h =
            let s = leb-true (r.value + w) (length l) h in
            let x : f.value ≡ value (ordered big (take w (drop r.value l))) = ap (λ x. x.value) e ∙ rw h in
            rw (p.there z) (rw h (single (r.value + w) (length l) (length l) n m out out' _ s s i (q ∙ ap (λ x. put out n (event kind (k + r.value) x)) x)))
        go false h = let x : f.refusal ≡ 3 = ap (λ x. x.refusal) e ∙ rw h in absurd (omega arith)

-- a number of a width that there is
pub number_given : {w : ℕ} → Aligns w → (big : Bool) (l : List ℕ) (place : ℕ) → number_of w big l place ≡ number_at w big l place
unfolding number_of
number_given al big l place = rw al.listed

-- a byte has no padding
pub byte_pads : (position k : ℕ) (l : List ℕ) → Pads (pad position 1 k l) (length l) (leaf.passed 0)
unfolding pad
byte_pads position k l =
    let z : padding (position + k) 1 ≡ 0 = unfold padding in omega arith in
    rw (z, unpadded k l) (record { place = 0; there = λ q. refl; missing = λ q. absurd (q refl); none_used = λ q. refl; fits = omega arith })

-- ---- texts

-- the slice holds a text's length
pub put_text : (l : List ℕ) (n k p : ℕ) (t : List ℕ) → put l n (event k p (length t)) ≡ put l n (text_event k p t)
unfolding put
put_text l n k p t = refl

module _ (kind : ℕ) (d : Depths) (k n : ℕ) (l out t : List ℕ) (x : ℕ) (e : t ≡ without_final_nul l) (f : x ≡ text_refusal t) where
  pub text_refused : (x ≡ 0 → ⊥) → Done (read_text kind d k l) (length l) (length l) n out out (answer x (length l) n)
  unfolding read_text text_as put_all advance
  text_refused z =
      rw (← e) (rw (← f) (rw (ne_eqb x 0 z) (record { refusal = refl; used = omega arith; fits = omega arith; ends = λ q. omega arith; count = refl; slice = refl })))

  pub text_there : (m : ℕ) (out' : List ℕ) → x ≡ 0 → m ≡ next_event n → out' ≡ put out n (event kind k (length t))
      → Done (read_text kind d k l) (length l) (length l) n out out' (answer 0 (length l) m)
  unfolding read_text text_as put_all advance
  text_there m out' z p q =
      rw (← e) (rw (← f) (rw (eq-eqb x 0 z) (record { refusal = refl; used = omega arith; fits = omega arith; ends = λ w. omega arith; count = p; slice = q ∙ put_text out n kind k t })))

-- ---- the padding at the end of what is fixed

module _ (position a k j end len n : ℕ) (l out out' : List ℕ) (o : Outcome) (r : Counts) (p : leaf.Checked) (b : j + r.used ≤ length l) (e : len ≡ length l - j)
    (w : Pads (pad position a (k + (j + r.used)) (drop (j + r.used) l)) (length l - (j + r.used)) p) (d : Done o end len n out out' r) where
  pub ending_missing : (p.refusal ≡ 0 → ⊥) → Done (end_padding position true a k l j o) len len n out out' (answer p.refusal r.used r.count)
  unfolding end_padding padded
  ending_missing z =
      rw (← d.used) (rw (w.missing z) (rw (ne_eqb p.refusal 0 z)
      (record { refusal = refl; used = refl; fits = d.fits; ends = λ q. absurd (z q); count = d.count; slice = d.slice })))

  pub ending_there : p.refusal ≡ 0 → Done (end_padding position true a k l j o) len len n out out' (answer r.refusal (p.value + r.used) r.count)
  unfolding end_padding padded
  ending_there z =
      let f = w.fits in
      rw (← d.used) (rw (w.there z)
      (record { refusal = d.refusal; used = omega arith; fits = omega arith; ends = λ q. omega arith; count = d.count; slice = d.slice }))

-- ---- an offset of a structure's table

drop_take : (m w k : ℕ) (l : List ℕ) → k ≡ m + w → drop m (take k l) ≡ take w (drop m l)
drop_take zero w k l h = let e : k ≡ w = omega arith in ap (λ i. take i l) e
drop_take (suc m) w zero l h = absurd (omega arith)
drop_take (suc m) w (suc k) [] h = sym (take-nil w)
drop_take (suc m) w (suc k) (x ∷ l) h = drop_take m w k l (omega arith)

module _ (n w e : ℕ) (l : List ℕ) where
  pub offset_below : e < n → leaf.failed 3 ≡ offset_answer n w e l
  unfolding offset_answer offset_stands
  offset_below h = rw (lt-leb n e h)

  pub offset_narrow : n ≤ e → e < w → leaf.failed 3 ≡ offset_answer n w e l
  unfolding offset_answer offset_stands
  offset_narrow h i = rw (le-leb n e h, lt-leb w e i)

  -- the part that ends at the table's end
  module _ (h : n ≤ e) (i : w ≤ e) (b : e ≤ length l) where
    part_length : length (take (e - n) (drop n l)) ≡ e - n
    part_length = simp (length-take, length-drop) (omega arith)

    last_part : n + w ≤ e → value (take w (drop (e - n - w) (take (e - n) (drop n l)))) ≡ offset_before w e l
    last_part q =
        let x : e - n ≡ (e - n - w) + w = omega arith in
        let y = drop_take (e - n - w) w (e - n) (drop n l) x in
        let u : n + (e - n - w) ≡ e - w = omega arith in
        ap (λ (k : List ℕ). value (take w k)) y ∙ ap value (take-take w w (drop (e - n - w) (drop n l)) (omega arith))
        ∙ ap (λ (k : List ℕ). value (take w k)) (drop-drop (e - n - w) n l ∙ ap (λ k. drop k l) u)

    pub offset_read : last_offset_in w (take (e - n) (drop n l)) ≡ offset_answer n w e l
    unfolding offset_answer offset_stands field_offset
    offset_read = rw (last_offset_in_is w (take (e - n) (drop n l)), part_length, le-leb n e h, le-leb w e i) (go (eqb e n) (leb (n + w) e) refl refl)
      where
        go : (x y : Bool) → eqb e n ≡ x → leb (n + w) e ≡ y
            → pick (eqb (e - n) 0) (leaf.passed 0) (pick (leb w (e - n)) (leaf.passed (value (take w (drop (e - n - w) (take (e - n) (drop n l)))))) (leaf.failed 3))
            ≡ pick (x || y) (leaf.passed (pick x 0 (offset_before w e l))) (leaf.failed 3)
        go true y p q = let z = eqb-true e n p in rw (eq-eqb (e - n) 0 (omega arith))
        go false true p q =
            let z = eqb-false e n p in
            let t = leb-true (n + w) e q in
            rw (ne_eqb (e - n) 0 (λ o. z (omega arith)), le-leb w (e - n) (omega arith)) (ap leaf.passed (last_part t))
        go false false p q =
            let z = eqb-false e n p in
            let t = leb-false (n + w) e q in
            rw (ne_eqb (e - n) 0 (λ o. z (omega arith)), lt-leb w (e - n) (omega arith))

-- ---- a variant's separator

pub last_nul_none : (i : ℕ) (l : List ℕ) → i ≡ 0 → last_nul i l ≡ 0
unfolding last_nul
last_nul_none i l h = rw h

-- one byte less to look at
pub last_nul_before : (i : ℕ) (l : List ℕ) → 0 < i → i ≤ length l → last_nul i l ≡ pick (eqb (get_or l (i - 1) 0) 0) i (last_nul (i - 1) l)
unfolding last_nul
last_nul_before zero l h b = absurd (omega arith)
last_nul_before (suc i) l h b =
    let e : suc i - 1 ≡ i = omega arith in
    rw (e, get_d_any l i 1 0 (omega arith))

-- ---- a child that ends at e

module _ (read : ℕ → List ℕ → Outcome) (k j e n : ℕ) (l out : List ℕ) where
  pub child_before : (end len : ℕ) → e < j → Done (child read k l j e) end len n out out (answer 3 0 n)
  unfolding child
  child_before end len h = rw (lt-leb j e h) (refusing 3 (k + j) end len n out (λ q. omega arith))

  pub child_past : (end len : ℕ) → j ≤ e → length l < e → Done (child read k l j e) end len n out out (answer 3 0 n)
  unfolding child
  child_past end len h i = rw (le-leb j e h, lt-leb e (length l) i) (refusing 3 (k + j) end len n out (λ q. omega arith))

  pub child_there : (out' : List ℕ) (r : Counts) → j ≤ e → e ≤ length l
      → Done (read (k + j) (take (e - j) (drop j l))) (length (take (e - j) (drop j l))) (length (take (e - j) (drop j l))) n out out' r
      → Done (child read k l j e) (e - j) (length l - j) n out out' r
  unfolding child
  child_there out' r h i d =
      let s : length (take (e - j) (drop j l)) ≡ e - j = simp (length-take, length-drop) (omega arith) in
      rw (le-leb j e h, le-leb e (length l) i)
      (wider (length (take (e - j) (drop j l))) (e - j) (length (take (e - j) (drop j l))) (length l - j) n out out' _ r (omega arith) (omega arith) d)

-- ---- what callees ask

pub within_part : {len place position : ℕ} {d : ContainerDepths} (j e : ℕ) → Within len place position d → j ≤ e → e ≤ len → Within (e - j) (place + j) position d
within_part j e w g h = let a = w.in_frame in record { in_frame = omega arith; near = w.near; shallow = w.shallow }

pub within_child : {place position : ℕ} {d : ContainerDepths} (part : List ℕ) (j e : ℕ) → Within (length part) place position d → j ≤ e → e ≤ length part → Within (length (take (e - j) (drop j part))) (place + j) position d
within_child {place} part j e w g h =
    let a = w.in_frame in
    record { in_frame = simp (length-take, length-drop) (omega arith); near = w.near; shallow = w.shallow }
