-- The digits of a number: how many there are, and how they are stored, the last of them first. Assumes nothing.
use mathlib.Core.Path.{◌≡◌, refl, sym, ap, ap₂, ◌∙◌}
use mathlib.Core.List.{List, [], ◌∷◌, ◌++◌, append_assoc, append-nil}
use mathlib.Core.Bool.{Bool, true, false}
use Prim.Native.Nat.{ℕ, zero, suc, ◌+◌, ◌-◌, ◌/◌, ◌%◌, ◌≤◌, ◌<◌}
use native.Mathlib.Omega.{arith}
use lib.Dec.{ltb}
use lib.ListN.{length, take, drop, set, length-append, length-set, drop_of_length-le}
use lib.Seq.{sets, sets-eq, drop-cons, drop-drop, drop-set-lt, get_or-set_same}
use borrow.Rule.Slice.PartMut.{put_mid}
use borrow.Author.Tests.{lt-ltb, le-ltb, ltb-true}
use Rattle.meaning.specs.Choice.{pick}
use Rattle.numerals.specs.Storing.{Puts, Stores}
use Rattle.numerals.specs.Decimals.{digits, numeral}
use Rattle.numerals.proofs.StoringLaws.{puts_byte, puts_fits, stores_room, stores_puts, stores_none}

-- how many there are
pub digits_few : (p n : ℕ) → n < 10 → length (digits (suc p) n) ≡ 1
unfolding digits
digits_few p n h = rw (lt-ltb n 10 h)

pub digits_many : (p n : ℕ) → 10 ≤ n → length (digits (suc p) n) ≡ length (digits p (n / 10)) + 1
unfolding digits
digits_many p n h = rw (le-ltb n 10 h) (length-append (digits p (n / 10)) ((48 + n % 10) ∷ []))

pub digits_some : (p n : ℕ) → 0 < length (digits (suc p) n)
unfolding digits
digits_some p n = go (ltb n 10)
  where
    go : (x : Bool) → 0 < length (pick x ((48 + n) ∷ []) (digits p (n / 10) ++ ((48 + n % 10) ∷ [])))
    go true = omega arith
    go false = simp length-append (omega arith)

pub digits_one : (n : ℕ) → length (digits 1 n) ≡ 1
unfolding digits
digits_one n = go (ltb n 10)
  where
    go : (x : Bool) → length (pick x ((48 + n) ∷ []) ([] ++ ((48 + n % 10) ∷ []))) ≡ 1
    go true = refl
    go false = refl

pub digits_most : (p n : ℕ) → length (digits p n) ≤ p
unfolding digits
digits_most zero n = omega arith
digits_most (suc p) n = go (ltb n 10) (digits_most p (n / 10))
  where
    go : (x : Bool) → length (digits p (n / 10)) ≤ p → length (pick x ((48 + n) ∷ []) (digits p (n / 10) ++ ((48 + n % 10) ∷ []))) ≤ suc p
    go true h = omega arith
    go false h = simp length-append (omega arith)

pub numeral_most : (n b : ℕ) → length (numeral n b) ≤ 21
unfolding numeral
numeral_most n b = let h = digits_most 20 n in simp length-append (omega arith)

-- a number leaves room for k more
pub numeral_fits : {l m : List ℕ} {at r : ℕ} (n b k : ℕ) → Puts l m at (numeral n b) r → at + (21 + k) ≤ length l → r + k ≤ length m
numeral_fits n b k p f = puts_fits 21 k p (numeral_most n b) (omega arith)

-- the last digits of a number, so many
unfoldable pub last_digits : ℕ → ℕ → List ℕ
last_digits zero n = []
last_digits (suc p) n = last_digits p (n / 10) ++ ((48 + n % 10) ∷ [])

length_last : (p n : ℕ) → length (last_digits p n) ≡ p
unfolding last_digits
length_last zero n = refl
length_last (suc p) n = let e = length_last p (n / 10) in simp length-append (omega arith)

pub digits_last : (p n : ℕ) → last_digits (length (digits p n)) n ≡ digits p n
unfolding digits last_digits
digits_last zero n = refl
digits_last (suc p) n = go (ltb n 10) refl (digits_last p (n / 10))
  where
    go : (x : Bool) → ltb n 10 ≡ x → last_digits (length (digits p (n / 10))) (n / 10) ≡ digits p (n / 10) → last_digits (length (pick x ((48 + n) ∷ []) (digits p (n / 10) ++ ((48 + n % 10) ∷ [])))) n ≡ pick x ((48 + n) ∷ []) (digits p (n / 10) ++ ((48 + n % 10) ∷ []))
    go true h e =
        let k = ltb-true n 10 h in
        let s : n % 10 ≡ n = omega arith in
        ap (λ (d : ℕ). (48 + d) ∷ []) s
    go false h e =
        let k : length (digits p (n / 10) ++ ((48 + n % 10) ∷ [])) ≡ suc (length (digits p (n / 10))) = simp length-append (omega arith) in
        ap (λ (j : ℕ). last_digits j n) k ∙ ap (λ (l : List ℕ). l ++ ((48 + n % 10) ∷ [])) e

-- The last i digits of the number rest are left to store, in front of those that are stored.
abbrev pub Storing : ℕ → ℕ → ℕ → List ℕ → Type 0
Storing n i rest out = last_digits i rest ++ drop i out ≡ digits 20 n

pub storing_begin : (n : ℕ) (out : List ℕ) → length out ≡ length (digits 20 n) → Storing n (length out) n out
storing_begin n out e =
    ap₂ (λ (k : ℕ) (l : List ℕ). last_digits k n ++ l) e (drop_of_length-le out (omega arith)) ∙ append-nil _ ∙ digits_last 20 n

pub storing_next : (n i rest : ℕ) (out : List ℕ) → 0 < i → i ≤ length out → Storing n i rest out → Storing n (i - 1) (rest / 10) (set out (i - 1) (48 + rest % 10))
unfolding last_digits
storing_next n zero rest out h k s = (let never : ⊥ = omega arith in absurd never)
storing_next n (suc i) rest out h k s =
    let e : suc i - 1 ≡ i = omega arith in
    let d = 48 + rest % 10 in
    let w : i < length (set out i d) = omega (arith, length-set out i d) in
    rw e (ap (λ (l : List ℕ). last_digits i (rest / 10) ++ l) (drop-cons (set out i d) i 0 w ∙ ap₂ (λ (x : ℕ) (l : List ℕ). x ∷ l) (get_or-set_same out i d 0 (omega arith)) (drop-set-lt (suc i) out i d (omega arith)))
    ∙ sym (append_assoc (last_digits i (rest / 10)) (d ∷ []) (drop (suc i) out))
    ∙ s)

pub storing_end : (n i rest : ℕ) (out : List ℕ) → i ≤ 0 → Storing n i rest out → out ≡ digits 20 n
unfolding last_digits
storing_end n zero rest out h s = s
storing_end n (suc i) rest out h s = (let never : ⊥ = omega arith in absurd never)

-- The digits of the number rest are to be counted, behind those that are: count is one above these.
pub record Counting (n count rest : ℕ) : Type 0 where
  pub few : (1 ≤ count) × (count ≤ 20)
  pub counted : length (digits 20 n) + 1 ≡ count + length (digits (21 - count) rest)

pub counting_begin : (n : ℕ) → Counting n 1 n
counting_begin n = record { few = omega arith; counted = omega arith }

module _ (n count rest : ℕ) (c : Counting n count rest) where
  long : 21 - count ≡ suc (20 - count)
  long = let f = c.few in omega arith

  counted_here : length (digits 20 n) + 1 ≡ count + length (digits (suc (20 - count)) rest)
  counted_here = c.counted ∙ ap (λ (k : ℕ). count + length (digits k rest)) long

  pub counting_next : count < 20 → 10 ≤ rest → Counting n (count + 1) (rest / 10)
  counting_next h k =
      let e = digits_many (20 - count) rest k in
      let f = counted_here in
      let m : 20 - count ≡ 21 - (count + 1) = omega arith in
      let g = ap (λ (j : ℕ). length (digits j (rest / 10))) m in
      record { few = omega arith; counted = omega arith }

  pub counting_few : rest < 10 → count ≡ length (digits 20 n)
  counting_few h = let e = digits_few (20 - count) rest h in let f = counted_here in omega arith

  pub counting_end : 20 ≤ count → 20 ≡ length (digits 20 n)
  counting_end h =
      let w = c.few in
      let z : 21 - count ≡ 1 = omega arith in
      let o = digits_one rest in
      let e = c.counted ∙ ap (λ (k : ℕ). count + length (digits k rest)) z in
      omega arith

-- the ways out of `put_decimal`
length_numeral : (n end : ℕ) → length (numeral n end) ≡ length (digits 20 n) + 1
unfolding numeral
length_numeral n end = length-append (digits 20 n) (end ∷ [])

module _ (l : List ℕ) (at n end count : ℕ) (e : count ≡ length (digits 20 n)) where
  pub decimal_none : length l ≤ at + count → Stores l l at (numeral n end) at
  decimal_none h = let k = length_numeral n end in stores_none l at (numeral n end) (omega arith)

  pub decimal_stored : (t : List ℕ) (k : ℕ) → at + count < length l → t ≡ digits 20 n → k ≡ count → Stores l (set (put_mid at k l t) (at + count) end) at (numeral n end) (at + count + 1)
  unfolding numeral
  decimal_stored t k h s f =
      let j = length_numeral n end in
      let whole : put_mid at k l t ≡ take at l ++ (digits 20 n ++ drop (at + length (digits 20 n)) l) = ap₂ (λ (u : List ℕ) (i : ℕ). put_mid at i l u) s (f ∙ e) ∙ ap (λ (u : List ℕ). take at l ++ (digits 20 n ++ u)) (drop-drop (length (digits 20 n)) at l) in
      let stored : put_mid at k l t ≡ sets l at (digits 20 n) = whole ∙ sym (append_assoc (take at l) (digits 20 n) _) ∙ sym (sets-eq (digits 20 n) l at (omega arith)) in
      let p : Puts l (put_mid at k l t) at (digits 20 n) (at + count) = record { next = ap (λ (x : ℕ). at + x) e; slice = stored } in
      stores_room (omega arith) (puts_byte end p)

-- where every number has room
pub decimal_puts : {l m : List ℕ} {at r : ℕ} (n end : ℕ) → at + 21 ≤ length l → Stores l m at (numeral n end) r → Puts l m at (numeral n end) r
decimal_puts n end h s = let k = numeral_most n end in stores_puts (omega arith) s
