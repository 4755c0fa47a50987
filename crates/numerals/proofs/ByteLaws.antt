-- The bytes that pairs of digits spell, pair by pair. Assumes nothing.
use mathlib.Core.Path.{◌≡◌, refl, sym, ap, ap₂, ◌∙◌}
use mathlib.Core.List.{List, [], ◌∷◌, ◌++◌, append_assoc, append-nil}
use mathlib.Core.Option.{Option, none, some}
use mathlib.Core.Bool.{Bool, true, false, ◌&&◌}
use Prim.Native.Nat.{ℕ, suc, ◌+◌, ◌*◌, ◌/◌, ◌≤◌, ◌<◌}
use native.Mathlib.Numerals.{add-one}
use native.Mathlib.Omega.{arith}
use lib.Dec.{ltb, leb}
use lib.ListN.{length, take, drop, set, get_or, length-append, drop_of_length-le}
use lib.Seq.{drop-cons, take-suc-set, take_all}
use borrow.Author.Tests.{lt-ltb, le-ltb, ltb-true, lt-leb, le-leb}
use Rattle.meaning.specs.Choice.{pick}
use Rattle.std.specs.List.{list_all}
use Rattle.std.specs.Prelude.{Some, None, unwrap_or, Option as Answer}
use Rattle.numerals.specs.Storing.{over}
use Rattle.numerals.specs.Hexadecimal.{digit, before, bytes_of, bytes_behind, within, spelt, stored_bytes, Spells, all_digits}

true_false : true ≡ false → ⊥
true_false e = (let z : ◌≡◌ {A = ℕ} 0 1 = ap (λ (x : Bool). pick x 0 1) e in omega arith)

pub before_none : (x : Option (List ℕ)) → x ≡ before [] x
unfolding before
before_none none = refl
before_none (some l) = refl

pub before_before : (t u : List ℕ) (x : Option (List ℕ)) → before t (before u x) ≡ before (t ++ u) x
unfolding before
before_before t u none = refl
before_before t u (some l) = ap (λ (k : List ℕ). some k) (sym (append_assoc t u l))

-- the first digit, and those behind it
digits_head : (b : ℕ) (l : List ℕ) → all_digits (b ∷ l) ≡ true → digit b < 16
unfolding all_digits
digits_head b l h = go (ltb (digit b) 16) refl h
  where
    go : (x : Bool) → ltb (digit b) 16 ≡ x → (x && all_digits l) ≡ true → digit b < 16
    go true e k = ltb-true (digit b) 16 e
    go false e k = absurd (true_false cc)

pub digits_tail : (b : ℕ) (l : List ℕ) → digit b < 16 → all_digits (b ∷ l) ≡ all_digits l
unfolding all_digits
digits_tail b l h = rw (lt-ltb (digit b) 16 h)

pub digits_other : (b : ℕ) (l : List ℕ) → 16 ≤ digit b → all_digits (b ∷ l) ≡ false
unfolding all_digits
digits_other b l h = rw (le-ltb (digit b) 16 h)

bytes_pair : (a b : ℕ) (l : List ℕ) → digit a < 16 → digit b < 16 → bytes_of (a ∷ b ∷ l) ≡ before ((16 * digit a + digit b) ∷ []) (bytes_of l)
unfolding bytes_of bytes_behind
bytes_pair a b l h k = rw (lt-ltb (digit a) 16 h, lt-ltb (digit b) 16 k)

-- a text that spells bytes has twice as many digits
twice : List ℕ → Option (List ℕ) → Type 0
twice l none = Unit {0}
twice l (some m) = length l ≡ 2 * length m

bytes_twice : (l : List ℕ) → twice l (bytes_of l)
unfolding twice bytes_of bytes_behind before
bytes_twice [] = refl
bytes_twice (a ∷ []) = go (ltb (digit a) 16)
  where
    go : (x : Bool) → twice (a ∷ []) (pick x none none)
    go true = tt
    go false = tt
bytes_twice (a ∷ b ∷ l) = go (ltb (digit a) 16) (ltb (digit b) 16) (bytes_of l) (bytes_twice l)
  where
    go : (x y : Bool) (m : Option (List ℕ)) → twice l m → twice (a ∷ b ∷ l) (pick x (pick y (before ((16 * digit a + digit b) ∷ []) m) none) none)
    go true true none h = tt
    go true true (some m) h = omega arith
    go true false m h = tt
    go false y m h = tt

pub bytes_other : (l : List ℕ) → all_digits l ≡ false → bytes_of l ≡ none
unfolding bytes_of bytes_behind before all_digits
bytes_other [] h = absurd (true_false cc)
bytes_other (a ∷ []) h = go (ltb (digit a) 16)
  where
    go : (x : Bool) → ◌≡◌ {A = Option (List ℕ)} (pick x none none) none
    go true = refl
    go false = refl
bytes_other (a ∷ b ∷ l) h = go (ltb (digit a) 16) (ltb (digit b) 16) (bytes_other l) h
  where
    go : (x y : Bool) → (all_digits l ≡ false → bytes_of l ≡ none) → (x && (y && all_digits l)) ≡ false → pick x (pick y (before ((16 * digit a + digit b) ∷ []) (bytes_of l)) none) none ≡ none
    go true true i e = ap (before ((16 * digit a + digit b) ∷ [])) (i e)
    go true false i e = refl
    go false y i e = refl

-- which texts spell none
pub bytes_odd : (text : List ℕ) (count : ℕ) → count ≡ length text / 2 → (length text ≡ 2 * count → ⊥) → bytes_of text ≡ none
unfolding twice
bytes_odd text count e h = go (bytes_of text) (bytes_twice text)
  where
    go : (x : Option (List ℕ)) → twice text x → x ≡ none
    go none k = refl
    go (some m) k = absurd (h (omega arith))

pub bytes_long : (text : List ℕ) (count room : ℕ) → length text ≡ 2 * count → room < count → within room (bytes_of text) ≡ none
unfolding twice within
bytes_long text count room e h = go (bytes_of text) (bytes_twice text)
  where
    go : (x : Option (List ℕ)) → twice text x → within room x ≡ none
    go none k = refl
    go (some m) k = let l : room < length m = omega arith in rw (lt-leb (length m) room l)

pub none_within : (text : List ℕ) (room : ℕ) → bytes_of text ≡ none → within room (bytes_of text) ≡ none
unfolding within
none_within text room e = ap (within room) e

-- the ways out of `bytes`
pub answers_none : (text out : List ℕ) → within (length out) (bytes_of text) ≡ none → Spells text out out None
unfolding spelt stored_bytes
answers_none text out e = record {
  answer = ap spelt (sym e);
  slice = ap (λ (x : Option (List ℕ)). over (stored_bytes x) out) (sym e);
}

pub answers_some : (text out front : List ℕ) (count : ℕ) → bytes_of text ≡ some front → length front ≡ count → count ≤ length out → Spells text out (front ++ drop count out) (Some count)
unfolding spelt stored_bytes within
answers_some text out front count e k h =
    let fits : within (length out) (bytes_of text) ≡ some front = ap (within (length out)) e ∙ ap (λ (x : Bool). pick x (some front) none) (le-leb (length front) (length out) (omega arith)) in
    record {
      answer = ap (λ (n : ℕ). Some n) (sym k) ∙ ap spelt (sym fits);
      slice = ap (λ (n : ℕ). front ++ drop n out) (sym k) ∙ ap (λ (x : Option (List ℕ)). over (stored_bytes x) out) (sym fits);
    }

-- digits alone, by std's word
pub digits_by_all : (text : List ℕ) → list_all (λ b. ltb (digit b) 16) text ≡ all_digits text
unfolding all_digits
digits_by_all [] = refl
digits_by_all (b ∷ l) = ap (λ (x : Bool). ltb (digit b) 16 && x) (digits_by_all l)

-- The pairs from n on are left, behind the bytes at the front of the slice.
pub record Pairing (text out : List ℕ) (n : ℕ) : Type 0 where
  pub digits : all_digits (drop (2 * n) text) ≡ true
  pub rest : bytes_of text ≡ before (take n out) (bytes_of (drop (2 * n) text))

pub pairing_begin : (text out : List ℕ) → all_digits text ≡ true → Pairing text out 0
pairing_begin text out d = record { digits = d; rest = before_none (bytes_of text) }

module _ {text out : List ℕ} {n : ℕ} (p : Pairing text out n) (even : length text ≡ 2 * length out) where
  module _ (h : n < length out) where
    two : drop (2 * n) text ≡ get_or text (2 * n) 0 ∷ get_or text (2 * n + 1) 0 ∷ drop (2 * (n + 1)) text
    two =
        let i : 2 * n < length text = omega arith in
        let j : 2 * n + 1 < length text = omega arith in
        let k : suc (2 * n) ≡ 2 * n + 1 = omega arith in
        let l : suc (2 * n + 1) ≡ 2 * (n + 1) = omega arith in
        drop-cons text (2 * n) 0 i
        ∙ ap (λ (t : List ℕ). get_or text (2 * n) 0 ∷ t) (ap (λ (m : ℕ). drop m text) k ∙ drop-cons text (2 * n + 1) 0 j ∙ ap (λ (m : ℕ). get_or text (2 * n + 1) 0 ∷ drop m text) l)

    two_digits : all_digits (get_or text (2 * n) 0 ∷ get_or text (2 * n + 1) 0 ∷ drop (2 * (n + 1)) text) ≡ true
    two_digits = ap all_digits (sym two) ∙ p.digits

    pub first_digit : digit (get_or text (2 * n) 0) < 16
    first_digit = digits_head _ _ two_digits

    behind_first : all_digits (get_or text (2 * n + 1) 0 ∷ drop (2 * (n + 1)) text) ≡ true
    behind_first = sym (digits_tail _ _ first_digit) ∙ two_digits

    pub second_digit : digit (get_or text (2 * n + 1) 0) < 16
    second_digit = digits_head _ _ behind_first

    pub pairing_next : (c d : ℕ) → c ≡ digit (get_or text (2 * n) 0) → d ≡ digit (get_or text (2 * n + 1) 0) → Pairing text (set out n (16 * c + d)) (n + 1)
    pairing_next c d e f =
        let byte : 16 * digit (get_or text (2 * n) 0) + digit (get_or text (2 * n + 1) 0) ≡ 16 * c + d = ap₂ (λ (x y : ℕ). 16 * x + y) (sym e) (sym f) in
        let longer : take n out ++ ((16 * c + d) ∷ []) ≡ take (n + 1) (set out n (16 * c + d)) = sym (ap (λ (m : ℕ). take m (set out n (16 * c + d))) (add-one n) ∙ take-suc-set out n (16 * c + d) h) in
        record {
          digits = sym (digits_tail _ _ second_digit) ∙ behind_first;
          rest = p.rest
              ∙ ap (λ (t : List ℕ). before (take n out) (bytes_of t)) two
              ∙ ap (before (take n out)) (bytes_pair _ _ _ first_digit second_digit)
              ∙ before_before (take n out) _ (bytes_of (drop (2 * (n + 1)) text))
              ∙ ap (λ (x : ℕ). before (take n out ++ (x ∷ [])) (bytes_of (drop (2 * (n + 1)) text))) byte
              ∙ ap (λ (t : List ℕ). before t (bytes_of (drop (2 * (n + 1)) text))) longer;
        }

  pub pairing_end : length out ≤ n → bytes_of text ≡ some out
  unfolding bytes_of before
  pairing_end h =
      let far : length text ≤ 2 * n = omega arith in
      p.rest
      ∙ ap (λ (t : List ℕ). before (take n out) (bytes_of t)) (drop_of_length-le text far)
      ∙ ap (λ (l : List ℕ). some l) (append-nil (take n out) ∙ take_all n out h)

-- the bytes that are spelt are in the slice
count_fits : (x : Option (List ℕ)) (out : List ℕ) → unwrap_or (spelt (within (length out) x)) 0 ≤ length (over (stored_bytes (within (length out) x)) out)
unfolding spelt stored_bytes within
count_fits none out = omega arith
count_fits (some l) out = go (leb (length l) (length out))
  where
    go : (x : Bool) → unwrap_or (spelt (pick x (some l) none)) 0 ≤ length (over (stored_bytes (pick x (some l) none)) out)
    go true = simp length-append (omega arith)
    go false = omega arith

pub spells_fits : {text out out' : List ℕ} {r : Answer ℕ} → Spells text out out' r → unwrap_or r 0 ≤ length out'
spells_fits {text} {out} {out'} {r} s =
    let e = ap (λ (x : Answer ℕ). unwrap_or x 0) s.answer in
    let f = ap length s.slice in
    let k = count_fits (bytes_of text) out in
    omega arith
