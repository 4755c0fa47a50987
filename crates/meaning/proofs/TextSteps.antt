-- Texts and padding read byte by byte. Assumes nothing.
use mathlib.Core.Path.{◌≡◌, refl, sym, ◌∙◌}
use mathlib.Core.List.{List, [], ◌∷◌}
use mathlib.Core.Bool.{Bool, true, false}
use Prim.Native.Nat.{ℕ, zero, suc, ◌+◌, ◌-◌, ◌≤◌, ◌<◌}
use native.Mathlib.Numerals.{add-one}
use native.Mathlib.Omega.{arith}
use lib.Dec.{leb}
use lib.ListN.{length, take, drop, get_or, drop_of_length-le}
use lib.Seq.{drop-cons}
use borrow.Author.Tests.{le-leb, lt-leb, leb-true, leb-false, eq-eqb, ne_eqb}
use Rattle.meaning.specs.Padding.{leading_zeros}
use Rattle.meaning.specs.Texts.{without_final_nul, no_nul, Wanted, wanted, letter, impossible, between, following, after_byte, utf8_from, utf8, text_refusal}

-- the rest of a list from a place on, when its first byte is known
module _ (l : List ℕ) (i : ℕ) (h : i < length l) where
  pub zeros_next : (n : ℕ) → 0 < n → get_or l i 0 ≡ 0 → leb n (leading_zeros (drop i l)) ≡ leb (n - 1) (leading_zeros (drop (i + 1) l))
  unfolding leading_zeros
  zeros_next zero p e = absurd (omega arith)
  zeros_next (suc n) p e = rw (add-one i, drop-cons l i 0 h, e) (go (leb n (leading_zeros (drop (suc i) l))) refl)
    where
      go : (b : Bool) → leb n (leading_zeros (drop (suc i) l)) ≡ b
          → leb (suc n) (suc (leading_zeros (drop (suc i) l))) ≡ leb (suc n - 1) (leading_zeros (drop (suc i) l))
      go true e =
          let q = leb-true n (leading_zeros (drop (suc i) l)) e in
          le-leb (suc n) (suc (leading_zeros (drop (suc i) l))) (omega arith)
          ∙ sym (le-leb (suc n - 1) (leading_zeros (drop (suc i) l)) (omega arith))
      go false e =
          let q = leb-false n (leading_zeros (drop (suc i) l)) e in
          lt-leb (suc n) (suc (leading_zeros (drop (suc i) l))) (omega arith)
          ∙ sym (lt-leb (suc n - 1) (leading_zeros (drop (suc i) l)) (omega arith))

  pub zeros_stop : (n : ℕ) → 0 < n → (get_or l i 0 ≡ 0 → ⊥) → leb n (leading_zeros (drop i l)) ≡ false
  unfolding leading_zeros
  zeros_stop n p e = rw (drop-cons l i 0 h, ne_eqb (get_or l i 0) 0 e) (lt-leb n 0 p)

  pub nul_next : (get_or l i 0 ≡ 0 → ⊥) → no_nul (drop i l) ≡ no_nul (drop (i + 1) l)
  unfolding no_nul
  nul_next e = rw (add-one i, drop-cons l i 0 h, ne_eqb (get_or l i 0) 0 e)

  pub nul_stop : get_or l i 0 ≡ 0 → no_nul (drop i l) ≡ false
  unfolding no_nul
  nul_stop e = rw (drop-cons l i 0 h, e)

  pub utf8_next : (s : Wanted) → utf8_from s (drop i l) ≡ utf8_from (after_byte s (get_or l i 0)) (drop (i + 1) l)
  unfolding utf8_from
  utf8_next s = rw (add-one i, drop-cons l i 0 h)

-- a text, judged
pub text_nul : (l : List ℕ) → no_nul l ≡ false → text_refusal l ≡ 5
unfolding text_refusal
text_nul l h = rw h

module _ (l : List ℕ) (s : Wanted) (i : ℕ) (h : length l ≤ i) (p : no_nul l ≡ no_nul (drop i l)) (q : utf8 l ≡ utf8_from s (drop i l)) where
  pub text_whole : s.count ≡ 0 → text_refusal l ≡ 0
  unfolding text_refusal no_nul utf8_from
  text_whole e = rw (p, q, drop_of_length-le l h, eq-eqb s.count 0 e)

  pub text_broken : (s.count ≡ 0 → ⊥) → text_refusal l ≡ 6
  unfolding text_refusal no_nul utf8_from
  text_broken e = rw (p, q, drop_of_length-le l h, ne_eqb s.count 0 e)

-- what stands in a list does not go by what is said of places past its end
pub get_d_any : (l : List ℕ) (i a b : ℕ) → i < length l → get_or l i a ≡ get_or l i b
get_d_any l i a b h = cc (drop-cons l i a h, drop-cons l i b h)

-- a final nul
pub nul_dropped : (l : List ℕ) → 0 < length l → get_or l (length l - 1) 0 ≡ 0 → without_final_nul l ≡ take (length l - 1) l
unfolding without_final_nul
nul_dropped l h e = rw (get_d_any l (length l - 1) 1 0 (omega arith), eq-eqb (get_or l (length l - 1) 0) 0 e)

pub nul_missing : (l : List ℕ) → 0 < length l → (get_or l (length l - 1) 0 ≡ 0 → ⊥) → without_final_nul l ≡ l
unfolding without_final_nul
nul_missing l h e = rw (get_d_any l (length l - 1) 1 0 (omega arith), ne_eqb (get_or l (length l - 1) 0) 0 e)

pub nul_empty : (l : List ℕ) → length l ≡ 0 → without_final_nul l ≡ l
unfolding without_final_nul
nul_empty [] e = refl
nul_empty (x ∷ l) e = absurd (omega arith)

-- what a letter's first byte wants
module _ (lo x hi : ℕ) where
  above : lo ≤ x → hi < x → between lo x hi ≡ false
  above f g = rw (le-leb lo x f, lt-leb x hi g)

  below : x < lo → between lo x hi ≡ false
  below g = rw (lt-leb lo x g)

  pub inside : lo ≤ x → x ≤ hi → between lo x hi ≡ true
  inside f g = rw (le-leb lo x f, le-leb x hi g)

-- in the order of the bytes
module _ (x : ℕ) where
  pub following_ascii : x ≤ 127 → following x ≡ letter
  unfolding following
  following_ascii h = rw (inside 0 x 127 (omega arith) h)

  pub following_low : 127 < x → x < 194 → following x ≡ impossible
  unfolding following
  following_low g h =
      rw (
        above 0 x 127 (omega arith) g,
        below 194 x 223 h,
        ne_eqb x 224 (λ e. omega arith),
        ne_eqb x 237 (λ e. omega arith),
        below 225 x 239 (omega arith),
        ne_eqb x 240 (λ e. omega arith),
        below 241 x 243 (omega arith),
        ne_eqb x 244 (λ e. omega arith),
      )

  pub following_two : 194 ≤ x → x ≤ 223 → following x ≡ wanted 1 128 191
  unfolding following
  following_two g h = rw (above 0 x 127 (omega arith) (omega arith), inside 194 x 223 g h)

  pub following_224 : x ≡ 224 → following x ≡ wanted 2 160 191
  unfolding following
  following_224 h = rw h

  pub following_237 : x ≡ 237 → following x ≡ wanted 2 128 159
  unfolding following
  following_237 h = rw h

  pub following_three : 223 < x → (x ≡ 224 → ⊥) → (x ≡ 237 → ⊥) → x ≤ 239 → following x ≡ wanted 2 128 191
  unfolding following
  following_three g e f h =
      rw (
        above 0 x 127 (omega arith) (omega arith),
        above 194 x 223 (omega arith) g,
        ne_eqb x 224 e,
        ne_eqb x 237 f,
        inside 225 x 239 (ne_lt e (omega arith)) h,
      )
    where
      ne_lt : (x ≡ 224 → ⊥) → 224 ≤ x → 225 ≤ x
      ne_lt p q = omega arith

  pub following_240 : x ≡ 240 → following x ≡ wanted 3 144 191
  unfolding following
  following_240 h = rw h

  pub following_four : 239 < x → (x ≡ 240 → ⊥) → x ≤ 243 → following x ≡ wanted 3 128 191
  unfolding following
  following_four g e h =
      rw (
        above 0 x 127 (omega arith) (omega arith),
        above 194 x 223 (omega arith) (omega arith),
        ne_eqb x 224 (λ e. omega arith),
        ne_eqb x 237 (λ e. omega arith),
        above 225 x 239 (omega arith) g,
        ne_eqb x 240 e,
        inside 241 x 243 (omega arith) h,
      )

  pub following_244 : x ≡ 244 → following x ≡ wanted 3 128 143
  unfolding following
  following_244 h = rw h

  pub following_high : 243 < x → (x ≡ 244 → ⊥) → following x ≡ impossible
  unfolding following
  following_high g e =
      rw (
        above 0 x 127 (omega arith) (omega arith),
        above 194 x 223 (omega arith) (omega arith),
        ne_eqb x 224 (λ e. omega arith),
        ne_eqb x 237 (λ e. omega arith),
        above 225 x 239 (omega arith) (omega arith),
        ne_eqb x 240 (λ e. omega arith),
        above 241 x 243 (omega arith) g,
        ne_eqb x 244 e,
      )

-- what a letter wants after one more byte
module _ (s : Wanted) (x : ℕ) where
  pub after_letter : s.count ≡ 0 → after_byte s x ≡ following x
  unfolding after_byte
  after_letter h = rw (eq-eqb s.count 0 h)

  pub after_low : (s.count ≡ 0 → ⊥) → x < s.low → after_byte s x ≡ impossible
  unfolding after_byte
  after_low h g = rw (ne_eqb s.count 0 h, below s.low x s.high g)

  pub after_high : (s.count ≡ 0 → ⊥) → s.low ≤ x → s.high < x → after_byte s x ≡ impossible
  unfolding after_byte
  after_high h f g = rw (ne_eqb s.count 0 h, above s.low x s.high f g)

  pub after_inside : (s.count ≡ 0 → ⊥) → s.low ≤ x → x ≤ s.high → after_byte s x ≡ wanted (s.count - 1) 128 191
  unfolding after_byte
  after_inside h f g = rw (ne_eqb s.count 0 h, inside s.low x s.high f g)

-- a run of zeros from a place on, one byte further
module _ (l : List ℕ) (place count i : ℕ) (p : i < count) (h : place + count ≤ length l) where
  pub run_next : get_or l (place + i) 0 ≡ 0
      → leb (count - i) (leading_zeros (drop (place + i) l)) ≡ leb (count - (i + 1)) (leading_zeros (drop (place + (i + 1)) l))
  run_next e =
      let q : count - i - 1 ≡ count - (i + 1) = omega arith in
      let r : place + i + 1 ≡ place + (i + 1) = omega arith in
      zeros_next l (place + i) (omega arith) (count - i) (omega arith) e ∙ rw (q, r)

  pub run_stop : (get_or l (place + i) 0 ≡ 0 → ⊥) → leb (count - i) (leading_zeros (drop (place + i) l)) ≡ false
  run_stop e = zeros_stop l (place + i) (omega arith) (count - i) (omega arith) e

pub run_end : (count i n : ℕ) → count ≤ i → leb (count - i) n ≡ true
run_end count i n h = le-leb (count - i) n (omega arith)
