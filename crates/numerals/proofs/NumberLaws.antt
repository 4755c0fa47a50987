-- The number that a text spells, digit by digit; and that a number's own digits spell it. Assumes nothing.
use mathlib.Core.Path.{◌≡◌, refl, sym, ap, ap₂, ◌∙◌}
use mathlib.Core.List.{List, [], ◌∷◌, ◌++◌}
use mathlib.Core.Option.{Option, none, some}
use mathlib.Core.Bool.{Bool, true, false}
use Prim.Native.Nat.{ℕ, zero, suc, ◌+◌, ◌*◌, ◌/◌, ◌%◌, ◌^◌, ◌≤◌, ◌<◌}
use native.Mathlib.Nat.{pow-suc}
use native.Mathlib.Numerals.{add-one}
use native.Mathlib.Omega.{arith}
use lib.Dec.{ltb}
use lib.ListN.{length, drop, get_or, drop_of_length-le}
use lib.Seq.{drop-cons}
use borrow.Author.Tests.{lt-ltb, le-ltb, ltb-true, lt-leb, le-leb}
use Rattle.std.specs.Prelude.{Some, None}
use Rattle.meaning.specs.Choice.{pick}
use Rattle.numerals.specs.Hexadecimal.{digit}
use Rattle.numerals.specs.Decimals.{digits, number_behind, fitting, number_of, understood}
use Rattle.numerals.proofs.DigitLaws.{digit_decimal}
use Rattle.numerals.proofs.DecimalLaws.{digits_some}

behind_digit : (v b : ℕ) (l : List ℕ) → digit b < 10 → number_behind v (b ∷ l) ≡ number_behind (10 * v + digit b) l
unfolding number_behind
behind_digit v b l h = rw (lt-ltb (digit b) 10 h)

behind_other : (v b : ℕ) (l : List ℕ) → 10 ≤ digit b → number_behind v (b ∷ l) ≡ none
unfolding number_behind
behind_other v b l h = rw (le-ltb (digit b) 10 h)

-- a number over the largest stays over it
fitting_over : (v : ℕ) (l : List ℕ) → 18446744073709551615 < v → fitting (number_behind v l) ≡ none
unfolding fitting number_behind
fitting_over v [] h = rw (lt-leb v 18446744073709551615 h)
fitting_over v (b ∷ l) h = go (ltb (digit b) 10) (fitting_over (10 * v + digit b) l (omega arith))
  where
    go : (x : Bool) → fitting (number_behind (10 * v + digit b) l) ≡ none → fitting (pick x (number_behind (10 * v + digit b) l) none) ≡ none
    go true e = e
    go false e = refl

number_some : (text : List ℕ) → 0 < length text → number_of text ≡ fitting (number_behind 0 text)
unfolding number_of
number_some [] h = (let never : ⊥ = omega arith in absurd never)
number_some (b ∷ l) h = refl

-- The digits from i on are left, behind those that spell v.
pub record Spelling (text : List ℕ) (i v : ℕ) : Type 0 where
  pub fits : v ≤ 18446744073709551615
  pub rest : number_behind 0 text ≡ number_behind v (drop i text)

pub spelling_begin : (text : List ℕ) → Spelling text 0 0
spelling_begin text = record { fits = omega arith; rest = refl }

module _ (text : List ℕ) (i v : ℕ) (s : Spelling text i v) where
  module _ (h : i < length text) where
    here : number_behind 0 text ≡ number_behind v (get_or text i 0 ∷ drop (suc i) text)
    here = s.rest ∙ ap (number_behind v) (drop-cons text i 0 h)

    refused : fitting (number_behind 0 text) ≡ none → None ≡ understood (number_of text)
    unfolding understood
    refused e = ap understood (sym (number_some text (omega arith) ∙ e))

    pub spelling_other : 10 ≤ digit (get_or text i 0) → None ≡ understood (number_of text)
    unfolding fitting
    spelling_other k = refused (ap fitting (here ∙ behind_other v (get_or text i 0) (drop (suc i) text) k))

    pub spelling_over : digit (get_or text i 0) < 10 → 18446744073709551615 < 10 * v + digit (get_or text i 0) → None ≡ understood (number_of text)
    spelling_over k o =
        refused (ap fitting (here ∙ behind_digit v (get_or text i 0) (drop (suc i) text) k) ∙ fitting_over _ (drop (suc i) text) o)

    pub spelling_next : (w : ℕ) → digit (get_or text i 0) < 10 → w ≡ 10 * v + digit (get_or text i 0) → w ≤ 18446744073709551615 → Spelling text (i + 1) w
    spelling_next w k e o = record {
      fits = o;
      rest = here
          ∙ behind_digit v (get_or text i 0) (drop (suc i) text) k
          ∙ ap₂ (λ (x k : ℕ). number_behind x (drop k text)) (sym e) (sym (add-one i));
    }

  pub spelling_end : length text ≤ i → 0 < length text → Some v ≡ understood (number_of text)
  unfolding understood fitting number_behind
  spelling_end h k =
      sym (ap understood (number_some text k ∙ ap fitting (s.rest ∙ ap (number_behind v) (drop_of_length-le text h)))
      ∙ ap (λ (x : Bool). understood (pick x (some v) none)) (le-leb v 18446744073709551615 s.fits))

-- no text, no number
pub spelling_none : (text : List ℕ) → length text ≡ 0 → None ≡ understood (number_of text)
unfolding understood number_of
spelling_none [] h = refl
spelling_none (b ∷ l) h = (let never : ⊥ = omega arith in absurd never)

-- the digits of a number spell it
abbrev and_then : ℕ → Option ℕ → Option ℕ
and_then d none = none
and_then d (some n) = some (10 * n + d)

digit_of : (d : ℕ) → d < 10 → digit (48 + d) ≡ d
digit_of d h = sym (digit_decimal (48 + d) (omega arith) (omega arith)) ∙ (omega arith)

spelled_last : (v d : ℕ) (l : List ℕ) → d < 10 → number_behind v (l ++ ((48 + d) ∷ [])) ≡ and_then d (number_behind v l)
unfolding number_behind
spelled_last v d [] h = let e = digit_of d h in let k : digit (48 + d) < 10 = omega arith in rw (lt-ltb (digit (48 + d)) 10 k, e)
spelled_last v d (b ∷ l) h = go (ltb (digit b) 10) (spelled_last (10 * v + digit b) d l h)
  where
    go : (x : Bool) → number_behind (10 * v + digit b) (l ++ ((48 + d) ∷ [])) ≡ and_then d (number_behind (10 * v + digit b) l) → pick x (number_behind (10 * v + digit b) (l ++ ((48 + d) ∷ []))) none ≡ and_then d (pick x (number_behind (10 * v + digit b) l) none)
    go true e = e
    go false e = refl

digits_spell : (p n : ℕ) → n < 10 ^ p → number_behind 0 (digits p n) ≡ some n
unfolding digits number_behind
digits_spell zero n h = ap (λ (k : ℕ). some k) (omega arith)
digits_spell (suc p) n h = go (ltb n 10) refl (digits_spell p (n / 10) fewer)
  where
    fewer : n / 10 < 10 ^ p
    fewer = let e = pow-suc 10 p in omega arith

    go : (x : Bool) → ltb n 10 ≡ x → number_behind 0 (digits p (n / 10)) ≡ some (n / 10) → number_behind 0 (pick x ((48 + n) ∷ []) (digits p (n / 10) ++ ((48 + n % 10) ∷ []))) ≡ some n
    go true k e = spelled_last 0 n [] (ltb-true n 10 k) ∙ ap (λ (m : ℕ). some m) (omega arith)
    go false k e =
        spelled_last 0 (n % 10) (digits p (n / 10)) (omega arith)
        ∙ ap (and_then (n % 10)) e
        ∙ ap (λ (m : ℕ). some m) (omega arith)

-- what is printed in decimal is read back
pub decimal_back : (n : ℕ) → n ≤ 18446744073709551615 → number_of (digits 20 n) ≡ some n
unfolding fitting
decimal_back n h =
    number_some (digits 20 n) (digits_some 19 n)
    ∙ ap fitting (digits_spell 20 n (omega arith))
    ∙ ap (λ (x : Bool). pick x (some n) none) (le-leb n 18446744073709551615 h)
