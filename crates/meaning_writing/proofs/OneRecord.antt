-- NO TWO RECORDS ALIKE: two different values of a type never have the same written form in one byte order. A text is its bytes and a number its
-- bits, floats too; a variant is its type and its value, a dictionary its entries in their order. Assumes nothing.
use mathlib.Core.Path.{◌≡◌, ap}
use mathlib.Core.List.{List, [], ◌∷◌}
use mathlib.Core.Bool.{Bool}
use Prim.Native.Nat.{ℕ, suc, ◌^◌, ◌≤◌, ◌<◌}
use native.Mathlib.Omega.{arith}
use lib.Dec.{T}
use lib.ListN.{length, length-append}
use borrow.Author.Tests.{lt-ltb, eq-eqb}
use Rattle.meaning.specs.Limits.{largest_frame, most_variants}
use Rattle.meaning.specs.Numbers.{bytes}
use Rattle.meaning.specs.Texts.{text_refusal}
use Rattle.meaning.specs.Depths.{Depths, none_open}
use Rattle.meaning.specs.Types.{Basic, Tree, Text, double, number, text, basic, variant, dictionary}
use Rattle.meaning.specs.Values.{BasicValue, Value}
use Rattle.meaning.specs.Written.{fits, basic_piece, piece_over, piece, written}
use Rattle.meaning.proofs.NumberLaws.{length_bytes, length_ordered}
use Rattle.meaning_writing.proofs.WriteLaws.{written_once}

-- values that fit where so many containers are open, and the first of which makes a frame
module _ (big : Bool) (n : ℕ) (t : Tree) (v w : Value n t) (d : Depths) (f : T (fits (piece big n t v) d)) (g : T (fits (piece big n t w) d)) (small : length (written big n t v) ≤ largest_frame) where
  pub no_two_alike : (v ≡ w → ⊥) → written big n t v ≡ written big n t w → ⊥
  no_two_alike apart e = apart (written_once big n t v w d f g small e)

-- of variants: where the types differ, whatever the values are
pub types_apart : (big : Bool) (n : ℕ) (v w : Value (suc n) variant) (d : Depths) → T (fits (piece big (suc n) variant v) d) → T (fits (piece big (suc n) variant w) d)
    → length (written big (suc n) variant v) ≤ largest_frame → (v.0 ≡ w.0 → ⊥) → written big (suc n) variant v ≡ written big (suc n) variant w → ⊥
types_apart big n v w d f g small apart e = apart (ap (λ (x : Value (suc n) variant). x.0) (written_once big (suc n) variant v w d f g small e))

-- of dictionaries: where the entries stand in another order
pub orders_apart : (big : Bool) (n : ℕ) (b : Basic) (t : Tree) (x y : BasicValue b × Value (suc n) t) (d : Depths)
    → T (fits (piece big (suc n) (dictionary b t) (x ∷ y ∷ [])) d) → T (fits (piece big (suc n) (dictionary b t) (y ∷ x ∷ [])) d) → length (written big (suc n) (dictionary b t) (x ∷ y ∷ [])) ≤ largest_frame
    → (x ≡ y → ⊥) → written big (suc n) (dictionary b t) (x ∷ y ∷ []) ≡ written big (suc n) (dictionary b t) (y ∷ x ∷ []) → ⊥
orders_apart big n b t x y d f g small apart = no_two_alike big (suc n) (dictionary b t) (x ∷ y ∷ []) (y ∷ x ∷ []) d f g small (λ e. apart (cc))

-- of floats: where the bits differ, as those of 0 and -0 do, and of one NaN and another
pub floats_apart : (big : Bool) (a b : ℕ) → a < 256 ^ 8 → b < 256 ^ 8 → (a ≡ b → ⊥) → written big most_variants (basic (number double)) a ≡ written big most_variants (basic (number double)) b → ⊥
unfolding written piece piece_over basic_piece
floats_apart big a b l m =
    no_two_alike big most_variants (basic (number double)) a b none_open (rw (lt-ltb a (256 ^ 8) l) tt) (rw (lt-ltb b (256 ^ 8) m) tt) (rw (length_ordered big (bytes 8 a), length_bytes 8 a) (omega arith))

pub zeros_apart : (big : Bool) → written big most_variants (basic (number double)) 0 ≡ written big most_variants (basic (number double)) (2 ^ 63) → ⊥
zeros_apart big = floats_apart big 0 (2 ^ 63) (omega arith) (omega arith) (λ h. omega arith)

-- of texts: where the bytes differ, as those of one letter in two spellings do
pub texts_apart : (big : Bool) (c : Text) (a b : List ℕ) → text_refusal a ≡ 0 → text_refusal b ≡ 0 → length a < largest_frame → (a ≡ b → ⊥)
    → written big most_variants (basic (text c)) a ≡ written big most_variants (basic (text c)) b → ⊥
unfolding written piece piece_over basic_piece
texts_apart big c a b p q small =
    no_two_alike big most_variants (basic (text c)) a b none_open (rw (eq-eqb (text_refusal a) 0 p) tt) (rw (eq-eqb (text_refusal b) 0 q) tt) (rw (length-append a (0 ∷ [])) (omega arith))
