-- The definitions computed, on inputs that tell their rules apart. Assumes nothing.
use mathlib.Core.Path.{◌≡◌, refl}
use mathlib.Core.List.{[], ◌∷◌}
use mathlib.Core.Option.{none, some}
use Rattle.numerals.specs.Hexadecimal.{digit, before, bytes_of, bytes_behind}
use Rattle.numerals.specs.Decimals.{digits, numeral, number_behind, fitting, number_of}

-- a byte in both cases; a digit too many; the bytes beside the digits
pub bytes_both : bytes_of (102 ∷ 65 ∷ 48 ∷ 57 ∷ []) ≡ some (250 ∷ 9 ∷ [])
unfolding digit before bytes_of bytes_behind
bytes_both = refl

pub bytes_odd : bytes_of (48 ∷ 48 ∷ 48 ∷ []) ≡ none
unfolding digit before bytes_of bytes_behind
bytes_odd = refl

pub bytes_beside : digit 47 ∷ digit 58 ∷ digit 64 ∷ digit 71 ∷ digit 96 ∷ digit 103 ∷ [] ≡ 16 ∷ 16 ∷ 16 ∷ 16 ∷ 16 ∷ 16 ∷ []
unfolding digit
bytes_beside = refl

-- 0, a number with zeros in front, the largest, the next, no digit, a hexadecimal digit
pub numbers : number_of (48 ∷ []) ∷ number_of (48 ∷ 48 ∷ 55 ∷ []) ∷ number_of [] ∷ number_of (49 ∷ 97 ∷ []) ∷ [] ≡ some 0 ∷ some 7 ∷ none ∷ none ∷ []
unfolding digit number_behind fitting number_of
numbers = refl

pub number_largest : number_of (49 ∷ 56 ∷ 52 ∷ 52 ∷ 54 ∷ 55 ∷ 52 ∷ 52 ∷ 48 ∷ 55 ∷ 51 ∷ 55 ∷ 48 ∷ 57 ∷ 53 ∷ 53 ∷ 49 ∷ 54 ∷ 49 ∷ 53 ∷ []) ≡ some 18446744073709551615
unfolding digit number_behind fitting number_of
number_largest = refl

pub number_above : number_of (49 ∷ 56 ∷ 52 ∷ 52 ∷ 54 ∷ 55 ∷ 52 ∷ 52 ∷ 48 ∷ 55 ∷ 51 ∷ 55 ∷ 48 ∷ 57 ∷ 53 ∷ 53 ∷ 49 ∷ 54 ∷ 49 ∷ 54 ∷ []) ≡ none
unfolding digit number_behind fitting number_of
number_above = refl

pub numerals : numeral 0 32 ∷ numeral 10 10 ∷ numeral 99 32 ∷ [] ≡ (48 ∷ 32 ∷ []) ∷ (49 ∷ 48 ∷ 10 ∷ []) ∷ (57 ∷ 57 ∷ 32 ∷ []) ∷ []
unfolding digits numeral
numerals = refl
