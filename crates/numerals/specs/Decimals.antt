-- Numbers in decimal: the text of a number, and the number that a text spells. Assumes nothing: these are definitions.
use Rattle.std.specs.Prelude.{List, [], ◌∷◌, ◌++◌, ℕ, zero, suc, ◌+◌, ◌*◌, ◌/◌, ◌%◌, leb, ltb, Some, None, Option as Answer}
use Rattle.std.proofs.Math.Option.{Option, none, some}
use Rattle.meaning.specs.Choice.{pick}
use Rattle.meaning.specs.Limits.{largest_number}
use Rattle.numerals.specs.Hexadecimal.{digit}

-- the decimal digits of a number, or the last of them where it has more than so many
unfoldable pub digits : ℕ → ℕ → List ℕ
digits zero n = []
digits (suc places) n = pick (ltb n 10) ((48 + n) ∷ []) (digits places (n / 10) ++ ((48 + n % 10) ∷ []))

-- a number and a byte behind it; every number below 2 ^ 64 has at most 20 digits
unfoldable pub numeral : ℕ → ℕ → List ℕ
numeral n end = digits 20 n ++ (end ∷ [])

-- the number that digits spell behind the number n; none where a byte is no digit below 10
unfoldable pub number_behind : ℕ → List ℕ → Option ℕ
number_behind n [] = some n
number_behind n (b ∷ l) = pick (ltb (digit b) 10) (number_behind (10 * n + digit b) l) none

-- numbers of 64 bits
unfoldable pub fitting : Option ℕ → Option ℕ
fitting none = none
fitting (some n) = pick (leb n largest_number) (some n) none

-- the number that a text spells, in one digit or more
unfoldable pub number_of : List ℕ → Option ℕ
number_of [] = none
number_of (b ∷ l) = fitting (number_behind 0 (b ∷ l))

-- what `decimal` answers
unfoldable pub understood : Option ℕ → Answer ℕ
understood none = None
understood (some n) = Some n
