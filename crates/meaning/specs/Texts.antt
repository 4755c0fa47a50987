-- Texts: nul, and UTF-8 by table 3-7 of the Unicode Standard. Assumes nothing: these are definitions.
use Rattle.std.specs.Prelude.{List, [], ◌∷◌, Bool, true, ◌&&◌, not, ℕ, ◌-◌, leb, eqb, length, take, get_or}
use Rattle.meaning.specs.Choice.{pick}
use Rattle.meaning.specs.Refusals.{nul_in_text, not_utf8}

-- a text takes its whole part; one final nul is dropped, a missing one is accepted
unfoldable pub without_final_nul : List ℕ → List ℕ
without_final_nul l = pick (eqb (get_or l (length l - 1) 1) 0) (take (length l - 1) l) l

unfoldable pub no_nul : List ℕ → Bool
no_nul [] = true
no_nul (x ∷ l) = not (eqb x 0) && no_nul l

-- what a letter still wants: so many bytes, the next of them from `low` to `high`, those after it from 128 to 191
pub record Wanted : Type 0 where
  pub count : ℕ
  pub low : ℕ
  pub high : ℕ

abbrev pub wanted : ℕ → ℕ → ℕ → Wanted
wanted n lo hi = record { count = n; low = lo; high = hi }

-- a letter begins; and what no byte can satisfy
abbrev pub letter : Wanted
letter = wanted 0 0 0

abbrev pub impossible : Wanted
impossible = wanted 1 1 0

abbrev pub between : ℕ → ℕ → ℕ → Bool
between lo x hi = leb lo x && leb x hi

-- what a letter's first byte wants behind it
unfoldable pub following : ℕ → Wanted
following x =
    pick (between 0 x 127) letter
    (pick (between 194 x 223) (wanted 1 128 191)
    (pick (eqb x 224) (wanted 2 160 191)
    (pick (eqb x 237) (wanted 2 128 159)
    (pick (between 225 x 239) (wanted 2 128 191)
    (pick (eqb x 240) (wanted 3 144 191)
    (pick (between 241 x 243) (wanted 3 128 191)
    (pick (eqb x 244) (wanted 3 128 143)
    impossible)))))))

-- what is wanted after one more byte
unfoldable pub after_byte : Wanted → ℕ → Wanted
after_byte s x =
    pick (eqb s.count 0) (following x)
    (pick (between s.low x s.high) (wanted (s.count - 1) 128 191) impossible)

unfoldable pub utf8_from : Wanted → List ℕ → Bool
utf8_from s [] = eqb s.count 0
utf8_from s (x ∷ l) = utf8_from (after_byte s x) l

unfoldable pub utf8 : List ℕ → Bool
utf8 l = utf8_from letter l

-- the refusal of a text: 5 comes before 6
unfoldable pub text_refusal : List ℕ → ℕ
text_refusal l = pick (no_nul l) (pick (utf8 l) 0 not_utf8) nul_in_text
