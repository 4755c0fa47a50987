-- What a letter still wants, as code holds it, and runs of letters of one byte. Assumes nothing: these are definitions.
use Rattle.std.specs.Prelude.{◌≡◌, List, Bool, true, ℕ, ◌≤◌, length, drop}
use Rattle.std.specs.List.{AllWithin}
use Rattle.meaning.specs.Texts as texts
use Rattle.texts.specs.declared.Wanted.{Wanted}

abbrev pub wanted_of : Wanted → texts.Wanted
wanted_of s = texts.wanted s.count s.low s.high

-- from i to j a text has no nul and only whole letters: what is behind j decides
pub record Plain (l : List ℕ) (i j : ℕ) : Type 0 where
  pub from : i ≤ j
  pub to : j ≤ length l
  pub nul : texts.no_nul (drop i l) ≡ texts.no_nul (drop j l)
  pub letters : texts.utf8_from texts.letter (drop i l) ≡ texts.utf8_from texts.letter (drop j l)

abbrev pub PlainIf : Bool → List ℕ → ℕ → ℕ → Type 0
PlainIf b l i j = b ≡ true → Plain l i j

-- each byte from i to j is a letter by itself
abbrev pub PlainByte : ℕ → Type 0
PlainByte b = (1 ≤ b) × (b ≤ 127)

abbrev pub PlainBytesIf : Bool → List ℕ → ℕ → ℕ → Type 0
PlainBytesIf b l i j = b ≡ true → AllWithin PlainByte l i j

-- a byte stands inside a letter
abbrev pub InsideByte : ℕ → Type 0
InsideByte b = (128 ≤ b) × (b ≤ 191)

-- letters of two and of three bytes, in the ranges that most have
pub record Two (a b : ℕ) : Type 0 where
  pub first : (194 ≤ a) × (a ≤ 223)
  pub second : (128 ≤ b) × (b ≤ 191)

pub record Three (a b c : ℕ) : Type 0 where
  pub first : (225 ≤ a) × (a ≤ 236)
  pub second : (128 ≤ b) × (b ≤ 191)
  pub third : (128 ≤ c) × (c ≤ 191)
