-- What is passed or judged behind a child that was read: from the child's answer r, whatever reading that is of, to the answer s. Assumes
-- nothing: these are definitions.
use Rattle.std.specs.Prelude.{◌≡◌, ℕ, ◌+◌, ◌-◌, ◌%◌, ◌≤◌, true, List, length, nat_le}
use Rattle.meaning.specs.Outcome.{Outcome, chain, passing, closing_at}
use Rattle.meaning.specs.Reading.{child, end_byte, end_padding, remaining}
use Rattle.reader_basic.specs.Answers.{Done, From, Between}
use Rattle.meaning.specs.Calls.{Counts}

-- so many more bytes, if the child is done
abbrev pub Passes : ℕ → Counts → Counts → Type 0
Passes more r s =
    (o : Outcome) (end end' len n : ℕ) (l l' : List ℕ) → (r.refusal ≡ 0 → r.used + more ≤ end) → end ≤ len → Done o end' len n l l' r
    → Done (chain o (passing more)) end len n l l' s

-- the padding at the end of what is fixed, whatever came of its last child
abbrev pub EndsPadded : ℕ → ℕ → List ℕ → ℕ → ℕ → Counts → Counts → Type 0
EndsPadded position alignment part j place r s =
    (o : Outcome) (end len n : ℕ) (l l' : List ℕ) → len ≡ length part - j → Done o end len n l l' r
    → Done (end_padding position true alignment place part j o) len len n l l' s

-- the zero behind a maybe's child that is not fixed
abbrev pub EndsInZero : List ℕ → ℕ → Counts → Counts → Type 0
EndsInZero part lead r s =
    (o : Outcome) (place n : ℕ) (l l' : List ℕ) → Done o (length part - 1 - lead) (length part - lead) n l l' r
    → Done (chain o (end_byte place part lead)) (length part - lead) (length part - lead) n l l' s

-- the end of a structure behind its last field, which reaches from j to an end: padding where it is fixed, else the table
abbrev pub ClosesFields : ℕ → ℕ → List ℕ → ℕ → ℕ → ℕ → Counts → Counts → Type 0
ClosesFields position shape part j end place r s =
    (read : ℕ → List ℕ → Outcome) (n : ℕ) (l l' : List ℕ) → Between (child read place part j end) part j end n l l' r
    → From
    (chain (end_padding position (nat_le 16 (shape % 32)) (shape % 16) place part j (child read place part j end)) (passing (length part - end)))
    part j n l l' s

-- a variant's end: all of it is used
abbrev pub ClosesVariant : List ℕ → ℕ → ℕ → List ℕ → List ℕ → Counts → Counts → Type 0
ClosesVariant part lead place out out' r s =
    (o : Outcome) (end n : ℕ) (l : List ℕ) → Done o end (length part - lead) n l out r
    → From (chain (chain o (remaining (length part - lead))) (closing_at (place + lead))) part lead n l out' s
