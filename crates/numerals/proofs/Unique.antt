-- Each public contract leaves one answer: said of what the function's own clauses state. Assumes nothing.
use mathlib.Core.Path.{refl, sym, ◌∙◌}
use Rattle.meaning.specs.OneAnswer.{OneAnswer}
use Rattle.numerals.proofs.DigitLaws.{digit_one}
use Rattle.numerals.proofs.digit.Kinds as digit_kinds
use Rattle.numerals.proofs.digit.Reads as digit
use Rattle.numerals.proofs.begun.Kinds as begun_kinds
use Rattle.numerals.proofs.begun.Reads as begun
use Rattle.numerals.proofs.bytes.Kinds as bytes_kinds
use Rattle.numerals.proofs.bytes.Reads as bytes
use Rattle.numerals.proofs.decimal.Kinds as decimal_kinds
use Rattle.numerals.proofs.decimal.Reads as decimal
use Rattle.numerals.proofs.put_decimal.Kinds as put_decimal_kinds
use Rattle.numerals.proofs.put_decimal.Reads as put_decimal

pub digit_unique : OneAnswer digit_kinds.ps digit_kinds.r digit.Learnt
digit_unique κs a z z' w w' p q = (digit_one _ _ (p.0 ∙ sym q.0) p.1 q.1, refl)

pub begun_unique : OneAnswer begun_kinds.ps begun_kinds.r begun.Learnt
begun_unique κs a z z' w w' p q = (p ∙ sym q, refl)

pub bytes_unique : OneAnswer bytes_kinds.ps bytes_kinds.r bytes.Learnt
bytes_unique κs a z z' w w' p q =
    let slice = p.slice ∙ sym q.slice in
    (p.answer ∙ sym q.answer, λ i. (tt, (slice i, tt)))

pub decimal_unique : OneAnswer decimal_kinds.ps decimal_kinds.r decimal.Learnt
decimal_unique κs a z z' w w' p q = (p ∙ sym q, refl)

pub put_decimal_unique : OneAnswer put_decimal_kinds.ps put_decimal_kinds.r put_decimal.Learnt
put_decimal_unique κs a z z' w w' p q =
    let slice = p.slice ∙ sym q.slice in
    (p.next ∙ sym q.next, λ i. (tt, (tt, (slice i, (tt, tt)))))
