-- The text of a line: four numbers, one behind another, and how long it can be. Assumes nothing.
use mathlib.Core.List.{List, []}
use mathlib.Core.Bool.{Bool, true, false}
use Prim.Native.Nat.{ℕ, ◌+◌, ◌≤◌}
use native.Mathlib.Omega.{arith}
use lib.Dec.{eqb}
use lib.ListN.{length, length-append}
use Rattle.meaning.specs.Choice.{pick}
use Rattle.meaning.specs.Calls.{Counts}
use Rattle.numerals.specs.Storing.{Puts, Stores}
use Rattle.numerals.specs.Decimals.{numeral}
use Rattle.numerals.proofs.StoringLaws.{puts_then}
use Rattle.numerals.proofs.DecimalLaws.{numeral_most, numeral_fits, decimal_puts}
use Rattle.listing.specs.Listing.{printed}
use Rattle.listing.specs.States.{Machine, line_text, output, answer_of}

pub printed_most : (n : ℕ) (c : Counts) → length (printed n c) ≤ 84
unfolding printed
printed_most n c =
    let h = numeral_most n 32 in
    let i = numeral_most c.refusal 32 in
    let j = numeral_most c.used 32 in
    let k = numeral_most c.count 10 in
    simp length-append (omega arith)

pub line_most : (m : Machine) → length (line_text m) ≤ 84
unfolding line_text
line_most m = go (eqb m.state.line 0)
  where
    go : (x : Bool) → length (pick x [] (printed m.state.line (answer_of m))) ≤ 84
    go true = omega arith
    go false = printed_most m.state.line (answer_of m)

pub output_most : (m : Machine) (b : ℕ) → length (output m b) ≤ 84
unfolding output
output_most m b = go (eqb b 10)
  where
    go : (x : Bool) → length (pick x (line_text m) []) ≤ 84
    go true = line_most m
    go false = omega arith

pub puts_printed : {l k m n o : List ℕ} {at p q r s : ℕ} (number : ℕ) (c : Counts) → at + 84 ≤ length l → Stores l k at (numeral number 32) p → Stores k m p (numeral c.refusal 32) q → Stores m n q (numeral c.used 32) r → Stores n o r (numeral c.count 10) s → Puts l o at (printed number c) s
unfolding printed
puts_printed number c room first second third fourth =
    let a = decimal_puts number 32 (omega arith) first in
    let f = numeral_fits number 32 63 a (omega arith) in
    let b = decimal_puts c.refusal 32 (omega arith) second in
    let g = numeral_fits c.refusal 32 42 b (omega arith) in
    let d = decimal_puts c.used 32 (omega arith) third in
    let h = numeral_fits c.used 32 21 d (omega arith) in
    let e = decimal_puts c.count 10 h fourth in
    puts_then a (puts_then b (puts_then d e))
