-- `numerals::digit` meets its contract: a law for each part of the bytes. Assumes nothing.
use native.Mathlib.Omega.{arith}
use Rattle.numerals.proofs.DigitLaws.{digit_below, digit_decimal, digit_between, digit_upper, digit_behind, digit_lower, digit_above}
use Rattle.numerals.proofs.digit.Goals as goal

pub returns-in-48-to-57-clause-value : goal.returns-in-48-to-57-clause-value
returns-in-48-to-57-clause-value c = let e = digit_decimal c.args.byte (omega arith) (omega arith) in omega arith

pub returns-in-65-to-70-clause-value : goal.returns-in-65-to-70-clause-value
returns-in-65-to-70-clause-value c = let e = digit_upper c.args.byte (omega arith) (omega arith) in omega arith

pub returns-in-97-to-102-clause-value : goal.returns-in-97-to-102-clause-value
returns-in-97-to-102-clause-value c = let e = digit_lower c.args.byte (omega arith) (omega arith) in omega arith

pub returns-in_default-clause-value : goal.returns-in_default-clause-value
returns-in_default-clause-value c = digit_below _ (omega arith)

pub returns-in_default-2-clause-value : goal.returns-in_default-2-clause-value
returns-in_default-2-clause-value c = digit_between _ (omega arith) (omega arith)

pub returns-in_default-3-clause-value : goal.returns-in_default-3-clause-value
returns-in_default-3-clause-value c = digit_behind _ (omega arith) (omega arith)

pub returns-in_default-4-clause-value : goal.returns-in_default-4-clause-value
returns-in_default-4-clause-value c = digit_above _ (omega arith)
