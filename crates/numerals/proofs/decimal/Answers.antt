-- `numerals::decimal` meets its contract. The invariant: the digits from an index on are left, behind those that spell the value. Assumes nothing.
use mathlib.Core.Path.{sym, ◌∙◌}
use native.Mathlib.Omega.{arith}
use borrow.Author.Tests.{eqb-true, eqb-false}
use Rattle.numerals.proofs.NumberLaws.{spelling_begin, spelling_other, spelling_over, spelling_next, spelling_end, spelling_none}
use Rattle.numerals.proofs.decimal.Goals as goal

pub loop-byte-init : goal.loop-byte-init
loop-byte-init c = spelling_begin _

pub returns-in_err-ones : goal.returns-in_err-ones
returns-in_err-ones c = c.from_residual.ensures ∙ spelling_other _ _ _ c.loop-byte.invariant c.loop-byte-test.true c.in_err-ones.ensures

pub returns-in_err-checked_mul : goal.returns-in_err-checked_mul
returns-in_err-checked_mul c =
    let d = c.in_ok-ones.ensures in
    let e = c.in_err-checked_mul.ensures in
    c.from_residual-in_err-checked_mul.ensures ∙ spelling_over _ _ _ c.loop-byte.invariant c.loop-byte-test.true (omega arith) (omega arith)

pub returns-in_err-value : goal.returns-in_err-value
returns-in_err-value c =
    let d = c.in_ok-ones.ensures in
    let m = c.in_ok-checked_mul.ensures in
    let f = c.from.ensures in
    let e = c.in_err-value.ensures in
    c.from_residual-in_err-value.ensures ∙ spelling_over _ _ _ c.loop-byte.invariant c.loop-byte-test.true (omega arith) (omega arith)

pub loop-byte-preserved : goal.loop-byte-preserved
loop-byte-preserved c =
    let d = c.in_ok-ones.ensures in
    let m = c.in_ok-checked_mul.ensures in
    let f = c.from.ensures in
    let e = c.in_ok-value.ensures in
    spelling_next _ _ _ c.loop-byte.invariant c.loop-byte-test.true _ (omega arith) (omega arith) (omega arith)

pub returns-then-is_empty : goal.returns-then-is_empty
returns-then-is_empty c = spelling_none _ (eqb-true _ _ (sym c.is_empty.ensures ∙ c.if-is_empty.true))

pub returns-else-is_empty : goal.returns-else-is_empty
returns-else-is_empty c = let h = eqb-false _ _ (sym c.is_empty.ensures ∙ c.if-is_empty.false) in spelling_end _ _ _ c.loop-byte.invariant (omega arith) (omega arith)
