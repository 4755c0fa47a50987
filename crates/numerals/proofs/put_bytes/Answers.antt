-- `numerals::put_bytes` meets its contract. The invariant: the pairs from n on are left, behind the bytes at the front of the slice. Assumes nothing.
use native.Mathlib.Omega.{arith}
use Rattle.numerals.proofs.ByteLaws.{pairing_begin, first_digit, second_digit, pairing_next, pairing_end}
use Rattle.numerals.proofs.put_bytes.Goals as goal

pub loop-n-init : goal.loop-n-init
loop-n-init c = pairing_begin _ _ c.requires.digits

pub overflow_mul-byte : goal.overflow_mul-byte
overflow_mul-byte c = let h = first_digit c.loop-n.invariant (omega arith) (omega arith) in omega arith

pub overflow_add-byte : goal.overflow_add-byte
overflow_add-byte c =
    let h = first_digit c.loop-n.invariant (omega arith) (omega arith) in
    let k = second_digit c.loop-n.invariant (omega arith) (omega arith) in
    omega arith

pub loop-n-preserved : goal.loop-n-preserved
loop-n-preserved c =
    pairing_next c.loop-n.invariant (omega arith) (omega arith) _ _ c.value_of.ensures c.value_of-in-loop-n.ensures

pub returns : goal.returns
returns c = pairing_end c.loop-n.invariant (omega arith) (omega arith)
