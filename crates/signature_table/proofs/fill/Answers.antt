-- `signature_table::fill` meets its contract. Assumes nothing.
use native.Mathlib.Omega.{arith}
use borrow.Author.Rules.{rules}
use Rattle.signature_table.proofs.fill.Goals as goal

pub fill_block-requires : goal.fill_block-requires
fill_block-requires c = (search rules, search rules, omega arith, omega arith, λ k h g. absurd (omega arith))
