-- `listing::finish` meets its contract. Assumes nothing.
use mathlib.Core.Path.{sym, ◌∙◌}
use mathlib.Core.List.{[]}
use native.Mathlib.Nat.{le_trans}
use borrow.Author.Rules.{rules}
use Rattle.numerals.proofs.StoringLaws.{puts_none}
use Rattle.listing.specs.States.{line_text, machine}
use Rattle.listing.proofs.Steps.{final_short, final_none, final_line}
use Rattle.listing.proofs.Texts.{line_most}
use Rattle.listing.proofs.Blocks.{finishes}
use Rattle.listing.proofs.finish.Goals as goal
use Rattle.listing.proofs.finish.Goals.{then-out-lt84-via-then-out-lt84, then-out-lt84-via-else-out-lt84+then-not-begun}

pub returns-then-out-lt84 : goal.returns-then-out-lt84
returns-then-out-lt84 c = elim c.then-out-lt84.branch [
  | then-out-lt84-via-then-out-lt84 w ↦ finishes _ _ _ [] _ (final_short _ _ w.if-out-lt84.true) (search rules) (puts_none _ _)
  | then-out-lt84-via-else-out-lt84+then-not-begun w ↦ finishes _ _ _ [] _ (final_none _ _ w.if-out-lt84.false (sym w.begun.ensures ∙ w.if-not-begun.true)) (search rules) (puts_none _ _)
]

pub returns : goal.returns
returns c =
    finishes _ _ _ (line_text (machine c.args.state c.args.text.now c.args.frame.now)) _ (final_line _ _ c.if-out-lt84.false (sym c.begun.ensures ∙ c.if-not-begun.false)) (le_trans (line_most _) c.if-out-lt84.false) c.put_line.ensures
