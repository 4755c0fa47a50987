-- `listing::answer` meets its contract: a law for each way out. Assumes nothing.
use mathlib.Core.Path.{sym, ◌∙◌}
use Rattle.listing.proofs.Steps.{answer_type, answer_spoilt, answer_odd, answer_long, answer_size}
use Rattle.listing.proofs.answer.Goals as goal
use Rattle.listing.proofs.answer.Goals.{then-s-via-then-s, then-s-via-else-s+then-is_some}

pub returns-then-not-judge : goal.returns-then-not-judge
returns-then-not-judge c = answer_type _ _ c.front-signature.ensures (sym c.judge.ensures ∙ c.if-not-judge.true)

pub returns-then-s : goal.returns-then-s
returns-then-s c = elim c.then-s.branch [
  | then-s-via-then-s w ↦ answer_spoilt _ _ c.front-signature.ensures (sym c.judge.ensures ∙ c.if-not-judge.false) w.if-s.true
  | then-s-via-else-s+then-is_some w ↦ answer_odd _ _ c.front-signature.ensures (sym c.judge.ensures ∙ c.if-not-judge.false) w.if-s.false (sym w.is_some.ensures ∙ w.if-is_some.true)
]

pub returns-then-s-gt16384 : goal.returns-then-s-gt16384
returns-then-s-gt16384 c =
    answer_long _ _ c.front-signature.ensures (sym c.judge.ensures ∙ c.if-not-judge.false) c.if-s.false (sym c.is_some.ensures ∙ c.if-is_some.false) c.if-s-gt16384.true

pub returns : goal.returns
returns c =
    c.size.ensures ∙ answer_size _ _ c.front-signature.ensures _ c.front.ensures (sym c.judge.ensures ∙ c.if-not-judge.false) c.if-s.false (sym c.is_some.ensures ∙ c.if-is_some.false) c.if-s-gt16384.false
