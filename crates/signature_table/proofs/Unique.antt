-- Each public contract leaves one answer. Assumes nothing.
use mathlib.Core.Path.{refl, sym, ◌∙◌}
use Rattle.meaning.specs.OneAnswer.{OneAnswer}
use Rattle.signature_table.proofs.judge.Kinds as judge_kinds
use Rattle.signature_table.proofs.judge.Reads as judge
use Rattle.signature.proofs.ShapeLaws.{answered_table}
use Rattle.signature_table.proofs.shapes_of.Kinds as shapes_of_kinds
use Rattle.signature_table.proofs.shapes_of.Reads as shapes_of

pub judge_unique : OneAnswer judge_kinds.ps judge_kinds.r judge.Learnt
judge_unique κs a z z' w w' p q = (p ∙ sym q, refl)

-- text, shapes
pub shapes_of_unique : OneAnswer shapes_of_kinds.ps shapes_of_kinds.r shapes_of.Learnt
shapes_of_unique κs a z z' w w' p q =
    let table = answered_table _ _ _ _ z z' p q in
    (p.judged ∙ sym q.judged, λ i. (tt, (table i, tt)))
