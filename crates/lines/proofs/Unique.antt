-- Each public contract leaves one answer: said of what the function's own clauses state. Assumes nothing.
use mathlib.Core.Path.{refl, sym, ◌∙◌}
use Rattle.meaning.specs.OneAnswer.{OneAnswer, OneView}
use Rattle.lines.proofs.gather.Kinds as gather_kinds
use Rattle.lines.proofs.gather.Reads as gather
use Rattle.lines.proofs.keep.Kinds as keep_kinds
use Rattle.lines.proofs.keep.Reads as keep
use Rattle.lines.proofs.front.Kinds as front_kinds
use Rattle.lines.proofs.front.Reads as front
use Rattle.lines.proofs.find.Kinds as find_kinds
use Rattle.lines.proofs.find.Reads as find
use Rattle.lines.proofs.word.Kinds as word_kinds
use Rattle.lines.proofs.word.Reads as word

pub gather_unique : OneAnswer gather_kinds.ps gather_kinds.r gather.Learnt
gather_unique κs a z z' w w' p q =
    let kept = p.kept ∙ sym q.kept in
    let passed = p.passed ∙ sym q.passed in
    let ended = p.ended ∙ sym q.ended in
    let memory = p.memory ∙ sym q.memory in
    (λ i. record { kept = kept i; passed = passed i; ended = ended i }, λ i. (tt, (memory i, (tt, tt))))

pub keep_unique : OneAnswer keep_kinds.ps keep_kinds.r keep.Learnt
keep_unique κs a z z' w w' p q =
    let memory = p.1 ∙ sym q.1 in
    (p.0 ∙ sym q.0, λ i. (memory i, (tt, (tt, tt))))

pub front_unique : OneView front_kinds.ps front_kinds.r (λ κs z. z.now) front.Learnt
front_unique κs a z z' w w' p q = (p ∙ sym q, refl)

pub find_unique : OneAnswer find_kinds.ps find_kinds.r find.Learnt
find_unique κs a z z' w w' p q = (p.0 ∙ sym q.0, refl)

pub word_unique : OneView word_kinds.ps word_kinds.r (λ κs z. z.now) word.Learnt
word_unique κs a z z' w w' p q = (p ∙ sym q, refl)
