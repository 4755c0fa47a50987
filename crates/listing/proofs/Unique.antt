-- Each public contract leaves one answer: said of what the function's own clauses state. Assumes nothing.
use mathlib.Core.Path.{refl, sym, ◌∙◌}
use Rattle.meaning.specs.OneAnswer.{OneAnswer}
use Rattle.listing.proofs.fresh.Kinds as fresh_kinds
use Rattle.listing.proofs.fresh.Reads as fresh
use Rattle.listing.proofs.list.Kinds as list_kinds
use Rattle.listing.proofs.list.Reads as list
use Rattle.listing.proofs.finish.Kinds as finish_kinds
use Rattle.listing.proofs.finish.Reads as finish

pub fresh_unique : OneAnswer fresh_kinds.ps fresh_kinds.r fresh.Learnt
fresh_unique κs a z z' w w' p q = (p ∙ sym q, refl)

pub list_unique : OneAnswer list_kinds.ps list_kinds.r list.Learnt
list_unique κs a z z' w w' p q =
    let machines = p.machine ∙ sym q.machine in
    let passed = p.passed ∙ sym q.passed in
    let written = p.written ∙ sym q.written in
    let slice = p.slice ∙ sym q.slice in (
      λ i. record { state = (machines i).state; passed = passed i; written = written i },
      λ i. (tt, ((machines i).text, ((machines i).frame, (tt, (slice i, tt))))),
    )

pub finish_unique : OneAnswer finish_kinds.ps finish_kinds.r finish.Learnt
finish_unique κs a z z' w w' p q =
    let slice = p.slice ∙ sym q.slice in
    (p.written ∙ sym q.written, λ i. (tt, (tt, (tt, (slice i, tt)))))
