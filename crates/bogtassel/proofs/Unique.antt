-- Each public contract leaves one answer: the number returned, the lent numbers, and the lent slice. Assumes nothing.
use mathlib.Core.Path.{sym, ◌∙◌}
use Rattle.meaning.specs.OneAnswer.{OneAnswer}
use Rattle.bogtassel.proofs.bogtassel_size.Kinds as size_kinds
use Rattle.bogtassel.proofs.bogtassel_size.Reads as size
use Rattle.bogtassel.proofs.bogtassel_read.Kinds as read_kinds
use Rattle.bogtassel.proofs.bogtassel_read.Reads as read
use Rattle.bogtassel.proofs.bogtassel_write.Kinds as write_kinds
use Rattle.bogtassel.proofs.bogtassel_write.Reads as write
use Rattle.bogtassel.proofs.bogtassel_is_written.Kinds as strict_kinds
use Rattle.bogtassel.proofs.bogtassel_is_written.Reads as strict
use Rattle.bogtassel.proofs.bogtassel_edit.Kinds as edit_kinds
use Rattle.bogtassel.proofs.bogtassel_edit.Reads as edit

-- signature, big, position, frame, used, count
pub size_unique : OneAnswer size_kinds.ps size_kinds.r size.Learnt
size_unique κs a z z' w w' p q =
    let e = p ∙ sym q in
    (λ i. (e i).refusal, λ i. (tt, (tt, (tt, (tt, ((e i).used, ((e i).count, tt)))))))

-- signature, big, position, frame, out, used, count
pub read_unique : OneAnswer read_kinds.ps read_kinds.r read.Learnt
read_unique κs a z z' w w' p q =
    let e = p.0 ∙ sym q.0 in
    let slice = p.1 ∙ sym q.1 in
    (λ i. (e i).refusal, λ i. (tt, (tt, (tt, (tt, (slice i, ((e i).used, ((e i).count, tt))))))))

-- signature, big, events, texts, out, length
pub write_unique : OneAnswer write_kinds.ps write_kinds.r write.Learnt
write_unique κs a z z' w w' p q =
    let e = p.0 ∙ sym q.0 in
    let slice = p.1 ∙ sym q.1 in
    (λ i. (e i).refusal, λ i. (tt, (tt, (tt, (tt, (slice i, ((e i).used, tt)))))))

-- signature, big, frame
pub strict_unique : OneAnswer strict_kinds.ps strict_kinds.r strict.Learnt
strict_unique κs a z z' w w' p q = (p ∙ sym q, λ i. (tt, (tt, (tt, tt))))

-- signature, big, buffer, used, number, present, bits, length
pub edit_unique : OneAnswer edit_kinds.ps edit_kinds.r edit.Learnt
edit_unique κs a z z' w w' p q =
    let e = p.0 ∙ sym q.0 in
    let memory = p.1 ∙ sym q.1 in
    (λ i. (e i).refusal, λ i. (tt, (tt, (memory i, (tt, (tt, (tt, (tt, ((e i).used, tt)))))))))
