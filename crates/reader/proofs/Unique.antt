-- Each public contract leaves one answer: those of reading. Assumes nothing.
use mathlib.Core.Path.{◌≡◌, refl, ap, sym, ◌∙◌}
use Rattle.std.specs.Prelude.{Result, Ok, Err}
use Rattle.meaning.specs.Calls.{Counts}
use Rattle.meaning.specs.OneAnswer.{OneAnswer}
use Rattle.meaning.specs.declared.refusals.Refusal.{Refusal}
use Rattle.meaning.proofs.RefusalLaws.{number_not_0, number_one}
use Rattle.reader_basic.specs.declared.Answer.{Answer}
use Rattle.reader.specs.Answers.{answer_of}
use Rattle.reader.proofs.size.Kinds as size_kinds
use Rattle.reader.proofs.size.Reads as size
use Rattle.reader.proofs.read.Kinds as read_kinds
use Rattle.reader.proofs.read.Reads as read

-- an answer is told by its numbers
answer_in : Counts → Answer
answer_in c = record { used = c.used; count = c.count }

answer_one : (x y : Result Answer Refusal) → answer_of x ≡ answer_of y → x ≡ y
unfolding answer_in
answer_one (Ok a) (Ok b) h = ap (λ (c : Counts). Ok (answer_in c)) h
answer_one (Ok a) (Err r) h = absurd (number_not_0 r (sym (ap (λ (c : Counts). c.refusal) h)))
answer_one (Err r) (Ok a) h = absurd (number_not_0 r (ap (λ (c : Counts). c.refusal) h))
answer_one (Err r) (Err s) h = ap Err (number_one r s (ap (λ (c : Counts). c.refusal) h))

pub size_unique : OneAnswer size_kinds.ps size_kinds.r size.Learnt
size_unique κs a z z' w w' p q = (answer_one z z' (p ∙ sym q), refl)

pub read_unique : OneAnswer read_kinds.ps read_kinds.r read.Learnt
read_unique κs a z z' w w' p q =
    let slice = p.1 ∙ sym q.1 in
    (answer_one z z' (p.0 ∙ sym q.0), λ i. (tt, (tt, (tt, (tt, (slice i, tt))))))
