-- The public contract leaves one answer. Assumes nothing.
use mathlib.Core.Path.{◌≡◌, ap, sym, ◌∙◌}
use Rattle.std.specs.Prelude.{ℕ, Result, Ok, Err}
use Rattle.meaning.specs.OneAnswer.{OneAnswer}
use Rattle.meaning.specs.declared.refusals.Refusal.{Refusal}
use Rattle.meaning.proofs.RefusalLaws.{number_not_0, number_one}
use Rattle.meaning_writing.specs.Writing.{WriteAnswer}
use Rattle.writer.specs.Answers.{answer_of}
use Rattle.writer.proofs.write.Kinds as write_kinds
use Rattle.writer.proofs.write.Reads as write

-- the answer is its numbers
same_answer : (a b : Result ℕ Refusal) → answer_of a ≡ answer_of b → a ≡ b
same_answer (Ok m) (Ok n) h = ap Ok (ap (λ (w : WriteAnswer). w.used) h)
same_answer (Ok m) (Err s) h = absurd (number_not_0 s (sym (ap (λ (w : WriteAnswer). w.refusal) h)))
same_answer (Err r) (Ok n) h = absurd (number_not_0 r (ap (λ (w : WriteAnswer). w.refusal) h))
same_answer (Err r) (Err s) h = ap Err (number_one r s (ap (λ (w : WriteAnswer). w.refusal) h))

pub write_unique : OneAnswer write_kinds.ps write_kinds.r write.Learnt
write_unique κs a z z' w w' p q =
    let slice = p.1 ∙ sym q.1 in
    (same_answer z z' (p.0 ∙ sym q.0), λ i. (tt, (tt, (tt, (tt, (slice i, tt))))))
