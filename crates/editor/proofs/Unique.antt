-- Each public contract leaves one answer. Assumes nothing.
use mathlib.Core.Path.{◌≡◌, refl, ap, sym, ◌∙◌}
use Rattle.meaning.specs.OneAnswer.{OneAnswer}
use Rattle.meaning_writing.specs.Editing.{EditAnswer}
use Rattle.std.specs.Prelude.{ℕ, Result, Ok, Err}
use Rattle.meaning.specs.declared.refusals.Refusal.{Refusal}
use Rattle.meaning.proofs.RefusalLaws.{number_not_0, number_one}
use Rattle.editor_change.specs.Answers.{answer_of}
use Rattle.editor.proofs.edit.Kinds as edit_kinds
use Rattle.editor.proofs.edit.Reads as edit
use Rattle.editor.proofs.new_of.Kinds as new_kinds
use Rattle.editor.proofs.new_of.Reads as new

-- an answer is told by its numbers
answered_one : (z z' : Result ℕ Refusal) → answer_of z ≡ answer_of z' → z ≡ z'
answered_one (Ok n) (Ok m) h = ap Ok (ap (λ (a : EditAnswer). a.used) h)
answered_one (Ok n) (Err r) h = absurd (number_not_0 r (sym (ap (λ (a : EditAnswer). a.refusal) h)))
answered_one (Err r) (Ok m) h = absurd (number_not_0 r (ap (λ (a : EditAnswer). a.refusal) h))
answered_one (Err r) (Err s) h = ap Err (number_one r s (ap (λ (a : EditAnswer). a.refusal) h))

-- signature, big, buffer, used, number, new
pub edit_unique : OneAnswer edit_kinds.ps edit_kinds.r edit.Learnt
edit_unique κs a z z' w w' p q =
    let memory = p.1 ∙ sym q.1 in
    (answered_one z z' (p.0 ∙ sym q.0), λ i. (tt, (tt, (memory i, (tt, (tt, (tt, tt)))))))

-- present, bits
pub new_unique : OneAnswer new_kinds.ps new_kinds.r new.Learnt
new_unique κs a z z' w w' p q = (p ∙ sym q, refl)
