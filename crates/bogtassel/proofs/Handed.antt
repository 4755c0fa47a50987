-- A length and its refusal, as C is handed them, are the answer. Assumes nothing.
use Rattle.std.proofs.Common.{◌≡◌, ℕ, refl}
use Rattle.std.specs.Prelude.{Result, Ok, Err}
use Rattle.std.specs.Result.{result_unwrap_or}
use Rattle.meaning.specs.declared.refusals.Refusal.{Refusal}
use Rattle.meaning.specs.Refused.{refusal_in}
use Rattle.meaning_writing.specs.Writing.{write_answer}
use Rattle.meaning_writing.specs.Editing.{edit_answer}
use Rattle.writer.specs.Answers.{answer_of}
use Rattle.editor_change.specs.Answers.{answer_of as edit_of}

pub handed_written : (x : Result ℕ Refusal) → write_answer (refusal_in x) (result_unwrap_or x 0) ≡ answer_of x
handed_written (Ok n) = refl
handed_written (Err r) = refl

pub handed_edited : (x : Result ℕ Refusal) → edit_answer (refusal_in x) (result_unwrap_or x 0) ≡ edit_of x
handed_edited (Ok n) = refl
handed_edited (Err r) = refl
