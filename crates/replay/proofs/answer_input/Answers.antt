-- The length of the longest line, without counting it out.
use Rattle.std.proofs.Common.{ℕ, sym}
use Rattle.std.proofs.lemmas.List.{length-replicate}
use Rattle.replay.proofs.answer_input.Goals as goal

pub slice_bounds-answer_all-end : goal.slice_bounds-answer_all-end
slice_bounds-answer_all-end g c = sym (length-replicate {A = ℕ} 2097152 0)
