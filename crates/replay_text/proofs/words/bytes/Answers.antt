-- The bytes that a word spells are in the frame.
use Rattle.std.proofs.Common.{sym, length-take-le}
use Rattle.numerals.proofs.ByteLaws.{spells_fits}
use Rattle.replay_text.proofs.words.bytes.Goals as goal

pub slice_bounds-result-end-in_default : goal.slice_bounds-result-end-in_default
slice_bounds-result-end-in_default c = sym (length-take-le _ _ (spells_fits c.in_ok-count-in_default.ensures))
