-- `utils::padding_for_n_bytes` gives what `padding_for` says, for every value and every alignment. Assumes nothing.
use Rattle.std.proofs.Common.{sym, ◌∙◌}
use Rattle.utils.proofs.Masks.{is_alignment_aligns, rounded_up, padding_for_is, padding_for_not}
use Rattle.utils.proofs.padding_for_n_bytes.Goals as goal

pub returns-then-not-is_alignment : goal.returns-then-not-is_alignment
returns-then-not-is_alignment c = padding_for_not _ _ (sym c.is_alignment.ensures ∙ c.if-not-is_alignment.true)

pub returns : goal.returns
returns c =
    let aligned = is_alignment_aligns _ (sym c.is_alignment.ensures ∙ c.if-not-is_alignment.false) in
    padding_for_is aligned _ (rounded_up aligned _ c.ranges.value.fits c.ranges.align.fits)
