-- `offset_at` reads the offset at a place, as the one of a table. Assumes nothing.
use mathlib.Core.Path.{ap, ◌∙◌}
use Prim.Native.Nat.{ℕ, ◌+◌}
use Rattle.framing_offset_size.proofs.WidthLaws.{width_positive}
use Rattle.utils.proofs.Answered.{checked_value}
use Rattle.strict_ends.proofs.EndLaws.{offset_is}
use Rattle.strict_ends.proofs.offset_at.Goals as goal

pub returns : goal.returns
returns c =
    let wide = c.width.ensures ∙ c.size_of-size.ensures in
    c.unwrap_or.ensures ∙ checked_value c.next_in.result ∙ offset_is _ _ _ _ _ c.requires.0 (width_positive c.size_of-size.result) c.size_of-size.ensures (ap (λ (n : ℕ). c.args.place + n) wide) c.next_in.ensures
