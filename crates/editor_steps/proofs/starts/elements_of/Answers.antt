-- `elements_of` meets its contract. Assumes nothing.
use mathlib.Core.Path.{◌∙◌}
use native.Mathlib.Omega.{arith}
use Rattle.utils.specs.Checks.{checked}
use Rattle.utils.proofs.Answered.{checked_value}
use Rattle.strict_ends.proofs.EndLaws.{last_offset_is}
use Rattle.editor_steps.proofs.StartLaws.{all_of}
use Rattle.editor_steps.proofs.starts.elements_of.Goals as goal

pub overflow_sub-len : goal.overflow_sub-len
overflow_sub-len c =
    let from = c.unwrap_or-from.ensures ∙ checked_value c.last_in.result ∙ last_offset_is c.args.part.now _ (checked c.last_in.result) c.for_encoded_container-size.ensures c.last_in.ensures in
    omega (arith, from, c.requires)

pub returns : goal.returns
returns c =
    let from = c.unwrap_or-from.ensures ∙ checked_value c.last_in.result ∙ last_offset_is c.args.part.now _ (checked c.last_in.result) c.for_encoded_container-size.ensures c.last_in.ensures in
    all_of _ c.args.part.now _ _ _ _ c.elements_as.ensures c.for_encoded_container-size.ensures from c.count_in-count.ensures
