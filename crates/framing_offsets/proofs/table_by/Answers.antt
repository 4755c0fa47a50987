-- `table_by` finds the table of an array, or refuses it, as `Encoded` says. Assumes nothing.
use Rattle.std.proofs.Common.{◌≡◌, ◌∙◌}
use Rattle.utils.specs.Checks.{checked}
use Rattle.utils.proofs.Answered.{checked_value}
use Rattle.framing_offsets.proofs.TableLaws.{encoded_by, refused_by}
use Rattle.framing_offsets.proofs.table_by.Goals as goal

pub returns-then-not-stands : goal.returns-then-not-stands
returns-then-not-stands c =
    let a = c.args in
    let last = checked c.read_last_offset_from_buffer.result in
    let start : c.unwrap_or-start.result ≡ last.value = c.unwrap_or-start.ensures ∙ checked_value c.read_last_offset_from_buffer.result in
    refused_by a.container.now a.size c.requires c.read_last_offset_from_buffer.ensures (rw start at c.stands.ensures) c.if-not-stands.true

pub returns : goal.returns
returns c =
    let a = c.args in
    let last = checked c.read_last_offset_from_buffer.result in
    let start : c.unwrap_or-start.result ≡ last.value = c.unwrap_or-start.ensures ∙ checked_value c.read_last_offset_from_buffer.result in
    rw start
    (encoded_by a.container.now a.size c.requires c.read_last_offset_from_buffer.ensures (rw start at c.stands.ensures) c.if-not-stands.false (rw start at c.count-count.ensures))
