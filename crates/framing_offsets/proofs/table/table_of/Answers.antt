-- That `table_of` cuts a table's bytes out of its container. Assumes nothing.
use Rattle.std.proofs.Common.{refl}
use Rattle.std.specs.Prelude.{Ok, Err}
use Rattle.meaning.proofs.RefusalLaws.{number_not_0}
use Rattle.framing_offsets.specs.Tables.{encoded_in}
use Rattle.framing_offsets.proofs.HeldLaws.{start_inside, bytes_there, bytes_refused}
use Rattle.framing_offsets.proofs.table.table_of.Goals as goal

pub slice_bounds-result-count : goal.slice_bounds-result-count
slice_bounds-result-count c = start_inside c.args.container.now (encoded_in (Ok c.in-Ok.offsets)) c.in-Ok.ensures refl

pub slice_bounds-result-start : goal.slice_bounds-result-start
slice_bounds-result-start c = start_inside c.args.container.now (encoded_in (Ok c.in-Ok.offsets)) c.in-Ok.ensures refl

pub returns-in-Ok : goal.returns-in-Ok
returns-in-Ok c = bytes_there c.args.container.now (encoded_in (Ok c.in-Ok.offsets)) c.in-Ok.ensures refl

pub returns-in-Err : goal.returns-in-Err
returns-in-Err c = bytes_refused c.args.container.now (encoded_in (Err c.in-Err.field-0)) c.in-Err.ensures (number_not_0 c.in-Err.field-0)
