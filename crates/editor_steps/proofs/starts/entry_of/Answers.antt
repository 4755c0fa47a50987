-- `entry_of` meets its contract. Assumes nothing.
use Rattle.editor_steps.proofs.StartLaws.{entry_room, entry_asks, entry_stop, entry_is}
use Rattle.editor_steps.proofs.starts.entry_of.Goals as goal

pub table_of-table-requires : goal.table_of-table-requires
table_of-table-requires c =
    entry_room c.args.key c.args.part.now c.requires.0 c.requires.1 _ c.extent_of-lies.ensures _ c.one_more.ensures

pub field_end-stop-requires : goal.field_end-stop-requires
field_end-stop-requires c =
    entry_asks c.args.key c.args.part.now c.requires.0 c.requires.1 _ c.extent_of-lies.ensures _ c.one_more.ensures _ c.table_of-table.ensures

pub aligned-start-requires : goal.aligned-start-requires
aligned-start-requires c =
    (entry_stop c.args.key c.args.part.now c.requires.0 c.requires.1 _ c.extent_of-lies.ensures _ c.one_more.ensures _ c.table_of-table.ensures _ c.field_end-stop.ensures, c.requires.2)

pub returns : goal.returns
returns c =
    entry_is c.args.key c.args.part.now c.requires.0 c.requires.1 _ c.extent_of-lies.ensures _ c.one_more.ensures _ c.table_of-table.ensures _ c.field_end-stop.ensures _ _ c.aligned-start.ensures
