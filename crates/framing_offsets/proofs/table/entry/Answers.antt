-- `entry` gives what a table's own bytes say of a number, by a width. Assumes nothing.
use Rattle.std.proofs.Common.{refl, ◌∙◌, arith}
use Rattle.byte_order.proofs.Standings.{number_known}
use Rattle.framing_offsets.proofs.HeldLaws.{count_held, held_behind, held_inside, held_alone}
use Rattle.framing_offsets.proofs.table.entry.Goals as goal

pub returns-then-table-i : goal.returns-then-table-i
returns-then-table-i g c = held_behind g.row.WIDTH c.args.i c.args.table.now (count_held g.row.WIDTH c.args.table.now refl) c.if-table-i.true

pub overflow_mul-place : goal.overflow_mul-place
overflow_mul-place g c =
    let inside = held_inside g.row.WIDTH c.args.i c.args.table.now (count_held g.row.WIDTH c.args.table.now refl) c.requires.0 c.if-table-i.false in
    omega arith

pub overflow_add-place : goal.overflow_add-place
overflow_add-place g c =
    let inside = held_inside g.row.WIDTH c.args.i c.args.table.now (count_held g.row.WIDTH c.args.table.now refl) c.requires.0 c.if-table-i.false in
    omega arith

pub returns : goal.returns
returns g c =
    c.number.ensures ∙ number_known g.row.WIDTH _ _ _ c.requires.1 ∙ held_alone g.row.WIDTH c.args.i c.args.table.now (count_held g.row.WIDTH c.args.table.now refl) c.requires.0 c.if-table-i.false
