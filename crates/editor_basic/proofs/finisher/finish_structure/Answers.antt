-- `finish_structure` meets its contract.
use mathlib.Core.Path.{refl, ◌∙◌}
use native.Mathlib.Omega.{arith}
use Rattle.meaning.proofs.PaddingLaws.{aligns_positive}
use Rattle.editor_basic.proofs.FinishLaws.{row_sizes, own_room, behind_count_lem, structure_done}
use Rattle.editor_basic.proofs.finisher.finish_structure.Goals as goal

pub nonzero_div-before : goal.nonzero_div-before
nonzero_div-before c = aligns_positive c.requires.0.wide

pub nonzero_div-behind : goal.nonzero_div-behind
nonzero_div-behind c = aligns_positive c.requires.0.wide

pub rewrite_field_ends-requires : goal.rewrite_field_ends-requires
rewrite_field_ends-requires c =
    let a = c.args in
    let p = c.requires in
    (p.0, omega (arith, p.3), own_room _ a.rest a.old.now a.to _ _ (behind_count_lem _ a.rest a.old.now a.to p.0.wide p.2))

pub returns : goal.returns
returns c =
    let a = c.args in
    let p = c.requires in
    let m = c.move_fields-end.ensures in
    let s = row_sizes _ _ c.args.rest c.args.old.now _ _ _ _ c.width_for-size.result c.requires.0 c.width-width.ensures c.requires.3 c.move_fields-end.ensures.near in
    let e = c.rewrite_field_ends.ensures in
    let d = structure_done _ a.rest a.old.now a.to a.at _ _ _ _ _ _ _ _ _ (behind_count_lem _ a.rest a.old.now a.to p.0.wide p.2) m.end (c.width-width.ensures ∙ c.width_for-size.ensures)
    m.bytes c.put_low_first.ensures c.widen.ensures e.bytes e.place refl in
    record { bytes = d.0; length = d.1; near = omega (arith, s.ends_all, s.high) }
