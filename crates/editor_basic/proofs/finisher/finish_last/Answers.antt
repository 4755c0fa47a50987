-- `finish_last` meets its contract.
use mathlib.Core.Path.{◌∙◌}
use native.Mathlib.Omega.{arith}
use Rattle.meaning.proofs.PaddingLaws.{aligns_positive}
use Rattle.editor_basic.proofs.FinishLaws.{filling, table_most, last_done}
use Rattle.editor_basic.proofs.finisher.finish_last.Goals as goal

pub nonzero_div-count : goal.nonzero_div-count
nonzero_div-count c = aligns_positive c.requires.2

pub returns : goal.returns
returns c =
    let a = c.args in
    let p = c.requires in
    let f = filling a.old.now a.end a.narrow p.0 p.1 in
    let d = last_done a.end a.narrow a.old.now a.to _ _ _ _ (c.width-width.ensures ∙ c.width_for-size.ensures) c.widen.ensures in
    record { bytes = d.0; length = d.1; near = omega (arith, (table_most _ _ c.width_for-size.result c.width-width.ensures f.few).1) }
