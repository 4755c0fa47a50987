-- `rewrite_field_ends` meets its contract.
use Rattle.editor_basic.proofs.BackLaws.{ends_begin, ends_last, ends_room, ends_next}
use Rattle.editor_basic.proofs.rewriter.rewrite_field_ends.Goals as goal

pub loop-rest-init : goal.loop-rest-init
loop-rest-init c = ends_begin _ _ _ _ _ _ _ _ c.requires.0

pub returns-then-last : goal.returns-then-last
returns-then-last c =
    let whole = (ends_last c.loop-rest.invariant c.first_field-field.ensures c.if-last.true) in
    record { bytes = whole.0; place = whole.1 }

pub put_end-first-requires : goal.put_end-first-requires
put_end-first-requires c =
    let h = ends_room c.loop-rest.invariant c.first_field-field.ensures _ c.due.ensures.0 c.if-last.false in
    h c.requires.2

pub loop-rest-preserved : goal.loop-rest-preserved
loop-rest-preserved c =
    let e = c.put_end-first.ensures in
    ends_next c.loop-rest.invariant c.first_field-field.ensures _ c.due.ensures.0 c.if-last.false _ _ _ c.behind_field-rest.ensures e.bytes e.place
