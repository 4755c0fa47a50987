-- `writer_basic::texts_run::texts` meets its contract. Assumes nothing.
use native.Mathlib.Omega.{arith}
use mathlib.Core.Path.{refl}
use mathlib.Core.List.{[]}
use mathlib.Core.Bool.{false}
use Rattle.meaning.specs.Depths.{none_open}
use Rattle.meaning.proofs.RefusalLaws.{number_not_0}
use Rattle.meaning_writing.proofs.EmitLaws.{basic_shorter}
use Rattle.writer_basic.proofs.Answers.{bounds, done_near}
use Rattle.writer_basic.proofs.Rows.{stopped_on, left_short, left_shut, left_stop, left_next}
use Rattle.writer_basic.proofs.NumberRows.{basic_alignment_lem, text_alignment, text_done, unpadded}
use Rattle.writer_basic.proofs.texts_run.texts.Goals as goal

pub overflow_sub-events : goal.overflow_sub-events
overflow_sub-events c = omega (arith, (c.loop-row.invariant false none_open).within)

pub returns-then-events-row-eq-CONTAINER_END : goal.returns-then-events-row-eq-CONTAINER_END
returns-then-events-row-eq-CONTAINER_END c = λ big d. left_shut _ _ _ _ _ _ _ _ _ _ _ _ _ (c.loop-row.invariant big d) (omega (arith, (c.loop-row.invariant false none_open).within, c.loop-row-test.true)) c.if-events-row-eq-CONTAINER_END.true

pub overflow_add-spot : goal.overflow_add-spot
overflow_add-spot c = omega (arith, c.requires.1.near, (c.loop-row.invariant false none_open).small)

pub text_value-requires : goal.text_value-requires
text_value-requires c = ((c.loop-row.invariant false none_open).within, omega (arith, c.requires.1.near, (c.loop-row.invariant false none_open).small))

pub returns-in_err-one : goal.returns-in_err-one
returns-in_err-one c =
    λ big d. stopped_on _ _ c.from_residual.ensures
    (left_stop _ _ _ _ _ _ _ _ _ _ _ _ _ (c.loop-row.invariant big d) (omega (arith, (c.loop-row.invariant false none_open).within, c.loop-row-test.true)) c.if-events-row-eq-CONTAINER_END.false _ 0 _ _ _ _
    (text_done _ c.requires.0 _ _ _ _ _ _ _ c.in_err-one.ensures big d 0 _) (number_not_0 _))

pub add-requires : goal.add-requires
add-requires c =
    (omega (arith, (c.loop-row.invariant false none_open).small), let q = bounds refl (text_done _ c.requires.0 _ _ _ _ _ _ _ c.in_ok-one.ensures false none_open 0 []) in omega (arith, q.small))

pub keep-requires : goal.keep-requires
keep-requires c =
    omega (arith, (c.loop-row.invariant false none_open).few, c.requires.1.few)

pub loop-row-smaller : goal.loop-row-smaller
loop-row-smaller c =
    let q = bounds refl (text_done _ c.requires.0 _ _ _ _ _ _ _ c.in_ok-one.ensures false none_open 0 []) in omega (arith, q.forward, q.within)

pub loop-row-preserved : goal.loop-row-preserved
loop-row-preserved c =
    λ big d. left_next _ _ _ _ _ _ _ _ _ _ _ _ _ (c.loop-row.invariant big d) (omega (arith, (c.loop-row.invariant false none_open).within, c.loop-row-test.true)) c.if-events-row-eq-CONTAINER_END.false _ _ _ _ _
    (done_near c.args.spot.start c.loop-row.row.size (text_done _ c.requires.0 _ _ _ _ _ _ _ c.in_ok-one.ensures big d _ _)) 1 _ _ _ _ (basic_shorter _ _ _ _) (basic_alignment_lem _ _ _ _ _ _ (text_alignment _ c.requires.0)) (unpadded _) refl
    refl refl c.add.ensures c.keep.ensures (omega (arith, (c.loop-row.invariant false none_open).same, c.text_value.auto.out))
    (omega (arith, (c.loop-row.invariant false none_open).same, c.text_value.auto.out, c.keep.auto.out)) (omega (arith, (c.loop-row.invariant false none_open).sames))
    (omega (arith, (c.loop-row.invariant false none_open).sames, c.keep.auto.ends))

pub returns : goal.returns
returns c = λ big d. left_short _ _ _ _ _ _ _ _ _ _ _ _ _ (c.loop-row.invariant big d) (omega (arith, (c.loop-row.invariant false none_open).within, c.loop-row-test.false))
