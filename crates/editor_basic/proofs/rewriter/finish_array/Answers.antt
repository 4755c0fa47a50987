-- `finish_array` meets its contract.
use mathlib.Core.Path.{refl, sym, ◌∙◌}
use Prim.Native.Nat.{◌≤◌}
use native.Mathlib.Omega.{arith}
use lib.ListN.{length}
use Rattle.editor_basic.proofs.PutLaws.{over_beyond}
use Rattle.editor_basic.proofs.RewriteLaws.{finish_sizes, finish_done}
use Rattle.editor_basic.proofs.rewriter.finish_array.Goals as goal

pub overflow_add-length : goal.overflow_add-length
overflow_add-length c =
    let s = finish_sizes c.args.front c.args.rest c.args.old.now c.args.to _ _ c.width_for-size.result c.requires.0 c.requires.1 c.move_elements-end.ensures.end c.width-width.ensures in
    omega (arith, s.few_front, s.few_rest, s.slim, s.ends_front, s.ends_all, s.low, s.high, c.requires.2)

pub returns-then-out-at-clause-bytes : goal.returns-then-out-at-clause-bytes
returns-then-out-at-clause-bytes c =
    let m = c.move_elements-end in
    let beyond : length c.args.out.now ≤ c.args.at = omega (arith, m.auto.out, c.if-out-at.true) in
    m.ensures.bytes ∙ over_beyond _ _ _ beyond ∙ sym (over_beyond _ _ _ beyond)

pub returns-then-out-at-clause-near : goal.returns-then-out-at-clause-near
returns-then-out-at-clause-near c =
    let s = finish_sizes c.args.front c.args.rest c.args.old.now c.args.to _ _ c.width_for-size.result c.requires.0 c.requires.1 c.move_elements-end.ensures.end c.width-width.ensures in
    omega (arith, s.ends_all, s.high)

pub overflow_add-table : goal.overflow_add-table
overflow_add-table c =
    let s = finish_sizes c.args.front c.args.rest c.args.old.now c.args.to _ _ c.width_for-size.result c.requires.0 c.requires.1 c.move_elements-end.ensures.end c.width-width.ensures in
    omega (arith, s.few_front, s.few_rest, s.slim, s.ends_front, s.ends_all, s.low, s.high, c.requires.2)

pub rewrite_ends-requires : goal.rewrite_ends-requires
rewrite_ends-requires c =
    let s = finish_sizes c.args.front c.args.rest c.args.old.now c.args.to _ _ c.width_for-size.result c.requires.0 c.requires.1 c.move_elements-end.ensures.end c.width-width.ensures in
    (c.requires.0, omega (arith, s.few_front, s.few_rest, s.slim, s.ends_front, s.ends_all, s.low, s.high, c.requires.2), s.slim)

pub overflow_add-own : goal.overflow_add-own
overflow_add-own c =
    let s = finish_sizes c.args.front c.args.rest c.args.old.now c.args.to _ _ c.width_for-size.result c.requires.0 c.requires.1 c.move_elements-end.ensures.end c.width-width.ensures in
    omega (arith, s.few_front, s.few_rest, s.slim, s.ends_front, s.ends_all, s.low, s.high, c.requires.2)

pub overflow_add-own-2 : goal.overflow_add-own-2
overflow_add-own-2 c =
    let s = finish_sizes c.args.front c.args.rest c.args.old.now c.args.to _ _ c.width_for-size.result c.requires.0 c.requires.1 c.move_elements-end.ensures.end c.width-width.ensures in
    omega (arith, s.few_front, s.few_rest, s.slim, s.ends_front, s.ends_all, s.low, s.high, c.requires.2)

pub rewrite_ends-requires-2 : goal.rewrite_ends-requires-2
rewrite_ends-requires-2 c =
    let s = finish_sizes c.args.front c.args.rest c.args.old.now c.args.to _ _ c.width_for-size.result c.requires.0 c.requires.1 c.move_elements-end.ensures.end c.width-width.ensures in
    (c.requires.1, omega (arith, s.few_front, s.few_rest, s.slim, s.ends_front, s.ends_all, s.low, s.high, c.requires.2), s.slim)

pub returns : goal.returns
returns c =
    let a = c.args in
    let m = c.move_elements-end.ensures in
    let s = finish_sizes a.front a.rest a.old.now a.to _ _ c.width_for-size.result c.requires.0 c.requires.1 m.end c.width-width.ensures in
    let d = finish_done a.front a.rest a.old.now a.to a.at _ _ _ _ _ _ _ _ _ _ m.end (c.width-width.ensures ∙ c.width_for-size.ensures) m.bytes
    c.rewrite_ends.ensures c.put_low_first.ensures c.rewrite_ends-2.ensures refl refl refl in
    record { bytes = d.0; length = d.1; near = omega (arith, s.ends_all, s.high) }
