-- `de::zeros` says whether so many bytes at a place are 0. Assumes nothing.
use Rattle.meaning.proofs.TextSteps.{run_next, run_stop, run_end}
use Rattle.std.proofs.Common.{◌<◌, ◌≤◌}
use Rattle.utils.proofs.Places.{part_length, part_item}
use native.Mathlib.Nat.{add-zero, sub-zero}
use mathlib.Core.Path.{sym, ◌∙◌}
use Rattle.de.proofs.zeros.Goals as goal

pub loop-byte-init : goal.loop-byte-init
loop-byte-init c = simp (add-zero, sub-zero)

pub returns-then-byte-ne0 : goal.returns-then-byte-ne0
returns-then-byte-ne0 c =
    let a = c.args in
    let i = c.loop-byte.byte-index in
    let before : i < a.count = rw (part_length a.part.now a.place a.count c.requires) at c.loop-byte-test.true in
    sym (c.loop-byte.invariant ∙ run_stop a.part.now a.place a.count i before c.requires (λ z. c.if-byte-ne0.true (part_item a.part.now a.place a.count before ∙ z)))

pub loop-byte-preserved : goal.loop-byte-preserved
loop-byte-preserved c =
    let a = c.args in
    let i = c.loop-byte.byte-index in
    let before : i < a.count = rw (part_length a.part.now a.place a.count c.requires) at c.loop-byte-test.true in
    c.loop-byte.invariant ∙ run_next a.part.now a.place a.count i before c.requires (sym (part_item a.part.now a.place a.count before) ∙ c.if-byte-ne0.false)

pub returns : goal.returns
returns c =
    let past : c.args.count ≤ c.loop-byte.byte-index = rw (part_length c.args.part.now c.args.place c.args.count c.requires) at c.loop-byte-test.false in
    sym (c.loop-byte.invariant ∙ run_end _ _ _ past)
