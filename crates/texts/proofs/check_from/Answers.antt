-- `check_from` meets its contract. Assumes nothing.
use mathlib.Core.Path.{sym, ◌∙◌}
use Rattle.meaning.proofs.TextSteps.{nul_stop, text_nul, text_whole, text_broken}
use Rattle.texts.specs.Letters.{wanted_of}
use Rattle.texts.proofs.Runs.{judged_begin, judged_next, judged_plain}
use Rattle.texts.proofs.check_from.Goals as goal

pub loop-i-init : goal.loop-i-init
loop-i-init c = judged_begin _ _ _ c.new-wanted.ensures c.requires

pub returns-then-byte-eq0 : goal.returns-then-byte-eq0
returns-then-byte-eq0 c = sym (text_nul c.args.text.now (c.loop-i.invariant.nul ∙ nul_stop c.args.text.now _ c.loop-i-test.true c.if-byte-eq0.true))

pub loop-i-preserved-then-wanted-eq0 : goal.loop-i-preserved-then-wanted-eq0
loop-i-preserved-then-wanted-eq0 c =
    judged_plain _ _ _ _ c.if-wanted-eq0.true (judged_next c.args.text.now (wanted_of
    c.loop-i.wanted) c.loop-i.i
    c.loop-i.invariant c.loop-i-test.true c.if-byte-eq0.false
    c.after_byte-wanted.ensures) c.letters_end-i.ensures

pub loop-i-preserved : goal.loop-i-preserved
loop-i-preserved c =
    judged_next c.args.text.now (wanted_of c.loop-i.wanted)
    c.loop-i.i c.loop-i.invariant c.loop-i-test.true
    c.if-byte-eq0.false c.after_byte-wanted.ensures

pub returns-then-wanted-eq0-2 : goal.returns-then-wanted-eq0-2
returns-then-wanted-eq0-2 c = sym (text_whole c.args.text.now _ _ c.loop-i-test.false c.loop-i.invariant.nul c.loop-i.invariant.letters c.if-wanted-eq0-2.true)

pub returns-else-wanted-eq0-2 : goal.returns-else-wanted-eq0-2
returns-else-wanted-eq0-2 c = sym (text_broken c.args.text.now _ _ c.loop-i-test.false c.loop-i.invariant.nul c.loop-i.invariant.letters c.if-wanted-eq0-2.false)
