-- The needs of `array::elements`, and what answers each.
use Rattle.meaning.proofs.RefusalLaws.{number_not_0}
use Rattle.reader_basic.proofs.Answers.{handed_on}
use Rattle.meaning.specs.Calls.{Counts}
use Prim.Native.Nat.{◌+◌}
use Rattle.container_depths.specs.Opening.{depths_of}
use Rattle.reader_basic.proofs.Loops.{elements_begin, elements_end, elements_next, elements_stop, kept}
use Rattle.reader_basic.specs.Answers.{Between, counts_of}
use Rattle.reader_steps.proofs.Arrays.{item_least}
use Rattle.reader_steps.proofs.Deepening.{arrived, told}
use Rattle.reader_steps.proofs.ItemLaws.{plain_numbers}
use Rattle.reader_steps.proofs.Repeats.{item_number, item_within, repeated_as, step_element, step_entry}
use Rattle.reader_steps.proofs.Rides.{inside_as, numbers_as}
use Rattle.reader_steps.specs.Places.{item_of, step_in}
use Rattle.reader_steps.specs.Rides.{context_of}
use lib.ListN.{length}
use mathlib.Core.Path.{◌∙◌, refl, ap, sym}
use native.Mathlib.Omega.{arith}
use Rattle.reader_cycle.proofs.+reading.Goals as goal
use Rattle.reader_cycle.proofs.+reading.Goals.{array::elements-then-is_entry, array::elements-else-is_entry}

pub bounds-text-child : goal.array::elements-bounds-text-child
bounds-text-child t c =
    omega (arith, item_within c.args.text.now c.args.shapes.now c.args.at _ c.requires.0)

pub numbers-requires : goal.array::elements-numbers-requires
numbers-requires t c = (
  inside_as c.context_of.ensures c.requires.2,
  c.requires.3,
  (c.requires.0.number _ _ (item_number c.args.text.now c.args.shapes.now c.args.at (item_within
      c.args.text.now c.args.shapes.now c.args.at _ c.requires.0) _ c.in-Some.ensures.0 c.in-Some.ensures.1)).aligned,
)

pub returns-in-Some : goal.array::elements-returns-in-Some
returns-in-Some t c =
    plain_numbers _ _ _ _ (c.requires.0.number _ _ (item_number c.args.text.now c.args.shapes.now c.args.at (item_within c.args.text.now c.args.shapes.now
    c.args.at _ c.requires.0) _ c.in-Some.ensures.0 c.in-Some.ensures.1))
    (context_of c.args.ride).position (context_of c.args.ride).big
    (context_of c.args.ride).depths.variant (depths_of (context_of c.args.ride).depths) c.args.place c.args.part.now
    (length c.args.part.now) c.args.lead _ _ _ _ _ _ c.requires.1 (numbers_as c.context_of.ensures _ _ c.args.place c.args.part.now c.args.lead c.numbers.ensures)

pub loop-read-init : goal.array::elements-loop-read-init
loop-read-init t c =
    elements_begin _ _ _ _ _ c.requires.3

pub entry-r-requires : goal.array::elements-entry-r-requires
entry-r-requires t c =
    (omega (arith, c.decreases), (repeated_as c.args.text.now c.args.shapes.now c.args.at c.if-is_entry.true-raw c.requires.0, c.requires.2, c.loop-read.invariant.bound, omega arith, omega arith, λ z. refl))

pub value-r-requires : goal.array::elements-value-r-requires
value-r-requires t c =
    (omega (arith, c.decreases), ((repeated_as c.args.text.now c.args.shapes.now c.args.at c.if-is_entry.false-raw c.requires.0).child, c.requires.2, c.loop-read.invariant.bound))

pub behind-requires : goal.array::elements-behind-requires
behind-requires t c =
    let turned : Between (step_in (context_of c.args.ride) c.args.text.now (item_of c.args.text.now c.args.shapes.now c.args.at) c.args.place c.args.part.now (length c.args.part.now) (c.args.lead + c.loop-read.read.used) (length c.args.part.now))
    c.args.part.now (c.args.lead + c.loop-read.read.used) (length c.args.part.now) c.loop-read.read.count c.loop-read.out c.if-is_entry.out (counts_of c.if-is_entry.r) =
    elim c.if-is_entry.branch [
      | array::elements-then-is_entry w ↦ arrived w.out-is (ap counts_of w.r-is) (step_entry (context_of c.args.ride) c.args.text.now c.args.shapes.now c.args.at _ c.args.place
          c.args.part.now (length c.args.part.now) (c.args.lead + c.loop-read.read.used) (length c.args.part.now) _ _ _ _ w.if-is_entry.true-raw w.entry-r.ensures)
      | array::elements-else-is_entry w ↦ arrived w.out-is (ap counts_of w.r-is) (step_element (context_of c.args.ride) c.args.text.now c.args.shapes.now c.args.at _ c.args.place
          c.args.part.now (length c.args.part.now) (c.args.lead + c.loop-read.read.used) (length c.args.part.now) _ _ _ _ w.if-is_entry.false-raw w.value-r.ensures)
    ] in
    omega (arith, turned.fits, c.loop-read.invariant.bound, c.requires.2.in_frame)

pub shape_of-out-in_err-read : goal.array::elements-shape_of-out-in_err-read
shape_of-out-in_err-read t c =
    let turned : Between (step_in (context_of c.args.ride) c.args.text.now (item_of c.args.text.now c.args.shapes.now c.args.at) c.args.place c.args.part.now (length c.args.part.now) (c.args.lead + c.loop-read.read.used) (length c.args.part.now))
    c.args.part.now (c.args.lead + c.loop-read.read.used) (length c.args.part.now) c.loop-read.read.count c.loop-read.out c.if-is_entry.out (counts_of c.if-is_entry.r) =
    elim c.if-is_entry.branch [
      | array::elements-then-is_entry w ↦ arrived w.out-is (ap counts_of w.r-is) (step_entry (context_of c.args.ride) c.args.text.now c.args.shapes.now c.args.at _ c.args.place
          c.args.part.now (length c.args.part.now) (c.args.lead + c.loop-read.read.used) (length c.args.part.now) _ _ _ _ w.if-is_entry.true-raw w.entry-r.ensures)
      | array::elements-else-is_entry w ↦ arrived w.out-is (ap counts_of w.r-is) (step_element (context_of c.args.ride) c.args.text.now c.args.shapes.now c.args.at _ c.args.place
          c.args.part.now (length c.args.part.now) (c.args.lead + c.loop-read.read.used) (length c.args.part.now) _ _ _ _ w.if-is_entry.false-raw w.value-r.ensures)
    ] in
    kept turned ∙ c.loop-read.invariant.same

pub returns-in_err-read : goal.array::elements-returns-in_err-read
returns-in_err-read t c =
    let turned : Between (step_in (context_of c.args.ride) c.args.text.now (item_of c.args.text.now c.args.shapes.now c.args.at) c.args.place c.args.part.now (length c.args.part.now) (c.args.lead + c.loop-read.read.used) (length c.args.part.now))
    c.args.part.now (c.args.lead + c.loop-read.read.used) (length c.args.part.now) c.loop-read.read.count c.loop-read.out c.if-is_entry.out (counts_of c.if-is_entry.r) =
    elim c.if-is_entry.branch [
      | array::elements-then-is_entry w ↦ arrived w.out-is (ap counts_of w.r-is) (step_entry (context_of c.args.ride) c.args.text.now c.args.shapes.now c.args.at _ c.args.place
          c.args.part.now (length c.args.part.now) (c.args.lead + c.loop-read.read.used) (length c.args.part.now) _ _ _ _ w.if-is_entry.true-raw w.entry-r.ensures)
      | array::elements-else-is_entry w ↦ arrived w.out-is (ap counts_of w.r-is) (step_element (context_of c.args.ride) c.args.text.now c.args.shapes.now c.args.at _ c.args.place
          c.args.part.now (length c.args.part.now) (c.args.lead + c.loop-read.read.used) (length c.args.part.now) _ _ _ _ w.if-is_entry.false-raw w.value-r.ensures)
    ] in
    let e = c.in_err-read.ensures in
    handed_on _ _ c.from_residual.ensures (told e (elements_stop _ _ _ _ _ _ _ _ c.loop-read.invariant c.loop-read-test.true _ _ turned (λ z. number_not_0 _ (ap (λ (x : Counts). x.refusal) e ∙ z))))

pub loop-read-smaller : goal.array::elements-loop-read-smaller
loop-read-smaller t c =
    let turned : Between (step_in (context_of c.args.ride) c.args.text.now (item_of c.args.text.now c.args.shapes.now c.args.at) c.args.place c.args.part.now (length c.args.part.now) (c.args.lead + c.loop-read.read.used) (length c.args.part.now))
    c.args.part.now (c.args.lead + c.loop-read.read.used) (length c.args.part.now) c.loop-read.read.count c.loop-read.out c.if-is_entry.out (counts_of c.if-is_entry.r) =
    elim c.if-is_entry.branch [
      | array::elements-then-is_entry w ↦ arrived w.out-is (ap counts_of w.r-is) (step_entry (context_of c.args.ride) c.args.text.now c.args.shapes.now c.args.at _ c.args.place
          c.args.part.now (length c.args.part.now) (c.args.lead + c.loop-read.read.used) (length c.args.part.now) _ _ _ _ w.if-is_entry.true-raw w.entry-r.ensures)
      | array::elements-else-is_entry w ↦ arrived w.out-is (ap counts_of w.r-is) (step_element (context_of c.args.ride) c.args.text.now c.args.shapes.now c.args.at _ c.args.place
          c.args.part.now (length c.args.part.now) (c.args.lead + c.loop-read.read.used) (length c.args.part.now) _ _ _ _ w.if-is_entry.false-raw w.value-r.ensures)
    ] in
    let e = c.in_ok-read.ensures in
    omega (arith, ap (λ (x : Counts). x.used) e, (item_least _ _ _ c.requires.0 c.requires.1 _ _ _ _ _ _ _ _ _ _ _ _ _ _ c.loop-read.invariant.bound turned (sym (ap (λ (x : Counts). x.refusal) e))), turned.fits, c.loop-read-test.true)

pub loop-read-preserved : goal.array::elements-loop-read-preserved
loop-read-preserved t c =
    let turned : Between (step_in (context_of c.args.ride) c.args.text.now (item_of c.args.text.now c.args.shapes.now c.args.at) c.args.place c.args.part.now (length c.args.part.now) (c.args.lead + c.loop-read.read.used) (length c.args.part.now))
    c.args.part.now (c.args.lead + c.loop-read.read.used) (length c.args.part.now) c.loop-read.read.count c.loop-read.out c.if-is_entry.out (counts_of c.if-is_entry.r) =
    elim c.if-is_entry.branch [
      | array::elements-then-is_entry w ↦ arrived w.out-is (ap counts_of w.r-is) (step_entry (context_of c.args.ride) c.args.text.now c.args.shapes.now c.args.at _ c.args.place
          c.args.part.now (length c.args.part.now) (c.args.lead + c.loop-read.read.used) (length c.args.part.now) _ _ _ _ w.if-is_entry.true-raw w.entry-r.ensures)
      | array::elements-else-is_entry w ↦ arrived w.out-is (ap counts_of w.r-is) (step_element (context_of c.args.ride) c.args.text.now c.args.shapes.now c.args.at _ c.args.place
          c.args.part.now (length c.args.part.now) (c.args.lead + c.loop-read.read.used) (length c.args.part.now) _ _ _ _ w.if-is_entry.false-raw w.value-r.ensures)
    ] in
    let e = c.in_ok-read.ensures in
    let z = sym (ap (λ (x : Counts). x.refusal) e) in
    rw (ap (λ (x : Counts). x.used) e, ap (λ (x : Counts). x.count) e) (elements_next _ _ _ _ _ _ _ _ c.loop-read.invariant c.loop-read-test.true _ _ turned z
    (item_least _ _ _ c.requires.0 c.requires.1 _ _ _ _ _ _ _ _ _ _ _ _ _ _ c.loop-read.invariant.bound turned z))

pub returns : goal.array::elements-returns
returns t c =
    elements_end _ _ _ _ _ _ _ _ c.loop-read.invariant c.loop-read-test.false
