-- The needs of `array::framed`, and what answers each.
use Rattle.meaning.proofs.RefusalLaws.{number_not_0}
use Rattle.reader_basic.proofs.Answers.{told_by, handed_on}
use Rattle.meaning.specs.Calls.{Counts}
use Rattle.utils.proofs.Answered.{checked_value}
use Prim.Native.Nat.{◌+◌}
use Rattle.framing_offsets.specs.Tables.{table_in}
use Rattle.meaning.proofs.Bounds.{length_ends}
use Rattle.reader_basic.proofs.Loops.{ends_below, framed_begin, framed_end, framed_next, framed_stop, kept, next_end}
use Rattle.reader_basic.specs.Answers.{Between, counts_of}
use Rattle.reader_steps.proofs.Arrays.{offset_told}
use Rattle.reader_steps.proofs.Deepening.{arrived, told}
use Rattle.reader_steps.proofs.ItemLaws.{held_numbers, held_texts}
use Rattle.reader_steps.proofs.Repeats.{fixed_as, item_held, item_text, item_within, repeated_as, step_element, step_entry}
use Rattle.reader_steps.proofs.Rides.{inside_as, readings_as}
use Rattle.reader_steps.specs.Places.{item_of, step_in}
use Rattle.reader_steps.specs.Rides.{context_of}
use lib.ListN.{drop, length-drop}
use mathlib.Core.Bool.{false≢true}
use mathlib.Core.Path.{◌∙◌, sym, ap}
use native.Mathlib.Omega.{arith}
use Rattle.reader_cycle.proofs.+reading.Goals as goal
use Rattle.reader_cycle.proofs.+reading.Goals.{array::framed-then-is_entry, array::framed-else-is_entry}

pub overflow_add-child : goal.array::framed-overflow_add-child
overflow_add-child t c =
    omega (arith, item_within c.args.text.now c.args.shapes.now c.args.at _ c.requires.0, c.requires.0.child.typed.short)

pub held_width-requires : goal.array::framed-held_width-requires
held_width-requires t c =
    omega (arith, item_within c.args.text.now c.args.shapes.now c.args.at _ c.requires.0)

pub readings-requires : goal.array::framed-readings-requires
readings-requires t c = (
  inside_as c.context_of-context.ensures c.requires.2,
  record { begins = c.requires.3; stands = c.requires.4 },
  (c.requires.0.number _ _ (item_held c.args.text.now
      c.args.shapes.now c.args.at (item_within c.args.text.now c.args.shapes.now c.args.at _ c.requires.0) _ c.in-Some.ensures)).aligned,
)

pub returns-in-Some : goal.array::framed-returns-in-Some
returns-in-Some t c =
    held_numbers _ _ _ _ (c.requires.0.number _ _ (item_held c.args.text.now c.args.shapes.now c.args.at (item_within c.args.text.now c.args.shapes.now
    c.args.at _ c.requires.0) _ c.in-Some.ensures)) _ _ _ _ _ _ _ _ _ _ _ _ _ _ _ _ c.requires.1 (readings_as c.context_of-context.ensures _ _ _ _ _ _
    c.args.offsets c.readings.ensures)

pub bounds-text-child : goal.array::framed-bounds-text-child
bounds-text-child t c =
    omega (arith, item_within c.args.text.now c.args.shapes.now c.args.at _ c.requires.0)

pub texts-requires : goal.array::framed-texts-requires
texts-requires t c =
    (c.requires.2.in_frame, record { begins = c.requires.3; stands = c.requires.4 })

pub returns-then-is_text : goal.array::framed-returns-then-is_text
returns-then-is_text t c =
    held_texts (context_of c.args.ride) c.args.text.now c.args.shapes.now (item_of c.args.text.now c.args.shapes.now c.args.at) _ c.requires.0
    (item_text c.args.text.now c.args.shapes.now c.args.at (item_within c.args.text.now c.args.shapes.now c.args.at _ c.requires.0) (sym
    c.if-is_text.true ∙ c.is_text.ensures)) c.args.offsets c.args.place c.args.part.now
    c.args.lead _ _ _ _ _ _ c.texts.ensures

pub loop-i-init : goal.array::framed-loop-i-init
loop-i-init t c = framed_begin _ _ _ _ _ _ _ (omega arith)

pub overflow_add-e : goal.array::framed-overflow_add-e
overflow_add-e t c =
    omega (
      arith,
      (c.unwrap_or-offset.ensures ∙ checked_value c.next_in.result ∙ next_end c.requires.4 c.loop-i.i _ c.loop-i-test.true
          (offset_told c.args.offsets c.loop-i.i c.args.lead c.args.part.now c.loop-i-test.true c.next_in.ensures)),
      ends_below c.requires.4 c.loop-i.i,
      c.requires.4.start,
      length-drop c.args.lead c.args.part.now,
      c.requires.2.in_frame,
      c.requires.3,
    )

pub entry-r-requires : goal.array::framed-entry-r-requires
entry-r-requires t c = (
  omega (arith, c.decreases),
  (
    repeated_as c.args.text.now c.args.shapes.now c.args.at c.if-is_entry.true-raw c.requires.0,
    c.requires.2,
    omega
        (arith, c.loop-i.invariant.bound, c.requires.4.start, length-drop c.args.lead c.args.part.now, c.requires.3),
    omega (
      arith,
      (c.unwrap_or-offset.ensures ∙ checked_value c.next_in.result ∙ next_end c.requires.4 c.loop-i.i _ c.loop-i-test.true
          (offset_told c.args.offsets c.loop-i.i c.args.lead c.args.part.now c.loop-i-test.true c.next_in.ensures)),
      ends_below c.requires.4 c.loop-i.i,
    ),
    omega
        (arith, c.requires.4.start, length-drop c.args.lead c.args.part.now, c.requires.3),
    λ z. absurd
        (false≢true (sym (fixed_as c.args.text.now c.args.shapes.now c.args.at c.if-is_entry.true-raw c.requires.1) ∙ z)),
  ),
)

pub value-r-requires : goal.array::framed-value-r-requires
value-r-requires t c = (
  omega (arith, c.decreases),
  (
    (repeated_as c.args.text.now c.args.shapes.now c.args.at c.if-is_entry.false-raw c.requires.0).child,
    c.requires.2,
    omega
        (arith, c.loop-i.invariant.bound, c.requires.4.start, length-drop c.args.lead c.args.part.now, c.requires.3),
  ),
)

pub behind-requires : goal.array::framed-behind-requires
behind-requires t c =
    let turned : Between (step_in (context_of c.args.ride) c.args.text.now (item_of c.args.text.now c.args.shapes.now c.args.at) c.args.place c.args.part.now (c.args.lead + c.args.offsets.start) (c.args.lead + c.loop-i.so_far.used) (c.args.lead + c.unwrap_or-offset.result))
    c.args.part.now (c.args.lead + c.loop-i.so_far.used) (c.args.lead + c.unwrap_or-offset.result) c.loop-i.so_far.count c.loop-i.out c.if-is_entry.out (counts_of c.if-is_entry.r) =
    elim c.if-is_entry.branch [
      | array::framed-then-is_entry w ↦ arrived w.out-is (ap counts_of w.r-is) (step_entry (context_of c.args.ride) c.args.text.now c.args.shapes.now c.args.at _ c.args.place
          c.args.part.now (c.args.lead + c.args.offsets.start) (c.args.lead + c.loop-i.so_far.used) (c.args.lead + c.unwrap_or-offset.result) _ _ _ _ w.if-is_entry.true-raw w.entry-r.ensures)
      | array::framed-else-is_entry w ↦ arrived w.out-is (ap counts_of w.r-is) (step_element (context_of c.args.ride) c.args.text.now c.args.shapes.now c.args.at _ c.args.place
          c.args.part.now (c.args.lead + c.args.offsets.start) (c.args.lead + c.loop-i.so_far.used) (c.args.lead + c.unwrap_or-offset.result) _ _ _ _ w.if-is_entry.false-raw w.value-r.ensures)
    ] in
    omega (arith, turned.fits, c.loop-i.invariant.bound, c.requires.4.start, length-drop c.args.lead c.args.part.now, c.requires.2.in_frame, c.requires.3)

pub shape_of-out-in_err-so_far : goal.array::framed-shape_of-out-in_err-so_far
shape_of-out-in_err-so_far t c =
    let turned : Between (step_in (context_of c.args.ride) c.args.text.now (item_of c.args.text.now c.args.shapes.now c.args.at) c.args.place c.args.part.now (c.args.lead + c.args.offsets.start) (c.args.lead + c.loop-i.so_far.used) (c.args.lead + c.unwrap_or-offset.result))
    c.args.part.now (c.args.lead + c.loop-i.so_far.used) (c.args.lead + c.unwrap_or-offset.result) c.loop-i.so_far.count c.loop-i.out c.if-is_entry.out (counts_of c.if-is_entry.r) =
    elim c.if-is_entry.branch [
      | array::framed-then-is_entry w ↦ arrived w.out-is (ap counts_of w.r-is) (step_entry (context_of c.args.ride) c.args.text.now c.args.shapes.now c.args.at _ c.args.place
          c.args.part.now (c.args.lead + c.args.offsets.start) (c.args.lead + c.loop-i.so_far.used) (c.args.lead + c.unwrap_or-offset.result) _ _ _ _ w.if-is_entry.true-raw w.entry-r.ensures)
      | array::framed-else-is_entry w ↦ arrived w.out-is (ap counts_of w.r-is) (step_element (context_of c.args.ride) c.args.text.now c.args.shapes.now c.args.at _ c.args.place
          c.args.part.now (c.args.lead + c.args.offsets.start) (c.args.lead + c.loop-i.so_far.used) (c.args.lead + c.unwrap_or-offset.result) _ _ _ _ w.if-is_entry.false-raw w.value-r.ensures)
    ] in
    kept turned ∙ c.loop-i.invariant.same

pub returns-in_err-so_far : goal.array::framed-returns-in_err-so_far
returns-in_err-so_far t c =
    let turned : Between (step_in (context_of c.args.ride) c.args.text.now (item_of c.args.text.now c.args.shapes.now c.args.at) c.args.place c.args.part.now (c.args.lead + c.args.offsets.start) (c.args.lead + c.loop-i.so_far.used) (c.args.lead + c.unwrap_or-offset.result))
    c.args.part.now (c.args.lead + c.loop-i.so_far.used) (c.args.lead + c.unwrap_or-offset.result) c.loop-i.so_far.count c.loop-i.out c.if-is_entry.out (counts_of c.if-is_entry.r) =
    elim c.if-is_entry.branch [
      | array::framed-then-is_entry w ↦ arrived w.out-is (ap counts_of w.r-is) (step_entry (context_of c.args.ride) c.args.text.now c.args.shapes.now c.args.at _ c.args.place
          c.args.part.now (c.args.lead + c.args.offsets.start) (c.args.lead + c.loop-i.so_far.used) (c.args.lead + c.unwrap_or-offset.result) _ _ _ _ w.if-is_entry.true-raw w.entry-r.ensures)
      | array::framed-else-is_entry w ↦ arrived w.out-is (ap counts_of w.r-is) (step_element (context_of c.args.ride) c.args.text.now c.args.shapes.now c.args.at _ c.args.place
          c.args.part.now (c.args.lead + c.args.offsets.start) (c.args.lead + c.loop-i.so_far.used) (c.args.lead + c.unwrap_or-offset.result) _ _ _ _ w.if-is_entry.false-raw w.value-r.ensures)
    ] in
    let e = c.in_err-so_far.ensures in
    handed_on _ _ c.from_residual.ensures (told e (framed_stop _ _ _ _ _ _ _ _ _ _ _ c.loop-i.invariant
    (omega (arith, c.requires.4.start, length-drop c.args.lead c.args.part.now, c.requires.3))
    (omega (arith, length_ends (table_in c.args.offsets) (drop c.args.lead c.args.part.now), c.loop-i-test.true)) _ _
    (omega (arith, ends_below c.requires.4 c.loop-i.i))
    (rw (c.unwrap_or-offset.ensures ∙ checked_value c.next_in.result ∙ next_end c.requires.4 c.loop-i.i _ c.loop-i-test.true
    (offset_told c.args.offsets c.loop-i.i c.args.lead c.args.part.now c.loop-i-test.true c.next_in.ensures)) at turned) (λ z. number_not_0 _ (ap (λ (x : Counts). x.refusal) e ∙ z))))

pub loop-i-preserved : goal.array::framed-loop-i-preserved
loop-i-preserved t c =
    let turned : Between (step_in (context_of c.args.ride) c.args.text.now (item_of c.args.text.now c.args.shapes.now c.args.at) c.args.place c.args.part.now (c.args.lead + c.args.offsets.start) (c.args.lead + c.loop-i.so_far.used) (c.args.lead + c.unwrap_or-offset.result))
    c.args.part.now (c.args.lead + c.loop-i.so_far.used) (c.args.lead + c.unwrap_or-offset.result) c.loop-i.so_far.count c.loop-i.out c.if-is_entry.out (counts_of c.if-is_entry.r) =
    elim c.if-is_entry.branch [
      | array::framed-then-is_entry w ↦ arrived w.out-is (ap counts_of w.r-is) (step_entry (context_of c.args.ride) c.args.text.now c.args.shapes.now c.args.at _ c.args.place
          c.args.part.now (c.args.lead + c.args.offsets.start) (c.args.lead + c.loop-i.so_far.used) (c.args.lead + c.unwrap_or-offset.result) _ _ _ _ w.if-is_entry.true-raw w.entry-r.ensures)
      | array::framed-else-is_entry w ↦ arrived w.out-is (ap counts_of w.r-is) (step_element (context_of c.args.ride) c.args.text.now c.args.shapes.now c.args.at _ c.args.place
          c.args.part.now (c.args.lead + c.args.offsets.start) (c.args.lead + c.loop-i.so_far.used) (c.args.lead + c.unwrap_or-offset.result) _ _ _ _ w.if-is_entry.false-raw w.value-r.ensures)
    ] in
    let e = c.in_ok-so_far.ensures in
    rw (ap (λ (x : Counts). x.used) e, ap (λ (x : Counts). x.count) e) (framed_next _ _ _ _ _ _ _ _ _ _ _ c.loop-i.invariant (omega
    (arith, c.requires.4.start, length-drop c.args.lead c.args.part.now, c.requires.3))
    (omega (arith, length_ends (table_in c.args.offsets) (drop c.args.lead c.args.part.now), c.loop-i-test.true)) _ _
    (omega (arith, ends_below c.requires.4 c.loop-i.i))
    (rw (c.unwrap_or-offset.ensures ∙ checked_value c.next_in.result ∙ next_end c.requires.4 c.loop-i.i _ c.loop-i-test.true
    (offset_told c.args.offsets c.loop-i.i c.args.lead c.args.part.now c.loop-i-test.true c.next_in.ensures)) at turned) (sym (ap (λ (x : Counts). x.refusal) e)))

pub returns : goal.array::framed-returns
returns t c =
    told_by c.done.ensures (framed_end _ _ _ _ _ _ _ _ _ _ _ c.loop-i.invariant
    (omega (arith, c.requires.4.start, length-drop c.args.lead c.args.part.now, c.requires.3))
    (omega (arith, length_ends (table_in c.args.offsets) (drop c.args.lead c.args.part.now), c.loop-i-test.false)))
