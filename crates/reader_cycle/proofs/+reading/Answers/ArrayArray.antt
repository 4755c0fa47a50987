-- The needs of `array::array`, and what answers each.
use Rattle.meaning.proofs.RefusalLaws.{number_not_0}
use Rattle.reader_basic.proofs.Answers.{refused_at}
use Rattle.reader_basic.proofs.Loops.{stands_by}
use Rattle.meaning.proofs.Lists.{tail}
use Rattle.reader_steps.proofs.Arrays.{array_deep, array_empty, array_fixed, array_framed, array_no_table}
use Rattle.reader_steps.proofs.Deepening.{inside_deeper, level_falls}
use Rattle.reader_steps.proofs.Repeats.{item_within, repeats}
use mathlib.Core.Path.{◌∙◌, sym, refl}
use native.Mathlib.Omega.{arith}
use Rattle.reader_cycle.proofs.+reading.Goals as goal

pub in_array-requires : goal.array::array-in_array-requires
in_array-requires t c =
    c.requires.2.shallow

pub returns-in_err-deeper : goal.array::array-returns-in_err-deeper
returns-in_err-deeper t c =
    let s = c.in_err-deeper.ensures in
    refused_at _ _ c.from_residual.ensures s (array_deep (repeats _ _ _ c.requires.0 c.requires.1) _ _ _ _ _ _ (rw s.refusal at c.in_array.ensures) (number_not_0 _))

pub overflow_add-at : goal.array::array-overflow_add-at
overflow_add-at t c =
    omega (arith, item_within _ _ _ _ (repeats _ _ _ c.requires.0 c.requires.1).repeated, c.requires.0.typed.short)

pub bounds-text-at : goal.array::array-bounds-text-at
bounds-text-at t c =
    omega (arith, item_within _ _ _ _ (repeats _ _ _ c.requires.0 c.requires.1).repeated)

pub returns-then-lead-part : goal.array::array-returns-then-lead-part
returns-then-lead-part t c =
    array_empty (repeats _ _ _ c.requires.0 c.requires.1) _ _ _ _ _ _ ((rw c.in_ok-deeper.ensures at c.in_array.ensures).deeper refl) _ _ _
    (omega (arith, c.if-lead-part.true)) c.kind_by-kind.ensures c.empty.ensures

pub repeats_fixed-requires : goal.array::array-repeats_fixed-requires
repeats_fixed-requires t c =
    (repeats _ _ _ c.requires.0 c.requires.1).repeated

pub elements-r-requires : goal.array::array-elements-r-requires
elements-r-requires t c = (
  omega (arith, level_falls ((rw c.in_ok-deeper.ensures at c.in_array.ensures).deeper refl), c.decreases),
  (
    (repeats _ _ _ c.requires.0 c.requires.1).repeated,
    sym c.repeats_fixed.ensures ∙ c.if-repeats_fixed.true,
    inside_deeper
        ((rw c.in_ok-deeper.ensures at c.in_array.ensures).deeper refl) c.requires.2,
    c.requires.3,
  ),
)

pub returns-then-repeats_fixed : goal.array::array-returns-then-repeats_fixed
returns-then-repeats_fixed t c =
    array_fixed (repeats _ _ _ c.requires.0 c.requires.1) _ _ _ _ _ _
    ((rw c.in_ok-deeper.ensures at c.in_array.ensures).deeper refl) _ _ _ _ (sym c.repeats_fixed.ensures ∙ c.if-repeats_fixed.true) c.emit-m.ensures.counted
    (rw c.kind_by-kind.ensures at c.emit-m.ensures.written) (c.close.ensures _ _ _ _ _ c.elements-r.ensures)

pub returns-in_err-ends : goal.array::array-returns-in_err-ends
returns-in_err-ends t c =
    let s = c.in_err-ends.ensures in
    refused_at _ _ c.from_residual-in_err-ends.ensures s (array_no_table (repeats _ _ _ c.requires.0 c.requires.1) _ _ _ _ _ _
    ((rw c.in_ok-deeper.ensures at c.in_array.ensures).deeper refl) (sym c.repeats_fixed.ensures ∙ c.if-repeats_fixed.false) _
    (rw (tail c.args.lead c.args.part.now, s.refusal) at c.from_encoded_array.ensures) (number_not_0 _))

pub framed-r-requires : goal.array::array-framed-r-requires
framed-r-requires t c = (
  omega (arith, level_falls ((rw c.in_ok-deeper.ensures at c.in_array.ensures).deeper refl), c.decreases),
  (
    (repeats _ _ _ c.requires.0 c.requires.1).repeated,
    sym c.repeats_fixed.ensures ∙ c.if-repeats_fixed.false,
    inside_deeper
        ((rw c.in_ok-deeper.ensures at c.in_array.ensures).deeper refl) c.requires.2,
    c.requires.3,
    stands_by _ _
        (rw (tail c.args.lead c.args.part.now, c.in_ok-ends.ensures) at c.from_encoded_array.ensures) refl,
  ),
)

pub returns : goal.array::array-returns
returns t c =
    array_framed (repeats _ _ _ c.requires.0 c.requires.1) _ _ _ _ _ _
    ((rw c.in_ok-deeper.ensures at c.in_array.ensures).deeper refl) (sym c.repeats_fixed.ensures ∙ c.if-repeats_fixed.false) _
    (rw (tail c.args.lead c.args.part.now, c.in_ok-ends.ensures) at c.from_encoded_array.ensures) _ _ _ _ refl
    c.emit-m-2.ensures.counted (rw c.kind_by-kind.ensures at c.emit-m-2.ensures.written)
    (c.close-2.ensures _ _ _ _ _ c.framed-r.ensures)
