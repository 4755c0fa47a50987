-- The needs of `structure::structure`, and what answers each.
use Rattle.meaning.proofs.RefusalLaws.{number_not_0}
use Rattle.reader_basic.proofs.Answers.{refused_at, handed_on}
use Rattle.reader_basic.specs.Answers.{counts_of}
use Rattle.meaning.specs.Calls.{Counts}
use Rattle.reader_basic.proofs.Loops.{kept}
use Rattle.reader_steps.proofs.Characters.{rowed_typed, typed_within}
use Rattle.reader_steps.proofs.Deepening.{few_variants, inside_deeper, level_falls, told}
use Rattle.reader_steps.proofs.Structures.{behind_within, ends_room, field_turn, fields_begin, fields_last, fields_next, fields_no_offset, fields_stop, last_by, next_by, structure_deep, structure_on, structure_stop}
use Rattle.reader_steps.specs.Rides.{context_of}
use Rattle.signature.proofs.Letters.{cut}
use Rattle.signature.proofs.TreeLaws.{described_aligned, structure_fixed, structure_rowed}
use Rattle.signature.specs.declared.Letter.TheVariants.{OpenStructure}
use mathlib.Core.Path.{refl, ap, sym, ◌∙◌, ◌≡◌}
use native.Mathlib.Omega.{arith}
use Rattle.reader_cycle.proofs.+reading.Goals as goal

pub in_structure-requires : goal.structure::structure-in_structure-requires
in_structure-requires t c =
    c.requires.2.shallow

pub returns-in_err-deeper : goal.structure::structure-returns-in_err-deeper
returns-in_err-deeper t c =
    let s = c.in_err-deeper.ensures in
    refused_at _ _ c.from_residual.ensures s (structure_deep c.requires.0 c.requires.1 _ _ _ _ _ _ (rw s.refusal at c.in_structure.ensures) (number_not_0 _))

pub overflow_add-i : goal.structure::structure-overflow_add-i
overflow_add-i t c =
    omega (arith, (cut c.args.text.now c.args.at OpenStructure 40 c.requires.1 refl).within, c.requires.0.typed.short)

pub loop-field-init : goal.structure::structure-loop-field-init
loop-field-init t c =
    fields_begin _ _ _ _ _ _ _ _ _ _ _ _ _ _ (structure_rowed c.requires.0 c.requires.1) (structure_fixed c.requires.0 c.requires.1) c.requires.3

pub offset_bounds-shapes-i : goal.structure::structure-offset_bounds-shapes-i
offset_bounds-shapes-i t c =
    let d = (rw c.in_ok-deeper.ensures at c.in_structure.ensures).deeper refl in
    omega (arith, typed_within (rowed_typed c.loop-field.invariant.rowed), c.requires.0.typed.short)

pub bounds-shapes-i : goal.structure::structure-bounds-shapes-i
bounds-shapes-i t c =
    let d = (rw c.in_ok-deeper.ensures at c.in_structure.ensures).deeper refl in
    omega (arith, typed_within (rowed_typed c.loop-field.invariant.rowed), c.requires.0.typed.short)

pub bounds-text-next_of : goal.structure::structure-bounds-text-next_of
bounds-text-next_of t c =
    let d = (rw c.in_ok-deeper.ensures at c.in_structure.ensures).deeper refl in
    omega (arith, behind_within _ _ _ c.loop-field.invariant.rowed c.requires.0.table c.next_of.ensures)

pub offset_bounds-shapes-i-in-loop-field : goal.structure::structure-offset_bounds-shapes-i-in-loop-field
offset_bounds-shapes-i-in-loop-field t c =
    let d = (rw c.in_ok-deeper.ensures at c.in_structure.ensures).deeper refl in
    omega (arith, typed_within (rowed_typed c.loop-field.invariant.rowed), c.requires.0.typed.short)

pub bounds-shapes-i-in-loop-field : goal.structure::structure-bounds-shapes-i-in-loop-field
bounds-shapes-i-in-loop-field t c =
    let d = (rw c.in_ok-deeper.ensures at c.in_structure.ensures).deeper refl in
    omega (arith, typed_within (rowed_typed c.loop-field.invariant.rowed), c.requires.0.typed.short)

pub field_ends-found-requires : goal.structure::structure-field_ends-found-requires
field_ends-found-requires t c =
    let d = (rw c.in_ok-deeper.ensures at c.in_structure.ensures).deeper refl in
    (c.requires.3, c.loop-field.invariant.inside, omega (arith, c.requires.2.in_frame))

pub returns-in_err-ends : goal.structure::structure-returns-in_err-ends
returns-in_err-ends t c =
    let d = (rw c.in_ok-deeper.ensures at c.in_structure.ensures).deeper refl in
    let s = c.in_err-ends.ensures in
    refused_at _ _ c.from_residual-in_err-ends.ensures s (structure_stop c.requires.0 c.requires.1 _ _ _ _ _ _ d _ _ _ _ _ c.emit-count.ensures.counted c.emit-count.ensures.written refl (number_not_0 _) (fields_no_offset c.loop-field.invariant (few_variants (inside_deeper d c.requires.2))
    (next_by _ _ _ c.loop-field.invariant.rowed c.requires.0.table c.next_of.ensures c.loop-field-test.true) _ (rw s.refusal at c.field_ends-found.ensures) (number_not_0 _)))

pub overflow_add-j : goal.structure::structure-overflow_add-j
overflow_add-j t c =
    let d = (rw c.in_ok-deeper.ensures at c.in_structure.ensures).deeper refl in
    omega (arith, c.loop-field.invariant.within, c.requires.2.in_frame)

pub value-r-requires : goal.structure::structure-value-r-requires
value-r-requires t c =
    let d = (rw c.in_ok-deeper.ensures at c.in_structure.ensures).deeper refl in
    (omega (arith, level_falls d, c.decreases), ((next_by _ _ _ c.loop-field.invariant.rowed c.requires.0.table c.next_of.ensures c.loop-field-test.true).shape, inside_deeper d c.requires.2, c.loop-field.invariant.within))

pub behind-requires : goal.structure::structure-behind-requires
behind-requires t c =
    let d = (rw c.in_ok-deeper.ensures at c.in_structure.ensures).deeper refl in
    omega (arith, c.value-r.ensures.fits, c.requires.2.in_frame, c.loop-field.invariant.within)

pub returns-in_err-read : goal.structure::structure-returns-in_err-read
returns-in_err-read t c =
    let d = (rw c.in_ok-deeper.ensures at c.in_structure.ensures).deeper refl in
    let e = c.in_err-read.ensures in
    let z = λ (q : (counts_of c.value-r.result).refusal ≡ 0). number_not_0 _ (ap (λ (x : Counts). x.refusal) e ∙ q) in
    handed_on _ _ c.from_residual-in_err-read.ensures (structure_stop c.requires.0 c.requires.1 _ _ _ _ _ _ d _ _ _ _ _ c.emit-count.ensures.counted c.emit-count.ensures.written e z (fields_stop c.loop-field.invariant (few_variants (inside_deeper d c.requires.2))
    (next_by _ _ _ c.loop-field.invariant.rowed c.requires.0.table c.next_of.ensures c.loop-field-test.true)
    (field_turn c.loop-field.invariant (few_variants (inside_deeper d c.requires.2))
    (next_by _ _ _ c.loop-field.invariant.rowed c.requires.0.table c.next_of.ensures c.loop-field-test.true) _ (rw c.in_ok-ends.ensures at c.field_ends-found.ensures) refl) _ _
    c.value-r.ensures z))

pub overflow_sub-end : goal.structure::structure-overflow_sub-end
overflow_sub-end t c =
    omega (arith, ends_room _ _ _ _ _ _ (rw c.in_ok-ends.ensures at c.field_ends-found.ensures) refl)

pub loop-field-smaller : goal.structure::structure-loop-field-smaller
loop-field-smaller t c =
    let d = (rw c.in_ok-deeper.ensures at c.in_structure.ensures).deeper refl in
    let g = (next_by _ _ _ c.loop-field.invariant.rowed c.requires.0.table c.next_of.ensures c.loop-field-test.true) in omega (arith, g.onward, g.within, c.next_of-i.ensures)

pub loop-field-preserved : goal.structure::structure-loop-field-preserved
loop-field-preserved t c =
    let d = (rw c.in_ok-deeper.ensures at c.in_structure.ensures).deeper refl in
    let e = c.in_ok-read.ensures in
    rw (c.next_of-i.ensures, ap (λ (x : Counts). x.used) e, ap (λ (x : Counts). x.count) e) (fields_next c.loop-field.invariant (few_variants (inside_deeper d c.requires.2))
    (next_by _ _ _ c.loop-field.invariant.rowed c.requires.0.table c.next_of.ensures c.loop-field-test.true)
    (field_turn c.loop-field.invariant (few_variants (inside_deeper d c.requires.2))
    (next_by _ _ _ c.loop-field.invariant.rowed c.requires.0.table c.next_of.ensures c.loop-field-test.true) _ (rw c.in_ok-ends.ensures at c.field_ends-found.ensures) refl) _ _
    c.value-r.ensures (sym (ap (λ (x : Counts). x.refusal) e)))

pub overflow_add-j-2 : goal.structure::structure-overflow_add-j-2
overflow_add-j-2 t c =
    let d = (rw c.in_ok-deeper.ensures at c.in_structure.ensures).deeper refl in
    omega (arith, c.loop-field.invariant.within, c.requires.2.in_frame)

pub value-r-requires-2 : goal.structure::structure-value-r-requires-2
value-r-requires-2 t c =
    let d = (rw c.in_ok-deeper.ensures at c.in_structure.ensures).deeper refl in
    (omega (arith, level_falls d, c.decreases), ((last_by _ _ _ c.loop-field.invariant.rowed c.requires.0.table c.next_of.ensures c.loop-field-test.false).shape, inside_deeper d c.requires.2, c.loop-field.invariant.within))

pub offset_bounds-shapes-at : goal.structure::structure-offset_bounds-shapes-at
offset_bounds-shapes-at t c =
    omega (arith, typed_within c.requires.0.typed, c.requires.0.typed.short)

pub bounds-shapes-at : goal.structure::structure-bounds-shapes-at
bounds-shapes-at t c =
    omega (arith, typed_within c.requires.0.typed, c.requires.0.typed.short)

pub close_fields-s-requires : goal.structure::structure-close_fields-s-requires
close_fields-s-requires t c =
    let d = (rw c.in_ok-deeper.ensures at c.in_structure.ensures).deeper refl in
    (c.requires.2.in_frame, (inside_deeper d c.requires.2).near, described_aligned c.requires.0, omega (arith, c.value-r-2.ensures.fits, c.loop-field.invariant.within), c.loop-field.invariant.inside, c.loop-field.invariant.whole)

pub behind-all-requires : goal.structure::structure-behind-all-requires
behind-all-requires t c =
    let d = (rw c.in_ok-deeper.ensures at c.in_structure.ensures).deeper refl in
    omega (arith, (c.close_fields-s.ensures _ _ _ _ c.value-r-2.ensures).fits, c.requires.2.in_frame, c.loop-field.invariant.within)

pub close-requires : goal.structure::structure-close-requires
close-requires t c =
    let d = (rw c.in_ok-deeper.ensures at c.in_structure.ensures).deeper refl in
    let whole = told c.behind-all.ensures (fields_last c.loop-field.invariant (few_variants (inside_deeper d c.requires.2)) _ _
    (last_by _ _ _ c.loop-field.invariant.rowed c.requires.0.table c.next_of.ensures c.loop-field-test.false) (c.close_fields-s.ensures _ _ _ _ c.value-r-2.ensures)) in
    omega (arith, whole.fits, c.requires.2.in_frame, c.requires.3)

pub shape_of-out : goal.structure::structure-shape_of-out
shape_of-out t c =
    let d = (rw c.in_ok-deeper.ensures at c.in_structure.ensures).deeper refl in
    kept (structure_on c.requires.0 c.requires.1 c.args.part.now c.args.lead c.args.place (context_of c.args.ride) c.args.n c.args.out.now d _ _ _ _ c.emit-count.ensures.counted c.emit-count.ensures.written
    (c.close.ensures _ _ _ _ _ (told c.behind-all.ensures (fields_last c.loop-field.invariant (few_variants (inside_deeper d c.requires.2)) _ _
    (last_by _ _ _ c.loop-field.invariant.rowed c.requires.0.table c.next_of.ensures c.loop-field-test.false) (c.close_fields-s.ensures _ _ _ _ c.value-r-2.ensures)))))

pub returns : goal.structure::structure-returns
returns t c =
    let d = (rw c.in_ok-deeper.ensures at c.in_structure.ensures).deeper refl in
    structure_on c.requires.0 c.requires.1 _ _ _ _ _ _ d _ _ _ _ c.emit-count.ensures.counted c.emit-count.ensures.written
    (c.close.ensures _ _ _ _ _ (told c.behind-all.ensures (fields_last c.loop-field.invariant (few_variants (inside_deeper d c.requires.2)) _ _
    (last_by _ _ _ c.loop-field.invariant.rowed c.requires.0.table c.next_of.ensures c.loop-field-test.false) (c.close_fields-s.ensures _ _ _ _ c.value-r-2.ensures))))
