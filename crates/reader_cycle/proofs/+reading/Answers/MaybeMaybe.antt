-- The needs of `maybe::maybe`, and what answers each.
use Rattle.meaning.proofs.RefusalLaws.{number_not_0}
use Rattle.reader_basic.proofs.Answers.{told_by, refused_at}
use Rattle.reader_steps.proofs.Characters.{typed_within}
use Rattle.reader_steps.proofs.Deepening.{inside_deeper, level_falls}
use Rattle.reader_steps.proofs.Maybes.{maybe_deep, maybe_fixed, maybe_none, maybe_other}
use Rattle.signature.proofs.TreeLaws.{described_fixed, maybe_described}
use mathlib.Core.Path.{◌∙◌, refl}
use native.Mathlib.Omega.{arith}
use Rattle.reader_cycle.proofs.+reading.Goals as goal

pub returns-then-part-lead : goal.maybe::maybe-returns-then-part-lead
returns-then-part-lead t c =
    told_by c.done.ensures (maybe_none c.requires.0.typed c.requires.1 _ _ _ _ _ _ _ _ c.if-part-lead.true c.emit-m.ensures.counted c.emit-m.ensures.written)

pub in_maybe-requires : goal.maybe::maybe-in_maybe-requires
in_maybe-requires t c =
    c.requires.2.shallow

pub returns-in_err-deeper : goal.maybe::maybe-returns-in_err-deeper
returns-in_err-deeper t c =
    let s = c.in_err-deeper.ensures in
    refused_at _ _ c.from_residual.ensures s (maybe_deep c.requires.0.typed c.requires.1 _ _ _ _ _ _ c.if-part-lead.false (rw s.refusal at c.in_maybe.ensures) (number_not_0 _))

pub overflow_add-held : goal.maybe::maybe-overflow_add-held
overflow_add-held t c =
    omega (arith, typed_within c.requires.0.typed, c.requires.0.typed.short)

pub offset_bounds-shapes-held : goal.maybe::maybe-offset_bounds-shapes-held
offset_bounds-shapes-held t c =
    omega (arith, typed_within c.requires.0.typed, c.requires.0.typed.short)

pub bounds-shapes-held : goal.maybe::maybe-bounds-shapes-held
bounds-shapes-held t c =
    omega (arith, typed_within (maybe_described _ _ c.requires.0.typed c.requires.1 _ c.requires.0.table).typed, c.requires.0.typed.short)

pub value-requires : goal.maybe::maybe-value-requires
value-requires t c = (
  omega (arith, level_falls ((rw c.in_ok-deeper.ensures at c.in_maybe.ensures).deeper refl), c.decreases),
  (
    (maybe_described _ _ c.requires.0.typed c.requires.1 _ c.requires.0.table),
    inside_deeper ((rw c.in_ok-deeper.ensures at c.in_maybe.ensures).deeper refl) c.requires.2,
    c.requires.3,
  ),
)

pub returns-then-fixed : goal.maybe::maybe-returns-then-fixed
returns-then-fixed t c =
    maybe_fixed c.requires.0.typed c.requires.1 _ _ _ _ _ _ c.if-part-lead.false ((rw c.in_ok-deeper.ensures at c.in_maybe.ensures).deeper refl)
    c.emit-m-2.ensures.counted c.emit-m-2.ensures.written refl
    (c.fixed_of-fixed.ensures ∙ described_fixed (maybe_described _ _ c.requires.0.typed c.requires.1 _ c.requires.0.table)) _ _ c.if-fixed.true c.value.ensures

pub value-r-requires : goal.maybe::maybe-value-r-requires
value-r-requires t c = (
  omega (arith, level_falls ((rw c.in_ok-deeper.ensures at c.in_maybe.ensures).deeper refl), c.decreases),
  (
    (maybe_described _ _ c.requires.0.typed c.requires.1 _ c.requires.0.table),
    inside_deeper ((rw c.in_ok-deeper.ensures at c.in_maybe.ensures).deeper refl) c.requires.2,
    c.requires.3,
  ),
)

pub end_byte-requires : goal.maybe::maybe-end_byte-requires
end_byte-requires t c =
    (c.if-part-lead.false, omega (arith, c.requires.2.in_frame), c.value-r.ensures.fits, c.value-r.ensures.ends)

pub returns : goal.maybe::maybe-returns
returns t c =
    maybe_other c.requires.0.typed c.requires.1 _ _ _ _ _ _ c.if-part-lead.false ((rw c.in_ok-deeper.ensures at c.in_maybe.ensures).deeper refl)
    c.emit-m-2.ensures.counted c.emit-m-2.ensures.written refl
    (c.fixed_of-fixed.ensures ∙ described_fixed (maybe_described _ _ c.requires.0.typed c.requires.1 _ c.requires.0.table)) _ _ c.if-fixed.false
    (c.end_byte.ensures _ _ _ _ _ c.value-r.ensures)
