-- The needs of `variant::variant`, and what answers each.
use Rattle.meaning.proofs.RefusalLaws.{number_not_0}
use Rattle.reader_basic.proofs.Answers.{told_by, refused_at, handed_on}
use Prim.Native.Nat.{◌+◌, ◌-◌}
use borrow.Author.Tests.{not-true, not-false}
use Rattle.reader_basic.proofs.Loops.{kept}
use Rattle.meaning.proofs.Lists.{tail}
use Rattle.reader_steps.proofs.Deepening.{few_variants, inside_deeper, level_falls}
use Rattle.reader_steps.proofs.Variants.{holds_basic, same_value, variant_closed, variant_deep, variant_none, variant_text_lem, variant_type_lem}
use Rattle.reader_steps.specs.Children.{only_letter}
use Rattle.reader_steps.specs.Rides.{context_of}
use Rattle.signature.proofs.ShapeLaws.{table_filled, table_refused, table_type}
use Rattle.signature.proofs.TreeLaws.{front, front_described}
use lib.ListN.{drop, length, length-take}
use mathlib.Core.Path.{◌≡◌, ◌∙◌, ap, refl, sym}
use native.Mathlib.Omega.{arith}
use Rattle.reader_cycle.proofs.+reading.Goals as goal

pub returns-in_default : goal.variant::variant-returns-in_default
returns-in_default t c =
    told_by c.refused.ensures (variant_none _ _ _ _ _ _ 0 (rw (tail c.args.lead c.args.part.now) at (sym c.in_default.ensures)) refl)

pub overflow_add-from : goal.variant::variant-overflow_add-from
overflow_add-from t c =
    omega (arith, c.requires.0.in_frame, c.requires.1, c.in-Some.ensures.2, length-take (length c.args.part.now - c.args.lead) (drop c.args.lead c.args.part.now))

pub basic_variant-requires : goal.variant::variant-basic_variant-requires
basic_variant-requires t c = (
  c.requires.0,
  holds_basic _ _ _ _ (rw (tail c.args.lead c.args.part.now) at c.in-Some.ensures.0)
      (λ (z : c.in-Some.s ≡ 0). omega (arith, c.in-Some.ensures.1)) (omega (
        arith,
        c.requires.0.in_frame,
        c.requires.1,
        c.in-Some.ensures.2,
        length-take
            (length c.args.part.now - c.args.lead) (drop c.args.lead c.args.part.now),
      ))
      (c.in-Some-only_basic.ensures.0 ∙ ap only_letter (tail (c.args.lead + c.in-Some.s) c.args.part.now)) c.in-Some-only_basic.ensures.1,
)

pub returns-in-Some-only_basic : goal.variant::variant-returns-in-Some-only_basic
returns-in-Some-only_basic t c = c.basic_variant.ensures

pub overflow_add-place-2 : goal.variant::variant-overflow_add-place-2
overflow_add-place-2 t c =
    omega (arith, c.requires.0.in_frame, c.requires.1, c.in-Some.ensures.2, length-take (length c.args.part.now - c.args.lead) (drop c.args.lead c.args.part.now))

pub returns-in_err-head : goal.variant::variant-returns-in_err-head
returns-in_err-head t c =
    handed_on _ _ c.from_residual.ensures
    (variant_text_lem _ _ _ _ _ _ _ (rw (tail c.args.lead c.args.part.now) at c.in-Some.ensures.0) (λ (z : c.in-Some.s ≡ 0). omega (arith, c.in-Some.ensures.1)) _ _ (rw (tail (c.args.lead + c.in-Some.s) c.args.part.now) at c.in_err-head.ensures) (number_not_0 _))

pub returns-then-not-shapes_of : goal.variant::variant-returns-then-not-shapes_of
returns-then-not-shapes_of t c =
    told_by c.refused-then-not-shapes_of.ensures (variant_type_lem _ _ _ _ _ _ _ (rw (tail c.args.lead c.args.part.now) at
    c.in-Some.ensures.0) (λ (z : c.in-Some.s ≡ 0). omega (arith, c.in-Some.ensures.1)) _ _
    (rw (tail (c.args.lead + c.in-Some.s) c.args.part.now) at c.in_ok-head.ensures) refl
    (rw (tail (c.args.lead + c.in-Some.s) c.args.part.now) at
    (table_refused _ _ _ _ refl c.shapes_of.ensures (not-true _ c.if-not-shapes_of.true-raw))))

pub in_variant-requires : goal.variant::variant-in_variant-requires
in_variant-requires t c =
    c.requires.0.shallow

pub returns-in_err-deeper : goal.variant::variant-returns-in_err-deeper
returns-in_err-deeper t c =
    let s = c.in_err-deeper.ensures in
    refused_at _ _ c.from_residual-in_err-deeper.ensures s (variant_deep _ _ _ _ _ _ _ (rw (tail c.args.lead c.args.part.now) at
    c.in-Some.ensures.0) (λ (z : c.in-Some.s ≡ 0). omega (arith, c.in-Some.ensures.1)) _ _
    (rw (tail (c.args.lead + c.in-Some.s) c.args.part.now) at c.in_ok-head.ensures) refl
    _ (front _ (rw (tail (c.args.lead + c.in-Some.s) c.args.part.now) at
    (table_type _ _ _ _ refl c.shapes_of.ensures (not-false _ c.if-not-shapes_of.false-raw)))).type (rw s.refusal at c.in_variant.ensures)
    (number_not_0 _))

pub value-r-requires : goal.variant::variant-value-r-requires
value-r-requires t c = (
  omega (arith, level_falls ((rw c.in_ok-deeper.ensures at c.in_variant.ensures).deeper refl), c.decreases),
  (
    front_described _ _
        (table_filled _ _ _ _ refl c.shapes_of.ensures c.shapes_of.auto.shapes (not-false _ c.if-not-shapes_of.false-raw))
        (front _ (table_type _ _ _ _ refl c.shapes_of.ensures (not-false _ c.if-not-shapes_of.false-raw))),
    inside_deeper
        ((rw c.in_ok-deeper.ensures at c.in_variant.ensures).deeper refl) c.requires.0,
    c.requires.1,
  ),
)

pub close_variant-requires : goal.variant::variant-close_variant-requires
close_variant-requires t c =
    (c.requires.0.in_frame, c.requires.1)

pub shape_of-out : goal.variant::variant-shape_of-out
shape_of-out t c =
    kept (variant_closed c.args.part.now c.args.lead c.args.place (context_of c.args.ride) c.args.n
    c.args.out.now c.in-Some.s (rw (tail c.args.lead c.args.part.now) at
    c.in-Some.ensures.0) (λ (z : c.in-Some.s ≡ 0). omega (arith, c.in-Some.ensures.1)) _ _
    (rw (tail (c.args.lead + c.in-Some.s) c.args.part.now) at c.in_ok-head.ensures) refl
    _ (front _ (rw (tail (c.args.lead + c.in-Some.s) c.args.part.now) at
    (table_type _ _ _ _ refl c.shapes_of.ensures (not-false _ c.if-not-shapes_of.false-raw)))).type
    ((rw c.in_ok-deeper.ensures at c.in_variant.ensures).deeper refl) (few_variants c.requires.0) _ _
    (same_value (context_of c.in_ok-deeper.deeper) _ _ _ (tail (c.args.lead + c.in-Some.s) c.args.part.now)
    refl) (omega (arith, c.in-Some.ensures.1)) _ _
    (c.close_variant.ensures _ _ _ _ c.value-r.ensures))

pub returns : goal.variant::variant-returns
returns t c =
    variant_closed _ _ _ _ _ _ _ (rw (tail c.args.lead c.args.part.now) at c.in-Some.ensures.0) (λ (z : c.in-Some.s ≡ 0). omega (arith, c.in-Some.ensures.1)) _
    _ (rw (tail (c.args.lead + c.in-Some.s) c.args.part.now) at c.in_ok-head.ensures)
    refl _ (front _ (rw (tail (c.args.lead + c.in-Some.s) c.args.part.now) at
    (table_type _ _ _ _ refl c.shapes_of.ensures (not-false _ c.if-not-shapes_of.false-raw)))).type
    ((rw c.in_ok-deeper.ensures at c.in_variant.ensures).deeper refl) (few_variants c.requires.0) _ _
    (same_value _ _ _ _ (tail (c.args.lead + c.in-Some.s) c.args.part.now)
    refl) (omega (arith, c.in-Some.ensures.1)) _ _
    (c.close_variant.ensures _ _ _ _ c.value-r.ensures)
