-- The needs of `variant::variant`, and what answers each.
use Rattle.editor_steps.proofs.Variants.{separator_positive, signature_short, typed_ready, variant_closed, variant_deeper, variant_fits, variant_untyped}
use Rattle.editor_steps.proofs.WalkLaws.{counts}
use Rattle.meaning.proofs.Lists.{tail}
use Rattle.signature.proofs.TreeLaws.{front}
use Rattle.signature.specs.declared.shapes.Shape.{Shape}
use Rattle.strict_sizes.proofs.TableLaws.{front_placed}
use mathlib.Core.Path.{◌∙◌, ap, refl, sym}
use native.Mathlib.Omega.{arith}
use Rattle.std.proofs.lemmas.Result.{err_from_is_err_and}
use Rattle.editor_steps.proofs.ClosingLaws.{closes_refused}
use Rattle.editor_cycle.proofs.+editing.Goals as goal

pub returns-in_default : goal.variant::variant-returns-in_default
returns-in_default t c =
    absurd (omega (arith, separator_positive c.args.d c.args.place c.args.part.now c.requires 0 (sym c.in_default.ensures)))

pub returns-in_err-deeper : goal.variant::variant-returns-in_err-deeper
returns-in_err-deeper t c =
    absurd (omega (arith, (variant_deeper c.args.d c.args.place c.args.part.now c.requires c.in-Some.s c.in-Some.ensures.0 _ c.in_err-deeper.ensures).falls))

pub returns-then-not-tables_of : goal.variant::variant-returns-then-not-tables_of
returns-then-not-tables_of t c =
    counts _ _ _ _ _ _ _ _ _ 0 _ refl (variant_untyped c.args.d c.args.place c.args.part.now c.requires
    c.in-Some.s c.in-Some.ensures.0 c.args.aim.big _ (tail c.in-Some.s c.args.part.now) (sym
    c.tables_of.ensures.judged ∙ c.if-not-tables_of.true)) (omega arith) refl

pub held_value-requires : goal.variant::variant-held_value-requires
held_value-requires t c = (
  omega (
    arith,
    (variant_deeper c.args.d c.args.place c.args.part.now c.requires c.in-Some.s
        c.in-Some.ensures.0 _ c.in_ok-deeper.ensures).falls,
    c.decreases,
  ),
  (
    front_placed _ _
        (c.tables_of.ensures.filled c.if-not-tables_of.false) (front _ (sym c.tables_of.ensures.judged ∙ c.if-not-tables_of.false)) _
        c.shape_in-shape.ensures,
    typed_ready c.args.d c.args.place c.args.part.now c.requires c.in-Some.s
        c.in-Some.ensures.0 _ c.in_ok-deeper.ensures _ (tail c.in-Some.s
        c.args.part.now) (front _ (sym c.tables_of.ensures.judged ∙ c.if-not-tables_of.false)) _ (ap (λ (x : Shape). x.at)
        c.shape_in-shape.ensures) _ refl (omega (arith, c.in-Some.ensures.2)),
  ),
)

pub close_variant-requires : goal.variant::variant-close_variant-requires
close_variant-requires t c = (
  variant_fits c.args.d c.args.place c.args.part.now c.requires c.in-Some.s c.in-Some.ensures.0
      _ c.in_ok-deeper.ensures _ (tail c.in-Some.s c.args.part.now) (front _ (sym
      c.tables_of.ensures.judged ∙ c.if-not-tables_of.false)) _ (ap (λ (x : Shape). x.at) c.shape_in-shape.ensures) _ refl
      c.args.aim.big _ _ _ _ _ c.in_ok-walk.ensures,
  signature_short c.in-Some.s c.args.part.now c.requires,
)

pub returns-in_err-walk : goal.variant::variant-returns-in_err-walk
returns-in_err-walk t c =
    let p = err_from_is_err_and c.from_residual-in_err-walk.result c.from_residual-in_err-walk.ensures.1 in
    rw (p.1, p.2) (variant_closed c.args.d c.args.place c.args.part.now c.requires c.in-Some.s c.in-Some.ensures.0
    _ c.in_ok-deeper.ensures _ (tail c.in-Some.s c.args.part.now) (front _ (sym c.tables_of.ensures.judged ∙ c.if-not-tables_of.false)) _
    (ap (λ (x : Shape). x.at) c.shape_in-shape.ensures) _ refl
    c.args.aim.big _ _ _ _ _ c.in_err-walk.ensures _ _ (closes_refused _ _ _ _ _ _))

pub returns : goal.variant::variant-returns
returns t c =
    variant_closed c.args.d c.args.place c.args.part.now c.requires c.in-Some.s c.in-Some.ensures.0
    _ c.in_ok-deeper.ensures _ (tail c.in-Some.s c.args.part.now) (front _ (sym c.tables_of.ensures.judged ∙ c.if-not-tables_of.false)) _
    (ap (λ (x : Shape). x.at) c.shape_in-shape.ensures) _ refl
    c.args.aim.big _ _ _ _ _ c.in_ok-walk.ensures _ _ c.close_variant.ensures
