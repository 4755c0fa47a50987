-- `structure_shape` meets its contract. The loop keeps `Fielded`, that what is left answers the whole; the measure is what is left of the text. Assumes nothing.
use Rattle.std.specs.Ordering.{ord_max}
use Rattle.std.proofs.Common.{◌≡◌, nat_cmp, rules}
use mathlib.Core.Path.{refl, ap, ◌∙◌}
use Prim.Native.Nat.{ℕ, ◌+◌, max}
use native.Mathlib.Omega.{arith}
use Rattle.signature.specs.declared.Letter.TheVariants.{CloseStructure}
use mathlib.Core.Bool.{Bool, ◌&&◌}
use Rattle.signature.proofs.Letters.{not_cut, closes_structure}
use Rattle.signature.proofs.ShapeLaws.{fielded_begin, fielded_missing, fielded_next, fielded_last, fielded_most, fielded_onward, known, fits}
use Rattle.signature_table.proofs.structure_shape.Goals as goal

-- what `max` gives is the larger
most : (m a b : ℕ) → m ≡ ord_max nat_cmp a b → m ≡ max a b
most m a b e = search rules

pub overflow_add-place : goal.overflow_add-place
overflow_add-place c =
    omega (arith, c.requires.0.inside, c.requires.0.few)

pub loop-at-init : goal.loop-at-init
loop-at-init c =
    fielded_begin c.args.text.now c.args.at c.requires.0.few c.requires.1

pub seen-field-requires : goal.seen-field-requires
seen-field-requires c =
    (c.requires.0.few, c.requires.0.room)

pub returns-then-field-eq0 : goal.returns-then-field-eq0
returns-then-field-eq0 c =
    fielded_missing c.args.text.now c.args.at c.loop-at.place c.loop-at.alignment c.loop-at.fixed
    c.requires.0.few c.loop-at.invariant c.seen-field.result
    (c.seen-field.ensures (c.args.at + 1) (omega (arith, c.loop-at.invariant.fielding.onward)) c.requires.0.table) c.if-field-eq0.true

pub overflow_add-place-then-stands : goal.overflow_add-place-then-stands
overflow_add-place-then-stands c =
    omega (
      arith,
      fits c.args.text.now c.next_of-place.result CloseStructure 41 c.requires.0.few
          (closes_structure _ _ (c.stands.ensures.here c.if-stands.true)) refl,
    )

pub pack-requires : goal.pack-requires
pack-requires c = (
  fits c.args.text.now c.next_of-place.result CloseStructure 41 c.requires.0.few
      (closes_structure _ _ (c.stands.ensures.here c.if-stands.true)) refl,
  fielded_most c.args.text.now c.args.at
      c.loop-at.place c.loop-at.alignment c.loop-at.fixed c.requires.0.few c.loop-at.invariant c.seen-field.result
      (known c.args.text.now c.loop-at.place c.seen-field.result
      (c.seen-field.ensures (c.args.at + 1) (omega (arith, c.loop-at.invariant.fielding.onward)) c.requires.0.table) c.if-field-eq0.false)
      c.next_of-place.result c.max-alignment.result _ c.next_of-place.ensures
      (most _ _ _ c.max-alignment.ensures ∙ ap (λ (x : ℕ). max c.loop-at.alignment x) c.alignment_of.ensures)
      (ap (λ (x : Bool). c.loop-at.fixed && x) c.fixed_of-fixed.ensures),
)

pub returns-then-stands : goal.returns-then-stands
returns-then-stands c =
    c.pack.ensures ∙ fielded_last c.args.text.now c.args.at c.loop-at.place c.loop-at.alignment c.loop-at.fixed
    c.requires.0.few c.loop-at.invariant c.seen-field.result
    (known c.args.text.now c.loop-at.place c.seen-field.result
    (c.seen-field.ensures (c.args.at + 1) (omega (arith, c.loop-at.invariant.fielding.onward)) c.requires.0.table) c.if-field-eq0.false)
    c.next_of-place.result c.max-alignment.result _ c.next_of-place.ensures
    (most _ _ _ c.max-alignment.ensures ∙ ap (λ (x : ℕ). max c.loop-at.alignment x) c.alignment_of.ensures)
    (ap (λ (x : Bool). c.loop-at.fixed && x) c.fixed_of-fixed.ensures)
    (closes_structure _ _ (c.stands.ensures.here c.if-stands.true))

pub loop-at-smaller : goal.loop-at-smaller
loop-at-smaller c =
    omega (
      arith,
      fielded_onward c.args.text.now c.args.at c.loop-at.place c.loop-at.alignment c.loop-at.fixed
          c.requires.0.few c.loop-at.invariant c.seen-field.result
          (known c.args.text.now c.loop-at.place c.seen-field.result
          (c.seen-field.ensures (c.args.at + 1) (omega (arith, c.loop-at.invariant.fielding.onward)) c.requires.0.table) c.if-field-eq0.false)
          c.next_of-place.result c.max-alignment.result _ c.next_of-place.ensures
          (most _ _ _ c.max-alignment.ensures ∙ ap (λ (x : ℕ). max c.loop-at.alignment x) c.alignment_of.ensures)
          (ap (λ (x : Bool). c.loop-at.fixed && x) c.fixed_of-fixed.ensures),
    )

pub loop-at-preserved : goal.loop-at-preserved
loop-at-preserved c =
    fielded_next c.args.text.now c.args.at c.loop-at.place c.loop-at.alignment c.loop-at.fixed c.requires.0.few
    c.loop-at.invariant c.seen-field.result (known c.args.text.now c.loop-at.place c.seen-field.result
    (c.seen-field.ensures (c.args.at + 1) (omega (arith, c.loop-at.invariant.fielding.onward)) c.requires.0.table) c.if-field-eq0.false)
    c.next_of-place.result c.max-alignment.result _ c.next_of-place.ensures
    (most _ _ _ c.max-alignment.ensures ∙ ap (λ (x : ℕ). max c.loop-at.alignment x) c.alignment_of.ensures)
    (ap (λ (x : Bool). c.loop-at.fixed && x) c.fixed_of-fixed.ensures)
    (not_cut _ _ CloseStructure 41 refl (c.stands.ensures.not c.if-stands.false))
