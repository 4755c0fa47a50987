-- `store` meets its contract. Assumes nothing.
use mathlib.Core.Path.{refl, sym}
use native.Mathlib.Omega.{arith}
use lib.Seq.{length-take-le}
use Rattle.meaning.proofs.RefusalLaws.{number_not_0}
use Rattle.editor_change.proofs.Tails.{copied}
use Rattle.editor_change.proofs.Changes.{copied_frame, not_refused, place_inside, change_longer, change_shorter}
use Rattle.editor_change.proofs.store.Goals as goal

pub slice_bounds-put_part-end-2 : goal.slice_bounds-put_part-end-2
slice_bounds-put_part-end-2 c =
    sym (length-take-le _ _ c.requires.1.is.held.roomy)

pub slice_bounds-whole-end-2 : goal.slice_bounds-whole-end-2
slice_bounds-whole-end-2 c =
    let n = c.put_part.auto.out in
    sym (length-take-le _ _ (omega (arith, c.requires.0)))

pub slice_bounds-whole-count : goal.slice_bounds-whole-count
slice_bounds-whole-count c =
    let p = place_inside c.requires.1.is
    (λ j. omega (arith, c.slice_known-2-1.given j))
    c.requires.1.fits in
    omega (arith, c.requires.1.is.held.roomy)

pub slice_bounds-whole-start : goal.slice_bounds-whole-start
slice_bounds-whole-start c =
    let p = place_inside c.requires.1.is
    (λ j. omega (arith, c.slice_known-2-1.given j))
    c.requires.1.fits in
    omega (arith, c.requires.1.is.held.roomy)

pub whole-requires : goal.whole-requires
whole-requires c =
    copied_frame c.requires.1.is.held.frame
    (copied _ _ _ c.put_part.ensures
    c.requires.1.is.held.roomy
    c.requires.0)

pub returns-in_err-whole : goal.returns-in_err-whole
returns-in_err-whole c =
    absurd (number_not_0 c.in_err-whole.field-0.0 (not_refused c.requires.1.is
    (λ j. omega (arith, c.slice_known-2-1.given j))
    c.requires.1.fits
    (copied _ _ _ c.put_part.ensures
    c.requires.1.is.held.roomy
    c.requires.0)
    c.in_err-whole.ensures refl))

pub returns-then-length-used : goal.returns-then-length-used
returns-then-length-used c =
    change_shorter c.requires.1.is
    (λ j. omega (arith, c.slice_known-2-1.given j))
    c.requires.1.fits
    (copied _ _ _ c.put_part.ensures
    c.requires.1.is.held.roomy
    c.requires.0)
    c.whole.ensures
    c.put_zeros.ensures
    c.if-length-used.true

pub returns-else-length-used : goal.returns-else-length-used
returns-else-length-used c =
    change_longer c.requires.1.is
    (λ j. omega (arith, c.slice_known-2-1.given j))
    c.requires.1.fits
    (copied _ _ _ c.put_part.ensures
    c.requires.1.is.held.roomy
    c.requires.0)
    c.whole.ensures
    c.if-length-used.false
