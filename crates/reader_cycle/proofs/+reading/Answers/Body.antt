-- The needs of `body`, and what answers each.
use Rattle.reader_steps.proofs.Characters.{code_array, code_maybe, code_structure, code_variant, typed_within, variant_else}
use Rattle.reader_steps.proofs.Readers.{body_variant, reads_variant}
use native.Mathlib.Omega.{arith}
use Rattle.reader_cycle.proofs.+reading.Goals as goal

pub bounds-text-at : goal.body-bounds-text-at
bounds-text-at t c =
    omega (arith, typed_within c.requires.0.typed)

pub maybe-requires : goal.body-maybe-requires
maybe-requires t c =
    (omega (arith, c.decreases), (c.requires.0, code_maybe _ _ (typed_within c.requires.0.typed) c.in-109.is, c.requires.1, c.requires.3))

pub array-requires : goal.body-array-requires
array-requires t c =
    (omega (arith, c.decreases), (c.requires.0, code_array _ _ (typed_within c.requires.0.typed) c.in-97.is, c.requires.1, c.requires.3))

pub structure-requires : goal.body-structure-requires
structure-requires t c =
    (omega (arith, c.decreases), (c.requires.0, code_structure _ _ (typed_within c.requires.0.typed) c.in-40.is, c.requires.1, c.requires.3))

pub variant-requires : goal.body-variant-requires
variant-requires t c =
    (omega (arith, c.decreases), (c.requires.1, c.requires.3))

pub variant-requires-in_default : goal.body-variant-requires-in_default
variant-requires-in_default t c =
    (omega (arith, c.decreases), (c.requires.1, c.requires.3))

pub returns-in-109 : goal.body-returns-in-109
returns-in-109 t c = c.maybe.ensures

pub returns-in-97 : goal.body-returns-in-97
returns-in-97 t c = c.array.ensures

pub returns-in-40 : goal.body-returns-in-40
returns-in-40 t c = c.structure.ensures

pub returns-in-118 : goal.body-returns-in-118
returns-in-118 t c =
    body_variant c.args.text.now c.args.at _ _ _ _ _ _ _ _ _ _ _ _ (reads_variant _ _ c.requires.0.typed (code_variant _ _ (typed_within c.requires.0.typed) c.in-118.is)) c.variant.ensures

pub returns-in_default : goal.body-returns-in_default
returns-in_default t c =
    let rest = c.in_default.in_default-own.rest in
    body_variant c.args.text.now c.args.at _ _ _ _ _ _ _ _ _ _ _ _ (variant_else c.requires.0.typed c.requires.2 rest.0.0.0.1 rest.0.0.1 rest.0.1) c.variant-in_default.ensures
