-- The needs of `dictionary::entry`, and what answers each.
use Rattle.meaning.proofs.RefusalLaws.{number_not_0}
use Rattle.reader_basic.proofs.Answers.{refused_at}
use Rattle.reader_steps.proofs.Deepening.{told}
use Rattle.reader_steps.proofs.Entries.{entry_padded, entry_within, step_keyed, step_text, step_unpadded}
use Rattle.reader_steps.proofs.Repeats.{keyed_as, value_within}
use Rattle.reader_steps.specs.Rides.{context_of}
use mathlib.Core.Path.{◌∙◌, refl, sym}
use native.Mathlib.Omega.{arith}
use Rattle.reader_cycle.proofs.+reading.Goals as goal

pub offset_bounds-shapes-at : goal.dictionary::entry-offset_bounds-shapes-at
offset_bounds-shapes-at t c =
    omega (arith, value_within c.args.text.now c.args.shapes.now c.args.at c.requires.0, c.requires.0.child.typed.short)

pub bounds-shapes-at : goal.dictionary::entry-bounds-shapes-at
bounds-shapes-at t c =
    omega (arith, value_within c.args.text.now c.args.shapes.now c.args.at c.requires.0, c.requires.0.child.typed.short)

pub padded-requires : goal.dictionary::entry-padded-requires
padded-requires t c =
    (c.requires.1.near, c.requires.1.in_frame, c.requires.2, c.requires.0.aligned)

pub returns-in_err-lead : goal.dictionary::entry-returns-in_err-lead
returns-in_err-lead t c =
    let s = c.in_err-lead.ensures in
    refused_at _ _ c.from_residual.ensures s (step_unpadded (entry_padded (context_of c.args.ride) c.args.part.now _ _ c.requires.0 refl c.requires.1 c.requires.2 (rw s.refusal at c.padded.ensures)) _ _ _ _ (number_not_0 _))

pub overflow_add-from : goal.dictionary::entry-overflow_add-from
overflow_add-from t c =
    omega (arith, entry_within (entry_padded (context_of c.args.ride) c.args.part.now _ _ c.requires.0 refl c.requires.1 c.requires.2 (rw c.in_ok-lead.ensures at c.padded.ensures)), c.requires.1.in_frame)

pub overflow_add-at : goal.dictionary::entry-overflow_add-at
overflow_add-at t c =
    omega (arith, value_within c.args.text.now c.args.shapes.now c.args.at c.requires.0, c.requires.0.child.typed.short)

pub bounds-text-at : goal.dictionary::entry-bounds-text-at
bounds-text-at t c =
    omega (arith, value_within c.args.text.now c.args.shapes.now c.args.at c.requires.0)

pub fixed_key-r-requires : goal.dictionary::entry-fixed_key-r-requires
fixed_key-r-requires t c = (
  omega (arith, c.decreases),
  (
    c.requires.0,
    c.requires.1,
    entry_within (entry_padded (context_of c.args.ride) c.args.part.now _ _ c.requires.0 refl c.requires.1 c.requires.2 (rw c.in_ok-lead.ensures at c.padded.ensures)),
    omega (arith, c.requires.3, c.requires.4),
    c.requires.5,
    sym (keyed_as c.args.text.now c.args.at (omega (arith, value_within c.args.text.now c.args.shapes.now c.args.at c.requires.0)) c.is_fixed.ensures) ∙ c.if-is_fixed.true,
  ),
)

pub behind-requires : goal.dictionary::entry-behind-requires
behind-requires t c =
    omega (arith, (c.fixed_key-r.ensures 0).fits, entry_within (entry_padded (context_of c.args.ride) c.args.part.now _ _ c.requires.0 refl c.requires.1 c.requires.2 (rw c.in_ok-lead.ensures at c.padded.ensures)), c.requires.1.in_frame)

pub returns-then-is_fixed : goal.dictionary::entry-returns-then-is_fixed
returns-then-is_fixed t c =
    told c.behind.ensures (step_keyed (entry_padded (context_of c.args.ride) c.args.part.now _ _ c.requires.0 refl c.requires.1 c.requires.2 (rw c.in_ok-lead.ensures at c.padded.ensures)) _ _ _ _
    refl _ _ (sym (keyed_as c.args.text.now c.args.at (omega (arith, value_within c.args.text.now c.args.shapes.now c.args.at c.requires.0))
    c.is_fixed.ensures) ∙ c.if-is_fixed.true)
    (c.fixed_key-r.ensures _))

pub text_key-r-requires : goal.dictionary::entry-text_key-r-requires
text_key-r-requires t c = (
  omega (arith, c.decreases),
  (c.requires.0, c.requires.1, entry_within (entry_padded (context_of c.args.ride) c.args.part.now _ _ c.requires.0 refl c.requires.1 c.requires.2 (rw c.in_ok-lead.ensures at c.padded.ensures)), c.requires.3, c.requires.4),
)

pub behind-requires-2 : goal.dictionary::entry-behind-requires-2
behind-requires-2 t c =
    omega (arith, c.text_key-r.ensures.fits, entry_within (entry_padded (context_of c.args.ride) c.args.part.now _ _ c.requires.0 refl c.requires.1 c.requires.2 (rw c.in_ok-lead.ensures at c.padded.ensures)), c.requires.1.in_frame)

pub returns : goal.dictionary::entry-returns
returns t c =
    told c.behind-2.ensures (step_text (entry_padded (context_of c.args.ride) c.args.part.now _ _ c.requires.0 refl c.requires.1 c.requires.2 (rw c.in_ok-lead.ensures at c.padded.ensures)) _ _ _ _
    refl _ _ (sym (keyed_as c.args.text.now c.args.at (omega (arith, value_within c.args.text.now c.args.shapes.now c.args.at c.requires.0))
    c.is_fixed.ensures) ∙ c.if-is_fixed.false)
    c.text_key-r.ensures)
