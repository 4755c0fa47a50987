-- The needs of `dictionary·text_key`, and what answers each.
use mathlib.Core.Path.{refl}
use Rattle.meaning.proofs.RefusalLaws.{number_not_0}
use Rattle.reader_basic.proofs.Answers.{told_by, refused_at, handed_on}
use Prim.Native.Nat.{◌+◌, ◌-◌}
use Rattle.container_depths.specs.Opening.{depths_of}
use Rattle.reader_basic.proofs.Leaves.{within_child}
use Rattle.reader_steps.proofs.Characters.{key_read, part_fits}
use Rattle.reader_steps.proofs.Deepening.{told}
use Rattle.reader_steps.proofs.Entries.{key_there, text_key_missing, text_key_narrow, text_key_stop, text_key_value}
use Rattle.reader_steps.proofs.Repeats.{value_within}
use Rattle.reader_steps.proofs.Structures.{width_small}
use Rattle.reader_steps.specs.Rides.{context_of}
use lib.ListN.{length}
use native.Mathlib.Omega.{arith}
use Rattle.reader_cycle.proofs.+reading.Goals as goal

pub key_ends-requires : goal.dictionary::text_key-key_ends-requires
key_ends-requires t c =
    (c.requires.3, c.requires.4, omega (arith, c.requires.1.in_frame))

pub returns-in_err-ends : goal.dictionary::text_key-returns-in_err-ends
returns-in_err-ends t c =
    let s = c.in_err-ends.ensures in
    refused_at _ _ c.from_residual.ensures s (text_key_missing _ _ _ _ _ (rw s.refusal at c.key_ends.ensures) _ _ _ _ _ _ _ _ _ (number_not_0 _))

pub overflow_add-at : goal.dictionary::text_key-overflow_add-at
overflow_add-at t c =
    omega (arith, value_within c.args.text.now c.args.shapes.now c.args.at c.requires.0, c.requires.0.child.typed.short)

pub bounds-text-at : goal.dictionary::text_key-bounds-text-at
bounds-text-at t c =
    omega (arith, value_within c.args.text.now c.args.shapes.now c.args.at c.requires.0)

pub slice_bounds-leaf-count : goal.dictionary::text_key-slice_bounds-leaf-count
slice_bounds-leaf-count t c =
    omega (arith, (key_there _ _ _ _ _ (rw c.in_ok-ends.ensures at c.key_ends.ensures) refl).end)

pub slice_bounds-leaf-start : goal.dictionary::text_key-slice_bounds-leaf-start
slice_bounds-leaf-start t c =
    omega (arith, (key_there _ _ _ _ _ (rw c.in_ok-ends.ensures at c.key_ends.ensures) refl).end, (key_there _ _ _ _ _ (rw c.in_ok-ends.ensures at c.key_ends.ensures) refl).within, c.requires.4)

pub slice_bounds-leaf-end : goal.dictionary::text_key-slice_bounds-leaf-end
slice_bounds-leaf-end t c =
    omega (arith, (key_there _ _ _ _ _ (rw c.in_ok-ends.ensures at c.key_ends.ensures) refl).end, (key_there _ _ _ _ _ (rw c.in_ok-ends.ensures at c.key_ends.ensures) refl).within, c.requires.4)

pub leaf-requires : goal.dictionary::text_key-leaf-requires
leaf-requires t c =
    within_child c.args.part.now c.args.j c.in_ok-ends.ends.child c.requires.1 (omega (arith, (key_there _ _ _ _ _ (rw c.in_ok-ends.ensures at c.key_ends.ensures) refl).end))
    (omega (arith, (key_there _ _ _ _ _ (rw c.in_ok-ends.ensures at c.key_ends.ensures) refl).within, c.requires.4))

pub returns-in_err-k : goal.dictionary::text_key-returns-in_err-k
returns-in_err-k t c =
    let key = key_read c.args.text.now (c.args.at + 2) (omega (arith, value_within c.args.text.now c.args.shapes.now c.args.at c.requires.0)) (context_of c.args.ride).position (context_of c.args.ride).big
    c.args.place c.args.part.now c.args.j c.in_ok-ends.ends.child _ _ _ _ (omega (arith, (key_there _ _ _ _ _ (rw c.in_ok-ends.ensures at c.key_ends.ensures) refl).end)) (omega
    (arith, (key_there _ _ _ _ _ (rw c.in_ok-ends.ensures at c.key_ends.ensures) refl).within, c.requires.4)) c.in_err-k.ensures (depths_of (context_of c.args.ride).depths) in
    handed_on _ _ c.from_residual-in_err-k.ensures (text_key_stop _ _ _ _ _ _ _ (key_there _ _ _ _ _ (rw c.in_ok-ends.ensures at c.key_ends.ensures) refl) _ _ c.requires.3 c.requires.4 _ _ key (number_not_0 _))

pub overflow_add-from : goal.dictionary::text_key-overflow_add-from
overflow_add-from t c =
    omega (arith, part_fits c.args.part.now c.args.j c.in_ok-ends.ends.child (c.in_ok-k.ensures (depths_of (context_of c.args.ride).depths)).fits, c.requires.1.in_frame, c.requires.2)

pub overflow_add-from-2 : goal.dictionary::text_key-overflow_add-from-2
overflow_add-from-2 t c =
    omega (
      arith,
      part_fits c.args.part.now c.args.j c.in_ok-ends.ends.child (c.in_ok-k.ensures (depths_of (context_of c.args.ride).depths)).fits,
      c.requires.1.in_frame,
      c.requires.2,
      (key_there _ _ _ _ _ (rw c.in_ok-ends.ensures at c.key_ends.ensures) refl).width,
      width_small (c.args.e - c.args.j)
          (omega (arith, c.requires.1.in_frame, c.requires.3, c.requires.4)),
    )

pub returns-then-e-from : goal.dictionary::text_key-returns-then-e-from
returns-then-e-from t c =
    let key = key_read c.args.text.now (c.args.at + 2) (omega (arith, value_within c.args.text.now c.args.shapes.now c.args.at c.requires.0)) (context_of c.args.ride).position (context_of c.args.ride).big
    c.args.place c.args.part.now c.args.j c.in_ok-ends.ends.child _ _ _ _ (omega (arith, (key_there _ _ _ _ _ (rw c.in_ok-ends.ensures at c.key_ends.ensures) refl).end)) (omega
    (arith, (key_there _ _ _ _ _ (rw c.in_ok-ends.ensures at c.key_ends.ensures) refl).within, c.requires.4)) c.in_ok-k.ensures (depths_of (context_of c.args.ride).depths) in
    told_by c.refused.ensures (text_key_narrow _ _ _ _ _ _ _ (key_there _ _ _ _ _ (rw c.in_ok-ends.ensures at c.key_ends.ensures) refl) _ _ c.requires.3 c.requires.4 _ _ key refl c.if-e-from.true)

pub overflow_add-at-2 : goal.dictionary::text_key-overflow_add-at-2
overflow_add-at-2 t c =
    omega (arith, value_within c.args.text.now c.args.shapes.now c.args.at c.requires.0, c.requires.0.child.typed.short)

pub value-v-requires : goal.dictionary::text_key-value-v-requires
value-v-requires t c =
    (omega (arith, c.decreases), (c.requires.0.child, c.requires.1, omega (arith, part_fits c.args.part.now c.args.j c.in_ok-ends.ends.child (c.in_ok-k.ensures (depths_of (context_of c.args.ride).depths)).fits, c.requires.2)))

pub past-r-requires : goal.dictionary::text_key-past-r-requires
past-r-requires t c =
    omega (arith, c.value-v.ensures.fits, c.requires.1.in_frame, (key_there _ _ _ _ _ (rw c.in_ok-ends.ensures at c.key_ends.ensures) refl).width, width_small (c.args.e - c.args.j) (omega (arith, c.requires.1.in_frame, c.requires.3, c.requires.4)))

pub behind-requires : goal.dictionary::text_key-behind-requires
behind-requires t c =
    omega (
      arith,
      part_fits c.args.part.now c.args.j c.in_ok-ends.ends.child (c.in_ok-k.ensures (depths_of (context_of c.args.ride).depths)).fits,
      (c.past-r.ensures _
          (c.args.e - (c.args.j + c.in_ok-k.k.used)) _
          (length c.args.part.now - (c.args.j + c.in_ok-k.k.used)) _ _ _
          (λ x. omega (arith, c.value-v.ensures.ends x, c.if-e-from.false)) (omega (arith, c.requires.3, c.requires.4))
          c.value-v.ensures).fits,
      c.requires.1.in_frame,
      c.requires.2,
    )

pub returns : goal.dictionary::text_key-returns
returns t c =
    let key = key_read c.args.text.now (c.args.at + 2) (omega (arith, value_within c.args.text.now c.args.shapes.now c.args.at c.requires.0)) (context_of c.args.ride).position (context_of c.args.ride).big
    c.args.place c.args.part.now c.args.j c.in_ok-ends.ends.child _ _ _ _ (omega (arith, (key_there _ _ _ _ _ (rw c.in_ok-ends.ensures at c.key_ends.ensures) refl).end)) (omega
    (arith, (key_there _ _ _ _ _ (rw c.in_ok-ends.ensures at c.key_ends.ensures) refl).within, c.requires.4)) c.in_ok-k.ensures (depths_of (context_of c.args.ride).depths) in
    told c.behind.ensures (text_key_value _ _ _ _ _ _ _ (key_there _ _ _ _ _ (rw c.in_ok-ends.ensures at c.key_ends.ensures) refl) _ _ c.requires.3 c.requires.4 _ _ key refl c.if-e-from.false _ _ _
    c.value-v.ensures c.past-r.ensures)
