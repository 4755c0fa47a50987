-- The needs of `dictionary·fixed_key`, and what answers each.
use Rattle.meaning.proofs.RefusalLaws.{number_not_0}
use Rattle.reader_basic.proofs.Answers.{told_by, handed_on}
use Prim.Native.Nat.{◌+◌}
use Rattle.container_depths.specs.Opening.{depths_of}
use Rattle.reader_basic.proofs.Leaves.{child_before, within_child}
use Rattle.reader_steps.proofs.Characters.{key_read, part_fits}
use Rattle.reader_steps.proofs.Deepening.{told}
use Rattle.reader_steps.proofs.Entries.{fixed_key_padded, fixed_key_stop, fixed_key_value}
use Rattle.reader_steps.proofs.Repeats.{and_second, value_within}
use Rattle.reader_steps.specs.Rides.{context_of}
use mathlib.Core.Path.{refl}
use native.Mathlib.Omega.{arith}
use Rattle.reader_cycle.proofs.+reading.Goals as goal

pub returns-then-e-j : goal.dictionary::fixed_key-returns-then-e-j
returns-then-e-j t c =
    λ b. told_by c.refused.ensures (fixed_key_stop _ _ _ _ _ _ _ _ b _ _ _ _ _ _ (child_before _ _ _ _ _ _ _ _ _ c.if-e-j.true) (λ z. omega arith))

pub overflow_add-at : goal.dictionary::fixed_key-overflow_add-at
overflow_add-at t c =
    omega (arith, value_within c.args.text.now c.args.shapes.now c.args.at c.requires.0, c.requires.0.child.typed.short)

pub bounds-text-at : goal.dictionary::fixed_key-bounds-text-at
bounds-text-at t c =
    omega (arith, value_within c.args.text.now c.args.shapes.now c.args.at c.requires.0)

pub leaf-requires : goal.dictionary::fixed_key-leaf-requires
leaf-requires t c =
    within_child _ _ _ c.requires.1 c.if-e-j.false c.requires.3

pub returns-in_err-k : goal.dictionary::fixed_key-returns-in_err-k
returns-in_err-k t c =
    let key = key_read c.args.text.now (c.args.at + 2) (omega (arith, value_within c.args.text.now c.args.shapes.now c.args.at c.requires.0)) (context_of c.args.ride).position (context_of c.args.ride).big
    c.args.place c.args.part.now c.args.j c.args.e _ _ _ _ c.if-e-j.false c.requires.3 c.in_err-k.ensures (depths_of (context_of c.args.ride).depths) in
    λ b. handed_on _ _ c.from_residual.ensures (fixed_key_stop _ _ _ _ _ _ _ _ b _ _ _ _ _ _ key (number_not_0 _))

pub overflow_add-from : goal.dictionary::fixed_key-overflow_add-from
overflow_add-from t c =
    omega (arith, part_fits c.args.part.now c.args.j c.args.e (c.in_ok-k.ensures (depths_of (context_of c.args.ride).depths)).fits, c.requires.1.in_frame, c.requires.2)

pub overflow_add-at-2 : goal.dictionary::fixed_key-overflow_add-at-2
overflow_add-at-2 t c =
    omega (arith, value_within c.args.text.now c.args.shapes.now c.args.at c.requires.0, c.requires.0.child.typed.short)

pub value-v-requires : goal.dictionary::fixed_key-value-v-requires
value-v-requires t c =
    (omega (arith, c.decreases), (c.requires.0.child, c.requires.1, omega (arith, part_fits c.args.part.now c.args.j c.args.e (c.in_ok-k.ensures (depths_of (context_of c.args.ride).depths)).fits, c.requires.2)))

pub overflow_add-at-3 : goal.dictionary::fixed_key-overflow_add-at-3
overflow_add-at-3 t c =
    omega (arith, value_within c.args.text.now c.args.shapes.now c.args.at c.requires.0, c.requires.0.child.typed.short)

pub offset_bounds-shapes-at : goal.dictionary::fixed_key-offset_bounds-shapes-at
offset_bounds-shapes-at t c =
    omega (arith, value_within c.args.text.now c.args.shapes.now c.args.at c.requires.0, c.requires.0.child.typed.short)

pub bounds-shapes-at : goal.dictionary::fixed_key-bounds-shapes-at
bounds-shapes-at t c =
    omega (arith, value_within c.args.text.now c.args.shapes.now c.args.at c.requires.0, c.requires.0.child.typed.short)

pub end_padded-r-requires : goal.dictionary::fixed_key-end_padded-r-requires
end_padded-r-requires t c = (
  c.requires.1.in_frame,
  c.requires.1.near,
  omega (
    arith,
    part_fits c.args.part.now c.args.j c.args.e (c.in_ok-k.ensures (depths_of (context_of
        c.args.ride).depths)).fits,
    c.value-v.ensures.fits,
    c.requires.2,
  ),
  c.requires.0.aligned,
)

pub behind-requires : goal.dictionary::fixed_key-behind-requires
behind-requires t c =
    omega (arith, part_fits c.args.part.now c.args.j c.args.e (c.in_ok-k.ensures (depths_of (context_of c.args.ride).depths)).fits, (c.end_padded-r.ensures _ _ _ _ _ _ refl c.value-v.ensures).fits, c.requires.1.in_frame)

pub returns-then-fixed_of : goal.dictionary::fixed_key-returns-then-fixed_of
returns-then-fixed_of t c =
    let key = key_read c.args.text.now (c.args.at + 2) (omega (arith, value_within c.args.text.now c.args.shapes.now c.args.at c.requires.0)) (context_of c.args.ride).position (context_of c.args.ride).big
    c.args.place c.args.part.now c.args.j c.args.e _ _ _ _ c.if-e-j.false c.requires.3 c.in_ok-k.ensures (depths_of (context_of c.args.ride).depths) in
    λ b. told c.behind.ensures (fixed_key_padded _ _ _ _ _ _ _ _ b _ _ _ _ _ _ key refl _ _ c.value-v.ensures _ (and_second c.requires.5 c.fixed_of.ensures
    c.if-fixed_of.true) (c.requires.4 (and_second c.requires.5 c.fixed_of.ensures c.if-fixed_of.true)) c.end_padded-r.ensures)

pub behind-requires-2 : goal.dictionary::fixed_key-behind-requires-2
behind-requires-2 t c =
    omega (arith, part_fits c.args.part.now c.args.j c.args.e (c.in_ok-k.ensures (depths_of (context_of c.args.ride).depths)).fits, c.value-v.ensures.fits, c.requires.1.in_frame)

pub returns : goal.dictionary::fixed_key-returns
returns t c =
    let key = key_read c.args.text.now (c.args.at + 2) (omega (arith, value_within c.args.text.now c.args.shapes.now c.args.at c.requires.0)) (context_of c.args.ride).position (context_of c.args.ride).big
    c.args.place c.args.part.now c.args.j c.args.e _ _ _ _ c.if-e-j.false c.requires.3 c.in_ok-k.ensures (depths_of (context_of c.args.ride).depths) in
    λ b. told c.behind-2.ensures (fixed_key_value _ _ _ _ _ _ _ _ b _ _ _ _ _ _ key refl _ _ c.value-v.ensures (and_second c.requires.5 c.fixed_of.ensures c.if-fixed_of.false))
