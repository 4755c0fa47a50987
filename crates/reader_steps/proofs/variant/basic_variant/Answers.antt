-- `reader_steps::variant::basic_variant` meets its contract. Assumes nothing.
use Rattle.reader_steps.proofs.Variants.{basic_deep, basic_closed}
use Rattle.reader_steps.proofs.Deepening.{inside_deeper, few_variants}
use Rattle.reader_steps.proofs.Characters.{leaf_child}
use Rattle.std.proofs.Common.{◌-◌, refl, arith}
use Rattle.container_depths.specs.Opening.{depths_of}
use Rattle.meaning.proofs.RefusalLaws.{number_not_0}
use Rattle.reader_steps.specs.Rides.{context_of}
use Rattle.reader_basic.proofs.Answers.{refused_at}
use Rattle.reader_basic.proofs.Leaves.{within_child}
use Rattle.reader_steps.proofs.variant.basic_variant.Goals as goal

pub in_variant-requires : goal.in_variant-requires
in_variant-requires c =
    c.requires.0.shallow

pub returns-in_err-deeper : goal.returns-in_err-deeper
returns-in_err-deeper c =
    let s = c.in_err-deeper.ensures in
    refused_at _ _ c.from_residual.ensures s (basic_deep _ _ _ _ _ _ _ _ c.requires.1 _ _ c.emit-m.ensures.counted c.emit-m.ensures.written _ _
    c.emit-g.ensures.counted c.emit-g.ensures.written (rw s.refusal at c.in_variant.ensures) (number_not_0 _))

pub leaf-r-requires : goal.leaf-r-requires
leaf-r-requires c =
    let d = (rw c.in_ok-deeper.ensures at c.in_variant.ensures).deeper refl in
    within_child c.args.part.now c.args.lead (c.args.from - 1) (inside_deeper d c.requires.0) (omega (arith, c.requires.1.there)) (omega (arith, c.requires.1.inside))

pub close_variant-requires : goal.close_variant-requires
close_variant-requires c =
    (c.requires.0.in_frame, omega (arith, c.requires.1.there, c.requires.1.inside))

pub returns : goal.returns
returns c =
    let d = (rw c.in_ok-deeper.ensures at c.in_variant.ensures).deeper refl in
    basic_closed _ _ _ _ _ _ _ _ c.requires.1 _ _ c.emit-m.ensures.counted c.emit-m.ensures.written _ _ c.emit-g.ensures.counted
    c.emit-g.ensures.written d (few_variants c.requires.0) _ _
    (c.close_variant.ensures _ _ _ _ (leaf_child c.args.kind (context_of c.in_ok-deeper.deeper).position (context_of c.in_ok-deeper.deeper).big
    c.args.place c.args.part.now c.args.lead (c.args.from - 1) _ _ _ _ (omega (arith, c.requires.1.there)) (omega (arith, c.requires.1.inside))
    c.leaf-r.ensures (depths_of (context_of c.in_ok-deeper.deeper).depths)))
