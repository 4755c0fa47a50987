-- The needs of `dictionary::entry`, and what answers each.
use Rattle.meaning.proofs.TypeLaws.{basic_aligned}
use Rattle.meaning.specs.Depths.{none_open}
use Rattle.meaning.specs.Types.{basic_alignment}
use Rattle.meaning_writing.proofs.EmitLaws.{emit_alignment}
use Rattle.signature.proofs.TreeLaws.{described_aligned, described_alignment}
use Rattle.meaning.proofs.RefusalLaws.{number_not_0}
use Rattle.writer_basic.proofs.Answers.{bounds, refused_on}
use Rattle.writer_basic.specs.Wrote.{key_basic}
use Rattle.writer_cycle.proofs.EntryRows.{entry_key, entry_no_ends, entry_row, entry_structured, item_as_entry, item_key_stop, item_value_stop, kept_few}
use Rattle.writer_cycle.proofs.Spots.{placed_as, value_as}
use mathlib.Core.List.{[]}
use mathlib.Core.Path.{◌∙◌, refl, sym}
use native.Mathlib.Omega.{arith}
use Rattle.writer_cycle.proofs.+writing.Goals as goal

pub returns-in_err-key : goal.dictionary::entry-returns-in_err-key
returns-in_err-key t c =
    refused_on _ _ c.from_residual.ensures (item_key_stop _ _ _ _ _ _ _ _ _ _ _ _ _ _ _ c.requires.1 (c.in_err-key.ensures _ _ _) (number_not_0 _))

pub overflow_add-start : goal.dictionary::entry-overflow_add-start
overflow_add-start t c =
    omega (arith, (bounds refl (c.in_ok-key.ensures none_open 0 [])).small, c.requires.3.near)

pub pad-padding-requires : goal.dictionary::entry-pad-padding-requires
pad-padding-requires t c =
    (omega (arith, (bounds refl (c.in_ok-key.ensures none_open 0 [])).small, c.requires.3.near), described_aligned c.requires.0.child)

pub overflow_add-first : goal.dictionary::entry-overflow_add-first
overflow_add-first t c =
    omega (arith, (bounds refl (c.in_ok-key.ensures none_open 0 [])).small, c.pad-padding.ensures.count.1)

pub child_spot-here-requires : goal.dictionary::entry-child_spot-here-requires
child_spot-here-requires t c =
    (c.requires.3.near, c.requires.3.few, omega (arith, (bounds refl (c.in_ok-key.ensures none_open 0 [])).small, c.pad-padding.ensures.count.1), kept_few _ _ _ _ _ _ _ _ c.keep-count.ensures)

pub value-requires : goal.dictionary::entry-value-requires
value-requires t c =
    (omega (arith, c.decreases), (c.requires.0.child, c.requires.2, placed_as c.child_spot-here.ensures (bounds refl (c.in_ok-key.ensures none_open 0 [])).within (omega arith) (omega arith)))

pub returns-in_err-held : goal.dictionary::entry-returns-in_err-held
returns-in_err-held t c =
    refused_on _ _ c.from_residual-in_err-held.ensures (item_value_stop _ _ _ _ _ _ _ _ _ _ _ _ _ _ _ _ _ _ _ _ _ c.requires.1 (c.in_ok-key.ensures _ 0 []) refl _ _ _ _ (value_as c.child_spot-here.ensures _ _ _ _ _ c.in_err-held.ensures) (number_not_0 _))

pub overflow_add-first-2 : goal.dictionary::entry-overflow_add-first-2
overflow_add-first-2 t c =
    omega (arith, (bounds refl (c.in_ok-key.ensures none_open 0 [])).small, c.pad-padding.ensures.count.1)

pub add-requires : goal.dictionary::entry-add-requires
add-requires t c =
    (omega (arith, (bounds refl (c.in_ok-key.ensures none_open 0 [])).small, c.pad-padding.ensures.count.1), let q = bounds refl c.in_ok-held.ensures in omega (arith, q.small))

pub returns : goal.dictionary::entry-returns
returns t c =
    item_as_entry _ _ _ _ _ _ _ _ _ _ _ _ _ _ _ c.requires.1
    (c.structure_end.ensures _ _ _ _ _ _ _ (entry_structured _ _)
    (λ f. entry_no_ends c.args.item.alignment c.args.item.fixed _ _ _ _ _ c.args.events.now c.args.spot.next (c.requires.0.whole c.requires.1 f))
    (λ z. (omega (arith, (bounds refl (value_as c.child_spot-here.ensures _ _ _ _ _ c.in_ok-held.ensures)).forward, (bounds refl (c.in_ok-key.ensures none_open 0 [])).forward)))
    (omega (arith, c.value.auto.out, c.value.auto.ends, c.pad-padding.auto.out, c.keep-count.auto.out, c.keep-count.auto.ends, c.basic_value.auto.out))
    (omega (arith, c.value.auto.out, c.value.auto.ends, c.pad-padding.auto.out, c.keep-count.auto.out, c.keep-count.auto.ends, c.basic_value.auto.out))
    (entry_row _ _ _ _ _ _ _ _ _ _ _ _ _ _ _ _ _ (basic_alignment (key_basic c.args.item.key)) _ _ _ _ _ _ _ (c.in_ok-key.ensures _ _ _) refl c.keep-count.ensures
    (basic_aligned (key_basic c.args.item.key)) (λ x y e. entry_key _ _ _ _ _ _ (c.requires.0.keyed c.requires.1) e)
    (λ x y e. emit_alignment _ _ _ _ _ _ x y e ∙ sym (described_alignment c.requires.0.child)) c.pad-padding.ensures.count.0 c.pad-padding.ensures.bytes refl refl
    (value_as c.child_spot-here.ensures _ _ _ _ _ c.in_ok-held.ensures) refl c.add.ensures c.requires.3.near c.requires.3.few
    (omega (arith, c.basic_value.auto.out)) (omega (arith, c.keep-count.auto.out, c.keep-count.auto.ends, c.basic_value.auto.out))
    (omega (arith, c.value.auto.out, c.value.auto.ends, c.pad-padding.auto.out, c.keep-count.auto.out, c.keep-count.auto.ends, c.basic_value.auto.out))
    (omega (arith, c.keep-count.auto.out, c.keep-count.auto.ends)) (omega (arith, c.value.auto.out, c.value.auto.ends, c.keep-count.auto.out, c.keep-count.auto.ends))))
