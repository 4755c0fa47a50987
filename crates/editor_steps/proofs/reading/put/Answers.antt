-- `put` meets its contract. Assumes nothing.
use mathlib.Core.Path.{refl, sym, ◌∙◌}
use native.Mathlib.Omega.{arith}
use Rattle.meaning.proofs.RefusalLaws.{number_not_0}
use Rattle.editor_steps.proofs.ReadingLaws.{bars_value, bars_depth, slot_refused, put_made, width_fits}
use Rattle.editor_steps.proofs.reading.put.Goals as goal

pub returns-then-not-spells : goal.returns-then-not-spells
returns-then-not-spells c =
    record { is = λ u s q l a fx t. slot_refused c.args.big s a fx t _ _ l _ _ _ _ _ 17 (omega arith) refl (λ z. absurd (omega arith)) (bars_value s _ _ c.args.kind c.args.bits q (sym c.if-not-spells.ensures)) }

pub returns-in_default : goal.returns-in_default
returns-in_default c =
    record {
      is = λ u s q l a fx t. slot_refused c.args.big s a fx t _ _ l _ _ _ _ _ 12 (omega arith) refl (λ z. absurd (omega arith))
          (bars_depth s _ _ c.args.kind c.args.bits q (sym c.if-not-spells.ensures) (λ z. number_not_0 c.in_default.field-0 (c.in_default.ensures.refusal ∙ z)));
    }

pub returns : goal.returns
returns c =
    record {
      is = λ u s q l a fx t. put_made c.args.big s a fx t _ _ l _ _ _ _ c.args.kind c.args.bits _ q (sym c.if-not-spells.ensures) (sym c.in-Ok.ensures.refusal)
          c.extent_of-length.ensures (width_fits c.args.kind c.requires _ c.extent_of-length.ensures c.args.d) refl c.put_number.ensures;
    }
