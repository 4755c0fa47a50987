-- `reader_steps::variant::only_basic` meets its contract. Assumes nothing.
use Rattle.std.proofs.Common.{sym, ◌∙◌, arith}
use Rattle.signature.proofs.Letters.{letter_some}
use Rattle.reader_steps.proofs.Characters.{fixed_key_lem, text_key_lem}
use Rattle.reader_steps.proofs.Variants.{only_one, only_by}
use Rattle.reader_steps.proofs.variant.only_basic.Goals as goal
use Rattle.reader_steps.proofs.variant.only_basic.Goals.{then-is_fixed, else-is_fixed}

pub returns : goal.returns
returns c =
    let letter = sym (letter_some c.args.text.now 0 (omega (arith, c.if-text-ne1.false))) ∙ only_one c.args.text.now c.if-text-ne1.false in
    rw c.then_some.ensures (elim c.if-is_fixed.branch [
      | then-is_fixed w ↦ only_by _ _ _ (λ q. (letter, fixed_key_lem _ (sym w.if-is_fixed.true ∙ c.is_fixed.ensures)))
      | else-is_fixed w ↦ only_by _ _ _ (λ q. (letter, text_key_lem _ (sym (sym w.then_some-is ∙ q) ∙ w.is_text.ensures)))
    ])
