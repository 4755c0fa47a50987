-- `reader_steps::codes::leaf` meets its contract. Assumes nothing.
use Rattle.std.proofs.Common.{sym, ◌∙◌}
use Rattle.reader_steps.proofs.Characters.{byte_code, number_code, code_aligned, text_code, leaf_as, leaf_bool}
use Rattle.reader_steps.proofs.Rides.{inside_as, number_as}
use Rattle.reader_steps.proofs.codes.leaf.Goals as goal

pub returns-then-code-eq121 : goal.returns-then-code-eq121
returns-then-code-eq121 c = leaf_as _ _ _ _ _ _ _ _ _ _ (byte_code _ c.if-code-eq121.true) (c.byte.ensures _ _)

pub number-requires : goal.number-requires
number-requires c =
    (inside_as c.context_of-context.ensures c.requires, code_aligned _ _ c.in-Some.ensures.0 c.in-Some.ensures.1)

pub returns-in-Some : goal.returns-in-Some
returns-in-Some c =
    leaf_as _ _ _ _ _ _ _ _ _ _ (number_code _ _ c.in-Some.ensures.0 c.in-Some.ensures.1) (number_as c.context_of-context.ensures _ _ _ _ c.number.ensures)

pub returns-then-is_text : goal.returns-then-is_text
returns-then-is_text c =
    leaf_as _ _ _ _ _ _ _ _ _ _ (text_code _ (sym c.if-is_text.true ∙ c.is_text.ensures)) c.text_value.ensures

pub returns : goal.returns
returns c =
    leaf_bool _ _ _ _ _ _ _ _ _ c.in_default.ensures (sym
    c.if-is_text.false ∙ c.is_text.ensures) c.boolean.ensures
