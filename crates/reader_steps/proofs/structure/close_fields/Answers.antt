-- `reader_steps::structure::close_fields` meets its contract. Assumes nothing.
use Rattle.reader_steps.proofs.Structures.{closed_by_padding, closed_by_table}
use Rattle.std.proofs.Common.{sym, ◌∙◌}
use Rattle.reader_steps.proofs.structure.close_fields.Goals as goal

pub returns-then-fixed_of : goal.returns-then-fixed_of
returns-then-fixed_of c =
    λ read n l l' d. closed_by_padding read _ _ _ _ _ _ _ n l l' _ _ d (sym c.fixed_of.ensures ∙ c.if-fixed_of.true) (c.requires.5 (sym c.fixed_of.ensures ∙ c.if-fixed_of.true)) c.end_padded.ensures

pub returns-else-fixed_of : goal.returns-else-fixed_of
returns-else-fixed_of c =
    λ read n l l' d. closed_by_table read _ _ _ _ _ _ _ n l l' _ _ d (sym c.fixed_of.ensures ∙ c.if-fixed_of.false) c.requires.4 c.past.ensures
