-- `is_written` meets its contract. Assumes nothing.
use mathlib.Core.Path.{sym, ◌∙◌}
use Rattle.signature.proofs.TreeLaws.{front}
use Rattle.strict.proofs.Wholes.{walk_untyped, walk_long, whole_as}
use Rattle.strict.proofs.is_written.Goals as goal

pub returns-then-not-tables_of : goal.returns-then-not-tables_of
returns-then-not-tables_of c =
    whole_as _ _ _ (λ n. walk_untyped _ _ n (sym c.tables_of.ensures.judged ∙ c.if-not-tables_of.true))

pub returns-then-frame-gt-LARGEST_FRAME : goal.returns-then-frame-gt-LARGEST_FRAME
returns-then-frame-gt-LARGEST_FRAME c =
    whole_as _ _ _ (λ n. walk_long _ _ n (front _ (sym c.tables_of.ensures.judged ∙ c.if-not-tables_of.false)) c.if-frame-gt-LARGEST_FRAME.true)

pub is_written_by-requires : goal.is_written_by-requires
is_written_by-requires c = (
  sym c.tables_of.ensures.judged ∙ c.if-not-tables_of.false,
  c.tables_of.ensures.filled c.if-not-tables_of.false,
  c.if-frame-gt-LARGEST_FRAME.false,
)
