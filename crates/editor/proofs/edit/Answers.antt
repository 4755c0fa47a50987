-- `edit` meets its contract. Assumes nothing.
use mathlib.Core.Path.{refl, sym, ◌∙◌}
use native.Mathlib.Omega.{arith}
use Rattle.meaning.proofs.RefusalLaws.{number_not_0}
use Rattle.meaning_writing.proofs.Parts.{bytes_from}
use Rattle.editor_change.proofs.Tails.{part_short}
use Rattle.editor_change.proofs.Edits.{frame_written, edit_1, edit_2, edit_unwritten}
use Prim.Native.Nat.{◌≤◌}
use lib.ListN.{length}
use Rattle.meaning.specs.Limits.{largest_frame}
use Rattle.editor.proofs.edit.Goals as goal
use Rattle.editor.proofs.edit.Goals.{then-used-gt-LARGEST_FRAME-via-then-used-gt-LARGEST_FRAME, then-used-gt-LARGEST_FRAME-via-else-used-gt-LARGEST_FRAME+then-buffer-used}

pub returns-then-not-tables_of : goal.returns-then-not-tables_of
returns-then-not-tables_of c =
    let whole = edit_1 _ _ _ _ _ _ (sym c.tables_of.ensures.judged ∙ c.if-not-tables_of.true) in
    record { answer = whole.0; memory = whole.1 }

pub returns-then-used-gt-LARGEST_FRAME : goal.returns-then-used-gt-LARGEST_FRAME
returns-then-used-gt-LARGEST_FRAME c =
    let far : c.args.used ≤ largest_frame → c.args.used ≤ length c.args.buffer.now → ⊥ = elim c.then-used-gt-LARGEST_FRAME.branch [
      | then-used-gt-LARGEST_FRAME-via-then-used-gt-LARGEST_FRAME w ↦ λ l m. omega (arith, w.if-used-gt-LARGEST_FRAME.true)
      | then-used-gt-LARGEST_FRAME-via-else-used-gt-LARGEST_FRAME+then-buffer-used w ↦ λ l m. omega (arith, w.if-buffer-used.true)
    ] in
    let whole = edit_2 _ _ _ _ _ _ (sym c.tables_of.ensures.judged ∙ c.if-not-tables_of.false) far in
    record { answer = whole.0; memory = whole.1 }

pub is_written_by-requires : goal.is_written_by-requires
is_written_by-requires c =
    (sym c.tables_of.ensures.judged ∙ c.if-not-tables_of.false, c.tables_of.ensures.filled c.if-not-tables_of.false, part_short _ _ c.if-used-gt-LARGEST_FRAME.false)

pub returns-in-Err : goal.returns-in-Err
returns-in-Err c =
    let whole = edit_unwritten _ _ _ _ _ _ (sym c.tables_of.ensures.judged ∙ c.if-not-tables_of.false)
    (bytes_from _ (λ j. omega (arith, c.slice_known-1.given j)))
    c.if-used-gt-LARGEST_FRAME.false c.if-buffer-used.false _ c.in-Err.ensures (number_not_0 _) in
    record { answer = whole.0; memory = whole.1 }

pub edit_written-requires : goal.edit_written-requires
edit_written-requires c =
    record {
      roomy = c.if-buffer-used.false;
      frame = frame_written _ _ _ (sym c.tables_of.ensures.judged ∙ c.if-not-tables_of.false)
          (part_short _ _ c.if-used-gt-LARGEST_FRAME.false) _
          (c.tables_of.ensures.filled c.if-not-tables_of.false) _
          c.in-Ok.ensures refl;
    }
