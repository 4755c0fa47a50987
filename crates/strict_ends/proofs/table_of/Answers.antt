-- `table_of` meets its contract. Assumes nothing.
use mathlib.Core.Path.{sym, ap, ◌∙◌}
use Prim.Native.Nat.{ℕ, ◌-◌, ◌/◌}
use lib.ListN.{length}
use Rattle.utils.proofs.Answered.{checked_value}
use Rattle.strict_ends.proofs.EndLaws.{last_offset_is, table_past, table_odd, table_wide, table_stands_lem}
use Rattle.strict_ends.proofs.table_of.Goals as goal
use Rattle.strict_ends.proofs.table_of.Goals.{then-body-count-via-then-body-count, then-body-count-via-else-body-count+then-not-smallest}

pub returns-then-len-body : goal.returns-then-len-body
returns-then-len-body c =
    table_past _ _ _ (c.width-width.ensures ∙ c.for_encoded_container-size.ensures)
    (c.unwrap_or-body.ensures ∙ checked_value c.last_in.result ∙ last_offset_is _ _ _ c.for_encoded_container-size.ensures c.last_in.ensures) c.if-len-body.true

pub returns-then-body-count : goal.returns-then-body-count
returns-then-body-count c =
    let wide = c.width-width.ensures ∙ c.for_encoded_container-size.ensures in
    let last = c.unwrap_or-body.ensures ∙ checked_value c.last_in.result ∙ last_offset_is _ _ _ c.for_encoded_container-size.ensures c.last_in.ensures in
    let many = c.count_in-count.ensures ∙ ap (λ (w : ℕ). (length c.args.part.now - c.unwrap_or-body.result) / w) (sym c.width-width.ensures) in
    elim c.then-body-count.branch [
      | then-body-count-via-then-body-count w ↦ table_odd _ _ _ wide last _ many w.if-body-count.true
      | then-body-count-via-else-body-count+then-not-smallest w ↦ table_wide _ _ _ wide last _ many w.if-body-count.false (sym w.if-not-smallest.true ∙ w.smallest.ensures)
    ]

pub returns : goal.returns
returns c =
    table_stands_lem _ _ _ (c.width-width.ensures ∙ c.for_encoded_container-size.ensures)
    (c.unwrap_or-body.ensures ∙ checked_value c.last_in.result ∙ last_offset_is _ _ _ c.for_encoded_container-size.ensures c.last_in.ensures) _
    (c.count_in-count.ensures ∙ ap (λ (w : ℕ). (length c.args.part.now - c.unwrap_or-body.result) / w)
    (sym c.width-width.ensures)) c.if-body-count.false (sym c.if-not-smallest.false ∙ c.smallest.ensures)
