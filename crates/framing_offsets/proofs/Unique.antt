-- Each public contract leaves one answer: what stands for the same table is the same. Assumes nothing.
use mathlib.Core.Path.{◌≡◌, refl, sym, ap, ◌∙◌}
use Rattle.meaning.specs.OneAnswer.{OneAnswer}
use Rattle.meaning.specs.Offsets.{Table}
use Rattle.framing_offset_size.proofs.Unique.{same_width}
use Rattle.framing_offsets.specs.declared.OffsetTable.{OffsetTable}
use Rattle.std.specs.Prelude.{Result, Ok, Err}
use Rattle.meaning.specs.declared.refusals.Refusal.{Refusal}
use Rattle.meaning.proofs.RefusalLaws.{number_not_0, number_one}
use Rattle.utils.proofs.Answered.{checked_one}
use Rattle.framing_offsets.specs.Tables.{table_in, encoded_in}
use Rattle.framing_offsets.proofs.count.Kinds as count_kinds
use Rattle.framing_offsets.proofs.count.Reads as count
use Rattle.framing_offsets.proofs.next.Kinds as next_kinds
use Rattle.framing_offsets.proofs.next.Reads as next
use Rattle.framing_offsets.proofs.first.Kinds as first_kinds
use Rattle.framing_offsets.proofs.first.Reads as first
use Rattle.framing_offsets.proofs.table.next_in.Kinds as next_in_kinds
use Rattle.framing_offsets.proofs.table.next_in.Reads as next_in
use Rattle.framing_offsets.proofs.table.last_in.Kinds as last_in_kinds
use Rattle.framing_offsets.proofs.table.last_in.Reads as last_in
use Rattle.framing_offsets.proofs.from_encoded_array.Kinds as from_encoded_array_kinds
use Rattle.framing_offsets.proofs.from_encoded_array.Reads as from_encoded_array

pub count_unique : OneAnswer count_kinds.ps count_kinds.r count.Learnt
count_unique κs a z z' w w' p q = (p ∙ sym q, refl)

pub next_unique : OneAnswer next_kinds.ps next_kinds.r next.Learnt
next_unique κs a z z' w w' p q = (checked_one z z' (p ∙ sym q), refl)

pub first_unique : OneAnswer first_kinds.ps first_kinds.r first.Learnt
first_unique κs a z z' w w' p q = (checked_one z z' (p ∙ sym q), refl)

pub next_in_unique : OneAnswer next_in_kinds.ps next_in_kinds.r next_in.Learnt
next_in_unique κs a z z' w w' p q = (checked_one z z' (p ∙ sym q), refl)

pub last_in_unique : OneAnswer last_in_kinds.ps last_in_kinds.r last_in.Learnt
last_in_unique κs a z z' w w' p q = (checked_one z z' (p ∙ sym q), refl)

same_table : {x : Table} (t u : OffsetTable) → table_in t ≡ x → table_in u ≡ x → t ≡ u
same_table t u p q =
    let tables = p ∙ sym q in
    let sizes = same_width t.size u.size (ap (λ (x : Table). x.width) p) (ap (λ (x : Table). x.width) q) in
    λ i. record { start = (tables i).start; count = (tables i).count; size = sizes i }

table_one : (x y : Result OffsetTable Refusal) → (encoded_in x).refusal ≡ (encoded_in y).refusal → (encoded_in x).offsets ≡ (encoded_in y).offsets → x ≡ y
table_one (Ok t) (Ok u) r h = ap Ok h
table_one (Ok t) (Err e) r h = absurd (number_not_0 e (sym r))
table_one (Err e) (Ok t) r h = absurd (number_not_0 e r)
table_one (Err e) (Err f) r h = ap Err (number_one e f r)

pub from_encoded_array_unique : OneAnswer from_encoded_array_kinds.ps from_encoded_array_kinds.r from_encoded_array.Learnt
from_encoded_array_unique κs a z z' w w' p q =
    (table_one z z' (p.refusal ∙ sym q.refusal) (same_table (encoded_in z).offsets (encoded_in z').offsets p.table q.table), refl)
