-- Each public contract leaves one answer: what stands for the same width is the same. Assumes nothing.
use mathlib.Core.Path.{◌≡◌, refl, sym, ap, ◌∙◌}
use Prim.Native.Nat.{ℕ}
use lib.Dec.{eqb}
use Rattle.meaning.specs.Choice.{pick}
use Rattle.std.specs.Prelude.{Option, Some, None}
use Rattle.meaning.specs.OneAnswer.{OneAnswer}
use Rattle.meaning.proofs.RefusalLaws.{refusal_one}
use Rattle.utils.proofs.Answered.{checked_one}
use Rattle.framing_offset_size.specs.declared.FramingOffsetSize.{FramingOffsetSize}
use Rattle.framing_offset_size.specs.declared.FramingOffsetSize.TheVariants.{U8, U16, U32, U64}
use Rattle.framing_offset_size.specs.Widths.{width_of, fitting_width}
use Rattle.framing_offset_size.proofs.FramingOffsetSize.width.Kinds as width_kinds
use Rattle.framing_offset_size.proofs.FramingOffsetSize.width.Reads as width
use Rattle.framing_offset_size.proofs.FramingOffsetSize.count_in.Kinds as count_in_kinds
use Rattle.framing_offset_size.proofs.FramingOffsetSize.count_in.Reads as count_in_lem
use Rattle.framing_offset_size.proofs.FramingOffsetSize.max.Kinds as max_kinds
use Rattle.framing_offset_size.proofs.FramingOffsetSize.max.Reads as max
use Rattle.framing_offset_size.proofs.FramingOffsetSize.bump_up.Kinds as bump_up_kinds
use Rattle.framing_offset_size.proofs.FramingOffsetSize.bump_up.Reads as bump_up
use Rattle.framing_offset_size.proofs.FramingOffsetSize.for_bare_container.Kinds as for_bare_container_kinds
use Rattle.framing_offset_size.proofs.FramingOffsetSize.for_bare_container.Reads as for_bare_container
use Rattle.framing_offset_size.proofs.FramingOffsetSize.for_encoded_container.Kinds as for_encoded_container_kinds
use Rattle.framing_offset_size.proofs.FramingOffsetSize.for_encoded_container.Reads as for_encoded_container
use Rattle.framing_offset_size.proofs.FramingOffsetSize.write_offset.Kinds as write_offset_kinds
use Rattle.framing_offset_size.proofs.FramingOffsetSize.write_offset.Reads as write_offset
use Rattle.framing_offset_size.proofs.FramingOffsetSize.offset_at.Kinds as offset_at_kinds
use Rattle.framing_offset_size.proofs.FramingOffsetSize.offset_at.Reads as offset_at
use Rattle.framing_offset_size.proofs.FramingOffsetSize.read_last_offset_from_buffer.Kinds as read_last_offset_from_buffer_kinds
use Rattle.framing_offset_size.proofs.FramingOffsetSize.read_last_offset_from_buffer.Reads as read_last_offset_from_buffer

-- the enums by their widths
abbrev size_of : ℕ → Option FramingOffsetSize
size_of n = pick (eqb n 1) (Some U8) (pick (eqb n 2) (Some U16) (pick (eqb n 4) (Some U32) (pick (eqb n 8) (Some U64) None)))

size_back : (f : Option FramingOffsetSize) → size_of (fitting_width f) ≡ f
size_back (Some U8) = refl
size_back (Some U16) = refl
size_back (Some U32) = refl
size_back (Some U64) = refl
size_back None = refl

same_fitting : {n : ℕ} (f g : Option FramingOffsetSize) → fitting_width f ≡ n → fitting_width g ≡ n → f ≡ g
same_fitting f g p q = sym (size_back f) ∙ ap size_of (p ∙ sym q) ∙ size_back g

pub same_width : {n : ℕ} (s t : FramingOffsetSize) → width_of s ≡ n → width_of t ≡ n → s ≡ t
same_width s t p q = let e = same_fitting (Some s) (Some t) p q in cc

pub width_unique : OneAnswer width_kinds.ps width_kinds.r width.Learnt
width_unique κs a z z' w w' p q = (p ∙ sym q, refl)

pub count_in_unique : OneAnswer count_in_kinds.ps count_in_kinds.r count_in_lem.Learnt
count_in_unique κs a z z' w w' p q = (p ∙ sym q, refl)

pub max_unique : OneAnswer max_kinds.ps max_kinds.r max.Learnt
max_unique κs a z z' w w' p q = (p ∙ sym q, refl)

pub bump_up_unique : OneAnswer bump_up_kinds.ps bump_up_kinds.r bump_up.Learnt
bump_up_unique κs a z z' w w' p q = (p ∙ sym q, refl)

pub offset_at_unique : OneAnswer offset_at_kinds.ps offset_at_kinds.r offset_at.Learnt
offset_at_unique κs a z z' w w' p q = (checked_one z z' (p ∙ sym q), refl)

pub read_last_offset_from_buffer_unique : OneAnswer read_last_offset_from_buffer_kinds.ps read_last_offset_from_buffer_kinds.r read_last_offset_from_buffer.Learnt
read_last_offset_from_buffer_unique κs a z z' w w' p q = (checked_one z z' (p ∙ sym q), refl)

pub for_bare_container_unique : OneAnswer for_bare_container_kinds.ps for_bare_container_kinds.r for_bare_container.Learnt
for_bare_container_unique κs a z z' w w' p q = (same_fitting z z' p.width q.width, refl)

pub for_encoded_container_unique : OneAnswer for_encoded_container_kinds.ps for_encoded_container_kinds.r for_encoded_container.Learnt
for_encoded_container_unique κs a z z' w w' p q = (same_width z z' p q, refl)

pub write_offset_unique : OneAnswer write_offset_kinds.ps write_offset_kinds.r write_offset.Learnt
write_offset_unique κs a z z' w w' p q =
    let buffers = p.1 ∙ sym q.1 in
    (refusal_one (λ a b. refl) z z' (p.0 ∙ sym q.0), λ i. (tt, (buffers i, (tt, tt))))
