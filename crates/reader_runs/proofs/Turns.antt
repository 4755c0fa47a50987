-- One turn of a loop over the elements of an array, up to the ends of its table: what it knows, and what it keeps. Assumes nothing.
use mathlib.Core.Path.{◌≡◌, ◌∙◌}
use Rattle.std.specs.Prelude.{Result}
use Rattle.std.specs.Result.{result_unwrap_or}
use Rattle.meaning.specs.declared.refusals.Refusal.{Refusal}
use mathlib.Core.List.{List}
use Prim.Native.Nat.{ℕ, ◌+◌, ◌-◌, ◌≤◌, ◌<◌}
use native.Mathlib.Omega.{arith}
use lib.ListN.{length, take, drop, get_or, length-drop}
use Rattle.meaning.specs.Offsets.{ends_of}
use Rattle.meaning.specs.Outcome.{Outcome}
use Rattle.meaning.proofs.Bounds.{length_ends}
use Rattle.utils.specs.Checks.{checked}
use Rattle.utils.proofs.Answered.{checked_value}
use Rattle.framing_offsets.specs.Tables.{table_in, offset_in}
use Rattle.framing_offsets.specs.declared.OffsetTable.{OffsetTable}
use Rattle.reader_basic.specs.Answers.{From, Between}
use Rattle.reader_basic.specs.Parts.{Tabled, elements_by}
use Rattle.meaning.specs.Calls.{Counts}
use Rattle.reader_basic.proofs.Answers.{answer}
use Rattle.meaning.proofs.Lists.{tail}
use Rattle.reader_basic.proofs.Loops.{ends_below, next_end, FramedLeft, framed_begin, framed_end, framed_stop, framed_next}

pub body_ends : {t : OffsetTable} {part : List ℕ} {lead : ℕ} → Tabled t part lead → lead + t.start ≤ length part
body_ends {part = part} {lead = lead} k = let b = k.begins in omega (arith, k.stands.start, length-drop lead part)

-- what is left after i elements and u bytes
abbrev pub Left : (ℕ → ℕ → Outcome) → OffsetTable → List ℕ → ℕ → ℕ → List ℕ → ℕ → ℕ → ℕ → List ℕ → Type 0
Left step t part lead n l i u count out = FramedLeft step part lead (lead + t.start) n l (ends_of (table_in t) (drop lead part)) i u count out

pub left_begin : (step : ℕ → ℕ → Outcome) (t : OffsetTable) (part : List ℕ) (lead n : ℕ) (l : List ℕ) → Left step t part lead n l 0 0 n l
left_begin step t part lead n l = framed_begin step part lead (lead + t.start) n l _ (omega arith)

module _ {step : ℕ → ℕ → Outcome} {t : OffsetTable} {part : List ℕ} {lead n : ℕ} {l : List ℕ} {i u count : ℕ} {out : List ℕ} (k : Tabled t part lead) (v : Left step t part lead n l i u count out) where
  pub left_starts : lead + u ≤ length part
  left_starts = omega (arith, v.bound, body_ends k)

  -- the elements are read, and the table is passed
  pub left_passes : u + (length part - (lead + t.start)) ≤ length part
  left_passes = omega (arith, v.bound, body_ends k)

  pub left_end : t.count ≤ i → From (elements_by step t part lead) part lead n l out (answer 0 (u + (length part - (lead + t.start))) count)
  left_end h = framed_end _ _ _ _ _ _ _ _ _ _ _ v (body_ends k) (omega (arith, length_ends (table_in t) (drop lead part)))

-- what a turn knows once it has the next end
pub record Turn (step : ℕ → ℕ → Outcome) (t : OffsetTable) (part : List ℕ) (lead n : ℕ) (l : List ℕ) (i u count : ℕ) (out : List ℕ) (end : ℕ) : Type 0 where
  pub tabled : Tabled t part lead
  pub left : Left step t part lead n l i u count out
  pub more : i < t.count
  pub found : end ≡ get_or (ends_of (table_in t) (drop lead part)) i 0

pub turn_of : {step : ℕ → ℕ → Outcome} {t : OffsetTable} {part : List ℕ} {lead n : ℕ} {l : List ℕ} {i u count : ℕ} {out : List ℕ} {end : ℕ} (r : Result ℕ Refusal)
    → Tabled t part lead → Left step t part lead n l i u count out → i < t.count → checked r ≡ offset_in (table_in t) i (take (length part - lead) (drop lead part)) → end ≡ result_unwrap_or r 0
    → Turn step t part lead n l i u count out end
turn_of {part = part} {lead = lead} {i = i} r k v m f e =
    record { tabled = k; left = v; more = m; found = e ∙ checked_value r ∙ next_end k.stands i (checked r) m (rw (tail lead part) at f) }

module _ {step : ℕ → ℕ → Outcome} {t : OffsetTable} {part : List ℕ} {lead n : ℕ} {l : List ℕ} {i u count : ℕ} {out : List ℕ} {end : ℕ} (k : Turn step t part lead n l i u count out end) where
  one_more : i < length (ends_of (table_in t) (drop lead part))
  one_more = omega (arith, length_ends (table_in t) (drop lead part), k.more)

  below_start : get_or (ends_of (table_in t) (drop lead part)) i 0 ≤ lead + t.start - lead
  below_start = omega (arith, ends_below k.tabled.stands i)

  pub turn_starts : lead + u ≤ length part
  turn_starts = left_starts k.tabled k.left

  pub turn_ends : lead + end ≤ length part
  turn_ends = omega (arith, k.found, below_start, body_ends k.tabled)

  -- its element is read
  module _ {out' : List ℕ} (r : Counts) (d : Between (step (lead + u) (lead + end)) part (lead + u) (lead + end) count out out' r) where
    pub turn_fits : u + r.used ≤ length part
    turn_fits = omega (arith, d.fits, turn_starts)

    pub turn_stop : (r.refusal ≡ 0 → ⊥) → From (elements_by step t part lead) part lead n l out' (answer r.refusal (u + r.used) r.count)
    turn_stop z = framed_stop _ _ _ _ _ _ _ _ _ _ _ k.left (body_ends k.tabled) one_more r out' below_start (rw k.found at d) z

    pub turn_next : r.refusal ≡ 0 → Left step t part lead n l (i + 1) (u + r.used) r.count out'
    turn_next z = framed_next _ _ _ _ _ _ _ _ _ _ _ k.left (body_ends k.tabled) one_more r out' below_start (rw k.found at d) z
