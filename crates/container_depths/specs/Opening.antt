-- The depth record as code holds it, and what raising it answers. Assumes nothing: these are definitions.
use Rattle.std.specs.Prelude.{◌≡◌, eqb, ℕ, ◌-◌, Result, Ok, Err}
use Rattle.meaning.specs.Choice.{pick}
use Rattle.meaning.specs.Limits.{most_containers}
use Rattle.meaning.specs.Depths.{Depths, depths, total, depth_refusal}
use Rattle.meaning.specs.Refused.{number_of}
use Rattle.meaning.specs.declared.refusals.Refusal.{Refusal}
use Rattle.container_depths.specs.declared.ContainerDepths.{ContainerDepths}

abbrev pub depths_of : ContainerDepths → Depths
depths_of d = depths d.structure d.array d.variant d.maybe

-- how many containers may still be opened
abbrev pub level : ContainerDepths → ℕ
level d = most_containers - total (depths_of d)

-- what a raise comes to: a refusal's number with a record, or 0 with the record raised
pub record Raised : Type 0 where
  pub refusal : ℕ
  pub depths : ContainerDepths

-- what the raise of a record answers; on a refusal the record is as it was
abbrev pub raised_in : ContainerDepths → Result ContainerDepths Refusal → Raised
raised_in before (Ok after) = record { refusal = 0; depths = after }
raised_in before (Err r) = record { refusal = number_of r; depths = before }

-- a raise from one record to another: its refusal, and the record as it then is, raised or as it was
pub record Raises (before after : Depths) (r : Raised) : Type 0 where
  pub refusal : r.refusal ≡ depth_refusal after
  pub depths : depths_of r.depths ≡ pick (eqb (depth_refusal after) 0) after before
