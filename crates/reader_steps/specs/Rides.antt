-- What rides along, in one number: the position of the frame, its byte order, and a byte for each kind of container that is open. Assumes
-- nothing: these are definitions.
use Rattle.std.specs.Prelude.{◌≡◌, ℕ, ◌/◌, ◌%◌, Bool, ◌==◌}
use Rattle.meaning.specs.Depths.{none_open}
use Rattle.container_depths.specs.Opening.{depths_of}
use Rattle.container_depths.specs.declared.ContainerDepths.{ContainerDepths}
use Rattle.reader_basic.specs.declared.Context.{Context}

abbrev pub open_in : ℕ → ContainerDepths
open_in d = record { structure = d % 256; array = d / 256 % 256; variant = d / 65536 % 256; maybe = d / 16777216 % 256 }

-- the context that a number stands for
unfoldable pub context_of : ℕ → Context
context_of r = record { position = r % 2147483648; big = (r / 2147483648 % 2 == 1); depths = open_in (r / 4294967296) }

-- a number for a frame at a position, with no container open
pub record Begins (position : ℕ) (big : Bool) (r : ℕ) : Type 0 where
  pub at : (context_of r).position ≡ position
  pub order : (context_of r).big ≡ big
  pub none : depths_of (context_of r).depths ≡ none_open
