-- Opening a container: the refusal, or the context inside it. Assumes nothing: these are definitions.
use Rattle.std.specs.Prelude.{◌≡◌, ℕ, ◌+◌, nat_le, Result, Ok, Err}
use Rattle.meaning.specs.Choice.{pick}
use Rattle.meaning.specs.Depths.{Opened, depth_refusal, opened, total}
use Rattle.meaning.specs.Refused.{number_of}
use Rattle.meaning.specs.declared.refusals.Refusal.{Refusal}
use Rattle.meaning.specs.declared.refusals.Refusal.TheVariants.{ContainersTooDeep}
use Rattle.container_depths.specs.Opening.{depths_of}
use Rattle.reader_basic.specs.declared.Context.{Context}
use Rattle.reader_steps.specs.Rides.{context_of}

-- a container opened: a refusal, or what rides along inside it
pub record Inner : Type 0 where
  pub refusal : ℕ
  pub ride : ℕ

abbrev pub inner : Result ℕ Refusal → Inner
inner (Ok r) = record { refusal = 0; ride = r }
inner (Err k) = record { refusal = number_of k; ride = 0 }

-- one more is open where fewer are than may be
abbrev pub inside : ℕ → ℕ → Result ℕ Refusal
inside r one = pick (nat_le 64 (total (depths_of (context_of r).depths))) (Err ContainersTooDeep) (Ok (r + one))

-- one context is the other with one more container open, within the limits
pub record Deeper (x : Opened) (outer inner : Context) : Type 0 where
  pub position : inner.position ≡ outer.position
  pub big : inner.big ≡ outer.big
  pub depths : depths_of inner.depths ≡ opened x (depths_of outer.depths)
  pub shallow : depth_refusal (depths_of inner.depths) ≡ 0

pub record Opens (x : Opened) (outer : Context) (r : Inner) : Type 0 where
  pub refusal : r.refusal ≡ depth_refusal (opened x (depths_of outer.depths))
  pub deeper : r.refusal ≡ 0 → Deeper x outer (context_of r.ride)
