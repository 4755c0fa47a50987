-- `put_at` meets its contract. Assumes nothing.
use mathlib.Core.Path.{ap}
use Prim.Native.Nat.{ℕ}
use lib.ListN.{set}
use Rattle.signature_table.proofs.put_at.Goals as goal

pub returns : goal.returns
returns c =
    ap (λ (x : ℕ). set c.args.shapes.now c.args.at x) c.shape_at-found.ensures
