-- `writer_store::copy_block` meets its contract. Assumes nothing.
use native.Mathlib.Omega.{arith}
use mathlib.Core.Path.{◌∙◌}
use Rattle.writer_store.proofs.Puts.{stored_block}
use Rattle.writer_store.proofs.copy_block.Goals as goal

pub returns : goal.returns
returns g c =
    stored_block _ _ _ _ _ _ _ _ c.requires.0 c.requires.1 (omega arith) (omega arith) (c.copy_from_slice-2.ensures.after ∙ c.copy_from_slice.ensures.after)
