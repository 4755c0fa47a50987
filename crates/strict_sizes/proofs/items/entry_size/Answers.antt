-- `entry_size` meets its contract. Assumes nothing.
use mathlib.Core.Path.{ap}
use native.Mathlib.Omega.{arith}
use Rattle.strict_ends.specs.declared.Extent.{Extent}
use Rattle.strict_basic.proofs.BasicLaws.{laid_as}
use Rattle.strict_sizes.proofs.ItemLaws.{end_most}
use Rattle.strict_sizes.proofs.items.entry_size.Goals as goal

pub fixed_end-second-requires : goal.fixed_end-second-requires
fixed_end-second-requires c =
    (omega (arith, c.fixed_end-first.ensures, end_most _ (laid_as c.extent_of.ensures c.requires.0) 0, ap (λ (x : Extent). x.size) c.extent_of.ensures, c.requires.1), c.requires.2)

pub aligned-requires : goal.aligned-requires
aligned-requires c = (
  omega (
    arith,
    c.fixed_end-first.ensures,
    end_most _ (laid_as c.extent_of.ensures c.requires.0) 0,
    ap (λ (x : Extent). x.size)
        c.extent_of.ensures,
    c.requires.1,
    c.fixed_end-second.ensures,
    end_most _ c.requires.2 c.fixed_end-first.result,
    c.requires.3,
  ),
  c.requires.4,
)
