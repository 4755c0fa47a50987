-- What the functions of the walk are asked and answer. Assumes nothing: these are definitions.
use Rattle.std.specs.Prelude.{◌≡◌, List, Bool, ◌&&◌, ℕ, ◌-◌, ◌≤◌}
use Rattle.meaning.specs.Limits.{largest_frame, most_variants}
use Rattle.meaning.specs.Depths.{Depths, depth_refusal}
use Rattle.meaning.specs.Types.{variant}
use Rattle.meaning_writing.specs.Shapes.{last_end, fixed_end}
use Rattle.meaning_writing.specs.Strict.{Test, child_written, fields_finished, test_of, tests_of}
use Rattle.container_depths.specs.Opening.{depths_of}
use Rattle.container_depths.specs.declared.ContainerDepths.{ContainerDepths}
use Rattle.signature.specs.Trees.{fields_at}

-- a part within the limit, and so many open containers within theirs
pub record Inside (len : ℕ) (d : ContainerDepths) : Type 0 where
  pub in_frame : len ≤ largest_frame
  pub shallow : depth_refusal (depths_of d) ≡ 0

-- a variant of any type that fills a part
abbrev pub variant_accepts : ContainerDepths → List ℕ → Bool
variant_accepts d l = (test_of (most_variants - d.variant) variant).accepts (depths_of d) l

-- the tests of the fields from a place of a type text on
abbrev pub tests_at : List ℕ → ℕ → ContainerDepths → List Test
tests_at text at d = tests_of (most_variants - d.variant) (fields_at text at)

-- the last field, and what stands behind it
unfoldable pub last_written : Bool → ℕ → Test → Depths → List ℕ → ℕ → ℕ → Bool
last_written fx a t d l b k =
    child_written t d l b k (last_end t.shape.fixed (fixed_end k t.shape) b)
    && fields_finished fx a (last_end t.shape.fixed (fixed_end k t.shape) b) b l
