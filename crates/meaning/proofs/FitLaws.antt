-- A container fits exactly where each of its children does, one container deeper. Assumes nothing.
use mathlib.Core.List.{List, [], ◌∷◌}
use mathlib.Core.Bool.{Bool, true, ◌&&◌}
use Prim.Native.Nat.{◌≤◌}
use lib.Dec.{T, leb, eqb, leb→le}
use lib.ListN.{length}
use borrow.Author.Tests.{le-leb}
use Rattle.meaning.specs.Limits.{longest_type}
use Rattle.meaning.specs.Depths as Depth
use Rattle.meaning.specs.Depths.{Depths, depth_refusal, opened}
use Rattle.meaning.specs.Types.{Tree}
use Rattle.meaning.specs.TypeText.{type_text}
use Rattle.meaning.specs.Written.{Piece, fits, all_valid, all_shallow, deeper, variant_piece}
use Rattle.meaning.proofs.Tests.{both, both_left, both_right, to_test}

-- each child fits
unfoldable pub all_fit : List Piece → Depths → Bool
all_fit [] d = true
all_fit (c ∷ cs) d = fits c d && all_fit cs d

pub all_fit_lem : (cs : List Piece) (d : Depths) → T (all_valid cs && all_shallow cs d) → T (all_fit cs d)
unfolding all_fit all_valid all_shallow
all_fit_lem [] d t = tt
all_fit_lem (c ∷ cs) d t =
    let v = both_left (c.valid && all_valid cs) (c.shallow d && all_shallow cs d) t in
    let s = both_right (c.valid && all_valid cs) (c.shallow d && all_shallow cs d) t in
    both (fits c d) (all_fit cs d)
    (both c.valid (c.shallow d) (both_left c.valid (all_valid cs) v) (both_left (c.shallow d) (all_shallow cs d) s))
    (all_fit_lem cs d (both (all_valid cs) (all_shallow cs d) (both_right c.valid (all_valid cs) v) (both_right (c.shallow d) (all_shallow cs d) s)))

-- behind a container's depth
inside : (v : Bool) (d : Depths) (s g : Depths → Bool) → (T (v && s d) → T (g d)) → T (v && deeper d s) → T (deeper d g)
inside v d s g h t =
    let w = both_right v (deeper d s) t in
    both (eqb (depth_refusal d) 0) (g d) (both_left (eqb (depth_refusal d) 0) (s d) w)
    (h (both v (s d) (both_left v (deeper d s) t) (both_right (eqb (depth_refusal d) 0) (s d) w)))

pub held_fits : (c : Piece) (d : Depths) → T (c.valid && deeper d c.shallow) → T (deeper d (fits c))
held_fits c d t = inside c.valid d c.shallow (fits c) (λ h. h) t

pub children_fit : (cs : List Piece) (d : Depths) → T (all_valid cs && deeper d (all_shallow cs)) → T (deeper d (all_fit cs))
children_fit cs d t = inside (all_valid cs) d (all_shallow cs) (all_fit cs) (λ h. all_fit_lem cs d h) t

-- a variant's value fits, and its type's text is short
pub record HeldFits (t : Tree) (c : Piece) (d : Depths) : Type 0 where
  pub short : length (type_text t) ≤ longest_type
  pub held : T (deeper (opened Depth.variant d) (fits c))

pub variant_fits : (t : Tree) (c : Piece) (d : Depths) → T (fits (variant_piece t c) d) → HeldFits t c d
unfolding variant_piece
variant_fits t c d f =
    let short : Bool = leb (length (type_text t)) longest_type in
    let below : Bool = deeper (opened Depth.variant d) c.shallow in
    let v = both_left (short && c.valid) below f in
    record {
      short = leb→le (length (type_text t)) longest_type (both_left short c.valid v);
      held = held_fits c (opened Depth.variant d) (both c.valid below (both_right short c.valid v) (both_right (short && c.valid) below f));
    }

-- ---- and back: where each child fits, the container does

pub fits_by_all : (cs : List Piece) (d : Depths) → T (all_fit cs d) → T (all_valid cs && all_shallow cs d)
unfolding all_fit all_valid all_shallow
fits_by_all [] d t = tt
fits_by_all (c ∷ cs) d t =
    let f = both_left (fits c d) (all_fit cs d) t in
    let g = fits_by_all cs d (both_right (fits c d) (all_fit cs d) t) in
    both (c.valid && all_valid cs) (c.shallow d && all_shallow cs d)
    (both c.valid (all_valid cs) (both_left c.valid (c.shallow d) f) (both_left (all_valid cs) (all_shallow cs d) g))
    (both (c.shallow d) (all_shallow cs d) (both_right c.valid (c.shallow d) f) (both_right (all_valid cs) (all_shallow cs d) g))

outside : (v : Bool) (d : Depths) (s g : Depths → Bool) → (T (g d) → T (v && s d)) → T (deeper d g) → T (v && deeper d s)
outside v d s g h t =
    let w = h (both_right (eqb (depth_refusal d) 0) (g d) t) in
    both v (deeper d s) (both_left v (s d) w) (both (eqb (depth_refusal d) 0) (s d) (both_left (eqb (depth_refusal d) 0) (g d) t) (both_right v (s d) w))

pub fits_by_held : (c : Piece) (d : Depths) → T (deeper d (fits c)) → T (c.valid && deeper d c.shallow)
fits_by_held c d t = outside c.valid d c.shallow (fits c) (λ h. h) t

pub fits_by_children : (cs : List Piece) (d : Depths) → T (deeper d (all_fit cs)) → T (all_valid cs && deeper d (all_shallow cs))
fits_by_children cs d t = outside (all_valid cs) d (all_shallow cs) (all_fit cs) (λ h. fits_by_all cs d h) t

pub fits_by_variant : (t : Tree) (c : Piece) (d : Depths) → length (type_text t) ≤ longest_type → T (deeper (opened Depth.variant d) (fits c)) → T (fits (variant_piece t c) d)
unfolding variant_piece
fits_by_variant t c d n h =
    let short : Bool = leb (length (type_text t)) longest_type in
    let below : Bool = deeper (opened Depth.variant d) c.shallow in
    let w = fits_by_held c (opened Depth.variant d) h in
    both (short && c.valid) below (both short c.valid (to_test short (le-leb (length (type_text t)) longest_type n)) (both_left c.valid below w)) (both_right c.valid below w)
