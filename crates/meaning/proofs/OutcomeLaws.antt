-- Laws of outcomes that are done, and of the readers' parts. Assumes nothing.
use mathlib.Core.Path.{◌≡◌, refl}
use mathlib.Core.List.{List, [], ◌∷◌, ◌++◌, append-nil}
use Prim.Native.Nat.{ℕ, ◌+◌, ◌-◌, ◌≤◌}
use native.Mathlib.Nat.{zero-add}
use native.Mathlib.Omega.{arith}
use lib.Dec.{T, eqb}
use lib.ListN.{length, length-append, length-replicate}
use lib.Seq.{take_at, drop_at}
use borrow.Author.Tests.{le-leb, le-ltb}
use Rattle.meaning.specs.Padding.{padding, zeros, leading_zeros}
use Rattle.meaning.specs.Depths.{Depths, depth_refusal}
use Rattle.meaning.specs.Events.{Event, opening, closing}
use Rattle.meaning.specs.Outcome.{Outcome, done, chain, closing_at, enclosed}
use Rattle.meaning.specs.Reading.{child, within, padding_of, pad}
use Rattle.meaning.proofs.PaddingLaws.{leading_zeros_zeros}
use Rattle.meaning.proofs.Tests.{from_test}

-- one reading and then another, both done
pub chain_done : (o : Outcome) (f : ℕ → Outcome) (u v w : ℕ) (e g h : List Event) → o ≡ done u e → f u ≡ done v g → w ≡ u + v → h ≡ e ++ g → chain o f ≡ done w h
unfolding chain
chain_done o f u v w e g h p q a b = rw p (rw q (rw (a, b)))

pub enclosed_done : (kind p u v : ℕ) (o : Outcome) (es : List Event) → o ≡ done v es → u ≡ v → enclosed kind p o ≡ done u (opening kind p ∷ (es ++ (closing (p + u) ∷ [])))
unfolding enclosed
enclosed_done kind p u v o es h e =
    let c : chain o (closing_at p) ≡ done u (es ++ (closing (p + u) ∷ [])) =
    chain_done o (closing_at p) v 0 u es (closing (p + v) ∷ []) (es ++ (closing (p + u) ∷ [])) h refl (omega arith) (rw e) in
    rw (c, zero-add)

pub within_done : {x : Outcome} (d : Depths) (p : ℕ) (inside : Depths → Outcome) → T (eqb (depth_refusal d) 0) → inside d ≡ x → within d p inside ≡ x
unfolding within
within_done d p inside t h = rw (from_test (eqb (depth_refusal d) 0) t) h

-- padding that stands is passed
pub pad_done : (position a k p : ℕ) (l : List ℕ) → p ≡ padding (position + k) a → pad position a k (zeros p ++ l) ≡ done p []
unfolding pad padding_of
pad_done position a k p l h =
    let long : p ≤ length (zeros p ++ l) = simp (length-append, length-replicate) (omega arith) in
    rw (← h, le-ltb (length (zeros p ++ l)) p long, le-ltb (leading_zeros (zeros p ++ l)) p (leading_zeros_zeros p l))

pub unpadded : (k : ℕ) (l : List ℕ) → padding_of 0 k l ≡ done 0 []
unfolding padding_of
unpadded k l = rw (le-ltb (length l) 0 (omega arith), le-ltb (leading_zeros l) 0 (omega arith))

-- what is read behind padding
pub behind_padding_lem : (position a k p u v : ℕ) (l : List ℕ) (f : ℕ → Outcome) (es : List Event) → p ≡ padding (position + k) a → f p ≡ done v es → u ≡ p + v
    → chain (pad position a k (zeros p ++ l)) f ≡ done u es
behind_padding_lem position a k p u v l f es hp hf hu = chain_done (pad position a k (zeros p ++ l)) f p v u [] es es (pad_done position a k p l hp) hf hu refl

-- the child that lies behind x and before y
pub child_between : (read : ℕ → List ℕ → Outcome) (k : ℕ) (x c y : List ℕ) (j e : ℕ) → length x ≡ j → j + length c ≡ e → child read k (x ++ (c ++ y)) j e ≡ read (k + j) c
unfolding child
child_between read k x c y j e hx hc =
    let hi : e ≤ length (x ++ (c ++ y)) = simp length-append (omega arith) in
    rw (le-leb j e (omega arith), le-leb e (length (x ++ (c ++ y))) hi, drop_at x (c ++ y) j hx, take_at c y (e - j) (omega arith))

pub child_last : (read : ℕ → List ℕ → Outcome) (k : ℕ) (x c : List ℕ) (j e : ℕ) → length x ≡ j → j + length c ≡ e → child read k (x ++ c) j e ≡ read (k + j) c
child_last read k x c j e hx hc = let h = child_between read k x c [] j e hx hc in rw append-nil at h
