-- The bytes of a number of at most eight, from the highest down. Assumes nothing.
use Rattle.std.proofs.Common.{◌≡◌, ℕ, ◌+◌, ◌-◌, ◌*◌, ◌^◌, ◌<◌, ◌≤◌, Bool, true, false, List, refl, ◌∙◌, arith, pow-add}
use Rattle.std.proofs.Math.Nat.{pow-le-pow_right}
use Rattle.meaning.specs.Numbers.{spelled, value}
use Rattle.meaning.proofs.NumberSteps.{highest_from}

pub one_more_below : (i n b : ℕ) → n < 256 ^ i → b < 256 → 256 * n + b < 256 ^ (i + 1)
one_more_below i n b h k = rw (pow-add 256 i 1) (omega arith)

pub one_more_fits : (w i n b : ℕ) → w ≤ 8 → i < w → n < 256 ^ i → b < 256 → 256 * n + b < 2 ^ 64
one_more_fits w i n b h j k l =
    let less : i + 1 ≤ 8 = omega arith in
    let m : 256 ^ (i + 1) ≤ 256 ^ 8 = pow-le-pow_right (omega arith) less in
    let o : 256 * n + b < 256 ^ (i + 1) = one_more_below i n b k l in
    omega (arith, o, m)

pub none_spelled : (big : Bool) (w place : ℕ) (l : List ℕ) → 0 ≡ spelled big 0 (highest_from big w 0 place) l
unfolding value
none_spelled true w place l = refl
none_spelled false w place l = refl

pub all_spelled : (big : Bool) (w place : ℕ) (l : List ℕ) {i n : ℕ} → i ≡ w → n ≡ spelled big i (highest_from big w i place) l → n ≡ spelled big w place l
all_spelled true w place l e h = rw (← e) h
all_spelled false w place l e h =
    let f : place + (w - w) ≡ place = omega arith in
    rw e at h ∙ rw f
