-- Events one after another in a slice: how many there are, what the slice then holds, and that it keeps its length. Assumes nothing.
use mathlib.Core.Path.{◌≡◌, refl, ap, ◌∙◌}
use mathlib.Core.List.{List, [], ◌∷◌, ◌++◌, append_assoc}
use mathlib.Core.Bool.{Bool, true, false}
use Prim.Native.Nat.{ℕ, suc, ◌+◌, ◌≤◌, ◌<◌, min, ◌*◌, ◌/◌}
use native.Mathlib.Omega.{arith}
use native.Mathlib.Nat.{zero-add, add-zero, suc-add}
use native.Mathlib.Decide.{dec_lt}
use lib.Dec.{ltb}
use lib.ListN.{length, drop, set, length-set, length-append}
use borrow.Author.Tests.{lt-ltb, le-ltb}
use Rattle.meaning.specs.Events.{Event, triples}
use Rattle.events.specs.Slices.{next_event, put, put_all, advance}
use Rattle.meaning.specs.Choice.{pick}

pub put_all_append : (es fs : List Event) (l : List ℕ) (n : ℕ) → put_all l n (es ++ fs) ≡ put_all (put_all l n es) (advance n es) fs
unfolding put_all advance
put_all_append [] fs l n = refl
put_all_append (e ∷ es) fs l n = put_all_append es fs (put l n e) (next_event n)

pub advance_append : (es fs : List Event) (n : ℕ) → advance n (es ++ fs) ≡ advance (advance n es) fs
unfolding advance
advance_append [] fs n = refl
advance_append (e ∷ es) fs n = advance_append es fs (next_event n)

-- the count of events stays at the largest number
pub next_small : (n : ℕ) → n < 18446744073709551615 → next_event n ≡ n + 1
unfolding next_event
next_small n h = rw (lt-ltb _ _ h)

pub next_large : (n : ℕ) → 18446744073709551615 ≤ n → next_event n ≡ n
unfolding next_event
next_large n h = rw (le-ltb _ _ h)

pub advance_most : (es : List Event) (n : ℕ) → n ≤ 18446744073709551615 → advance n es ≡ min (n + length es) 18446744073709551615
unfolding advance
advance_most [] n h = omega arith
advance_most (e ∷ es) n h = step (dec_lt n 18446744073709551615)
    (λ s. rw (next_small n s) (advance_most es (n + 1) (omega arith) ∙ omega arith))
    (λ s. rw (next_large n (omega arith)) (advance_most es n h ∙ omega arith))
  where
    step : Dec (n < 18446744073709551615) → ((n < 18446744073709551615) → advance (next_event n) es ≡ min (n + length (e ∷ es)) 18446744073709551615)
        → (¬ (n < 18446744073709551615) → advance (next_event n) es ≡ min (n + length (e ∷ es)) 18446744073709551615) → advance (next_event n) es ≡ min (n + length (e ∷ es)) 18446744073709551615
    step (yes s) f g = f s
    step (no s) f g = g s

-- ---- a slice keeps its length

pub length_put : (l : List ℕ) (n : ℕ) (e : Event) → length (put l n e) ≡ length l
unfolding put
length_put l n e = go (ltb n (length l / 3))
  where
    go : (b : Bool) → length (pick b (set (set (set l (3 * n) e.kind) (3 * n + 1) e.place) (3 * n + 2) e.payload) l) ≡ length l
    go true = simp length-set
    go false = refl

pub length_put_all : (es : List Event) (l : List ℕ) (n : ℕ) → length (put_all l n es) ≡ length l
unfolding put_all
length_put_all [] l n = refl
length_put_all (e ∷ es) l n = length_put_all es (put l n e) (next_event n) ∙ length_put l n e

next_least : (n : ℕ) → n ≤ next_event n
unfolding next_event
next_least n = go (ltb n 18446744073709551615)
  where
    go : (b : Bool) → n ≤ pick b (n + 1) n
    go true = omega arith
    go false = omega arith

pub put_all_full : (es : List Event) (l : List ℕ) (n : ℕ) → length l / 3 ≤ n → put_all l n es ≡ l
unfolding put_all put
put_all_full [] l n h = refl
put_all_full (e ∷ es) l n h = rw (le-ltb n (length l / 3) h) (put_all_full es l (next_event n) (omega (arith, h, next_least n)))

-- ---- a slice that is filled

set_behind : (a b : List ℕ) (k v : ℕ) → set (a ++ b) (length a + k) v ≡ a ++ set b k v
set_behind [] b k v = rw (zero-add k)
set_behind (x ∷ a) b k v = rw (suc-add (length a) k) (ap (λ (y : List ℕ). x ∷ y) (set_behind a b k v))

put_behind : (a : List ℕ) (x y z : ℕ) (b : List ℕ) (n : ℕ) (e : Event) → length a ≡ 3 * n → put (a ++ (x ∷ y ∷ z ∷ b)) n e ≡ a ++ (e.kind ∷ e.place ∷ e.payload ∷ b)
unfolding put
put_behind a x y z b n e h =
    let room : n < length (a ++ (x ∷ y ∷ z ∷ b)) / 3 = omega (arith, length-append a (x ∷ y ∷ z ∷ b)) in
    let first : set (a ++ (x ∷ y ∷ z ∷ b)) (length a) e.kind ≡ a ++ (e.kind ∷ y ∷ z ∷ b) = rw (add-zero (length a)) at (set_behind a (x ∷ y ∷ z ∷ b) 0 e.kind) in
    rw (lt-ltb n (length (a ++ (x ∷ y ∷ z ∷ b)) / 3) room, ← h)
    (rw (first, set_behind a (e.kind ∷ y ∷ z ∷ b) 1 e.place, set_behind a (e.kind ∷ e.place ∷ z ∷ b) 2 e.payload))

pub fills : (es : List Event) (a b : List ℕ) (n : ℕ) → length a ≡ 3 * n → 3 * length es ≤ length b → n + length es ≤ 18446744073709551615
    → put_all (a ++ b) n es ≡ a ++ (triples es ++ drop (3 * length es) b)
unfolding put_all triples next_event
fills [] a b n h i g = refl
fills (e ∷ es) a [] n h i g = absurd (omega arith)
fills (e ∷ es) a (x ∷ []) n h i g = absurd (omega arith)
fills (e ∷ es) a (x ∷ y ∷ []) n h i g = absurd (omega arith)
fills (e ∷ es) a (x ∷ y ∷ z ∷ b) n h i g =
    let t = e.kind ∷ e.place ∷ e.payload ∷ [] in
    let m : 3 * suc (length es) ≡ suc (suc (suc (3 * length es))) = omega arith in
    rw (put_behind a x y z b n e h, lt-ltb n 18446744073709551615 (omega arith), m, ← append_assoc a t b)
    (fills es (a ++ t) b (n + 1) (omega (arith, length-append a t)) (omega arith) (omega arith) ∙ append_assoc a t (triples es ++ drop (3 * length es) b))
