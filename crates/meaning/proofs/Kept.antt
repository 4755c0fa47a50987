-- Bounds on an outcome, and how they go through the ways in which outcomes are put together. Assumes nothing.
use mathlib.Core.Path.{◌≡◌, refl}
use mathlib.Core.List.{List, [], ◌∷◌}
use mathlib.Core.Bool.{Bool, true, false, ◌&&◌}
use Prim.Native.Nat.{ℕ, ◌+◌, ◌*◌, ◌-◌, ◌≤◌, min}
use native.Mathlib.Nat.{mul-add, mul-le-mul_right, zero-add}
use native.Mathlib.Omega.{arith}
use lib.Dec.{leb, eqb}
use lib.ListN.{length, take, drop, length-append, length-take, length-drop}
use borrow.Author.Tests.{eqb-true, eqb-false, leb-true}
use Rattle.meaning.specs.Choice.{pick}
use Rattle.meaning.specs.Events.{Event, opening, closing}
use Rattle.meaning.specs.Outcome.{Outcome, outcome, done, refused, after, chain, unused, closing_at, enclosed}
use Rattle.meaning.specs.Reading.{child, padded}

-- From the place j of a part on: the outcome stands at n or before, and what is done ends at m or before, has used b bytes at least, and
-- has at most c events for each byte used and e besides; p of them are not taken up.
pub record Kept (j m n b c e p : ℕ) (o : Outcome) : Type 0 where
  pub inside : j + o.used ≤ n
  pub ended : o.refusal ≡ 0 → j + o.used ≤ m
  pub least : o.refusal ≡ 0 → b ≤ o.used
  pub few : o.refusal ≡ 0 → length o.events + p ≤ c * o.used + e

pub kept_done : {j m n b c e p : ℕ} (u : ℕ) (es : List Event) → j + u ≤ m → j + u ≤ n → b ≤ u → length es + p ≤ c * u + e → Kept j m n b c e p (done u es)
kept_done u es h i g f = record { inside = i; ended = λ z. h; least = λ z. g; few = λ z. f }

pub kept_refused : {j m n b c e p : ℕ} (r k : ℕ) → (r ≡ 0 → ⊥) → j ≤ n → Kept j m n b c e p (refused r k)
kept_refused r k z h = record { inside = omega arith; ended = λ g. absurd (z g); least = λ g. absurd (z g); few = λ g. absurd (z g) }

-- more room
pub kept_more : {j m n b c e p m' b' c' e' p' : ℕ} {o : Outcome} → m ≤ m' → b' ≤ b → c ≤ c' → e + p' ≤ e' + p → Kept j m n b c e p o → Kept j m' n b' c' e' p' o
kept_more {c = c} {c' = c'} {o = o} hm hb hc he g = record {
  inside = g.inside;
  ended = λ z. (let h = g.ended z in omega arith);
  least = λ z. (let h = g.least z in omega arith);
  few = λ z. omega (arith, g.few z, mul-le-mul_right o.used hc);
}

-- one reading and then another
pub kept_chain : {j m n b c e p m' b₁ b₂ e₁ e₂ p₁ p₂ : ℕ} (o : Outcome) (f : ℕ → Outcome) → Kept j m n b₁ c e₁ p₁ o → ((u : ℕ) → j + u ≤ m → j + u ≤ n → Kept (j + u) m' n b₂ c e₂ p₂ (f u))
    → b ≤ b₁ + b₂ → e₁ + e₂ + p ≤ e + (p₁ + p₂) → Kept j m' n b c e p (chain o f)
unfolding chain
kept_chain {j} {m} {n} {b} {c} {e} {p} {m'} {b₁} {b₂} {e₁} {e₂} {p₁} {p₂} o f g h hb he = go (eqb o.refusal 0) refl
  where
    go : (x : Bool) → eqb o.refusal 0 ≡ x → Kept j m' n b c e p (pick x (after o.used o.events (f o.used)) o)
    go true q =
        let z = eqb-true o.refusal 0 q in
        let k = h o.used (g.ended z) g.inside in
        record {
          inside = omega (arith, k.inside);
          ended = λ w. (let a = k.ended w in omega arith);
          least = λ w. omega (arith, k.least w, g.least z);
          few = λ w. rw (length-append o.events (f o.used).events, mul-add c o.used (f o.used).used) (omega (arith, k.few w, g.few z));
        }
    go false q = record {
      inside = g.inside;
      ended = λ w. absurd (eqb-false o.refusal 0 q w);
      least = λ w. absurd (eqb-false o.refusal 0 q w);
      few = λ w. absurd (eqb-false o.refusal 0 q w);
    }

-- bytes in front, and events in front
pub kept_bytes : {j m n b c e p : ℕ} (u : ℕ) (o : Outcome) → Kept (j + u) m n b c e p o → Kept j m n (u + b) c e p (after u [] o)
kept_bytes {c = c} u o g = record {
  inside = omega (arith, g.inside);
  ended = λ z. omega (arith, g.ended z);
  least = λ z. omega (arith, g.least z);
  few = λ z. rw (mul-add c u o.used) (omega (arith, g.few z));
}

pub kept_event : {j m n b c e p : ℕ} (x : Event) (o : Outcome) → Kept j m n b c e p o → Kept j m n b c (e + 1) p (after 0 (x ∷ []) o)
kept_event x o g = rw (zero-add o.used) (record { inside = g.inside; ended = g.ended; least = g.least; few = λ z. omega (arith, g.few z) })

-- a container's two events
pub kept_enclosed : {j m n b c e p : ℕ} (kind k : ℕ) (o : Outcome) → Kept j m n b c e p o → Kept j m n b c (e + 2) p (enclosed kind k o)
unfolding enclosed
kept_enclosed {j} {m} {n} {b} {c} {e} {p} kind k o g =
    let i : Kept j m n b c (e + 1) p (chain o (closing_at k)) =
    kept_chain {b₂ = 0} {e₂ = 1} {p₂ = 0} o (closing_at k) g (λ u h i. kept_done 0 (closing (k + u) ∷ []) (omega arith) (omega arith) (omega arith) (omega arith)) (omega arith) (omega arith) in
    let q : e + 1 + 1 ≡ e + 2 = omega arith in
    rw q at (kept_event (opening kind k) (chain o (closing_at k)) i)

-- a failed number has used nothing
pub kept_unused : {j m n b c e p : ℕ} (o : Outcome) → Kept j m n b c e p o → Kept j m n b c e p (unused o)
unfolding unused
kept_unused {j} {m} {n} {b} {c} {e} {p} o g = go (eqb o.refusal 0) refl
  where
    go : (x : Bool) → eqb o.refusal 0 ≡ x → Kept j m n b c e p (pick x o (outcome o.refusal 0 o.place o.events))
    go true q = g
    go false q =
        let w = eqb-false o.refusal 0 q in
        record { inside = omega (arith, g.inside); ended = λ z. absurd (w z); least = λ z. absurd (w z); few = λ z. absurd (w z) }

-- padding at the end, from where it stands
pub kept_padded : {j m n b c e p m' b₂ : ℕ} (o q : Outcome) → Kept j m n b c e p o → Kept (j + o.used) m' n b₂ c 0 0 q → Kept j m' n b c e p (padded o q)
unfolding padded
kept_padded {j} {m} {n} {b} {c} {e} {p} {m'} o q g h = go (eqb q.refusal 0) refl
  where
    go : (x : Bool) → eqb q.refusal 0 ≡ x
        → Kept j m' n b c e p (pick x (outcome o.refusal (o.used + q.used) o.place o.events) (outcome q.refusal o.used q.place o.events))
    go true w =
        let z = eqb-true q.refusal 0 w in
        record {
          inside = omega (arith, h.inside);
          ended = λ y. omega (arith, h.ended z);
          least = λ y. omega (arith, g.least y);
          few = λ y. rw (mul-add c o.used q.used) (omega (arith, g.few y));
        }
    go false w =
        let z = eqb-false q.refusal 0 w in
        record { inside = g.inside; ended = λ y. absurd (z y); least = λ y. absurd (z y); few = λ y. absurd (z y) }

-- a reader's outcome on a part, and a child's in it
abbrev pub Whole : ℕ → ℕ → ℕ → (ℕ → List ℕ → Outcome) → Type 0
Whole b c e read = (k : ℕ) (l : List ℕ) → Kept 0 (length l) (length l) b c e 0 (read k l)

pub kept_child : {b c e : ℕ} (read : ℕ → List ℕ → Outcome) → Whole b c e read → (k : ℕ) (l : List ℕ) (j f : ℕ) → j ≤ length l → Kept j (min f (length l)) (length l) b c e 0 (child read k l j f)
unfolding child
kept_child {b} {c} {e} read w k l j f h = go (leb j f) (leb f (length l)) refl refl
  where
    n : length (take (f - j) (drop j l)) ≡ min (f - j) (length l - j)
    n = simp (length-take, length-drop)

    go : (x y : Bool) → leb j f ≡ x → leb f (length l) ≡ y → Kept j (min f (length l)) (length l) b c e 0 (pick (x && y) (read (k + j) (take (f - j) (drop j l))) (refused 3 (k + j)))
    go true true p q =
        let g = w (k + j) (take (f - j) (drop j l)) in
        let a = leb-true j f p in
        let z = leb-true f (length l) q in
        record {
          inside = omega (arith, g.inside, n);
          ended = λ y. omega (arith, g.inside, n);
          least = g.least;
          few = g.few;
        }
    go true false p q = kept_refused 3 (k + j) (λ z. omega arith) h
    go false y p q = kept_refused 3 (k + j) (λ z. omega arith) h
