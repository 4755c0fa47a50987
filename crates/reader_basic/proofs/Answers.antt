-- How answers are put together: each law says that the code's answer is the reading that a definition of meaning's Outcome makes.
-- Assumes nothing.
use mathlib.Core.Path.{◌≡◌, refl, ap, sym, ◌∙◌}
use mathlib.Core.List.{List, [], ◌∷◌}
use mathlib.Core.Bool.{true, false}
use Prim.Native.Nat.{ℕ, ◌+◌, ◌≤◌}
use native.Mathlib.Omega.{arith}
use lib.Dec.{eqb}
use borrow.Author.Tests.{eq-eqb, ne_eqb}
use Rattle.std.specs.Prelude.{Result, Ok, Err}
use Rattle.std.specs.Result.{IsErr, IsErrAnd}
use Rattle.meaning.specs.declared.refusals.Refusal.{Refusal}
use Rattle.meaning.specs.Events.{Event}
use Rattle.meaning.specs.Outcome.{Outcome, done, refused, after, chain}
use Rattle.meaning.specs.Refused.{number_of}
use Rattle.reader_basic.specs.declared.Answer.{Answer}
use Rattle.reader_basic.specs.declared.Stop.{Stop}
use Rattle.reader_basic.specs.Answers.{Done, counts_of, counts_at, StopsAt}
use Rattle.events.specs.Slices.{next_event, put, put_all, advance}
use Rattle.meaning.specs.Calls.{Counts}
use Rattle.events.proofs.SliceLaws.{put_all_append, advance_append}

abbrev pub answer : ℕ → ℕ → ℕ → Counts
answer k u m = record { refusal = k; used = u; count = m }

-- what a `?` hands on
pub handed : {A E : Type 0} (r : Result A E) (e : E) → IsErr r × IsErrAnd r (λ x. x ≡ e) → r ≡ Err e
handed (Ok a) e h = absurd h.1
handed (Err d) e h = ap Err h.1

-- an answer by what is known of it
pub told_by : {o : Outcome} {end len n : ℕ} {l l' : List ℕ} {r s : Result Answer Stop} → r ≡ s → Done o end len n l l' (counts_of s) → Done o end len n l l' (counts_of r)
told_by e d = rw e d

-- a stop that a `?` hands on
pub handed_on : {o : Outcome} {end len n : ℕ} {l l' : List ℕ} (r : Result Answer Stop) (e : Stop) → IsErr r × IsErrAnd r (λ x. x ≡ e) → Done o end len n l l' (counts_at e) → Done o end len n l l' (counts_of r)
handed_on r e h d = rw (handed r e h) d

-- the same of what was not found
pub refused_at : {A : Type 0} {o : Outcome} {end len n u m : ℕ} {l l' : List ℕ} {found : Result A Refusal} (r : Result Answer Stop) (e : Stop) → IsErr r × IsErrAnd r (λ x. x ≡ e) → StopsAt found u m e
    → Done o end len n l l' (answer (number_of e.refusal) u m) → Done o end len n l l' (counts_of r)
refused_at r e h s d = rw (handed r e h, s.used, s.count) d

-- what a call answered, by what is made of it
pub made : {A : Type 0} {x y : A} → x ≡ y → (r : A) → r ≡ x → r ≡ y
made h r e = e ∙ h

-- a refusal with no event
pub refusing : (k p end len n : ℕ) (l : List ℕ) → (k ≡ 0 → ⊥) → Done (refused k p) end len n l l (answer k 0 n)
unfolding put_all advance
refusing k p end len n l z = record { refusal = refl; used = refl; fits = omega arith; ends = λ h. absurd (z h); count = refl; slice = refl }

-- done with no event
pub plain : (u end len n : ℕ) (l : List ℕ) → u ≤ end → u ≤ len → Done (done u []) end len n l l (answer 0 u n)
unfolding put_all advance
plain u end len n l h i = record { refusal = refl; used = refl; fits = i; ends = λ z. h; count = refl; slice = refl }

-- done with one event
pub single : (u end len n m : ℕ) (l l' : List ℕ) (e : Event) → u ≤ end → u ≤ len → m ≡ next_event n → l' ≡ put l n e → Done (done u (e ∷ [])) end len n l l' (answer 0 u m)
unfolding put_all advance
single u end len n m l l' e h i p q = record { refusal = refl; used = refl; fits = i; ends = λ z. h; count = p; slice = q }

-- more room
pub wider : (end end' len len' n : ℕ) (l l' : List ℕ) (o : Outcome) (r : Counts) → end ≤ end' → len ≤ len' → Done o end len n l l' r → Done o end' len' n l l' r
wider end end' len len' n l l' o r h i d =
    let f = d.fits in
    record { refusal = d.refusal; used = d.used; fits = omega arith; ends = λ z. omega (arith, d.ends z); count = d.count; slice = d.slice }

-- bytes in front
pub after_bytes : (u end end' len len' n : ℕ) (l l' : List ℕ) (o : Outcome) (r : Counts) → u + len' ≤ len → u + end' ≤ end → Done o end' len' n l l' r
    → Done (after u [] o) end len n l l' (answer r.refusal (u + r.used) r.count)
after_bytes u end end' len len' n l l' o r h i d =
    let f = d.fits in
    record { refusal = d.refusal; used = ap (λ (x : ℕ). u + x) d.used; fits = omega arith; ends = λ z. omega (arith, d.ends z); count = d.count; slice = d.slice }

-- an event in front
pub after_event : (end len n m : ℕ) (l l₁ l' : List ℕ) (e : Event) (o : Outcome) (r : Counts) → m ≡ next_event n → l₁ ≡ put l n e → Done o end len m l₁ l' r → Done (after 0 (e ∷ []) o) end len n l l' r
unfolding put_all advance
after_event end len n m l l₁ l' e o r p q d = record {
  refusal = d.refusal;
  used = d.used ∙ omega arith;
  fits = d.fits;
  ends = d.ends;
  count = d.count ∙ ap (λ (x : ℕ). advance x o.events) p;
  slice = d.slice ∙ (rw (p, q));
}

-- the first is done, and the second goes on where it stopped
pub both : (end end₁ end₂ len len₁ len₂ n : ℕ) (l l₁ l' : List ℕ) (o : Outcome) (f : ℕ → Outcome) (r s : Counts) → r.refusal ≡ 0 → r.used + len₂ ≤ len → r.used + end₂ ≤ end
    → Done o end₁ len₁ n l l₁ r → Done (f r.used) end₂ len₂ r.count l₁ l' s → Done (chain o f) end len n l l' (answer s.refusal (r.used + s.used) s.count)
unfolding chain
both end end₁ end₂ len len₁ len₂ n l l₁ l' o f r s z h i d e =
    let c : eqb o.refusal 0 ≡ true = eq-eqb _ _ (sym d.refusal ∙ z) in
    let q = e.fits in
    rw (c, sym d.used)
    (record {
      refusal = e.refusal;
      used = ap (λ (x : ℕ). r.used + x) e.used;
      fits = omega arith;
      ends = λ y. omega (arith, e.ends y);
      count = e.count ∙ ap (λ (x : ℕ). advance x (f r.used).events) d.count ∙ sym (advance_append o.events (f r.used).events n);
      slice = e.slice ∙ rw (d.slice, d.count) (sym (put_all_append o.events (f r.used).events l n));
    })

-- the first is refused
pub stopped : (end end₁ len len₁ n : ℕ) (l l' : List ℕ) (o : Outcome) (f : ℕ → Outcome) (r : Counts) → (r.refusal ≡ 0 → ⊥) → len₁ ≤ len
    → Done o end₁ len₁ n l l' r → Done (chain o f) end len n l l' r
unfolding chain
stopped end end₁ len len₁ n l l' o f r z h d =
    let c : eqb o.refusal 0 ≡ false = ne_eqb _ _ (λ w. z (d.refusal ∙ w)) in
    let q = d.fits in
    rw c (record { refusal = d.refusal; used = d.used; fits = omega arith; ends = λ y. absurd (z y); count = d.count; slice = d.slice })

-- the first is done, and what follows it has no event
pub ended : (end end₁ len len₁ n u v : ℕ) (l l₁ : List ℕ) (o : Outcome) (f : ℕ → Outcome) (r : Counts) → r.refusal ≡ 0 → f r.used ≡ done u [] → v ≡ r.used + u → v ≤ end → v ≤ len
    → Done o end₁ len₁ n l l₁ r → Done (chain o f) end len n l l₁ (answer 0 v r.count)
ended end end₁ len len₁ n u v l l₁ o f r z w e h i d =
    rw e (both end end₁ u len len₁ u n l l₁ l₁ o f r (answer 0 u r.count) z (omega arith) (omega arith) d (rw w (plain u u u r.count l₁ (omega arith) (omega arith))))

-- the first is done, and what follows is refused with no event
pub ended_refused : (end end₁ len len₁ n k p : ℕ) (l l₁ : List ℕ) (o : Outcome) (f : ℕ → Outcome) (r : Counts) → r.refusal ≡ 0 → f r.used ≡ refused k p → (k ≡ 0 → ⊥) → r.used ≤ len
    → Done o end₁ len₁ n l l₁ r → Done (chain o f) end len n l l₁ (answer k r.used r.count)
ended_refused end end₁ len len₁ n k p l l₁ o f r z w y h d =
    let q : r.used + 0 ≡ r.used = omega arith in
    let g = both r.used end₁ 0 len len₁ 0 n l l₁ l₁ o f r (answer k 0 r.count) z (omega arith) (omega arith) d (rw w (refusing k p 0 0 r.count l₁ y)) in
    record { refusal = g.refusal; used = sym q ∙ g.used; fits = h; ends = λ x. absurd (y x); count = g.count; slice = g.slice }
