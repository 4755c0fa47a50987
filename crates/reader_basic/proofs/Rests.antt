-- What is left of a reading, in a loop. Whatever answers what is left answers the whole, with what was passed in front. Assumes nothing.
use mathlib.Core.Path.{◌≡◌}
use mathlib.Core.List.{List}
use Prim.Native.Nat.{ℕ, ◌+◌, ◌≤◌}
use native.Mathlib.Nat.{add-zero, add_assoc}
use native.Mathlib.Omega.{arith}
use Rattle.meaning.specs.Outcome.{Outcome, chain}
use Rattle.reader_basic.specs.Answers.{Done}
use Rattle.meaning.specs.Calls.{Counts}
use Rattle.reader_basic.proofs.Answers.{answer, both}

-- of the reading o, from event n on over the slice l, u bytes were passed, and o' is left, from event n' on over l'
pub record Rest (o : Outcome) (end len n : ℕ) (l : List ℕ) (u : ℕ) (o' : Outcome) (end' len' n' : ℕ) (l' : List ℕ) : Type 0 where
  pub whole : (l'' : List ℕ) (s : Counts) → Done o' end' len' n' l' l'' s → Done o end len n l l'' (answer s.refusal (u + s.used) s.count)

-- at first all is left
pub rest_all : (o : Outcome) (end len n : ℕ) (l : List ℕ) → Rest o end len n l 0 o end len n l
rest_all o end len n l = record {
  whole = λ l'' s d. record {
    refusal = d.refusal;
    used = omega (arith, d.used);
    fits = omega (arith, d.fits);
    ends = λ z. omega (arith, d.ends z);
    count = d.count;
    slice = d.slice;
  };
}

-- one part after another
pub rest_on : {o o₁ o₂ : Outcome} {end end₁ end₂ len len₁ len₂ n n₁ n₂ u v : ℕ} {l l₁ l₂ : List ℕ}
    → Rest o end len n l u o₁ end₁ len₁ n₁ l₁ → Rest o₁ end₁ len₁ n₁ l₁ v o₂ end₂ len₂ n₂ l₂ → Rest o end len n l (u + v) o₂ end₂ len₂ n₂ l₂
rest_on {u = u} {v = v} a b = record { whole = λ l'' s d. rw (add_assoc u v s.used) (a.whole l'' _ (b.whole l'' s d)) }

-- the same reading, said otherwise
pub rest_as : {o o₁ o₂ : Outcome} {end end₂ len len₂ n n₂ u : ℕ} {l l₂ : List ℕ} → o ≡ o₁ → Rest o₁ end len n l u o₂ end₂ len₂ n₂ l₂ → Rest o end len n l u o₂ end₂ len₂ n₂ l₂
rest_as e a = rw e a

-- the first of a chain is done: what goes on is left
pub rest_chain : (end end₁ end₂ len len₁ len₂ n : ℕ) (l l₁ : List ℕ) (o : Outcome) (f : ℕ → Outcome) (r : Counts) → r.refusal ≡ 0 → r.used + len₂ ≤ len → r.used + end₂ ≤ end
    → Done o end₁ len₁ n l l₁ r → Rest (chain o f) end len n l r.used (f r.used) end₂ len₂ r.count l₁
rest_chain end end₁ end₂ len len₁ len₂ n l l₁ o f r z h i d = record { whole = λ l'' s e. both end end₁ end₂ len len₁ len₂ n l l₁ l'' o f r s z h i d e }

-- nothing more is passed
pub rest_end : {o o' : Outcome} {end end' len len' n n' u k m : ℕ} {l l' l'' : List ℕ}
    → Rest o end len n l u o' end' len' n' l' → Done o' end' len' n' l' l'' (answer k 0 m) → Done o end len n l l'' (answer k u m)
rest_end {u = u} a d = rw (add-zero u) at (a.whole _ _ d)
