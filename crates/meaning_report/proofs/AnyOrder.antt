-- The same lines in whatever order: exchanges of neighbours lead from the one order to the other, so that the order changes nothing but the
-- two seconds of each sensor. Assumes nothing.
use mathlib.Core.Path.{◌≡◌, refl, sym, ap, ap₂, subst, ◌∙◌}
use mathlib.Core.List.{List, [], ◌∷◌, ◌++◌}
use mathlib.Core.Bool.{Bool, true, false, ◌&&◌}
use Prim.Native.Nat.{ℕ, ◌+◌, ◌<◌}
use native.Mathlib.Omega.{arith}
use lib.Dec.{leb, eqb}
use borrow.Author.Tests.{eq-eqb, eqb-true}
use Rattle.meaning.specs.Choice.{pick}
use Rattle.lines.specs.Lines.{lines}
use Rattle.meaning_report.specs.Report.{verdicts, report_refusal}
use Rattle.meaning_report.specs.Orders.{same_line, times, SameLines, Reordered, kept, exchanged}
use Rattle.meaning_report.proofs.Theorems.{SameCounts, length_reordered, reordered_more, reordered_then, lines_reordered}

same_itself : (l : List ℕ) → same_line l l ≡ true
unfolding same_line
same_itself [] = refl
same_itself (a ∷ l) = ap₂ (λ (x y : Bool). x && y) (eq-eqb a a refl) (same_itself l)

same_equal : (l m : List ℕ) → same_line l m ≡ true → l ≡ m
unfolding same_line
same_equal [] [] h = refl
same_equal [] (b ∷ m) h = cc
same_equal (a ∷ l) [] h = cc
same_equal (a ∷ l) (b ∷ m) h = go (eqb a b) refl h (λ k. same_equal l m k)
  where
    go : (x : Bool) → eqb a b ≡ x → (x && same_line l m) ≡ true → (same_line l m ≡ true → l ≡ m) → a ∷ l ≡ b ∷ m
    go true e k i = ap₂ (λ (x : ℕ) (y : List ℕ). x ∷ y) (eqb-true a b e) (i k)
    go false e k i = cc

-- where a line stands among lines
record Found (a : List ℕ) (ms : List (List ℕ)) : Type 0 where
  front : List (List ℕ)
  rest : List (List ℕ)
  is : ms ≡ front ++ a ∷ rest

found : (a : List ℕ) (ms : List (List ℕ)) → 0 < times a ms → Found a ms
unfolding times
found a [] h = absurd (let never : ⊥ = omega arith in never)
found a (m ∷ ms) h = go (same_line a m) refl h (λ k. found a ms k)
  where
    go : (x : Bool) → same_line a m ≡ x → 0 < pick x 1 0 + times a ms → (0 < times a ms → Found a ms) → Found a (m ∷ ms)
    go true e k i = record { front = []; rest = ms; is = ap (λ (l : List ℕ). l ∷ ms) (sym (same_equal a m e)) }
    go false e k i =
        let f = i (omega arith) in
        record { front = m ∷ f.front; rest = f.rest; is = ap (λ (l : List (List ℕ)). m ∷ l) f.is }

times_append : (x : List ℕ) (l m : List (List ℕ)) → times x (l ++ m) ≡ times x l + times x m
unfolding times
times_append x [] m = omega arith
times_append x (a ∷ l) m = let h = times_append x l m in omega arith

times_some : (a : List ℕ) (ls : List (List ℕ)) → 0 < times a (a ∷ ls)
unfolding times
times_some a ls = let e = ap (λ (x : Bool). pick x 1 0 + times a ls) (same_itself a) in omega arith

-- a line goes behind those that stand before it
moved : (a : List ℕ) (front rest : List (List ℕ)) → Reordered (a ∷ (front ++ rest)) (front ++ a ∷ rest)
moved a [] rest = kept (a ∷ rest)
moved a (b ∷ front) rest =
    exchanged [] a b (front ++ rest) (b ∷ (front ++ a ∷ rest)) (reordered_more b (a ∷ (front ++ rest)) (front ++ a ∷ rest) (moved a front rest))

pub any_order : (ls ms : List (List ℕ)) → SameLines ls ms → Reordered ls ms
unfolding times
any_order [] [] h = kept []
any_order [] (m ∷ ms) h = let e = h m in let k = times_some m ms in absurd (let never : ⊥ = omega arith in never)
any_order (a ∷ ls) ms h =
    let e = h a in
    let k = times_some a ls in
    let f = found a ms (omega arith) in
    let left : SameLines ls (f.front ++ f.rest) = λ x. less f x in
    subst (λ (l : List (List ℕ)). Reordered (a ∷ ls) l) (sym f.is)
    (reordered_then (a ∷ ls) (a ∷ (f.front ++ f.rest)) (f.front ++ a ∷ f.rest) (reordered_more a ls (f.front ++ f.rest) (any_order ls (f.front ++ f.rest) left)) (moved a f.front f.rest))
  where
    less : (f : Found a ms) (x : List ℕ) → times x ls ≡ times x (f.front ++ f.rest)
    less f x =
        let e : pick (same_line x a) 1 0 + times x ls ≡ times x (f.front ++ a ∷ f.rest) = h x ∙ ap (λ (l : List (List ℕ)). times x l) f.is in
        let l = times_append x f.front (a ∷ f.rest) in
        let m = times_append x f.front f.rest in
        omega arith

-- THE THEOREM, of two inputs with the same lines
pub order_of_lines : (first last : ℕ) (input other : List ℕ) → SameLines (lines input) (lines other) → (report_refusal input ≡ report_refusal other) × SameCounts (verdicts first last (lines input)) (verdicts first last (lines other))
unfolding report_refusal
order_of_lines first last input other h =
    let r = any_order (lines input) (lines other) h in
    (ap (λ (n : ℕ). pick (leb n 2678400) 0 20) (length_reordered (lines input) (lines other) r), lines_reordered first last (lines input) (lines other) r)
