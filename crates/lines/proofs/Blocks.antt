-- LINES FROM BLOCKS: whatever the block, what is gathered is the line, or all of the block belongs to it. Assumes nothing.
use mathlib.Core.Path.{◌≡◌, refl, sym, subst, ap, ap₂, ◌∙◌}
use mathlib.Core.List.{List, [], ◌∷◌, ◌++◌, append_assoc, append-nil}
use mathlib.Core.Bool.{Bool, true, false}
use Prim.Native.Nat.{ℕ, suc, ◌+◌}
use native.Mathlib.Omega.{arith}
use lib.Dec.{eqb}
use lib.ListN.{length, drop}
use Rattle.meaning.specs.Choice.{pick}
use Rattle.lines.specs.Lines.{lines_from, more, stored, Keeps, Gathering, gathering, further, gathers, GoesOn, line_ended, line_open}
use Rattle.lines.proofs.GatherLaws.{keeps_more}

-- a byte that ends no line, in front
byte_passed : (most b : ℕ) (p l rest : List ℕ) (g : Gathering) → lines_from p (b ∷ l ++ rest) ≡ lines_from (p ++ (b ∷ [])) (l ++ rest) → GoesOn most (p ++ (b ∷ [])) l rest g → GoesOn most p (b ∷ l) rest (further 1 g)
byte_passed most b p l rest g h (line_ended t e k q) =
    let n : 1 + g.passed ≡ suc g.passed = omega arith in
    let whole : p ++ (b ∷ []) ++ t ≡ p ++ (b ∷ t) = append_assoc p (b ∷ []) t in
    line_ended (b ∷ t) e (subst (λ (x : List ℕ). Keeps most x g.kept g.memory) whole k)
    (h ∙ q ∙ ap₂ (λ (x : List ℕ) (j : ℕ). x ∷ lines_from [] (drop j (b ∷ l) ++ rest)) whole (sym n))
byte_passed most b p l rest g h (line_open e k q) =
    let whole : p ++ (b ∷ []) ++ l ≡ p ++ (b ∷ l) = append_assoc p (b ∷ []) l in
    line_open e (subst (λ (x : List ℕ). Keeps most x g.kept g.memory) whole k)
    (h ∙ q ∙ ap (λ (x : List ℕ). lines_from x rest) whole)

-- THE THEOREM
pub block_goes_on : (most : ℕ) (p : List ℕ) (kept : ℕ) (memory block rest : List ℕ) → Keeps most p kept memory → GoesOn most p block rest (gathers memory kept block)
unfolding gathers lines_from
block_goes_on most p kept memory [] rest k =
    line_open refl (subst (λ (x : List ℕ). Keeps most x kept memory) (sym (append-nil p)) k) (ap (λ (x : List ℕ). lines_from x rest) (sym (append-nil p)))
block_goes_on most p kept memory (b ∷ l) rest k =
    go (eqb b 10) refl (block_goes_on most (p ++ (b ∷ [])) (more most kept) (stored most memory kept b) l rest (keeps_more b k))
  where
    by : (x : Bool) → eqb b 10 ≡ x → lines_from p (b ∷ l ++ rest) ≡ pick x (p ∷ lines_from [] (l ++ rest)) (lines_from (p ++ (b ∷ [])) (l ++ rest))
    by x e = ap (λ (y : Bool). pick y (p ∷ lines_from [] (l ++ rest)) (lines_from (p ++ (b ∷ [])) (l ++ rest))) e

    go : (x : Bool) → eqb b 10 ≡ x → GoesOn most (p ++ (b ∷ [])) l rest (gathers (stored most memory kept b) (more most kept) l) → GoesOn most p (b ∷ l) rest (pick x (gathering memory kept 1 true) (further 1 (gathers (stored (length memory) memory kept b) (more (length memory) kept) l)))
    go true e i =
        line_ended [] refl (subst (λ (x : List ℕ). Keeps most x kept memory) (sym (append-nil p)) k)
        (by true e ∙ ap (λ (x : List ℕ). x ∷ lines_from [] (l ++ rest)) (sym (append-nil p)))
    go false e i =
        subst (λ (n : ℕ). GoesOn most p (b ∷ l) rest (further 1 (gathers (stored n memory kept b) (more n kept) l))) (sym k.room)
        (byte_passed most b p l rest _ (by false e) i)
