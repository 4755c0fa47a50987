-- What it is for a function's contract to leave one answer: two answers that satisfy it for the same arguments are the same, and so is
-- what the lent memories then hold. Assumes nothing: these are definitions.
use Rattle.std.specs.Prelude.{◌≡◌, List, ℕ}
use contract.Lifetimes.{Lfts}
use denote.Triple.Clauses.{Lasts, at_exit}
use borrow.Fn.Kinds.{ParamKind, ResultKind, Dens, res_t, Out, ended_of}

-- Learnt is what a caller learns by the function's own clauses, of the arguments, the answer and the parameters at the exit; z and w are
-- an answer and the last values of the lent memories
abbrev pub OneAnswer : {n : ℕ} (ps : List (ParamKind n)) (r : ResultKind n) → Out n ps r → Type 0
OneAnswer {n = n} ps r Learnt =
    (κs : Lfts n) (a : Dens κs ps) (z z' : (res_t r κs).Denot) (w w' : Lasts (ended_of n ps r) κs a) → Learnt κs a z (at_exit (ended_of n ps r) κs a w) → Learnt κs a z' (at_exit (ended_of n ps r) κs a w') → (z ≡ z') × (w ≡ w')

-- the same where the answer is a slice of a lent one: what a clause sees of it is its elements
abbrev pub OneView : {n : ℕ} (ps : List (ParamKind n)) (r : ResultKind n) {X : Type 0} → ((κs : Lfts n) → (res_t r κs).Denot → X) → Out n ps r → Type 0
OneView {n = n} ps r view Learnt =
    (κs : Lfts n) (a : Dens κs ps) (z z' : (res_t r κs).Denot) (w w' : Lasts (ended_of n ps r) κs a) → Learnt κs a z (at_exit (ended_of n ps r) κs a w) → Learnt κs a z' (at_exit (ended_of n ps r) κs a w') → (view κs z ≡ view κs z') × (w ≡ w')
