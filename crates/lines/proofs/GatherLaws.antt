-- A line gathered from blocks: byte by byte, and what the memory then keeps of it. Assumes nothing.
use mathlib.Core.Path.{◌≡◌, refl, sym, ap, ap₂, ◌∙◌}
use mathlib.Core.List.{List, [], ◌∷◌, ◌++◌}
use mathlib.Core.Bool.{Bool, true, false}
use Prim.Native.Nat.{ℕ, suc, ◌+◌, ◌-◌, ◌≤◌, ◌<◌}
use native.Mathlib.Nat.{add-zero, zero-add}
use native.Mathlib.Numerals.{add-one}
use native.Mathlib.Omega.{arith}
use lib.Dec.{leb, eqb}
use lib.ListN.{length, take, drop, set, get_or, length-append, length-set, drop_of_length-le}
use lib.Seq.{take-suc-set, drop-cons}
use borrow.Author.Tests.{lt-ltb, le-ltb, leb-true, leb-false, eq-eqb, ne_eqb}
use Rattle.meaning.specs.Choice.{pick}
use Rattle.lines.specs.declared.Gathered.{Gathered}
use Rattle.lines.specs.Lines.{more, stored, Keeps, Gathering, gathering, further, gathers, Gathers}
use Rattle.lines.proofs.WordLaws.{length_to_end}

pub keeps_none : (most : ℕ) (memory : List ℕ) → length memory ≡ most → Keeps most [] 0 memory
keeps_none most memory h = record { short = λ k. refl; long = λ k. omega arith; holds = λ k. refl; room = h }

pub keeps_more : {most : ℕ} {l : List ℕ} {kept : ℕ} {memory : List ℕ} (b : ℕ) → Keeps most l kept memory → Keeps most (l ++ (b ∷ [])) (more most kept) (stored most memory kept b)
unfolding more stored
keeps_more {most} {l} {kept} {memory} b k = go (leb (suc (length l)) most) refl
  where
    longer : length (l ++ (b ∷ [])) ≡ suc (length l)
    longer = simp length-append (omega arith)

    go : (x : Bool) → leb (suc (length l)) most ≡ x → Keeps most (l ++ (b ∷ [])) (more most kept) (stored most memory kept b)
    go true t =
        let few = leb-true (suc (length l)) most t in
        let e = k.short (omega arith) in
        let i : kept < most = omega arith in
        let r = k.room in
        let n : kept < length memory = omega arith in
        rw (lt-ltb kept most i) (record {
          short = λ h. omega (arith, longer);
          long = λ h. omega (arith, longer);
          holds = λ h. ap (λ (j : ℕ). take j (set memory kept b)) (add-one kept) ∙ take-suc-set memory kept b n ∙ ap (λ (x : List ℕ). x ++ (b ∷ [])) (k.holds (omega arith));
          room = length-set memory kept b ∙ k.room;
        })
    go false t =
        let many = leb-false (suc (length l)) most t in
        let i : most ≤ kept = over_most (leb (length l) most) refl in
        rw (le-ltb kept most i) (record {
          short = λ h. omega (arith, longer);
          long = λ h. refl;
          holds = λ h. (let never : ⊥ = omega (arith, longer) in absurd never);
          room = k.room;
        })
      where
        over_most : (x : Bool) → leb (length l) most ≡ x → most ≤ kept
        over_most true u = let e = k.short (leb-true (length l) most u) in let many = leb-false (suc (length l)) most t in omega arith
        over_most false u = let e = k.long (leb-false (length l) most u) in omega arith

-- a byte, and the line's end
gathers_end : (line : List ℕ) (kept b : ℕ) (l : List ℕ) → b ≡ 10 → gathers line kept (b ∷ l) ≡ gathering line kept 1 true
unfolding gathers
gathers_end line kept b l h = rw (eq-eqb b 10 h)

gathers_byte : (line : List ℕ) (kept b : ℕ) (l : List ℕ) → (b ≡ 10 → ⊥) → gathers line kept (b ∷ l) ≡ further 1 (gathers (stored (length line) line kept b) (more (length line) kept) l)
unfolding gathers
gathers_byte line kept b l h = rw (ne_eqb b 10 h)

gathers_none : (line : List ℕ) (kept : ℕ) → gathers line kept [] ≡ gathering line kept 0 false
unfolding gathers
gathers_none line kept = refl

-- `passed` bytes of the block are passed.
pub record Going (line₀ line : List ℕ) (kept₀ kept : ℕ) (block : List ℕ) (passed : ℕ) : Type 0 where
  pub rest : gathers line₀ kept₀ block ≡ further passed (gathers line kept (drop passed block))

pub going_begin : (line : List ℕ) (kept : ℕ) (block : List ℕ) → Going line line kept kept block 0
going_begin line kept block = record { rest = whole (gathers line kept block) }
  where
    whole : (g : Gathering) → g ≡ further 0 g
    whole g = ap (λ (n : ℕ). gathering g.memory g.kept n g.ended) (sym (zero-add g.passed))

module _ {line₀ line : List ℕ} {kept₀ kept : ℕ} {block : List ℕ} {passed : ℕ} (g : Going line₀ line kept₀ kept block passed) where
  here : passed < length block → gathers line₀ kept₀ block ≡ further passed (gathers line kept (get_or block passed 0 ∷ drop (suc passed) block))
  here h = g.rest ∙ ap (λ (l : List ℕ). further passed (gathers line kept l)) (drop-cons block passed 0 h)

  answers : (r : Gathering) → gathers line₀ kept₀ block ≡ r → r.passed ≤ length block → Gathers line₀ r.memory kept₀ block (record { kept = r.kept; passed = r.passed; ended = r.ended })
  answers r e h = record {
    memory = ap (λ (x : Gathering). x.memory) (sym e);
    kept = ap (λ (x : Gathering). x.kept) (sym e);
    passed = ap (λ (x : Gathering). x.passed) (sym e);
    within = h;
    ended = ap (λ (x : Gathering). x.ended) (sym e);
  }

  pub going_end : passed < length block → get_or block passed 0 ≡ 10 → Gathers line₀ line kept₀ block (record { kept = kept; passed = passed + 1; ended = true })
  going_end h e =
      answers (gathering line kept (passed + 1) true) (here h ∙ ap (further passed) (gathers_end line kept (get_or block passed 0) (drop (suc passed) block) e)) (omega arith)

  pub going_next : (line' : List ℕ) (kept' : ℕ) → passed < length block → (get_or block passed 0 ≡ 10 → ⊥) → kept' ≡ more (length line) kept → line' ≡ stored (length line) line kept (get_or block passed 0) → Going line₀ line' kept₀ kept' block (passed + 1)
  going_next line' kept' h e m s = record {
    rest = here h
        ∙ ap (further passed) (gathers_byte line kept (get_or block passed 0) (drop (suc passed) block) e)
        ∙ twice (gathers (stored (length line) line kept (get_or block passed 0)) (more (length line) kept) (drop (suc passed) block))
        ∙ ap₂ (λ (l : List ℕ) (k : ℕ). further (passed + 1) (gathers l k (drop (suc passed) block))) (sym s) (sym m)
        ∙ ap (λ (n : ℕ). further (passed + 1) (gathers line' kept' (drop n block))) (sym (add-one passed));
  }
    where
      twice : (x : Gathering) → further passed (further 1 x) ≡ further (passed + 1) x
      twice x = ap (λ (n : ℕ). gathering x.memory x.kept n x.ended) (omega arith)

  pub going_stop : length block ≡ passed → Gathers line₀ line kept₀ block (record { kept = kept; passed = length block; ended = false })
  going_stop e =
      let h : length block ≤ passed = omega arith in
      answers
      (gathering line kept (length block) false)
      (g.rest
      ∙ ap (λ (l : List ℕ). further passed (gathers line kept l)) (drop_of_length-le block h)
      ∙ ap (further passed) (gathers_none line kept)
      ∙ ap (λ (n : ℕ). gathering line kept n false) (add-zero passed ∙ sym e))
      (omega arith)

-- a block that has a byte is passed in part
pub gathers_moves : (line line' : List ℕ) (n : ℕ) (block : List ℕ) (r : Gathered) → Gathers line line' n block r → 0 < length block → 0 < r.passed
unfolding gathers
gathers_moves line line' n [] r g h = omega arith
gathers_moves line line' n (b ∷ l) r g h = go (eqb b 10) g.passed
  where
    go : (x : Bool) → r.passed ≡ (pick x (gathering line n 1 true) (further 1 (gathers (stored (length line) line n b) (more (length line) n) l))).passed → 0 < r.passed
    go true e = omega arith
    go false e = omega arith

-- the same where the block is the part of a larger one from a place on
pub part_passed : (whole : List ℕ) (from : ℕ) (line line' : List ℕ) (n : ℕ) (r : Gathered) → Gathers line line' n (take (length whole - from) (drop from whole)) r → from < length whole → (0 < r.passed) × (from + r.passed ≤ length whole)
part_passed whole from line line' n r g h =
    let e = length_to_end whole from in
    let w = g.within in
    (gathers_moves line line' n (take (length whole - from) (drop from whole)) r g (omega arith), omega arith)
