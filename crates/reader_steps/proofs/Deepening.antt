-- A container that is opened: what is left of the depth, and what is the same inside it. Assumes nothing.
use Rattle.std.proofs.Common.{◌≡◌, ℕ, ◌+◌, ◌≤◌, Bool, true, false, eqb, List, sym, ap, ◌∙◌, arith, eq-eqb, ne_eqb}
use mathlib.Core.Path.{subst⁻¹}
use Rattle.meaning.specs.Depths.{Depths, Opened, total, depth_refusal, opened}
use Rattle.meaning.specs.Outcome.{Outcome}
use Rattle.meaning.specs.Reading.{within}
use Rattle.meaning.proofs.Bounds.{total_most, total_opened}
use Rattle.container_depths.specs.Opening.{depths_of, level}
use Rattle.container_depths.specs.declared.ContainerDepths.{ContainerDepths}
use Rattle.reader_basic.specs.Answers.{Done}
use Rattle.reader_basic.specs.Parts.{Within, Inside}
use Rattle.meaning.specs.Calls.{Counts}
use Rattle.reader_basic.specs.declared.Context.{Context}
use Rattle.reader_basic.proofs.Answers.{answer, refusing}
use Rattle.reader_steps.specs.Openings.{Inner, Deeper, Opens}

-- an answer by what is known of it
pub told : {o : Outcome} {end len n : ℕ} {l l' : List ℕ} {r s : Counts} → r ≡ s → Done o end len n l l' s → Done o end len n l l' r
told {o} {end} {len} {n} {l} {l'} e d = subst⁻¹ (λ (x : Counts). Done o end len n l l' x) e d

-- an answer and a slice that came by one way or another
pub arrived : {o : Outcome} {end len n : ℕ} {l l' l'' : List ℕ} {r s : Counts} → l' ≡ l'' → r ≡ s → Done o end len n l l'' s → Done o end len n l l' r
arrived e f d = rw (e, f) d

pub few_variants : {len place position : ℕ} {d : ContainerDepths} → Within len place position d → d.variant ≤ 64
few_variants {d = d} w = omega (arith, total_most (depths_of d) w.shallow)

-- ---- one container too many

pub too_deep : {x : Opened} {c : Context} {r : Inner} (p : ℕ) (inside : Depths → Outcome) (end len n : ℕ) (l : List ℕ) → Opens x c r → (r.refusal ≡ 0 → ⊥)
    → Done (within (opened x (depths_of c.depths)) p inside) end len n l l (answer r.refusal 0 n)
unfolding within
too_deep {x} {c} {r} p inside end len n l h z =
    let e : eqb (depth_refusal (opened x (depths_of c.depths))) 0 ≡ false = ne_eqb _ 0 (λ q. z (h.refusal ∙ q)) in
    rw (e, h.refusal) (refusing (depth_refusal (opened x (depths_of c.depths))) p end len n l (λ q. z (h.refusal ∙ q)))

-- ---- inside

module _ {x : Opened} {c c' : Context} (d : Deeper x c c') where
  pub within_open : (p : ℕ) (inside : Depths → Outcome) → within (opened x (depths_of c.depths)) p inside ≡ inside (depths_of c'.depths)
  unfolding within
  within_open p inside =
      let e : eqb (depth_refusal (opened x (depths_of c.depths))) 0 ≡ true = eq-eqb _ 0 (ap depth_refusal (sym d.depths) ∙ d.shallow) in
      rw e (ap inside (sym d.depths))

  pub level_falls : level c'.depths + 1 ≡ level c.depths
  level_falls = omega (arith, ap total d.depths, total_opened x (depths_of c.depths), total_most (depths_of c'.depths) d.shallow)

  pub inside_deeper : {len place : ℕ} → Inside len place c → Inside len place c'
  inside_deeper w = record { in_frame = w.in_frame; near = omega (arith, d.position, w.near); shallow = d.shallow }

  -- what is made of position, byte order and nested variants
  pub same_inside : {A : Type 0} (f : ℕ → Bool → ℕ → A) (v : ℕ) → c'.depths.variant ≡ v → f c.position c.big v ≡ f c'.position c'.big c'.depths.variant
  same_inside f v e =
      sym (ap (λ (p : ℕ). f p c'.big c'.depths.variant) d.position ∙ ap (λ (b : Bool). f c.position b c'.depths.variant) d.big ∙ ap (λ (y : ℕ). f c.position c.big y) e)
