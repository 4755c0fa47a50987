-- A law for each way out of the reader of maybes. Assumes nothing.
use Rattle.std.proofs.Common.{◌≡◌, ℕ, ◌+◌, ◌-◌, ◌<◌, ◌≤◌, Bool, true, false, List, [], ◌∷◌, length, get_or, sym, refl, ap, ◌∙◌, arith, eq-eqb, ne_eqb, le-leb}
use borrow.Author.Tests.{lt-leb}
use Rattle.meaning.specs.Choice.{pick}
use Rattle.meaning.specs.Depths as Depth
use Rattle.meaning.specs.Depths.{Depths}
use Rattle.meaning.specs.Types.{maybe, fixed}
use Rattle.meaning.specs.Events.{event, present, nothing}
use Rattle.meaning.specs.Outcome.{Outcome, after, chain}
use Rattle.meaning.specs.Reading.{child, end_byte, present_in, maybe_in}
use Rattle.container_depths.specs.Opening.{depths_of}
use Rattle.signature.specs.Places.{letter_at}
use Rattle.signature.specs.Trees.{tree_at, Typed}
use Rattle.signature.specs.declared.Letter.TheVariants.{Maybe}
use Rattle.signature.proofs.TreeLaws.{maybe_tree}
use Rattle.events.specs.Slices.{next_event, put}
use Rattle.reader_basic.specs.Answers.{Done, From}
use Rattle.meaning.specs.Calls.{Counts}
use Rattle.reader_basic.specs.declared.Context.{Context}
use Rattle.meaning.proofs.Lists.{within_default}
use Rattle.reader_basic.proofs.Answers.{answer, single, after_event, stopped, ended, ended_refused}
use Rattle.reader_steps.specs.Openings.{Inner, Deeper, Opens}
use Rattle.reader_steps.specs.Places.{reader_of, body_in, value_at, value_in, inside_of}
use Rattle.reader_steps.proofs.Deepening.{too_deep, within_open, same_inside}

-- ---- the byte at the end

module _ (o : Outcome) (part : List ℕ) (lead place n : ℕ) (l l' : List ℕ) (r : Counts) (g : Done o (length part - 1 - lead) (length part - lead) n l l' r) where
  pub end_byte_stop : (r.refusal ≡ 0 → ⊥) → From (chain o (end_byte place part lead)) part lead n l l' r
  end_byte_stop y = stopped _ _ _ _ n l l' o (end_byte place part lead) r y (omega arith) g

  module _ (h : lead < length part) (y : r.refusal ≡ 0) where
    inside : lead + r.used < length part
    inside = let i = g.ends y in omega arith

    pub end_byte_other : (get_or part (lead + r.used) 0 ≡ 0 → ⊥) → From (chain o (end_byte place part lead)) part lead n l l' (answer 7 r.used r.count)
    unfolding end_byte
    end_byte_other b =
        ended_refused _ _ _ _ n 7 (place + (lead + r.used)) l l' o (end_byte place part lead) r y
        (rw (ne_eqb (get_or part (lead + r.used) 1) 0 (λ z. b (sym (within_default part (lead + r.used) inside) ∙ z)))) (λ w. omega arith) g.fits g

    pub end_byte_zero : get_or part (lead + r.used) 0 ≡ 0 → From (chain o (end_byte place part lead)) part lead n l l' (answer 0 (r.used + 1) r.count)
    unfolding end_byte
    end_byte_zero b =
        let i = g.ends y in
        ended _ _ _ _ n 1 (r.used + 1) l l' o (end_byte place part lead) r y
        (rw (eq-eqb (get_or part (lead + r.used) 1) 0 (within_default part (lead + r.used) inside ∙ b))) refl (omega arith) (omega arith) g

-- ---- a maybe

module _ {text : List ℕ} {at : ℕ} (t : Typed text at) (e : letter_at text at ≡ Maybe) (part : List ℕ) (lead place : ℕ) (c : Context) (n : ℕ) (l : List ℕ) where
  maybe_body : (x : ℕ) → x ≡ at + 1
      → inside_of c (tree_at text at) place part lead ≡ maybe_in (fixed (tree_at text x)) (value_at c (tree_at text x)) (depths_of c.depths) place part lead
  unfolding body_in
  maybe_body x there = rw (maybe_tree text at t e ∙ ap (λ (y : ℕ). maybe (tree_at text y)) (sym there))

  pub maybe_none : (m : ℕ) (l' : List ℕ) → length part ≤ lead → m ≡ next_event n → l' ≡ put l n (event 78 (place + lead) 0)
      → From (inside_of c (tree_at text at) place part lead) part lead n l l' (answer 0 0 m)
  unfolding maybe_in
  maybe_none m l' h p q =
      rw (maybe_body (at + 1) refl) (rw (le-leb (length part) lead h) (single 0 _ _ n m l l' (nothing (place + lead)) (omega arith) (omega arith) p q))

  module _ (h : lead < length part) where
    pub maybe_deep : {r : Inner} → Opens Depth.maybe c r → (r.refusal ≡ 0 → ⊥) → From (inside_of c (tree_at text at) place part lead) part lead n l l (answer r.refusal 0 n)
    unfolding maybe_in
    maybe_deep o z = rw (maybe_body (at + 1) refl) (rw (lt-leb (length part) lead h) (too_deep (place + lead) _ _ _ n l o z))

    -- what it holds, of a type that stands at x, and is fixed or not
    module _ {c' : Context} (d : Deeper Depth.maybe c c') {m : ℕ} {l₁ : List ℕ} (p : m ≡ next_event n) (q : l₁ ≡ put l n (event 109 (place + lead) 0)) {x : ℕ} (there : x ≡ at + 1)
        {b : Bool} (f : b ≡ fixed (tree_at text x)) (r : Counts) (l' : List ℕ) where
      as_read : From (after 0 (present (place + lead) ∷ []) (pick b (child (value_in c' (tree_at text x)) place part lead (length part))
          (chain (child (value_in c' (tree_at text x)) place part lead (length part - 1)) (end_byte place part lead)))) part lead n l l' r
          → From (inside_of c (tree_at text at) place part lead) part lead n l l' r
      unfolding maybe_in present_in
      as_read g =
          rw (maybe_body x there)
          (rw (
            lt-leb (length part) lead h,
            within_open d (place + lead) (present_in (fixed (tree_at text x)) (value_at c (tree_at text x)) place part lead),
            same_inside d (λ y w v. reader_of y w v (tree_at text x)) c.depths.variant (ap (λ (y : Depths). y.variant) d.depths),
            ← f,
          ) g)

      pub maybe_fixed : b ≡ true → From (child (value_in c' (tree_at text x)) place part lead (length part)) part lead m l₁ l' r
          → From (inside_of c (tree_at text at) place part lead) part lead n l l' r
      maybe_fixed y g = as_read (rw y (after_event _ _ n m l l₁ l' (present (place + lead)) _ r p q g))

      pub maybe_other : b ≡ false → From (chain (child (value_in c' (tree_at text x)) place part lead (length part - 1)) (end_byte place part lead)) part lead m l₁ l' r
          → From (inside_of c (tree_at text at) place part lead) part lead n l l' r
      maybe_other y g = as_read (rw y (after_event _ _ n m l l₁ l' (present (place + lead)) _ r p q g))
