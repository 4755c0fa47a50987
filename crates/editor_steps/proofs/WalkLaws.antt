-- Laws of the walk's answers: one that counts, and a container's from that of its child. Assumes nothing.
use mathlib.Core.Path.{◌≡◌, refl, sym, ap, ◌∙◌, subst}
use mathlib.Core.List.{List, ◌++◌}
use mathlib.Core.Bool.{Bool, true, false, ◌&&◌, false≢true}
use Prim.Native.Nat.{ℕ, ◌+◌, ◌-◌, ◌≤◌, ◌<◌}
use native.Mathlib.Omega.{arith}
use lib.Dec.{eqb}
use lib.ListN.{length, drop, length-append}
use borrow.Author.Tests.{eq-eqb, ne_eqb, eqb-true, eqb-false}
use Rattle.meaning.specs.Depths.{Depths}
use Rattle.meaning_writing.specs.Readings.{MaybeNumber, Spot}
use Rattle.meaning_writing.specs.Edited.{Editor}
use Rattle.editor_basic.specs.Puts.{over}
use Rattle.editor_basic.proofs.FoundLaws.{found_composed}
use Rattle.editor_steps.specs.Walked.{Walked, counted_as, walk_as}
use Rattle.editor_steps.specs.declared.answers.Walk.{Walk}
use Rattle.editor_steps.specs.declared.answers.Walk.TheVariants.{Counted, Edited}
use Rattle.editor_steps.specs.Walks.{barred, Walks}
use Rattle.editor_steps.specs.Closing.{edits, Fits, end_in, Closes}

-- ---- an answer that counts

pub unfound : {A : Type 0} {b : Bool} → b ≡ false → b ≡ true → A
unfound h g = absurd (false≢true (sym h ∙ g))

pub counts : (e : Editor) (d : Depths) (p : ℕ) (l : List ℕ) (i : ℕ) (x : MaybeNumber) (m : ℕ) (out out' : List ℕ) (n : ℕ) (r : Walked)
    → r ≡ counted_as n → n ≡ e.count l → n ≤ i → out' ≡ out → Walks e d p l i x m out out' r
counts e d p l i x m out out' n r h c b k = record {
  past = λ f. record { count_is = ap (λ (w : Walked). w.length) h ∙ c; beyond = omega (arith, ap (λ (w : Walked). w.length) h); kept = k };
  here = λ f. unfound (ap (λ (w : Walked). w.found) h) f;
}

-- what does not count is found
pub walk_found : (w : Walk) → ((n : ℕ) → w ≡ Counted n → ⊥) → (walk_as w).found ≡ true
walk_found (Counted n) h = absurd (h n refl)
walk_found (Edited p n) h = refl

pub walk_counted : (w : Walk) → ((p n : ℕ) → w ≡ Edited p n → ⊥) → (walk_as w).found ≡ false
walk_counted (Counted n) h = refl
walk_counted (Edited p n) h = absurd (h p n refl)

-- ---- the same walk, by an editor that does the same

pub walks_by : (e : Editor) (d : Depths) (e' : Editor) (d' : Depths) (p : ℕ) (l : List ℕ) (i : ℕ) (x : MaybeNumber) (m m' : ℕ) (out out' : List ℕ) (r : Walked)
    → e.count l ≡ e'.count l → e.spot d p l i ≡ e'.spot d' p l i → e.edited l i x ≡ e'.edited l i x → m ≤ m'
    → Walks e d p l i x m out out' r → Walks e' d' p l i x m' out out' r
walks_by e d e' d' p l i x m m' out out' r c s y h w = record {
  past = λ f. let g = w.past f in record { count_is = g.count_is ∙ c; beyond = g.beyond; kept = g.kept };
  here = λ f. let g = w.here f in record {
    within = subst (λ (n : ℕ). i < n) c g.within;
    refusal_is = g.refusal_is ∙ ap (λ (z : Spot). barred z x) s;
    kept = g.kept;
    made = λ q. let k = g.made q in record {
      place_is = k.place_is ∙ ap (λ (z : Spot). z.place) s;
      after = k.after;
      inside = k.inside;
      length_is = k.length_is ∙ ap length y;
      short = omega (arith, k.short);
      bytes_is = k.bytes_is ∙ ap (λ (z : List ℕ). over out 0 (drop (r.place - p) z)) y;
    };
  };
}

-- ---- a container's answer from that of its child that has the reading

-- the child is edited, or its refusal is handed on
edits_on : (w : Walked) → w.found ≡ true → w.refusal ≡ 0 → edits w ≡ true
edits_on w f h = rw (f, eq-eqb w.refusal 0 h)

edits_not : (w : Walked) → w.found ≡ true → (w.refusal ≡ 0 → ⊥) → edits w ≡ false
edits_not w f h = rw (f, ne_eqb w.refusal 0 h)

edits_past : (w : Walked) → w.found ≡ false → edits w ≡ false
edits_past w f = rw f

edits_found : (w : Walked) → edits w ≡ true → (w.found ≡ true) × (w.refusal ≡ 0)
edits_found w h = go w.found (eqb w.refusal 0) refl refl h
  where
    go : (a b : Bool) → w.found ≡ a → eqb w.refusal 0 ≡ b → (a && b) ≡ true → (w.found ≡ true) × (w.refusal ≡ 0)
    go true true p q h = (p, eqb-true w.refusal 0 q)
    go true false p q h = absurd (false≢true h)
    go false b p q h = absurd (false≢true h)

pub fits_here : (e : Editor) (d : Depths) (p start : ℕ) (l : List ℕ) (i : ℕ) (x : MaybeNumber) (m : ℕ) (out out' : List ℕ) (w : Walked)
    → Walks e d (p + start) l i x m out out' w → start + m ≤ 250000000 → edits w ≡ true → Fits p start w
fits_here e d p start l i x m out out' w k h q =
    let f = edits_found w q in
    let g = (k.here f.0).made f.1 in
    record { after = g.after; inside = g.inside; short = omega (arith, g.short) }

module _ (e : Editor) (d : Depths) (p : ℕ) (l : List ℕ) (i : ℕ) (e' : Editor) (d' : Depths) (start : ℕ) (l' : List ℕ) (i' : ℕ) (x : MaybeNumber) (m m' : ℕ) (out out₁ out₂ : List ℕ) (w r : Walked)
    (front rest : List ℕ) (more : ℕ) (c : Closes p start rest more w out₁ out₂ r) (k : Walks e' d' (p + start) l' i' x m' out out₁ w) where
  module _ (f : w.found ≡ true) (within : i < e.count l) (spot : e.spot d p l i ≡ e'.spot d' (p + start) l' i')
      (bytes : w.length ≡ length (e'.edited l' i' x) → e.edited l i x ≡ (front ++ e'.edited l' i' x) ++ rest) (fr : length front ≡ start) (small : start + m' + more ≤ m) where
    refused_here : (w.refusal ≡ 0 → ⊥) → Walks e d p l i x m out out₂ r
    refused_here z =
        let o = edits_not w f z in
        let q = c.same o in
        let g = k.here f in
        let ref : r.refusal ≡ w.refusal = ap (λ (v : Walked). v.refusal) q in
        record {
          past = λ h. unfound h (ap (λ (v : Walked). v.found) q ∙ f);
          here = λ h. record {
            within = within;
            refusal_is = ref ∙ g.refusal_is ∙ ap (λ (s : Spot). barred s x) (sym spot);
            kept = λ y. c.kept o ∙ g.kept z;
            made = λ y. absurd (z (sym ref ∙ y));
          };
        }

    edited_here : w.refusal ≡ 0 → Walks e d p l i x m out out₂ r
    edited_here z =
        let o = edits_on w f z in
        let q = c.answer o in
        let g = k.here f in
        let n = g.made z in
        let b = bytes n.length_is in
        let a = n.after in
        let s = n.inside in
        let lr : r.length ≡ start + w.length + length rest = ap (λ (v : Walked). v.length) q in
        let pr : r.place ≡ w.place = ap (λ (v : Walked). v.place) q in
        let ref : r.refusal ≡ 0 = ap (λ (v : Walked). v.refusal) q in
        let la : length (e.edited l i x) ≡ start + w.length + length rest =
        ap length b ∙ (let t = length-append (front ++ e'.edited l' i' x) rest in let v = length-append front (e'.edited l' i' x) in let u = n.length_is in omega arith) in
        record {
          past = λ h. unfound h (ap (λ (v : Walked). v.found) q);
          here = λ h. record {
            within = within;
            refusal_is = ref ∙ sym z ∙ g.refusal_is ∙ ap (λ (s : Spot). barred s x) (sym spot);
            kept = λ y. absurd (y ref);
            made = λ y. record {
              place_is = pr ∙ n.place_is ∙ ap (λ (s : Spot). s.place) (sym spot);
              after = omega arith;
              inside = omega arith;
              length_is = lr ∙ sym la;
              short = omega (arith, n.short, c.few o);
              bytes_is =
                  found_composed p start w.place front (e'.edited l' i' x) rest fr a (omega (arith, n.length_is)) out out₁ out₂ (end_in p start w) n.bytes_is (c.bytes o)
                  (ap (λ (j : ℕ). start + j - (w.place - p)) n.length_is)
                  ∙ ap (λ (v : List ℕ). over out 0 (drop (w.place - p) v)) (sym b) ∙ ap (λ (j : ℕ). over out 0 (drop (j - p) (e.edited l i x))) (sym pr);
            };
          };
        }

    pub found_closed : Walks e d p l i x m out out₂ r
    found_closed = go (eqb w.refusal 0) refl
      where
        go : (b : Bool) → eqb w.refusal 0 ≡ b → Walks e d p l i x m out out₂ r
        go true z = edited_here (eqb-true w.refusal 0 z)
        go false z = refused_here (eqb-false w.refusal 0 z)

  -- of a container that has no other readings
  pub through_closed : i ≡ i' → e.count l ≡ e'.count l' → (i' < e'.count l' → e.spot d p l i ≡ e'.spot d' (p + start) l' i')
      → (i' < e'.count l' → w.length ≡ length (e'.edited l' i' x) → e.edited l i x ≡ (front ++ e'.edited l' i' x) ++ rest) → length front ≡ start → start + m' + more ≤ m
      → Walks e d p l i x m out out₂ r
  through_closed hi n spot bytes fr small = go w.found refl
    where
      go : (b : Bool) → w.found ≡ b → Walks e d p l i x m out out₂ r
      go true f = let v = (k.here f).within in found_closed f (rw (n, hi) v) (spot v) (bytes v) fr small
      go false f =
          let o = edits_past w f in
          let q = c.same o in
          let g = k.past f in
          let lr : r.length ≡ w.length = ap (λ (v : Walked). v.length) q in
          record {
            past = λ h. record { count_is = lr ∙ g.count_is ∙ sym n; beyond = omega (arith, g.beyond); kept = c.kept o ∙ g.kept };
            here = λ h. unfound (ap (λ (v : Walked). v.found) q ∙ f) h;
          }
