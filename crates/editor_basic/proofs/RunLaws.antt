-- The loop that moves elements: those behind one another without padding make a run, which is moved at once, behind a gap of zeros. Assumes
-- nothing.
use mathlib.Core.Path.{◌≡◌, sym, ap, ◌∙◌}
use mathlib.Core.List.{List, ◌++◌, append_assoc, append-nil}
use mathlib.Core.Bool.{false}
use Prim.Native.Nat.{ℕ, ◌+◌, ◌-◌, ◌≤◌, ◌<◌}
use native.Mathlib.Omega.{arith}
use lib.ListN.{length, take, drop, length-append, length-replicate}
use Rattle.meaning.specs.Padding.{padding, zeros}
use Rattle.meaning.specs.Written.{layout}
use Rattle.meaning_writing.specs.Shapes.{part}
use Rattle.meaning_writing.proofs.Parts.{part_none, part_split, length_part}
use Rattle.editor_basic.specs.declared.elements.Elements.{Elements}
use Rattle.editor_basic.specs.declared.elements.Child.{Child}
use Rattle.editor_basic.specs.Puts.{over}
use Rattle.editor_basic.specs.Elements.{elements_in, behind_of, Standing, FirstOf}
use Rattle.editor_basic.proofs.ElementLaws.{elements_first}
use Rattle.editor_basic.proofs.PutLaws.{over_append}
use Rattle.editor_basic.proofs.StepLaws.{layout_stride}
use Rattle.editor_basic.proofs.RewriteLaws.{Reaching, reaching_begin, reaching_next, reaching_end, layout_done}

-- The elements that are left go to the place `to`, and end at `end`; in front of them a run is left, which stood from a place on, and goes to
-- the place `next` of the slice.
pub record Running (e : Elements) (l : List ℕ) (to end : ℕ) (out whole : List ℕ) (next gap from : ℕ) : Type 0 where
  pub reaches : Reaching e l to end
  pub left : over out next (zeros gap ++ (part from e.place l ++ layout to (elements_in e l))) ≡ whole
  pub order : from ≤ e.place
  pub small : gap < 8

pub running_begin : (e : Elements) (l : List ℕ) (to : ℕ) (out : List ℕ) (at : ℕ) → Standing e l → to < 1500000000
    → Running e l to (to + length (layout to (elements_in e l))) out (over out at (layout to (elements_in e l))) at 0 e.place
running_begin e l to out at s h = record {
  reaches = reaching_begin e l to s h;
  left = ap (λ (z : List ℕ). over out at (z ++ layout to (elements_in e l))) (part_none e.place e.place l (omega arith));
  order = omega arith;
  small = omega arith;
}

module _ (e : Elements) (l : List ℕ) (c : Child) (to end : ℕ) (out whole : List ℕ) (next gap from : ℕ) (r : Running e l to end out whole next gap from) (f : FirstOf e l c) (h : 0 < e.count) (pad : ℕ) (p : pad ≡ padding to e.alignment) where
  abbrev reached : ℕ
  reached = to + (pad + (c.end - c.start))

  abbrev behind : Elements
  behind = behind_of e c.end

  layout_turn : layout to (elements_in e l) ≡ zeros pad ++ (part c.start c.end l ++ layout reached (elements_in behind l))
  layout_turn =
      layout_stride l e.alignment false c.start c.end (elements_in e l) (elements_in behind l) (elements_first e l c f h) f.inside to
      ∙ ap (λ (n : ℕ). (zeros n ++ part c.start c.end l) ++ layout (to + (n + (c.end - c.start))) (elements_in behind l)) (sym p)
      ∙ append_assoc (zeros pad) (part c.start c.end l) (layout reached (elements_in behind l))

  reaches_next : Reaching behind l reached end
  reaches_next = reaching_next e l c to end r.reaches f h reached (rw p)

  -- an element without padding joins the run
  pub running_joined : pad ≡ 0 → c.start ≡ e.place → Running behind l reached end out whole next gap from
  running_joined z s =
      let o = r.order in
      let i : e.place ≤ c.end = omega (arith, s, f.order) in
      let rest : List ℕ = layout reached (elements_in behind l) in
      record {
        reaches = reaches_next;
        left =
            ap (λ (x : List ℕ). over out next (zeros gap ++ (x ++ rest))) (part_split from e.place c.end l o i)
            ∙ ap (λ (x : List ℕ). over out next (zeros gap ++ x)) (append_assoc (part from e.place l) (part e.place c.end l) rest)
            ∙ ap (λ (x : List ℕ). over out next (zeros gap ++ (part from e.place l ++ x))) (sym (layout_turn ∙ ap (λ (n : ℕ). zeros n ++ (part c.start c.end l ++ rest)) z ∙ ap (λ (n : ℕ). part n c.end l ++ rest) s))
            ∙ r.left;
        order = omega (arith, o, i);
        small = r.small;
      }

  -- another one begins a run, and the one in front of it is moved
  pub running_broken : (out' : List ℕ) → pad < 8 → out' ≡ over out next (zeros gap ++ take (e.place - from) (drop from l))
      → Running behind l reached end out' whole (next + (gap + (e.place - from))) pad c.start
  unfolding part
  running_broken out' b o =
      let run : List ℕ = zeros gap ++ part from e.place l in
      let n : length run ≡ gap + (e.place - from) = length-append (zeros gap) (part from e.place l) ∙ omega (arith, length-replicate {A = ℕ} gap 0, length_part from e.place l r.reaches.stands.inside) in
      record {
        reaches = reaches_next;
        left =
            ap (λ (x : List ℕ). over x (next + (gap + (e.place - from))) (zeros pad ++ (part c.start c.end l ++ layout reached (elements_in behind l)))) o
            ∙ over_append out next run (zeros pad ++ (part c.start c.end l ++ layout reached (elements_in behind l))) (next + (gap + (e.place - from))) (omega (arith, n))
            ∙ ap (λ (x : List ℕ). over out next (run ++ x)) (sym layout_turn)
            ∙ ap (λ (x : List ℕ). over out next x) (append_assoc (zeros gap) (part from e.place l) (layout to (elements_in e l)))
            ∙ r.left;
        order = f.order;
        small = b;
      }

-- the last run
pub running_end : (e : Elements) (l : List ℕ) (to end : ℕ) (out whole : List ℕ) (next gap from : ℕ) (out' : List ℕ) → Running e l to end out whole next gap from → e.count ≡ 0
    → out' ≡ over out next (zeros gap ++ take (e.place - from) (drop from l)) → (out' ≡ whole) × (to ≡ end)
unfolding part
running_end e l to end out whole next gap from out' r z o = (
  o
      ∙ ap (λ (x : List ℕ). over out next (zeros gap ++ x)) (sym (ap (λ (x : List ℕ). part from e.place l ++ x) (layout_done e l z to) ∙ append-nil (part from e.place l)))
      ∙ r.left,
  reaching_end e l z to end r.reaches,
)
