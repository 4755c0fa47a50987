-- Laws of what stands behind a changed child: handed on, or put. Assumes nothing.
use mathlib.Core.Path.{◌≡◌, refl, sym, ap, ◌∙◌, subst}
use mathlib.Core.List.{List}
use mathlib.Core.Bool.{Bool, true, false, ◌&&◌}
use Prim.Native.Nat.{ℕ, zero, suc, ◌+◌, ◌-◌, ◌*◌, ◌≤◌, ◌<◌}
use native.Mathlib.Omega.{arith}
use lib.Dec.{leb}
use lib.ListN.{length}
use borrow.Author.Tests.{ne_eqb}
use Rattle.meaning.specs.Refused.{number_of}
use Rattle.meaning.specs.declared.refusals.Refusal.{Refusal}
use Rattle.meaning.proofs.RefusalLaws.{number_not_0}
use Rattle.meaning.specs.Choice.{pick}
use Rattle.meaning.specs.Numbers.{value}
use Rattle.meaning.specs.Padding.{padding}
use Rattle.meaning.proofs.Tests.{both_true}
use Rattle.meaning_writing.specs.Shapes.{part}
use Rattle.framing_offset_size.specs.Widths.{width_of}
use Rattle.framing_offset_size.specs.declared.FramingOffsetSize.{FramingOffsetSize}
use Rattle.framing_offset_size.specs.declared.FramingOffsetSize.TheVariants.{U8, U16, U32, U64}
use Rattle.editor_basic.specs.Puts.{over, rest_most}
use Rattle.editor_basic.specs.declared.elements.Elements.{Elements}
use Rattle.editor_basic.specs.declared.fields.Row.{Row}
use Rattle.editor_basic.specs.declared.fields.Field.{Field}
use Rattle.signature.specs.Trees.{fields_at}
use Rattle.strict_sizes.specs.Sizes.{offsets_in}
use Rattle.editor_basic.specs.Elements.{behind_of, rises, Standing, rest_now, length_now}
use Rattle.editor_basic.specs.Rows.{behind_field, StandingRow, last_now, row_now, row_length_now}
use Rattle.editor_basic.proofs.FinishLaws.{array_rest_length, structure_rest_length}
use Rattle.editor_steps.specs.Walked.{Walked, edited_as, refused_as}
use Rattle.editor_steps.specs.Closing.{edits, end_now, end_in, Closes, front_of, FieldBehind, field_rest}
use Rattle.editor_steps.proofs.WalkLaws.{unfound}

module _ (p start : ℕ) (rest : List ℕ) (more : ℕ) (w : Walked) where
  pub closes_same : (out : List ℕ) → edits w ≡ false → Closes p start rest more w out out w
  closes_same out h =
      record { same = λ f. refl; kept = λ f. refl; answer = λ f. unfound h f; bytes = λ f. unfound h f; few = λ f. unfound h f }

  pub closes_joined : (out out' : List ℕ) (n at : ℕ) (r : Walked) → edits w ≡ true → r ≡ edited_as w.place n → end_now start w + length rest ≡ n → at ≡ end_in p start w
      → out' ≡ over out at rest → n ≤ end_now start w + more → Closes p start rest more w out out' r
  closes_joined out out' n at r h q e a o m = record {
    same = λ f. unfound f h;
    kept = λ f. unfound f h;
    answer = λ f. q ∙ ap (λ (k : ℕ). edited_as w.place k) (sym e);
    bytes = λ f. o ∙ ap (λ (k : ℕ). over out k rest) a;
    few = λ f. omega arith;
  }

-- the rest of a structure, by whether the changed field is its last
pub rest_last : (text : List ℕ) (row : Row) (f : Field) (l : List ℕ) (to : ℕ) → f.last ≡ true → field_rest text row f l to ≡ last_now row.end row.width l to
rest_last text row f l to h = ap (λ (b : Bool). pick b (last_now row.end row.width l to) (row_now text (behind_field row f) l to)) h

pub rest_row : (text : List ℕ) (row : Row) (f : Field) (l : List ℕ) (to : ℕ) → f.last ≡ false → field_rest text row f l to ≡ row_now text (behind_field row f) l to
rest_row text row f l to h = ap (λ (b : Bool). pick b (last_now row.end row.width l to) (row_now text (behind_field row f) l to)) h

pub closes_as : {p start : ℕ} {rest rest' : List ℕ} {more more' : ℕ} {w : Walked} {out out' : List ℕ} {r : Walked} → rest ≡ rest' → more ≤ more'
    → Closes p start rest more w out out' r → Closes p start rest' more' w out out' r
closes_as {p} {start} {rest} {rest'} {more} {more'} {w} {out} {out'} {r} q h c = record {
  same = c.same;
  kept = c.kept;
  answer = λ f. c.answer f ∙ ap (λ (z : List ℕ). edited_as w.place (end_now start w + length z)) q;
  bytes = λ f. c.bytes f ∙ ap (λ (z : List ℕ). over out (end_in p start w) z) q;
  few = λ f. omega (arith, c.few f, ap length q);
}

-- ---- so many of an array's first elements

rises_less : (a : ℕ) (l : List ℕ) (w n m j k : ℕ) → n ≤ m → rises a l w m j k ≡ true → rises a l w n j k ≡ true
unfolding rises
rises_less a l w zero m j k h g = refl
rises_less a l w (suc n) zero j k h g = absurd (omega arith)
rises_less a l w (suc n) (suc m) j k h g =
    let v = value (part j (j + w) l) in
    let x = both_true (leb (k + padding k a) v) (leb v (length l) && rises a l w m (j + w) v) g in
    let y = both_true (leb v (length l)) (rises a l w m (j + w) v) x.1 in
    rw (x.0, y.0) (rises_less a l w n m (j + w) v (omega arith) y.1)

pub times_less : (s : FramingOffsetSize) (n m : ℕ) → n ≤ m → n * width_of s ≤ m * width_of s
times_less U8 n m h = omega arith
times_less U16 n m h = omega arith
times_less U32 n m h = omega arith
times_less U64 n m h = omega arith

pub front_stands : (all : Elements) (l : List ℕ) (n : ℕ) → n ≤ all.count → Standing all l → Standing (front_of all n) l
front_stands all l n h s = record {
  aligned = s.aligned;
  short = s.short;
  inside = s.inside;
  room = (let q = times_less all.size n all.count h in omega (arith, s.room));
  up = rises_less all.alignment l (width_of all.size) n all.count all.from all.place h s.up;
}

-- ---- the answers of the calls, by what they are

pub front_is : (all : Elements) (l : List ℕ) (n : ℕ) (e : Elements) → e ≡ front_of all n → n ≤ all.count → Standing all l → Standing e l
front_is all l n e q h s = subst (λ (z : Elements). Standing z l) (sym q) (front_stands all l n h s)

pub rest_is : (e e' : Elements) {l : List ℕ} → e ≡ e' → Standing e' l → Standing e l
rest_is e e' {l} q s = subst (λ (z : Elements). Standing z l) (sym q) s

module _ (all rest : Elements) (end : ℕ) (l : List ℕ) (p start : ℕ) (w : Walked) (front behind : Elements) (n : ℕ) (out out' : List ℕ) (at : ℕ) (r : Walked) where
  pub element_closed : edits w ≡ true → r ≡ edited_as w.place n → front ≡ front_of all (all.count - rest.count) → behind ≡ behind_of rest end → n ≡ length_now front behind l (end_now start w)
      → n < end_now start w + rest_most → at ≡ end_in p start w → out' ≡ over out at (rest_now front behind l (end_now start w))
      → Closes p start (rest_now (front_of all (all.count - rest.count)) (behind_of rest end) l (end_now start w)) rest_most w out out' r
  element_closed h q f b m k a o =
      closes_as (ap (λ (z : Elements). rest_now z behind l (end_now start w)) f ∙ ap (λ (z : Elements). rest_now (front_of all (all.count - rest.count)) z l (end_now start w)) b) (omega arith)
      (closes_joined p start (rest_now front behind l (end_now start w)) rest_most w out out' n at r h q (array_rest_length front behind l (end_now start w) ∙ sym m) a o (omega arith))

module _ {text tables : List ℕ} (row : Row) (f : Field) (l : List ℕ) (rest : Row) (q : rest ≡ behind_field row f) where
  pub row_asked : FieldBehind text tables row f l → f.last ≡ false → {n m : ℕ} → n < m
      → StandingRow text tables rest l × (rest.end + rest.width ≤ length l) × (rest.body + offsets_in (fields_at text rest.at) * rest.width ≡ rest.end) × (n < m)
  row_asked g h s = rw q (g.rest h, g.room h, g.exact h, s)

pub field_closed : (text : List ℕ) (row : Row) (f : Field) (l : List ℕ) (p : ℕ) (w : Walked) (n : ℕ) (out out' : List ℕ) (at : ℕ) (r : Walked) (rest : Row) → edits w ≡ true → f.last ≡ false
    → r ≡ edited_as w.place n → rest ≡ behind_field row f → n ≡ row_length_now text rest l (end_now f.start w) → n < end_now f.start w + rest_most → at ≡ end_in p f.start w
    → out' ≡ over out at (row_now text rest l (end_now f.start w)) → Closes p f.start (field_rest text row f l (end_now f.start w)) rest_most w out out' r
field_closed text row f l p w n out out' at r rest h g q b m k a o =
    closes_as (ap (λ (z : Row). row_now text z l (end_now f.start w)) b ∙ sym (rest_row text row f l (end_now f.start w) g)) (omega arith)
    (closes_joined p f.start (row_now text rest l (end_now f.start w)) rest_most w out out' n at r h q (structure_rest_length text rest l (end_now f.start w) ∙ sym m) a o (omega arith))

-- a refusal is handed on
pub closes_refused : (p start : ℕ) (rest : List ℕ) (more : ℕ) (e : Refusal) (out : List ℕ) → Closes p start rest more (refused_as (number_of e)) out out (refused_as (number_of e))
closes_refused p start rest more e out = closes_same p start rest more (refused_as (number_of e)) out (ne_eqb (number_of e) 0 (number_not_0 e))
