-- The table of a type text: what its loops keep, how it fills, and what it says of a type. Assumes nothing.
use mathlib.Core.Path.{◌≡◌, refl, sym, ap, subst⁻¹, ◌∙◌}
use mathlib.Core.List.{List}
use mathlib.Core.Bool.{Bool, true, false, ◌&&◌}
use Prim.Native.Nat.{ℕ, zero, suc, ◌+◌, ◌-◌, ◌*◌, ◌/◌, ◌%◌, ◌≤◌, ◌<◌}
use native.Mathlib.Omega.{arith}
use lib.Dec.{leb, eqb}
use lib.ListN.{length, drop, get_or, set, length-set, length-append}
use lib.Seq.{get_or-set_same, get_or-set_other}
use borrow.Author.Tests.{le-leb, eq-eqb, ne_eqb, eqb-true, eqb-false}
use Rattle.meaning.specs.Choice.{pick}
use Rattle.meaning.specs.Padding.{padding, Aligns}
use Rattle.meaning.specs.Types.{Number as NumberType, bool, number, text, Tree, Fields, basic, variant, maybe, array, dictionary, structure, last, next, number_width, alignment, largest_alignment, fixed, all_fixed, fixed_size, fields_end, rounded}
use Rattle.meaning.specs.TypeText.{first_type, type_text, fields_text}
use Rattle.meaning_writing.specs.Shapes.{one_more, offset_count}
use Rattle.meaning_writing.specs.Strict.{test_shapes, tests_of}
use Rattle.meaning.proofs.Tests.{both_true}
use Rattle.meaning.proofs.TypeLaws.{aligns_most, aligned, fields_aligned, fixed_size_positive}
use Rattle.meaning.proofs.PaddingLaws.{padding_below}
use Rattle.meaning.proofs.TypeTextLaws.{fixed_size_most}
use Rattle.meaning_writing.proofs.StrictSteps.{test_alignment, test_fixed, test_size}
use Rattle.signature.specs.Places.{Child, letter_at, child_at, field_at, is_type}
use Rattle.signature.specs.Shapes.{Shaped, Answered, shape_in}
use Rattle.signature.specs.Trees.{tree_at, behind_by, Typed, fields_at, Rowed, Described}
use Rattle.signature.specs.declared.Letter.{Letter}
use Rattle.signature.specs.declared.Letter.TheVariants.{Boolean, Number, OpenStructure}
use Rattle.signature.specs.declared.shapes.Shape.{Shape}
use Rattle.signature.proofs.Children.{child_is, child_found, type_inside}
use Rattle.signature.proofs.Answers.{judged_type}
use Rattle.signature.proofs.Dispatch.{Shown, shown, is_boolean, is_number, is_last, is_next}
use Rattle.signature.proofs.ShapeLaws.{known}
use Rattle.signature.proofs.TreeLaws.{tree_by_lem, described_by, described_as, described_alignment, described_aligned, described_fixed, structure_tree, structure_rowed, structure_fixed, structure_alignment, LastField, NextField, Front, front_described}
use Rattle.strict_sizes.specs.Sizes.{any_bytes, any_fields, offsets_in, offsets_for, size_and_any, measure_of, Behind, Tabled, extent_in, any_in, offsets_by}
use Rattle.strict_sizes.specs.Items as items
use Rattle.strict_sizes.specs.Items.{Placed, Alike, tree_test}
use Rattle.strict_sizes.proofs.SizeLaws.{any_alike, close_together, offsets_count, offsets_free, end_last}

-- ---- a number of the table

half_is : (n : ℕ) (any : Bool) → size_and_any n any / 2 ≡ n
half_is n true = omega arith
half_is n false = omega arith

odd_is : (n : ℕ) (any : Bool) → eqb (size_and_any n any % 2) 1 ≡ any
odd_is n true = eq-eqb ((2 * n + 1) % 2) 1 (omega arith)
odd_is n false = ne_eqb ((2 * n + 0) % 2) 1 (λ z. omega arith)

measure_fixed : (t : Tree) → fixed t ≡ true → measure_of t ≡ size_and_any (fixed_size t) (any_bytes t)
unfolding measure_of
measure_fixed t h = rw h

measure_other : (t : Tree) → fixed t ≡ false → measure_of t ≡ offsets_for t
unfolding measure_of
measure_other t h = rw h

-- ---- how large a type is in its text

pub record Extends (l : List ℕ) (s : Shape) : Type 0 where
  pub onward : s.at < s.next
  pub within : s.next ≤ length l
  pub few : length l ≤ 255
  pub small : fixed_size (tree_at l s.at) + 7 + 16 * s.at ≤ 16 * s.next

pub extends : {l t : List ℕ} {s : Shape} → Described l t s → Extends l s
extends {l} {t} {s} d =
    let c = child_is l s.at (tree_at l s.at) (behind_by (first_type (drop s.at l))) d.typed.short d.typed.found in
    let st = child_found l s.at (ap (λ (x : Child). x.found) c) in
    let n : s.next ≡ (child_at l s.at).next = ap (λ (x : Shape). x.next) d.is in
    let z : (child_at l s.at).size ≡ fixed_size (tree_at l s.at) = ap (λ (x : Child). x.size) c in
    record {
      onward = omega (arith, st.onward);
      within = omega (arith, st.within);
      few = d.typed.short;
      small = omega (arith, st.small);
    }

-- ---- a structure that is fixed

same_zero : (k p : ℕ) → eqb (k + p) k ≡ eqb p 0
same_zero k zero = eq-eqb (k + 0) k (omega arith)
same_zero k (suc p) = ne_eqb (k + suc p) k (λ z. omega arith) ∙ sym (ne_eqb (suc p) 0 (λ z. omega arith))

pub aligned_by : {a : ℕ} (ts : Fields) → a ≡ largest_alignment ts → Aligns a
aligned_by ts h = rw h (fields_aligned ts)

-- fields are passed up to a place of the text
pub record SizeLeft (l : List ℕ) (at i end : ℕ) (any : Bool) : Type 0 where
  pub rowed : Rowed l i
  pub onward : at ≤ i
  pub fixes : all_fixed (fields_at l i) ≡ true
  pub small : end ≤ 16 * i
  pub ends : fields_end 0 (fields_at l at) ≡ fields_end end (fields_at l i)
  pub free : any_fields 0 (fields_at l at) ≡ (any && any_fields end (fields_at l i))

pub size_begin : (l : List ℕ) (at : ℕ) → Rowed l at → all_fixed (fields_at l at) ≡ true → SizeLeft l at at 0 true
size_begin l at r h = record { rowed = r; onward = omega arith; fixes = h; small = omega arith; ends = refl; free = refl }

and_all : (a b c : Bool) → ((a && b) && c) ≡ (a && (b && c))
and_all true b c = refl
and_all false b c = refl

all_last : (t : Tree) → all_fixed (last t) ≡ true → fixed t ≡ true
unfolding fixed
all_last t h = h

all_next : (t : Tree) (ts : Fields) → all_fixed (next t ts) ≡ true → (fixed t ≡ true) × (all_fixed ts ≡ true)
unfolding fixed
all_next t ts h = both_true (fixed t) (all_fixed ts) h

module _ {l t : List ℕ} {at i end : ℕ} {any : Bool} (w : Behind l at t) (q : SizeLeft l at i end any) (s : Shape) (hs : s ≡ shape_in l t i) (d : Described l t s) (fix : fixed (tree_at l s.at) ≡ true) where
  at_is : s.at ≡ i
  at_is = ap (λ (x : Shape). x.at) hs

  measured : get_or t (255 + i) 0 ≡ size_and_any (fixed_size (tree_at l s.at)) (any_bytes (tree_at l s.at))
  measured =
      let e = extends d in
      let p = q.onward in
      let z = at_is in
      w.sizes i q.onward (omega (arith, e.onward, e.within)) (rw z at d.typed) ∙ ap (λ (k : ℕ). measure_of (tree_at l k)) (sym at_is) ∙ measure_fixed (tree_at l s.at) fix

  module _ (m : ℕ) (hm : m ≡ get_or t (255 + i) 0) (start : ℕ) (hst : start ≡ end + padding end s.alignment) where
    end_is : start + m / 2 ≡ rounded end (alignment (tree_at l s.at)) + fixed_size (tree_at l s.at)
    end_is =
        let a : m / 2 ≡ fixed_size (tree_at l s.at) = ap (λ (x : ℕ). x / 2) (hm ∙ measured) ∙ half_is (fixed_size (tree_at l s.at)) (any_bytes (tree_at l s.at)) in
        let b : start ≡ end + padding end (alignment (tree_at l s.at)) = hst ∙ ap (λ (x : ℕ). end + padding end x) (described_alignment d) in
        omega arith

    pub end_small : start + m / 2 ≤ 16 * s.next
    end_small =
        let e = extends d in
        let p = q.small in
        let z = at_is in
        omega (arith, end_is, e.small, padding_below (aligned (tree_at l s.at)) end, aligns_most (aligned (tree_at l s.at)))

    free_is : (eqb start end && eqb (m % 2) 1) ≡ (eqb (padding end (alignment (tree_at l s.at))) 0 && any_bytes (tree_at l s.at))
    free_is =
        let a : eqb (m % 2) 1 ≡ any_bytes (tree_at l s.at) = ap (λ (x : ℕ). eqb (x % 2) 1) (hm ∙ measured) ∙ odd_is (fixed_size (tree_at l s.at)) (any_bytes (tree_at l s.at)) in
        let b : eqb start end ≡ eqb (padding end (alignment (tree_at l s.at))) 0 =
        ap (λ (x : ℕ). eqb x end) (hst ∙ ap (λ (x : ℕ). end + padding end x) (described_alignment d)) ∙ same_zero end (padding end (alignment (tree_at l s.at))) in
        rw (a, b)

fields_end_next : (k : ℕ) (t : Tree) (ts : Fields) → fields_end k (next t ts) ≡ fields_end (rounded k (alignment t) + fixed_size t) ts
unfolding fields_end
fields_end_next k t ts = refl

any_last : (k : ℕ) (t : Tree) → any_fields k (last t) ≡ (eqb (padding k (alignment t)) 0 && any_bytes t)
unfolding any_fields
any_last k t = refl

any_next : (k : ℕ) (t : Tree) (ts : Fields) → any_fields k (next t ts) ≡ ((eqb (padding k (alignment t)) 0 && any_bytes t) && any_fields (rounded k (alignment t) + fixed_size t) ts)
unfolding any_fields
any_next k t ts = sym (and_all (eqb (padding k (alignment t)) 0) (any_bytes t) (any_fields (rounded k (alignment t) + fixed_size t) ts))

fixed_structure : (ts : Fields) → all_fixed ts ≡ true → fixed_size (structure ts) ≡ rounded (fields_end 0 ts) (largest_alignment ts)
unfolding fixed_size
fixed_structure ts h = rw h

any_structure : (ts : Fields) → any_bytes (structure ts) ≡ (any_fields 0 ts && eqb (padding (fields_end 0 ts) (largest_alignment ts)) 0)
unfolding any_bytes
any_structure ts = refl

module _ {l t : List ℕ} {at i end : ℕ} {any : Bool} (w : Behind l at t) (q : SizeLeft l at i end any) (s : Shape) (hs : s ≡ shape_in l t i) (m : ℕ) (hm : m ≡ get_or t (255 + i) 0) (start : ℕ)
    (hst : start ≡ end + padding end s.alignment) (tight any' : Bool) (ht : tight ≡ (eqb start end && eqb (m % 2) 1)) (ha : any' ≡ (any && tight)) where
  -- behind the last field
  module _ (g : LastField l t i s) where
    fixed_last : fixed (tree_at l s.at) ≡ true
    fixed_last = all_last (tree_at l s.at) (ap all_fixed (sym g.fields) ∙ q.fixes)

    last_end_is : fields_end 0 (fields_at l at) ≡ start + m / 2
    last_end_is = q.ends ∙ ap (fields_end end) g.fields ∙ end_last end (tree_at l s.at) ∙ sym (end_is w q s hs g.shape fixed_last m hm start hst)

    last_any_is : any_fields 0 (fields_at l at) ≡ any'
    last_any_is =
        q.free ∙ ap (λ (b : Bool). any && b) (ap (any_fields end) g.fields ∙ any_last end (tree_at l s.at) ∙ sym (free_is w q s hs g.shape fixed_last m hm start hst) ∙ sym ht) ∙ sym ha

    pub size_last : all_fixed (fields_at l at) ≡ true → (a size r : ℕ) (whole : Bool) → a ≡ largest_alignment (fields_at l at) → size ≡ start + m / 2 + padding (start + m / 2) a
        → whole ≡ (any' && eqb size (start + m / 2)) → r ≡ size_and_any size whole → r ≡ size_and_any (fixed_size (structure (fields_at l at))) (any_bytes (structure (fields_at l at)))
    size_last h a size r whole hal hsz hw hr =
        let ts = fields_at l at in
        let e = last_end_is in
        let x : size ≡ fixed_size (structure ts) = hsz ∙ ap (λ (k : ℕ). start + m / 2 + padding (start + m / 2) k) hal ∙ ap (λ (k : ℕ). rounded k (largest_alignment ts)) (sym e) ∙ sym (fixed_structure ts h) in
        let y : whole ≡ any_bytes (structure ts) =
        hw ∙ ap (λ (k : ℕ). any' && eqb k (start + m / 2)) hsz ∙ ap (λ (b : Bool). any' && b) (same_zero (start + m / 2) (padding (start + m / 2) a))
        ∙ ap (λ (k : ℕ). any' && eqb (padding (start + m / 2) k) 0) hal ∙ ap (λ (k : ℕ). any' && eqb (padding k (largest_alignment ts)) 0) (sym e)
        ∙ ap (λ (b : Bool). b && eqb (padding (fields_end 0 ts) (largest_alignment ts)) 0) (sym last_any_is) ∙ sym (any_structure ts) in
        hr ∙ ap (λ (k : ℕ). size_and_any k whole) x ∙ ap (size_and_any (fixed_size (structure ts))) y

  -- another follows
  module _ (g : NextField l t i s) where
    both_fixed : (fixed (tree_at l s.at) ≡ true) × (all_fixed (fields_at l s.next) ≡ true)
    both_fixed = all_next (tree_at l s.at) (fields_at l s.next) (ap all_fixed (sym g.fields) ∙ q.fixes)

    pub size_next : SizeLeft l at s.next (start + m / 2) any'
    size_next =
        let f = both_fixed in
        let e = end_is w q s hs g.shape f.0 m hm start hst in
        let ts = fields_at l s.next in
        record {
          rowed = g.rowed;
          onward = (let a = q.onward in let b = g.onward in omega arith);
          fixes = f.1;
          small = end_small w q s hs g.shape f.0 m hm start hst;
          ends = q.ends ∙ ap (fields_end end) g.fields ∙ fields_end_next end (tree_at l s.at) ts ∙ ap (λ (k : ℕ). fields_end k ts) (sym e);
          free = q.free ∙ ap (λ (b : Bool). any && b) (ap (any_fields end) g.fields ∙ any_next end (tree_at l s.at) ts)
              ∙ sym (and_all any (eqb (padding end (alignment (tree_at l s.at))) 0 && any_bytes (tree_at l s.at)) (any_fields (rounded end (alignment (tree_at l s.at)) + fixed_size (tree_at l s.at)) ts))
              ∙ ap (λ (b : Bool). (any && b) && any_fields (rounded end (alignment (tree_at l s.at)) + fixed_size (tree_at l s.at)) ts) (sym (free_is w q s hs g.shape f.0 m hm start hst) ∙ sym ht)
              ∙ ap (λ (b : Bool). b && any_fields (rounded end (alignment (tree_at l s.at)) + fixed_size (tree_at l s.at)) ts) (sym ha) ∙ ap (λ (k : ℕ). any' && any_fields k ts) (sym e);
        }

-- a field, the last or not
module _ (l t : List ℕ) (i : ℕ) (w : Rowed l i) (z : Shaped l t) where
  here_described : Described l t (shape_in l t i)
  here_described = go (field_at l i).last refl
    where
      go : (b : Bool) → (field_at l i).last ≡ b → Described l t (shape_in l t i)
      go true e = let s = is_last l i _ _ w.short w.found e in described_by l t i s.it _ z s.child
      go false e = let s = is_next l i _ _ w.short w.found e in described_by l t i s.it _ z s.child

  pub field_described : (s : Shape) → s ≡ shape_in l t i → Described l t s
  field_described s q = described_as q here_described

  here_fixed : all_fixed (fields_at l i) ≡ true → fixed (tree_at l i) ≡ true
  here_fixed h = go (field_at l i).last refl
    where
      go : (b : Bool) → (field_at l i).last ≡ b → fixed (tree_at l i) ≡ true
      go true e =
          let s = is_last l i _ _ w.short w.found e in
          ap fixed (tree_by_lem l i s.it _ s.child) ∙ all_last s.it (ap all_fixed (sym s.type) ∙ h)
      go false e =
          let s = is_next l i _ _ w.short w.found e in
          ap fixed (tree_by_lem l i s.it _ s.child) ∙ (all_next s.it s.others (ap all_fixed (sym s.type) ∙ h)).0

  pub field_fixed : all_fixed (fields_at l i) ≡ true → (s : Shape) → s ≡ shape_in l t i → fixed (tree_at l s.at) ≡ true
  field_fixed h s q = ap (λ (x : Shape). fixed (tree_at l x.at)) q ∙ here_fixed h

  pub field_place : i < 255
  field_place = let e = extends here_described in omega (arith, e.onward, e.within, e.few)

-- a field ends at a small place
pub field_small : {l t : List ℕ} {at i end : ℕ} {any : Bool} (w : Behind l at t) (q : SizeLeft l at i end any) (s : Shape) → s ≡ shape_in l t i → (m : ℕ) → m ≡ get_or t (255 + i) 0 → (start : ℕ)
    → start ≡ end + padding end s.alignment → start + m / 2 ≤ 4080
field_small {l} {t} {at} {i} w q s hs m hm start hst =
    let d = field_described l t i q.rowed w.shapes s hs in
    let e = extends d in
    omega (arith, end_small w q s hs d (field_fixed l t i q.rowed w.shapes q.fixes s hs) m hm start hst, e.within, e.few)

-- ---- how many offsets fields have

pub record CountLeft (l : List ℕ) (at i n : ℕ) : Type 0 where
  pub rowed : Rowed l i
  pub few : n ≤ i
  pub most : n ≤ length l
  pub rest : offsets_in (fields_at l at) ≡ n + offsets_in (fields_at l i)

pub count_begin : (l : List ℕ) (at : ℕ) → Rowed l at → CountLeft l at at 0
count_begin l at g = record { rowed = g; few = omega arith; most = omega arith; rest = omega arith }

one_more_lem : (f : Bool) (n m : ℕ) → n + one_more f m ≡ one_more f n + m
one_more_lem true n m = refl
one_more_lem false n m = omega arith

pub more_most : (f : Bool) (n : ℕ) → one_more f n ≤ n + 1
more_most true n = omega arith
more_most false n = omega arith

module _ {l t : List ℕ} {at i n : ℕ} (q : CountLeft l at i n) (s : Shape) where
  pub count_last : LastField l t i s → n ≡ offsets_in (fields_at l at)
  unfolding offsets_in
  count_last g = let z : offsets_in (fields_at l i) ≡ 0 = ap offsets_in g.fields in omega (arith, q.rest)

  pub count_next : NextField l t i s → (n' : ℕ) → n' ≡ one_more s.fixed n → CountLeft l at s.next n'
  unfolding offsets_in
  count_next g n' h =
      let z : offsets_in (fields_at l i) ≡ one_more s.fixed (offsets_in (fields_at l s.next)) =
      ap offsets_in g.fields ∙ ap (λ (b : Bool). one_more b (offsets_in (fields_at l s.next))) (sym g.same_fixed) in
      record {
        rowed = g.rowed;
        few = (let a = g.onward in let b = q.few in omega (arith, more_most s.fixed n));
        most = (let a = g.onward in let b = q.few in let c = g.within in omega (arith, more_most s.fixed n));
        rest = q.rest ∙ ap (λ (m : ℕ). n + m) z ∙ one_more_lem s.fixed n (offsets_in (fields_at l s.next)) ∙ ap (λ (m : ℕ). m + offsets_in (fields_at l s.next)) (sym h);
      }

-- ---- what stands at a place

sized_bool : size_and_any 1 false ≡ measure_of (basic bool)
unfolding measure_of fixed fixed_size any_bytes
sized_bool = refl

sized_number : (c : NumberType) → size_and_any (number_width c) true ≡ measure_of (basic (number c))
unfolding measure_of fixed fixed_size any_bytes
sized_number c = refl

pub measure_bool : (l : List ℕ) (at r : ℕ) → letter_at l at ≡ Boolean → r ≡ size_and_any 1 false → (Typed l at → r ≡ measure_of (tree_at l at)) × (r ≤ 10000)
measure_bool l at r e h =
    (λ t. h ∙ sized_bool ∙ ap measure_of (sym (is_boolean l at _ _ t.found e).0), omega arith)

pub measure_number : (l : List ℕ) (at r c w : ℕ) → letter_at l at ≡ Number c w → w ≤ 8 → r ≡ size_and_any w true → (Typed l at → r ≡ measure_of (tree_at l at)) × (r ≤ 10000)
measure_number l at r c w e m h =
    (λ t. (let n = is_number l at _ _ c w t.found e in h ∙ ap (λ (k : ℕ). size_and_any k true) n.width_is ∙ sized_number n.it ∙ ap measure_of (sym n.type)), omega arith)

no_measure : (t : Tree) → fixed t ≡ false → offsets_for t ≡ 0 → 0 ≡ measure_of t
no_measure t h e = sym (measure_other t h ∙ e)

pub measure_none : (l : List ℕ) (at : ℕ) (k : Letter) → k ≡ letter_at l at → (k ≡ Boolean → ⊥) → ((c w : ℕ) → k ≡ Number c w → ⊥) → (k ≡ OpenStructure → ⊥)
    → (Typed l at → 0 ≡ measure_of (tree_at l at)) × (0 ≤ 10000)
unfolding fixed offsets_for
measure_none l at k e no_bool no_number no_open = (λ t. go (tree_at l at) (shown l at _ _ t.found), omega arith)
  where
    go : (s : Tree) → Shown l at s (behind_by (first_type (drop at l))) → 0 ≡ measure_of s
    go (basic bool) w = absurd (no_bool (e ∙ w.letter))
    go (basic (number c)) w = absurd (no_number _ _ (e ∙ w.letter))
    go (basic (text c)) w = no_measure (basic (text c)) refl refl
    go variant w = no_measure variant refl refl
    go (maybe s) w = no_measure (maybe s) refl refl
    go (array s) w = no_measure (array s) refl refl
    go (dictionary b s) w = no_measure (dictionary b s) refl refl
    go (structure ts) w = absurd (no_open (e ∙ w.letter))

-- a structure: there is one where the table says what is behind it
module _ (l t : List ℕ) (at : ℕ) (z : Shaped l t) (h : at < length l) (s : Shape) (hs : s ≡ shape_in l t at) where
  pub no_structure : s.next ≡ 0 → Typed l at → ⊥
  no_structure n d =
      let g = described_by l t at (tree_at l at) (behind_by (first_type (drop at l))) z d.found in
      let e = extends (described_as hs g) in
      omega (arith, e.onward)

  pub some_structure : (s.next ≡ 0 → ⊥) → Described l t s
  some_structure n =
      let e : s.next ≡ get_or t at 0 / 32 = ap (λ (x : Shape). x.next) hs in
      let k = known l at (get_or t at 0) (z.each at (omega arith) h) (λ y. n (e ∙ ap (λ (x : ℕ). x / 32) y)) in
      described_as hs (described_by l t at k.stands.it _ z k.stands.type)

module _ {l t : List ℕ} {s : Shape} (d : Described l t s) (e : letter_at l s.at ≡ OpenStructure) where
  tree : tree_at l s.at ≡ structure (fields_at l (s.at + 1))
  tree = structure_tree d e

  pub structure_all : s.fixed ≡ true → all_fixed (fields_at l (s.at + 1)) ≡ true
  structure_all f = sym (structure_fixed d e) ∙ f

  pub measure_whole : (r : ℕ) → s.fixed ≡ true → r ≡ size_and_any (fixed_size (structure (fields_at l (s.at + 1)))) (any_bytes (structure (fields_at l (s.at + 1)))) → (r ≡ measure_of (tree_at l s.at)) × (r ≤ 10000)
  measure_whole r f h =
      let x = extends d in
      let p : r ≡ measure_of (tree_at l s.at) =
      h ∙ ap (λ (t : Tree). size_and_any (fixed_size t) (any_bytes t)) (sym tree) ∙ sym (measure_fixed (tree_at l s.at) (sym (described_fixed d) ∙ f)) in
      (p, most (fixed_size (tree_at l s.at)) (any_bytes (tree_at l s.at)) (p ∙ measure_fixed (tree_at l s.at) (sym (described_fixed d) ∙ f)) (omega (arith, x.small, x.within, x.few)))
    where
      most : (n : ℕ) (any : Bool) → r ≡ size_and_any n any → n ≤ 4080 → r ≤ 10000
      most n true q m = omega arith
      most n false q m = omega arith

  measure_offsets_for : s.fixed ≡ false → measure_of (tree_at l s.at) ≡ offsets_in (fields_at l (s.at + 1))
  unfolding offsets_for
  measure_offsets_for f = measure_other (tree_at l s.at) (sym (described_fixed d) ∙ f) ∙ ap offsets_for tree

  pub measure_offsets : (r : ℕ) → s.fixed ≡ false → r ≡ offsets_in (fields_at l (s.at + 1)) → r ≤ 255 → (r ≡ measure_of (tree_at l s.at)) × (r ≤ 10000)
  measure_offsets r f h m = (h ∙ sym (measure_offsets_for f), omega arith)

pub record StructureThere (l : List ℕ) (at : ℕ) (s : Shape) : Type 0 where
  pub rowed : Rowed l (at + 1)
  pub all : s.fixed ≡ true → all_fixed (fields_at l (at + 1)) ≡ true
  pub aligned : s.alignment ≡ largest_alignment (fields_at l (at + 1))
  pub whole : (r : ℕ) → s.fixed ≡ true → r ≡ size_and_any (fixed_size (structure (fields_at l (at + 1)))) (any_bytes (structure (fields_at l (at + 1)))) → (r ≡ measure_of (tree_at l at)) × (r ≤ 10000)
  pub offsets : (r : ℕ) → s.fixed ≡ false → r ≡ offsets_in (fields_at l (at + 1)) → r ≤ 255 → (r ≡ measure_of (tree_at l at)) × (r ≤ 10000)

pub structure_there : (l t : List ℕ) (at : ℕ) → Shaped l t → at < length l → letter_at l at ≡ OpenStructure → (s : Shape) → s ≡ shape_in l t at → (s.next ≡ 0 → ⊥) → StructureThere l at s
structure_there l t at z h e s hs n =
    let d = some_structure l t at z h (shape_in l t at) refl (λ y. n (ap (λ (x : Shape). x.next) hs ∙ y)) in
    subst⁻¹ (λ (x : Shape). StructureThere l at x) hs (record {
      rowed = structure_rowed d e;
      all = structure_all d e;
      aligned = structure_alignment d e;
      whole = measure_whole d e;
      offsets = measure_offsets d e;
    })

-- ---- the table as it fills

module _ (l t t' : List ℕ) (r : Bool) (z : length t ≡ 510) (a : Answered l t t' r) where
  pub table_judges : r ≡ is_type l
  table_judges = go (is_type l) refl
    where
      go : (q : Bool) → is_type l ≡ q → r ≡ is_type l
      go false p = a.judged ∙ rw p (neither (leb (length l) (length t)))
        where
          neither : (b : Bool) → (b && false) ≡ false
          neither true = refl
          neither false = refl
      go true p = let n = (judged_type l p).few in a.judged ∙ rw (le-leb (length l) (length t) (omega arith))

  pub table_begin : r ≡ true → Behind l (length l) t'
  table_begin h =
      let n = (judged_type l (sym table_judges ∙ h)).few in
      let f = a.filled n (omega arith) in
      record {
        shapes = record { few = n; room = omega (arith, f.kept); each = f.each };
        room = f.kept ∙ z;
        sizes = λ i p q. absurd (omega arith);
      }

pub table_turn : {l t : List ℕ} {i : ℕ} → 0 < i → Behind l i t → Behind l (i - 1 + 1) t
table_turn {l} {t} {i} h b = let e : i - 1 + 1 ≡ i = omega arith in rw e b

pub table_end : {l t : List ℕ} {i : ℕ} → i ≤ 0 → Behind l i t → Tabled l t
table_end {l} {t} {i} h b = let e : i ≡ 0 = omega arith in rw e at b

pub table_next : (l t : List ℕ) (i m : ℕ) → Behind l (i + 1) t → i < length l → (Typed l i → m ≡ measure_of (tree_at l i)) → Behind l i (set t (255 + i) m)
table_next l t i m b h g =
    let few = b.shapes.few in
    let n : 255 + i < length t = omega (arith, b.room) in
    record {
      shapes = record {
        few = few;
        room = (let y = b.shapes.room in omega (arith, length-set t (255 + i) m));
        each = λ k p q. get_or-set_other t (255 + i) k m 0 (λ y. omega arith) ∙ b.shapes.each k p q;
      };
      room = length-set t (255 + i) m ∙ b.room;
      sizes = λ k p q d. here k p q d (eqb k i) refl n;
    }
  where
    here : (k : ℕ) → i ≤ k → k < length l → Typed l k → (c : Bool) → eqb k i ≡ c → 255 + i < length t → get_or (set t (255 + i) m) (255 + k) 0 ≡ measure_of (tree_at l k)
    here k p q d true e n =
        let w : k ≡ i = eqb-true k i e in
        ap (λ (x : ℕ). get_or (set t (255 + i) m) (255 + x) 0) w ∙ get_or-set_same t (255 + i) m 0 n ∙ g (rw w at d) ∙ ap (λ (x : ℕ). measure_of (tree_at l x)) (sym w)
    here k p q d false e n =
        let w = eqb-false k i e in
        get_or-set_other t (255 + i) (255 + k) m 0 (λ y. w (omega arith)) ∙ b.sizes k (other k i p w) q d
      where
        other : (x y : ℕ) → y ≤ x → (x ≡ y → ⊥) → y + 1 ≤ x
        other x y u v = omega arith

-- ---- what it says of a type

offsets_few : (ts : Fields) → offsets_in ts ≤ length (fields_text ts)
unfolding offsets_in
offsets_few (last t) = omega arith
offsets_few (next t ts) =
    let a : length (fields_text (next t ts)) ≡ length (type_text t) + length (fields_text ts) = (unfold type_text in length-append (type_text t) (fields_text ts)) in
    omega (arith, more_most (fixed t) (offsets_in ts), offsets_few ts, fixed_size_most t)

offsets_for_few : (t : Tree) → offsets_for t ≤ length (type_text t)
unfolding offsets_for type_text
offsets_for_few (basic b) = omega arith
offsets_for_few variant = omega arith
offsets_for_few (maybe t) = omega arith
offsets_for_few (array t) = omega arith
offsets_for_few (dictionary b t) = omega arith
offsets_for_few (structure ts) = omega (arith, offsets_few ts)

measure_most : (t : Tree) (n : ℕ) → length (type_text t) ≤ n → measure_of t ≤ 32 * n
measure_most t n h = go (fixed t) refl
  where
    most : (m : ℕ) (any : Bool) → m + 7 ≤ 16 * n → size_and_any m any ≤ 32 * n
    most m true q = omega arith
    most m false q = omega arith

    go : (b : Bool) → fixed t ≡ b → measure_of t ≤ 32 * n
    go true f = rw (measure_fixed t f) (most (fixed_size t) (any_bytes t) (omega (arith, fixed_size_most t)))
    go false f = omega (arith, measure_other t f, offsets_for_few t)

module _ {l t : List ℕ} {s : Shape} (p : Placed l t s) where
  abbrev its : Tree
  its = tree_at l s.at

  pub placed_at : s.at < 255
  placed_at = let e = extends p.shape in omega (arith, e.onward, e.within, e.few)

  number_is : get_or t (255 + s.at) 0 ≡ measure_of its
  number_is = let e = extends p.shape in p.table.sizes s.at (omega arith) (omega (arith, e.onward, e.within)) p.shape.typed

  pub size_most : get_or t (255 + s.at) 0 / 2 ≤ 4080
  size_most =
      let i = type_inside l s.at its _ p.shape.typed.found in
      let few = p.shape.typed.short in
      omega (arith, number_is, measure_most its 255 (omega arith))

  size_is : s.fixed ≡ true → get_or t (255 + s.at) 0 / 2 ≡ fixed_size its
  size_is f = ap (λ (x : ℕ). x / 2) (number_is ∙ measure_fixed its (sym (described_fixed p.shape) ∙ f)) ∙ half_is (fixed_size its) (any_bytes its)

  pub placed_known : items.Known (extent_in t s) (λ n. tree_test n l s.at)
  placed_known = record {
    laid = record { aligned = described_aligned p.shape; small = (let m = size_most in omega arith) };
    positive = λ f. rw (size_is f) (fixed_size_positive its (sym (described_fixed p.shape) ∙ f));
    same_alignment = λ n. test_alignment (65 - n) its ∙ sym (described_alignment p.shape);
    same_fixed = λ n. test_fixed (65 - n) its ∙ sym (described_fixed p.shape);
    same_size = λ n f. test_size (65 - n) its (sym (described_fixed p.shape) ∙ f) ∙ sym (size_is f);
  }

  any_is : any_in t s ≡ true → any_bytes its ≡ true
  any_is h =
      let b = both_true s.fixed (eqb (get_or t (255 + s.at) 0 % 2) 1) h in
      sym (odd_is (fixed_size its) (any_bytes its)) ∙ ap (λ (x : ℕ). eqb (x % 2) 1) (sym (number_is ∙ measure_fixed its (sym (described_fixed p.shape) ∙ b.0))) ∙ b.1

  pub placed_any : any_in t s ≡ true → Alike (extent_in t s) (λ n. tree_test n l s.at)
  placed_any h =
      let b = both_true s.fixed (eqb (get_or t (255 + s.at) 0 % 2) 1) h in
      record {
        fixed = b.0;
        close = λ i. rw (size_is b.0, described_alignment p.shape) (close_together its (sym (described_fixed p.shape) ∙ b.0) i);
        same = λ n. any_alike (65 - n) its (any_is h);
      }

  pub placed_offsets : letter_at l s.at ≡ OpenStructure → (n : ℕ) → offset_count (test_shapes (tests_of n (fields_at l (s.at + 1)))) ≡ offsets_by t s
  placed_offsets e n = offsets_count n (fields_at l (s.at + 1)) ∙ go s.fixed refl
    where
      go : (b : Bool) → s.fixed ≡ b → offsets_in (fields_at l (s.at + 1)) ≡ pick b 0 (get_or t (255 + s.at) 0)
      go true f = offsets_free (fields_at l (s.at + 1)) (structure_all p.shape e f)
      go false f = sym (number_is ∙ measure_offsets_for p.shape e f)

  pub offsets_most : letter_at l s.at ≡ OpenStructure → offsets_by t s ≤ 255
  offsets_most e = go s.fixed refl
    where
      go : (b : Bool) → s.fixed ≡ b → pick b 0 (get_or t (255 + s.at) 0) ≤ 255
      go true f = omega arith
      go false f =
          let i = type_inside l s.at its _ p.shape.typed.found in
          let few = p.shape.typed.short in
          omega (arith, number_is, measure_other its (sym (described_fixed p.shape) ∙ f), offsets_for_few its)

-- a type from the front of its text on, where the tables are its own
pub front_placed : (sig tables : List ℕ) → Tabled sig tables → Front sig → (s : Shape) → s ≡ shape_in sig tables 0 → Placed sig tables s
front_placed sig tables w f s q = record { shape = described_as q (front_described sig tables w.shapes f); table = w }
