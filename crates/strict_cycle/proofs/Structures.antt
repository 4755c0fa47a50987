-- A law for each way out of structures and their fields, and what the loop over fields keeps. Assumes nothing.
use mathlib.Core.Path.{◌≡◌, refl, sym, ap, ◌∙◌}
use mathlib.Core.List.{List, [], ◌∷◌}
use mathlib.Core.Bool.{Bool, true, false, ◌&&◌}
use Prim.Native.Nat.{ℕ, ◌+◌, ◌-◌, ◌*◌, ◌≤◌}
use native.Mathlib.Omega.{arith}
use native.Mathlib.Nat.{suc-mul}
use lib.ListN.{length}
use Rattle.meaning.specs.Padding.{padding}
use Rattle.meaning.specs.Depths as Depth
use Rattle.meaning.specs.Depths.{Depths, opened}
use Rattle.meaning.specs.Types.{Fields, largest_alignment}
use Rattle.meaning.specs.Written.{deeper}
use Rattle.meaning_writing.specs.Shapes.{one_more, offset_count, last_end, field_end, offsets_left, fixed_end}
use Rattle.meaning_writing.specs.Strict.{Test, test_shapes, child_written, fields_finished, fields_written, structure_written, structure_test, test_of, tests_of}
use Rattle.meaning_writing.proofs.StrictSteps.{test_structure, tests_last, tests_next}
use Rattle.container_depths.specs.Opening.{depths_of, Raised, Raises}
use Rattle.container_depths.specs.declared.ContainerDepths.{ContainerDepths}
use Rattle.signature.specs.Places.{letter_at}
use Rattle.signature.specs.Trees.{tree_at, fields_at, Rowed}
use Rattle.signature.specs.declared.Letter.TheVariants.{OpenStructure}
use Rattle.signature.specs.declared.shapes.Shape.{Shape}
use Rattle.signature.proofs.TreeLaws.{structure_tree, structure_fixed, structure_alignment, LastField, NextField}
use Rattle.container_depths.proofs.Levels.{raised_to}
use Rattle.strict_ends.specs.Ends.{end_of, TableIs, NoTable}
use Rattle.strict_sizes.specs.Sizes.{Tabled, extent_in, offsets_by}
use Rattle.strict_sizes.specs.Items.{Placed, tree_test, Known}
use Rattle.strict_ends.specs.declared.Extent.{Extent}
use Rattle.strict_ends.specs.declared.Rows.{Rows}
use Rattle.strict_ends.proofs.EndLaws.{no, child_within}
use Rattle.strict_sizes.proofs.SizeLaws.{Some, some_tests}
use Rattle.strict_sizes.proofs.TableLaws.{placed_known, placed_offsets}
use Rattle.strict_cycle.specs.Walks.{last_written}
use Rattle.strict_cycle.proofs.Values.{deeper_not, deeper_on}

-- ---- the last field

last_same : (f : Bool) (x y b : ℕ) → (f ≡ true → x ≡ y) → last_end f x b ≡ last_end f y b
last_same true x y b h = h refl
last_same false x y b h = refl

module _ (fx : Bool) (a : ℕ) (x : Extent) (test : ℕ → Test) (g : Known x test) (nested : ℕ) (d : Depths) (l : List ℕ) (b k e : ℕ) (he : e ≡ last_end x.fixed (end_of x k) b) (c : Bool) (hc : child_written (test nested) d l b k e ≡ c) where
  last_by : last_written fx a (test nested) d l b k ≡ (c && fields_finished fx a e b l)
  unfolding last_written
  last_by =
      let t = test nested in
      let p : padding k t.shape.alignment ≡ padding k x.alignment = ap (padding k) (g.same_alignment nested) in
      let y : last_end t.shape.fixed (fixed_end k t.shape) b ≡ e =
      ap (λ (f : Bool). last_end f (fixed_end k t.shape) b) (g.same_fixed nested)
      ∙ last_same x.fixed (fixed_end k t.shape) (end_of x k) b (λ z. let q = g.same_size nested z in omega arith) ∙ sym he in
      ap (λ (m : ℕ). child_written t d l b k m && fields_finished fx a m b l) y ∙ ap (λ (x : Bool). x && fields_finished fx a e b l) hc

  pub last_stop_lem : c ≡ false → false ≡ last_written fx a (test nested) d l b k
  last_stop_lem z = sym (last_by ∙ rw z)

  pub last_done : (r : Bool) → c ≡ true → r ≡ fields_finished fx a e b l → r ≡ last_written fx a (test nested) d l b k
  last_done r z q = q ∙ sym (last_by ∙ rw z)

-- ---- a field in front of others

pub fields_one : (fx : Bool) (a : ℕ) (d : Depths) (l : List ℕ) (b w : ℕ) (t : Test) (k e : ℕ) → fields_written fx a d l b w (t ∷ []) k e ≡ last_written fx a t d l b k
unfolding fields_written last_written
fields_one fx a d l b w t k e = refl

fields_two : (fx : Bool) (a : ℕ) (d : Depths) (l : List ℕ) (b w : ℕ) (t u : Test) (us : List Test) (k e : ℕ) → fields_written fx a d l b w (t ∷ u ∷ us) k e
    ≡ (child_written t d l b k (field_end t.shape.fixed l w e (fixed_end k t.shape))
    && fields_written fx a d l b w (u ∷ us) (field_end t.shape.fixed l w e (fixed_end k t.shape)) (offsets_left t.shape.fixed w e))
unfolding fields_written
fields_two fx a d l b w t u us k e = refl

pub offsets_one : (t : Test) → offset_count (test_shapes (t ∷ [])) ≡ 0
unfolding offset_count
offsets_one t = refl

pub offsets_two : (t u : Test) (us : List Test) → offset_count (test_shapes (t ∷ u ∷ us)) ≡ one_more t.shape.fixed (offset_count (test_shapes (u ∷ us)))
unfolding offset_count
offsets_two t u us = refl

field_same : (f : Bool) (l : List ℕ) (w e x y : ℕ) → (f ≡ true → x ≡ y) → field_end f l w e x ≡ field_end f l w e y
unfolding field_end
field_same true l w e x y h = h refl
field_same false l w e x y h = refl

module _ (fx : Bool) (a : ℕ) (d : Depths) (l : List ℕ) (b w : ℕ) (t : Test) (us : List Test) (o : Some us) (x : Extent) (hf : t.shape.fixed ≡ x.fixed) (ha : t.shape.alignment ≡ x.alignment)
    (hs : x.fixed ≡ true → t.shape.size ≡ x.size) where
  pub fields_turn : (k e z : ℕ) → z ≡ field_end x.fixed l w e (end_of x k) → fields_written fx a d l b w (t ∷ us) k e ≡ (child_written t d l b k z && fields_written fx a d l b w us z (offsets_left x.fixed w e))
  fields_turn k e z hz =
      let p : padding k t.shape.alignment ≡ padding k x.alignment = ap (padding k) ha in
      let y : field_end t.shape.fixed l w e (fixed_end k t.shape) ≡ z =
      ap (λ (f : Bool). field_end f l w e (fixed_end k t.shape)) hf
      ∙ field_same x.fixed l w e (fixed_end k t.shape) (end_of x k) (λ q. let s = hs q in omega arith) ∙ sym hz in
      ap (λ (v : List Test). fields_written fx a d l b w (t ∷ v) k e) o.it ∙ fields_two fx a d l b w t o.first o.others k e
      ∙ ap (λ (m : ℕ). child_written t d l b k m && fields_written fx a d l b w (o.first ∷ o.others) m (offsets_left t.shape.fixed w e)) y
      ∙ ap (λ (f : Bool). child_written t d l b k z && fields_written fx a d l b w (o.first ∷ o.others) z (offsets_left f w e)) hf
      ∙ ap (λ (v : List Test). child_written t d l b k z && fields_written fx a d l b w v z (offsets_left x.fixed w e)) (sym o.it)

  offsets_turn : offset_count (test_shapes (t ∷ us)) ≡ one_more x.fixed (offset_count (test_shapes us))
  offsets_turn =
      ap (λ (v : List Test). offset_count (test_shapes (t ∷ v))) o.it ∙ offsets_two t o.first o.others ∙ ap (λ (f : Bool). one_more f (offset_count (test_shapes (o.first ∷ o.others)))) hf
      ∙ ap (λ (v : List Test). one_more x.fixed (offset_count (test_shapes v))) (sym o.it)

more_room : (f : Bool) (n w e : ℕ) → one_more f n * w ≤ e → (f ≡ false → w ≤ e) × (n * w ≤ offsets_left f w e)
more_room true n w e h = (λ q. no q, h)
more_room false n w e h = (λ q. omega (arith, suc-mul n w), omega (arith, suc-mul n w))

left_most : (f : Bool) (w e : ℕ) → offsets_left f w e ≤ e
left_most true w e = omega arith
left_most false w e = omega arith

-- ---- the loop over fields

-- the fields in front of place i of the text are passed
pub record FieldsLeft (fx : Bool) (a nested : ℕ) (d : Depths) (text : List ℕ) (at : ℕ) (l : List ℕ) (b w i k e : ℕ) : Type 0 where
  pub rowed : Rowed text i
  pub place : k ≤ b
  pub inside : e ≤ length l
  pub room : offset_count (test_shapes (tests_of (65 - nested) (fields_at text i))) * w ≤ e
  pub rest : fields_written fx a d l b w (tests_of (65 - nested) (fields_at text at)) 0 (length l) ≡ fields_written fx a d l b w (tests_of (65 - nested) (fields_at text i)) k e

pub fields_begin : (fx : Bool) (a nested : ℕ) (d : Depths) (text : List ℕ) (at : ℕ) (l : List ℕ) (b w : ℕ) → Rowed text at → offset_count (test_shapes (tests_of (65 - nested) (fields_at text at))) * w ≤ length l
    → FieldsLeft fx a nested d text at l b w at 0 (length l)
fields_begin fx a nested d text at l b w g h = record { rowed = g; place = omega arith; inside = omega arith; room = h; rest = refl }

pub last_placed : {text tables : List ℕ} {i : ℕ} {s : Shape} → Tabled text tables → LastField text tables i s → Placed text tables s
last_placed t g = record { shape = g.shape; table = t }

pub next_placed : {text tables : List ℕ} {i : ℕ} {s : Shape} → Tabled text tables → NextField text tables i s → Placed text tables s
next_placed t g = record { shape = g.shape; table = t }

module _ {fx : Bool} {a nested : ℕ} {d : Depths} {text tables : List ℕ} {at : ℕ} {l : List ℕ} {b w i k e : ℕ} (tabled : Tabled text tables) (q : FieldsLeft fx a nested d text at l b w i k e) (s : Shape) where
  pub fields_last : LastField text tables i s → (r : Bool) → r ≡ last_written fx a (tree_test nested text s.at) d l b k → r ≡ fields_written fx a d l b w (tests_of (65 - nested) (fields_at text at)) 0 (length l)
  fields_last g r h =
      h ∙ sym (q.rest ∙ ap (λ (ts : List Test). fields_written fx a d l b w ts k e) (ap (λ (ts : Fields). tests_of (65 - nested) ts) g.fields ∙ tests_last (65 - nested) (tree_at text s.at))
      ∙ fields_one fx a d l b w (tree_test nested text s.at) k e)

  module _ (g : NextField text tables i s) (x : Extent) (hx : x ≡ extent_in tables s) where
    abbrev t : Test
    t = tree_test nested text s.at

    abbrev us : List Test
    us = tests_of (65 - nested) (fields_at text s.next)

    tests : tests_of (65 - nested) (fields_at text i) ≡ t ∷ us
    tests = ap (λ (ts : Fields). tests_of (65 - nested) ts) g.fields ∙ tests_next (65 - nested) (tree_at text s.at) (fields_at text s.next)

    known : Known x (λ n. tree_test n text s.at)
    known = rw hx (placed_known (next_placed tabled g))

    some_left : Some us
    some_left = some_tests (65 - nested) (fields_at text s.next)

    room_on : (x.fixed ≡ false → w ≤ e) × (offset_count (test_shapes us) * w ≤ offsets_left x.fixed w e)
    room_on =
        let n = ap (λ (ts : List Test). offset_count (test_shapes ts)) tests ∙ offsets_turn fx a d l b w t us some_left x (known.same_fixed nested) (known.same_alignment nested) (known.same_size nested) in
        more_room x.fixed (offset_count (test_shapes us)) w e (rw n at q.room)

    pub fields_room : x.fixed ≡ false → w ≤ e
    fields_room h = room_on.0 h

    module _ (z : ℕ) (hz : z ≡ field_end x.fixed l w e (end_of x k)) (c : Bool) (hc : child_written t d l b k z ≡ c) where
      turned : fields_written fx a d l b w (tests_of (65 - nested) (fields_at text at)) 0 (length l) ≡ (c && fields_written fx a d l b w us z (offsets_left x.fixed w e))
      turned =
          q.rest ∙ ap (λ (ts : List Test). fields_written fx a d l b w ts k e) tests
          ∙ fields_turn fx a d l b w t us some_left x (known.same_fixed nested) (known.same_alignment nested) (known.same_size nested) k e z hz
          ∙ ap (λ (y : Bool). y && fields_written fx a d l b w us z (offsets_left x.fixed w e)) hc

      pub fields_stop : c ≡ false → false ≡ fields_written fx a d l b w (tests_of (65 - nested) (fields_at text at)) 0 (length l)
      fields_stop h = sym (turned ∙ rw h)

      pub fields_next : (e' : ℕ) → c ≡ true → e' ≡ offsets_left x.fixed w e → FieldsLeft fx a nested d text at l b w s.next z e'
      fields_next e' h p = rw p (record {
        rowed = g.rowed;
        place = child_within t d l b k z (hc ∙ h);
        inside = (let y = q.inside in let m = left_most x.fixed w e in omega arith);
        room = room_on.1;
        rest = turned ∙ rw h;
      })

-- ---- a structure

module _ {text tables : List ℕ} {s : Shape} (p : Placed text tables s) (e : letter_at text s.at ≡ OpenStructure) (d : ContainerDepths) (l : List ℕ) (r : Raised) (u : Raises (depths_of d) (opened Depth.structure (depths_of d)) r) where
  abbrev ts : Fields
  ts = fields_at text (s.at + 1)

  structure_accepts : (tree_test d.variant text s.at).accepts (depths_of d) l ≡ deeper (opened Depth.structure (depths_of d)) (structure_written s.fixed s.alignment (tests_of (65 - d.variant) ts) l)
  unfolding structure_test
  structure_accepts =
      ap (λ (x : Test). x.accepts (depths_of d) l) (ap (test_of (65 - d.variant)) (structure_tree p.shape e) ∙ test_structure (65 - d.variant) ts)
      ∙ ap (λ (b : Bool). deeper (opened Depth.structure (depths_of d)) (structure_written b (largest_alignment ts) (tests_of (65 - d.variant) ts) l)) (sym (structure_fixed p.shape e))
      ∙ ap (λ (a : ℕ). deeper (opened Depth.structure (depths_of d)) (structure_written s.fixed a (tests_of (65 - d.variant) ts) l)) (sym (structure_alignment p.shape e))

  pub structure_deep : (r.refusal ≡ 0 → ⊥) → false ≡ (tree_test d.variant text s.at).accepts (depths_of d) l
  structure_deep z = sym (structure_accepts ∙ deeper_not Depth.structure d r u (structure_written s.fixed s.alignment (tests_of (65 - d.variant) ts) l) z)

  module _ (z : r.refusal ≡ 0) (x : Extent) (hx : x ≡ extent_in tables s) (n : ℕ) (hn : n ≡ offsets_by tables s) where
    structure_in : (tree_test d.variant text s.at).accepts (depths_of d) l ≡ structure_written x.fixed x.alignment (tests_of (65 - r.depths.variant) ts) l (depths_of r.depths)
    structure_in =
        let v : r.depths.variant ≡ d.variant = ap (λ (y : Depths). y.variant) (raised_to Depth.structure d r u z) in
        structure_accepts ∙ deeper_on Depth.structure d r u (structure_written s.fixed s.alignment (tests_of (65 - d.variant) ts) l) z
        ∙ ap (λ (y : Extent). structure_written y.fixed y.alignment (tests_of (65 - d.variant) ts) l (depths_of r.depths)) (sym hx)
        ∙ ap (λ (m : ℕ). structure_written x.fixed x.alignment (tests_of (65 - m) ts) l (depths_of r.depths)) (sym v)

    pub structure_not : NoTable (length l) n → false ≡ (tree_test d.variant text s.at).accepts (depths_of d) l
    structure_not g = sym (structure_in ∙ g.is x.fixed x.alignment (tests_of (65 - r.depths.variant) ts) l (depths_of r.depths) refl (placed_offsets p e (65 - r.depths.variant) ∙ sym hn))

    module _ (w : Rows) (g : TableIs (length l) n w) where
      pub structure_on : (b : Bool) → b ≡ fields_written x.fixed x.alignment (depths_of r.depths) l w.body w.width (tests_of (65 - r.depths.variant) ts) 0 (length l) → b ≡ (tree_test d.variant text s.at).accepts (depths_of d) l
      structure_on b k = k ∙ sym (structure_in ∙ g.is x.fixed x.alignment (tests_of (65 - r.depths.variant) ts) l (depths_of r.depths) refl (placed_offsets p e (65 - r.depths.variant) ∙ sym hn))

      pub structure_room : (m : ℕ) → offset_count (test_shapes (tests_of m ts)) * w.width ≤ length l
      structure_room m = rw (placed_offsets p e m ∙ sym hn) g.room
