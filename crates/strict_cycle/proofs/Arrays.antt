-- A law for each way out of arrays, dictionaries and their entries. Assumes nothing.
use mathlib.Core.Path.{◌≡◌, refl, sym, ap, subst, ◌∙◌}
use mathlib.Core.List.{List, [], ◌∷◌}
use mathlib.Core.Bool.{Bool, true, false, ◌&&◌}
use Prim.Native.Nat.{ℕ, zero, suc, ◌+◌, ◌-◌, ◌*◌, ◌/◌, ◌≤◌}
use native.Mathlib.Nat.{suc-mul}
use native.Mathlib.Omega.{arith}
use lib.Dec.{eqb}
use lib.ListN.{length, take}
use Rattle.meaning.specs.Padding.{padding, Aligns}
use Rattle.meaning.specs.Depths as Depth
use Rattle.meaning.specs.Depths.{Depths, opened}
use Rattle.meaning.specs.Written.{deeper}
use Rattle.meaning_writing.specs.Shapes.{one_more, offset_count, field_end, offsets_left}
use Rattle.meaning_writing.specs.Strict.{Test, test_shapes, all_zero, child_written, elements_written, array_written, array_test, fields_written, structure_written, entry_test}
use Rattle.container_depths.specs.Opening.{depths_of, Raised, raised_in, Raises}
use Rattle.container_depths.specs.declared.ContainerDepths.{ContainerDepths}
use Rattle.std.specs.Prelude.{Result, is_ok}
use Rattle.meaning.specs.declared.refusals.Refusal.{Refusal}
use Rattle.container_depths.proofs.Levels.{raised_to}
use Rattle.strict_basic.specs.Basics.{letter_extent, letter_test, text_test, may_open, reading_test}
use Rattle.strict_ends.specs.Ends.{end_of, Standing, RowsAre, NoRows, TableIs, NoTable}
use Rattle.strict_sizes.specs.Items.{tree_test, repeated_test, item_test, Known, Alike, Reads, Told, Repeated, ItemAt}
use Rattle.strict_ends.specs.declared.Extent.{Extent}
use Rattle.strict_ends.specs.declared.Rows.{Rows}
use Rattle.strict_sizes.specs.declared.items.Item.{Item}
use Rattle.strict_sizes.specs.declared.items.Repeats.{Repeats}
use Rattle.strict_sizes.specs.declared.items.Repeats.TheVariants as repeats
use Rattle.signature.specs.declared.Letter.{Letter}
use Rattle.strict_ends.proofs.EndLaws.{child_within, start_here}
use Rattle.strict_sizes.proofs.AlikeLaws.{any_first}
use Rattle.strict_sizes.proofs.SizeLaws.{Some}
use Rattle.strict_cycle.specs.Walks.{last_written}
use Rattle.strict_cycle.proofs.Values.{raised_ok, deeper_not, deeper_on, child_on}
use Rattle.strict_cycle.proofs.Structures.{fields_one, fields_turn, offsets_one, offsets_two}

-- what is known by what is repeated
told_as : (x : Extent) (test : ℕ → Test) {r s : Repeats} → r ≡ s → Told x test r → Told x test s
told_as x test h g = subst (λ (y : Repeats). Told x test y) h g

-- ---- an array or a dictionary

module _ {text tables : List ℕ} {at : ℕ} (i : Item) (g : ItemAt text tables at i) (d : ContainerDepths) (l : List ℕ) (r : Raised) (u : Raises (depths_of d) (opened Depth.array (depths_of d)) r) where
  array_accepts : (tree_test d.variant text at).accepts (depths_of d) l ≡ deeper (opened Depth.array (depths_of d)) (array_written i.extent.fixed (item_test d.variant text i) l)
  unfolding array_test
  array_accepts = ap (λ (x : Test). x.accepts (depths_of d) l) (g.repeats d.variant)

  pub array_deep : (r.refusal ≡ 0 → ⊥) → false ≡ (tree_test d.variant text at).accepts (depths_of d) l
  array_deep z = sym (array_accepts ∙ deeper_not Depth.array d r u (array_written i.extent.fixed (item_test d.variant text i) l) z)

  module _ (z : r.refusal ≡ 0) where
    abbrev t : Test
    t = item_test r.depths.variant text i

    array_in_lem : (tree_test d.variant text at).accepts (depths_of d) l ≡ array_written i.extent.fixed t l (depths_of r.depths)
    array_in_lem =
        let v : r.depths.variant ≡ d.variant = ap (λ (x : Depths). x.variant) (raised_to Depth.array d r u z) in
        array_accepts ∙ deeper_on Depth.array d r u (array_written i.extent.fixed (item_test d.variant text i) l) z
        ∙ ap (λ (n : ℕ). array_written i.extent.fixed (item_test n text i) l (depths_of r.depths)) (sym v)

    pub array_any : (b : Bool) → b ≡ array_written i.extent.fixed t l (depths_of r.depths) → b ≡ (tree_test d.variant text at).accepts (depths_of d) l
    array_any b h = h ∙ sym array_in_lem

    pub array_not : NoRows l i.extent.fixed i.extent.size → false ≡ (tree_test d.variant text at).accepts (depths_of d) l
    array_not w = sym (array_in_lem ∙ w.is t (depths_of r.depths) (g.repeated.known.same_size r.depths.variant))

    module _ (s : Rows) (w : RowsAre l i.extent.fixed i.extent.size s) where
      pub array_on : (b : Bool) → b ≡ elements_written i.extent.fixed t (depths_of r.depths) l s.width s.body s.count s.from 0
          → b ≡ (tree_test d.variant text at).accepts (depths_of d) l
      array_on b k = k ∙ sym (array_in_lem ∙ w.is t (depths_of r.depths) (g.repeated.known.same_size r.depths.variant))

      -- of texts, which are not fixed
      module _ (h : i.repeats ≡ repeats.Texts) where
        texts : (nested : ℕ) → item_test nested text i ≡ text_test
        texts = told_as i.extent (λ m. item_test m text i) h g.repeated.told

        text_loose : i.extent.fixed ≡ false
        unfolding text_test
        text_loose = sym (g.repeated.known.same_fixed 0) ∙ ap (λ (x : Test). x.shape.fixed) (texts 0)

        pub texts_stand : Standing l false s
        texts_stand = rw text_loose at w.standing

        pub array_texts : (b : Bool) → ((e : Depths) → b ≡ elements_written false text_test e l s.width s.body s.count s.from 0) → b ≡ (tree_test d.variant text at).accepts (depths_of d) l
        array_texts b k =
            array_on b (k (depths_of r.depths) ∙ ap (λ (y : Test). elements_written false y (depths_of r.depths) l s.width s.body s.count s.from 0) (sym (texts r.depths.variant))
            ∙ ap (λ (f : Bool). elements_written f t (depths_of r.depths) l s.width s.body s.count s.from 0) (sym text_loose))

      -- of readings, which are not fixed
      module _ (n : ℕ) (h : i.repeats ≡ repeats.Readings n) where
        reads : Reads n (λ m. item_test m text i)
        reads = told_as i.extent (λ m. item_test m text i) h g.repeated.told

        pub reads_aligned : Aligns n
        reads_aligned = reads.aligned

        reads_loose : i.extent.fixed ≡ false
        unfolding reading_test
        reads_loose = sym (g.repeated.known.same_fixed 0) ∙ ap (λ (x : Test). x.shape.fixed) (reads.is 0)

        pub reads_stand : Standing l false s
        reads_stand = rw reads_loose at w.standing

        pub array_readings : (b : Bool) (m : Result ContainerDepths Refusal) → Raises (depths_of r.depths) (opened Depth.maybe (depths_of r.depths)) (raised_in r.depths m)
            → ((e : Depths) → is_ok m ≡ may_open e → b ≡ elements_written false (reading_test n) e l s.width s.body s.count s.from 0)
            → b ≡ (tree_test d.variant text at).accepts (depths_of d) l
        array_readings b m v k =
            array_on b (k (depths_of r.depths) (raised_ok r.depths m ∙ ap (λ (n : ℕ). eqb n 0) v.refusal)
            ∙ ap (λ (y : Test). elements_written false y (depths_of r.depths) l s.width s.body s.count s.from 0) (sym (reads.is r.depths.variant))
            ∙ ap (λ (f : Bool). elements_written f t (depths_of r.depths) l s.width s.body s.count s.from 0) (sym reads_loose))

-- ---- what is repeated

plain_is : (nested : ℕ) (text : List ℕ) (i : Item) → ((k : Letter) → i.repeats ≡ repeats.Entries k → ⊥) → item_test nested text i ≡ tree_test nested text i.child.at
unfolding item_test
plain_is nested text i h = go i.repeats refl
  where
    go : (r : Repeats) → i.repeats ≡ r → repeated_test nested text i.child i.extent r ≡ tree_test nested text i.child.at
    go (repeats.Entries k) q = absurd (h k q)
    go repeats.AnyBytes q = refl
    go repeats.Texts q = refl
    go (repeats.Readings w) q = refl
    go repeats.Others q = refl

pub plain_accepts : (nested : ℕ) (text : List ℕ) (i : Item) (d : Depths) (l : List ℕ) → ((k : Letter) → i.repeats ≡ repeats.Entries k → ⊥) → (b : Bool) → b ≡ (tree_test nested text i.child.at).accepts d l → b ≡ (item_test nested text i).accepts d l
plain_accepts nested text i d l h b g = g ∙ ap (λ (t : Test). t.accepts d l) (sym (plain_is nested text i h))

pub any_plain : (i : Item) → i.repeats ≡ repeats.AnyBytes → (k : Letter) → i.repeats ≡ repeats.Entries k → ⊥
any_plain i h k q = cc

pub alike : {text tables : List ℕ} {i : Item} → Repeated text tables i → i.repeats ≡ repeats.AnyBytes → Alike i.extent (λ n. item_test n text i)
alike {text} {tables} {i} g h = told_as i.extent (λ n. item_test n text i) h g.told

entry_is : (nested : ℕ) (text : List ℕ) (i : Item) (k : Letter) → i.repeats ≡ repeats.Entries k
    → item_test nested text i ≡ entry_test i.extent.alignment i.extent.fixed (letter_test k ∷ tree_test nested text i.child.at ∷ [])
unfolding item_test
entry_is nested text i k h = ap (repeated_test nested text i.child i.extent) h

-- ---- elements for which any bytes will do

pub first_fits : (m n len : ℕ) → m * n ≡ len → (m ≡ 0 → ⊥) → n ≤ len
first_fits zero n len e z = absurd (z refl)
first_fits (suc m) n len e z = omega (arith, suc-mul m n, e)

pub first_tells : (x : Extent) (test : ℕ → Test) → Known x test → Alike x test → (nested : ℕ) (d : Depths) (l : List ℕ) (m : ℕ) → m ≡ length l / x.size → m * x.size ≡ length l → (m ≡ 0 → ⊥)
    → (b : Bool) → b ≡ (test nested).accepts d (take x.size l) → b ≡ array_written x.fixed (test nested) l d
unfolding all_zero
first_tells x test g a nested d l m h e z b q =
    let v : x.size ≡ x.size - 0 = omega arith in
    let y : 0 * x.size ≡ 0 = omega arith in
    let p : padding 0 x.alignment ≡ 0 = rw y at (a.close 0) in
    let s = start_here l (length l) 0 x.size x.alignment 0 (omega (arith, p)) (omega arith) (first_fits m x.size (length l) e z) refl in
    any_first x test g a nested d l m h e z b (sym (child_on (test nested) d l (length l) 0 x.size x.alignment (g.same_alignment nested) 0 s b (q ∙ ap (λ (n : ℕ). (test nested).accepts d (take n l)) v)))

-- ---- an entry

pub more_small : (f : Bool) (n r : ℕ) → r ≡ one_more f n → r ≤ n + 1
more_small true n r h = omega arith
more_small false n r h = omega arith

module _ (nested : ℕ) (text : List ℕ) (i : Item) (key : Letter) (h : i.repeats ≡ repeats.Entries key) (d : Depths) (l : List ℕ) (x : Extent) (hx : x ≡ letter_extent key) (n : ℕ) (hn : n ≡ one_more x.fixed 0) where
  abbrev u : Test
  u = letter_test key

  abbrev v : Test
  v = tree_test nested text i.child.at

  one : Some (v ∷ [])
  one = record { first = v; others = []; it = refl }

  entry_accepts : (item_test nested text i).accepts d l ≡ structure_written i.extent.fixed i.extent.alignment (u ∷ v ∷ []) l d
  unfolding entry_test
  entry_accepts = ap (λ (t : Test). t.accepts d l) (entry_is nested text i key h)

  entry_count : offset_count (test_shapes (u ∷ v ∷ [])) ≡ n
  unfolding letter_test
  entry_count = offsets_two u v [] ∙ ap (λ (m : ℕ). one_more u.shape.fixed m) (offsets_one v) ∙ ap (λ (y : Extent). one_more y.fixed 0) (sym hx) ∙ sym hn

  pub entry_not : NoTable (length l) n → false ≡ (item_test nested text i).accepts d l
  entry_not w = sym (entry_accepts ∙ w.is i.extent.fixed i.extent.alignment (u ∷ v ∷ []) l d refl entry_count)

  module _ (s : Rows) (w : TableIs (length l) n s) where
    -- room for the key's offset
    pub entry_room : x.fixed ≡ false → s.width ≤ length l
    entry_room f = let q = w.room in let m : n ≡ 1 = hn ∙ ap (λ (b : Bool). one_more b 0) f in omega (arith, rw m at q)

    module _ (e : ℕ) (he : e ≡ field_end x.fixed l s.width (length l) (end_of x 0)) (c : Bool) (hc : (d : Depths) → c ≡ child_written u d l s.body 0 e) where
      entry_turn : (item_test nested text i).accepts d l ≡ (c && last_written i.extent.fixed i.extent.alignment v d l s.body e)
      unfolding letter_test
      entry_turn =
          entry_accepts ∙ w.is i.extent.fixed i.extent.alignment (u ∷ v ∷ []) l d refl entry_count
          ∙ fields_turn i.extent.fixed i.extent.alignment d l s.body s.width u (v ∷ []) one x (ap (λ (y : Extent). y.fixed) (sym hx)) (ap (λ (y : Extent). y.alignment) (sym hx)) (λ f. ap (λ (y : Extent). y.size) (sym hx)) 0 (length l) e he
          ∙ ap (λ (b : Bool). b && fields_written i.extent.fixed i.extent.alignment d l s.body s.width (v ∷ []) e (offsets_left x.fixed s.width (length l))) (sym (hc d))
          ∙ ap (λ (b : Bool). c && b) (fields_one i.extent.fixed i.extent.alignment d l s.body s.width v e (offsets_left x.fixed s.width (length l)))

      pub entry_stop : c ≡ false → false ≡ (item_test nested text i).accepts d l
      entry_stop y = sym (entry_turn ∙ rw y)

      pub entry_last : (b : Bool) → c ≡ true → b ≡ last_written i.extent.fixed i.extent.alignment v d l s.body e → b ≡ (item_test nested text i).accepts d l
      entry_last b y q = q ∙ sym (entry_turn ∙ rw y)

      pub entry_within : c ≡ true → e ≤ s.body
      entry_within y = child_within u d l s.body 0 e (sym (hc d) ∙ y)
