-- Laws of an array whose elements are readings: as many turns of the walk over elements, made at once; its ways out, and what its callees
-- ask; and which arrays are such. Assumes nothing.
use mathlib.Core.Path.{◌≡◌, refl, sym, ap, ◌∙◌, subst}
use mathlib.Core.List.{List}
use mathlib.Core.Option.{some}
use mathlib.Core.Bool.{Bool, true, false, false≢true}
use Prim.Native.Nat.{ℕ, zero, suc, ◌+◌, ◌-◌, ◌*◌, ◌≤◌, ◌<◌}
use native.Mathlib.Omega.{arith}
use lib.ListN.{length, take, drop}
use Rattle.meaning.specs.Limits.{largest_frame}
use Rattle.meaning.specs.Numbers.{value}
use Rattle.meaning.specs.Depths.{Depths}
use Rattle.meaning.specs.Types.{bool, number, text, Tree, basic, variant, maybe, array, dictionary, structure, alignment, fixed}
use Rattle.meaning.specs.TypeText.{first_type}
use Rattle.meaning_writing.specs.Shapes.{part}
use Rattle.meaning_writing.specs.Strict.{Test}
use Rattle.meaning_writing.specs.Readings.{MaybeNumber, Slot, slot_type}
use Rattle.meaning_writing.specs.Edited.{Editor, still, maybe_editor, editor_of}
use Rattle.container_depths.specs.Opening.{depths_of}
use Rattle.container_depths.specs.declared.ContainerDepths.{ContainerDepths}
use Rattle.framing_offset_size.specs.Widths.{width_of}
use Rattle.signature.specs.Places.{basic_kind, letter_at}
use Rattle.signature.specs.Items.{held_number, item_in, ElementOf}
use Rattle.signature.specs.Shapes.{shape_in}
use Rattle.signature.specs.Trees.{tree_at, behind_by}
use Rattle.signature.specs.declared.Letter.{Letter}
use Rattle.signature.specs.declared.Letter.TheVariants.{Variant, Maybe, Array, OpenStructure}
use Rattle.signature.specs.declared.items.Item.{Item}
use Rattle.signature.specs.declared.shapes.Shape.{Shape}
use Rattle.signature.proofs.Dispatch.{Shown, shown}
use Rattle.strict_basic.specs.Basics.{letter_extent}
use Rattle.strict_ends.specs.Ends.{Laid}
use Rattle.strict_sizes.specs.Items.{Placed}
use Rattle.strict_sizes.proofs.ItemLaws.{found_placed, found_entry, found_element}
use Rattle.strict_basic.proofs.BasicLaws.{letter_laid}
use Rattle.editor_basic.specs.Elements as its
use Rattle.editor_basic.specs.Elements.{start_of, behind_of, Standing, FirstOf, rest_now}
use Rattle.editor_basic.specs.declared.elements.Elements.{Elements}
use Rattle.editor_basic.specs.declared.elements.Child as element
use Rattle.editor_basic.proofs.ElementLaws.{first_of}
use Rattle.editor_basic.specs.Puts.{rest_most}
use Rattle.editor_steps.specs.declared.answers.Aim.{Aim}
use Rattle.editor_steps.specs.Walked.{Walked, counted_as}
use Rattle.editor_steps.specs.Walks.{new_of, Walks, container_most, most, Ready, item_editor, item_test, elements_test, elements_editor}
use Rattle.editor_steps.specs.Slots.{is_slot, Reads}
use Rattle.editor_steps.specs.Starts.{body_of, AllOf}
use Rattle.editor_steps.specs.Closing.{edits, Fits, end_now, front_of, Behind, Closes}
use Rattle.editor_steps.specs.ReadingArrays.{from_nth, Slotted, ReadyEach, ReadsEach}
use Rattle.editor_steps.proofs.Values.{most_small, slot_there, held_placed, tree_is, maybe_editor_lem}
use Rattle.editor_steps.proofs.Arrays.{ElementsLeft, body_inside, elements_begin, elements_next, elements_behind, elements_counted, element_fits, elements_found}
use Rattle.editor_steps.proofs.Items.{plain_editor, ItemIs}
use Rattle.editor_steps.proofs.ClosingLaws.{times_less}

-- ---- the elements behind so many

-- the offset in front of those behind some stands in the table
pub nth_inside : (e : Elements) (l : List ℕ) (n w : ℕ) → Standing e l → n ≤ e.count → (n ≡ 0 → ⊥) → w ≡ width_of e.size → (e.from + (n - 1) * w + w ≤ length l) × (length l ≤ largest_frame)
nth_inside e l zero w s h z q = absurd (z refl)
nth_inside e l (suc n) w s h z q =
    let o : suc n - 1 ≡ n = omega arith in
    let r : e.from + n * width_of e.size + width_of e.size ≤ length l = omega (arith, s.room, times_less e.size (suc n) e.count h) in
    (rw (o, q) r, s.short)

nth_count : (e : Elements) (n : ℕ) (l : List ℕ) → (from_nth e n l).count ≡ e.count - n
unfolding from_nth
nth_count e zero l = omega arith
nth_count e (suc n) l = refl

nth_next : (e : Elements) (n : ℕ) (l : List ℕ) → from_nth e (suc n) l ≡ behind_of (from_nth e n l) (its.end_in (from_nth e n l) l)
unfolding from_nth
nth_next e zero l =
    let w = width_of e.size in
    let z : e.from + 0 * w ≡ e.from = omega arith in
    let o : e.from + 1 * w ≡ e.from + w = omega arith in
    rw (z, o)
nth_next e (suc n) l =
    let w = width_of e.size in
    let z : e.from + suc (suc n) * w ≡ e.from + suc n * w + w = omega arith in
    let o : e.count - suc (suc n) ≡ e.count - suc n - 1 = omega arith in
    rw (z, o)

-- where each counts one, they are those that so many turns reach
module _ {t : Test} {e : Editor} {d : Depths} {l : List ℕ} {all : Elements} {i : ℕ} (one : (b : List ℕ) → e.count b ≡ 1) (q : ElementsLeft t e d l all all i i) where
  pub nth_left : (n left : ℕ) → i ≡ n + left → n ≤ all.count → ElementsLeft t e d l all (from_nth all n l) i left
  unfolding from_nth
  nth_left zero left h m = let g : i ≡ left = omega arith in subst (λ (j : ℕ). ElementsLeft t e d l all all i j) g q
  nth_left (suc n) left h m =
      let k = nth_left n (suc left) (omega arith) (omega arith) in
      let r = from_nth all n l in
      let c : element.Child = record { start = start_of r; end = its.end_in r l } in
      let some : 0 < r.count = omega (arith, nth_count all n l) in
      let f : FirstOf r l c = first_of r l c k.stands some refl refl in
      let j : suc left - 1 ≡ left = omega arith in
      subst (λ (j : ℕ). ElementsLeft t e d l all (from_nth all (suc n) l) i j) j (elements_next k some f 1 (from_nth all (suc n) l) (sym (one _)) (omega arith) (nth_next all n l))

-- what `from_nth` makes
pub nth_first : (e : Elements) (n : ℕ) (l : List ℕ) → n ≡ 0 → e ≡ from_nth e n l
unfolding from_nth
nth_first e n l h = sym (ap (λ (j : ℕ). from_nth e j l) h)

pub nth_made : (e : Elements) (n : ℕ) (l : List ℕ) (w b v : ℕ) → (n ≡ 0 → ⊥) → w ≡ width_of e.size → b ≡ e.from + (n - 1) * w → v ≡ value (part b (b + w) l)
    → record { alignment = e.alignment; size = e.size; count = e.count - n; from = b + w; place = v } ≡ from_nth e n l
unfolding from_nth
nth_made e zero l w b v z hw hb hv = absurd (z refl)
nth_made e (suc n) l w b v z hw hb hv =
    let o : suc n - 1 ≡ n = omega arith in
    let c : b ≡ e.from + n * width_of e.size = hb ∙ rw (o, hw) in
    let f : b + w ≡ e.from + suc n * width_of e.size = omega arith in
    rw (f, hv, c, hw)

-- ---- the array

one_each : (big : Bool) {u : Tree} (s : Slot u) (a : ℕ) (fx : Bool) (t : Editor) (b : List ℕ) → (maybe_editor big (some s) a fx t).count b ≡ 1
unfolding maybe_editor
one_each big s a fx t b = refl

module _ {kind : Letter} {a : ℕ} {d : ContainerDepths} {p : ℕ} {l : List ℕ} (w : ReadyEach kind a d p l) where
  pub each_laid : Laid (letter_extent kind)
  each_laid = subst (λ (k : Letter). Laid (letter_extent k)) (sym w.slotted.is) (letter_laid (slot_type w.slotted.slot))

  pub each_body : body_of l ≤ length l
  each_body = body_inside w.test (depths_of d) l w.ready.written

  module _ {all : Elements} (g : AllOf a l all) where
    -- of any editor of these readings
    module _ (big : Bool) {u : Tree} (s : Slot u) (fx : Bool) (t : Editor) where
      abbrev its_editor : Editor
      its_editor = maybe_editor big (some s) a fx t

      same_alignment : its_editor.shape.alignment ≡ a
      unfolding maybe_editor
      same_alignment = refl

      loose : its_editor.shape.fixed ≡ false
      unfolding maybe_editor
      loose = refl

      past_each : (i n left : ℕ) → i ≡ n + left → n ≤ all.count → (rest : Elements) → rest ≡ from_nth all n l → ElementsLeft w.test its_editor (depths_of d) l all rest i left
      past_each i n left h m rest q =
          subst (λ (r : Elements). ElementsLeft w.test its_editor (depths_of d) l all r i left) (sym q)
          (nth_left (one_each big s a fx t)
          (elements_begin w.test its_editor (depths_of d) l a all i g w.aligned w.tested (omega (arith, w.ready.near)) w.ready.written) n left h m)

      pub each_counted : (i : ℕ) (x : MaybeNumber) (m : ℕ) (out out' : List ℕ) (r : Walked) → all.count ≤ i → r ≡ counted_as all.count → out' ≡ out
          → Walks (elements_editor its_editor) (depths_of d) p l i x m out out' r
      each_counted i x m out out' r h k o =
          let j : all.count ≡ i - (i - all.count) = omega arith in
          elements_counted g same_alignment loose (past_each i all.count (i - all.count) (omega arith) (omega arith) (from_nth all all.count l) refl) p x m out out' r
          (omega (arith, nth_count all all.count l)) (k ∙ ap counted_as j) o

      module _ {i : ℕ} (h : i < all.count) {rest : Elements} (q : rest ≡ from_nth all i l) where
        past_here : ElementsLeft w.test its_editor (depths_of d) l all rest i 0
        past_here = past_each i i 0 (omega arith) (omega arith) rest q

        some_left : 0 < rest.count
        some_left = omega (arith, ap (λ (z : Elements). z.count) q, nth_count all i l)

        module _ {c : element.Child} (f : FirstOf rest l c) where
          pub each_behind : Behind all rest c.end l
          each_behind = elements_behind past_here some_left f

          module _ (x : MaybeNumber) (out out₁ out₂ : List ℕ) (v r : Walked)
              (k : Walks its_editor (depths_of d) (p + c.start) (take (c.end - c.start) (drop c.start l)) 0 x (most d) out out₁ v) where
            is_found : v.found ≡ true
            is_found = go v.found refl
              where
                go : (b : Bool) → v.found ≡ b → b ≡ true
                go true z = refl
                go false z = let n = k.past z in absurd (omega (arith, n.count_is, n.beyond, one_each big s a fx t (take (c.end - c.start) (drop c.start l))))

            pub each_fits : edits v ≡ true → Fits p c.start v
            each_fits y =
                element_fits g same_alignment loose past_here p x (most d + container_most) some_left f (most d) out out out₁ refl v k (omega (arith, f.order, f.inside, w.ready.near, most_small d)) y

            pub each_found : Closes p c.start (rest_now (front_of all (all.count - rest.count)) (behind_of rest c.end) l (end_now c.start v)) rest_most v out₁ out₂ r
                → Walks (elements_editor its_editor) (depths_of d) p l i x (most d + container_most) out out₂ r
            each_found y =
                elements_found g same_alignment loose past_here p x (most d + container_most) some_left f (most d) out out out₁ refl v k is_found out₂ r y
                (omega (arith, f.order, f.inside, w.ready.near))

    -- what the callees ask
    abbrev one_editor : Editor
    one_editor = still w.test.shape

    module _ {i : ℕ} (h : i < all.count) where
      pub each_whole : Standing all l
      each_whole = (past_here true w.slotted.slot true one_editor h {rest = from_nth all i l} refl).whole

      module _ {rest : Elements} (q : rest ≡ from_nth all i l) where
        pub each_stands : Standing rest l × (0 < rest.count)
        each_stands = ((past_here true w.slotted.slot true one_editor h q).stands, some_left true w.slotted.slot true one_editor h q)

        module _ {c : element.Child} (f : FirstOf rest l c) where
          pub each_near : p + c.start ≤ largest_frame
          each_near = omega (arith, f.order, f.inside, w.ready.near)

          pub each_closes : (aim : Aim) (out out' : List ℕ) (v : Walked) → Reads kind aim d (p + c.start) 0 out out' v → (edits v ≡ true → Fits p c.start v) × Behind all rest c.end l
          each_closes aim out out' v k = (
            each_fits aim.big w.slotted.slot true one_editor h q f (new_of aim.new) out out' out' v v
                (k.is w.slotted.tree w.slotted.slot w.slotted.is (take (c.end - c.start) (drop c.start l)) a true one_editor),
            each_behind aim.big w.slotted.slot true one_editor h q f,
          )

-- ---- an array's element that holds a number or a bool

pub record EachSlot (text : List ℕ) (i : Item) : Type 0 where
  pub slotted : Slotted i.number
  pub narrow : Bool
  pub under : Bool → ℕ → Editor
  pub editor_is : (big : Bool) (nested : ℕ) → item_editor big nested text i ≡ maybe_editor big (some slotted.slot) i.alignment narrow (under big nested)

module _ {sig tables : List ℕ} {at : ℕ} (i : Item) (p : Placed sig tables i.child) (el : ElementOf sig tables at i) (f : i.fixed ≡ false) (h : is_slot i.number ≡ true) where
  of_maybe : letter_at sig i.child.at ≡ Maybe → EachSlot sig i
  unfolding alignment
  of_maybe e =
      let c = shape_in sig tables (i.child.at + 1) in
      let k : i.number ≡ letter_at sig c.at = el.same_number ∙ ap (λ (x : Letter). held_number x (letter_at sig (i.child.at + 1))) e in
      let g = slot_there sig c.at i.number (held_placed p e c refl).shape.typed k h in
      let a : i.alignment ≡ alignment (tree_at sig c.at) = el.same_alignment ∙ ap alignment (sym el.value ∙ tree_is p e c refl) in
      record {
        slotted = record { tree = tree_at sig c.at; slot = g.slot; is = g.kind };
        narrow = fixed (tree_at sig c.at);
        under = λ big n. editor_of big (65 - n) (tree_at sig c.at);
        editor_is = λ big n.
            plain_editor n sig i big el.entry ∙ maybe_editor_lem p e c refl big (65 - n) (some g.slot) g.is
            ∙ ap (λ (j : ℕ). maybe_editor big (some g.slot) j (fixed (tree_at sig c.at)) (editor_of big (65 - n) (tree_at sig c.at))) (sym a);
      }

  element_slot : EachSlot sig i
  unfolding fixed
  element_slot = go (tree_at sig i.child.at) refl (shown sig i.child.at _ _ p.shape.typed.found)
    where
      unlike : {A : Type 0} (x : Letter) → letter_at sig i.child.at ≡ x → is_slot (held_number x (letter_at sig (i.child.at + 1))) ≡ false → A
      unlike x q z = absurd (false≢true (sym z ∙ ap (λ (y : Letter). is_slot (held_number y (letter_at sig (i.child.at + 1)))) (sym q) ∙ ap is_slot (sym el.same_number) ∙ h))

      wide : {A : Type 0} (t : Tree) → tree_at sig i.child.at ≡ t → fixed t ≡ true → A
      wide t q z = absurd (false≢true (sym f ∙ el.same_fixed ∙ ap fixed (sym el.value ∙ q) ∙ z))

      go : (t : Tree) → tree_at sig i.child.at ≡ t → Shown sig i.child.at t (behind_by (first_type (drop i.child.at sig))) → EachSlot sig i
      go (basic bool) q w = wide (basic bool) q refl
      go (basic (number c)) q w = wide (basic (number c)) q refl
      go (basic (text c)) q w = unlike (basic_kind (text c)) w.letter refl
      go variant q w = unlike Variant w.letter refl
      go (maybe t) q w = of_maybe w.letter
      go (array t) q w = unlike Array w.letter refl
      go (dictionary b t) q w = unlike Array w.letter refl
      go (structure ts) q w = unlike OpenStructure w.letter refl

pub each_slot : (text tables : List ℕ) (s : Shape) → Placed text tables s → letter_at text s.at ≡ Array → (i : Item) → i ≡ item_in text tables s → i.fixed ≡ false → is_slot i.number ≡ true → EachSlot text i
each_slot sig tables s p first i q f h = go i.entry refl
  where
    go : (b : Bool) → i.entry ≡ b → EachSlot sig i
    go true e = absurd (false≢true (ap is_slot (sym (found_entry sig tables s p first i q e).same_number) ∙ h))
    go false e = element_slot i (found_placed sig tables s p first i q) (found_element sig tables s p first i q e) f h

module _ {text tables : List ℕ} {at : ℕ} {i : Item} (g : ItemIs text tables at i) (k : EachSlot text i) (d : ContainerDepths) (p : ℕ) (l : List ℕ) where
  pub each_ready : Ready (elements_test (item_test d.variant text i)) d p l → ReadyEach i.number i.alignment d p l
  each_ready r = record { slotted = k.slotted; test = item_test d.variant text i; tested = g.test_aligned d.variant; aligned = g.aligns; ready = r }

  pub each_walks : (aim : Aim) (n : ℕ) (out out' : List ℕ) (r : Walked) → ReadsEach i.number i.alignment aim d p l n out out' r
      → Walks (elements_editor (item_editor aim.big d.variant text i)) (depths_of d) p l n (new_of aim.new) (most d + container_most) out out' r
  each_walks aim n out out' r w =
      subst (λ (e : Editor). Walks (elements_editor e) (depths_of d) p l n (new_of aim.new) (most d + container_most) out out' r) (sym (k.editor_is aim.big d.variant))
      (w.is k.slotted.tree k.slotted.slot k.slotted.is k.narrow (k.under aim.big d.variant))
