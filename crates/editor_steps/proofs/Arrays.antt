-- A law for each way out of the walk over an array's elements, and what the loop over them keeps. Assumes nothing.
use mathlib.Core.Path.{◌≡◌, refl, sym, ap, ◌∙◌, subst}
use mathlib.Core.List.{List, [], ◌∷◌, ◌++◌, append_assoc}
use mathlib.Core.Bool.{Bool, true, false, ◌&&◌}
use Prim.Native.Nat.{ℕ, zero, suc, ◌+◌, ◌-◌, ◌*◌, ◌/◌, ◌≤◌, ◌<◌}
use native.Mathlib.Omega.{arith}
use lib.Dec.{eqb}
use lib.ListN.{length, take, drop, length-append, length-replicate}
use borrow.Author.Tests.{eqb-true}
use Rattle.meaning.specs.Limits.{largest_frame}
use Rattle.meaning.specs.Numbers.{value}
use Rattle.meaning.specs.Offsets.{encoded_width, written_width}
use Rattle.meaning.specs.Padding.{Aligns, padding, zeros}
use Rattle.meaning.specs.Depths.{Depths, depth_refusal}
use Rattle.meaning.specs.Written.{Piece, layout, array_bytes}
use Rattle.meaning.proofs.Tests.{both_true}
use Rattle.meaning_writing.specs.Shapes.{part}
use Rattle.meaning_writing.specs.Strict.{Test, child_written, element_end, elements_written, table_written, array_written}
use Rattle.meaning_writing.specs.Readings.{MaybeNumber}
use Rattle.meaning_writing.specs.Edited.{Editor, found_piece, elements_from, elements_before, elements_of, count_in, spot_in, pieces_of, edited_in, alike, container_editor}
use Rattle.meaning_writing.proofs.Parts.{length_part}
use Rattle.meaning_writing.proofs.StrictLaws.{child_sound}
use Rattle.meaning_writing.proofs.EditedSteps.{end_of, up_to_end}
use Rattle.container_depths.specs.Opening.{depths_of}
use Rattle.container_depths.specs.declared.ContainerDepths.{ContainerDepths}
use Rattle.framing_offset_size.specs.Widths.{width_of}
use Rattle.editor_basic.specs.Elements as its
use Rattle.editor_basic.specs.Elements.{elements_in, behind_of, Standing, FirstOf, rest_now}
use Rattle.editor_basic.specs.declared.elements.Elements.{Elements}
use Rattle.editor_basic.specs.declared.elements.Child as element
use Rattle.editor_basic.proofs.ElementLaws.{elements_none, first_piece, elements_first, stop_is, first_length}
use Rattle.editor_basic.proofs.WrittenLaws.{elements_stand}
use Rattle.editor_basic.proofs.PassedLaws.{end_of_more}
use Rattle.editor_basic.proofs.FoundLaws.{array_now}
use Rattle.editor_basic.specs.Puts.{rest_most}
use Rattle.editor_steps.specs.Walked.{Walked, counted_as}
use Rattle.editor_steps.specs.Walks.{Walks, Ready, elements_editor}
use Rattle.editor_steps.specs.Starts.{body_of, AllOf}
use Rattle.editor_steps.specs.Closing.{edits, Fits, end_now, front_of, Behind, Closes}
use Rattle.editor_steps.proofs.WalkLaws.{counts, fits_here, found_closed}
use Rattle.editor_steps.proofs.Children.{count_append, count_cons, count_none, among_count, among_edited, among_spot, child_of, alike_append, alike_cons, alike_none, alike_pieces}

-- ---- all elements, as the code finds them

same_from : (a a' : ℕ) (f f' : Bool) (l : List ℕ) (w w' n n' j j' k k' : ℕ) → a ≡ a' → f ≡ f' → w ≡ w' → n ≡ n' → j ≡ j' → k ≡ k' → elements_from a f l w n j k ≡ elements_from a' f' l w' n' j' k'
same_from a a' f f' l w w' n n' j j' k k' p q r s t u = rw (p, q, r, s, t, u)

pub all_pieces : (e : Editor) (a : ℕ) (l : List ℕ) (all : Elements) → AllOf a l all → e.shape.alignment ≡ a → e.shape.fixed ≡ false → elements_of e l ≡ elements_in all l
unfolding elements_before
all_pieces e a l all g ha hf =
    same_from _ _ _ _ l _ _ _ _ _ _ _ _ (ha ∙ sym g.alignment) hf (sym g.size) (sym g.count) (sym g.from) (sym g.place)

-- what the strict test says of the table
module _ (t : Test) (d : Depths) (l : List ℕ) (h : array_written false t l d ≡ true) where
  abbrev w : ℕ
  w = encoded_width (length l)

  abbrev many : ℕ
  many = (length l - body_of l) / w

  table_true : (eqb (body_of l + many * w) (length l) && (eqb (written_width (body_of l) many) w && elements_written false t d l w (body_of l) many (body_of l) 0)) ≡ true
  unfolding array_written table_written
  table_true = h

  table_fills : body_of l + many * w ≡ length l
  table_fills = eqb-true _ _ (both_true (eqb (body_of l + many * w) (length l)) _ table_true).0

  pub body_inside : body_of l ≤ length l
  body_inside = let q = table_fills in omega arith

  all_written : elements_written false t d l w (body_of l) many (body_of l) 0 ≡ true
  all_written = (both_true (eqb (written_width (body_of l) many) w) _ (both_true (eqb (body_of l + many * w) (length l)) _ table_true).1).1

-- ---- the loop over them: what is left of them, and of the reading's number

pub record ElementsLeft (t : Test) (e : Editor) (d : Depths) (l : List ℕ) (all rest : Elements) (i left : ℕ) : Type 0 where
  pub whole : Standing all l
  pub stands : Standing rest l
  pub tested : t.shape.alignment ≡ rest.alignment
  pub written : elements_written false t d l (width_of rest.size) all.from rest.count rest.from rest.place ≡ true
  pub front : List Piece
  pub is : elements_in all l ≡ front ++ elements_in rest l
  pub count : length front + rest.count ≡ all.count
  pub place : end_of 0 front ≡ rest.place
  pub passed : i ≡ count_in (alike e front) + left

no_end : end_of 0 [] ≡ 0
unfolding layout
no_end = omega arith

pub elements_begin : (t : Test) (e : Editor) (d : Depths) (l : List ℕ) (a : ℕ) (all : Elements) (i : ℕ) → AllOf a l all → Aligns a → t.shape.alignment ≡ a → length l ≤ largest_frame → array_written false t l d ≡ true
    → ElementsLeft t e d l all all i i
elements_begin t e d l a all i g al ha short h =
    let m : t.shape.alignment ≡ all.alignment = ha ∙ sym g.alignment in
    let r : all.from + all.count * width_of all.size ≡ length l =
    ap (λ (j : ℕ). j + all.count * width_of all.size) g.from ∙ ap (λ (j : ℕ). body_of l + j * width_of all.size) g.count ∙ ap (λ (j : ℕ). body_of l + many t d l h * j) g.size ∙ table_fills t d l h in
    let v : elements_written false t d l (width_of all.size) all.from all.count all.from all.place ≡ true =
    written_as (sym g.size) (sym g.from) (sym g.count) (sym g.place) (all_written t d l h) in
    let s = elements_stand t d all l all.from (subst Aligns (sym ha) al) m short (omega arith) (omega (arith, g.place)) (omega arith) v in
    record { whole = s; stands = s; tested = m; written = v; front = []; is = refl; count = omega arith; place = no_end ∙ sym g.place; passed = (let n = ap count_in (alike_none e) ∙ count_none in omega arith) }
  where
    written_as : {w w' s s' m m' k k' : ℕ} → w ≡ w' → s ≡ s' → m ≡ m' → k ≡ k' → elements_written false t d l w s m s k ≡ true → elements_written false t d l w' s' m' s' k' ≡ true
    written_as {w} {w'} {s} {s'} {m} {m'} {k} {k'} p q r u v = rw (← p, ← q, ← r, ← u) v

-- a front of them by its number
prefix : (a : ℕ) (l : List ℕ) (w : ℕ) (xs ys : List Piece) (m j k : ℕ) → elements_from a false l w m j k ≡ xs ++ ys → elements_from a false l w (length xs) j k ≡ xs
unfolding elements_from
prefix a l w [] ys m j k h = refl
prefix a l w (x ∷ xs) ys zero j k h = absurd (let n = ap length h in omega arith)
prefix a l w (x ∷ xs) ys (suc m) j k h =
    ap (λ (z : List Piece). z ++ elements_from a false l w (length xs) (j + w) (value (part j (j + w) l))) (ap (take 1) h)
    ∙ ap (λ (z : List Piece). x ∷ z) (prefix a l w xs ys m (j + w) (value (part j (j + w) l)) (ap (drop 1) h))

module _ {t : Test} {e : Editor} {d : Depths} {l : List ℕ} {all rest : Elements} {i left : ℕ} (q : ElementsLeft t e d l all rest i left) where
  pub elements_less : left ≤ i
  elements_less = omega (arith, q.passed)

  abbrev children : List Piece
  children = elements_in all l

  -- all are passed
  pub elements_end : rest.count ≡ 0 → i - left ≡ count_in (alike e children)
  elements_end h =
      let a = ap (λ (z : List Piece). count_in (alike e z)) (q.is ∙ ap (λ (z : List Piece). q.front ++ z) (elements_none rest l h)) ∙ ap count_in (alike_append e q.front []) ∙ count_append (alike e q.front) (alike e []) in
      let b = ap count_in (alike_none e) ∙ count_none in
      omega (arith, q.passed)

  -- the first of those that are left
  module _ (h : 0 < rest.count) {c : element.Child} (f : FirstOf rest l c) where
    abbrev its_bytes : List ℕ
    its_bytes = part c.start c.end l

    abbrev behind : Elements
    behind = behind_of rest c.end

    first : elements_in rest l ≡ first_piece rest l c ∷ elements_in behind l
    first = elements_first rest l c f h

    split : (child_written t d l all.from rest.place c.end ≡ true)
        × (elements_written false t d l (width_of rest.size) all.from (rest.count - 1) (rest.from + width_of rest.size) c.end ≡ true)
    unfolding elements_written element_end
    split =
        let n : rest.count ≡ suc (rest.count - 1) = omega arith in
        let v : elements_written false t d l (width_of rest.size) all.from (suc (rest.count - 1)) rest.from rest.place ≡ true =
        subst (λ (m : ℕ). elements_written false t d l (width_of rest.size) all.from m rest.from rest.place ≡ true) n q.written in
        rw f.end (both_true (child_written t d l all.from rest.place (its.end_in rest l)) _ v)

    start_is : rest.place + padding rest.place t.shape.alignment ≡ c.start
    start_is = ap (λ (a : ℕ). rest.place + padding rest.place a) q.tested ∙ sym f.start

    pub element_accepted : t.accepts d its_bytes ≡ true
    element_accepted =
        let g = child_sound t d l all.from rest.place c.end (omega (arith, q.whole.room)) split.0 in
        ap (λ (j : ℕ). t.accepts d (part j c.end l)) (sym start_is) ∙ g.it

    pub elements_next : (n : ℕ) (r : Elements) → n ≡ e.count its_bytes → n ≤ left → r ≡ behind → ElementsLeft t e d l all r i (left - n)
    elements_next n r hn m hr = rw hr (record {
      whole = q.whole;
      stands = f.behind;
      tested = q.tested;
      written = split.1;
      front = q.front ++ (first_piece rest l c ∷ []);
      is = q.is ∙ ap (λ (z : List Piece). q.front ++ z) first ∙ sym (append_assoc q.front (first_piece rest l c ∷ []) (elements_in behind l));
      count = (let a = length-append q.front (first_piece rest l c ∷ []) in omega (arith, q.count));
      place =
          end_of_more 0 q.front (first_piece rest l c) ∙ stop_is (end_of 0 q.front) rest.alignment its_bytes
          ∙ (let a = ap (λ (j : ℕ). j + padding j rest.alignment) q.place in let b = first_length rest l c f in omega (arith, f.start, f.order));
      passed = (let a = ap count_in (alike_append e q.front (first_piece rest l c ∷ [])) ∙ count_append (alike e q.front) (alike e (first_piece rest l c ∷ [])) in
          let b = ap count_in (alike_cons e (first_piece rest l c) []) ∙ count_cons (child_of e (first_piece rest l c)) (alike e []) in
          let z = ap count_in (alike_none e) ∙ count_none in
          omega (arith, q.passed));
    })

    -- it has the reading
    pub elements_behind : Behind all rest c.end l
    elements_behind = record { whole = q.whole; behind = f.behind; some = h; fewer = omega (arith, q.count); near = (let g = f.behind.room in omega (arith, q.stands.short)) }

    module _ (m : left < e.count its_bytes) where
      cs_are : alike e children ≡ alike e q.front ++ (child_of e (first_piece rest l c) ∷ alike e (elements_in behind l))
      cs_are =
          ap (alike e) (q.is ∙ ap (λ (z : List Piece). q.front ++ z) first) ∙ alike_append e q.front (first_piece rest l c ∷ elements_in behind l)
          ∙ ap (λ (z : List _). alike e q.front ++ z) (alike_cons e (first_piece rest l c) (elements_in behind l))

      pub element_within : i < count_in (alike e children)
      element_within =
          let a = among_count (child_of e (first_piece rest l c)) (alike e (elements_in behind l)) left m (alike e q.front) in
          let b = ap count_in cs_are in
          omega (arith, q.passed)

      pub element_spot : (d' : Depths) (p : ℕ) → spot_in d' p 0 (alike e children) i ≡ e.spot d' (p + c.start) its_bytes left
      element_spot d' p =
          ap (λ (z : List _). spot_in d' p 0 z i) cs_are ∙ ap (λ (j : ℕ). spot_in d' p 0 (alike e q.front ++ (child_of e (first_piece rest l c) ∷ alike e (elements_in behind l))) j) q.passed
          ∙ among_spot (child_of e (first_piece rest l c)) (alike e (elements_in behind l)) left m d' p (alike e q.front) 0
          ∙ ap (λ (z : List Piece). e.spot d' (p + (end_of 0 z + padding (end_of 0 z) rest.alignment)) its_bytes left) (alike_pieces e q.front)
          ∙ ap (λ (j : ℕ). e.spot d' (p + (j + padding j rest.alignment)) its_bytes left) q.place ∙ ap (λ (j : ℕ). e.spot d' (p + j) its_bytes left) (sym f.start)

      abbrev front_elements : Elements
      front_elements = front_of all (all.count - rest.count)

      front_pieces : elements_in front_elements l ≡ q.front
      front_pieces =
          let n : all.count - rest.count ≡ length q.front = omega (arith, q.count) in
          ap (λ (j : ℕ). elements_from all.alignment false l (width_of all.size) j all.from all.place) n
          ∙ prefix all.alignment l (width_of all.size) q.front (elements_in rest l) all.count all.from all.place q.is

      module _ (x : MaybeNumber) where
        abbrev changed : List ℕ
        changed = e.edited its_bytes left x

        abbrev piece : Piece
        piece = found_piece rest.alignment false changed

        edited_pieces : edited_in (alike e children) i x ≡ elements_in front_elements l ++ (piece ∷ elements_in behind l)
        edited_pieces =
            ap (λ (z : List _). edited_in z i x) cs_are ∙ ap (λ (j : ℕ). edited_in (alike e q.front ++ (child_of e (first_piece rest l c) ∷ alike e (elements_in behind l))) j x) q.passed
            ∙ among_edited (child_of e (first_piece rest l c)) (alike e (elements_in behind l)) left m x (alike e q.front)
            ∙ ap (λ (z : List Piece). z ++ (piece ∷ pieces_of (alike e (elements_in behind l)))) (alike_pieces e q.front ∙ sym front_pieces)
            ∙ ap (λ (z : List Piece). elements_in front_elements l ++ (piece ∷ z)) (alike_pieces e (elements_in behind l))

        -- what stands in front of it
        pub ahead : List ℕ
        ahead = layout 0 (elements_in front_elements l) ++ zeros (padding (end_of 0 (elements_in front_elements l)) rest.alignment)

        end_is : end_of 0 (elements_in front_elements l) ≡ rest.place
        end_is = ap (λ (z : List Piece). end_of 0 z) front_pieces ∙ q.place

        start_at : end_of 0 (elements_in front_elements l) + padding (end_of 0 (elements_in front_elements l)) rest.alignment ≡ c.start
        start_at = ap (λ (j : ℕ). j + padding j rest.alignment) end_is ∙ sym f.start

        pub ahead_length : length ahead ≡ c.start
        unfolding ahead
        ahead_length =
            let a = length-append (layout 0 (elements_in front_elements l)) (zeros (padding (end_of 0 (elements_in front_elements l)) rest.alignment)) in
            let b = length-replicate {A = ℕ} (padding (end_of 0 (elements_in front_elements l)) rest.alignment) 0 in
            omega (arith, start_at)

        pub element_edited : array_bytes false (edited_in (alike e children) i x) ≡ (ahead ++ changed) ++ rest_now front_elements behind l (c.start + length changed)
        unfolding ahead
        element_edited =
            ap (array_bytes false) edited_pieces ∙ (array_now front_elements behind l piece).0
            ∙ ap (λ (z : List ℕ). z ++ rest_now front_elements behind l (up_to_end (elements_in front_elements l) piece (elements_in behind l)))
            (sym (append_assoc (layout 0 (elements_in front_elements l)) (zeros (padding (end_of 0 (elements_in front_elements l)) rest.alignment)) changed))
            ∙ ap (λ (j : ℕ). (ahead ++ changed) ++ rest_now front_elements behind l j)
            (stop_is (end_of 0 (elements_in front_elements l)) rest.alignment changed ∙ ap (λ (j : ℕ). j + length changed) start_at)

-- ---- the ways out

module _ {t : Test} {e : Editor} {d : Depths} {l : List ℕ} {a : ℕ} {all rest : Elements} {i left : ℕ} (g : AllOf a l all) (ha : e.shape.alignment ≡ a) (hf : e.shape.fixed ≡ false)
    (q : ElementsLeft t e d l all rest i left) (p : ℕ) (x : MaybeNumber) (m : ℕ) where
  pieces_are : elements_of e l ≡ elements_in all l
  pieces_are = all_pieces e a l all g ha hf

  pub elements_counted : (out out' : List ℕ) (r : Walked) → rest.count ≤ 0 → r ≡ counted_as (i - left) → out' ≡ out → Walks (elements_editor e) d p l i x m out out' r
  unfolding container_editor
  elements_counted out out' r h k o =
      counts (elements_editor e) d p l i x m out out' (i - left) r k
      (elements_end q (omega arith) ∙ ap (λ (z : List Piece). count_in (alike e z)) (sym pieces_are)) (omega arith) o

  module _ (h : 0 < rest.count) {c : element.Child} (f : FirstOf rest l c) (m' : ℕ) (before out out₁ : List ℕ) (same : out ≡ before) (w : Walked)
      (walked : Walks e d (p + c.start) (take (c.end - c.start) (drop c.start l)) left x m' out out₁ w) where
    k : Walks e d (p + c.start) (part c.start c.end l) left x m' before out₁ w
    unfolding part
    k = subst (λ (o : List ℕ). Walks e d (p + c.start) (take (c.end - c.start) (drop c.start l)) left x m' o out₁ w) same walked

    pub element_fits : c.start + m' ≤ 250000000 → edits w ≡ true → Fits p c.start w
    element_fits n y = fits_here e d p c.start (part c.start c.end l) left x m' before out₁ w k n y

    pub element_beyond : w.found ≡ false → w.length ≤ left
    element_beyond z = (k.past z).beyond

    pub elements_turn : w.found ≡ false → (r : Elements) → r ≡ behind_of rest c.end → ElementsLeft t e d l all r i (left - w.length) × (out₁ ≡ before)
    elements_turn z r hr = (elements_next q h f w.length r (k.past z).count_is (k.past z).beyond hr, (k.past z).kept)

    pub elements_found : w.found ≡ true → (out₂ : List ℕ) (r : Walked)
        → Closes p c.start (rest_now (front_of all (all.count - rest.count)) (behind_of rest c.end) l (end_now c.start w)) rest_most w out₁ out₂ r → c.start + m' + rest_most ≤ m
        → Walks (elements_editor e) d p l i x m before out₂ r
    unfolding container_editor
    elements_found z out₂ r y small =
        let v = (k.here z).within in
        found_closed (elements_editor e) d p l i e d c.start (part c.start c.end l) left x m m' before out₁ out₂ w r (ahead q h f v x)
        (rest_now (front_of all (all.count - rest.count)) (behind_of rest c.end) l (end_now c.start w)) rest_most y k z
        (subst (λ (ps : List Piece). i < count_in (alike e ps)) (sym pieces_are) (element_within q h f v))
        (ap (λ (ps : List Piece). spot_in d p 0 (alike e ps) i) pieces_are ∙ element_spot q h f v d p)
        (λ n. ap (λ (ps : List Piece). array_bytes false (edited_in (alike e ps) i x)) pieces_are ∙ element_edited q h f v x
        ∙ ap (λ (j : ℕ). (ahead q h f v x ++ e.edited (part c.start c.end l) left x) ++ rest_now (front_of all (all.count - rest.count)) (behind_of rest c.end) l (c.start + j)) (sym n))
        (ahead_length q h f v x) small

-- what the walk over the first of them asks
pub element_ready : {t : Test} {e : Editor} (d : ContainerDepths) {l : List ℕ} {all rest : Elements} {i left : ℕ} → ElementsLeft t e (depths_of d) l all rest i left → 0 < rest.count → {c : element.Child}
    → FirstOf rest l c → (p : ℕ) → depth_refusal (depths_of d) ≡ 0 → p + length l ≤ largest_frame → Ready t d (p + c.start) (take (c.end - c.start) (drop c.start l))
unfolding part
element_ready d {l} q h {c} f p shallow near = record {
  shallow = shallow;
  near = (let n = length_part c.start c.end l f.inside in omega (arith, f.order, f.inside));
  written = element_accepted q h f;
}
