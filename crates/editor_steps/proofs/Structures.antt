-- A law for each way out of the walk over a structure and its fields, and what the loop over them keeps. Assumes nothing.
use mathlib.Core.Path.{◌≡◌, refl, sym, ap, ◌∙◌, subst}
use mathlib.Core.List.{List, [], ◌∷◌, ◌++◌, append_assoc}
use mathlib.Core.Bool.{Bool, true, false, ◌&&◌}
use Prim.Native.Nat.{ℕ, ◌+◌, ◌-◌, ◌*◌, ◌≤◌, ◌<◌}
use native.Mathlib.Omega.{arith}
use lib.Dec.{leb, eqb}
use lib.ListN.{length, take, drop, length-append, length-replicate}
use lib.Seq.{take_at}
use borrow.Author.Tests.{leb-true}
use Rattle.meaning.specs.Limits.{largest_frame}
use Rattle.meaning.specs.Offsets.{encoded_width, written_width}
use Rattle.meaning.specs.Padding.{padding, zeros}
use Rattle.meaning.specs.Depths as Depth
use Rattle.meaning.specs.Depths.{Depths, depth_refusal, opened}
use Rattle.meaning.specs.Written.{Piece, layout, structure_bytes, deeper}
use Rattle.meaning.specs.Types.{Fields, last, next, largest_alignment, fixed, all_fixed}
use Rattle.meaning.proofs.Tests.{both_true}
use Rattle.meaning.proofs.PaddingLaws.{aligns_positive}
use Rattle.meaning_writing.specs.Shapes.{part, fixed_end, one_more, offset_count, field_end, offsets_left}
use Rattle.meaning_writing.specs.Strict.{Test, test_shapes, fields_finished, fields_written, offsets_written, structure_written, structure_test, entry_test, test_of, tests_of}
use Rattle.meaning_writing.specs.Readings.{MaybeNumber}
use Rattle.meaning_writing.specs.Edited.{Editor, editor_shapes, Child, found_piece, fields_from, fields_of, count_in, spot_in, pieces_of, edited_in, each, container_editor, structure_editor, editor_of, editors_of}
use Rattle.meaning_writing.proofs.Parts.{length_part}
use Rattle.meaning_writing.proofs.StrictSteps.{test_structure}
use Rattle.meaning_writing.proofs.EditedSteps.{editor_structure, editors_last, editors_next, end_of, up_to, up_to_end}
use Rattle.container_depths.specs.Opening.{depths_of, Raises}
use Rattle.container_depths.specs.declared.ContainerDepths.{ContainerDepths}
use Rattle.container_depths.specs.Opening.{Raised}
use Rattle.signature.specs.Places.{letter_at}
use Rattle.signature.specs.Shapes.{shape_in}
use Rattle.signature.specs.Trees.{tree_at, fields_at}
use Rattle.signature.specs.declared.Letter.TheVariants.{OpenStructure}
use Rattle.signature.specs.declared.shapes.Shape.{Shape}
use Rattle.signature.proofs.TreeLaws.{described_fixed, structure_rowed, structure_tree, structure_fixed}
use Rattle.strict_sizes.specs.Sizes.{offsets_in, offsets_by}
use Rattle.strict_sizes.specs.Items.{Placed, tree_test}
use Rattle.strict_ends.proofs.EndLaws.{encoded_aligns}
use Rattle.strict_sizes.proofs.SizeLaws.{offsets_count}
use Rattle.strict_sizes.proofs.TableLaws.{placed_offsets, field_described}
use Rattle.editor_basic.specs.declared.fields.Row.{Row}
use Rattle.editor_basic.specs.declared.fields.Field.{Field}
use Rattle.editor_basic.specs.Rows.{field_piece, next_stop, row_pieces, fields_in, StandingRow, behind_field, found_field, FirstField}
use Rattle.editor_basic.proofs.ShapeLaws.{editor_fixed, pieces_are}
use Rattle.editor_basic.proofs.WrittenLaws.{row_stands, field_accepted, fields_accepted}
use Rattle.editor_basic.proofs.PassedLaws.{Passed, passed_begin, passed_next, passed_behind, last_rewritten, row_rewritten}
use Rattle.editor_basic.proofs.FoundLaws.{up_to_end_lem}
use Rattle.editor_basic.specs.Puts.{rest_most}
use Rattle.editor_steps.specs.Walked.{Walked, counted_as}
use Rattle.editor_steps.specs.Walks.{tree_editor, Walks, container_most, most, Ready, row_test, row_editor}
use Rattle.editor_steps.specs.Starts.{row_as, row_tests, row_editors, AllRow}
use Rattle.editor_steps.specs.Closing.{edits, Fits, end_now, FieldBehind, field_rest, Closes}
use Rattle.editor_steps.proofs.WalkLaws.{counts, walks_by, fits_here, found_closed}
use Rattle.editor_steps.proofs.ClosingLaws.{rest_last, rest_row}
use Rattle.editor_steps.proofs.Children.{child_of, Gone, gone_begin, gone_less, gone_end, gone_next, gone_within, gone_edited, gone_spot, pieces_append}
use Rattle.editor_steps.proofs.Values.{Deeper, deeper_true, deepens, fixed_none}

-- ---- fields with their editors

module _ (big : Bool) (n : ℕ) (l : List ℕ) (b w : ℕ) where
  each_pieces : (ts : Fields) (k e : ℕ) → pieces_of (each (editors_of big n ts) (row_pieces l b w ts k e)) ≡ row_pieces l b w ts k e
  unfolding row_pieces each pieces_of
  each_pieces (last t) k e = rw (editors_last big n t)
  each_pieces (next t ts) k e = rw (editors_next big n t ts) (ap (λ (ps : List Piece). field_piece t l k (next_stop t l w e k) ∷ ps) (each_pieces ts (next_stop t l w e k) (offsets_left (fixed t) w e)))

more_offsets : (big : Bool) (n : ℕ) (u : Editor) (ts : Fields) → offset_count (editor_shapes (u ∷ editors_of big n ts)) ≡ one_more u.shape.fixed (offset_count (editor_shapes (editors_of big n ts)))
unfolding offset_count
more_offsets big n u (last t) = rw (editors_last big n t)
more_offsets big n u (next t ts) = rw (editors_next big n t ts)

offsets_edited : (big : Bool) (n : ℕ) (ts : Fields) → offset_count (editor_shapes (editors_of big n ts)) ≡ offsets_in ts
unfolding offset_count offsets_in
offsets_edited big n (last t) = ap (λ (v : List Editor). offset_count (editor_shapes v)) (editors_last big n t)
offsets_edited big n (next t ts) =
    ap (λ (v : List Editor). offset_count (editor_shapes v)) (editors_next big n t ts) ∙ more_offsets big n (editor_of big n t) ts
    ∙ ap (λ (b : Bool). one_more b (offset_count (editor_shapes (editors_of big n ts)))) (editor_fixed big n t) ∙ ap (one_more (fixed t)) (offsets_edited big n ts)

-- ---- all fields, as the code finds them

module _ {text tables : List ℕ} {all : Row} {l : List ℕ} (g : AllRow text tables all l) (n : ℕ) (d : Depths) (h : structure_written false 1 (tests_of n (fields_at text all.at)) l d ≡ true) where
  abbrev wide : ℕ
  wide = encoded_width (length l)

  abbrev count : ℕ
  count = offsets_in (fields_at text all.at)

  abbrev body : ℕ
  body = length l - count * wide

  offsets_true : (leb (count * wide) (length l) && (eqb (written_width body count) wide && fields_written false 1 d l body wide (tests_of n (fields_at text all.at)) 0 (length l))) ≡ true
  unfolding structure_written offsets_written
  offsets_true =
      sym (ap (λ (m : ℕ). leb (m * wide) (length l) && (eqb (written_width (length l - m * wide) m) wide && fields_written false 1 d l (length l - m * wide) wide (tests_of n (fields_at text all.at)) 0 (length l)))
      (offsets_count n (fields_at text all.at))) ∙ h

  room : count * wide ≤ length l
  room = leb-true _ _ (both_true (leb (count * wide) (length l)) _ offsets_true).0

  fields_true : fields_written false 1 d l body wide (tests_of n (fields_at text all.at)) 0 (length l) ≡ true
  fields_true = (both_true (eqb (written_width body count) wide) _ (both_true (leb (count * wide) (length l)) _ offsets_true).1).1

  all_stands : length l ≤ largest_frame → StandingRow text tables (row_as all.at (length l) count) l
  all_stands short = row_stands false 1 d text tables l all.at body wide n g.rowed g.table short (encoded_aligns (length l)) (omega (arith, room)) fields_true

  all_passed : Passed text (row_as all.at (length l) count) (row_as all.at (length l) count) l
  all_passed = passed_begin text (row_as all.at (length l) count) l (aligns_positive (encoded_aligns (length l))) refl refl (omega (arith, room))

-- ---- the loop over them: what is left of them, and of the reading's number

abbrev children_of : Bool → ℕ → List ℕ → Row → List ℕ → List Child
children_of big n text r l = each (editors_of big n (fields_at text r.at)) (fields_in text r l)

pub record FieldsLeft (big : Bool) (n : ℕ) (d : Depths) (text tables l : List ℕ) (all row : Row) (i left : ℕ) : Type 0 where
  pub stands : StandingRow text tables row l
  pub written : fields_written false 1 d l row.body row.width (tests_of n (fields_at text row.at)) row.place row.end ≡ true
  pub passed : Passed text all row l
  pub gone : Gone (children_of big n text all l) i (children_of big n text row l) left

pub fields_begin : (big : Bool) (n : ℕ) (d : Depths) {text tables : List ℕ} {all : Row} {l : List ℕ} (i : ℕ) → AllRow text tables all l → length l ≤ largest_frame
    → structure_written false 1 (tests_of n (fields_at text all.at)) l d ≡ true → FieldsLeft big n d text tables l all all i i
fields_begin big n d {text} {tables} {all} {l} i g short h =
    subst (λ (r : Row). FieldsLeft big n d text tables l r r i i) (sym g.is) (record {
      stands = all_stands g n d h short;
      written = fields_true g n d h;
      passed = all_passed g n d h;
      gone = gone_begin (children_of big n text (row_as all.at (length l) (offsets_in (fields_at text all.at))) l) i;
    })

cancel : (xs ys zs : List Piece) → xs ++ zs ≡ ys ++ zs → xs ≡ ys
cancel xs ys zs h =
    let a = length-append xs zs in
    let b = length-append ys zs in
    let c = ap length h in
    let n : length ys ≡ length xs = omega arith in
    sym (take_at xs zs (length xs) refl) ∙ ap (take (length xs)) h ∙ take_at ys zs (length xs) n

module _ {big : Bool} {n : ℕ} {d : Depths} {text tables l : List ℕ} {all row : Row} {i left : ℕ} (q : FieldsLeft big n d text tables l all row i left) {f : Field} (g : FirstField text tables row l f) where
  abbrev bytes : List ℕ
  bytes = part f.start f.stop l

  abbrev its : Editor
  its = editor_of big n (tree_at text row.at)

  abbrev it : Child
  it = child_of its (found_field f l)

  pub field_ready : (test_of n (tree_at text row.at)).accepts d bytes ≡ true
  field_ready = (field_accepted false 1 d q.stands g n q.written).0

  pub fields_less : left ≤ i
  fields_less = gone_less q.gone

  -- the last of them
  module _ (e : f.last ≡ true) where
    alone : children_of big n text row l ≡ it ∷ []
    unfolding each
    alone =
        ap (λ (ts : Fields). each (editors_of big n ts) (fields_in text row l)) (g.final e).fields ∙ ap (λ (ps : List Piece). each (editors_of big n (last (tree_at text row.at))) ps) (g.alone e)
        ∙ ap (λ (ts : List Editor). each ts (found_field f l ∷ [])) (editors_last big n (tree_at text row.at))

    pub fields_end_lem : (m : ℕ) → m ≡ its.count bytes → m ≤ left → i - (left - m) ≡ count_in (children_of big n text all l)
    fields_end_lem m hm less = gone_end (gone_next q.gone it [] m alone hm less) refl

  -- others behind it
  module _ (e : f.last ≡ false) where
    abbrev others : List Child
    others = children_of big n text (behind_field row f) l

    more : children_of big n text row l ≡ it ∷ others
    unfolding each
    more =
        ap (λ (ts : Fields). each (editors_of big n ts) (fields_in text row l)) (g.rest e).fields
        ∙ ap (λ (ps : List Piece). each (editors_of big n (next (tree_at text row.at) (fields_at text f.next))) ps) (g.rest e).pieces
        ∙ ap (λ (ts : List Editor). each ts (found_field f l ∷ fields_in text (behind_field row f) l)) (editors_next big n (tree_at text row.at) (fields_at text f.next))

    pub fields_next : (m : ℕ) (r : Row) → m ≡ its.count bytes → m ≤ left → r ≡ behind_field row f → FieldsLeft big n d text tables l all r i (left - m)
    fields_next m r hm less hr = rw hr (record {
      stands = (g.rest e).stands;
      written = fields_accepted false 1 d q.stands g n q.written e;
      passed = passed_next q.passed q.stands g e;
      gone = gone_next q.gone it others m more hm less;
    })

  -- it has the reading
  module _ (v : left < its.count bytes) where
    loose : f.fixed ≡ false
    loose = go f.fixed refl
      where
        go : (b : Bool) → f.fixed ≡ b → f.fixed ≡ false
        go true e = absurd (let z = fixed_none big n (tree_at text row.at) bytes (sym g.same_fixed ∙ e) in omega arith)
        go false e = e

    pub fields_behind : FieldBehind text tables row f l
    fields_behind = record {
      short = q.stands.short;
      wide = q.stands.wide;
      end_inside = q.stands.end_inside;
      rest = λ e. (g.rest e).stands;
      room = λ e. (passed_behind q.passed q.stands g e loose).1;
      exact = λ e. (passed_next q.passed q.stands g e).exact;
    }

    abbrev front_pieces : List Piece
    front_pieces = q.passed.front

    -- by whether it is the last
    record Split : Type 0 where
      behind : List Child
      is : children_of big n text row l ≡ it ∷ behind
      rest : (a : ℕ) (x : MaybeNumber) → structure_bytes a false (front_pieces ++ (found_piece f.alignment f.fixed (its.edited bytes left x) ∷ pieces_of behind))
          ≡ up_to front_pieces (found_piece f.alignment f.fixed (its.edited bytes left x)) (pieces_of behind)
          ++ field_rest text row f l (up_to_end front_pieces (found_piece f.alignment f.fixed (its.edited bytes left x)) (pieces_of behind))

    no_pieces : pieces_of [] ≡ []
    unfolding pieces_of
    no_pieces = refl

    split : Split
    split = go f.last refl
      where
        go : (b : Bool) → f.last ≡ b → Split
        go true e = record {
          behind = [];
          is = alone e;
          rest = λ a x. rw (no_pieces, rest_last text row f l (up_to_end front_pieces (found_piece f.alignment f.fixed (its.edited bytes left x)) []) e)
              (last_rewritten q.passed (found_piece f.alignment f.fixed (its.edited bytes left x)) a).0;
        }
        go false e = record {
          behind = others e;
          is = more e;
          rest = λ a x. rw (
            each_pieces big n l row.body row.width (fields_at text f.next) f.stop f.left,
            rest_row text row f l (up_to_end front_pieces (found_piece f.alignment f.fixed (its.edited bytes left x)) (fields_in text (behind_field row f) l)) e,
          )
              (row_rewritten q.passed (found_piece f.alignment f.fixed (its.edited bytes left x)) a (behind_field row f) loose (passed_behind q.passed q.stands g e loose).0 refl).0;
        }

    xs_are : pieces_of q.gone.xs ≡ front_pieces
    xs_are =
        cancel (pieces_of q.gone.xs) front_pieces (fields_in text row l)
        (ap (λ (ps : List Piece). pieces_of q.gone.xs ++ ps) (sym (each_pieces big n l row.body row.width (fields_at text row.at) row.place row.end))
        ∙ sym (pieces_append q.gone.xs (children_of big n text row l)) ∙ ap pieces_of (sym q.gone.is)
        ∙ each_pieces big n l all.body all.width (fields_at text all.at) all.place all.end ∙ q.passed.is)

    start_at : end_of 0 front_pieces + padding (end_of 0 front_pieces) f.alignment ≡ f.start
    start_at =
        ap (λ (j : ℕ). j + padding j f.alignment) q.passed.place ∙ ap (λ (a : ℕ). row.place + padding row.place a) g.same_alignment ∙ sym g.start_is

    pub field_within : i < count_in (children_of big n text all l)
    field_within = gone_within q.gone it split.behind split.is v

    pub field_spot : (e : Depths) (p : ℕ) → spot_in e p 0 (children_of big n text all l) i ≡ its.spot e (p + f.start) bytes left
    field_spot e p =
        gone_spot q.gone it split.behind split.is v e p
        ∙ ap (λ (ps : List Piece). its.spot e (p + (end_of 0 ps + padding (end_of 0 ps) f.alignment)) bytes left) xs_are ∙ ap (λ (j : ℕ). its.spot e (p + j) bytes left) start_at

    -- what stands in front of it
    unfoldable pub ahead : List ℕ
    ahead = layout 0 front_pieces ++ zeros (padding (end_of 0 front_pieces) f.alignment)

    pub ahead_length : length ahead ≡ f.start
    unfolding ahead
    ahead_length =
        let a = length-append (layout 0 front_pieces) (zeros (padding (end_of 0 front_pieces) f.alignment)) in
        let b = length-replicate {A = ℕ} (padding (end_of 0 front_pieces) f.alignment) 0 in
        omega (arith, start_at)

    pub field_edited : (a : ℕ) (x : MaybeNumber) → structure_bytes a false (edited_in (children_of big n text all l) i x)
        ≡ (ahead ++ its.edited bytes left x) ++ field_rest text row f l (f.start + length (its.edited bytes left x))
    unfolding ahead
    field_edited a x =
        let c : Piece = found_piece f.alignment f.fixed (its.edited bytes left x) in
        let ys : List Piece = pieces_of split.behind in
        ap (structure_bytes a false) (gone_edited q.gone it split.behind split.is v x) ∙ ap (λ (ps : List Piece). structure_bytes a false (ps ++ (c ∷ ys))) xs_are
        ∙ split.rest a x
        ∙ ap (λ (z : List ℕ). z ++ field_rest text row f l (up_to_end front_pieces c ys)) (sym (append_assoc (layout 0 front_pieces) (zeros (padding (end_of 0 front_pieces) f.alignment)) c.bytes))
        ∙ ap (λ (e : ℕ). (ahead ++ c.bytes) ++ field_rest text row f l e) (up_to_end_lem front_pieces c ys ∙ ap (λ (e : ℕ). e + length c.bytes) start_at)

-- ---- the ways out of the loop

module _ (nested : ℕ) {d : Depths} {text tables l : List ℕ} {all row : Row} (big : Bool) {i left : ℕ} (k : AllRow text tables all l) (q : FieldsLeft big (65 - nested) d text tables l all row i left)
    {f : Field} (g : FirstField text tables row l f) (p : ℕ) (x : MaybeNumber) (m : ℕ) where
  abbrev editors : List Editor
  editors = row_editors big nested text all.at

  children_are : each editors (fields_of editors l) ≡ children_of big (65 - nested) text all l
  children_are =
      ap (each editors)
      (ap (λ (c : ℕ). fields_from l (length l - c * encoded_width (length l)) (encoded_width (length l)) editors 0 (length l)) (offsets_edited big (65 - nested) (fields_at text all.at))
      ∙ sym (pieces_are big (65 - nested) l (length l - offsets_in (fields_at text all.at) * encoded_width (length l)) (encoded_width (length l)) (fields_at text all.at) 0 (length l))
      ∙ ap (λ (r : Row). row_pieces l r.body r.width (fields_at text all.at) r.place r.end) (sym k.is))

  module _ (at : ℕ) (ha : at ≡ row.at) (m' : ℕ) (before out out₁ : List ℕ) (same : out ≡ before) (w : Walked)
      (walked : Walks (tree_editor big nested text at) d (p + f.start) (take (f.stop - f.start) (drop f.start l)) left x m' out out₁ w) where
    abbrev its_editor : Editor
    its_editor = editor_of big (65 - nested) (tree_at text row.at)

    j : Walks its_editor d (p + f.start) (part f.start f.stop l) left x m' before out₁ w
    unfolding part
    j =
        subst (λ (o : List ℕ). Walks its_editor d (p + f.start) (take (f.stop - f.start) (drop f.start l)) left x m' o out₁ w) same
        (subst (λ (a : ℕ). Walks (tree_editor big nested text a) d (p + f.start) (take (f.stop - f.start) (drop f.start l)) left x m' out out₁ w) ha walked)

    pub field_fits : f.start + m' ≤ 250000000 → edits w ≡ true → Fits p f.start w
    field_fits n y = fits_here its_editor d p f.start (part f.start f.stop l) left x m' before out₁ w j n y

    pub field_beyond : w.found ≡ false → w.length ≤ left
    field_beyond z = (j.past z).beyond

    pub field_behind : w.found ≡ true → FieldBehind text tables row f l
    field_behind z = fields_behind q g (j.here z).within

    pub fields_turn : w.found ≡ false → f.last ≡ false → (r : Row) → r ≡ behind_field row f → FieldsLeft big (65 - nested) d text tables l all r i (left - w.length) × (out₁ ≡ before)
    fields_turn z e r hr = (fields_next q g e w.length r (j.past z).count_is (j.past z).beyond hr, (j.past z).kept)

    pub fields_counted : w.found ≡ false → f.last ≡ true → (r : Walked) → r ≡ counted_as (i - (left - w.length)) → Walks (row_editor 1 editors) d p l i x m before out₁ r
    unfolding structure_editor container_editor
    fields_counted z e r h =
        counts (row_editor 1 editors) d p l i x m before out₁ (i - (left - w.length)) r h
        (fields_end_lem q g e w.length (j.past z).count_is (j.past z).beyond ∙ ap count_in (sym children_are)) (omega arith) (j.past z).kept

    pub fields_found : w.found ≡ true → (out₂ : List ℕ) (r : Walked) → Closes p f.start (field_rest text row f l (end_now f.start w)) rest_most w out₁ out₂ r → f.start + m' + rest_most ≤ m
        → Walks (row_editor 1 editors) d p l i x m before out₂ r
    unfolding structure_editor container_editor
    fields_found z out₂ r y small =
        let v = (j.here z).within in
        found_closed (row_editor 1 editors) d p l i its_editor d f.start (part f.start f.stop l) left x m m' before out₁ out₂ w r (ahead q g v)
        (field_rest text row f l (end_now f.start w)) rest_most y j z
        (subst (λ (cs : List Child). i < count_in cs) (sym children_are) (field_within q g v))
        (ap (λ (cs : List Child). spot_in d p 0 cs i) children_are ∙ field_spot q g v d p)
        (λ n. ap (λ (cs : List Child). structure_bytes 1 false (edited_in cs i x)) children_are ∙ field_edited q g v 1 x
        ∙ ap (λ (e : ℕ). (ahead q g v ++ its_editor.edited (part f.start f.stop l) left x) ++ field_rest text row f l (f.start + e)) (sym n))
        (ahead_length q g v) small

-- what the walk over the first of them asks
module _ (big : Bool) (d : ContainerDepths) {text tables l : List ℕ} {all row : Row} {i left : ℕ} (q : FieldsLeft big (65 - d.variant) (depths_of d) text tables l all row i left) {f : Field}
    (g : FirstField text tables row l f) (s : Shape) (hs : s ≡ shape_in text tables row.at) where
  pub field_at : s.at ≡ row.at
  field_at = ap (λ (z : Shape). z.at) hs

  pub field_placed : Placed text tables s
  field_placed = record { shape = field_described text tables row.at q.stands.rowed q.stands.table.shapes s hs; table = q.stands.table }

  pub field_asked : (p : ℕ) → depth_refusal (depths_of d) ≡ 0 → p + length l ≤ largest_frame → Ready (tree_test d.variant text s.at) d (p + f.start) (take (f.stop - f.start) (drop f.start l))
  unfolding part
  field_asked p shallow near = record {
    shallow = shallow;
    near = (let n = length_part f.start f.stop l g.inside in omega (arith, g.order, g.inside));
    written = ap (λ (a : ℕ). (tree_test d.variant text a).accepts (depths_of d) (part f.start f.stop l)) field_at ∙ field_ready q g;
  }

pub row_written : (a : ℕ) (ts : List Test) {d : ContainerDepths} {p : ℕ} {l : List ℕ} → Ready (row_test a ts) d p l → structure_written false a ts l (depths_of d) ≡ true
unfolding entry_test
row_written a ts r = r.written

-- ---- a structure

-- of one that is not fixed its alignment does not matter
any_alignment : (a : ℕ) (d : Depths) (l : List ℕ) (b w : ℕ) (ts : List Test) (k e : ℕ) → fields_written false a d l b w ts k e ≡ fields_written false 1 d l b w ts k e
unfolding fields_written fields_finished
any_alignment a d l b w [] k e = refl
any_alignment a d l b w (t ∷ []) k e = refl
any_alignment a d l b w (t ∷ u ∷ ts) k e = rw (any_alignment a d l b w (u ∷ ts) (field_end t.shape.fixed l w e (fixed_end k t.shape)) (offsets_left t.shape.fixed w e))

structure_any : (a : ℕ) (ts : List Test) (l : List ℕ) (d : Depths) → structure_written false a ts l d ≡ structure_written false 1 ts l d
unfolding structure_written offsets_written
structure_any a ts l d =
    let w = encoded_width (length l) in
    let n = offset_count (test_shapes ts) in
    ap (λ (b : Bool). leb (n * w) (length l) && (eqb (written_width (length l - n * w) n) w && b)) (any_alignment a d l (length l - n * w) w ts 0 (length l))

module _ {text tables : List ℕ} {s : Shape} (p : Placed text tables s) (e : letter_at text s.at ≡ OpenStructure) (d : ContainerDepths) where
  abbrev ts : Fields
  ts = fields_at text (s.at + 1)

  pub structure_none : (big : Bool) (l : List ℕ) → s.fixed ≡ true → 0 ≡ (tree_editor big d.variant text s.at).count l
  structure_none big l f = sym (fixed_none big (65 - d.variant) (tree_at text s.at) l (sym (described_fixed p.shape) ∙ f))

  module _ (f : s.fixed ≡ false) (r : Raised) (u : Raises (depths_of d) (opened Depth.structure (depths_of d)) r) (at : ℕ) (l : List ℕ) (w : Ready (tree_test d.variant text s.at) d at l) where
    all_loose : all_fixed ts ≡ false
    all_loose = sym (structure_fixed p.shape e) ∙ f

    opens : deeper (opened Depth.structure (depths_of d)) (structure_written false (largest_alignment ts) (tests_of (65 - d.variant) ts) l) ≡ true
    unfolding structure_test
    opens =
        sym (ap (λ (t : Test). t.accepts (depths_of d) l) (ap (test_of (65 - d.variant)) (structure_tree p.shape e) ∙ test_structure (65 - d.variant) ts)
        ∙ ap (λ (b : Bool). deeper (opened Depth.structure (depths_of d)) (structure_written b (largest_alignment ts) (tests_of (65 - d.variant) ts) l)) all_loose) ∙ w.written

    pub structure_deeper : Deeper Depth.structure d r
    structure_deeper = deepens Depth.structure d r u (deeper_true (opened Depth.structure (depths_of d)) (structure_written false (largest_alignment ts) (tests_of (65 - d.variant) ts) l) opens).0

    same_variant : r.depths.variant ≡ d.variant
    same_variant = ap (λ (y : Depths). y.variant) structure_deeper.to

    inner_written : structure_written false 1 (tests_of (65 - r.depths.variant) ts) l (depths_of r.depths) ≡ true
    inner_written =
        ap (λ (n : ℕ). structure_written false 1 (tests_of (65 - n) ts) l (depths_of r.depths)) same_variant ∙ sym (structure_any (largest_alignment ts) (tests_of (65 - d.variant) ts) l (depths_of r.depths))
        ∙ ap (λ (y : Depths). structure_written false (largest_alignment ts) (tests_of (65 - d.variant) ts) l y) structure_deeper.to
        ∙ (deeper_true (opened Depth.structure (depths_of d)) (structure_written false (largest_alignment ts) (tests_of (65 - d.variant) ts) l) opens).1

    module _ (n : ℕ) (hn : n ≡ offsets_by tables s) where
      count_is : n ≡ offsets_in ts
      count_is = hn ∙ sym (placed_offsets p e 0) ∙ offsets_count 0 ts

      abbrev fresh : Row
      fresh = row_as (s.at + 1) (length l) (offsets_in ts)

      fresh_all : AllRow text tables fresh l
      fresh_all = record { rowed = structure_rowed p.shape e; table = p.table; is = refl }

      pub row_room : n * encoded_width (length l) ≤ length l
      row_room = subst (λ (m : ℕ). m * encoded_width (length l) ≤ length l) (sym count_is) (room fresh_all (65 - r.depths.variant) (depths_of r.depths) inner_written)

      module _ (row : Row) (hr : row ≡ row_as (s.at + 1) (length l) n) where
        row_is : row ≡ fresh
        row_is = hr ∙ ap (λ (m : ℕ). row_as (s.at + 1) (length l) m) count_is

        pub all_row : AllRow text tables row l
        all_row = subst (λ (z : Row). AllRow text tables z l) (sym row_is) fresh_all

        row_at : row.at ≡ s.at + 1
        row_at = ap (λ (z : Row). z.at) hr

        pub fields_ready : Ready (row_test 1 (row_tests r.depths.variant text row.at)) r.depths at l
        unfolding entry_test
        fields_ready = record {
          shallow = structure_deeper.shallow;
          near = w.near;
          written = ap (λ (i : ℕ). structure_written false 1 (tests_of (65 - r.depths.variant) (fields_at text i)) l (depths_of r.depths)) row_at ∙ inner_written;
        }

        module _ (big : Bool) (i : ℕ) (x : MaybeNumber) (out out' : List ℕ) (v : Walked) where
          abbrev inner : Editor
          inner = row_editor 1 (row_editors big r.depths.variant text row.at)

          abbrev outer : Editor
          outer = structure_editor (λ y. opened Depth.structure y) (largest_alignment ts) false (row_editors big r.depths.variant text row.at)

          editor_is : tree_editor big d.variant text s.at ≡ outer
          editor_is =
              ap (editor_of big (65 - d.variant)) (structure_tree p.shape e) ∙ editor_structure big (65 - d.variant) ts
              ∙ ap (λ (b : Bool). structure_editor (λ y. opened Depth.structure y) (largest_alignment ts) b (editors_of big (65 - d.variant) ts)) all_loose
              ∙ ap (λ (m : ℕ). structure_editor (λ y. opened Depth.structure y) (largest_alignment ts) false (editors_of big (65 - m) ts)) (sym same_variant)
              ∙ ap (λ (j : ℕ). structure_editor (λ y. opened Depth.structure y) (largest_alignment ts) false (editors_of big (65 - r.depths.variant) (fields_at text j))) (sym row_at)

          same_count : inner.count l ≡ outer.count l
          unfolding structure_editor container_editor
          same_count = refl

          same_spot : inner.spot (depths_of r.depths) at l i ≡ outer.spot (depths_of d) at l i
          unfolding structure_editor container_editor
          same_spot = ap (λ (y : Depths). inner.spot y at l i) structure_deeper.to

          same_edited : inner.edited l i x ≡ outer.edited l i x
          unfolding structure_editor container_editor structure_bytes
          same_edited = refl

          pub structure_walks : Walks inner (depths_of r.depths) at l i x (most r.depths + container_most) out out' v → Walks (tree_editor big d.variant text s.at) (depths_of d) at l i x (most d) out out' v
          structure_walks k =
              subst (λ (z : Editor). Walks z (depths_of d) at l i x (most d) out out' v) (sym editor_is)
              (walks_by inner (depths_of r.depths) outer (depths_of d) at l i x (most r.depths + container_most) (most d) out out' v same_count same_spot same_edited (omega (arith, structure_deeper.falls)) k)
