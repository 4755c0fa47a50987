-- A law for each way out of what an array or a dictionary repeats, and what its callees ask. Assumes nothing.
use mathlib.Core.Path.{◌≡◌, refl, sym, ap, ◌∙◌, subst}
use mathlib.Core.List.{List, [], ◌∷◌, ◌++◌, append_assoc}
use mathlib.Core.Bool.{Bool, true, false, ◌&&◌}
use Prim.Native.Nat.{ℕ, ◌+◌, ◌-◌, ◌*◌, ◌≤◌, ◌<◌}
use native.Mathlib.Omega.{arith}
use lib.Dec.{leb, eqb}
use lib.ListN.{length, take, drop, length-append, length-replicate}
use borrow.Author.Tests.{leb-true}
use Rattle.meaning.specs.Offsets.{encoded_width, written_width}
use Rattle.meaning.specs.Padding.{Aligns, padding, zeros}
use Rattle.meaning.specs.Written.{Piece, stop, layout, structure_bytes}
use Rattle.meaning.proofs.Tests.{both_true}
use Rattle.meaning.proofs.PaddingLaws.{aligns_positive}
use Rattle.meaning_writing.specs.Shapes.{part, behind_padding, fixed_end, one_more, offset_count, last_end, field_end}
use Rattle.meaning_writing.specs.Strict.{Test, child_written, fields_written, offsets_written, structure_written, entry_test}
use Rattle.meaning_writing.specs.Readings.{MaybeNumber}
use Rattle.meaning_writing.specs.Edited.{Editor, Child, child_count, found_piece, fields_from, fields_of, count_in, spot_in, pieces_of, edited_in, each, container_editor, structure_editor}
use Rattle.meaning_writing.proofs.Parts.{length_part}
use Rattle.meaning_writing.proofs.StrictLaws.{ChildAt, child_sound}
use Rattle.meaning_writing.proofs.StrictSteps.{test_alignment, test_fixed}
use Rattle.meaning_writing.proofs.EditedSteps.{end_of, end_of_cons, ends_before, up_to_end}
use Rattle.container_depths.specs.Opening.{depths_of}
use Rattle.container_depths.specs.declared.ContainerDepths.{ContainerDepths}
use Rattle.signature.specs.Trees.{tree_at}
use Rattle.signature.specs.declared.items.Item.{Item}
use Rattle.signature.proofs.TreeLaws.{described_alignment, described_fixed}
use Rattle.strict_basic.specs.Basics.{letter_extent, letter_test}
use Rattle.strict_ends.specs.Ends.{shaped}
use Rattle.strict_sizes.specs.Items.{tree_test}
use Rattle.strict_ends.proofs.EndLaws.{encoded_aligns}
use Rattle.editor_basic.specs.Rows.{kept_ends, last_now}
use Rattle.editor_basic.proofs.ShapeLaws.{editor_alignment, editor_fixed}
use Rattle.editor_basic.proofs.PassedLaws.{last_now_lem, key_fixed_lem, key_loose}
use Rattle.editor_basic.proofs.FoundLaws.{up_to_end_lem}
use Rattle.editor_basic.specs.Puts.{last_most}
use Rattle.editor_steps.specs.Walked.{Walked}
use Rattle.editor_steps.specs.declared.starts.Entry.{Entry}
use Rattle.editor_steps.specs.Walks.{tree_editor, Walks, entry_most, most, Ready, letter_editor, entry_editors, item_editor, item_test, Repeats}
use Rattle.editor_steps.specs.Starts.{key_offsets, key_end, entry_as, KeyFits}
use Rattle.editor_steps.specs.Closing.{edits, Fits, end_now, Closes}
use Rattle.editor_steps.proofs.WalkLaws.{walks_by, fits_here, through_closed}
use Rattle.editor_steps.proofs.Children.{child_of, count_cons, count_none, Gone, gone_edited, gone_spot}
use Rattle.editor_steps.proofs.Values.{ready_as, most_small, fixed_none}
use Rattle.editor_steps.proofs.Items.{plain_test, entry_test_lem, plain_editor, entry_editor}

-- ---- an element

module _ {text tables : List ℕ} {i : Item} (g : Repeats text tables i) (d : ContainerDepths) (p : ℕ) (l : List ℕ) (w : Ready (item_test d.variant text i) d p l) where
  pub plain_ready : i.entry ≡ false → Ready (tree_test d.variant text i.child.at) d p l
  plain_ready h = ready_as (plain_test d.variant text i h) w

  pub plain_walks : (big : Bool) (j : ℕ) (x : MaybeNumber) (out out' : List ℕ) (r : Walked) → i.entry ≡ false → Walks (tree_editor big d.variant text i.child.at) (depths_of d) p l j x (most d) out out' r
      → Walks (item_editor big d.variant text i) (depths_of d) p l j x (most d + entry_most) out out' r
  plain_walks big j x out out' r h k =
      let q = plain_editor d.variant text i big h in
      walks_by (tree_editor big d.variant text i.child.at) (depths_of d) (item_editor big d.variant text i) (depths_of d) p l j x (most d) (most d + entry_most) out out' r
      (ap (λ (e : Editor). e.count l) (sym q)) (ap (λ (e : Editor). e.spot (depths_of d) p l j) (sym q)) (ap (λ (e : Editor). e.edited l j x) (sym q)) (omega arith) k

  -- ---- an entry

  module _ (h : i.entry ≡ true) where
    abbrev wide : ℕ
    wide = encoded_width (length l)

    abbrev body : ℕ
    body = length l - key_offsets i.key * wide

    abbrev key_end_lem : ℕ
    key_end_lem = key_end i.key l

    abbrev key_test : Test
    key_test = letter_test i.key

    abbrev value_test : Test
    value_test = tree_test d.variant text i.child.at

    structured : structure_written false i.alignment (key_test ∷ value_test ∷ []) l (depths_of d) ≡ true
    unfolding entry_test
    structured =
        sym (ap (λ (t : Test). t.accepts (depths_of d) l) (entry_test_lem d.variant text i h)
        ∙ ap (λ (b : Bool). structure_written b i.alignment (key_test ∷ value_test ∷ []) l (depths_of d)) g.loose) ∙ w.written

    offsets_true : (leb (key_offsets i.key * wide) (length l)
        && (eqb (written_width body (key_offsets i.key)) wide && fields_written false i.alignment (depths_of d) l body wide (key_test ∷ value_test ∷ []) 0 (length l))) ≡ true
    unfolding structure_written offsets_written offset_count letter_test
    offsets_true = structured

    room : key_offsets i.key * wide ≤ length l
    room = leb-true _ _ (both_true (leb (key_offsets i.key * wide) (length l)) _ offsets_true).0

    fields_true : fields_written false i.alignment (depths_of d) l body wide (key_test ∷ value_test ∷ []) 0 (length l) ≡ true
    fields_true = (both_true (eqb (written_width body (key_offsets i.key)) wide) _ (both_true (leb (key_offsets i.key * wide) (length l)) _ offsets_true).1).1

    abbrev value_end : ℕ
    value_end = last_end value_test.shape.fixed (fixed_end key_end_lem value_test.shape) body

    both : (child_written key_test (depths_of d) l body 0 key_end_lem ≡ true) × (child_written value_test (depths_of d) l body key_end_lem value_end ≡ true)
    unfolding fields_written letter_test
    both =
        let a = both_true (child_written key_test (depths_of d) l body 0 key_end_lem) _ fields_true in
        let b = both_true (child_written value_test (depths_of d) l body key_end_lem value_end) _ a.1 in
        (a.0, b.0)

    key_at : ChildAt key_test (depths_of d) l body 0 key_end_lem
    key_at = child_sound key_test (depths_of d) l body 0 key_end_lem (omega arith) both.0

    pub key_fits : KeyFits i.key l
    key_fits = record { short = omega (arith, w.near); room = room; inside = omega (arith, key_at.most) }

    -- a value that is fixed has no readings
    abbrev editors : Bool → List Editor
    editors big = entry_editors big d.variant text i

    module _ (big : Bool) where
      abbrev value_editor : Editor
      value_editor = tree_editor big d.variant text i.child.at

      abbrev key_piece : Piece
      key_piece = found_piece (letter_extent i.key).alignment (letter_extent i.key).fixed (part (behind_padding 0 (shaped (letter_extent i.key))) key_end_lem l)

      abbrev value_stop : ℕ
      value_stop = last_end value_editor.shape.fixed (fixed_end key_end_lem value_editor.shape) body

      abbrev value_piece : Piece
      value_piece = found_piece value_editor.shape.alignment value_editor.shape.fixed (part (behind_padding key_end_lem value_editor.shape) value_stop l)

      abbrev two : List Child
      two = child_of (letter_editor i.key) key_piece ∷ child_of value_editor value_piece ∷ []

      editor_is : item_editor big d.variant text i ≡ structure_editor (λ y. y) i.alignment false (editors big)
      editor_is = entry_editor d.variant text i big h ∙ ap (λ (b : Bool). structure_editor (λ y. y) i.alignment b (editors big)) g.loose

      children_are : each (editors big) (fields_of (editors big) l) ≡ two
      unfolding fields_from each offset_count
      children_are = refl

      value_count : count_in two ≡ value_editor.count value_piece.bytes
      value_count =
          let a = count_cons (child_of (letter_editor i.key) key_piece) (child_of value_editor value_piece ∷ []) in
          let b = count_cons (child_of value_editor value_piece) [] in
          let c = count_none in
          omega arith

      count_is : (structure_editor (λ y. y) i.alignment false (editors big)).count l ≡ value_editor.count value_piece.bytes
      unfolding structure_editor container_editor
      count_is = ap count_in children_are ∙ value_count

      pub entry_fixed_lem : i.child.fixed ≡ true → 0 ≡ (item_editor big d.variant text i).count l
      entry_fixed_lem f =
          sym (ap (λ (e : Editor). e.count l) editor_is ∙ count_is
          ∙ fixed_none big (65 - d.variant) (tree_at text i.child.at) value_piece.bytes (sym (described_fixed g.child.shape) ∙ f))

      -- the value has the reading
      abbrev past_key : (j : ℕ) → Gone two j (child_of value_editor value_piece ∷ []) j
      past_key j = record {
        xs = child_of (letter_editor i.key) key_piece ∷ [];
        is = refl;
        passed = (let a = count_cons (child_of (letter_editor i.key) key_piece) [] in let b = count_none in omega arith);
      }

      key_stop : stop 0 key_piece ≡ key_end_lem
      unfolding stop letter_test
      key_stop =
          let n = length_part (behind_padding 0 (shaped (letter_extent i.key))) key_end_lem l (omega (arith, key_at.most)) in
          omega (arith, key_at.least)

      xs_pieces : pieces_of (child_of (letter_editor i.key) key_piece ∷ []) ≡ key_piece ∷ []
      unfolding pieces_of
      xs_pieces = refl

      keys_end : end_of 0 (key_piece ∷ []) ≡ key_end_lem
      keys_end = end_of_cons 0 key_piece [] ∙ none (stop 0 key_piece) ∙ key_stop
        where
          none : (k : ℕ) → end_of k [] ≡ k
          none k = unfold layout in omega arith

      -- the key's end is what the offsets have, if it has one
      kept : ends_before 0 (key_piece ∷ []) ≡ kept_ends body wide l
      kept = go (letter_extent i.key).fixed refl
        where
          go : (b : Bool) → (letter_extent i.key).fixed ≡ b → ends_before 0 (key_piece ∷ []) ≡ kept_ends body wide l
          go true e =
              let z : length l ≡ body = (let q = ap (λ (b : Bool). one_more b 0 * wide) e in omega arith) in
              key_fixed_lem key_piece wide l (aligns_positive (encoded_aligns (length l))) e ∙ ap (λ (j : ℕ). kept_ends j wide l) z
          go false e =
              let q = ap (λ (b : Bool). one_more b 0 * wide) e in
              let z : length l - wide ≡ body = omega arith in
              key_loose key_piece wide l (aligns_positive (encoded_aligns (length l))) (omega (arith, room)) e
              (key_stop ∙ ap (λ (b : Bool). field_end b l wide (length l) (fixed_end 0 (shaped (letter_extent i.key)))) e ∙ (unfold field_end in refl))
              ∙ ap (λ (j : ℕ). kept_ends j wide l) z

    -- with a value that is not fixed
    module _ (f : i.child.fixed ≡ false) (v : Entry) (hv : v ≡ entry_as i.key i.child.alignment l) where
      value_loose : value_test.shape.fixed ≡ false
      value_loose = test_fixed (65 - d.variant) (tree_at text i.child.at) ∙ sym (described_fixed g.child.shape) ∙ f

      value_aligned : value_test.shape.alignment ≡ i.child.alignment
      value_aligned = test_alignment (65 - d.variant) (tree_at text i.child.at) ∙ sym (described_alignment g.child.shape)

      start_is : v.start ≡ key_end_lem + padding key_end_lem i.child.alignment
      start_is = ap (λ (y : Entry). y.start) hv

      body_is : v.body ≡ body
      body_is = ap (λ (y : Entry). y.body) hv

      width_is : v.width ≡ wide
      width_is = ap (λ (y : Entry). y.width) hv

      pub entry_wide : Aligns v.width
      entry_wide = subst Aligns (sym width_is) (encoded_aligns (length l))

      value_at : ChildAt value_test (depths_of d) l body key_end_lem body
      value_at =
          child_sound value_test (depths_of d) l body key_end_lem body (omega arith)
          (subst (λ (b : Bool). child_written value_test (depths_of d) l body key_end_lem (last_end b (fixed_end key_end_lem value_test.shape) body) ≡ true) value_loose both.1)

      start_of : key_end_lem + padding key_end_lem value_test.shape.alignment ≡ v.start
      start_of = ap (λ (a : ℕ). key_end_lem + padding key_end_lem a) value_aligned ∙ sym start_is

      pub entry_order : (v.start ≤ v.body) × (v.body ≤ length l)
      entry_order = (omega (arith, start_of, body_is, value_at.least), omega (arith, body_is))

      pub entry_ready : Ready value_test d (p + v.start) (take (v.body - v.start) (drop v.start l))
      unfolding part
      entry_ready = record {
        shallow = w.shallow;
        near = (let n = length_part v.start v.body l entry_order.1 in omega (arith, w.near, entry_order.0, entry_order.1));
        written = ap (λ (j : ℕ). value_test.accepts (depths_of d) (part v.start j l)) body_is ∙ ap (λ (j : ℕ). value_test.accepts (depths_of d) (part j body l)) (sym start_of) ∙ value_at.it;
      }

      module _ (big : Bool) (j : ℕ) (x : MaybeNumber) (out out₁ : List ℕ) (u : Walked)
          (k : Walks (tree_editor big d.variant text i.child.at) (depths_of d) (p + v.start) (take (v.body - v.start) (drop v.start l)) j x (most d) out out₁ u) where
        pub entry_fits : edits u ≡ true → Fits p v.start u
        entry_fits y =
            fits_here (tree_editor big d.variant text i.child.at) (depths_of d) p v.start (take (v.body - v.start) (drop v.start l)) j x (most d) out out₁ u k
            (omega (arith, most_small d, entry_order.0, entry_order.1, w.near)) y

        abbrev its : Editor
        its = tree_editor big d.variant text i.child.at

        its_loose : its.shape.fixed ≡ false
        its_loose = editor_fixed big (65 - d.variant) (tree_at text i.child.at) ∙ sym (described_fixed g.child.shape) ∙ f

        its_aligned : its.shape.alignment ≡ i.child.alignment
        its_aligned = editor_alignment big (65 - d.variant) (tree_at text i.child.at) ∙ sym (described_alignment g.child.shape)

        its_start : key_end_lem + padding key_end_lem its.shape.alignment ≡ v.start
        its_start = ap (λ (a : ℕ). key_end_lem + padding key_end_lem a) its_aligned ∙ sym start_is

        bytes_are : (value_piece big).bytes ≡ take (v.body - v.start) (drop v.start l)
        unfolding part
        bytes_are =
            ap (λ (b : Bool). part (key_end_lem + padding key_end_lem its.shape.alignment) (last_end b (fixed_end key_end_lem its.shape) body) l) its_loose
            ∙ ap (λ (a : ℕ). part a body l) its_start ∙ ap (λ (a : ℕ). part v.start a l) (sym body_is)

        abbrev piece : Piece
        piece = found_piece its.shape.alignment its.shape.fixed (its.edited (value_piece big).bytes j x)

        abbrev front : List ℕ
        front = layout 0 (key_piece big ∷ []) ++ zeros (padding (end_of 0 (key_piece big ∷ [])) its.shape.alignment)

        front_start : end_of 0 (key_piece big ∷ []) + padding (end_of 0 (key_piece big ∷ [])) its.shape.alignment ≡ v.start
        front_start = ap (λ (a : ℕ). a + padding a its.shape.alignment) (keys_end big) ∙ its_start

        front_length : length front ≡ v.start
        front_length =
            let a = length-append (layout 0 (key_piece big ∷ [])) (zeros (padding (end_of 0 (key_piece big ∷ [])) its.shape.alignment)) in
            let b = length-replicate {A = ℕ} (padding (end_of 0 (key_piece big ∷ [])) its.shape.alignment) 0 in
            omega (arith, front_start)

        abbrev whole : Editor
        whole = structure_editor (λ y. y) i.alignment false (editors big)

        within_value : j < its.count (take (v.body - v.start) (drop v.start l)) → j < child_count (child_of its (value_piece big))
        within_value = subst (λ (z : List ℕ). j < its.count z) (sym bytes_are)

        spotted : j < its.count (take (v.body - v.start) (drop v.start l)) → whole.spot (depths_of d) p l j ≡ its.spot (depths_of d) (p + v.start) (take (v.body - v.start) (drop v.start l)) j
        unfolding structure_editor container_editor
        spotted n =
            ap (λ (cs : List Child). spot_in (depths_of d) p 0 cs j) (children_are big) ∙ gone_spot (past_key big j) (child_of its (value_piece big)) [] refl (within_value n) (depths_of d) p
            ∙ ap (λ (ps : List Piece). its.spot (depths_of d) (p + (end_of 0 ps + padding (end_of 0 ps) its.shape.alignment)) (value_piece big).bytes j) (xs_pieces big)
            ∙ ap (λ (a : ℕ). its.spot (depths_of d) (p + a) (value_piece big).bytes j) front_start
            ∙ ap (λ (z : List ℕ). its.spot (depths_of d) (p + v.start) z j) bytes_are

        changed : j < its.count (take (v.body - v.start) (drop v.start l)) → u.length ≡ length (its.edited (take (v.body - v.start) (drop v.start l)) j x)
            → whole.edited l j x ≡ (front ++ its.edited (take (v.body - v.start) (drop v.start l)) j x) ++ last_now v.body v.width l (end_now v.start u)
        unfolding structure_editor container_editor
        changed n m =
            let a : List Piece = key_piece big ∷ [] in
            let none : pieces_of [] ≡ [] = (unfold pieces_of in refl) in
            ap (λ (cs : List Child). structure_bytes i.alignment false (edited_in cs j x)) (children_are big)
            ∙ ap (structure_bytes i.alignment false) (gone_edited (past_key big j) (child_of its (value_piece big)) [] refl (within_value n) x)
            ∙ ap (λ (ps : List Piece). structure_bytes i.alignment false (ps ++ (piece ∷ pieces_of []))) (xs_pieces big)
            ∙ ap (λ (ps : List Piece). structure_bytes i.alignment false (a ++ (piece ∷ ps))) none
            ∙ (last_now_lem a piece i.alignment body wide l (kept big)).0
            ∙ ap (λ (z : List ℕ). z ++ last_now body wide l (up_to_end a piece [])) (sym (append_assoc (layout 0 a) (zeros (padding (end_of 0 a) its.shape.alignment)) piece.bytes))
            ∙ ap (λ (e : ℕ). (front ++ piece.bytes) ++ last_now body wide l e) (up_to_end_lem a piece [] ∙ ap (λ (e : ℕ). e + length piece.bytes) front_start)
            ∙ ap (λ (z : List ℕ). (front ++ its.edited z j x) ++ last_now body wide l (v.start + length (its.edited z j x))) bytes_are
            ∙ ap (λ (e : ℕ). (front ++ its.edited (take (v.body - v.start) (drop v.start l)) j x) ++ last_now body wide l (v.start + e)) (sym m)
            ∙ ap (λ (e : ℕ). (front ++ its.edited (take (v.body - v.start) (drop v.start l)) j x) ++ last_now e wide l (end_now v.start u)) (sym body_is)
            ∙ ap (λ (e : ℕ). (front ++ its.edited (take (v.body - v.start) (drop v.start l)) j x) ++ last_now v.body e l (end_now v.start u)) (sym width_is)

        pub entry_closed : (out₂ : List ℕ) (r : Walked) → Closes p v.start (last_now v.body v.width l (end_now v.start u)) last_most u out₁ out₂ r
            → Walks (item_editor big d.variant text i) (depths_of d) p l j x (most d + entry_most) out out₂ r
        entry_closed out₂ r y =
            subst (λ (e : Editor). Walks e (depths_of d) p l j x (most d + entry_most) out out₂ r) (sym (editor_is big))
            (through_closed whole (depths_of d) p l j its (depths_of d) v.start (take (v.body - v.start) (drop v.start l)) j x (most d + entry_most) (most d) out out₁ out₂ u r
            front (last_now v.body v.width l (end_now v.start u)) last_most y k refl
            (count_is big ∙ ap (λ (z : List ℕ). its.count z) bytes_are) spotted changed front_length (omega (arith, entry_order.0, entry_order.1, w.near)))
