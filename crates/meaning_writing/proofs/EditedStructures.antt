-- The edit of the bytes is the change of the value: structures and dictionary entries. Assumes nothing.
use mathlib.Core.Path.{◌≡◌, refl, sym, ap, ◌∙◌, subst}
use mathlib.Core.List.{List, [], ◌∷◌, ◌++◌, append-nil}
use mathlib.Core.Bool.{Bool, true, false}
use Prim.Native.Nat.{ℕ, ◌+◌, ◌-◌, ◌*◌, ◌^◌, ◌≤◌, ◌<◌}
use native.Mathlib.Omega.{arith}
use lib.Dec.{T}
use lib.ListN.{length, length-append}
use Rattle.meaning.specs.Padding.{padding}
use Rattle.meaning.specs.Offsets.{encoded_width, written_width, back_table}
use Rattle.meaning.specs.Depths as Depth
use Rattle.meaning.specs.Depths.{Depths, opened}
use Rattle.meaning.specs.Written.{Piece, fits, stop, layout, field_ends, unless, structure_bytes, structure_piece, entry_piece}
use Rattle.meaning_writing.specs.Shapes.{all_shapes_fixed, offset_count, last_end, field_end, offsets_left, sizes_from, part, structure_shape}
use Rattle.meaning_writing.specs.Readings.{MaybeNumber, Readings, in_container, two_readings}
use Rattle.meaning_writing.specs.Edited.{Editor, fields_from, fields_of, each, container_editor, structure_editor, editor_shapes}
use Rattle.meaning.proofs.Tests.{both_left, both_right, impossible, both_true}
use Rattle.meaning.proofs.FitLaws.{all_fit, all_fit_lem, children_fit}
use Rattle.meaning.proofs.OffsetLaws.{Chosen, written_width_chosen}
use Rattle.meaning.proofs.LayoutLaws.{placed, length_layout, length_back_table, stop_placed, length_placed, layout_none}
use Rattle.meaning_writing.proofs.PieceLaws.{deeper_holds, chosen_width, chosen_below, stop_is, split}
use Rattle.meaning_writing.proofs.ShapeLaws.{ShapedRow, and_one, last_shaped, ends_two, next_shaped, structure_shaped, loose_shaped}
use Rattle.meaning_writing.proofs.StrictStructures.{BackTableAt, back_rest, back_value, back_eq, field_end_is}
use Rattle.meaning_writing.proofs.EditedLaws.{structure_likes, Does, Together, one_together, two_together, part_child, still_finds, container_finds}

-- the editors ts are those of fields that are written as ps says and have the readings r
pub record DoesRow {A : Type 0} (ts : List Editor) (ps : A → List Piece) (r : Readings A) : Type 0 where
  pub shaped : ShapedRow (editor_shapes ts) ps
  pub quiet : all_shapes_fixed (editor_shapes ts) ≡ true → (v : A) → r.list v ≡ []
  pub together : (d : Depths) (l : List ℕ) (b w : ℕ) → b < 256 ^ w → b ≤ 65536 → (v : A) (k o : ℕ) (x y : List ℕ) → T (all_fit (ps v) d) → l ≡ x ++ (layout k (ps v) ++ y) → length x ≡ k
      → k + length (layout k (ps v)) ≡ b → BackTableAt l w o (field_ends k (ps v)) → Together d (each ts (fields_from l b w ts k o)) v ps r

-- ---- one field, the last

last_end_lem : (fx : Bool) (x b e : ℕ) → (fx ≡ true → x ≡ e) → e ≡ b → last_end fx x b ≡ e
last_end_lem true x b e f h = f refl
last_end_lem false x b e f h = sym h

module _ {A : Type 0} (t : Editor) (p : A → Piece) (r : Readings A) (g : Does t p r) where
  last_together : (d : Depths) (l : List ℕ) (b w : ℕ) → b ≤ 65536 → (v : A) (k o : ℕ) (x y : List ℕ) → T (all_fit (p v ∷ []) d) → l ≡ x ++ (layout k (p v ∷ []) ++ y) → length x ≡ k
      → k + length (layout k (p v ∷ [])) ≡ b → Together d (each (t ∷ []) (fields_from l b w (t ∷ []) k o)) v (λ v. p v ∷ []) r
  unfolding fields_from each all_fit
  last_together d l b w hs v k o x y f hl hx hb =
      let c : Piece = p v in
      let m : length (layout (stop k c) []) ≡ 0 = ap length (layout_none (stop k c)) in
      let n = length_layout k c [] in
      let u : padding k c.alignment ≡ padding k t.shape.alignment = ap (λ (z : ℕ). padding k z) (g.shaped.alignment_is v) in
      let e : last_end t.shape.fixed (k + padding k t.shape.alignment + t.shape.size) b ≡ stop k c = last_end_lem t.shape.fixed _ b (stop k c) (λ q. omega (arith, g.shaped.size_is q v, stop_is k c)) (omega arith) in
      let z = split x y l k c [] hl in
      one_together t p r g d _ v
      (record {
        alignment_is = sym (g.shaped.alignment_is v);
        fixed_is = sym (g.shaped.fixed_is v);
        bytes_is = ap (λ (i : ℕ). part (k + padding k t.shape.alignment) i l) e ∙ part_child l k c x (layout (stop k c) [] ++ y) t.shape.alignment (g.shaped.alignment_is v) z.first hx;
      })
      (g.finds d v (both_left (fits c d) true f) (omega (arith, stop_is k c)))

  pub one_does : DoesRow (t ∷ []) (λ v. p v ∷ []) r
  unfolding offset_count sizes_from
  one_does = record {
    shaped = last_shaped t.shape p g.shaped;
    quiet = λ h v. g.quiet (and_one t.shape.fixed h) v;
    together = λ d l b w hw hs v k o x y f hl hx hb bk. last_together d l b w hs v k o x y f hl hx hb;
  }

-- ---- a field, and those behind it

module _ {A B : Type 0} (t : Editor) (p : A → Piece) (r : Readings A) (g : Does t p r) (u : Editor) (ts : List Editor) (ps : B → List Piece) (s : Readings B) (h : DoesRow (u ∷ ts) ps s) where
  abbrev both_pieces : A × B → List Piece
  both_pieces v = p v.0 ∷ ps v.1

  next_together : (d : Depths) (l : List ℕ) (b w : ℕ) → b < 256 ^ w → b ≤ 65536 → (v : A × B) (k o : ℕ) (x y : List ℕ) → T (all_fit (both_pieces v) d) → l ≡ x ++ (layout k (both_pieces v) ++ y) → length x ≡ k
      → k + length (layout k (both_pieces v)) ≡ b → BackTableAt l w o (field_ends k (both_pieces v)) → Together d (each (t ∷ u ∷ ts) (fields_from l b w (t ∷ u ∷ ts) k o)) v both_pieces (two_readings r p s)
  unfolding fields_from each all_fit
  next_together d l b w hw hs v k o x y f hl hx hb bk =
      let c : Piece = p v.0 in
      let cs : List Piece = ps v.1 in
      let n = length_layout k c cs in
      let m = stop_placed k c in
      let q = length_placed k c in
      let al : padding k c.alignment ≡ padding k t.shape.alignment = ap (λ (z : ℕ). padding k z) (g.shaped.alignment_is v.0) in
      let z = split x y l k c cs hl in
      let bk' : BackTableAt l w o (unless t.shape.fixed (stop k c) (field_ends (stop k c) cs)) = back_eq l w o _ _ (ends_two t.shape p g.shaped u.shape (editor_shapes ts) ps h.shaped v k) bk in
      let i : field_end t.shape.fixed l w o (k + padding k t.shape.alignment + t.shape.size) ≡ stop k c =
      field_end_is t.shape.fixed l w o _ (stop k c) (λ h. omega (arith, g.shaped.size_is h v.0, stop_is k c))
      (λ h. back_value l w o (stop k c) (field_ends (stop k c) cs) (subst (λ (fx : Bool). BackTableAt l w o (unless fx (stop k c) (field_ends (stop k c) cs))) h bk') (omega arith)) in
      rw i
      (two_together t p r g ps s d _ _ v.0 v.1
      (record { alignment_is = sym (g.shaped.alignment_is v.0); fixed_is = sym (g.shaped.fixed_is v.0); bytes_is = part_child l k c x (layout (stop k c) cs ++ y) t.shape.alignment (g.shaped.alignment_is v.0) z.first hx })
      (g.finds d v.0 (both_left (fits c d) (all_fit cs d) f) (omega arith))
      (h.together d l b w hw hs v.1 (stop k c) (offsets_left t.shape.fixed w o) (x ++ placed k c) y (both_right (fits c d) (all_fit cs d) f) z.rest (length-append x (placed k c) ∙ omega arith) (omega arith)
      (back_rest t.shape.fixed l w o (stop k c) (field_ends (stop k c) cs) bk')))

  pub two_does : DoesRow (t ∷ u ∷ ts) both_pieces (two_readings r p s)
  unfolding offset_count sizes_from
  two_does = record {
    shaped = next_shaped t.shape p g.shaped u.shape (editor_shapes ts) ps h.shaped;
    quiet = λ e v. ap (λ (z : List MaybeNumber). z ++ s.list v.1) (g.quiet (both_true t.shape.fixed (all_shapes_fixed (editor_shapes (u ∷ ts))) e).0 v.0) ∙ h.quiet (both_true t.shape.fixed (all_shapes_fixed (editor_shapes (u ∷ ts))) e).1 v.1;
    together = next_together;
  }

-- ---- the whole

module _ {A : Type 0} (a : ℕ) (ts : List Editor) (ps : A → List Piece) (r : Readings A) (g : DoesRow ts ps r) where
  fields_together : (d : Depths) (v : A) → T (all_fit (ps v) d) → length (structure_bytes a false (ps v)) ≤ 65536 → Together d (each ts (fields_of ts (structure_bytes a false (ps v)))) v ps r
  unfolding structure_bytes
  fields_together d v f big =
      let s : ℕ = length (layout 0 (ps v)) in
      let es : List ℕ = field_ends 0 (ps v) in
      let w : ℕ = written_width s (length es) in
      let l : List ℕ = layout 0 (ps v) ++ back_table w es in
      let m : length es ≡ offset_count (editor_shapes ts) = g.shaped.offsets_are v 0 in
      let tl : length (back_table w es) ≡ length es * w = length_back_table w es in
      let len : length l ≡ s + length es * w = length-append (layout 0 (ps v)) (back_table w es) ∙ omega arith in
      let c : Chosen s (length es) w = written_width_chosen s (length es) (omega arith) in
      let e : encoded_width (length l) ≡ w = ap encoded_width len ∙ chosen_width c in
      let b : length l - length es * w ≡ s = omega arith in
      rw (← m, e, b)
      (g.together d l s w (chosen_below c) (omega arith) v 0 (length l) [] (back_table w es) f refl refl (omega arith)
      (record { front = layout 0 (ps v); back = []; is_here = ap (λ (i : List ℕ). layout 0 (ps v) ++ i) (sym (append-nil (back_table w es))); end_is = omega arith }))

  -- an entry, which opens nothing
  pub entry_does : (fx : Bool) → (fx ≡ true → all_shapes_fixed (editor_shapes ts) ≡ true) → Does (structure_editor (λ d. d) a fx ts) (λ v. entry_piece a fx (ps v)) (in_container a (λ d. d) r)
  unfolding structure_editor entry_piece
  entry_does true hf = record {
    shaped = record { alignment_is = λ v. refl; fixed_is = λ v. refl; size_is = λ h v. structure_shaped a (editor_shapes ts) ps g.shaped (hf refl) v };
    quiet = λ h v. g.quiet (hf refl) v;
    finds = λ d v f s. still_finds (structure_shape a true (editor_shapes ts)) _ _ d v (g.quiet (hf refl) v);
  }
  entry_does false hf = record {
    shaped = unfold container_editor in loose_shaped _ _ (λ v. refl) (λ v. refl);
    quiet = λ h v. impossible (unfold container_editor in h);
    finds = λ d v f s.
        container_finds a (λ d. d) (λ l. each ts (fields_of ts l)) (λ cs. structure_bytes a false cs) (structure_likes a) (λ v. entry_piece a false (ps v)) ps r (λ v. refl) d v
        (fields_together d v (all_fit_lem (ps v) d f) s);
  }

  pub structure_does : (fx : Bool) → (fx ≡ true → all_shapes_fixed (editor_shapes ts) ≡ true) → Does (structure_editor (λ d. opened Depth.structure d) a fx ts) (λ v. structure_piece a fx (ps v)) (in_container a (λ d. opened Depth.structure d) r)
  unfolding structure_editor structure_piece
  structure_does true hf = record {
    shaped = record { alignment_is = λ v. refl; fixed_is = λ v. refl; size_is = λ h v. structure_shaped a (editor_shapes ts) ps g.shaped (hf refl) v };
    quiet = λ h v. g.quiet (hf refl) v;
    finds = λ d v f s. still_finds (structure_shape a true (editor_shapes ts)) _ _ d v (g.quiet (hf refl) v);
  }
  structure_does false hf = record {
    shaped = unfold container_editor in loose_shaped _ _ (λ v. refl) (λ v. refl);
    quiet = λ h v. impossible (unfold container_editor in h);
    finds = λ d v f s.
        container_finds a (λ d. opened Depth.structure d) (λ l. each ts (fields_of ts l)) (λ cs. structure_bytes a false cs) (structure_likes a) (λ v. structure_piece a false (ps v)) ps r (λ v. refl) d v
        (fields_together (opened Depth.structure d) v (deeper_holds (opened Depth.structure d) (all_fit (ps v)) (children_fit (ps v) (opened Depth.structure d) f)) s);
  }
