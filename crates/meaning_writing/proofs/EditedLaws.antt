-- The edit of the bytes is the change of the value: what is found of children in the bytes, and arrays. Assumes nothing.
use mathlib.Core.Path.{◌≡◌, refl, sym, ap, ◌∙◌, subst}
use mathlib.Core.List.{List, [], ◌∷◌, ◌++◌, map, append_assoc}
use mathlib.Core.Bool.{Bool, true, false}
use Prim.Native.Nat.{ℕ, suc, ◌+◌, ◌-◌, ◌*◌, ◌/◌, ◌^◌, ◌≤◌, ◌<◌}
use native.Mathlib.Nat.{mul-div_cancel}
use native.Mathlib.Omega.{arith}
use lib.Dec.{T, ltb}
use lib.ListN.{length, length-append, length-replicate}
use borrow.Author.Tests.{ltb-true, ltb-false, lt-ltb}
use Rattle.meaning.specs.Choice.{pick}
use Rattle.meaning.specs.Numbers.{value}
use Rattle.meaning.specs.Padding.{padding, zeros}
use Rattle.meaning.specs.Offsets.{encoded_width, written_width, table, last_offset}
use Rattle.meaning.specs.Depths as Depth
use Rattle.meaning.specs.Depths.{Depths, opened}
use Rattle.meaning.specs.Written.{Piece, fits, stop, layout, ends, field_ends, unless, array_bytes, array_piece, structure_bytes}
use Rattle.meaning_writing.specs.Shapes.{part, Shape, shape_of}
use Rattle.meaning_writing.specs.Readings.{MaybeNumber, spells, Readings, in_container, spot_two, changed_two, two_readings, list_all, spot_all, changed_all, all_readings}
use Rattle.meaning_writing.specs.Edited.{Editor, still, found_piece, elements_from, elements_before, elements_of, Child, child_edited, count_in, spot_in, pieces_of, edited_in, alike, container_editor, array_editor}
use Rattle.meaning.proofs.Tests.{both_left, both_right, impossible}
use Rattle.meaning.proofs.OffsetLaws.{Chosen, written_width_chosen}
use Rattle.meaning.proofs.LayoutLaws.{placed, layout_cons, length_layout, length_table, length_ends, last_offset_table, stop_placed, length_placed}
use Rattle.meaning_writing.proofs.Parts.{part_mid}
use Rattle.meaning_writing.proofs.PieceLaws.{deeper_holds, chosen_width, chosen_below, stop_is, split}
use Rattle.meaning_writing.proofs.ShapeLaws.{Shaped, loose_shaped}
use Rattle.meaning_writing.proofs.StrictLaws.{TableAt, table_step, table_value, whole_table}
use Rattle.meaning.proofs.FitLaws.{all_fit, children_fit}

-- ---- pieces of the same bytes

pub record Like (c d : Piece) : Type 0 where
  pub alignment_is : c.alignment ≡ d.alignment
  pub fixed_is : c.fixed ≡ d.fixed
  pub bytes_is : c.bytes ≡ d.bytes

abbrev pub Likes : List Piece → List Piece → Type 0
Likes [] [] = Unit {0}
Likes [] (d ∷ ds) = ⊥
Likes (c ∷ cs) [] = ⊥
Likes (c ∷ cs) (d ∷ ds) = Like c d × Likes cs ds

pub stop_like : (k : ℕ) (c d : Piece) → Like c d → stop k c ≡ stop k d
stop_like k c d s =
    stop_is k c ∙ ap (λ (a : ℕ). k + padding k a + length c.bytes) s.alignment_is ∙ ap (λ (l : List ℕ). k + padding k d.alignment + length l) s.bytes_is ∙ sym (stop_is k d)

layout_likes : (cs ds : List Piece) (k : ℕ) → Likes cs ds → layout k cs ≡ layout k ds
layout_likes [] [] k s = refl
layout_likes [] (d ∷ ds) k s = absurd s
layout_likes (c ∷ cs) [] k s = absurd s
layout_likes (c ∷ cs) (d ∷ ds) k s =
    let a : zeros (padding k c.alignment) ≡ zeros (padding k d.alignment) = ap (λ (i : ℕ). zeros (padding k i)) s.0.alignment_is in
    let r : layout (stop k c) cs ≡ layout (stop k d) ds = ap (λ (i : ℕ). layout i cs) (stop_like k c d s.0) ∙ layout_likes cs ds (stop k d) s.1 in
    let b = s.0.bytes_is in
    layout_cons k c cs ∙ ap (λ (z : List ℕ). z ++ (c.bytes ++ layout (stop k c) cs)) a ∙ ap (λ (z : List ℕ). zeros (padding k d.alignment) ++ (z ++ layout (stop k c) cs)) b
    ∙ ap (λ (z : List ℕ). zeros (padding k d.alignment) ++ (d.bytes ++ z)) r ∙ sym (layout_cons k d ds)

ends_likes : (cs ds : List Piece) (k : ℕ) → Likes cs ds → ends k cs ≡ ends k ds
unfolding ends
ends_likes [] [] k s = refl
ends_likes [] (d ∷ ds) k s = absurd s
ends_likes (c ∷ cs) [] k s = absurd s
ends_likes (c ∷ cs) (d ∷ ds) k s =
    ap (λ (i : ℕ). i ∷ ends i cs) (stop_like k c d s.0) ∙ ap (λ (z : List ℕ). stop k d ∷ z) (ends_likes cs ds (stop k d) s.1)

length_likes : (cs ds : List Piece) → Likes cs ds → length cs ≡ length ds
length_likes [] [] s = refl
length_likes [] (d ∷ ds) s = absurd s
length_likes (c ∷ cs) [] s = absurd s
length_likes (c ∷ cs) (d ∷ ds) s = ap suc (length_likes cs ds s.1)

field_ends_likes : (cs ds : List Piece) (k : ℕ) → Likes cs ds → field_ends k cs ≡ field_ends k ds
unfolding field_ends
field_ends_likes [] [] k s = refl
field_ends_likes [] (d ∷ ds) k s = absurd s
field_ends_likes (c ∷ cs) [] k s = absurd s
field_ends_likes (c ∷ []) (d ∷ []) k s = refl
field_ends_likes (c ∷ []) (d ∷ h ∷ ds) k s = absurd s.1
field_ends_likes (c ∷ g ∷ cs) (d ∷ []) k s = absurd s.1
field_ends_likes (c ∷ g ∷ cs) (d ∷ h ∷ ds) k s =
    ap (λ (b : Bool). unless b (stop k c) (field_ends (stop k c) (g ∷ cs))) s.0.fixed_is
    ∙ ap (λ (i : ℕ). unless d.fixed i (field_ends i (g ∷ cs))) (stop_like k c d s.0)
    ∙ ap (λ (z : List ℕ). unless d.fixed (stop k d) z) (field_ends_likes (g ∷ cs) (h ∷ ds) (stop k d) s.1)

pub array_likes : (cs ds : List Piece) → Likes cs ds → array_bytes false cs ≡ array_bytes false ds
unfolding array_bytes
array_likes cs ds s = rw (layout_likes cs ds 0 s, ends_likes cs ds 0 s, length_likes cs ds s)

pub structure_likes : (a : ℕ) (cs ds : List Piece) → Likes cs ds → structure_bytes a false cs ≡ structure_bytes a false ds
unfolding structure_bytes
structure_likes a cs ds s = rw (layout_likes cs ds 0 s, field_ends_likes cs ds 0 s)

-- ---- one value, and several

-- what an editor finds in the bytes of a value that may be read where d is open
pub record Finds {A : Type 0} (t : Editor) (p : A → Piece) (r : Readings A) (d : Depths) (v : A) : Type 0 where
  pub count_is : t.count (p v).bytes ≡ length (r.list v)
  pub spot_is : (q k i : ℕ) → i < length (r.list v) → t.spot d (q + (k + padding k t.shape.alignment)) (p v).bytes i ≡ r.spot d q k v i
  pub edited_is : (q k i : ℕ) (x : MaybeNumber) → i < length (r.list v) → T (spells (r.spot d q k v i).type x) → t.edited (p v).bytes i x ≡ (p (r.changed v i x)).bytes

-- the editor t is that of the values that are written as p says and have the readings r
pub record Does {A : Type 0} (t : Editor) (p : A → Piece) (r : Readings A) : Type 0 where
  pub shaped : Shaped t.shape p
  pub quiet : t.shape.fixed ≡ true → (v : A) → r.list v ≡ []
  pub finds : (d : Depths) (v : A) → T (fits (p v) d) → length (p v).bytes ≤ 65536 → Finds t p r d v

-- children that were found in the bytes are those of a value
pub record Together {A : Type 0} (d : Depths) (cs : List Child) (v : A) (ps : A → List Piece) (r : Readings A) : Type 0 where
  pub likes : Likes (pieces_of cs) (ps v)
  pub count_is : count_in cs ≡ length (r.list v)
  pub spot_is : (q k i : ℕ) → i < length (r.list v) → spot_in d q k cs i ≡ r.spot d q k v i
  pub edited_is : (q k i : ℕ) (x : MaybeNumber) → i < length (r.list v) → T (spells (r.spot d q k v i).type x) → Likes (edited_in cs i x) (ps (r.changed v i x))

abbrev pub child_with : Editor → Piece → Child
child_with t c = record { editor = t; piece = c }

-- a child like a value's piece
module _ {A : Type 0} (t : Editor) (p : A → Piece) (r : Readings A) (g : Does t p r) (d : Depths) (c : Piece) (v : A) (s : Like c (p v)) (f : Finds t p r d v) where
  child_count_lem : t.count c.bytes ≡ length (r.list v)
  child_count_lem = ap (λ (z : List ℕ). t.count z) s.bytes_is ∙ f.count_is

  child_spot_lem : (q k i : ℕ) → i < length (r.list v) → t.spot d (q + (k + padding k c.alignment)) c.bytes i ≡ r.spot d q k v i
  child_spot_lem q k i h =
      ap (λ (a : ℕ). t.spot d (q + (k + padding k a)) c.bytes i) (s.alignment_is ∙ g.shaped.alignment_is v)
      ∙ ap (λ (l : List ℕ). t.spot d (q + (k + padding k t.shape.alignment)) l i) s.bytes_is ∙ f.spot_is q k i h

  child_edited_lem : (q k i : ℕ) (x : MaybeNumber) → i < length (r.list v) → T (spells (r.spot d q k v i).type x) → Like (child_edited (child_with t c) i x) (p (r.changed v i x))
  child_edited_lem q k i x h z = record {
    alignment_is = s.alignment_is ∙ g.shaped.alignment_is v ∙ sym (g.shaped.alignment_is (r.changed v i x));
    fixed_is = s.fixed_is ∙ g.shaped.fixed_is v ∙ sym (g.shaped.fixed_is (r.changed v i x));
    bytes_is = ap (λ (l : List ℕ). t.edited l i x) s.bytes_is ∙ f.edited_is q k i x h z;
  }

pub one_together : {A : Type 0} (t : Editor) (p : A → Piece) (r : Readings A) → Does t p r → (d : Depths) (c : Piece) (v : A) → Like c (p v) → Finds t p r d v → Together d (child_with t c ∷ []) v (λ v. p v ∷ []) r
unfolding pieces_of count_in spot_in edited_in
one_together t p r g d c v s f = record {
  likes = (s, tt);
  count_is = (let a = child_count_lem t p r g d c v s f in omega arith);
  spot_is = λ q k i h. let e : ltb i (t.count c.bytes) ≡ true = rw (child_count_lem t p r g d c v s f) (lt-ltb i (length (r.list v)) h) in rw e (child_spot_lem t p r g d c v s f q k i h);
  edited_is = λ q k i x h z. let e : ltb i (t.count c.bytes) ≡ true = rw (child_count_lem t p r g d c v s f) (lt-ltb i (length (r.list v)) h) in rw e (child_edited_lem t p r g d c v s f q k i x h z, tt);
}

module _ {A B : Type 0} (t : Editor) (p : A → Piece) (r : Readings A) (g : Does t p r) (ps : B → List Piece) (s : Readings B) (d : Depths) (c : Piece) (cs : List Child) (v : A) (u : B)
    (like : Like c (p v)) (f : Finds t p r d v) (h : Together d cs u ps s) where
  abbrev both_pieces : A × B → List Piece
  both_pieces w = p w.0 ∷ ps w.1

  two_spot : (q k i : ℕ) → i < length (r.list v ++ s.list u) → spot_in d q k (child_with t c ∷ cs) i ≡ spot_two r p s d q k (v, u) i
  unfolding spot_in spot_two
  two_spot q k i lt =
      let e = length-append (r.list v) (s.list u) in
      go (t.count c.bytes) (child_count_lem t p r g d c v like f) (stop k c) (stop_like k c (p v) like) (ltb i (length (r.list v))) refl (omega arith)
    where
      n : ℕ
      n = length (r.list v)

      go : (m : ℕ) → m ≡ n → (o : ℕ) → o ≡ stop k (p v) → (b : Bool) → ltb i n ≡ b → i < n + length (s.list u)
          → pick (ltb i m) (t.spot d (q + (k + padding k c.alignment)) c.bytes i) (spot_in d q o cs (i - m)) ≡ pick b (r.spot d q k v i) (s.spot d q (stop k (p v)) u (i - n))
      go m hm o ho true e lt = rw (hm, e) (child_spot_lem t p r g d c v like f q k i (ltb-true i n e))
      go m hm o ho false e lt = let le = ltb-false i n e in rw (hm, e, ho) (h.spot_is q (stop k (p v)) (i - n) (omega arith))

  two_edited : (q k i : ℕ) (x : MaybeNumber) → i < length (r.list v ++ s.list u) → T (spells (spot_two r p s d q k (v, u) i).type x) → Likes (edited_in (child_with t c ∷ cs) i x) (both_pieces (changed_two r p s (v, u) i x))
  unfolding edited_in spot_two changed_two
  two_edited q k i x lt z =
      let e = length-append (r.list v) (s.list u) in
      go (t.count c.bytes) (child_count_lem t p r g d c v like f) (ltb i (length (r.list v))) refl (omega arith) z
    where
      n : ℕ
      n = length (r.list v)

      go : (m : ℕ) → m ≡ n → (b : Bool) → ltb i n ≡ b → i < n + length (s.list u) → T (spells (pick b (r.spot d q k v i) (s.spot d q (stop k (p v)) u (i - n))).type x)
          → Likes (pick (ltb i m) (child_edited (child_with t c) i x ∷ pieces_of cs) (c ∷ edited_in cs (i - m) x)) (both_pieces (pick b (r.changed v i x, u) (v, s.changed u (i - n) x)))
      go m hm true e lt z = rw (hm, e) (child_edited_lem t p r g d c v like f q k i x (ltb-true i n e) z, h.likes)
      go m hm false e lt z = let le = ltb-false i n e in rw (hm, e) (like, h.edited_is q (stop k (p v)) (i - n) x (omega arith) z)

  pub two_together : Together d (child_with t c ∷ cs) (v, u) both_pieces (two_readings r p s)
  two_together = record {
    likes = unfold pieces_of in (like, h.likes);
    count_is = unfold count_in in (let a = child_count_lem t p r g d c v like f in let b = h.count_is in let e = length-append (r.list v) (s.list u) in omega arith);
    spot_is = two_spot;
    edited_is = two_edited;
  }

-- ---- arrays

module _ {A : Type 0} (p : A → Piece) (r : Readings A) where
  -- a list is its first and the others
  list_together : (d : Depths) (cs : List Child) (v : A) (vs : List A) → Together d cs (v, vs) (λ w. p w.0 ∷ map p w.1) (two_readings r p (all_readings r p)) → Together d cs (v ∷ vs) (map p) (all_readings r p)
  unfolding spot_two changed_two list_all spot_all changed_all
  list_together d cs v vs h = record {
    likes = h.likes;
    count_is = h.count_is;
    spot_is = h.spot_is;
    edited_is = λ q k i x lt z. subst (λ (ds : List Piece). Likes (edited_in cs i x) ds) (same i x (ltb i (length (r.list v)))) (h.edited_is q k i x lt z);
  }
    where
      same : (i : ℕ) (x : MaybeNumber) (b : Bool) → (let w : A × List A = pick b (r.changed v i x, vs) (v, changed_all r p vs (i - length (r.list v)) x) in p w.0 ∷ map p w.1)
          ≡ map p (pick b (r.changed v i x ∷ vs) (v ∷ changed_all r p vs (i - length (r.list v)) x))
      same i x true = refl
      same i x false = refl

  none_together : (d : Depths) → Together d [] [] (map p) (all_readings r p)
  unfolding pieces_of count_in list_all
  none_together d = record { likes = tt; count_is = refl; spot_is = λ q k i h. absurd (omega arith); edited_is = λ q k i x h z. absurd (omega arith) }

-- a child's bytes, found in their place
pub part_child : (l : List ℕ) (k : ℕ) (c : Piece) (x y : List ℕ) (a : ℕ) → c.alignment ≡ a → l ≡ x ++ (placed k c ++ y) → length x ≡ k → part (k + padding k a) (stop k c) l ≡ c.bytes
part_child l k c x y a ha hl hx =
    let hp : padding k c.alignment ≡ padding k a = ap (λ (i : ℕ). padding k i) ha in
    let f : l ≡ (x ++ zeros (padding k c.alignment)) ++ (c.bytes ++ y) = hl ∙ simp append_assoc in
    part_mid l (x ++ zeros (padding k c.alignment)) c.bytes y (k + padding k a) (stop k c) f (simp (length-append, length-replicate) (omega arith)) (omega (arith, stop_is k c))

module _ {A : Type 0} (t : Editor) (p : A → Piece) (r : Readings A) (g : Does t p r) (d : Depths) where
  elements_together : (l : List ℕ) (w s : ℕ) → s < 256 ^ w → s ≤ 65536 → (vs : List A) (j k : ℕ) (x y : List ℕ) → T (all_fit (map p vs) d) → l ≡ x ++ (layout k (map p vs) ++ y) → length x ≡ k
      → k + length (layout k (map p vs)) ≡ s → TableAt l w j (ends k (map p vs)) → Together d (alike t (elements_from t.shape.alignment t.shape.fixed l w (length (map p vs)) j k)) vs (map p) (all_readings r p)
  unfolding elements_from ends alike all_fit
  elements_together l w s hw hs [] j k x y f hl hx he ht = none_together p r d
  elements_together l w s hw hs (v ∷ vs) j k x y f hl hx he ht =
      let c : Piece = p v in
      let n = length_layout k c (map p vs) in
      let m = stop_placed k c in
      let b = length_placed k c in
      let o = split x y l k c (map p vs) hl in
      let i : value (part j (j + w) l) ≡ stop k c = table_value l w j (stop k c) (ends (stop k c) (map p vs)) ht (omega arith) in
      rw i
      (list_together p r d _ v vs
      (two_together t p r g (map p) (all_readings r p) d (found_piece t.shape.alignment t.shape.fixed (part (k + padding k t.shape.alignment) (stop k c) l)) _ v vs
      (record { alignment_is = sym (g.shaped.alignment_is v); fixed_is = sym (g.shaped.fixed_is v); bytes_is = part_child l k c x (layout (stop k c) (map p vs) ++ y) t.shape.alignment (g.shaped.alignment_is v) o.first hx })
      (g.finds d v (both_left (fits c d) (all_fit (map p vs) d) f) (omega arith))
      (elements_together l w s hw hs vs (j + w) (stop k c) (x ++ placed k c) y (both_right (fits c d) (all_fit (map p vs) d) f) o.rest (length-append x (placed k c) ∙ omega arith) (omega arith)
      (table_step l w j (stop k c) (ends (stop k c) (map p vs)) ht))))

  -- the elements of an array with a table
  array_together : (vs : List A) → T (all_fit (map p vs) d) → length (array_bytes false (map p vs)) ≤ 65536 → Together d (alike t (elements_of t (array_bytes false (map p vs)))) vs (map p) (all_readings r p)
  unfolding array_bytes elements_before
  array_together vs f big =
      let cs : List Piece = map p vs in
      let s : ℕ = length (layout 0 cs) in
      let w : ℕ = written_width s (length cs) in
      let l : List ℕ = layout 0 cs ++ table w (ends 0 cs) in
      let n : length l ≡ s + length cs * w = simp (length-append, length_table, length_ends) in
      let v : Chosen s (length cs) w = written_width_chosen s (length cs) (omega arith) in
      let e : encoded_width (length l) ≡ w = rw n (chosen_width v) in
      let o : last_offset w l ≡ s = last_offset_table w s cs refl (chosen_below v) in
      let m : (length l - s) / w ≡ length cs = (let q : length l - s ≡ length cs * w = omega arith in rw q (mul-div_cancel (length cs) v.positive)) in
      rw (e, o, m) (elements_together l w s (chosen_below v) (omega arith) vs s 0 [] (table w (ends 0 cs)) f refl refl (omega arith) (whole_table l w s (layout 0 cs) (ends 0 cs) refl refl))

  all_quiet : t.shape.fixed ≡ true → (vs : List A) → list_all r p vs ≡ []
  unfolding list_all
  all_quiet h [] = refl
  all_quiet h (v ∷ vs) = rw (g.quiet h v) (all_quiet h vs)

pub none_there : {B : Type 0} (l : List MaybeNumber) (i : ℕ) → l ≡ [] → i < length l → B
none_there l i h q = absurd (let z = ap length h in omega arith)

-- nothing is found where there is nothing
pub still_finds : {A : Type 0} (o : Shape) (p : A → Piece) (r : Readings A) (d : Depths) (v : A) → r.list v ≡ [] → Finds (still o) p r d v
still_finds o p r d v h = record {
  count_is = sym (ap length h);
  spot_is = λ q k i lt. none_there (r.list v) i h lt;
  edited_is = λ q k i x lt z. none_there (r.list v) i h lt;
}

-- a container, from its children
module _ {A : Type 0} (a : ℕ) (opens : Depths → Depths) (children_in : List ℕ → List Child) (written_by : List Piece → List ℕ) (likes : (cs ds : List Piece) → Likes cs ds → written_by cs ≡ written_by ds)
    (p : A → Piece) (ps : A → List Piece) (r : Readings A) (form : (v : A) → (p v).bytes ≡ written_by (ps v)) where
  pub container_finds : (d : Depths) (v : A) → Together (opens d) (children_in (p v).bytes) v ps r → Finds (container_editor a opens children_in written_by) p (in_container a opens r) d v
  unfolding container_editor
  container_finds d v h = record {
    count_is = h.count_is;
    spot_is = λ q k i lt. h.spot_is (q + (k + padding k a)) 0 i lt;
    edited_is = λ q k i x lt z. likes _ _ (h.edited_is (q + (k + padding k a)) 0 i x lt z) ∙ sym (form (r.changed v i x));
  }

module _ {A : Type 0} (t : Editor) (p : A → Piece) (r : Readings A) (g : Does t p r) where
  pub array_does : (kind a : ℕ) (fx : Bool) → t.shape.fixed ≡ fx → Does (array_editor a fx t) (λ vs. array_piece kind a fx (map p vs)) (in_container a (λ d. opened Depth.array d) (all_readings r p))
  unfolding array_editor array_piece
  array_does kind a true hf = record {
    shaped = loose_shaped _ _ (λ v. refl) (λ v. refl);
    quiet = λ h v. impossible h;
    finds = λ d vs f s. still_finds (shape_of a false 0) _ _ d vs (all_quiet t p r g d hf vs);
  }
  array_does kind a false hf = record {
    shaped = unfold container_editor in loose_shaped _ _ (λ v. refl) (λ v. refl);
    quiet = λ h v. impossible (unfold container_editor in h);
    finds = λ d vs f s.
        container_finds a (λ d. opened Depth.array d) (λ l. alike t (elements_of t l)) (λ cs. array_bytes false cs) array_likes (λ vs. array_piece kind a false (map p vs)) (map p) (all_readings r p) (λ v. refl) d vs
        (array_together t p r g (opened Depth.array d) vs (deeper_holds (opened Depth.array d) (all_fit (map p vs)) (children_fit (map p vs) (opened Depth.array d) f)) s);
  }
