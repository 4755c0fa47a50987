-- What the builders answer: a value that fits, whose events are the numbers in front of what is left; or one of the refusals that
-- events may have. Assumes nothing.
use mathlib.Core.Path.{◌≡◌, refl, ap, ◌∙◌}
use mathlib.Core.List.{List, [], ◌∷◌, map, append-nil}
use mathlib.Core.Option.{Option, none, some}
use mathlib.Core.Bool.{Bool, true, false, ◌&&◌, ◌||◌}
use Prim.Native.Nat.{ℕ, zero, suc, ◌+◌, ◌^◌, ◌≤◌}
use native.Mathlib.Omega.{arith}
use lib.Dec.{T, leb, ltb, eqb, leb→le, eqb→eq}
use lib.ListN.{length, take, drop, length-drop}
use lib.Seq.{length-take-le}
use borrow.Author.Tests.{eqb-true, eqb-false}
use Rattle.meaning.specs.Choice.{pick}
use Rattle.meaning.specs.Limits.{most_structures, most_arrays, most_containers}
use Rattle.meaning.specs.Refusals.{nul_in_text, not_utf8, variant_type_refused, structures_too_deep, arrays_too_deep, containers_too_deep, no_value}
use Rattle.meaning.specs.Padding.{padding}
use Rattle.meaning.specs.Texts.{no_nul, utf8, text_refusal}
use Rattle.meaning.specs.Depths as Depth
use Rattle.meaning.specs.Depths.{Depths, total, depth_refusal, opened}
use Rattle.meaning.specs.Types.{Basic, bool, number, text, Tree, Fields, basic, variant, maybe, array, dictionary, structure, last, next, number_width, alignment, largest_alignment, fixed, all_fixed, entry_alignment, entry_fixed}
use Rattle.meaning.specs.Letters.{bool_letter, number_letter, signature_letter, text_letter, is_text_letter, variant_letter, maybe_letter, nothing_letter, array_letter, dictionary_letter, structure_letter, container_end}
use Rattle.meaning.specs.TypeText.{type_text, type_of}
use Rattle.meaning.specs.Events.{event, text_event}
use Rattle.meaning.specs.Written.{Piece, fits, stop, events_from, bit, basic_piece, maybe_piece, array_bytes, array_piece, structure_bytes, structure_piece, entry_piece, variant_piece, piece_over, pieces_over, piece}
use Rattle.meaning_writing.specs.Writing.{Built, built, fault, Builder, mapped, followed, when, unrefused, when_shallow, on_event, on_plain, sealed, maybe_by, build_maybe, build_many, build_array, build_both, build_structure, variant_by, on_text, build_basic, build_variant, build_over, build_fields, build}
use Rattle.meaning_writing.specs.Shown.{ShowsOne, Shows, ended, more}
use Rattle.meaning.proofs.Tests.{both_left, both_right, both}
use Rattle.meaning_writing.proofs.ShownLaws.{number_plain, shows_one, shows_append}
use Rattle.meaning.proofs.TypeTextLaws.{type_of_sound}
use Rattle.meaning.proofs.FitLaws.{all_fit, fits_by_all, fits_by_held, fits_by_children, fits_by_variant}

-- the refusals of events
abbrev pub among : ℕ → List ℕ → Bool
among n [] = false
among n (m ∷ l) = eqb n m || among n l

abbrev pub event_refusals : List ℕ
event_refusals = no_value ∷ nul_in_text ∷ not_utf8 ∷ variant_type_refused ∷ structures_too_deep ∷ arrays_too_deep ∷ containers_too_deep ∷ []

abbrev pub Faulty : ℕ → Type 0
Faulty n = T (among n event_refusals)

pub faulty_not_done : (n : ℕ) → Faulty n → n ≡ 0 → ⊥
faulty_not_done n f e = rw e at f

text_faulty : (t : List ℕ) → (text_refusal t ≡ 0 → ⊥) → Faulty (text_refusal t)
unfolding text_refusal
text_faulty t h = go (no_nul t) (utf8 t) h
  where
    go : (x y : Bool) → (pick x (pick y 0 not_utf8) nul_in_text ≡ 0 → ⊥) → Faulty (pick x (pick y 0 not_utf8) nul_in_text)
    go true true h = absurd (h refl)
    go true false h = tt
    go false y h = tt

depth_faulty : (d : Depths) → (depth_refusal d ≡ 0 → ⊥) → Faulty (depth_refusal d)
unfolding depth_refusal
depth_faulty d h = go (ltb most_structures d.structure) (ltb most_arrays d.array) (ltb most_containers (total d)) h
  where
    go : (x y z : Bool) → (pick x structures_too_deep (pick y arrays_too_deep (pick z containers_too_deep 0)) ≡ 0 → ⊥) → Faulty (pick x structures_too_deep (pick y arrays_too_deep (pick z containers_too_deep 0)))
    go true y z h = tt
    go false true z h = tt
    go false false true h = tt
    go false false false h = absurd (h refl)

-- something holds of what was built, and a refusal is one of those
abbrev pub Answers : {A : Type 0} → (A → List ℕ → Type 0) → Built A → Type 0
Answers Q (built v r) = Q v r
Answers Q (fault n) = Faulty n

-- ---- the steps of a builder

module _ {A : Type 0} (Q : A → List ℕ → Type 0) where
  answers_when : (t : Bool) (x : Built A) → (T t → Answers Q x) → Answers Q (when t x)
  unfolding when
  answers_when true x h = h tt
  answers_when false x h = tt

  answers_unrefused : (n : ℕ) (x : Built A) → ((n ≡ 0 → ⊥) → Faulty n) → (T (eqb n 0) → Answers Q x) → Answers Q (unrefused n x)
  unfolding unrefused
  answers_unrefused n x f h = go (eqb n 0) refl h
    where
      go : (t : Bool) → eqb n 0 ≡ t → (T t → Answers Q x) → Answers Q (pick t x (fault n))
      go true e i = i tt
      go false e i = f (eqb-false n 0 e)

  answers_shallow : (d : Depths) (f : Depths → Built A) → (T (eqb (depth_refusal d) 0) → Answers Q (f d)) → Answers Q (when_shallow d f)
  unfolding when_shallow
  answers_shallow d f h = answers_unrefused (depth_refusal d) (f d) (depth_faulty d) h

  answers_event : (l : List ℕ) (f : ℕ → ℕ → ℕ → List ℕ → Built A) → ((k p n : ℕ) (r : List ℕ) → l ≡ k ∷ p ∷ n ∷ r → Answers Q (f k p n r)) → Answers Q (on_event l f)
  unfolding on_event
  answers_event [] f h = tt
  answers_event (k ∷ []) f h = tt
  answers_event (k ∷ p ∷ []) f h = tt
  answers_event (k ∷ p ∷ n ∷ r) f h = h k p n r refl

answers_mapped : {A B : Type 0} (Q : A → List ℕ → Type 0) (R : B → List ℕ → Type 0) (f : A → B) (x : Built A) → Answers Q x → ((v : A) (r : List ℕ) → Q v r → R (f v) r) → Answers R (mapped f x)
unfolding mapped
answers_mapped Q R f (built v r) h i = i v r h
answers_mapped Q R f (fault n) h i = h

answers_followed : {A B : Type 0} (Q : A → List ℕ → Type 0) (R : B → List ℕ → Type 0) (x : Built A) (f : A → List ℕ → Built B) → Answers Q x → ((v : A) (r : List ℕ) → Q v r → Answers R (f v r)) → Answers R (followed x f)
unfolding followed
answers_followed Q R (built v r) f h i = i v r h
answers_followed Q R (fault n) f h i = h

module _ (texts : List ℕ) where
  -- numbers that show an event at any place
  abbrev ShowsPlain : List ℕ → ℕ → ℕ → List ℕ → Type 0
  ShowsPlain l kind n m = (q : ℕ) → ShowsOne texts l (event kind q n) m

  answers_plain : {A : Type 0} (Q : A → List ℕ → Type 0) (kind : ℕ) → is_text_letter kind ≡ false → (l : List ℕ) (f : List ℕ → Built A) → ((m : List ℕ) → ShowsPlain l kind 0 m → Answers Q (f m)) → Answers Q (on_plain kind l f)
  unfolding on_plain
  answers_plain Q kind h l f i = answers_event Q l _ (λ k p n m e. answers_when Q (eqb k kind && eqb n 0) (f m) (λ t. i m (shown k p n m e t)))
    where
      shown : (k p n : ℕ) (m : List ℕ) → l ≡ k ∷ p ∷ n ∷ m → T (eqb k kind && eqb n 0) → ShowsPlain l kind 0 m
      shown k p n m e t q =
          let a : k ≡ kind = eqb→eq k kind (both_left (eqb k kind) (eqb n 0) t) in
          let b : n ≡ 0 = eqb→eq n 0 (both_right (eqb k kind) (eqb n 0) t) in
          shows_one texts kind q 0 p h (rw (a, b) at e)

  answers_text : {A : Type 0} (Q : A → List ℕ → Type 0) (kind : ℕ) (l : List ℕ) (f : List ℕ → List ℕ → Built A)
      → ((t m : List ℕ) → T (eqb (text_refusal t) 0) → ((q : ℕ) → ShowsOne texts l (text_event kind q t) m) → Answers Q (f t m)) → Answers Q (on_text texts kind l f)
  unfolding on_text
  answers_text Q kind l f i = answers_event Q l _ (λ k p n m e.
      answers_when Q (eqb k kind && leb (p + n) (length texts)) _ (λ t.
      answers_unrefused Q (text_refusal (take n (drop p texts))) _ (text_faulty (take n (drop p texts))) (λ u. i (take n (drop p texts)) m u (shown k p n m e t))))
    where
      shown : (k p n : ℕ) (m : List ℕ) → l ≡ k ∷ p ∷ n ∷ m → T (eqb k kind && leb (p + n) (length texts)) → (q : ℕ) → ShowsOne texts l (text_event kind q (take n (drop p texts))) m
      shown k p n m e t q =
          let a : k ≡ kind = eqb→eq k kind (both_left (eqb k kind) (leb (p + n) (length texts)) t) in
          let b : p + n ≤ length texts = leb→le (p + n) (length texts) (both_right (eqb k kind) (leb (p + n) (length texts)) t) in
          let c : length (take n (drop p texts)) ≡ n = length-take-le n (drop p texts) (rw length-drop (omega arith)) in
          record { place = p; is = e ∙ rw (a, c); contained = λ _. rw c b; same = λ _. rw c }

  answers_sealed : {A : Type 0} (Q R : A → List ℕ → Type 0) (x : Built A) → Answers Q x → ((v : A) (m r : List ℕ) → Q v m → ShowsPlain m container_end 0 r → R v r) → Answers R (sealed x)
  unfolding sealed
  answers_sealed Q R x h i = answers_followed Q R x _ h (λ v m g. answers_plain R container_end refl m (λ r. built v r) (λ r s. i v m r g s))

  -- a value that fits, and whose events are shown in front of r
  pub record Right {A : Type 0} (p : A → Piece) (d : Depths) (l : List ℕ) (v : A) (r : List ℕ) : Type 0 where
    pub fit : T (fits (p v) d)
    pub shows : (k : ℕ) → Shows texts l ((p v).events k) r

  abbrev pub Sound : {A : Type 0} → (A → Piece) → Builder A → Type 0
  Sound p b = (d : Depths) (l : List ℕ) → Answers (Right p d l) (b d l)

  -- the same of children one behind another
  pub record RightRow {A : Type 0} (p : A → List Piece) (d : Depths) (l : List ℕ) (v : A) (r : List ℕ) : Type 0 where
    pub fit : T (all_fit (p v) d)
    pub shows : (k j : ℕ) → Shows texts l (events_from k j (p v)) r

  abbrev pub SoundRow : {A : Type 0} → (A → List Piece) → Builder A → Type 0
  SoundRow p b = (d : Depths) (l : List ℕ) → Answers (RightRow p d l) (b d l)

  -- ---- basic values

  bit_of : (n : ℕ) → n ≤ 1 → n ≡ bit (eqb n 1)
  bit_of n h = go (eqb n 1) refl
    where
      go : (t : Bool) → eqb n 1 ≡ t → n ≡ bit t
      go true e = eqb-true n 1 e
      go false e = let x = eqb-false n 1 e in below n h x
        where
          below : (n : ℕ) → n ≤ 1 → (n ≡ 1 → ⊥) → n ≡ 0
          below zero h x = refl
          below (suc zero) h x = absurd (x refl)
          below (suc (suc n)) h x = absurd (omega arith)

  pub basic_sound : (big : Bool) (b : Basic) → Sound (basic_piece big b) (λ d l. build_basic texts b l)
  unfolding basic_piece build_basic
  basic_sound big bool d l = answers_event (Right (basic_piece big bool) d l) l _ (λ k p n r e.
      answers_when (Right (basic_piece big bool) d l) (eqb k bool_letter && leb n 1) _ (λ t.
      let a : k ≡ bool_letter = eqb→eq k bool_letter (both_left (eqb k bool_letter) (leb n 1) t) in
      let b : n ≡ bit (eqb n 1) = bit_of n (leb→le n 1 (both_right (eqb k bool_letter) (leb n 1) t)) in
      record { fit = tt; shows = λ q. more (shows_one texts bool_letter q (bit (eqb n 1)) p refl (e ∙ rw a (ap (λ (m : ℕ). bool_letter ∷ p ∷ m ∷ r) b))) ended }))
  basic_sound big (number c) d l = answers_event (Right (basic_piece big (number c)) d l) l _ (λ k p n r e.
      answers_when (Right (basic_piece big (number c)) d l) (eqb k (number_letter c) && ltb n (256 ^ number_width c)) _ (λ t.
      let a : k ≡ number_letter c = eqb→eq k (number_letter c) (both_left (eqb k (number_letter c)) (ltb n (256 ^ number_width c)) t) in
      record {
        fit = both (ltb n (256 ^ number_width c)) true (both_right (eqb k (number_letter c)) (ltb n (256 ^ number_width c)) t) tt;
        shows = λ q. more (shows_one texts (number_letter c) q n p (number_plain c).no_text (rw a at e)) ended;
      }))
  basic_sound big (text c) d l = answers_text (Right (basic_piece big (text c)) d l) (text_letter c) l _ (λ t m u s. record { fit = both (eqb (text_refusal t) 0) true u tt; shows = λ q. more (s q) ended })

  -- ---- maybes
  module _ {A : Type 0} (a : ℕ) (fx : Bool) (p : A → Piece) (b : Builder A) (g : Sound p b) where
    present_sound : (d : Depths) (l m : List ℕ) → ShowsPlain l maybe_letter 0 m → Answers (Right (maybe_piece a fx p) d l) (when_shallow (opened Depth.maybe d) (λ d'. mapped some (b d' m)))
    unfolding maybe_piece
    present_sound d l m s = answers_shallow (Right (maybe_piece a fx p) d l) (opened Depth.maybe d) _ (λ t.
        answers_mapped (Right p (opened Depth.maybe d) m) (Right (maybe_piece a fx p) d l) some (b (opened Depth.maybe d) m) (g (opened Depth.maybe d) m) (λ v r i.
        record { fit = fits_by_held (p v) (opened Depth.maybe d) (both (eqb (depth_refusal (opened Depth.maybe d)) 0) (fits (p v) (opened Depth.maybe d)) t i.fit); shows = λ k. more (s k) (i.shows k) }))

    by_sound : (d : Depths) (l : List ℕ) (k q : ℕ) (m : List ℕ) → l ≡ k ∷ q ∷ 0 ∷ m → Answers (Right (maybe_piece a fx p) d l) (maybe_by b d k m)
    unfolding maybe_by maybe_piece
    by_sound d l k q m e = go (eqb k nothing_letter) refl
      where
        go : (t : Bool) → eqb k nothing_letter ≡ t → Answers (Right (maybe_piece a fx p) d l) (pick t (built none m) (when (eqb k maybe_letter) (when_shallow (opened Depth.maybe d) (λ d'. mapped some (b d' m)))))
        go true h = let c : k ≡ nothing_letter = eqb-true k nothing_letter h in record { fit = tt; shows = λ x. more (shows_one texts nothing_letter x 0 q refl (rw c at e)) ended }
        go false h = answers_when (Right (maybe_piece a fx p) d l) (eqb k maybe_letter) _ (λ t. let c : k ≡ maybe_letter = eqb→eq k maybe_letter t in present_sound d l m (λ x. shows_one texts maybe_letter x 0 q refl (rw c at e)))

    maybe_sound : Sound (maybe_piece a fx p) (build_maybe b)
    unfolding build_maybe
    maybe_sound d l = answers_event (Right (maybe_piece a fx p) d l) l _ (λ k q n m e.
        answers_when (Right (maybe_piece a fx p) d l) (eqb n 0) _ (λ t. let c : n ≡ 0 = eqb→eq n 0 t in by_sound d l k q m (rw c at e)))

  -- ---- arrays
  module _ {A : Type 0} (p : A → Piece) (b : Builder A) (g : Sound p b) where
    many_sound : (f : ℕ) (d : Depths) (l : List ℕ) → Answers (RightRow (λ (vs : List A). map p vs) d l) (build_many f (b d) l)
    unfolding build_many events_from all_fit
    many_sound zero d l = tt
    many_sound (suc f) d l = answers_event (RightRow (λ (vs : List A). map p vs) d l) l _ (λ k q n r e. go (eqb k container_end) (λ s. many_sound f d s))
      where
        rest : (v : A) (s : List ℕ) → Right p d l v s → (vs : List A) (r : List ℕ) → RightRow (λ (vs : List A). map p vs) d s vs r → RightRow (λ (vs : List A). map p vs) d l (v ∷ vs) r
        rest v s i vs r j = record {
          fit = both (fits (p v) d) (all_fit (map p vs) d) i.fit j.fit;
          shows = λ x y. shows_append texts (i.shows (x + (y + padding y (p v).alignment))) (j.shows x (stop y (p v)));
        }

        go : (t : Bool) → ((s : List ℕ) → Answers (RightRow (λ (vs : List A). map p vs) d s) (build_many f (b d) s))
            → Answers (RightRow (λ (vs : List A). map p vs) d l) (pick t (built [] l) (followed (b d l) (λ v s. mapped (λ vs. v ∷ vs) (build_many f (b d) s))))
        go true h = record { fit = tt; shows = λ x y. ended }
        go false h = answers_followed (Right p d l) (RightRow (λ (vs : List A). map p vs) d l) (b d l) _ (g d l) (λ v s i.
            answers_mapped (RightRow (λ (vs : List A). map p vs) d s) (RightRow (λ (vs : List A). map p vs) d l) _ (build_many f (b d) s) (h s) (λ vs r j. rest v s i vs r j))

    array_sound : (kind a : ℕ) (fx : Bool) → is_text_letter kind ≡ false → Sound (λ vs. array_piece kind a fx (map p vs)) (build_array kind b)
    unfolding array_piece build_array
    array_sound kind a fx h d l = answers_plain (Right (λ vs. array_piece kind a fx (map p vs)) d l) kind h l _ (λ m s.
        answers_shallow (Right (λ vs. array_piece kind a fx (map p vs)) d l) (opened Depth.array d) _ (λ t.
        answers_sealed (RightRow (λ (vs : List A). map p vs) (opened Depth.array d) m) (Right (λ vs. array_piece kind a fx (map p vs)) d l) _ (many_sound (length l) (opened Depth.array d) m) (λ vs n r i c. record {
          fit = fits_by_children (map p vs) (opened Depth.array d) (both (eqb (depth_refusal (opened Depth.array d)) 0) (all_fit (map p vs) (opened Depth.array d)) t i.fit);
          shows = λ k. more (s k) (shows_append texts (i.shows k 0) (more (c (k + length (array_bytes fx (map p vs)))) ended));
        })))

  -- ---- a fixed number of children, one behind another

  one_sound : {A : Type 0} (p : A → Piece) (b : Builder A) → Sound p b → SoundRow (λ v. p v ∷ []) b
  unfolding events_from all_fit
  one_sound {A} p b g d l = go (b d l) (g d l)
    where
      go : (x : Built A) → Answers (Right p d l) x → Answers (RightRow (λ v. p v ∷ []) d l) x
      go (built v r) i = record { fit = both (fits (p v) d) true i.fit tt; shows = λ k j. rw append-nil (i.shows (k + (j + padding j (p v).alignment))) }
      go (fault n) i = i

  module _ {A B : Type 0} (p : A → Piece) (b : Builder A) (g : Sound p b) (q : B → List Piece) (c : Builder B) (h : SoundRow q c) where
    both_sound : SoundRow (λ (v : A × B). p v.0 ∷ q v.1) (build_both b c)
    unfolding build_both events_from all_fit
    both_sound d l = answers_followed (Right p d l) (RightRow (λ (v : A × B). p v.0 ∷ q v.1) d l) (b d l) _ (g d l) (λ v m i.
        answers_mapped (RightRow q d m) (RightRow (λ (v : A × B). p v.0 ∷ q v.1) d l) _ (c d m) (h d m) (λ w r j. record {
          fit = both (fits (p v) d) (all_fit (q w) d) i.fit j.fit;
          shows = λ x y. shows_append texts (i.shows (x + (y + padding y (p v).alignment))) (j.shows x (stop y (p v)));
        }))

  entry_sound : {A : Type 0} (a : ℕ) (fx : Bool) (p : A → List Piece) (b : Builder A) → SoundRow p b → Sound (λ v. entry_piece a fx (p v)) b
  unfolding entry_piece
  entry_sound {A} a fx p b g d l = go (b d l) (g d l)
    where
      go : (x : Built A) → Answers (RightRow p d l) x → Answers (Right (λ v. entry_piece a fx (p v)) d l) x
      go (built v r) i = record { fit = fits_by_all (p v) d i.fit; shows = λ k. i.shows k 0 }
      go (fault n) i = i

  structure_sound : {A : Type 0} (a : ℕ) (fx : Bool) (p : A → List Piece) (b : Builder A) → SoundRow p b → Sound (λ v. structure_piece a fx (p v)) (build_structure b)
  unfolding structure_piece build_structure
  structure_sound a fx p b g d l = answers_plain (Right (λ v. structure_piece a fx (p v)) d l) structure_letter refl l _ (λ m s.
      answers_shallow (Right (λ v. structure_piece a fx (p v)) d l) (opened Depth.structure d) _ (λ t.
      answers_sealed (RightRow p (opened Depth.structure d) m) (Right (λ v. structure_piece a fx (p v)) d l) _ (g (opened Depth.structure d) m) (λ v n r i c. record {
        fit = fits_by_children (p v) (opened Depth.structure d) (both (eqb (depth_refusal (opened Depth.structure d)) 0) (all_fit (p v) (opened Depth.structure d)) t i.fit);
        shows = λ k. more (s k) (shows_append texts (i.shows k 0) (more (c (k + length (structure_bytes a fx (p v)))) ended));
      })))

  -- ---- variants
  module _ {F : Tree → Type 0} (p : (t : Tree) → F t → Piece) (b : (t : Tree) → Builder (F t)) (g : (t : Tree) → Sound (p t) (b t)) where
    abbrev held_piece : (t : Tree) × F t → Piece
    held_piece x = variant_piece x.0 (p x.0 x.1)

    -- a type whose text is shown, and a value of it
    record RightHeld (d : Depths) (m n : List ℕ) (x : (t : Tree) × F t) (r : List ℕ) : Type 0 where
      few : length (type_text x.0) ≤ 255
      type_shown : (q : ℕ) → ShowsOne texts m (text_event signature_letter q (type_text x.0)) n
      right : Right (p x.0) d n x.1 r

    variant_sound : Sound held_piece (build_variant texts b)
    unfolding build_variant variant_by variant_piece
    variant_sound d l = answers_plain (Right held_piece d l) variant_letter refl l _ (λ m s.
        answers_text (Right held_piece d l) signature_letter m _ (λ t n u s'. by (type_of t) refl s s'))
      where
        d' : Depths
        d' = opened Depth.variant d

        by : {t m n : List ℕ} (o : Option Tree) → type_of t ≡ o → ShowsPlain l variant_letter 0 m → ((q : ℕ) → ShowsOne texts m (text_event signature_letter q t) n) → Answers (Right held_piece d l) (variant_by b d n o)
        by none e s s' = tt
        by {t} {m} {n} (some w) e s s' =
            let i = type_of_sound t w e in
            answers_shallow (Right held_piece d l) d' _ (λ z.
            answers_sealed (RightHeld d' m n) (Right held_piece d l) _
            (answers_mapped (Right (p w) d' n) (RightHeld d' m n) _ (b w d' n) (g w d' n)
            (λ v r j. record { few = rw i.is at i.few; type_shown = rw i.is at s'; right = j }))
            (λ x k r j c. record {
              fit = fits_by_variant x.0 (p x.0 x.1) d j.few (both (eqb (depth_refusal d') 0) (fits (p x.0 x.1) d') z j.right.fit);
              shows = λ q. more (s q) (more (j.type_shown (q + (length (p x.0 x.1).bytes + 1))) (shows_append texts (j.right.shows q) (more (c _) ended)));
            }))

  -- ---- by induction over the type, and over how many variants stand one inside another

  module _ (big : Bool) {Held : Type 0} (held : Held → Piece) (variants : Builder Held) (hx : Sound held variants) where
    mutual
      unfolding piece_over build_over

      pub over_sound : (t : Tree) → Sound (piece_over big held t) (build_over texts variants t)
      over_sound (basic b) = basic_sound big b
      over_sound variant = hx
      over_sound (maybe t) = maybe_sound (alignment t) (fixed t) (piece_over big held t) (build_over texts variants t) (over_sound t)
      over_sound (array t) = array_sound (piece_over big held t) (build_over texts variants t) (over_sound t) array_letter (alignment t) (fixed t) refl
      over_sound (dictionary b t) = array_sound _ _
          (entry_sound (entry_alignment b t) (entry_fixed b t) (λ x. basic_piece big b x.0 ∷ piece_over big held t x.1 ∷ []) (build_both (λ d l. build_basic texts b l) (build_over texts variants t))
          (both_sound (basic_piece big b) (λ d l. build_basic texts b l) (basic_sound big b) (λ v. piece_over big held t v ∷ []) (build_over texts variants t)
          (one_sound (piece_over big held t) (build_over texts variants t) (over_sound t))))
          dictionary_letter (entry_alignment b t) (entry_fixed b t) refl
      over_sound (structure ts) = structure_sound (largest_alignment ts) (all_fixed ts) (pieces_over big held ts) (build_fields texts variants ts) (fields_sound ts)

      pub fields_sound : (ts : Fields) → SoundRow (pieces_over big held ts) (build_fields texts variants ts)
      fields_sound (last t) = one_sound (piece_over big held t) (build_over texts variants t) (over_sound t)
      fields_sound (next t ts) = both_sound (piece_over big held t) (build_over texts variants t) (over_sound t) (pieces_over big held ts) (build_fields texts variants ts) (fields_sound ts)

  pub all_sound : (big : Bool) (n : ℕ) (t : Tree) → Sound (piece big n t) (build texts n t)
  unfolding piece build
  all_sound big zero t = over_sound big (λ x. absurd x) (λ d l. fault containers_too_deep) (λ d l. tt) t
  all_sound big (suc n) t = over_sound big (λ x. variant_piece x.0 (piece big n x.0 x.1)) (build_variant texts (λ u. build texts n u)) (variant_sound (piece big n) (λ u. build texts n u) (all_sound big n)) t
