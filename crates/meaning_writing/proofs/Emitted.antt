-- What events are written as is the written form of the value that they spell, with the same refusals and the same numbers behind it.
-- Assumes nothing.
use mathlib.Core.Path.{◌≡◌, refl, ap, ◌∙◌}
use mathlib.Core.List.{List, [], ◌∷◌, map}
use mathlib.Core.Option.{Option, none, some}
use mathlib.Core.Bool.{Bool, true, false, ◌&&◌}
use Prim.Native.Nat.{ℕ, zero, suc, ◌+◌}
use lib.Dec.{leb, eqb}
use lib.ListN.{length, take, drop}
use Rattle.meaning.specs.Choice.{pick}
use Rattle.meaning.specs.Refusals.{containers_too_deep}
use Rattle.meaning.specs.Texts.{text_refusal}
use Rattle.meaning.specs.Depths as Depth
use Rattle.meaning.specs.Depths.{Depths, depth_refusal, opened}
use Rattle.meaning.specs.Types.{Basic, Tree, Fields, basic, variant, maybe, array, dictionary, structure, last, next, alignment, largest_alignment, fixed, all_fixed, entry_alignment, entry_fixed}
use Rattle.meaning.specs.Letters.{signature_letter, variant_letter, maybe_letter, nothing_letter, array_letter, dictionary_letter, structure_letter, container_end}
use Rattle.meaning.specs.TypeText.{type_of}
use Rattle.meaning.specs.Values.{BasicValue, ValueOver}
use Rattle.meaning.specs.Written.{Piece, basic_piece, maybe_piece, array_piece, structure_piece, variant_piece, piece_over, pieces_over, piece}
use Rattle.meaning_writing.specs.Writing.{Built, built, fault, Builder, mapped, followed, when, unrefused, when_shallow, on_event, on_plain, sealed, maybe_by, build_maybe, build_many, build_array, build_both, build_structure, variant_by, on_text, build_basic, build_variant, build_over, build_fields, build}
use Rattle.meaning_writing.specs.Emitting.{itself, one_piece, more_pieces, entry_of, variant_of, emit_maybe, emit_array, emit_entry, emit_structure, emit_last, emit_next, emit_basic, emit_variant, emit_over, emit_fields, emit}

-- ---- each builder is natural in what it builds

-- what the one builder makes is what the other makes, mapped
abbrev pub Maps : {A B : Type 0} → (A → B) → Builder A → Builder B → Type 0
Maps p b e = (d : Depths) (l : List ℕ) → e d l ≡ mapped p (b d l)

mapped_twice : {A B C : Type 0} (f : B → C) (g : A → B) (x : Built A) (y : Built B) → y ≡ mapped g x → mapped f y ≡ mapped (λ v. f (g v)) x
unfolding mapped
mapped_twice {A} f g x y e = ap (mapped f) e ∙ go x
  where
    go : (x : Built A) → mapped f (mapped g x) ≡ mapped (λ v. f (g v)) x
    go (built v r) = refl
    go (fault n) = refl

-- the steps
module _ {A B : Type 0} (p : A → B) where
  when_maps : (t : Bool) (x : Built A) (y : Built B) → y ≡ mapped p x → when t y ≡ mapped p (when t x)
  unfolding when mapped
  when_maps true x y e = e
  when_maps false x y e = refl

  unrefused_maps : (n : ℕ) (x : Built A) (y : Built B) → y ≡ mapped p x → unrefused n y ≡ mapped p (unrefused n x)
  unfolding unrefused mapped
  unrefused_maps n x y e = go (eqb n 0)
    where
      go : (t : Bool) → pick t y (fault n) ≡ mapped p (pick t x (fault n))
      go true = e
      go false = refl

  shallow_maps : (d : Depths) (f : Depths → Built A) (g : Depths → Built B) → g d ≡ mapped p (f d) → when_shallow d g ≡ mapped p (when_shallow d f)
  unfolding when_shallow
  shallow_maps d f g e = unrefused_maps (depth_refusal d) (f d) (g d) e

  event_maps : (l : List ℕ) (f : ℕ → ℕ → ℕ → List ℕ → Built A) (g : ℕ → ℕ → ℕ → List ℕ → Built B) → ((k q n : ℕ) (r : List ℕ) → g k q n r ≡ mapped p (f k q n r)) → on_event l g ≡ mapped p (on_event l f)
  unfolding on_event mapped
  event_maps [] f g e = refl
  event_maps (k ∷ []) f g e = refl
  event_maps (k ∷ q ∷ []) f g e = refl
  event_maps (k ∷ q ∷ n ∷ r) f g e = e k q n r

  plain_maps : (kind : ℕ) (l : List ℕ) (f : List ℕ → Built A) (g : List ℕ → Built B) → ((r : List ℕ) → g r ≡ mapped p (f r)) → on_plain kind l g ≡ mapped p (on_plain kind l f)
  unfolding on_plain
  plain_maps kind l f g e = event_maps l _ _ (λ k q n r. when_maps (eqb k kind && eqb n 0) (f r) (g r) (e r))

  text_maps : (texts : List ℕ) (kind : ℕ) (l : List ℕ) (f : List ℕ → List ℕ → Built A) (g : List ℕ → List ℕ → Built B) → ((t r : List ℕ) → g t r ≡ mapped p (f t r)) → on_text texts kind l g ≡ mapped p (on_text texts kind l f)
  unfolding on_text
  text_maps texts kind l f g e = event_maps l _ _ (λ k q n r.
      when_maps (eqb k kind && leb (q + n) (length texts)) _ _ (unrefused_maps (text_refusal (take n (drop q texts))) _ _ (e (take n (drop q texts)) r)))

  sealed_maps : (x : Built A) (y : Built B) → y ≡ mapped p x → sealed y ≡ mapped p (sealed x)
  unfolding sealed followed mapped
  sealed_maps (fault n) y e = rw e
  sealed_maps (built v l) y e = rw e (plain_maps container_end l (λ r. built v r) (λ r. built (p v) r) (λ r. refl))

-- a pair of which both are mapped, and what is held in a maybe
abbrev pub on_both : {A B C D : Type 0} → (A → C) → (B → D) → A × B → C × D
on_both p q v = (p v.0, q v.1)

unfoldable pub on_held : {A B : Type 0} → (A → B) → Option A → Option B
on_held p none = none
on_held p (some v) = some (p v)

module _ {A B : Type 0} (p : A → B) (b : Builder A) (e : Builder B) (h : Maps p b e) where
  some_maps : (x : Built A) → mapped some (mapped p x) ≡ mapped (on_held p) (mapped some x)
  unfolding mapped on_held
  some_maps (built v r) = refl
  some_maps (fault n) = refl

  by_maps : (d : Depths) (k : ℕ) (r : List ℕ) → maybe_by e d k r ≡ mapped (on_held p) (maybe_by b d k r)
  unfolding maybe_by
  by_maps d k r = go (eqb k nothing_letter)
    where
      d' : Depths
      d' = opened Depth.maybe d

      go : (t : Bool) → pick t (built none r) (when (eqb k maybe_letter) (when_shallow d' (λ x. mapped some (e x r)))) ≡ mapped (on_held p) (pick t (built none r) (when (eqb k maybe_letter) (when_shallow d' (λ x. mapped some (b x r)))))
      go true = unfold mapped on_held in refl
      go false = when_maps (on_held p) (eqb k maybe_letter) _ _ (shallow_maps (on_held p) d' _ _ (ap (mapped some) (h d' r) ∙ some_maps (b d' r)))

  maybe_maps : Maps (on_held p) (build_maybe b) (build_maybe e)
  unfolding build_maybe
  maybe_maps d l = event_maps (on_held p) l _ _ (λ k q n r. when_maps (on_held p) (eqb n 0) _ _ (by_maps d k r))

  many_maps : (f : ℕ) (d : Depths) (l : List ℕ) → build_many f (e d) l ≡ mapped (λ vs. map p vs) (build_many f (b d) l)
  unfolding build_many
  many_maps zero d l = unfold mapped in refl
  many_maps (suc f) d l = event_maps (λ vs. map p vs) l _ _ (λ k q n r. go (eqb k container_end) (b d l) (h d l) (λ s. many_maps f d s))
    where
      front : (w : A) (x : Built (List A)) → mapped (λ vs. p w ∷ vs) (mapped (λ vs. map p vs) x) ≡ mapped (λ vs. map p vs) (mapped (λ vs. w ∷ vs) x)
      front w (built vs r) = unfold mapped in refl
      front w (fault n) = unfold mapped in refl

      step : (x : Built A) → ((s : List ℕ) → build_many f (e d) s ≡ mapped (λ vs. map p vs) (build_many f (b d) s))
          → followed (mapped p x) (λ v s. mapped (λ vs. v ∷ vs) (build_many f (e d) s)) ≡ mapped (λ vs. map p vs) (followed x (λ v s. mapped (λ vs. v ∷ vs) (build_many f (b d) s)))
      step (built w s) i = unfold mapped followed in rw (i s) (front w (build_many f (b d) s))
      step (fault n) i = unfold mapped followed in refl

      go : (t : Bool) (x : Built A) → e d l ≡ mapped p x → ((s : List ℕ) → build_many f (e d) s ≡ mapped (λ vs. map p vs) (build_many f (b d) s))
          → pick t (built [] l) (followed (e d l) (λ v s. mapped (λ vs. v ∷ vs) (build_many f (e d) s))) ≡ mapped (λ vs. map p vs) (pick t (built [] l) (followed x (λ v s. mapped (λ vs. v ∷ vs) (build_many f (b d) s))))
      go true x q i = unfold mapped in refl
      go false x q i = rw q (step x i)

  array_maps : (kind : ℕ) → Maps (λ vs. map p vs) (build_array kind b) (build_array kind e)
  unfolding build_array
  array_maps kind d l = plain_maps (λ vs. map p vs) kind l _ _ (λ r. shallow_maps (λ vs. map p vs) (opened Depth.array d) _ _ (sealed_maps (λ vs. map p vs) _ _ (many_maps (length l) (opened Depth.array d) r)))

  structure_maps : Maps p (build_structure b) (build_structure e)
  unfolding build_structure
  structure_maps d l = plain_maps p structure_letter l _ _ (λ r. shallow_maps p (opened Depth.structure d) _ _ (sealed_maps p _ _ (h (opened Depth.structure d) r)))

both_maps : {A B C D : Type 0} (p : A → C) (q : B → D) (a : Builder A) (b : Builder B) (c : Builder C) (e : Builder D) → Maps p a c → Maps q b e → Maps (on_both p q) (build_both a b) (build_both c e)
unfolding build_both
both_maps {A} {B} {C} {D} p q a b c e h i d l = rw (h d l) (go (a d l))
  where
    pair : (v : A) (x : Built B) → mapped {B = C × D} (λ w. (p v, w)) (mapped q x) ≡ mapped (on_both p q) (mapped {B = A × B} (λ w. (v, w)) x)
    pair v (built w r) = unfold mapped in refl
    pair v (fault n) = unfold mapped in refl

    go : (x : Built A) → followed {B = C × D} (mapped p x) (λ v r. mapped (λ w. (v, w)) (e d r)) ≡ mapped (on_both p q) (followed {B = A × B} x (λ v r. mapped (λ w. (v, w)) (b d r)))
    go (built v r) = unfold mapped followed in rw (i d r) (pair v (b d r))
    go (fault n) = unfold mapped followed in refl

-- a variant
module _ {F : Tree → Type 0} (p : (t : Tree) → F t → Piece) (b : (t : Tree) → Builder (F t)) (e : Tree → Builder Piece) (h : (t : Tree) → Maps (p t) (b t) (e t)) where
  abbrev on_variant : (t : Tree) × F t → (t : Tree) × Piece
  on_variant v = (v.0, p v.0 v.1)

  typed_maps : (t : Tree) (x : Built (F t)) → mapped {B = (t : Tree) × Piece} (λ v. (t, v)) (mapped (p t) x) ≡ mapped on_variant (mapped {B = (t : Tree) × F t} (λ v. (t, v)) x)
  unfolding mapped
  typed_maps t (built v r) = refl
  typed_maps t (fault n) = refl

  variant_by_maps : (d : Depths) (r : List ℕ) (o : Option Tree) → variant_by {F = λ t. Piece} e d r o ≡ mapped on_variant (variant_by b d r o)
  unfolding variant_by
  variant_by_maps d r none = unfold mapped in refl
  variant_by_maps d r (some t) =
      shallow_maps on_variant (opened Depth.variant d) _ _ (sealed_maps on_variant _ _ (ap (mapped {B = (t : Tree) × Piece} (λ v. (t, v))) (h t (opened Depth.variant d) r) ∙ typed_maps t (b t (opened Depth.variant d) r)))

  variant_maps : (texts : List ℕ) (d : Depths) (l : List ℕ) → build_variant texts {F = λ t. Piece} e d l ≡ mapped on_variant (build_variant texts b d l)
  unfolding build_variant
  variant_maps texts d l = plain_maps on_variant variant_letter l _ _ (λ q. text_maps on_variant texts signature_letter q _ _ (λ s r. variant_by_maps d r (type_of s)))

-- ---- by induction over the type, and over how many variants stand one inside another

held_itself : {A : Type 0} (a : ℕ) (fx : Bool) (p : A → Piece) (x : Built (Option A)) → mapped (maybe_piece a fx itself) (mapped (on_held p) x) ≡ mapped (maybe_piece a fx p) x
unfolding mapped on_held maybe_piece
held_itself a fx p (fault n) = refl
held_itself a fx p (built none r) = refl
held_itself a fx p (built (some v) r) = refl

module _ (texts : List ℕ) (big : Bool) {Held : Type 0} (held : Held → Piece) (bx : Builder Held) (ex : Builder Piece) (hx : Maps held bx ex) where
  basic_maps : (b : Basic) → Maps (basic_piece big b) (λ d l. build_basic texts b l) (emit_basic texts big b)
  unfolding emit_basic
  basic_maps b d l = refl

  dictionary_maps : (b : Basic) (t : Tree) → Maps (λ v. piece_over big held t v) (build_over texts bx t) (emit_over texts big ex t)
      → Maps (λ v. piece_over big held (dictionary b t) v) (build_over texts bx (dictionary b t)) (emit_over texts big ex (dictionary b t))
  unfolding emit_over build_over piece_over emit_array emit_entry
  dictionary_maps b t h d l =
      let a : ℕ = entry_alignment b t in
      let fx : Bool = entry_fixed b t in
      let key : Builder (BasicValue b) = λ d l. build_basic texts b l in
      let entry : BasicValue b × ValueOver Held t → Piece = λ x. entry_of a fx (basic_piece big b x.0, piece_over big held t x.1) in
      mapped_twice (array_piece dictionary_letter a fx) (λ vs. map entry vs) (build_array dictionary_letter (build_both key (build_over texts bx t)) d l) (build_array dictionary_letter (emit_entry a fx (emit_basic texts big b) (emit_over texts big ex t)) d l)
      (array_maps entry (build_both key (build_over texts bx t)) (emit_entry a fx (emit_basic texts big b) (emit_over texts big ex t))
      (λ d l. mapped_twice (entry_of a fx) (on_both (basic_piece big b) (λ v. piece_over big held t v)) (build_both key (build_over texts bx t) d l) (build_both (emit_basic texts big b) (emit_over texts big ex t) d l)
      (both_maps (basic_piece big b) (λ v. piece_over big held t v) key (build_over texts bx t) (emit_basic texts big b) (emit_over texts big ex t) (basic_maps b) h d l)) dictionary_letter d l)

  mutual
    unfolding emit_over build_over piece_over emit_maybe emit_array emit_entry emit_structure emit_last emit_next

    pub over_maps : (t : Tree) → Maps (λ v. piece_over big held t v) (build_over texts bx t) (emit_over texts big ex t)
    over_maps (basic b) d l = basic_maps b d l
    over_maps variant d l = hx d l
    over_maps (maybe t) d l =
        ap (mapped (maybe_piece (alignment t) (fixed t) itself)) (maybe_maps (λ v. piece_over big held t v) (build_over texts bx t) (emit_over texts big ex t) (λ d l. over_maps t d l) d l)
        ∙ held_itself (alignment t) (fixed t) (λ v. piece_over big held t v) (build_maybe (build_over texts bx t) d l)
    over_maps (array t) d l = mapped_twice (array_piece array_letter (alignment t) (fixed t)) (λ vs. map (λ v. piece_over big held t v) vs) (build_array array_letter (build_over texts bx t) d l) (build_array array_letter (emit_over texts big ex t) d l)
        (array_maps (λ v. piece_over big held t v) (build_over texts bx t) (emit_over texts big ex t) (λ d l. over_maps t d l) array_letter d l)
    over_maps (dictionary b t) d l = dictionary_maps b t (λ d l. over_maps t d l) d l
    over_maps (structure ts) d l = mapped_twice (structure_piece (largest_alignment ts) (all_fixed ts)) (λ v. pieces_over big held ts v) (build_structure (build_fields texts bx ts) d l) (build_structure (emit_fields texts big ex ts) d l)
        (structure_maps (λ v. pieces_over big held ts v) (build_fields texts bx ts) (emit_fields texts big ex ts) (λ d l. fields_map ts d l) d l)

    pub fields_map : (ts : Fields) → Maps (λ v. pieces_over big held ts v) (build_fields texts bx ts) (emit_fields texts big ex ts)
    fields_map (last t) d l = mapped_twice one_piece (λ v. piece_over big held t v) (build_over texts bx t d l) (emit_over texts big ex t d l) (over_maps t d l)
    fields_map (next t ts) d l =
        mapped_twice more_pieces (on_both (λ v. piece_over big held t v) (λ v. pieces_over big held ts v)) (build_both (build_over texts bx t) (build_fields texts bx ts) d l) (build_both (emit_over texts big ex t) (emit_fields texts big ex ts) d l)
        (both_maps (λ v. piece_over big held t v) (λ v. pieces_over big held ts v) (build_over texts bx t) (build_fields texts bx ts) (emit_over texts big ex t) (emit_fields texts big ex ts) (λ d l. over_maps t d l) (λ d l. fields_map ts d l) d l)

none_maps : {B : Type 0} (p : ⊥ → B) → Maps p (λ d l. fault containers_too_deep) (λ d l. fault containers_too_deep)
unfolding mapped
none_maps p d l = refl

-- THE CODE'S TWIN: what events are written as is the written form of the value that they spell
pub emitted : (texts : List ℕ) (big : Bool) (n : ℕ) (t : Tree) → Maps (λ v. piece big n t v) (build texts n t) (emit texts big n t)
unfolding emit build piece emit_variant
emitted texts big zero t d l = over_maps texts big (λ x. absurd x) (λ d l. fault containers_too_deep) (λ d l. fault containers_too_deep) (none_maps (λ x. absurd x)) t d l
emitted texts big (suc n) t d l =
    over_maps texts big (λ x. variant_piece x.0 (piece big n x.0 x.1)) (build_variant texts (λ u. build texts n u)) (emit_variant texts big (λ u. emit texts big n u))
    (λ d l. mapped_twice variant_of (on_variant (λ u v. piece big n u v) (λ u. build texts n u) (λ u. emit texts big n u) (λ u d l. emitted texts big n u d l)) (build_variant texts (λ u. build texts n u) d l) (build_variant texts (λ u. emit texts big n u) d l)
    (variant_maps (λ u v. piece big n u v) (λ u. build texts n u) (λ u. emit texts big n u) (λ u d l. emitted texts big n u d l) texts d l)) t d l
