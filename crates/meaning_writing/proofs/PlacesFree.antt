-- Places matter only for texts: a write answers the same, refusals too, whatever the places of its other events are. Assumes nothing.
use mathlib.Core.Path.{◌≡◌, refl, ap, ◌∙◌}
use mathlib.Core.List.{List, [], ◌∷◌}
use mathlib.Core.Option.{Option, none, some}
use mathlib.Core.Bool.{Bool, true, false, ◌&&◌}
use Prim.Native.Nat.{ℕ, zero, suc, ◌+◌, ◌^◌}
use lib.Dec.{leb, ltb, eqb}
use lib.ListN.{length, take, drop}
use borrow.Author.Tests.{eqb-true}
use Rattle.meaning.specs.Choice.{pick}
use Rattle.meaning.specs.Limits.{most_variants}
use Rattle.meaning.specs.Refusals.{containers_too_deep}
use Rattle.meaning.specs.Texts.{text_refusal}
use Rattle.meaning.specs.Depths as Depth
use Rattle.meaning.specs.Depths.{Depths, none_open, depth_refusal, opened}
use Rattle.meaning.specs.Types.{Basic, bool, number, text, Tree, Fields, basic, variant, maybe, array, dictionary, structure, last, next, number_width}
use Rattle.meaning.specs.Letters.{bool_letter, number_letter, signature_letter, text_letter, is_text_letter, variant_letter, maybe_letter, nothing_letter, array_letter, dictionary_letter, structure_letter, container_end}
use Rattle.meaning.specs.TypeText.{type_of}
use Rattle.meaning.specs.Values.{Value}
use Rattle.meaning_writing.specs.Writing.{Built, built, fault, Builder, mapped, followed, when, unrefused, when_shallow, on_event, on_plain, sealed, maybe_by, build_maybe, build_many, build_array, build_both, build_structure, variant_by, on_text, build_basic, build_variant, build_over, build_fields, build, frame_built, frame_typed, frame_writing}
use Rattle.meaning_writing.specs.Shown.{unplaced}
use Rattle.meaning_writing.proofs.ShownLaws.{text_textual}
use Rattle.meaning.proofs.Tests.{from_test}

-- what was built, with the numbers behind it so
unfoldable behind : {A : Type 0} → Built A → Built A
behind (built v r) = built v (unplaced r)
behind (fault n) = fault n

-- a builder that does not see other places
abbrev Blind : {A : Type 0} → Builder A → Type 0
Blind b = (d : Depths) (l : List ℕ) → b d (unplaced l) ≡ behind (b d l)

unplaced_length : (l : List ℕ) → length (unplaced l) ≡ length l
unfolding unplaced
unplaced_length [] = refl
unplaced_length (k ∷ []) = refl
unplaced_length (k ∷ p ∷ []) = refl
unplaced_length (k ∷ p ∷ n ∷ r) = ap (λ (m : ℕ). suc (suc (suc m))) (unplaced_length r)

-- ---- the steps

when_blind : {A : Type 0} (t : Bool) (x y : Built A) → y ≡ behind x → when t y ≡ behind (when t x)
unfolding when behind
when_blind true x y e = e
when_blind false x y e = refl

unrefused_blind : {A : Type 0} (n : ℕ) (x y : Built A) → y ≡ behind x → unrefused n y ≡ behind (unrefused n x)
unfolding unrefused behind
unrefused_blind n x y e = go (eqb n 0)
  where
    go : (t : Bool) → pick t y (fault n) ≡ behind (pick t x (fault n))
    go true = e
    go false = refl

shallow_blind : {A : Type 0} (d : Depths) (f g : Depths → Built A) → g d ≡ behind (f d) → when_shallow d g ≡ behind (when_shallow d f)
unfolding when_shallow
shallow_blind d f g e = unrefused_blind (depth_refusal d) (f d) (g d) e

mapped_blind : {A B : Type 0} (f : A → B) (x y : Built A) → y ≡ behind x → mapped f y ≡ behind (mapped f x)
mapped_blind {A} f x y e = ap (mapped f) e ∙ go x
  where
    go : (x : Built A) → mapped f (behind x) ≡ behind (mapped f x)
    go (built v r) = unfold mapped behind in refl
    go (fault n) = unfold mapped behind in refl

followed_blind : {A B : Type 0} (x y : Built A) (f g : A → List ℕ → Built B) → y ≡ behind x → ((v : A) (r : List ℕ) → g v (unplaced r) ≡ behind (f v r)) → followed y g ≡ behind (followed x f)
followed_blind {A} x y f g e h = rw e (go x)
  where
    go : (x : Built A) → followed (behind x) g ≡ behind (followed x f)
    go (built v r) = unfold followed behind in h v r
    go (fault n) = unfold followed behind in refl

-- an event: its place is as it was, where it is a text
event_blind : {A : Type 0} (l : List ℕ) (f g : ℕ → ℕ → ℕ → List ℕ → Built A) → ((k p n : ℕ) (r : List ℕ) → g k (pick (is_text_letter k) p 0) n (unplaced r) ≡ behind (f k p n r)) → on_event (unplaced l) g ≡ behind (on_event l f)
unfolding on_event unplaced behind
event_blind [] f g h = refl
event_blind (k ∷ []) f g h = refl
event_blind (k ∷ p ∷ []) f g h = refl
event_blind (k ∷ p ∷ n ∷ r) f g h = h k p n r

plain_blind : {A : Type 0} (kind : ℕ) (l : List ℕ) (f g : List ℕ → Built A) → ((r : List ℕ) → g (unplaced r) ≡ behind (f r)) → on_plain kind (unplaced l) g ≡ behind (on_plain kind l f)
unfolding on_plain
plain_blind kind l f g h = event_blind l _ _ (λ k p n r. when_blind (eqb k kind && eqb n 0) (f r) (g (unplaced r)) (h r))

made_blind : {A : Type 0} (v : A) (r : List ℕ) → built v (unplaced r) ≡ behind (built v r)
unfolding behind
made_blind v r = refl

sealed_blind : {A : Type 0} (x y : Built A) → y ≡ behind x → sealed y ≡ behind (sealed x)
unfolding sealed
sealed_blind x y e = followed_blind x y _ _ e (λ v l. plain_blind container_end l _ _ (λ r. made_blind v r))

text_blind : {A : Type 0} (texts : List ℕ) (kind : ℕ) → is_text_letter kind ≡ true → (l : List ℕ) (f g : List ℕ → List ℕ → Built A) → ((t r : List ℕ) → g t (unplaced r) ≡ behind (f t r)) → on_text texts kind (unplaced l) g ≡ behind (on_text texts kind l f)
unfolding on_text
text_blind {A} texts kind c l f g h = event_blind l _ _ (λ k p n r. at_kind k p n r (eqb k kind) refl)
  where
    shown : ℕ → ℕ → List ℕ
    shown p n = take n (drop p texts)

    at_kind : (k p n : ℕ) (r : List ℕ) (t : Bool) → eqb k kind ≡ t
        → when (eqb k kind && leb (pick (is_text_letter k) p 0 + n) (length texts)) (unrefused (text_refusal (shown (pick (is_text_letter k) p 0) n)) (g (shown (pick (is_text_letter k) p 0) n) (unplaced r)))
        ≡ behind (when (eqb k kind && leb (p + n) (length texts)) (unrefused (text_refusal (shown p n)) (f (shown p n) r)))
    at_kind k p n r false e = rw (e) (unfold when behind in refl)
    at_kind k p n r true e =
        let i : k ≡ kind = eqb-true k kind e in
        let j : is_text_letter k ≡ true = rw i c in
        rw j (when_blind (eqb k kind && leb (p + n) (length texts)) _ _ (unrefused_blind (text_refusal (shown p n)) _ _ (h (shown p n) r)))

-- ---- the builders

basic_blind : (texts : List ℕ) (b : Basic) (d : Depths) (l : List ℕ) → build_basic texts b (unplaced l) ≡ behind (build_basic texts b l)
unfolding build_basic
basic_blind texts bool d l = event_blind l _ _ (λ k p n r. when_blind (eqb k bool_letter && leb n 1) _ _ (made_blind (eqb n 1) r))
basic_blind texts (number c) d l = event_blind l _ _ (λ k p n r. when_blind (eqb k (number_letter c) && ltb n (256 ^ number_width c)) _ _ (made_blind n r))
basic_blind texts (text c) d l = text_blind texts (text_letter c) (from_test (is_text_letter (text_letter c)) (text_textual c)) l _ _ (λ t r. made_blind t r)

module _ {A : Type 0} (b : Builder A) (h : Blind b) where
  by_blind : (d : Depths) (k : ℕ) (r : List ℕ) → maybe_by b d k (unplaced r) ≡ behind (maybe_by b d k r)
  unfolding maybe_by
  by_blind d k r = go (eqb k nothing_letter)
    where
      d' : Depths
      d' = opened Depth.maybe d

      go : (t : Bool) → pick t (built none (unplaced r)) (when (eqb k maybe_letter) (when_shallow d' (λ x. mapped some (b x (unplaced r))))) ≡ behind (pick t (built none r) (when (eqb k maybe_letter) (when_shallow d' (λ x. mapped some (b x r)))))
      go true = made_blind none r
      go false = when_blind (eqb k maybe_letter) _ _ (shallow_blind d' _ _ (mapped_blind some _ _ (h d' r)))

  maybe_blind : Blind (build_maybe b)
  unfolding build_maybe
  maybe_blind d l = event_blind l _ _ (λ k p n r. when_blind (eqb n 0) _ _ (by_blind d k r))

  many_blind : (f : ℕ) (d : Depths) (l : List ℕ) → build_many f (b d) (unplaced l) ≡ behind (build_many f (b d) l)
  unfolding build_many
  many_blind zero d l = unfold behind in refl
  many_blind (suc f) d l = event_blind l _ _ (λ k p n r. go (eqb k container_end) (λ s. many_blind f d s))
    where
      go : (t : Bool) → ((s : List ℕ) → build_many f (b d) (unplaced s) ≡ behind (build_many f (b d) s))
          → pick t (built [] (unplaced l)) (followed (b d (unplaced l)) (λ v s. mapped (λ vs. v ∷ vs) (build_many f (b d) s)))
          ≡ behind (pick t (built [] l) (followed (b d l) (λ v s. mapped (λ vs. v ∷ vs) (build_many f (b d) s))))
      go true i = made_blind [] l
      go false i = followed_blind (b d l) (b d (unplaced l)) _ _ (h d l) (λ v s. mapped_blind (λ vs. v ∷ vs) _ _ (i s))

  array_blind : (kind : ℕ) → Blind (build_array kind b)
  unfolding build_array
  array_blind kind d l =
      rw (unplaced_length l)
      (plain_blind kind l _ _ (λ r. shallow_blind (opened Depth.array d) _ _ (sealed_blind _ _ (many_blind (length l) (opened Depth.array d) r))))

  structure_blind : Blind (build_structure b)
  unfolding build_structure
  structure_blind d l = plain_blind structure_letter l _ _ (λ r. shallow_blind (opened Depth.structure d) _ _ (sealed_blind _ _ (h (opened Depth.structure d) r)))

both_blind : {A B : Type 0} (a : Builder A) (b : Builder B) → Blind a → Blind b → Blind (build_both a b)
unfolding build_both
both_blind a b h i d l = followed_blind (a d l) (a d (unplaced l)) _ _ (h d l) (λ v r. mapped_blind (λ w. (v, w)) _ _ (i d r))

module _ {F : Tree → Type 0} (b : (t : Tree) → Builder (F t)) (h : (t : Tree) → Blind (b t)) where
  variant_by_blind : (d : Depths) (r : List ℕ) (o : Option Tree) → variant_by b d (unplaced r) o ≡ behind (variant_by b d r o)
  unfolding variant_by
  variant_by_blind d r none = unfold behind in refl
  variant_by_blind d r (some t) = shallow_blind (opened Depth.variant d) _ _ (sealed_blind _ _ (mapped_blind {B = (t : Tree) × F t} (λ v. (t, v)) _ _ (h t (opened Depth.variant d) r)))

  variant_blind : (texts : List ℕ) → Blind (build_variant texts b)
  unfolding build_variant
  variant_blind texts d l = plain_blind variant_letter l _ _ (λ q. text_blind texts signature_letter refl q _ _ (λ s r. variant_by_blind d r (type_of s)))

module _ (texts : List ℕ) {Held : Type 0} (variants : Builder Held) (hx : Blind variants) where
  mutual
    unfolding build_over

    over_blind : (t : Tree) → Blind (build_over texts variants t)
    over_blind (basic b) d l = basic_blind texts b d l
    over_blind variant d l = hx d l
    over_blind (maybe t) d l = maybe_blind (build_over texts variants t) (λ d l. over_blind t d l) d l
    over_blind (array t) d l = array_blind (build_over texts variants t) (λ d l. over_blind t d l) array_letter d l
    over_blind (dictionary b t) d l = array_blind (build_both (λ d l. build_basic texts b l) (build_over texts variants t)) (both_blind (λ d l. build_basic texts b l) (build_over texts variants t) (basic_blind texts b) (λ d l. over_blind t d l)) dictionary_letter d l
    over_blind (structure ts) d l = structure_blind (build_fields texts variants ts) (λ d l. fields_blind ts d l) d l

    fields_blind : (ts : Fields) → Blind (build_fields texts variants ts)
    fields_blind (last t) d l = over_blind t d l
    fields_blind (next t ts) d l = both_blind (build_over texts variants t) (build_fields texts variants ts) (λ d l. over_blind t d l) (λ d l. fields_blind ts d l) d l

none_blind : Blind {A = ⊥} (λ d l. fault containers_too_deep)
unfolding behind
none_blind d l = refl

build_blind : (texts : List ℕ) (n : ℕ) (t : Tree) → Blind (build texts n t)
unfolding build
build_blind texts zero t d l = over_blind texts (λ d l. fault containers_too_deep) none_blind t d l
build_blind texts (suc n) t d l = over_blind texts (build_variant texts (λ u. build texts n u)) (variant_blind (λ u. build texts n u) (λ u. build_blind texts n u) texts) t d l

-- PLACES MATTER ONLY FOR TEXTS
pub places_free : (type : List ℕ) (big : Bool) (numbers texts : List ℕ) → frame_writing type big (unplaced numbers) texts ≡ frame_writing type big numbers texts
unfolding frame_writing
places_free type big numbers texts = go (type_of type)
  where
    rest : (t : Tree) (x : Built (Value most_variants t)) → frame_built big t (behind x) ≡ frame_built big t x
    rest t (fault n) = unfold behind in refl
    rest t (built v []) = unfold behind unplaced in refl
    rest t (built v (k ∷ [])) = unfold behind unplaced frame_built in refl
    rest t (built v (k ∷ p ∷ [])) = unfold behind unplaced frame_built in refl
    rest t (built v (k ∷ p ∷ n ∷ r)) = unfold behind unplaced frame_built in refl

    go : (o : Option Tree) → frame_typed big (unplaced numbers) texts o ≡ frame_typed big numbers texts o
    go none = unfold frame_typed in refl
    go (some t) = unfold frame_typed in rw (build_blind texts most_variants t none_open numbers) (rest t (build texts most_variants t none_open numbers))
