-- The events of a value spell that value: the builders find it again, wherever its depth is allowed. Assumes nothing.
use mathlib.Core.Path.{◌≡◌, refl, ap, ◌∙◌}
use mathlib.Core.List.{List, [], ◌∷◌, ◌++◌, map, append-nil}
use mathlib.Core.Option.{Option, none, some}
use mathlib.Core.Bool.{Bool, true, false, ◌&&◌}
use Prim.Native.Nat.{ℕ, zero, suc, ◌+◌, ◌^◌, ◌≤◌, ◌<◌}
use native.Mathlib.Omega.{arith}
use lib.Dec.{T, ltb, eqb}
use lib.ListN.{length, length-append}
use borrow.Author.Tests.{eq-eqb, le-leb}
use Rattle.meaning.specs.Refusals.{containers_too_deep}
use Rattle.meaning.specs.Padding.{padding}
use Rattle.meaning.specs.Texts.{text_refusal}
use Rattle.meaning.specs.Depths as Depth
use Rattle.meaning.specs.Depths.{Depths, depth_refusal, opened}
use Rattle.meaning.specs.Types.{Number, Basic, bool, number, text, Tree, Fields, basic, variant, maybe, array, dictionary, structure, last, next, number_width, alignment, largest_alignment, fixed, all_fixed, entry_alignment, entry_fixed}
use Rattle.meaning.specs.Letters.{bool_letter, number_letter, signature_letter, text_letter, is_text_letter, variant_letter, array_letter, dictionary_letter, structure_letter, container_end}
use Rattle.meaning.specs.TypeText.{type_text, type_of}
use Rattle.meaning.specs.Events.{Event, event, text_event, opening, closing, present, nothing}
use Rattle.meaning.specs.Values.{BasicValue}
use Rattle.meaning.specs.Written.{Piece, fits, stop, events_from, deeper, bit, basic_piece, maybe_piece, array_bytes, array_piece, structure_bytes, structure_piece, entry_piece, variant_piece, piece_over, pieces_over, piece}
use Rattle.meaning_writing.specs.Writing.{Built, built, fault, Builder, mapped, followed, when, unrefused, when_shallow, on_event, on_plain, sealed, maybe_by, build_maybe, build_many, build_array, build_both, build_structure, variant_by, on_text, build_basic, build_variant, build_over, build_fields, build}
use Rattle.meaning_writing.specs.Shown.{ShowsOne, Shows, ended, more}
use Rattle.meaning.proofs.Tests.{both_left, both_right, from_test}
use Rattle.meaning_writing.proofs.ShownLaws.{number_plain, text_textual, text_no_close, Starts, starts_more, one_shown, parted, shown_length}
use Rattle.meaning.proofs.TypeTextLaws.{type_text_no_nul, type_text_utf8, type_of_type_text}
use Rattle.meaning.proofs.FitLaws.{all_fit, all_fit_lem, held_fits, children_fit, variant_fits}

module _ (texts : List ℕ) where
  -- ---- the steps of a builder

  on_plain_lem : {A : Type 0} (kind q : ℕ) {l r : List ℕ} (f : List ℕ → Built A) (x : Built A) → ShowsOne texts l (event kind q 0) r → f r ≡ x → on_plain kind l f ≡ x
  unfolding on_plain on_event when
  on_plain_lem kind q f x s h = rw (s.is, on_event) (rw (eq-eqb kind kind refl) h)

  unrefused_done : {A : Type 0} (n : ℕ) (x : Built A) → T (eqb n 0) → unrefused n x ≡ x
  unfolding unrefused
  unrefused_done n x t = rw (from_test (eqb n 0) t)

  shallow_done : {A : Type 0} (d : Depths) (g : Depths → Bool) (f : Depths → Built A) (x : Built A) → T (deeper d g) → (T (g d) → f d ≡ x) → when_shallow d f ≡ x
  unfolding when_shallow
  shallow_done d g f x t h = unrefused_done (depth_refusal d) (f d) (both_left (eqb (depth_refusal d) 0) (g d) t) ∙ h (both_right (eqb (depth_refusal d) 0) (g d) t)

  sealed_done : {A : Type 0} (x : Built A) (v : A) (q : ℕ) {l r : List ℕ} → x ≡ built v l → ShowsOne texts l (closing q) r → sealed x ≡ built v r
  unfolding sealed followed
  sealed_done x v q {l} {r} h s = rw h (on_plain_lem container_end q (λ r. built v r) (built v r) s refl)

  -- a builder finds the value again whose events are shown
  pub record Builds {A : Type 0} (p : A → Piece) (b : Builder A) : Type 0 where
    pub builds : (v : A) (d : Depths) (k : ℕ) (l r : List ℕ) → T (fits (p v) d) → Shows texts l ((p v).events k) r → b d l ≡ built v r
    pub starts : (v : A) (k : ℕ) → Starts ((p v).events k)

  -- ---- basic values

  bool_built : (v : Bool) (k : ℕ) (l r : List ℕ) → ShowsOne texts l (event bool_letter k (bit v)) r → build_basic texts bool l ≡ built v r
  unfolding build_basic on_event when
  bool_built true k l r s = rw (s.is, on_event)
  bool_built false k l r s = rw (s.is, on_event)

  number_built : (c : Number) (v k : ℕ) (l r : List ℕ) → T (ltb v (256 ^ number_width c)) → ShowsOne texts l (event (number_letter c) k v) r → build_basic texts (number c) l ≡ built v r
  unfolding build_basic on_event when
  number_built c v k l r f s = rw (s.is, on_event) (rw (eq-eqb (number_letter c) (number_letter c) refl, from_test (ltb v (256 ^ number_width c)) f))

  on_text_lem : {A : Type 0} (kind : ℕ) (k : ℕ) (v : List ℕ) {l r : List ℕ} (f : List ℕ → List ℕ → Built A) → T (is_text_letter kind) → T (eqb (text_refusal v) 0)
      → ShowsOne texts l (text_event kind k v) r → on_text texts kind l f ≡ f v r
  unfolding on_text on_event when
  on_text_lem kind k v {l} {r} f t g s =
      rw (s.is, on_event) (rw (eq-eqb kind kind refl, le-leb (s.place + length v) (length texts) (s.contained t), s.same t) (unrefused_done (text_refusal v) (f v r) g))

  basic_built : (big : Bool) (b : Basic) (v : BasicValue b) (d : Depths) (k : ℕ) (l r : List ℕ) → T (fits (basic_piece big b v) d) → Shows texts l ((basic_piece big b v).events k) r → build_basic texts b l ≡ built v r
  unfolding basic_piece
  basic_built big bool v d k l r f s = bool_built v k l r (one_shown texts s)
  basic_built big (number c) v d k l r f s = number_built c v k l r (both_left (ltb v (256 ^ number_width c)) true f) (one_shown texts s)
  basic_built big (text c) v d k l r f s = unfold build_basic in on_text_lem (text_letter c) k v (λ t r. built t r) (text_textual c) (both_left (eqb (text_refusal v) 0) true f) (one_shown texts s)

  pub basic_starts : (big : Bool) (b : Basic) (v : BasicValue b) (k : ℕ) → Starts ((basic_piece big b v).events k)
  unfolding basic_piece
  basic_starts big bool v k = record { first = event bool_letter k (bit v); rest = []; is = refl; no_close = refl }
  basic_starts big (number c) v k = record { first = event (number_letter c) k v; rest = []; is = refl; no_close = (number_plain c).no_close }
  basic_starts big (text c) v k = record { first = text_event (text_letter c) k v; rest = []; is = refl; no_close = text_no_close c }

  basic_builds : (big : Bool) (b : Basic) → Builds (basic_piece big b) (λ d l. build_basic texts b l)
  basic_builds big b = record { builds = basic_built big b; starts = basic_starts big b }

  -- ---- maybes
  module _ {A : Type 0} (a : ℕ) (fx : Bool) (p : A → Piece) (b : Builder A) (g : Builds p b) where
    maybe_built : (v : Option A) (d : Depths) (k : ℕ) (l r : List ℕ) → T (fits (maybe_piece a fx p v) d) → Shows texts l ((maybe_piece a fx p v).events k) r → build_maybe b d l ≡ built v r
    unfolding maybe_piece build_maybe on_event when maybe_by
    maybe_built none d k l r f (more h ended) = rw (h.is, on_event)
    maybe_built (some v) d k l r f (more {m = m} h s) =
        rw (h.is, on_event)
        (shallow_done (opened Depth.maybe d) (fits (p v)) (λ d'. mapped some (b d' m)) (built (some v) r) (held_fits (p v) (opened Depth.maybe d) f) (λ f'. unfold mapped in rw (g.builds v (opened Depth.maybe d) k m r f' s)))

    maybe_starts : (v : Option A) (k : ℕ) → Starts ((maybe_piece a fx p v).events k)
    unfolding maybe_piece
    maybe_starts none k = record { first = nothing k; rest = []; is = refl; no_close = refl }
    maybe_starts (some v) k = record { first = present k; rest = (p v).events k; is = refl; no_close = refl }

    maybe_builds : Builds (maybe_piece a fx p) (build_maybe b)
    maybe_builds = record { builds = maybe_built; starts = maybe_starts }

  -- ---- elements, up to an event that closes

  pub record First (l : List ℕ) : Type 0 where
    pub kind : ℕ
    pub place : ℕ
    pub payload : ℕ
    pub rest : List ℕ
    pub is : l ≡ kind ∷ place ∷ payload ∷ rest
    pub no_close : eqb kind container_end ≡ false

  first_shown : {l r : List ℕ} {es : List Event} → Starts es → Shows texts l es r → First l
  first_shown {l} {r} h s = go (rw h.is at s)
    where
      go : Shows texts l (h.first ∷ h.rest) r → First l
      go (more i t) = record { kind = h.first.kind; place = i.place; payload = h.first.payload; rest = _; is = i.is; no_close = h.no_close }

  many_step : {A : Type 0} (f : ℕ) (child : List ℕ → Built A) (v : A) (vs : List A) (l m s : List ℕ) → First l → child l ≡ built v m → build_many f child m ≡ built vs s → build_many (suc f) child l ≡ built (v ∷ vs) s
  unfolding build_many on_event followed mapped
  many_step f child v vs l m s h hb hr =
      let hb' = rw h.is at hb in
      rw (h.is, on_event) (rw (h.no_close, hb') (rw hr))

  many_end : {A : Type 0} (f q : ℕ) (child : List ℕ → Built A) {l r : List ℕ} → ShowsOne texts l (closing q) r → build_many (suc f) child l ≡ built [] l
  unfolding build_many on_event
  many_end f q child s = rw (s.is, on_event)

  module _ {A : Type 0} (p : A → Piece) (b : Builder A) (g : Builds p b) where
    many_built : (vs : List A) (f : ℕ) (d : Depths) (k j q : ℕ) {l m r : List ℕ} → length vs < f → T (all_fit (map p vs) d)
        → Shows texts l (events_from k j (map p vs)) m → ShowsOne texts m (closing q) r → build_many f (b d) l ≡ built vs m
    unfolding events_from all_fit
    many_built vs zero d k j q h t s c = absurd (omega arith)
    many_built [] (suc f) d k j q h t ended c = many_end f q (b d) c
    many_built (v ∷ vs) (suc f) d k j q {l} {m} h t s c =
        let x : ℕ = k + (j + padding j (p v).alignment) in
        let i = parted texts ((p v).events x) (events_from k (stop j (p v)) (map p vs)) s in
        many_step f (b d) v vs l i.middle m (first_shown (g.starts v x) i.front)
        (g.builds v d x l i.middle (both_left (fits (p v) d) (all_fit (map p vs) d) t) i.front)
        (many_built vs f d k (stop j (p v)) q (omega arith) (both_right (fits (p v) d) (all_fit (map p vs) d) t) i.behind c)

    -- an element has an event or more
    many_events : (vs : List A) (k j : ℕ) → length vs ≤ length (events_from k j (map p vs))
    unfolding events_from
    many_events [] k j = omega arith
    many_events (v ∷ vs) k j =
        let x : ℕ = k + (j + padding j (p v).alignment) in
        let e = g.starts v x in
        let n : 0 < length ((p v).events x) = rw e.is (omega arith) in
        rw (length-append ((p v).events x)) (omega (arith, many_events vs k (stop j (p v))))

    array_built : (kind a : ℕ) (fx : Bool) (vs : List A) (d : Depths) (k : ℕ) (l r : List ℕ) → T (fits (array_piece kind a fx (map p vs)) d)
        → Shows texts l ((array_piece kind a fx (map p vs)).events k) r → build_array kind b d l ≡ built vs r
    unfolding array_piece build_array
    array_built kind a fx vs d k l r t (more {m = m} h s) =
        let q : ℕ = k + length (array_bytes fx (map p vs)) in
        let es : List Event = events_from k 0 (map p vs) in
        let i = parted texts es (closing q ∷ []) s in
        let few : length vs < length l = omega (arith, ap length h.is, shown_length texts s, length-append es (closing q ∷ []), many_events vs k 0) in
        on_plain_lem kind k (λ r. when_shallow (opened Depth.array d) (λ d'. sealed (build_many (length l) (b d') r))) (built vs r) h
        (shallow_done (opened Depth.array d) (all_fit (map p vs)) (λ d'. sealed (build_many (length l) (b d') m)) (built vs r) (children_fit (map p vs) (opened Depth.array d) t)
        (λ t'. sealed_done (build_many (length l) (b (opened Depth.array d)) m) vs q
        (many_built vs (length l) (opened Depth.array d) k 0 q few t' i.front (one_shown texts i.behind)) (one_shown texts i.behind)))

    array_builds : (kind a : ℕ) (fx : Bool) → eqb kind container_end ≡ false → Builds (λ vs. array_piece kind a fx (map p vs)) (build_array kind b)
    array_builds kind a fx n = record {
      builds = array_built kind a fx;
      starts = λ vs k. unfold array_piece in record { first = opening kind k; rest = _; is = refl; no_close = n };
    }

  -- ---- a fixed number of children, one behind another

  pub record BuildsAll {A : Type 0} (p : A → List Piece) (b : Builder A) : Type 0 where
    pub builds : (v : A) (d : Depths) (k j : ℕ) (l r : List ℕ) → T (all_fit (p v) d) → Shows texts l (events_from k j (p v)) r → b d l ≡ built v r
    pub starts : (v : A) (k j : ℕ) → Starts (events_from k j (p v))

  one_builds : {A : Type 0} (p : A → Piece) (b : Builder A) → Builds p b → BuildsAll (λ v. p v ∷ []) b
  unfolding events_from all_fit
  one_builds p b g = record {
    builds = λ v d k j l r f s. g.builds v d _ l r (both_left (fits (p v) d) true f) (rw append-nil at s);
    starts = λ v k j. rw append-nil (g.starts v _);
  }

  module _ {A B : Type 0} (p : A → Piece) (b : Builder A) (g : Builds p b) (q : B → List Piece) (c : Builder B) (h : BuildsAll q c) where
    both_built : (v : A × B) (d : Depths) (k j : ℕ) (l r : List ℕ) → T (fits (p v.0) d && all_fit (q v.1) d) → Shows texts l (events_from k j (p v.0 ∷ q v.1)) r → build_both b c d l ≡ built v r
    unfolding build_both followed mapped events_from
    both_built v d k j l r f s =
        let x : ℕ = k + (j + padding j (p v.0).alignment) in
        let i = parted texts ((p v.0).events x) (events_from k (stop j (p v.0)) (q v.1)) s in
        rw (g.builds v.0 d x l i.middle (both_left (fits (p v.0) d) (all_fit (q v.1) d) f) i.front)
        (rw (h.builds v.1 d k (stop j (p v.0)) i.middle r (both_right (fits (p v.0) d) (all_fit (q v.1) d) f) i.behind))

    both_builds : BuildsAll (λ (v : A × B). p v.0 ∷ q v.1) (build_both b c)
    unfolding events_from all_fit
    both_builds = record { builds = both_built; starts = λ v k j. starts_more (g.starts v.0 _) _ }

  entry_builds : {A : Type 0} (a : ℕ) (fx : Bool) (p : A → List Piece) (b : Builder A) → BuildsAll p b → Builds (λ v. entry_piece a fx (p v)) b
  unfolding entry_piece
  entry_builds a fx p b g = record { builds = λ v d k l r f s. g.builds v d k 0 l r (all_fit_lem (p v) d f) s; starts = λ v k. g.starts v k 0 }

  structure_built : {A : Type 0} (a : ℕ) (fx : Bool) (p : A → List Piece) (b : Builder A) → BuildsAll p b → (v : A) (d : Depths) (k : ℕ) (l r : List ℕ) → T (fits (structure_piece a fx (p v)) d)
      → Shows texts l ((structure_piece a fx (p v)).events k) r → build_structure b d l ≡ built v r
  unfolding structure_piece build_structure
  structure_built a fx p b g v d k l r t (more {m = m} h s) =
      let q : ℕ = k + length (structure_bytes a fx (p v)) in
      let i = parted texts (events_from k 0 (p v)) (closing q ∷ []) s in
      on_plain_lem structure_letter k (λ r. when_shallow (opened Depth.structure d) (λ d'. sealed (b d' r))) (built v r) h
      (shallow_done (opened Depth.structure d) (all_fit (p v)) (λ d'. sealed (b d' m)) (built v r) (children_fit (p v) (opened Depth.structure d) t)
      (λ t'. sealed_done (b (opened Depth.structure d) m) v q (g.builds v (opened Depth.structure d) k 0 m i.middle t' i.front) (one_shown texts i.behind)))

  structure_builds : {A : Type 0} (a : ℕ) (fx : Bool) (p : A → List Piece) (b : Builder A) → BuildsAll p b → Builds (λ v. structure_piece a fx (p v)) (build_structure b)
  structure_builds a fx p b g = record {
    builds = structure_built a fx p b g;
    starts = λ v k. unfold structure_piece in record { first = opening structure_letter k; rest = _; is = refl; no_close = refl };
  }

  -- ---- variants

  type_plain : (t : Tree) → T (eqb (text_refusal (type_text t)) 0)
  unfolding text_refusal
  type_plain t = rw (type_text_no_nul t, type_text_utf8 t) tt

  module _ {F : Tree → Type 0} (p : (t : Tree) → F t → Piece) (b : (t : Tree) → Builder (F t)) (g : (t : Tree) → Builds (p t) (b t)) where
    variant_held : (t : Tree) (v : F t) (d : Depths) (k : ℕ) (l m : List ℕ) → T (fits (p t v) (opened Depth.variant d)) → Shows texts l ((p t v).events k) m
        → mapped {B = (t : Tree) × F t} (λ w. (t, w)) (b t (opened Depth.variant d) l) ≡ built (t, v) m
    unfolding mapped
    variant_held t v d k l m f s = rw ((g t).builds v (opened Depth.variant d) k l m f s)

    variant_by_lem : (t : Tree) (v : F t) (d : Depths) (k q : ℕ) {l m r : List ℕ} → length (type_text t) ≤ 255 → T (deeper (opened Depth.variant d) (fits (p t v)))
        → Shows texts l ((p t v).events k) m → ShowsOne texts m (closing q) r → variant_by b d l (type_of (type_text t)) ≡ built (t, v) r
    unfolding variant_by
    variant_by_lem t v d k q {l} {m} {r} n f s c =
        let x : (t : Tree) × F t = (t, v) in
        rw (type_of_type_text t n)
        (shallow_done (opened Depth.variant d) (fits (p t v)) _ (built x r) f (λ f'. sealed_done _ x q (variant_held t v d k l m f' s) c))

    variant_built : (x : (t : Tree) × F t) (d : Depths) (k : ℕ) (l r : List ℕ) → T (fits (variant_piece x.0 (p x.0 x.1)) d)
        → Shows texts l ((variant_piece x.0 (p x.0 x.1)).events k) r → build_variant texts b d l ≡ built x r
    unfolding variant_piece build_variant
    variant_built x d k l r f (more {m = m} h (more {m = n} h' s)) =
        let t : List ℕ = type_text x.0 in
        let c : Piece = p x.0 x.1 in
        let q : ℕ = k + length (c.bytes ++ (0 ∷ t)) in
        let i = parted texts (c.events k) (closing q ∷ []) s in
        let u = variant_fits x.0 c d f in
        on_plain_lem variant_letter k _ (built x r) h
        (on_text_lem signature_letter (k + (length c.bytes + 1)) t (λ s r. variant_by b d r (type_of s)) tt (type_plain x.0) h'
        ∙ variant_by_lem x.0 x.1 d k q u.short u.held i.front (one_shown texts i.behind))

    variant_builds : Builds (λ (x : (t : Tree) × F t). variant_piece x.0 (p x.0 x.1)) (build_variant texts b)
    variant_builds = record {
      builds = variant_built;
      starts = λ x k. unfold variant_piece in record { first = opening variant_letter k; rest = _; is = refl; no_close = refl };
    }

  -- ---- by induction over the type, and over how many variants stand one inside another

  module _ (big : Bool) {Held : Type 0} (held : Held → Piece) (variants : Builder Held) (hx : Builds held variants) where
    mutual
      unfolding piece_over build_over

      pub over_builds : (t : Tree) → Builds (piece_over big held t) (build_over texts variants t)
      over_builds (basic b) = basic_builds big b
      over_builds variant = hx
      over_builds (maybe t) = maybe_builds (alignment t) (fixed t) (piece_over big held t) (build_over texts variants t) (over_builds t)
      over_builds (array t) = array_builds (piece_over big held t) (build_over texts variants t) (over_builds t) array_letter (alignment t) (fixed t) refl
      over_builds (dictionary b t) = array_builds _ _
          (entry_builds (entry_alignment b t) (entry_fixed b t) (λ x. basic_piece big b x.0 ∷ piece_over big held t x.1 ∷ []) (build_both (λ d l. build_basic texts b l) (build_over texts variants t))
          (both_builds (basic_piece big b) (λ d l. build_basic texts b l) (basic_builds big b) (λ v. piece_over big held t v ∷ []) (build_over texts variants t)
          (one_builds (piece_over big held t) (build_over texts variants t) (over_builds t))))
          dictionary_letter (entry_alignment b t) (entry_fixed b t) refl
      over_builds (structure ts) = structure_builds (largest_alignment ts) (all_fixed ts) (pieces_over big held ts) (build_fields texts variants ts) (fields_build ts)

      pub fields_build : (ts : Fields) → BuildsAll (pieces_over big held ts) (build_fields texts variants ts)
      fields_build (last t) = one_builds (piece_over big held t) (build_over texts variants t) (over_builds t)
      fields_build (next t ts) = both_builds (piece_over big held t) (build_over texts variants t) (over_builds t) (pieces_over big held ts) (build_fields texts variants ts) (fields_build ts)

  pub all_build : (big : Bool) (n : ℕ) (t : Tree) → Builds (piece big n t) (build texts n t)
  unfolding piece build
  all_build big zero t = over_builds big (λ x. absurd x) (λ d l. fault containers_too_deep) (record { builds = λ v. absurd v; starts = λ v. absurd v }) t
  all_build big (suc n) t = over_builds big (λ x. variant_piece x.0 (piece big n x.0 x.1)) (build_variant texts (λ u. build texts n u)) (variant_builds (piece big n) (λ u. build texts n u) (all_build big n)) t
