-- Writing one event at a time, by the numbers' places in their slice: what code that walks them rests on. Assumes nothing.
use mathlib.Core.Path.{◌≡◌, refl, sym, ap, ◌∙◌}
use mathlib.Core.List.{List, [], ◌∷◌}
use mathlib.Core.Option.{none, some}
use mathlib.Core.Bool.{Bool, true, false}
use Prim.Native.Nat.{ℕ, zero, suc, ◌+◌, ◌≤◌, ◌<◌}
use native.Mathlib.Omega.{arith}
use lib.Dec.{eqb}
use lib.ListN.{length, drop, get_or, length-drop}
use lib.Seq.{drop-cons}
use borrow.Author.Tests.{eq-eqb, ne_eqb, le-leb, lt-leb, eqb-true, eqb-false}
use Rattle.meaning.specs.Refusals.{no_value}
use Rattle.meaning.specs.Texts.{text_refusal}
use Rattle.meaning.specs.Depths as Depth
use Rattle.meaning.specs.Depths.{Depths, depth_refusal, opened}
use Rattle.meaning.specs.Letters.{maybe_letter, nothing_letter, container_end}
use Rattle.meaning_writing.specs.EventsAt.{PlainAt, NotPlain, TextAt, NotText, short, other, carrying, outside, viewed}
use Rattle.meaning_writing.specs.Writing.{Built, built, fault, Builder, mapped, followed, when, unrefused, when_shallow, on_event, on_plain, sealed, maybe_by, build_maybe, build_many, build_both, on_text}

-- ---- the steps that are no event

pub unrefused_none : {A : Type 0} (n : ℕ) (x : Built A) → n ≡ 0 → unrefused n x ≡ x
unfolding unrefused
unrefused_none n x h = rw (eq-eqb n 0 h)

pub unrefused_fault : {A : Type 0} (n : ℕ) (x : Built A) → (n ≡ 0 → ⊥) → unrefused n x ≡ fault n
unfolding unrefused
unrefused_fault n x h = rw (ne_eqb n 0 h)

pub shallow_open : {A : Type 0} (d : Depths) (f : Depths → Built A) → depth_refusal d ≡ 0 → when_shallow d f ≡ f d
unfolding when_shallow
shallow_open d f h = unrefused_none (depth_refusal d) (f d) h

pub shallow_fault : {A : Type 0} (d : Depths) (f : Depths → Built A) → (depth_refusal d ≡ 0 → ⊥) → when_shallow d f ≡ fault (depth_refusal d)
unfolding when_shallow
shallow_fault d f h = unrefused_fault (depth_refusal d) (f d) h

pub mapped_built : {A B : Type 0} (f : A → B) (x : Built A) (v : A) (r : List ℕ) → x ≡ built v r → mapped f x ≡ built (f v) r
unfolding mapped
mapped_built f x v r h = rw h

pub mapped_fault : {A B : Type 0} (f : A → B) (x : Built A) (n : ℕ) → x ≡ fault n → mapped f x ≡ fault n
unfolding mapped
mapped_fault f x n h = rw h

pub both_second : {A B : Type 0} (a : Builder A) (b : Builder B) (d : Depths) (l : List ℕ) (v : A) (r : List ℕ) → a d l ≡ built v r → build_both a b d l ≡ mapped (λ w. (v, w)) (b d r)
unfolding build_both followed
both_second a b d l v r h = rw h

pub both_fault : {A B : Type 0} (a : Builder A) (b : Builder B) (d : Depths) (l : List ℕ) (n : ℕ) → a d l ≡ fault n → build_both a b d l ≡ fault n
unfolding build_both followed
both_fault a b d l n h = rw h

pub sealed_built : {A : Type 0} (x : Built A) (v : A) (l : List ℕ) → x ≡ built v l → sealed x ≡ on_plain container_end l (λ r. built v r)
unfolding sealed followed
sealed_built x v l h = rw h

pub sealed_fault : {A : Type 0} (x : Built A) (n : ℕ) → x ≡ fault n → sealed x ≡ fault n
unfolding sealed followed
sealed_fault x n h = rw h

-- ---- an event by its place

-- the numbers from a place on, where there are three or more, and where there are fewer
pub numbers_at : (ns : List ℕ) (i : ℕ) → i + 3 ≤ length ns → drop i ns ≡ get_or ns i 0 ∷ get_or ns (i + 1) 0 ∷ get_or ns (i + 2) 0 ∷ drop (i + 3) ns
numbers_at ns i h =
    let e₁ : i + 1 ≡ suc i = omega arith in
    let e₂ : i + 2 ≡ suc (suc i) = omega arith in
    let e₃ : i + 3 ≡ suc (suc (suc i)) = omega arith in
    drop-cons ns i 0 (omega arith) ∙ rw (e₁, e₂, e₃) (rw (drop-cons ns (suc i) 0 (omega arith)) (rw (drop-cons ns (suc (suc i)) 0 (omega arith))))

pub event_short : {A : Type 0} (l : List ℕ) (f : ℕ → ℕ → ℕ → List ℕ → Built A) → length l < 3 → on_event l f ≡ fault no_value
unfolding on_event
event_short [] f h = refl
event_short (k ∷ []) f h = refl
event_short (k ∷ p ∷ []) f h = refl
event_short (k ∷ p ∷ n ∷ r) f h = absurd (omega arith)

module _ {A : Type 0} (ns : List ℕ) (i : ℕ) where
  pub at_end : (f : ℕ → ℕ → ℕ → List ℕ → Built A) → length ns < i + 3 → on_event (drop i ns) f ≡ fault no_value
  at_end f h = event_short (drop i ns) f (rw (length-drop i ns) (omega arith))

  pub at_event : (f : ℕ → ℕ → ℕ → List ℕ → Built A) → i + 3 ≤ length ns → on_event (drop i ns) f ≡ f (get_or ns i 0) (get_or ns (i + 1) 0) (get_or ns (i + 2) 0) (drop (i + 3) ns)
  unfolding on_event
  at_event f h = rw (numbers_at ns i h, on_event)

  -- an event of a kind that carries only 0
  module _ (kind : ℕ) (f : List ℕ → Built A) where
    pub plain_end : length ns < i + 3 → on_plain kind (drop i ns) f ≡ fault no_value
    unfolding on_plain
    plain_end h = at_end _ h

    pub plain_other : i + 3 ≤ length ns → (get_or ns i 0 ≡ kind → ⊥) → on_plain kind (drop i ns) f ≡ fault no_value
    unfolding on_plain when
    plain_other h e = at_event _ h ∙ rw (ne_eqb (get_or ns i 0) kind e)

    pub plain_carries : i + 3 ≤ length ns → get_or ns i 0 ≡ kind → (get_or ns (i + 2) 0 ≡ 0 → ⊥) → on_plain kind (drop i ns) f ≡ fault no_value
    unfolding on_plain when
    plain_carries h e g = at_event _ h ∙ rw (eq-eqb (get_or ns i 0) kind e, ne_eqb (get_or ns (i + 2) 0) 0 g)

    pub plain_here : i + 3 ≤ length ns → get_or ns i 0 ≡ kind → get_or ns (i + 2) 0 ≡ 0 → on_plain kind (drop i ns) f ≡ f (drop (i + 3) ns)
    unfolding on_plain when
    plain_here h e g = at_event _ h ∙ rw (eq-eqb (get_or ns i 0) kind e, eq-eqb (get_or ns (i + 2) 0) 0 g)

  -- a text
  module _ (texts : List ℕ) (kind : ℕ) (f : List ℕ → List ℕ → Built A) where
    pub text_end : length ns < i + 3 → on_text texts kind (drop i ns) f ≡ fault no_value
    unfolding on_text
    text_end h = at_end _ h

    pub text_other : i + 3 ≤ length ns → (get_or ns i 0 ≡ kind → ⊥) → on_text texts kind (drop i ns) f ≡ fault no_value
    unfolding on_text when
    text_other h e = at_event _ h ∙ rw (ne_eqb (get_or ns i 0) kind e)

    pub text_outside : i + 3 ≤ length ns → get_or ns i 0 ≡ kind → length texts < get_or ns (i + 1) 0 + get_or ns (i + 2) 0 → on_text texts kind (drop i ns) f ≡ fault no_value
    unfolding on_text when
    text_outside h e g = at_event _ h ∙ rw (eq-eqb (get_or ns i 0) kind e, lt-leb (get_or ns (i + 1) 0 + get_or ns (i + 2) 0) (length texts) g)

    pub text_inside : i + 3 ≤ length ns → get_or ns i 0 ≡ kind → get_or ns (i + 1) 0 + get_or ns (i + 2) 0 ≤ length texts → on_text texts kind (drop i ns) f ≡ unrefused (text_refusal (viewed texts ns i)) (f (viewed texts ns i) (drop (i + 3) ns))
    unfolding on_text when
    text_inside h e g = at_event _ h ∙ rw (eq-eqb (get_or ns i 0) kind e, le-leb (get_or ns (i + 1) 0 + get_or ns (i + 2) 0) (length texts) g)

-- ---- the same by facts that a contract can state

pub on_plain_at : {A : Type 0} {kind : ℕ} {ns : List ℕ} {i : ℕ} (f : List ℕ → Built A) → PlainAt kind ns i → on_plain kind (drop i ns) f ≡ f (drop (i + 3) ns)
on_plain_at {A} {kind} {ns} {i} f h = plain_here ns i kind f h.whole h.kind_is h.carries

pub on_plain_not : {A : Type 0} {kind : ℕ} {ns : List ℕ} {i : ℕ} (f : List ℕ → Built A) → NotPlain kind ns i → on_plain kind (drop i ns) f ≡ fault no_value
on_plain_not {A} {kind} {ns} {i} f (short h) = plain_end ns i kind f h
on_plain_not {A} {kind} {ns} {i} f (other h g) = plain_other ns i kind f h g
on_plain_not {A} {kind} {ns} {i} f (carrying h e g) = plain_carries ns i kind f h e g

pub on_text_at : {A : Type 0} {texts : List ℕ} {kind : ℕ} {ns : List ℕ} {i : ℕ} (f : List ℕ → List ℕ → Built A) → TextAt texts kind ns i
    → on_text texts kind (drop i ns) f ≡ unrefused (text_refusal (viewed texts ns i)) (f (viewed texts ns i) (drop (i + 3) ns))
on_text_at {A} {texts} {kind} {ns} {i} f h = text_inside ns i texts kind f h.whole h.kind_is h.contained

pub on_text_not : {A : Type 0} {texts : List ℕ} {kind : ℕ} {ns : List ℕ} {i : ℕ} (f : List ℕ → List ℕ → Built A) → NotText texts kind ns i → on_text texts kind (drop i ns) f ≡ fault no_value
on_text_not {A} {texts} {kind} {ns} {i} f (short h) = text_end ns i texts kind f h
on_text_not {A} {texts} {kind} {ns} {i} f (other h g) = text_other ns i texts kind f h g
on_text_not {A} {texts} {kind} {ns} {i} f (outside h e g) = text_outside ns i texts kind f h e g

-- ---- a maybe by its event

module _ {A : Type 0} (child : Builder A) (d : Depths) (ns : List ℕ) (i : ℕ) where
  pub maybe_end : length ns < i + 3 → build_maybe child d (drop i ns) ≡ fault no_value
  unfolding build_maybe
  maybe_end h = at_end ns i _ h

  pub maybe_carries : i + 3 ≤ length ns → (get_or ns (i + 2) 0 ≡ 0 → ⊥) → build_maybe child d (drop i ns) ≡ fault no_value
  unfolding build_maybe when
  maybe_carries h e = at_event ns i _ h ∙ rw (ne_eqb (get_or ns (i + 2) 0) 0 e)

  module _ (h : i + 3 ≤ length ns) (e : get_or ns (i + 2) 0 ≡ 0) where
    maybe_kind : build_maybe child d (drop i ns) ≡ maybe_by child d (get_or ns i 0) (drop (i + 3) ns)
    unfolding build_maybe when
    maybe_kind = at_event ns i _ h ∙ rw (eq-eqb (get_or ns (i + 2) 0) 0 e)

    pub maybe_nothing : get_or ns i 0 ≡ nothing_letter → build_maybe child d (drop i ns) ≡ built none (drop (i + 3) ns)
    unfolding maybe_by
    maybe_nothing g = maybe_kind ∙ rw (eq-eqb (get_or ns i 0) nothing_letter g)

    pub maybe_other : (get_or ns i 0 ≡ nothing_letter → ⊥) → (get_or ns i 0 ≡ maybe_letter → ⊥) → build_maybe child d (drop i ns) ≡ fault no_value
    unfolding maybe_by when
    maybe_other g k = maybe_kind ∙ rw (ne_eqb (get_or ns i 0) nothing_letter g, ne_eqb (get_or ns i 0) maybe_letter k)

    pub maybe_present : get_or ns i 0 ≡ maybe_letter → build_maybe child d (drop i ns) ≡ when_shallow (opened Depth.maybe d) (λ d'. mapped some (child d' (drop (i + 3) ns)))
    unfolding maybe_by when
    maybe_present g = maybe_kind ∙ rw g

-- ---- elements: the number of steps allowed makes no difference where it is the numbers' length or more

abbrev pub Shorter : {A : Type 0} → (List ℕ → Built A) → Type 0
Shorter {A} child = (l : List ℕ) (v : A) (r : List ℕ) → child l ≡ built v r → length r < length l

module _ {A : Type 0} (child : List ℕ → Built A) where
  pub many_end : (f : ℕ) (l : List ℕ) → length l < 3 → build_many f child l ≡ fault no_value
  unfolding build_many
  many_end zero l h = refl
  many_end (suc f) l h = event_short l _ h

  pub many_closes : (f k p n : ℕ) (r : List ℕ) → k ≡ container_end → build_many (suc f) child (k ∷ p ∷ n ∷ r) ≡ built [] (k ∷ p ∷ n ∷ r)
  unfolding build_many on_event
  many_closes f k p n r e = rw (eq-eqb k container_end e)

  pub many_fault : (f k p n : ℕ) (r : List ℕ) (m : ℕ) → (k ≡ container_end → ⊥) → child (k ∷ p ∷ n ∷ r) ≡ fault m → build_many (suc f) child (k ∷ p ∷ n ∷ r) ≡ fault m
  unfolding build_many on_event followed
  many_fault f k p n r m e h = rw (ne_eqb k container_end e, h)

  pub many_more : (f k p n : ℕ) (r : List ℕ) (v : A) (s : List ℕ) → (k ≡ container_end → ⊥) → child (k ∷ p ∷ n ∷ r) ≡ built v s
      → build_many (suc f) child (k ∷ p ∷ n ∷ r) ≡ mapped (λ vs. v ∷ vs) (build_many f child s)
  unfolding build_many on_event followed
  many_more f k p n r v s e h = rw (ne_eqb k container_end e, h)

  pub many_enough : Shorter child → (f g : ℕ) (l : List ℕ) → length l ≤ f → length l ≤ g → build_many f child l ≡ build_many g child l
  many_enough sh zero g l hf hg = many_end zero l (omega arith) ∙ sym (many_end g l (omega arith))
  many_enough sh (suc f) zero l hf hg = many_end (suc f) l (omega arith) ∙ sym (many_end zero l (omega arith))
  many_enough sh (suc f) (suc g) [] hf hg = many_end (suc f) [] (omega arith) ∙ sym (many_end (suc g) [] (omega arith))
  many_enough sh (suc f) (suc g) (k ∷ []) hf hg = many_end (suc f) (k ∷ []) (omega arith) ∙ sym (many_end (suc g) (k ∷ []) (omega arith))
  many_enough sh (suc f) (suc g) (k ∷ p ∷ []) hf hg = many_end (suc f) (k ∷ p ∷ []) (omega arith) ∙ sym (many_end (suc g) (k ∷ p ∷ []) (omega arith))
  many_enough sh (suc f) (suc g) (k ∷ p ∷ n ∷ r) hf hg = go (eqb k container_end) refl (child (k ∷ p ∷ n ∷ r)) refl (λ s i j. many_enough sh f g s i j)
    where
      go : (t : Bool) → eqb k container_end ≡ t → (x : Built A) → child (k ∷ p ∷ n ∷ r) ≡ x → ((s : List ℕ) → length s ≤ f → length s ≤ g → build_many f child s ≡ build_many g child s)
          → build_many (suc f) child (k ∷ p ∷ n ∷ r) ≡ build_many (suc g) child (k ∷ p ∷ n ∷ r)
      go true c x e i = many_closes f k p n r (eqb-true k container_end c) ∙ sym (many_closes g k p n r (eqb-true k container_end c))
      go false c (fault m) e i = many_fault f k p n r m (eqb-false k container_end c) e ∙ sym (many_fault g k p n r m (eqb-false k container_end c) e)
      go false c (built v s) e i =
          let h = sh (k ∷ p ∷ n ∷ r) v s e in
          many_more f k p n r v s (eqb-false k container_end c) e ∙ ap (mapped (λ vs. v ∷ vs)) (i s (omega arith) (omega arith)) ∙ sym (many_more g k p n r v s (eqb-false k container_end c) e)
