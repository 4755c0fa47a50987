-- Laws of numbers that show events: one behind another, and by their kinds. Assumes nothing.
use mathlib.Core.Path.{◌≡◌, refl, ap, ◌∙◌}
use mathlib.Core.List.{List, [], ◌∷◌, ◌++◌}
use mathlib.Core.Bool.{false}
use Prim.Native.Nat.{ℕ, ◌+◌, ◌*◌}
use native.Mathlib.Omega.{arith}
use lib.Dec.{T, eqb}
use lib.ListN.{length}
use Rattle.meaning.specs.Types.{Number, byte, int16, uint16, int32, uint32, int64, uint64, double, Text, string, object_path, signature}
use Rattle.meaning.specs.Letters.{number_letter, text_letter, is_text_letter, container_end}
use Rattle.meaning.specs.Events.{Event, event}
use Rattle.meaning_writing.specs.Shown.{ShowsOne, Shows, ended, more}

-- ---- kinds

-- neither a text nor a close
pub record Plain (kind : ℕ) : Type 0 where
  pub no_text : is_text_letter kind ≡ false
  pub no_close : eqb kind container_end ≡ false

pub number_plain : (c : Number) → Plain (number_letter c)
number_plain byte = record { no_text = refl; no_close = refl }
number_plain int16 = record { no_text = refl; no_close = refl }
number_plain uint16 = record { no_text = refl; no_close = refl }
number_plain int32 = record { no_text = refl; no_close = refl }
number_plain uint32 = record { no_text = refl; no_close = refl }
number_plain int64 = record { no_text = refl; no_close = refl }
number_plain uint64 = record { no_text = refl; no_close = refl }
number_plain double = record { no_text = refl; no_close = refl }

pub text_textual : (c : Text) → T (is_text_letter (text_letter c))
text_textual string = tt
text_textual object_path = tt
text_textual signature = tt

pub text_no_close : (c : Text) → eqb (text_letter c) container_end ≡ false
text_no_close string = refl
text_no_close object_path = refl
text_no_close signature = refl

pub not_textual : {P : Type 0} (kind : ℕ) → is_text_letter kind ≡ false → T (is_text_letter kind) → P
not_textual kind h t = absurd (rw h at t)

-- ---- events of which the first closes nothing

pub record Starts (es : List Event) : Type 0 where
  pub first : Event
  pub rest : List Event
  pub is : es ≡ first ∷ rest
  pub no_close : eqb first.kind container_end ≡ false

pub starts_more : {es : List Event} → Starts es → (fs : List Event) → Starts (es ++ fs)
starts_more s fs = record { first = s.first; rest = s.rest ++ fs; is = ap (λ (l : List Event). l ++ fs) s.is; no_close = s.no_close }

-- ---- numbers that show events one behind another

module _ (texts : List ℕ) where
  -- an event that is no text, at any place
  pub shows_one : {l m : List ℕ} (kind q n p : ℕ) → is_text_letter kind ≡ false → l ≡ kind ∷ p ∷ n ∷ m → ShowsOne texts l (event kind q n) m
  shows_one kind q n p h e = record { place = p; is = e; contained = λ t. not_textual kind h t; same = λ t. not_textual kind h t }

  pub one_shown : {l r : List ℕ} {e : Event} → Shows texts l (e ∷ []) r → ShowsOne texts l e r
  one_shown (more h ended) = h

  pub shows_append : {l m r : List ℕ} {es fs : List Event} → Shows texts l es m → Shows texts m fs r → Shows texts l (es ++ fs) r
  shows_append ended t = t
  shows_append (more h s) t = more h (shows_append s t)

  pub record Parted (l : List ℕ) (es fs : List Event) (r : List ℕ) : Type 0 where
    pub middle : List ℕ
    pub front : Shows texts l es middle
    pub behind : Shows texts middle fs r

  pub parted : {l r : List ℕ} (es fs : List Event) → Shows texts l (es ++ fs) r → Parted l es fs r
  parted [] fs s = record { middle = _; front = ended; behind = s }
  parted (e ∷ es) fs (more h s) = let i = parted es fs s in record { middle = i.middle; front = more h i.front; behind = i.behind }

  pub shown_length : {l r : List ℕ} {es : List Event} → Shows texts l es r → length l ≡ 3 * length es + length r
  shown_length ended = omega arith
  shown_length (more h s) = ap length h.is ∙ omega (arith, shown_length s)
