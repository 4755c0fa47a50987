-- The ends that are kept: where they stand, what a store leaves of them, and what was stored, put together. Assumes nothing.
use Prim.Native.Nat.{ℕ, suc, ◌+◌, ◌-◌, ◌*◌, ◌/◌, ◌%◌, ◌≤◌, ◌<◌, min}
use mathlib.Core.Path.{◌≡◌, refl, sym, ap, ◌∙◌}
use mathlib.Core.List.{List, [], ◌∷◌, ◌++◌, append_assoc, append-nil}
use mathlib.Core.Bool.{true, false≢true}
use native.Mathlib.Omega.{arith}
use native.Mathlib.Decide.{dec_lt}
use lib.ListN.{length, take, drop, get_or, set, length-set, length-append, get_or-append}
use lib.Seq.{take_at, length-take-le, get_or-append-add, get_or-set_same, get_or-set_other, take-set-le}
use borrow.Author.Tests.{lt-ltb, le-ltb}
use Rattle.meaning.specs.Limits.{largest_frame}
use Rattle.writer_store.specs.Stores.{puts}
use Rattle.writer_ends.specs.Ends.{tail, end_at, Stored, Room, EndAt, PutEnd, Kept}
use Rattle.writer_store.proofs.Puts.{puts_room, length_puts}

-- ---- where an end stands

pub end_near : (l s : List ℕ) (i : ℕ) → i < 128 → end_at l s i ≡ get_or s i 0
unfolding end_at
end_near l s i h = rw (lt-ltb i 128 h)

pub end_far : (l s : List ℕ) (i : ℕ) → 128 ≤ i → end_at l s i ≡ get_or l (length l - tail i) 0 + 256 * get_or l (length l - tail i + 1) 0
unfolding end_at
end_far l s i h = rw (le-ltb i 128 h)

-- by where it stands
by_place : {P : Type 0} (i : ℕ) → (i < 128 → P) → (128 ≤ i → P) → P
by_place {P} i f g = go (dec_lt i 128)
  where
    go : Dec (i < 128) → P
    go (yes h) = f h
    go (no h) = g (omega arith)

-- it is as it was where its two bytes are
pub end_as : (l l' s : List ℕ) (i : ℕ) → length l' ≡ length l → (128 ≤ i → (get_or l' (length l - tail i) 0 ≡ get_or l (length l - tail i) 0) × (get_or l' (length l - tail i + 1) 0 ≡ get_or l (length l - tail i + 1) 0)) → end_at l' s i ≡ end_at l s i
end_as l l' s i n f = by_place i (λ h. end_near l' s i h ∙ sym (end_near l s i h)) (λ h. end_far l' s i h ∙ rw (n, (f h).0, (f h).1) (sym (end_far l s i h)))

-- ---- stores of bytes

pub puts_behind : (xs l : List ℕ) (i p : ℕ) → i + length xs ≤ p → get_or (puts l i xs) p 0 ≡ get_or l p 0
unfolding puts
puts_behind [] l i p h = refl
puts_behind (x ∷ xs) l i p h = puts_behind xs (set l i x) (suc i) p (omega arith) ∙ get_or-set_other l i p x 0 (λ e. omega arith)

module _ (l s : List ℕ) (place : ℕ) (bs : List ℕ) (n : ℕ) (h : place + length bs + 2 * (n - 128) ≤ length l) where
  front_is : take (place + length bs) (puts l place bs) ≡ take place l ++ bs
  front_is =
      let a : length (take place l) ≡ place = length-take-le place l (omega arith) in
      rw (puts_room bs l place (omega arith)) (take_at (take place l ++ bs) (drop (place + length bs) l) (place + length bs) (length-append (take place l) bs ∙ ap (λ (x : ℕ). x + length bs) a))

  pub puts_stored : (l' : List ℕ) → l' ≡ puts l place bs → Stored l s l' s place bs n []
  puts_stored l' e = rw e (record {
    bytes_are = front_is;
    same = λ i g. end_as l (puts l place bs) s i (length_puts bs l place) (λ y. (puts_behind bs l place _ (omega arith), puts_behind bs l place _ (omega arith)));
    has = λ i g. absurd (omega arith);
  })

-- nothing is stored
pub stored_none : (l s : List ℕ) (place n : ℕ) → Stored l s l s place [] n []
stored_none l s place n = record { bytes_are = let e : place + 0 ≡ place = omega arith in rw e (sym (append-nil (take place l))); same = λ i g. refl; has = λ i g. absurd (omega arith) }

-- one and then another
module _ {l s l₁ s₁ l₂ s₂ : List ℕ} {place : ℕ} {xs : List ℕ} {n : ℕ} {es : List ℕ} (a : Stored l s l₁ s₁ place xs n es) where
  pub stored_then : {p : ℕ} {ys : List ℕ} {m : ℕ} {fs : List ℕ} → p ≡ place + length xs → m ≡ n + length es → Stored l₁ s₁ l₂ s₂ p ys m fs → Stored l s l₂ s₂ place (xs ++ ys) n (es ++ fs)
  stored_then {p} {ys} {m} {fs} hp hm b = record {
    bytes_are =
        let x : place + length (xs ++ ys) ≡ p + length ys = omega (arith, length-append xs ys) in
        let y : take p l₁ ≡ take place l ++ xs = rw hp a.bytes_are in
        rw x (b.bytes_are ∙ rw y (append_assoc (take place l) xs ys));
    same = λ i g. b.same i (omega arith) ∙ a.same i g;
    has = λ i g. either i (dec_lt i (length es)) g;
  }
    where
      either : (i : ℕ) → Dec (i < length es) → i < length (es ++ fs) → end_at l₂ s₂ (n + i) ≡ get_or (es ++ fs) i 0
      either i (yes h) g = b.same (n + i) (omega arith) ∙ a.has i h ∙ sym (get_or-append es fs 0 i h)
      either i (no h) g =
          let k : i ≡ length es + (i - length es) = omega arith in
          let j : n + i ≡ m + (i - length es) = omega arith in
          let f : i - length es < length fs = omega (arith, length-append es fs) in
          rw j (b.has (i - length es) f) ∙ sym (ap (λ (x : ℕ). get_or (es ++ fs) x 0) k ∙ get_or-append-add es fs (i - length es) 0)

-- the ends are no longer of interest
pub stored_forget : {l s l' s' : List ℕ} {place : ℕ} {bs : List ℕ} {n : ℕ} {es : List ℕ} → Stored l s l' s' place bs n es → Stored l s l' s' place bs n []
stored_forget a = record { bytes_are = a.bytes_are; same = a.same; has = λ i g. absurd (omega arith) }

-- ---- room

room_less : (start n top start' n' top' : ℕ) → start' + n' ≤ start + n → n' ≤ n → top' ≤ top → start' + n' + (min n' 255 + 2 * top' - 255) ≤ start + n + (min n 255 + 2 * top - 255)
room_less start n top start' n' top' f g h = omega arith

-- for a part of it
pub room_in : {l s l' s' : List ℕ} {start n top start' n' top' : ℕ} → Room l s start n top → length l' ≡ length l → length s' ≡ length s → start' + n' ≤ start + n → n' ≤ n → top' ≤ top → Room l' s' start' n' top'
room_in {l} {s} {l'} {s'} {start} {n} {top} {start'} {n'} {top'} r e i f g h = record {
  inside = rw e (below (room_less start n top start' n' top' f g h) r.inside);
  limit = rw e r.limit;
  ready = rw i r.ready;
}
  where
    below : {x y z : ℕ} → x ≤ y → y ≤ z → x ≤ z
    below a b = omega arith

-- in front of the ends that are kept
pub room_front : {l s : List ℕ} {start n top : ℕ} → Room l s start n top → start + n + 2 * (top - 128) ≤ length l
room_front r = omega (arith, r.inside)

pub room_most : {l s : List ℕ} {start n top : ℕ} → Room l s start n top → start + n ≤ largest_frame
room_most r = omega (arith, r.inside, r.limit)

-- ---- one end is stored

module _ (i end : ℕ) (l s : List ℕ) where
  -- in the slice
  pub put_near : (s' : List ℕ) → i < 128 → s' ≡ set s i (end % 65536) → PutEnd i end l l s s'
  put_near s' h e = record {
    is = λ t r w. rw e (end_near l (set s i (end % 65536)) i h ∙ get_or-set_same s i (end % 65536) 0 (omega arith) ∙ omega arith);
    others = λ t k g w. by_place k (λ y. end_near l s' k y ∙ rw e (get_or-set_other s i k (end % 65536) 0 g) ∙ sym (end_near l s k y)) (λ y. end_far l s' k y ∙ sym (end_far l s k y));
    front = λ t place g. refl;
  }

  -- in the tail
  module _ (at x y : ℕ) (h : 128 ≤ i) (t : tail i ≤ length l) (a : at ≡ length l - tail i) (hx : x ≡ end % 256) (hy : y ≡ end / 256 % 256) where
    abbrev both : List ℕ
    both = set (set l at x) (at + 1) y

    other_byte : (p : ℕ) → (p ≡ at → ⊥) → (p ≡ at + 1 → ⊥) → get_or both p 0 ≡ get_or l p 0
    other_byte p f g = get_or-set_other (set l at x) (at + 1) p y 0 g ∙ get_or-set_other l at p x 0 f

    first_byte : get_or both at 0 ≡ x
    first_byte = get_or-set_other (set l at x) (at + 1) at y 0 (λ e. omega arith) ∙ get_or-set_same l at x 0 (omega arith)

    second_byte : get_or both (at + 1) 0 ≡ y
    second_byte = get_or-set_same (set l at x) (at + 1) y 0 (omega (arith, length-set l at x))

    same_length : length both ≡ length l
    same_length = length-set (set l at x) (at + 1) y ∙ length-set l at x

    put_both : PutEnd i end l both s s
    put_both = record {
      is = λ _ r w. end_far both s i h ∙ rw (same_length, ← a, first_byte, second_byte) (omega arith);
      others = λ _ k g w. end_as l both s k same_length (λ z. (other_byte _ (λ e. omega arith) (λ e. omega arith), other_byte _ (λ e. omega arith) (λ e. omega arith)));
      front = λ _ place g. take-set-le place (set l at x) (at + 1) y (omega arith) ∙ take-set-le place l at x (omega arith);
    }

    pub put_far : (l' : List ℕ) → l' ≡ set (set l at x) (at + 1) y → PutEnd i end l l' s s
    put_far l' e = rw e put_both

-- ---- an end is looked at

pub look_near : (i : ℕ) (l s : List ℕ) (x : ℕ) → i < 128 → x ≡ get_or s i 0 → x < 65536 → EndAt i l s x
look_near i l s x h e g = record { is = λ t r. e ∙ sym (end_near l s i h); small = g }

pub look_far : (i : ℕ) (l s : List ℕ) (at x y : ℕ) → 128 ≤ i → at ≡ length l - tail i → x ≡ get_or l at 0 → y ≡ get_or l (at + 1) 0 → x < 256 → y < 256 → EndAt i l s (x + 256 * y)
look_far i l s at x y h a hx hy gx gy = record { is = λ t r. rw (hx, hy, a) (sym (end_far l s i h)); small = omega arith }

-- ---- an end is kept

pub kept_not : (top j end : ℕ) (l s : List ℕ) → Kept top j end true l l s s j
kept_not top j end l s = record { skips = λ e. (refl, (refl, refl)); counts = λ e. absurd (false≢true (sym e)); keeps = λ e. absurd (false≢true (sym e)) }
