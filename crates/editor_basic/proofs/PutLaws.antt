-- Laws of bytes put into a lent slice: one behind another, beyond its end, where there is room for all; and a loop that puts them. Assumes
-- nothing.
use mathlib.Core.Path.{◌≡◌, refl, sym, ap, ◌∙◌}
use mathlib.Core.List.{List, [], ◌∷◌, ◌++◌, append_assoc, append-nil, reverse, reverse-cons}
use Prim.Native.Nat.{ℕ, suc, ◌+◌, ◌-◌, ◌%◌, ◌/◌, ◌≤◌, ◌<◌, min}
use native.Mathlib.Omega.{arith}
use native.Mathlib.Numerals.{add-one}
use native.Mathlib.Decide.{dec_lt}
use lib.ListN.{length, take, drop, get_or, set, length-set, take-append-drop, drop_of_length-le}
use borrow.Rule.Slice.PartMut.{put_mid}
use Rattle.std.proofs.lemmas.List.{length-take-le, take-take}
use Rattle.std.proofs.lemmas.Slice.{put_mid-paste}
use lib.Seq.{set_out, set_comm, drop-cons, drop-set-lt, take-suc-set}
use Rattle.meaning.specs.Numbers.{bytes}
use Rattle.editor_basic.specs.Puts.{over}

-- ---- the clauses

pub over_none : (out : List ℕ) (at : ℕ) → over out at [] ≡ out
unfolding over
over_none out at = refl

pub over_cons : (out : List ℕ) (at b : ℕ) (x : List ℕ) → over out at (b ∷ x) ≡ over (set out at b) (at + 1) x
unfolding over
over_cons out at b x = refl

-- ---- one behind another

pub over_append : (out : List ℕ) (at : ℕ) (x y : List ℕ) (n : ℕ) → n ≡ at + length x → over (over out at x) n y ≡ over out at (x ++ y)
unfolding over
over_append out at [] y n h = let e : n ≡ at = omega arith in rw e
over_append out at (b ∷ x) y n h = over_append (set out at b) (at + 1) x y n (omega arith)

pub over_both : (out mid last : List ℕ) (at n : ℕ) (x y : List ℕ) → mid ≡ over out at x → last ≡ over mid n y → n ≡ at + length x → last ≡ over out at (x ++ y)
over_both out mid last at n x y h g e = g ∙ ap (λ (z : List ℕ). over z n y) h ∙ over_append out at x y n e

pub length_over : (out : List ℕ) (at : ℕ) (x : List ℕ) → length (over out at x) ≡ length out
unfolding over
length_over out at [] = refl
length_over out at (b ∷ x) = length_over (set out at b) (at + 1) x ∙ length-set out at b

-- ---- beyond the end, and with room for all

pub over_beyond : (out : List ℕ) (at : ℕ) (x : List ℕ) → length out ≤ at → over out at x ≡ out
unfolding over
over_beyond out at [] h = refl
over_beyond out at (b ∷ x) h = rw (set_out out at b h) (over_beyond out (at + 1) x (omega arith))

pub over_fits : (out : List ℕ) (at : ℕ) (x : List ℕ) → at + length x ≤ length out → over out at x ≡ take at out ++ (x ++ drop (at + length x) out)
unfolding over
over_fits out at [] h = let e : at + 0 ≡ at = omega arith in rw e (sym (take-append-drop at out))
over_fits out at (b ∷ x) h =
    let l : at < length out = omega arith in
    let n : at + 1 + length x ≡ at + suc (length x) = omega arith in
    over_fits (set out at b) (at + 1) x (rw length-set (omega arith))
    ∙ ap (λ (z : ℕ). take (at + 1) (set out at b) ++ (x ++ drop z (set out at b))) n
    ∙ ap (λ (z : List ℕ). take (at + 1) (set out at b) ++ (x ++ z)) (drop-set-lt (at + suc (length x)) out at b (omega arith))
    ∙ ap (λ (z : List ℕ). z ++ (x ++ drop (at + suc (length x)) out)) (ap (λ (z : ℕ). take z (set out at b)) (add-one at) ∙ take-suc-set out at b l)
    ∙ append_assoc (take at out) (b ∷ []) (x ++ drop (at + suc (length x)) out)

-- those that have room, put at once
pub put_over : (out : List ℕ) (at k m : ℕ) (x y : List ℕ) → at < length out → m ≡ min (length x) (length out - at) → k ≡ m → y ≡ take m x → put_mid at k out y ≡ over out at x
put_over out at k m x y h g f e =
    let n : m ≡ length (take m x) = sym (length-take-le m x (omega arith)) in
    put_mid-paste at k out y (take m x) m e (sym f) n
    ∙ append_assoc (take at out) (take m (take m x)) (drop (at + m) out)
    ∙ ap (λ (z : List ℕ). take at out ++ (z ++ drop (at + m) out)) (take-take m m x (omega arith))
    ∙ ap (λ (z : ℕ). take at out ++ (take m x ++ drop (at + z) out)) n
    ∙ sym (over_fits out at (take m x) (omega arith))
    ∙ go (dec_lt m (length x))
    ∙ over_append out at (take m x) (drop m x) (at + m) (omega arith)
    ∙ ap (λ (z : List ℕ). over out at z) (take-append-drop m x)
  where
    mid : List ℕ
    mid = over out at (take m x)

    go : Dec (m < length x) → mid ≡ over mid (at + m) (drop m x)
    go (yes l) = sym (over_beyond mid (at + m) (drop m x) (omega (arith, length_over out at (take m x))))
    go (no l) = sym (ap (λ (z : List ℕ). over mid (at + m) z) (drop_of_length-le x (omega arith)) ∙ over_none mid (at + m))

-- ---- a loop that puts bytes: what is left to put, behind the i that are put, makes the whole

pub record Putting (before : List ℕ) (at : ℕ) (whole out : List ℕ) (i : ℕ) (rest : List ℕ) : Type 0 where
  pub kept : length out ≡ length before
  pub left : over out (at + i) rest ≡ over before at whole

module _ (before : List ℕ) (at : ℕ) (whole : List ℕ) where
  pub putting_begin : (rest : List ℕ) → rest ≡ whole → Putting before at whole before 0 rest
  putting_begin rest h = let e : at + 0 ≡ at = omega arith in record { kept = refl; left = rw (e, h) }

  pub putting_next : (out : List ℕ) (i b : ℕ) (rest rest' : List ℕ) → Putting before at whole out i rest → rest ≡ b ∷ rest'
      → Putting before at whole (set out (at + i) b) (i + 1) rest'
  putting_next out i b rest rest' p h =
      let n : at + i + 1 ≡ at + (i + 1) = omega arith in
      record {
        kept = length-set out (at + i) b ∙ p.kept;
        left = ap (λ (z : ℕ). over (set out (at + i) b) z rest') (sym n) ∙ sym (over_cons out (at + i) b rest') ∙ ap (λ (z : List ℕ). over out (at + i) z) (sym h) ∙ p.left;
      }

  -- it ends where all are put, or where there is no more room
  pub putting_end : (out : List ℕ) (i : ℕ) (rest : List ℕ) (most count : ℕ) → Putting before at whole out i rest → most ≡ min count (length before - at) → most ≤ i
      → (count ≤ i → rest ≡ []) → out ≡ over before at whole
  putting_end out i rest most count p m h z = sym (go (dec_lt i count)) ∙ p.left
    where
      go : Dec (i < count) → over out (at + i) rest ≡ out
      go (yes g) = over_beyond out (at + i) rest (omega (arith, p.kept))
      go (no g) = ap (λ (y : List ℕ). over out (at + i) y) (z (omega arith)) ∙ over_none out (at + i)

-- ---- what is left of a part, of a number's bytes

pub part_next : (l : List ℕ) (i : ℕ) → i < length l → drop i l ≡ get_or l i 0 ∷ drop (i + 1) l
part_next l i h = rw (add-one, drop-cons l i 0)

pub bytes_next : (w i x : ℕ) → i < w → bytes (w - i) x ≡ x % 256 ∷ bytes (w - (i + 1)) (x / 256)
unfolding bytes
bytes_next w i x h = let e : w - i ≡ suc (w - (i + 1)) = omega arith in rw e

pub bytes_done : (w i x : ℕ) → w ≤ i → bytes (w - i) x ≡ []
unfolding bytes
bytes_done w i x h = let e : w - i ≡ 0 = omega arith in rw e

pub less_none : (n : ℕ) → n - 0 ≡ n
less_none n = omega arith

-- ---- a loop that puts a number's bytes from its last place down to its first

pub set_over : (out : List ℕ) (at i b : ℕ) (x : List ℕ) → i < at → set (over out at x) i b ≡ over (set out i b) at x
unfolding over
set_over out at i b [] h = refl
set_over out at i b (y ∷ x) h = set_over (set out at y) (at + 1) i b x (omega arith) ∙ ap (λ (z : List ℕ). over z (at + 1) x) (set_comm out at i y b (λ e. omega arith))

-- what is put already, from the place i on, and the number that is left for the places in front
pub record Falling (before : List ℕ) (at w n : ℕ) (out : List ℕ) (i rest : ℕ) : Type 0 where
  pub put : List ℕ
  pub out_is : out ≡ over before (at + i) put
  pub whole : reverse (bytes i rest) ++ put ≡ reverse (bytes w n)

module _ (before : List ℕ) (at w n : ℕ) where
  pub falling_begin : Falling before at w n before w n
  falling_begin = record { put = []; out_is = sym (over_none before (at + w)); whole = append-nil (reverse (bytes w n)) }

  falling_last : (i x : ℕ) → reverse (bytes (suc i) x) ≡ reverse (bytes i (x / 256)) ++ (x % 256 ∷ [])
  unfolding bytes
  falling_last i x = reverse-cons (x % 256) (bytes i (x / 256))

  pub falling_kept : (out : List ℕ) (i rest : ℕ) → Falling before at w n out i rest → length out ≡ length before
  falling_kept out i rest f = ap length f.out_is ∙ length_over before (at + i) f.put

  pub falling_next : (out : List ℕ) (i j rest : ℕ) → i ≡ suc j → Falling before at w n out i rest → Falling before at w n (set out (at + j) (rest % 256)) j (rest / 256)
  falling_next out i j rest h f =
      let e : at + i ≡ at + j + 1 = omega arith in
      record {
        put = rest % 256 ∷ f.put;
        out_is =
            ap (λ (z : List ℕ). set z (at + j) (rest % 256)) (f.out_is ∙ ap (λ (z : ℕ). over before z f.put) e)
            ∙ set_over before (at + j + 1) (at + j) (rest % 256) f.put (omega arith)
            ∙ sym (over_cons before (at + j) (rest % 256) f.put);
        whole =
            sym (append_assoc (reverse (bytes j (rest / 256))) (rest % 256 ∷ []) f.put)
            ∙ ap (λ (z : List ℕ). z ++ f.put) (sym (falling_last j rest))
            ∙ ap (λ (z : ℕ). reverse (bytes z rest) ++ f.put) (sym h)
            ∙ f.whole;
      }

  pub falling_past : (out : List ℕ) (i j rest : ℕ) → i ≡ suc j → length out ≤ at + j → Falling before at w n out i rest → Falling before at w n out j (rest / 256)
  falling_past out i j rest h g f = rw (set_out out (at + j) (rest % 256) g) at (falling_next out i j rest h f)

  pub falling_end : (out : List ℕ) (i rest : ℕ) → i ≤ 0 → Falling before at w n out i rest → out ≡ over before at (reverse (bytes w n))
  unfolding bytes
  falling_end out i rest h f =
      let z : i ≡ 0 = omega arith in
      let e : at + i ≡ at = omega arith in
      f.out_is ∙ ap (λ (k : ℕ). over before k f.put) e ∙ ap (λ (l : List ℕ). over before at l) (rw z at f.whole)

-- a number of one byte
pub over_one : (out : List ℕ) (at w n : ℕ) → w ≡ 1 → over out at (bytes w n) ≡ set out at (n % 256)
unfolding over bytes
over_one out at w n e = rw e refl

-- and of two
pub over_two : (out : List ℕ) (at n : ℕ) → over out at (bytes 2 n) ≡ set (set out at (n % 256)) (at + 1) (n / 256 % 256)
unfolding over bytes
over_two out at n = refl
