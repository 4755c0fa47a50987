-- Laws of parts of a list of bytes. Assumes nothing.
use mathlib.Core.Path.{◌≡◌, refl, ap, ◌∙◌}
use mathlib.Core.List.{List, [], ◌∷◌, ◌++◌, append-nil}
use mathlib.Core.Bool.{true}
use Prim.Native.Nat.{ℕ, zero, suc, ◌+◌, ◌-◌, ◌≤◌, ◌<◌}
use native.Mathlib.Omega.{arith}
use lib.Dec.{eqb}
use lib.ListN.{length, take, drop, get_or, length-append, length-take, length-drop}
use lib.Seq.{take_at, drop_at, take-add, drop-drop, take-length, get_or_at}
use borrow.Author.Tests.{eqb-true}
use Rattle.meaning.specs.Numbers.{bytes, value}
use Rattle.meaning.specs.Padding.{zeros}
use Rattle.meaning_writing.specs.Shapes.{part}
use Rattle.meaning_writing.specs.Strict.{all_zero}
use Rattle.meaning.proofs.Tests.{both_true}
use Rattle.meaning.proofs.NumberLaws.{Bytes, none, more, bytes_value}

pub part_whole : (l : List ℕ) → part 0 (length l) l ≡ l
unfolding part
part_whole l = let h : length l - 0 ≡ length l = omega arith in rw h (take-length l)

pub part_none : (i e : ℕ) (l : List ℕ) → e ≤ i → part i e l ≡ []
unfolding part
part_none i e l h = let g : e - i ≡ 0 = omega arith in rw g

pub part_split : (i m e : ℕ) (l : List ℕ) → i ≤ m → m ≤ e → part i e l ≡ part i m l ++ part m e l
unfolding part
part_split i m e l h g =
    let a : e - i ≡ (m - i) + (e - m) = omega arith in
    let b : i + (m - i) ≡ m = omega arith in
    rw (a, take-add, drop-drop, b)

pub length_part : (i e : ℕ) (l : List ℕ) → e ≤ length l → length (part i e l) ≡ e - i
unfolding part
length_part i e l h = simp (length-take, length-drop) (omega arith)

pub part_mid : (l x c y : List ℕ) (i e : ℕ) → l ≡ x ++ (c ++ y) → length x ≡ i → i + length c ≡ e → part i e l ≡ c
unfolding part
part_mid l x c y i e h g n = let m : length c ≡ e - i = omega arith in rw (h, drop_at x (c ++ y) i g, take_at c y (e - i) m)

pub part_end : (l x c : List ℕ) (i e : ℕ) → l ≡ x ++ c → length x ≡ i → i + length c ≡ e → part i e l ≡ c
part_end l x c i e h g n = part_mid l x c [] i e (rw append-nil h) g n

pub zeros_all : (l : List ℕ) → all_zero l ≡ true → l ≡ zeros (length l)
unfolding all_zero
zeros_all [] h = refl
zeros_all (x ∷ l) h =
    let b = both_true (eqb x 0) (all_zero l) h in
    let e : x ≡ 0 = eqb-true x 0 b.0 in
    rw (e, ← zeros_all l b.1)

pub all_zeros : (n : ℕ) → all_zero (zeros n) ≡ true
unfolding all_zero
all_zeros zero = refl
all_zeros (suc n) = all_zeros n

pub drop_bytes : (i : ℕ) {l : List ℕ} → Bytes l → Bytes (drop i l)
drop_bytes zero b = b
drop_bytes (suc i) none = none
drop_bytes (suc i) (more h b) = drop_bytes i b

pub take_bytes : (i : ℕ) {l : List ℕ} → Bytes l → Bytes (take i l)
take_bytes zero b = none
take_bytes (suc i) none = none
take_bytes (suc i) (more h b) = more h (take_bytes i b)

pub part_bytes : (i e : ℕ) {l : List ℕ} → Bytes l → Bytes (part i e l)
unfolding part
part_bytes i e b = take_bytes (e - i) (drop_bytes i b)

-- an offset that stands in a table
pub offset_form : (l : List ℕ) (j w e : ℕ) → Bytes l → j + w ≤ length l → value (part j (j + w) l) ≡ e → bytes w e ≡ part j (j + w) l
offset_form l j w e b h v =
    let n : length (part j (j + w) l) ≡ w = length_part j (j + w) l h ∙ omega arith in
    let g = bytes_value (part_bytes j (j + w) b) in
    rw (n, v) at g

pub bytes_from : (l : List ℕ) → ((i : ℕ) → get_or l i 0 < 256) → Bytes l
bytes_from [] h = none
bytes_from (x ∷ l) h = more (h 0) (bytes_from l (λ i. h (suc i)))

-- all but the last byte
pub but_last : (l : List ℕ) (b : ℕ) → 0 < length l → get_or l (length l - 1) 1 ≡ b → l ≡ take (length l - 1) l ++ (b ∷ [])
but_last [] b h g = absurd (omega arith)
but_last (x ∷ []) b h g = rw g
but_last (x ∷ y ∷ l) b h g =
    let n : length (x ∷ y ∷ l) - 1 ≡ suc (length (y ∷ l) - 1) = omega arith in
    let r : get_or (y ∷ l) (length (y ∷ l) - 1) 1 ≡ b = rw n at g in
    rw n (ap (λ (z : List ℕ). x ∷ z) (but_last (y ∷ l) b (omega arith) r))

-- a byte of 0 behind a list
pub last_zero : (l : List ℕ) → get_or (l ++ (0 ∷ [])) (length (l ++ (0 ∷ [])) - 1) 1 ≡ 0
last_zero l = let n : length (l ++ (0 ∷ [])) - 1 ≡ length l = simp length-append (omega arith) in rw n (get_or_at l 0 [] 1 (length l) refl)

pub last_off : (l : List ℕ) → take (length (l ++ (0 ∷ [])) - 1) (l ++ (0 ∷ [])) ≡ l
last_off l = let n : length (l ++ (0 ∷ [])) - 1 ≡ length l = simp length-append (omega arith) in rw n (take_at l (0 ∷ []) (length l) refl)
