-- Laws of stores: one store and others, where there is room and where there is none; a store more, in a loop. Assumes nothing.
use Prim.Native.Nat.{ℕ, zero, suc, ◌+◌, ◌-◌, ◌*◌, ◌/◌, ◌%◌, ◌≤◌, ◌<◌}
use mathlib.Core.Path.{◌≡◌, refl, sym, ap, ◌∙◌}
use mathlib.Core.List.{List, [], ◌∷◌, ◌++◌, reverse, reverse-cons, append_assoc}
use native.Mathlib.Omega.{arith}
use native.Mathlib.Numerals.{add-one}
use lib.ListN.{length, drop, take, set, get_or, length-set, length-reverse, length-drop, drop_of_length-le}
use borrow.Rule.Slice.PartMut.{put_mid}
use Rattle.std.proofs.lemmas.List.{drop-drop}
use lib.Seq.{sets, sets-eq, set_comm, set-set, set_out, drop-cons, take-add, take-length, length-take-le}
use borrow.Author.Tests.{le-leb, lt-leb}
use Rattle.meaning.specs.Padding.{padding, zeros}
use Rattle.meaning.specs.Offsets.{first_width, written_width}
use Rattle.meaning.specs.Numbers.{bytes}
use Rattle.meaning.proofs.NumberLaws.{length_bytes}
use Rattle.writer_store.specs.Stores.{cap, puts}

pub puts_none : (l : List ℕ) (i : ℕ) → puts l i [] ≡ l
unfolding puts
puts_none l i = refl

pub puts_cons : (l : List ℕ) (i b : ℕ) (bs : List ℕ) → puts l i (b ∷ bs) ≡ puts (set l i b) (suc i) bs
unfolding puts
puts_cons l i b bs = refl

pub puts_append : (xs ys l : List ℕ) (i j : ℕ) → i + length xs ≡ j → puts l i (xs ++ ys) ≡ puts (puts l i xs) j ys
unfolding puts
puts_append [] ys l i j h = let e : i ≡ j = omega arith in rw e
puts_append (x ∷ xs) ys l i j h = puts_append xs ys (set l i x) (suc i) j (omega arith)

pub length_puts : (xs l : List ℕ) (i : ℕ) → length (puts l i xs) ≡ length l
unfolding puts
length_puts [] l i = refl
length_puts (x ∷ xs) l i = length_puts xs (set l i x) (suc i) ∙ length-set l i x

-- where there is no room for any
pub puts_out : (xs l : List ℕ) (i : ℕ) → length l ≤ i → puts l i xs ≡ l
unfolding puts
puts_out [] l i h = refl
puts_out (x ∷ xs) l i h = let e : set l i x ≡ l = set_out l i x h in rw e (puts_out xs l (suc i) (omega arith))

-- a store behind others may be done first
pub set_puts : (xs l : List ℕ) (i j b : ℕ) → i + length xs ≤ j → puts (set l j b) i xs ≡ set (puts l i xs) j b
unfolding puts
set_puts [] l i j b h = refl
set_puts (x ∷ xs) l i j b h =
    rw (set_comm l j i b x (λ q. omega arith)) (set_puts xs (set l i x) (suc i) j b (omega arith))

-- where there is room for all
pub puts_room : (xs l : List ℕ) (i : ℕ) → i + length xs ≤ length l → puts l i xs ≡ take i l ++ xs ++ drop (i + length xs) l
unfolding puts
puts_room xs l i h = is_sets xs l i ∙ sets-eq xs l i h
  where
    is_sets : (xs l : List ℕ) (i : ℕ) → puts l i xs ≡ sets l i xs
    is_sets [] l i = refl
    is_sets (x ∷ xs) l i = is_sets xs (set l i x) (suc i)

-- a store more, in a loop that runs i from 0 to n
pub zeros_step : (l : List ℕ) (at i n : ℕ) → i < n → puts l (at + i) (zeros (n - i)) ≡ puts (set l (at + i) 0) (at + (i + 1)) (zeros (n - (i + 1)))
zeros_step l at i n h =
    let e : n - i ≡ suc (n - (i + 1)) = omega arith in
    let f : at + (i + 1) ≡ suc (at + i) = omega arith in
    rw (e, f) (puts_cons l (at + i) 0 (zeros (n - (i + 1))))

pub zeros_end : (l : List ℕ) (at i n : ℕ) → n ≤ i → puts l (at + i) (zeros (n - i)) ≡ l
zeros_end l at i n h = let e : n - i ≡ 0 = omega arith in rw e (puts_none l (at + i))

pub bytes_step : (l : List ℕ) (at i w y : ℕ) → i < w → puts l (at + i) (bytes (w - i) y) ≡ puts (set l (at + i) (y % 256)) (at + (i + 1)) (bytes (w - (i + 1)) (y / 256))
unfolding bytes
bytes_step l at i w y h =
    let e : w - i ≡ suc (w - (i + 1)) = omega arith in
    let f : at + (i + 1) ≡ suc (at + i) = omega arith in
    rw (e, f) (puts_cons l (at + i) (y % 256) (bytes (w - (i + 1)) (y / 256)))

pub bytes_end : (l : List ℕ) (at i w y : ℕ) → w ≤ i → puts l (at + i) (bytes (w - i) y) ≡ l
unfolding bytes
bytes_end l at i w y h = let e : w - i ≡ 0 = omega arith in rw e (puts_none l (at + i))

-- two bytes at once
pub bytes_two : (l : List ℕ) (at x : ℕ) → puts l at (bytes 2 x) ≡ set (set l at (x % 256)) (at + 1) (x / 256 % 256)
unfolding puts bytes
bytes_two l at x = let f : at + 1 ≡ suc at = omega arith in rw f

pub part_step : (l part : List ℕ) (at i : ℕ) → i < length part → puts l (at + i) (drop i part) ≡ puts (set l (at + i) (get_or part i 0)) (at + (i + 1)) (drop (i + 1) part)
part_step l part at i h =
    let f : at + (i + 1) ≡ suc (at + i) = omega arith in
    rw (f, add-one i, drop-cons part i 0 h) (puts_cons l (at + i) (get_or part i 0) (drop (suc i) part))

pub part_end : (l part : List ℕ) (at i : ℕ) → length part ≤ i → puts l (at + i) (drop i part) ≡ l
part_end l part at i h = rw (drop_of_length-le part h) (puts_none l (at + i))

-- ---- blocks

-- a store in front of others may be done first
set_front : (xs l : List ℕ) (i j b : ℕ) → j < i → set (puts l i xs) j b ≡ puts (set l j b) i xs
unfolding puts
set_front [] l i j b h = refl
set_front (x ∷ xs) l i j b h = set_front xs (set l i x) (suc i) j b (omega arith) ∙ ap (λ (z : List ℕ). puts z (suc i) xs) (set_comm l i j x b (λ q. omega arith))

-- what is stored over is of no matter
puts_over : (xs ys l : List ℕ) (i : ℕ) → length xs ≤ length ys → puts (puts l i xs) i ys ≡ puts l i ys
unfolding puts
puts_over [] ys l i h = refl
puts_over (x ∷ xs) [] l i h = absurd (omega arith)
puts_over (x ∷ xs) (y ∷ ys) l i h =
    ap (λ (z : List ℕ). puts z (suc i) ys) (set_front xs (set l i x) (suc i) i y (omega arith) ∙ ap (λ (z : List ℕ). puts z (suc i) xs) (set-set l i x y)) ∙ puts_over xs ys (set l i y) (suc i) (omega arith)

-- two blocks are a whole part, also where they overlap
pub overlap : (l p : List ℕ) (at j k : ℕ) → j ≤ k → j + k ≡ length p → puts (puts l at (take k p)) (at + j) (take k (drop j p)) ≡ puts l at p
overlap l p at j k h e =
    let a : length (take j p) ≡ j = length-take-le j p (omega arith) in
    let c : length (drop j p) ≡ k = length-drop j p ∙ omega arith in
    let s : take k p ≡ take j p ++ take (k - j) (drop j p) = (let z : k ≡ j + (k - j) = omega arith in ap (λ (m : ℕ). take m p) z ∙ take-add j (k - j) p) in
    let w : take j p ++ take k (drop j p) ≡ p = sym (take-add j k p) ∙ ap (λ (m : ℕ). take m p) e ∙ take-length p in
    let x : length (take (k - j) (drop j p)) ≡ k - j = length-take-le (k - j) (drop j p) (omega arith) in
    let y : length (take k (drop j p)) ≡ k = length-take-le k (drop j p) (omega arith) in
    ap (λ (z : List ℕ). puts z (at + j) (take k (drop j p))) (ap (puts l at) s ∙ puts_append (take j p) (take (k - j) (drop j p)) l at (at + j) (omega arith))
    ∙ puts_over (take (k - j) (drop j p)) (take k (drop j p)) (puts l at (take j p)) (at + j) (omega arith) ∙ sym (puts_append (take j p) (take k (drop j p)) l at (at + j) (omega arith)) ∙ ap (puts l at) w

-- a part of one byte, and one of none
pub puts_one : (p l : List ℕ) (at : ℕ) → length p ≡ 1 → set l at (get_or p 0 0) ≡ puts l at p
unfolding puts
puts_one [] l at h = absurd (omega arith)
puts_one (x ∷ []) l at h = refl
puts_one (x ∷ y ∷ p) l at h = absurd (omega arith)

pub puts_empty : (p l : List ℕ) (at : ℕ) → length p ≡ 0 → l ≡ puts l at p
unfolding puts
puts_empty [] l at h = refl
puts_empty (x ∷ p) l at h = absurd (omega arith)

-- a byte behind, and one in front
pub puts_snoc : (xs l : List ℕ) (i b : ℕ) → set (puts l i xs) (i + length xs) b ≡ puts l i (xs ++ (b ∷ []))
puts_snoc xs l i b = sym (puts_append xs (b ∷ []) l i (i + length xs) refl ∙ puts_cons (puts l i xs) (i + length xs) b [] ∙ puts_none _ (suc (i + length xs)))

pub puts_front : (xs l : List ℕ) (i b : ℕ) → puts (set l i b) (i + 1) xs ≡ puts l i (b ∷ xs)
puts_front xs l i b = rw (add-one i) (sym (puts_cons l i b xs))

-- the highest byte first, from the back
pub turned_step : (l : List ℕ) (at i y : ℕ) → 0 < i → puts l at (reverse (bytes i y)) ≡ puts (set l (at + (i - 1)) (y % 256)) at (reverse (bytes (i - 1) (y / 256)))
unfolding bytes puts
turned_step l at zero y h = absurd (omega arith)
turned_step l at (suc i) y h =
    let e : suc i - 1 ≡ i = omega arith in
    let n : length (reverse (bytes i (y / 256))) ≡ i = length-reverse (bytes i (y / 256)) ∙ length_bytes i (y / 256) in
    rw (e, reverse-cons (y % 256) (bytes i (y / 256)))
    (puts_append (reverse (bytes i (y / 256))) (y % 256 ∷ []) l at (at + i) (omega arith) ∙ sym (set_puts (reverse (bytes i (y / 256))) l at (at + i) (y % 256) (omega arith)))

pub turned_end : (l : List ℕ) (at i y : ℕ) → i ≤ 0 → puts l at (reverse (bytes i y)) ≡ l
unfolding bytes
turned_end l at i y h = let e : i ≡ 0 = omega arith in rw e (puts_none l at)

-- padding by the alignment
pub gap_1 : (p a : ℕ) → a ≡ 1 → (0 ≡ padding p a) × (0 < 8)
unfolding padding
gap_1 p a e = (rw e (omega arith), omega arith)

pub gap_2 : (p a : ℕ) → a ≡ 2 → (p % 2 ≡ padding p a) × (p % 2 < 8)
unfolding padding
gap_2 p a e = (rw e (omega arith), omega arith)

pub gap_4 : (p a : ℕ) → a ≡ 4 → ((4 - p % 4) % 4 ≡ padding p a) × ((4 - p % 4) % 4 < 8)
unfolding padding
gap_4 p a e = (rw e, omega arith)

pub gap_8 : (p a : ℕ) → a ≡ 8 → ((8 - p % 8) % 8 ≡ padding p a) × ((8 - p % 8) % 8 < 8)
unfolding padding
gap_8 p a e = (rw e, omega arith)

-- ---- widths

pub width_1 : (b m : ℕ) → b + m ≤ 255 → 1 ≡ written_width b m
unfolding written_width first_width
width_1 b m h = rw (le-leb (b + m * 1) 255 (omega arith))

pub width_2 : (b m : ℕ) → 255 < b + m → b + 2 * m ≤ 65535 → 2 ≡ written_width b m
unfolding written_width first_width
width_2 b m g h = rw (lt-leb (b + m * 1) 255 (omega arith), le-leb (b + m * 2) 65535 (omega arith))

pub width_4 : (b m : ℕ) → 255 < b + m → 65535 < b + 2 * m → b ≤ cap → m ≤ cap → 4 ≡ written_width b m
unfolding written_width first_width
width_4 b m g h i j = rw (lt-leb (b + m * 1) 255 (omega arith), lt-leb (b + m * 2) 65535 (omega arith), le-leb (b + m * 4) 4294967295 (omega arith))

-- what is stored in a part of a slice
pub stored_part : (l p ys : List ℕ) (at k : ℕ) → at + length p ≤ length l → k ≡ length p → ys ≡ p → put_mid at k l ys ≡ puts l at p
stored_part l p ys at k h n e = rw (e, n, drop-drop (length p) at l) (sym (puts_room p l at h ∙ append_assoc (take at l) p (drop (at + length p) l)))

-- the same of a part of a part
pub stored_block : (l p ys : List ℕ) (at k i j n : ℕ) → at + n ≤ length l → i + n ≤ length p → k ≡ n → j ≡ n → ys ≡ take j (drop i p) → put_mid at k l ys ≡ puts l at (take n (drop i p))
stored_block l p ys at k i j n h g a b e =
    let m : length (take n (drop i p)) ≡ n = length-take-le n (drop i p) (omega (arith, length-drop i p)) in
    stored_part l (take n (drop i p)) ys at k (omega arith) (omega arith) (e ∙ rw b)
