-- Laws of the old frame's copy, and of the buffer's tail that was lent and has come back with bytes put into it. Assumes nothing.
use mathlib.Core.Path.{◌≡◌, refl, sym, ap, ◌∙◌}
use mathlib.Core.List.{List, ◌++◌, append-nil, append_assoc}
use Prim.Native.Nat.{ℕ, ◌+◌, ◌-◌, ◌≤◌, max}
use native.Mathlib.Omega.{arith}
use lib.ListN.{length, take, drop, length-append, length-take, length-drop, length-replicate, drop_of_length-le, take-append-drop}
use lib.Seq.{length-take-le, take_all, take_at, drop_at, drop-drop}
use Rattle.meaning.specs.Padding.{zeros}
use Rattle.meaning_writing.specs.Editing.{buffer_with}
use Rattle.editor_basic.specs.Puts.{over}
use Rattle.editor_basic.proofs.PutLaws.{over_fits}

-- ---- a part of a buffer within a limit, and so its length

pub part_short : (used : ℕ) (buffer : List ℕ) {most : ℕ} → used ≤ most → length (take used buffer) ≤ most
part_short used buffer h = let n = length-take used buffer in omega arith

pub used_short : (used : ℕ) (buffer : List ℕ) {most : ℕ} → used ≤ length buffer → length (take used buffer) ≤ most → used ≤ most
used_short used buffer h g = let n = length-take used buffer in omega arith

-- ---- the copy: the used part of a buffer, put at the front of an array

pub copied : {last : List ℕ} (room buffer : List ℕ) (used : ℕ) → last ≡ over room 0 (take used buffer) → used ≤ length buffer → used ≤ length room → take used last ≡ take used buffer
copied room buffer used h m s =
    let n = length-take-le used buffer m in
    let k : 0 + length (take used buffer) ≤ length room = omega arith in
    ap (take used) (h ∙ over_fits room 0 (take used buffer) k) ∙ take_at (take used buffer) (drop (0 + length (take used buffer)) room) used n

-- ---- the tail from a place on

pub tail_lent : (p k : ℕ) (l : List ℕ) → k ≡ length l - p → take k (drop p l) ≡ drop p l
tail_lent p k l h = take_all k (drop p l) (simp length-drop (omega arith))

tail_back : (p k : ℕ) (l y : List ℕ) → k ≡ length l - p → take p l ++ (y ++ drop k (drop p l)) ≡ take p l ++ y
tail_back p k l y h =
    let n : length (drop p l) ≤ k = simp length-drop (omega arith) in
    ap (λ (z : List ℕ). take p l ++ (y ++ z)) (drop_of_length-le (drop p l) n) ∙ ap (λ (z : List ℕ). take p l ++ z) (append-nil y)

pub tail_put : (p k : ℕ) (l y x : List ℕ) → k ≡ length l - p → y ≡ over (take k (drop p l)) 0 x → take p l ++ (y ++ drop k (drop p l)) ≡ take p l ++ over (drop p l) 0 x
tail_put p k l y x h g = tail_back p k l y h ∙ ap (λ (z : List ℕ). take p l ++ z) (g ∙ ap (λ (z : List ℕ). over z 0 x) (tail_lent p k l h))

-- what was put from a place on, with room for all of it
put_from : (p : ℕ) (l x : List ℕ) → p ≤ length l → length x ≤ length l - p → take p l ++ over (drop p l) 0 x ≡ take p l ++ (x ++ drop (p + length x) l)
put_from p l x h g =
    let n : 0 + length x ≤ length (drop p l) = rw length-drop (omega arith) in
    let e : over (drop p l) 0 x ≡ x ++ drop (0 + length x) (drop p l) = over_fits (drop p l) 0 x n in
    let z : 0 + length x ≡ length x = omega arith in
    ap (λ (z : List ℕ). take p l ++ z) (e ∙ ap (λ (k : ℕ). x ++ drop k (drop p l)) z ∙ ap (λ (z : List ℕ). x ++ z) (drop-drop (length x) p l))

-- ---- the new frame in the buffer, which has the same bytes up to the reading's place

module _ (new buffer : List ℕ) (used : ℕ) (room : length new ≤ length buffer) where
  pub new_put : (place : ℕ) → place ≤ length new → take place new ≡ take place buffer → take place buffer ++ over (drop place buffer) 0 (drop place new) ≡ new ++ drop (length new) buffer
  new_put place h e =
      let n : length (drop place new) ≡ length new - place = length-drop place new in
      let m : place + length (drop place new) ≡ length new = omega arith in
      put_from place buffer (drop place new) (omega arith) (omega arith)
      ∙ ap (λ (z : ℕ). take place buffer ++ (drop place new ++ drop z buffer)) m
      ∙ ap (λ (z : List ℕ). z ++ (drop place new ++ drop (length new) buffer)) (sym e)
      ∙ sym (append_assoc (take place new) (drop place new) (drop (length new) buffer))
      ∙ ap (λ (z : List ℕ). z ++ drop (length new) buffer) (take-append-drop place new)

  -- it is not shorter than the old one
  pub not_shorter : used ≤ length new → new ++ drop (length new) buffer ≡ buffer_with new used buffer
  unfolding buffer_with
  not_shorter h =
      let z : used - length new ≡ 0 = omega arith in
      let m : max used (length new) ≡ length new = omega arith in
      rw (z, m)

  -- it is shorter: zeros behind it
  pub shorter : (held : List ℕ) → held ≡ new ++ drop (length new) buffer → length new ≤ used → used ≤ length buffer
      → take (length new) held ++ over (drop (length new) held) 0 (zeros (used - length new)) ≡ buffer_with new used buffer
  unfolding buffer_with
  shorter held e h g =
      let n : length new ≡ length new = refl in
      let front : take (length new) held ≡ new = ap (take (length new)) e ∙ take_at new (drop (length new) buffer) (length new) n in
      let long : length held ≡ length buffer = ap length e ∙ length-append new (drop (length new) buffer) ∙ (let d = length-drop (length new) buffer in omega arith) in
      let k : length (zeros (used - length new)) ≡ used - length new = length-replicate (used - length new) 0 in
      let m : max used (length new) ≡ used = omega arith in
      let i : length new + length (zeros (used - length new)) ≡ used = omega arith in
      let behind : drop used held ≡ drop used buffer =
      ap (drop used) e ∙ ap (λ (z : ℕ). drop z (new ++ drop (length new) buffer)) (sym i ∙ ap (λ (z : ℕ). length new + z) k)
      ∙ sym (drop-drop (used - length new) (length new) (new ++ drop (length new) buffer))
      ∙ ap (drop (used - length new)) (drop_at new (drop (length new) buffer) (length new) n)
      ∙ drop-drop (used - length new) (length new) buffer ∙ ap (λ (z : ℕ). drop z buffer) (ap (λ (z : ℕ). length new + z) (sym k) ∙ i) in
      put_from (length new) held (zeros (used - length new)) (omega arith) (omega arith)
      ∙ ap (λ (z : ℕ). take (length new) held ++ (zeros (used - length new) ++ drop z held)) i
      ∙ ap (λ (z : List ℕ). z ++ (zeros (used - length new) ++ drop used held)) front
      ∙ ap (λ (z : List ℕ). new ++ (zeros (used - length new) ++ z)) (behind ∙ ap (λ (z : ℕ). drop z buffer) (sym m))
