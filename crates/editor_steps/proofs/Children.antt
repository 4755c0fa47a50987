-- Children of a container, those in front of one of them passed by counting. Assumes nothing.
use mathlib.Core.Path.{◌≡◌, refl, sym, ap, ◌∙◌}
use mathlib.Core.List.{List, [], ◌∷◌, ◌++◌, append_assoc}
use Prim.Native.Nat.{ℕ, ◌+◌, ◌-◌, ◌≤◌, ◌<◌}
use native.Mathlib.Omega.{arith}
use borrow.Author.Tests.{lt-ltb, le-ltb}
use Rattle.meaning.specs.Depths.{Depths}
use Rattle.meaning.specs.Written.{Piece, stop}
use Rattle.meaning_writing.specs.Readings.{MaybeNumber}
use Rattle.meaning_writing.specs.Edited.{Editor, Child, child_count, child_spot, child_edited, count_in, spot_in, pieces_of, edited_in, alike}
use Rattle.meaning_writing.proofs.EditedSteps.{end_of, end_of_cons, end_of_none}

pub count_append : (xs ys : List Child) → count_in (xs ++ ys) ≡ count_in xs + count_in ys
unfolding count_in
count_append [] ys = omega arith
count_append (x ∷ xs) ys = let h = count_append xs ys in omega arith

pub count_cons : (c : Child) (ys : List Child) → count_in (c ∷ ys) ≡ child_count c + count_in ys
unfolding count_in
count_cons c ys = refl

pub count_none : count_in [] ≡ 0
unfolding count_in
count_none = refl

-- the child c behind xs has the reading
module _ (c : Child) (ys : List Child) (left : ℕ) (h : left < child_count c) where
  pub among_count : (xs : List Child) → count_in xs + left < count_in (xs ++ (c ∷ ys))
  among_count xs = let a = count_append xs (c ∷ ys) in let b = count_cons c ys in omega arith

  pub among_edited : (x : MaybeNumber) (xs : List Child) → edited_in (xs ++ (c ∷ ys)) (count_in xs + left) x ≡ pieces_of xs ++ (child_edited c left x ∷ pieces_of ys)
  unfolding edited_in count_in pieces_of
  among_edited x [] = let e : 0 + left ≡ left = omega arith in rw (e, lt-ltb left (child_count c) h)
  among_edited x (y ∷ xs) =
      let e : child_count y + count_in xs + left - child_count y ≡ count_in xs + left = omega arith in
      rw (le-ltb (child_count y + count_in xs + left) (child_count y) (omega arith), e, among_edited x xs)

  pub among_spot : (d : Depths) (p : ℕ) (xs : List Child) (k : ℕ) → spot_in d p k (xs ++ (c ∷ ys)) (count_in xs + left) ≡ child_spot d p (end_of k (pieces_of xs)) c left
  unfolding spot_in count_in pieces_of
  among_spot d p [] k = let e : 0 + left ≡ left = omega arith in rw (e, lt-ltb left (child_count c) h, end_of_none k)
  among_spot d p (y ∷ xs) k =
      let e : child_count y + count_in xs + left - child_count y ≡ count_in xs + left = omega arith in
      rw (le-ltb (child_count y + count_in xs + left) (child_count y) (omega arith), e, end_of_cons k y.piece (pieces_of xs)) (among_spot d p xs (stop k y.piece))

pub pieces_append : (xs ys : List Child) → pieces_of (xs ++ ys) ≡ pieces_of xs ++ pieces_of ys
unfolding pieces_of
pieces_append [] ys = refl
pieces_append (x ∷ xs) ys = ap (λ (z : List Piece). x.piece ∷ z) (pieces_append xs ys)

-- those of one editor
abbrev pub child_of : Editor → Piece → Child
child_of e c = record { editor = e; piece = c }

pub alike_append : (e : Editor) (xs ys : List Piece) → alike e (xs ++ ys) ≡ alike e xs ++ alike e ys
unfolding alike
alike_append e [] ys = refl
alike_append e (x ∷ xs) ys = ap (λ (z : List Child). child_of e x ∷ z) (alike_append e xs ys)

pub alike_cons : (e : Editor) (c : Piece) (ys : List Piece) → alike e (c ∷ ys) ≡ child_of e c ∷ alike e ys
unfolding alike
alike_cons e c ys = refl

pub alike_none : (e : Editor) → alike e [] ≡ []
unfolding alike
alike_none e = refl

pub alike_pieces : (e : Editor) (xs : List Piece) → pieces_of (alike e xs) ≡ xs
unfolding alike pieces_of
alike_pieces e [] = refl
alike_pieces e (x ∷ xs) = ap (λ (z : List Piece). x ∷ z) (alike_pieces e xs)

-- ---- what is left of the children of a container, and of a reading's number

pub record Gone (cs : List Child) (i : ℕ) (ys : List Child) (left : ℕ) : Type 0 where
  pub xs : List Child
  pub is : cs ≡ xs ++ ys
  pub passed : i ≡ count_in xs + left

pub gone_begin : (cs : List Child) (i : ℕ) → Gone cs i cs i
gone_begin cs i = record { xs = []; is = refl; passed = (let n = count_none in omega arith) }

module _ {cs : List Child} {i : ℕ} {ys : List Child} {left : ℕ} (g : Gone cs i ys left) where
  pub gone_less : left ≤ i
  gone_less = omega (arith, g.passed)

  pub gone_end : ys ≡ [] → i - left ≡ count_in cs
  gone_end h =
      let a = ap count_in (g.is ∙ ap (λ (z : List Child). g.xs ++ z) h) ∙ count_append g.xs [] in
      let b = count_none in
      omega (arith, g.passed)

  pub gone_next : (c : Child) (zs : List Child) (n : ℕ) → ys ≡ c ∷ zs → n ≡ child_count c → n ≤ left → Gone cs i zs (left - n)
  gone_next c zs n h q m = record {
    xs = g.xs ++ (c ∷ []);
    is = g.is ∙ ap (λ (z : List Child). g.xs ++ z) h ∙ sym (append_assoc g.xs (c ∷ []) zs);
    passed = (let a = count_append g.xs (c ∷ []) in let b = count_cons c [] in let e = count_none in omega (arith, g.passed));
  }

  -- the next one has the reading
  module _ (c : Child) (zs : List Child) (h : ys ≡ c ∷ zs) (m : left < child_count c) where
    here_is : cs ≡ g.xs ++ (c ∷ zs)
    here_is = g.is ∙ ap (λ (z : List Child). g.xs ++ z) h

    pub gone_within : i < count_in cs
    gone_within = let a = among_count c zs left m g.xs in let b = ap count_in here_is in omega (arith, g.passed)

    pub gone_edited : (x : MaybeNumber) → edited_in cs i x ≡ pieces_of g.xs ++ (child_edited c left x ∷ pieces_of zs)
    gone_edited x = ap (λ (z : List Child). edited_in z i x) here_is ∙ ap (λ (j : ℕ). edited_in (g.xs ++ (c ∷ zs)) j x) g.passed ∙ among_edited c zs left m x g.xs

    pub gone_spot : (d : Depths) (p : ℕ) → spot_in d p 0 cs i ≡ child_spot d p (end_of 0 (pieces_of g.xs)) c left
    gone_spot d p = ap (λ (z : List Child). spot_in d p 0 z i) here_is ∙ ap (λ (j : ℕ). spot_in d p 0 (g.xs ++ (c ∷ zs)) j) g.passed ∙ among_spot c zs left m d p g.xs 0
