-- Where a byte first stands, and the words of a line, step by step. Assumes nothing.
use mathlib.Core.Path.{◌≡◌, refl, sym, ap, ◌∙◌}
use mathlib.Core.List.{List, [], ◌∷◌}
use mathlib.Core.Bool.{Bool, true, false, cond}
use mathlib.Core.Logic.{◌≢◌}
use Prim.Native.Nat.{ℕ, zero, suc, ◌-◌, ◌≤◌, ◌<◌}
use native.Mathlib.Omega.{arith}
use denote.Ref.{Bor}
use lib.Dec.{ltb, eqb}
use lib.ListN.{length, take, drop, length-drop, drop_of_length-le}
use lib.Seq.{take_all}
use borrow.Author.Tests.{eq-eqb, ne_eqb, ltb-true, ltb-false}
use Rattle.std.specs.Prelude.{Some, None, unwrap_or, MatchOption, Option as Answer}
use Rattle.std.specs.Option.{option_map}
use Rattle.std.specs.List.{slice_get, slice_split, onto_first, AllWithin, HoldsAt}
use Rattle.std.proofs.lemmas.Iterator.{index_from_first}
use Rattle.meaning.specs.Choice.{pick}
use Rattle.meaning.proofs.Lists.{tail}
use Rattle.lines.specs.Words.{place, word_at}

-- A byte's place, by the first element that passes a test: none passes, or it is the first.
pub place_by : (byte : ℕ) (text : List ℕ) (r : Answer ℕ) → MatchOption r (AllWithin (λ b. b ≢ byte) text 0 (length text)) (λ i. (i < length text) × HoldsAt (λ b. b ≡ byte) text i × AllWithin (λ b. b ≢ byte) text 0 i) → place byte text ≡ unwrap_or r (length text)
unfolding place
place_by byte text r h =
    index_from_first (place byte) (λ b. b ≡ byte) (λ b. b ≢ byte) refl (λ b l e. rw (eq-eqb b byte e) refl) (λ b l e. rw (ne_eqb b byte e) (omega arith)) text r h

pub place_within : (byte : ℕ) (text : List ℕ) → place byte text ≤ length text
unfolding place
place_within byte [] = omega arith
place_within byte (b ∷ l) = go (eqb b byte) (place_within byte l)
  where
    go : (x : Bool) → place byte l ≤ length l → pick x 0 (suc (place byte l)) ≤ suc (length l)
    go true h = omega arith
    go false h = omega arith

-- the parts of a line at its blanks: a first one and the others, or one alone
abbrev parts : List ℕ → List (List ℕ)
parts l = slice_split (λ b. eqb b 32) l

parts_more : (l : List ℕ) → place 32 l < length l → parts l ≡ take (place 32 l) l ∷ parts (drop (suc (place 32 l)) l)
unfolding place
parts_more [] h = (let never : ⊥ = omega arith in absurd never)
parts_more (b ∷ l) h = go (eqb b 32) (parts_more l) h
  where
    go : (x : Bool) → (place 32 l < length l → parts l ≡ take (place 32 l) l ∷ parts (drop (suc (place 32 l)) l)) → pick x 0 (suc (place 32 l)) < suc (length l) → cond x ([] ∷ parts l) (onto_first b (parts l)) ≡ take (pick x 0 (suc (place 32 l))) (b ∷ l) ∷ parts (drop (suc (pick x 0 (suc (place 32 l)))) (b ∷ l))
    go true i k = refl
    go false i k = rw (i (omega arith)) refl

parts_one : (l : List ℕ) → length l ≤ place 32 l → parts l ≡ l ∷ []
unfolding place
parts_one [] h = refl
parts_one (b ∷ l) h = go (eqb b 32) (parts_one l) h
  where
    go : (x : Bool) → (length l ≤ place 32 l → parts l ≡ l ∷ []) → suc (length l) ≤ pick x 0 (suc (place 32 l)) → cond x ([] ∷ parts l) (onto_first b (parts l)) ≡ (b ∷ l) ∷ []
    go true i k = (let never : ⊥ = omega arith in absurd never)
    go false i k = rw (i (omega arith)) refl

word_nothing : (n : ℕ) → word_at n [] ≡ []
unfolding word_at place
word_nothing zero = refl
word_nothing (suc n) = word_nothing n

-- a word is the part by its number, or nothing behind the last
pub word_by : (n : ℕ) (l : List ℕ) → unwrap_or (slice_get (parts l) n) [] ≡ word_at n l
unfolding word_at
word_by zero l = go (ltb (place 32 l) (length l)) refl
  where
    go : (x : Bool) → ltb (place 32 l) (length l) ≡ x → unwrap_or (slice_get (parts l) 0) [] ≡ take (place 32 l) l
    go true e = rw (parts_more l (ltb-true _ _ e)) refl
    go false e =
        let h = ltb-false _ _ e in rw (parts_one l h) (sym (take_all (place 32 l) l h))
word_by (suc n) l = go (ltb (place 32 l) (length l)) refl (word_by n (drop (suc (place 32 l)) l))
  where
    go : (x : Bool) → ltb (place 32 l) (length l) ≡ x → unwrap_or (slice_get (parts (drop (suc (place 32 l)) l)) n) [] ≡ word_at n (drop (suc (place 32 l)) l) → unwrap_or (slice_get (parts l) (suc n)) [] ≡ word_at n (drop (suc (place 32 l)) l)
    go true e i = rw (parts_more l (ltb-true _ _ e)) i
    go false e i =
        let h = ltb-false _ _ e in
        let far : length l ≤ suc (place 32 l) = omega arith in
        rw (parts_one l h) (sym (ap (word_at n) (drop_of_length-le l far) ∙ word_nothing n))

pub now_or : (r : Answer (Bor (List ℕ))) (d : Bor (List ℕ)) (x : Answer (List ℕ)) → option_map (λ y. y.now) r ≡ x → d.now ≡ [] → (unwrap_or r d).now ≡ unwrap_or x []
now_or None d x e h = rw (← e) h
now_or (Some y) d x e h = rw (← e) refl

pub length_to_end : (l : List ℕ) (k : ℕ) → length (take (length l - k) (drop k l)) ≡ length l - k
length_to_end l k = ap length (tail k l) ∙ length-drop k l
