-- The letter at a place, and what it says of the text there. Assumes nothing.
use mathlib.Core.Logic.{◌≢◌}
use mathlib.Core.Path.{◌≡◌, refl, sym, ap, subst, ◌∙◌}
use mathlib.Core.List.{List, [], ◌∷◌}
use mathlib.Core.Option.{Option, none, some}
use mathlib.Core.Bool.{Bool, true, false, not, false≢true}
use Prim.Native.Nat.{ℕ, suc, ◌+◌, ◌-◌, ◌≤◌, ◌<◌}
use native.Mathlib.Omega.{arith}
use mir.Val.{has_key}
use types.Run.{OneOf, miss}
use denote.Enum.Declared.{tag_of}
use lib.Dec.{T, eqb}
use borrow.Author.Tests.{eqb-true, eqb-false, le-leb}
use lib.ListN.{length, get_or, drop, drop_of_length-le, length-drop}
use lib.Seq.{drop-cons, drop-drop}
use Rattle.meaning.specs.Choice.{pick}
use Rattle.meaning.specs.Types.{Basic, bool, number, text, Tree, basic, basic_alignment, basic_fixed, alignment, fixed, fixed_size}
use Rattle.meaning.specs.Letters.{basic_letter}
use Rattle.meaning.specs.TypeText.{type_text, basic_among, basic_of, Found, basic_tree, entry_by, entry_begun, type_begun, first_type}
use Rattle.meaning.proofs.TypeLaws.{number_positive}
use Rattle.meaning.proofs.TypeTextLaws.{basic_of_lem, first_type_none, first_type_cons, first_type_type_text}
use Rattle.signature.specs.Places.{basic_kind, letter_by, letter_of, letter_in, letter_at, child_of, no_child, child_by, child_at, type_at, ClosesAt}
use Rattle.signature.specs.Steps.{key_alignment}
use Rattle.signature.specs.Places.{Child}
use Rattle.signature.specs.declared.Letter.{Letter}
use Rattle.signature.specs.contracts.Letter.{the_type}
use Rattle.signature.specs.declared.Letter.TheVariants.{End, Bad, Boolean, Number, Text, Variant, Maybe, Array, OpenStructure, CloseStructure, OpenEntry, CloseEntry}

pub letter_end : (l : List ℕ) (at : ℕ) → length l ≤ at → letter_at l at ≡ End
unfolding letter_in
letter_end l at h = ap letter_in (drop_of_length-le l h)

pub letter_some : (l : List ℕ) (at : ℕ) → at < length l → letter_at l at ≡ letter_of (get_or l at 0)
unfolding letter_in
letter_some l at h = ap letter_in (drop-cons l at 0 h)

-- a letter that is one of the other variants is not this one
apart : (ks : List ℕ) (k j : Letter) → T (not (has_key ks (tag_of the_type j))) → OneOf ks (tag_of the_type k) → k ≡ j → ⊥
apart ks k j h w e = miss ks (tag_of the_type j) h (subst (λ (x : Letter). OneOf ks (tag_of the_type x)) e w)

abbrev without : ℕ → List ℕ → List ℕ
without n [] = []
without n (k ∷ ks) = pick (eqb n k) ks (k ∷ without n ks)

abbrev pub others : Letter → List ℕ
others j = without (tag_of the_type j) (0 ∷ 1 ∷ 2 ∷ 3 ∷ 4 ∷ 5 ∷ 6 ∷ 7 ∷ 8 ∷ 9 ∷ 10 ∷ 11 ∷ [])

pub apart_from : (j k : Letter) → OneOf (others j) (tag_of the_type k) → k ≡ j → ⊥
apart_from End k h e = apart (others End) k End tt h e
apart_from Bad k h e = apart (others Bad) k Bad tt h e
apart_from Boolean k h e = apart (others Boolean) k Boolean tt h e
apart_from (Number c w) k h e = apart (others (Number c w)) k (Number c w) tt h e
apart_from (Text c) k h e = apart (others (Text c)) k (Text c) tt h e
apart_from Variant k h e = apart (others Variant) k Variant tt h e
apart_from Maybe k h e = apart (others Maybe) k Maybe tt h e
apart_from Array k h e = apart (others Array) k Array tt h e
apart_from OpenStructure k h e = apart (others OpenStructure) k OpenStructure tt h e
apart_from CloseStructure k h e = apart (others CloseStructure) k CloseStructure tt h e
apart_from OpenEntry k h e = apart (others OpenEntry) k OpenEntry tt h e
apart_from CloseEntry k h e = apart (others CloseEntry) k CloseEntry tt h e

-- ---- the text by its first letter

-- the character of a letter that stands for itself
abbrev pub mark : Letter → Option ℕ
mark End = none
mark Bad = none
mark Boolean = none
mark (Number c w) = none
mark (Text c) = none
mark Variant = some 118
mark Maybe = some 109
mark Array = some 97
mark OpenStructure = some 40
mark CloseStructure = some 41
mark OpenEntry = some 123
mark CloseEntry = some 125

data Seen : List ℕ → Letter → Type 0 where
  at_end : Seen [] End
  at_basic : (b : Basic) (l : List ℕ) → Seen (basic_letter b ∷ l) (basic_kind b)
  at_mark : (c : ℕ) (k : Letter) (l : List ℕ) → mark k ≡ some c → basic_of c ≡ none → Seen (c ∷ l) k
  at_bad : (c : ℕ) (l : List ℕ) → basic_of c ≡ none → first_type (c ∷ l) ≡ none → Seen (c ∷ l) Bad

seen_other : (c : ℕ) (l : List ℕ) → basic_of c ≡ none → Seen (c ∷ l) (letter_by c none)
unfolding letter_by type_begun basic_tree
seen_other c l n = go (eqb c 118) (eqb c 109) (eqb c 97) (eqb c 40) (eqb c 41) (eqb c 123) (eqb c 125) refl refl refl refl refl refl refl
  where
    go : (v m a o z e f : Bool) → eqb c 118 ≡ v → eqb c 109 ≡ m → eqb c 97 ≡ a → eqb c 40 ≡ o → eqb c 41 ≡ z → eqb c 123 ≡ e → eqb c 125 ≡ f
        → Seen (c ∷ l) (pick v Variant (pick m Maybe (pick a Array (pick o OpenStructure (pick z CloseStructure (pick e OpenEntry (pick f CloseEntry Bad)))))))
    go true m a o z e f hv hm ha ho hz he hf = at_mark c Variant l (ap some (sym (eqb-true c 118 hv))) n
    go false true a o z e f hv hm ha ho hz he hf = at_mark c Maybe l (ap some (sym (eqb-true c 109 hm))) n
    go false false true o z e f hv hm ha ho hz he hf = at_mark c Array l (ap some (sym (eqb-true c 97 ha))) n
    go false false false true z e f hv hm ha ho hz he hf = at_mark c OpenStructure l (ap some (sym (eqb-true c 40 ho))) n
    go false false false false true e f hv hm ha ho hz he hf = at_mark c CloseStructure l (ap some (sym (eqb-true c 41 hz))) n
    go false false false false false true f hv hm ha ho hz he hf = at_mark c OpenEntry l (ap some (sym (eqb-true c 123 he))) n
    go false false false false false false true hv hm ha ho hz he hf = at_mark c CloseEntry l (ap some (sym (eqb-true c 125 hf))) n
    go false false false false false false false hv hm ha ho hz he hf = at_bad c l n (first_type_cons c l ∙ rw (hv, hm, ha, ho) (rw n))

seen : (l : List ℕ) → Seen l (letter_in l)
unfolding letter_in letter_by
seen [] = at_end
seen (c ∷ l) = go (basic_of c) refl
  where
    go : (b : Option Basic) → basic_of c ≡ b → Seen (c ∷ l) (letter_by c b)
    go none p = seen_other c l p
    go (some b) p = rw (basic_of_lem c b p) (at_basic b l)

-- a text goes on at a place by a character
pub record Cut (l : List ℕ) (at c : ℕ) : Type 0 where
  pub is : drop at l ≡ c ∷ drop (at + 1) l
  pub within : at < length l

cut_at : (l : List ℕ) (at c : ℕ) (r : List ℕ) → drop at l ≡ c ∷ r → Cut l at c
cut_at l at c r h =
    let d : drop 1 (drop at l) ≡ drop (at + 1) l = drop-drop 1 at l in
    let e : r ≡ drop (at + 1) l = rw h at d in
    record { is = h ∙ ap (λ (x : List ℕ). c ∷ x) e; within = omega (arith, length-drop at l, ap length h) }

never : {c : ℕ} → ◌≡◌ {A = Option ℕ} none (some c) → ⊥
never h = let z : ◌≡◌ {A = ℕ} 0 1 = cc in omega arith

unmarked : (b : Basic) → mark (basic_kind b) ≡ none
unmarked bool = refl
unmarked (number n) = refl
unmarked (text x) = refl

-- a letter that stands for itself is that character
pub cut : (l : List ℕ) (at : ℕ) (k : Letter) (c : ℕ) → letter_at l at ≡ k → mark k ≡ some c → Cut l at c
cut l at k c h m = go (drop at l) (letter_at l at) refl (seen (drop at l)) h
  where
    go : (r : List ℕ) (j : Letter) → drop at l ≡ r → Seen r j → j ≡ k → Cut l at c
    go r j e at_end p = let z : ◌≡◌ {A = Option ℕ} none (some c) = ap mark p ∙ m in absurd (never z)
    go r j e (at_basic b x) p = let z : ◌≡◌ {A = Option ℕ} none (some c) = sym (unmarked b) ∙ ap mark p ∙ m in absurd (never z)
    go r j e (at_mark d i x q n) p = let z : some d ≡ some c = sym q ∙ ap mark p ∙ m in let w : d ≡ c = cc in cut_at l at c x (e ∙ ap (λ (y : ℕ). y ∷ x) w)
    go r j e (at_bad d x n f) p = let z : ◌≡◌ {A = Option ℕ} none (some c) = ap mark p ∙ m in absurd (never z)

-- the character of a letter that stands for itself is not there
pub not_cut : (l : List ℕ) (at : ℕ) (k : Letter) (c : ℕ) → mark k ≡ some c → (at < length l → get_or l at 0 ≡ c → ⊥) → letter_at l at ≡ k → ⊥
not_cut l at k c m f h =
    let q = cut l at k c h m in
    let d : get_or l at 0 ∷ drop (suc at) l ≡ c ∷ drop (at + 1) l = sym (drop-cons l at 0 q.within) ∙ q.is in
    let e : get_or l at 0 ≡ c = cc in
    f q.within e

-- letters by their characters
pub begins_maybe : (l : List ℕ) (at : ℕ) → (at < length l) × (get_or l at 0 ≡ 109) → letter_at l at ≡ Maybe
unfolding letter_by basic_among
begins_maybe l at h = letter_some l at h.0 ∙ rw h.1

pub begins_array : (l : List ℕ) (at : ℕ) → (at < length l) × (get_or l at 0 ≡ 97) → letter_at l at ≡ Array
unfolding letter_by basic_among
begins_array l at h = letter_some l at h.0 ∙ rw h.1

pub begins_structure : (l : List ℕ) (at : ℕ) → (at < length l) × (get_or l at 0 ≡ 40) → letter_at l at ≡ OpenStructure
unfolding letter_by basic_among
begins_structure l at h = letter_some l at h.0 ∙ rw h.1

pub closes_structure : (l : List ℕ) (at : ℕ) → (at < length l) × (get_or l at 0 ≡ 41) → letter_at l at ≡ CloseStructure
unfolding letter_by basic_among
closes_structure l at h = letter_some l at h.0 ∙ rw h.1

pub opens_entry_lem : (l : List ℕ) (at : ℕ) → (at < length l) × (get_or l at 0 ≡ 123) → letter_at l at ≡ OpenEntry
unfolding letter_by basic_among
opens_entry_lem l at h = letter_some l at h.0 ∙ rw h.1

pub closes_entry : (l : List ℕ) (at : ℕ) → (at < length l) × (get_or l at 0 ≡ 125) → letter_at l at ≡ CloseEntry
unfolding letter_by basic_among
closes_entry l at h = letter_some l at h.0 ∙ rw h.1

-- a key stands at a place, or none
pub record Key (l : List ℕ) (at : ℕ) : Type 0 where
  pub it : Basic
  pub kind : letter_at l at ≡ basic_kind it
  pub goes : Cut l at (basic_letter it)

pub key_zero : (b : Basic) → key_alignment (basic_kind b) ≡ 0 → ⊥
key_zero bool h = omega arith
key_zero (number n) h = let p = number_positive n in omega arith
key_zero (text x) h = omega arith

mark_zero : (k : Letter) (c : ℕ) → mark k ≡ some c → key_alignment k ≡ 0
mark_zero End c h = refl
mark_zero Bad c h = refl
mark_zero Boolean c h = absurd (never h)
mark_zero (Number d w) c h = absurd (never h)
mark_zero (Text d) c h = absurd (never h)
mark_zero Variant c h = refl
mark_zero Maybe c h = refl
mark_zero Array c h = refl
mark_zero OpenStructure c h = refl
mark_zero CloseStructure c h = refl
mark_zero OpenEntry c h = refl
mark_zero CloseEntry c h = refl

pub key_at : (l : List ℕ) (at : ℕ) → (key_alignment (letter_at l at) ≡ 0 → ⊥) → Key l at
key_at l at h = go (drop at l) (letter_at l at) refl refl (seen (drop at l)) h
  where
    go : (r : List ℕ) (j : Letter) → drop at l ≡ r → letter_at l at ≡ j → Seen r j → (key_alignment j ≡ 0 → ⊥) → Key l at
    go r j e p at_end n = absurd (n refl)
    go r j e p (at_basic b x) n = record { it = b; kind = p; goes = cut_at l at (basic_letter b) x e }
    go r j e p (at_mark d i x q m) n = absurd (n (mark_zero j d q))
    go r j e p (at_bad d x m f) n = absurd (n refl)

pub no_key_at : (l : List ℕ) (at : ℕ) → key_alignment (letter_at l at) ≡ 0 → (one : List ℕ → Found Tree) → entry_begun one (drop at l) ≡ none
unfolding entry_begun entry_by
no_key_at l at h one = go (drop at l) (letter_at l at) (seen (drop at l)) h
  where
    go : (r : List ℕ) (j : Letter) → Seen r j → key_alignment j ≡ 0 → entry_begun one r ≡ none
    go r j at_end n = refl
    go r j (at_basic b x) n = absurd (key_zero b n)
    go r j (at_mark d i x q m) n = rw m
    go r j (at_bad d x m f) n = rw m

-- ---- the types of one letter

-- what a letter makes by itself
abbrev pub alone : Letter → Bool
alone End = true
alone Bad = true
alone Boolean = true
alone (Number c w) = true
alone (Text c) = true
alone Variant = true
alone Maybe = false
alone Array = false
alone OpenStructure = false
alone CloseStructure = true
alone OpenEntry = true
alone CloseEntry = true

abbrev pub lone_child : ℕ → Letter → Child
lone_child next End = no_child End
lone_child next Bad = no_child Bad
lone_child next Boolean = child_of Boolean true next 1 true 1
lone_child next (Number c w) = child_of (Number c w) true next w true w
lone_child next (Text c) = child_of (Text c) true next 1 false 0
lone_child next Variant = child_of Variant true next 8 false 0
lone_child next Maybe = no_child Maybe
lone_child next Array = no_child Array
lone_child next OpenStructure = no_child OpenStructure
lone_child next CloseStructure = no_child CloseStructure
lone_child next OpenEntry = no_child OpenEntry
lone_child next CloseEntry = no_child CloseEntry

-- a character that begins no type
pub no_letter : (n c : ℕ) → eqb c 98 ≡ false → eqb c 121 ≡ false → eqb c 110 ≡ false → eqb c 113 ≡ false → eqb c 105 ≡ false → eqb c 117 ≡ false → eqb c 120 ≡ false → eqb c 116 ≡ false → eqb c 100 ≡ false → eqb c 115 ≡ false
    → eqb c 111 ≡ false → eqb c 103 ≡ false → eqb c 118 ≡ false → eqb c 109 ≡ false → eqb c 97 ≡ false → eqb c 40 ≡ false → (lone_child n (letter_of c) ≡ no_child (letter_of c)) × (alone (letter_of c) ≡ true)
unfolding letter_by basic_among
no_letter n c h₁ h₂ h₃ h₄ h₅ h₆ h₇ h₈ h₉ i₁ i₂ i₃ i₄ i₅ i₆ i₇ = rw (h₁, h₂, h₃, h₄, h₅, h₆, h₇, h₈, h₉, i₁, i₂, i₃, i₄, i₅, i₆, i₇) (go (eqb c 41) (eqb c 123) (eqb c 125))
  where
    go : (x y z : Bool) → (lone_child n (pick x CloseStructure (pick y OpenEntry (pick z CloseEntry Bad))) ≡ no_child (pick x CloseStructure (pick y OpenEntry (pick z CloseEntry Bad)))) × (alone (pick x CloseStructure (pick y OpenEntry (pick z CloseEntry Bad))) ≡ true)
    go true y z = (refl, refl)
    go false true z = (refl, refl)
    go false false true = (refl, refl)
    go false false false = (refl, refl)

-- a closing bracket or the brace of an entry begins no type
pub first_mark : (k : Letter) (c : ℕ) (l : List ℕ) → mark k ≡ some c → alone k ≡ true → k ≢ Variant → first_type (c ∷ l) ≡ none
unfolding type_begun basic_tree basic_among
first_mark End c l h a v = absurd (never h)
first_mark Bad c l h a v = absurd (never h)
first_mark Boolean c l h a v = absurd (never h)
first_mark (Number d w) c l h a v = absurd (never h)
first_mark (Text d) c l h a v = absurd (never h)
first_mark Variant c l h a v = absurd (v refl)
first_mark Maybe c l h a v = let z : ◌≡◌ {A = ℕ} 0 1 = cc in absurd (omega arith)
first_mark Array c l h a v = let z : ◌≡◌ {A = ℕ} 0 1 = cc in absurd (omega arith)
first_mark OpenStructure c l h a v = let z : ◌≡◌ {A = ℕ} 0 1 = cc in absurd (omega arith)
first_mark CloseStructure c l h a v = let e : 41 ≡ c = cc in rw (← e) (first_type_cons 41 l)
first_mark OpenEntry c l h a v = let e : 123 ≡ c = cc in rw (← e) (first_type_cons 123 l)
first_mark CloseEntry c l h a v = let e : 125 ≡ c = cc in rw (← e) (first_type_cons 125 l)

none_child : (k : Letter) (len : ℕ) (x : Found Tree) → x ≡ none → child_by k len x ≡ no_child k
unfolding child_by
none_child k len x h = rw h

lone_basic : (b : Basic) (n : ℕ) → child_of (basic_kind b) true n (basic_alignment b) (basic_fixed b) (pick (basic_fixed b) (basic_alignment b) 0) ≡ lone_child n (basic_kind b)
lone_basic bool n = refl
lone_basic (number x) n = refl
lone_basic (text x) n = refl

lone_mark : (k : Letter) (c next len : ℕ) (r : List ℕ) → mark k ≡ some c → alone k ≡ true → len - length r ≡ next → child_by k len (first_type (c ∷ r)) ≡ lone_child next k
unfolding type_begun child_by alignment fixed fixed_size
lone_mark End c next len r h a e = absurd (never h)
lone_mark Bad c next len r h a e = absurd (never h)
lone_mark Boolean c next len r h a e = absurd (never h)
lone_mark (Number d w) c next len r h a e = absurd (never h)
lone_mark (Text d) c next len r h a e = absurd (never h)
lone_mark Variant c next len r h a e = let g : 118 ≡ c = cc in rw (← g, first_type_cons, ← e)
lone_mark Maybe c next len r h a e = let z : ◌≡◌ {A = ℕ} 0 1 = cc in absurd (omega arith)
lone_mark Array c next len r h a e = let z : ◌≡◌ {A = ℕ} 0 1 = cc in absurd (omega arith)
lone_mark OpenStructure c next len r h a e = let z : ◌≡◌ {A = ℕ} 0 1 = cc in absurd (omega arith)
lone_mark CloseStructure c next len r h a e = none_child CloseStructure len (first_type (c ∷ r)) (first_mark CloseStructure c r h a (λ q. let z : ◌≡◌ {A = ℕ} 0 1 = cc in omega arith))
lone_mark OpenEntry c next len r h a e = none_child OpenEntry len (first_type (c ∷ r)) (first_mark OpenEntry c r h a (λ q. let z : ◌≡◌ {A = ℕ} 0 1 = cc in omega arith))
lone_mark CloseEntry c next len r h a e = none_child CloseEntry len (first_type (c ∷ r)) (first_mark CloseEntry c r h a (λ q. let z : ◌≡◌ {A = ℕ} 0 1 = cc in omega arith))

lone_by : (r : List ℕ) (j : Letter) (len next : ℕ) → Seen r j → alone j ≡ true → (0 < length r → len + 1 - length r ≡ next) → child_by j len (first_type r) ≡ lone_child next j
unfolding child_by alignment fixed fixed_size type_text
lone_by r j len next at_end a e = none_child End len (first_type []) first_type_none
lone_by r j len next (at_basic b x) a e =
    let w : len - length x ≡ next = omega (arith, e (omega arith)) in
    rw (first_type_type_text (basic b) x) (rw (← w) (lone_basic b (len - length x)))
lone_by r j len next (at_mark d i x q m) a e = let w : len - length x ≡ next = omega (arith, e (omega arith)) in lone_mark j d next len x q a w
lone_by r j len next (at_bad d x m f) a e = none_child Bad len (first_type (d ∷ x)) f

-- the types of one letter, and what is no type
pub child_lone : (l : List ℕ) (at : ℕ) (k : Letter) → length l ≤ 255 → letter_at l at ≡ k → alone k ≡ true → child_at l at ≡ lone_child (at + 1) k
unfolding child_at type_at
child_lone l at k n h a =
    let m = length-drop at l in
    rw (le-leb (length l) 255 n) (lone_by (drop at l) (letter_at l at) (length l) (at + 1) (seen (drop at l)) (ap alone h ∙ a) (λ p. omega arith) ∙ ap (lone_child (at + 1)) h)

-- where a structure's type ends
module _ (l : List ℕ) (at : ℕ) where
  pub closes_past : length l ≤ at → ClosesAt l at false
  closes_past h = record {
    there = λ z. absurd (false≢true z);
    missing = λ z. not_cut l at CloseStructure 41 refl (λ w e. omega arith);
  }

  pub closes_by : at < length l → ClosesAt l at (eqb (get_or l at 0) 41)
  unfolding letter_by basic_among
  closes_by h = record {
    there = λ z. letter_some l at h ∙ ap letter_of (eqb-true (get_or l at 0) 41 z);
    missing = λ z. not_cut l at CloseStructure 41 refl (λ w e. eqb-false (get_or l at 0) 41 z e);
  }

pub closes_once : (l : List ℕ) (at : ℕ) (r s : Bool) → ClosesAt l at r → ClosesAt l at s → r ≡ s
closes_once l at true true p q = refl
closes_once l at true false p q = absurd (q.missing refl (p.there refl))
closes_once l at false true p q = absurd (p.missing refl (q.there refl))
closes_once l at false false p q = refl
