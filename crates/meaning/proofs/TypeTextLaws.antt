-- The text of a type reads as that type and as no other, whatever stands behind it, and its letters are from 1 to 127. Assumes nothing.
use mathlib.Core.Path.{◌≡◌, refl, sym, ap, ◌∙◌}
use mathlib.Core.List.{List, [], ◌∷◌, ◌++◌, append-nil, append_assoc}
use mathlib.Core.Option.{Option, none, some}
use mathlib.Core.Bool.{Bool, true, false, ◌&&◌}
use Prim.Native.Nat.{ℕ, zero, suc, ◌+◌, ◌*◌, ◌-◌, ◌≤◌, ◌<◌}
use native.Mathlib.Omega.{arith}
use lib.Dec.{T, leb, eqb, leb→le}
use lib.ListN.{length, get_or, length-append}
use borrow.Author.Tests.{le-leb, eq-eqb, ne_eqb, eqb-true, leb-true}
use Rattle.meaning.proofs.Tests.{both, both_left, both_right, from_test}
use Rattle.meaning.specs.Choice.{pick}
use Rattle.meaning.specs.Texts.{without_final_nul, no_nul, following, after_byte, utf8_from, utf8}
use Rattle.meaning.specs.Types.{byte, int16, uint16, int32, uint32, int64, uint64, double, string, object_path, signature, Basic, bool, number, text, Tree, Fields, basic, variant, maybe, array, dictionary, structure, last, next, alignment, largest_alignment, all_fixed, rounded, fixed_size, fields_end}
use Rattle.meaning.specs.Letters.{basic_letter}
use Rattle.meaning.specs.TypeText.{type_text, fields_text, Begun, Found, found, basics, basic_among, basic_of, made, ended_by, basic_tree, entry_by, entry_begun, array_begun, type_begun, fields_begun, type_within, fields_within, first_type, nothing_behind, type_of, first_fields}
use Rattle.meaning.proofs.PaddingLaws.{padding_below}
use Rattle.meaning.proofs.TypeLaws.{aligns_most, number_aligned, aligned, fields_aligned}

-- ---- basic letters

-- a basic letter is found, and is none of the letters v m a ( ) { }
pub record BasicLetter (c : ℕ) (b : Basic) : Type 0 where
  pub known : basic_of c ≡ some b
  pub no_variant : eqb c 118 ≡ false
  pub no_maybe : eqb c 109 ≡ false
  pub no_array : eqb c 97 ≡ false
  pub no_open : eqb c 40 ≡ false
  pub no_close : eqb c 41 ≡ false
  pub no_entry_lem : eqb c 123 ≡ false
  pub no_entry_end : eqb c 125 ≡ false
  pub plain_letter : T (leb 1 c && leb c 127)

pub basic_letter_lem : (b : Basic) → BasicLetter (basic_letter b) b
unfolding basic_among
basic_letter_lem bool = record { known = refl; no_variant = refl; no_maybe = refl; no_array = refl; no_open = refl; no_close = refl; no_entry_lem = refl; no_entry_end = refl; plain_letter = tt }
basic_letter_lem (number byte) = record { known = refl; no_variant = refl; no_maybe = refl; no_array = refl; no_open = refl; no_close = refl; no_entry_lem = refl; no_entry_end = refl; plain_letter = tt }
basic_letter_lem (number int16) = record { known = refl; no_variant = refl; no_maybe = refl; no_array = refl; no_open = refl; no_close = refl; no_entry_lem = refl; no_entry_end = refl; plain_letter = tt }
basic_letter_lem (number uint16) = record { known = refl; no_variant = refl; no_maybe = refl; no_array = refl; no_open = refl; no_close = refl; no_entry_lem = refl; no_entry_end = refl; plain_letter = tt }
basic_letter_lem (number int32) = record { known = refl; no_variant = refl; no_maybe = refl; no_array = refl; no_open = refl; no_close = refl; no_entry_lem = refl; no_entry_end = refl; plain_letter = tt }
basic_letter_lem (number uint32) = record { known = refl; no_variant = refl; no_maybe = refl; no_array = refl; no_open = refl; no_close = refl; no_entry_lem = refl; no_entry_end = refl; plain_letter = tt }
basic_letter_lem (number int64) = record { known = refl; no_variant = refl; no_maybe = refl; no_array = refl; no_open = refl; no_close = refl; no_entry_lem = refl; no_entry_end = refl; plain_letter = tt }
basic_letter_lem (number uint64) = record { known = refl; no_variant = refl; no_maybe = refl; no_array = refl; no_open = refl; no_close = refl; no_entry_lem = refl; no_entry_end = refl; plain_letter = tt }
basic_letter_lem (number double) = record { known = refl; no_variant = refl; no_maybe = refl; no_array = refl; no_open = refl; no_close = refl; no_entry_lem = refl; no_entry_end = refl; plain_letter = tt }
basic_letter_lem (text string) = record { known = refl; no_variant = refl; no_maybe = refl; no_array = refl; no_open = refl; no_close = refl; no_entry_lem = refl; no_entry_end = refl; plain_letter = tt }
basic_letter_lem (text object_path) = record { known = refl; no_variant = refl; no_maybe = refl; no_array = refl; no_open = refl; no_close = refl; no_entry_lem = refl; no_entry_end = refl; plain_letter = tt }
basic_letter_lem (text signature) = record { known = refl; no_variant = refl; no_maybe = refl; no_array = refl; no_open = refl; no_close = refl; no_entry_lem = refl; no_entry_end = refl; plain_letter = tt }

basic_among_lem : (c : ℕ) (bs : List Basic) (b : Basic) → basic_among c bs ≡ some b → c ≡ basic_letter b
unfolding basic_among
basic_among_lem c [] b h = let z : ◌≡◌ {A = ℕ} 0 1 = cc in absurd (omega arith)
basic_among_lem c (x ∷ bs) b h = go (eqb c (basic_letter x)) refl h (λ e. basic_among_lem c bs b e)
  where
    go : (q : Bool) → eqb c (basic_letter x) ≡ q → pick q (some x) (basic_among c bs) ≡ some b → (basic_among c bs ≡ some b → c ≡ basic_letter b) → c ≡ basic_letter b
    go true p e i = let s : x ≡ b = cc in eqb-true c (basic_letter x) p ∙ ap basic_letter s
    go false p e i = i e

-- only the letter of a basic type is found as that type
pub basic_of_lem : (c : ℕ) (b : Basic) → basic_of c ≡ some b → c ≡ basic_letter b
basic_of_lem c b h = basic_among_lem c basics b h

-- ---- the text of a type is read as that type

-- a text of a type goes on: its first letter, which neither closes a structure nor opens or closes an entry
pub record Head (l : List ℕ) : Type 0 where
  pub first : ℕ
  pub rest : List ℕ
  pub is : l ≡ first ∷ rest
  pub no_close : eqb first 41 ≡ false
  pub no_entry_lem : eqb first 123 ≡ false
  pub no_entry_end : eqb first 125 ≡ false

pub head : (t : Tree) (r : List ℕ) → Head (type_text t ++ r)
unfolding type_text
head (basic b) r = let k = basic_letter_lem b in record { first = basic_letter b; rest = r; is = refl; no_close = k.no_close; no_entry_lem = k.no_entry_lem; no_entry_end = k.no_entry_end }
head variant r = record { first = 118; rest = r; is = refl; no_close = refl; no_entry_lem = refl; no_entry_end = refl }
head (maybe t) r = record { first = 109; rest = type_text t ++ r; is = refl; no_close = refl; no_entry_lem = refl; no_entry_end = refl }
head (array t) r = record { first = 97; rest = type_text t ++ r; is = refl; no_close = refl; no_entry_lem = refl; no_entry_end = refl }
head (dictionary b t) r = record { first = 97; rest = 123 ∷ basic_letter b ∷ ((type_text t ++ (125 ∷ [])) ++ r); is = refl; no_close = refl; no_entry_lem = refl; no_entry_end = refl }
head (structure ts) r = record { first = 40; rest = fields_text ts ++ r; is = refl; no_close = refl; no_entry_lem = refl; no_entry_end = refl }

pub fields_head : (ts : Fields) (r : List ℕ) → Head (fields_text ts ++ r)
unfolding type_text
fields_head (last t) r = rw append_assoc (head t ((41 ∷ []) ++ r))
fields_head (next t ts) r = rw append_assoc (head t (fields_text ts ++ r))

basic_in : (one : List ℕ → Found Tree) (row : List ℕ → Found Fields) (b : Basic) (r : List ℕ) → type_begun one row (basic_letter b ∷ r) ≡ found (basic b) r
unfolding type_begun basic_tree
basic_in one row b r = let k = basic_letter_lem b in rw (k.no_variant, k.no_maybe, k.no_array, k.no_open) (rw k.known)

array_in_lem : (one : List ℕ → Found Tree) (l : List ℕ) → Head l → array_begun one l ≡ made array (one l)
unfolding array_begun
array_in_lem one l h = rw h.is (rw (h.no_entry_lem, array_begun))

next_in : (rest : List ℕ → Found Fields) (t : Tree) (l : List ℕ) → Head l → fields_begun rest (found t l) ≡ made (next t) (rest l)
unfolding fields_begun
next_in rest t l h = rw h.is (rw h.no_close (rw h.is))

pub made_some : {A B : Type 0} (f : A → B) (x : Found A) (a : A) (l : List ℕ) → x ≡ found a l → made f x ≡ found (f a) l
unfolding made
made_some f x a l h = rw h

pub ended_some : {A : Type 0} (c : ℕ) (x : Found A) (a : A) (l : List ℕ) → x ≡ found a (c ∷ l) → ended_by c x ≡ found a l
unfolding ended_by
ended_some c x a l h = rw h (rw (eq-eqb c c refl, ended_by))

entry_in : (one : List ℕ → Found Tree) (b : Basic) (t : Tree) (l r : List ℕ) → one l ≡ found t (125 ∷ r) → entry_begun one (basic_letter b ∷ l) ≡ found (dictionary b t) r
unfolding entry_begun entry_by
entry_in one b t l r h = rw (basic_letter_lem b).known (made_some (dictionary b) (ended_by 125 (one l)) t r (ended_some 125 (one l) t r h))

last_in : (rest : List ℕ → Found Fields) (x : Found Tree) (t : Tree) (l : List ℕ) → x ≡ found t (41 ∷ l) → fields_begun rest x ≡ found (last t) l
unfolding fields_begun
last_in rest x t l h = rw h

pub type_text_positive : (t : Tree) → 0 < length (type_text t)
unfolding type_text
type_text_positive (basic b) = omega arith
type_text_positive variant = omega arith
type_text_positive (maybe t) = omega arith
type_text_positive (array t) = omega arith
type_text_positive (dictionary b t) = omega arith
type_text_positive (structure ts) = omega arith

mutual
  unfolding type_text type_within type_begun array_begun

  pub type_within_type_text : (t : Tree) (f : ℕ) (r : List ℕ) → 2 * length (type_text t) ≤ f + 1 → type_within f (type_text t ++ r) ≡ found t r
  type_within_type_text (basic b) zero r h = absurd (omega arith)
  type_within_type_text (basic b) (suc f) r h = basic_in (λ l. type_within f l) (λ l. fields_within f l) b r
  type_within_type_text variant zero r h = absurd (omega arith)
  type_within_type_text variant (suc f) r h = refl
  type_within_type_text (maybe t) zero r h = absurd (omega arith)
  type_within_type_text (maybe t) (suc f) r h = made_some maybe (type_within f (type_text t ++ r)) t r (type_within_type_text t f r (omega arith))
  type_within_type_text (array t) zero r h = absurd (omega arith)
  type_within_type_text (array t) (suc f) r h =
      array_in_lem (λ l. type_within f l) (type_text t ++ r) (head t r) ∙ made_some array (type_within f (type_text t ++ r)) t r (type_within_type_text t f r (omega arith))
  type_within_type_text (dictionary b t) zero r h = absurd (omega arith)
  type_within_type_text (dictionary b t) (suc f) r h =
      entry_in (λ l. type_within f l) b t ((type_text t ++ (125 ∷ [])) ++ r) r (rw append_assoc (type_within_type_text t f (125 ∷ r) (omega (arith, length-append (type_text t) (125 ∷ [])))))
  type_within_type_text (structure ts) zero r h = absurd (omega arith)
  type_within_type_text (structure ts) (suc f) r h = made_some structure (fields_within f (fields_text ts ++ r)) ts r (fields_within_fields_text ts f r (omega arith))

  pub fields_within_fields_text : (ts : Fields) (f : ℕ) (r : List ℕ) → 2 * length (fields_text ts) ≤ f → fields_within f (fields_text ts ++ r) ≡ found ts r
  fields_within_fields_text (last t) zero r h = absurd (omega (arith, type_text_positive t, length-append (type_text t) (41 ∷ [])))
  fields_within_fields_text (last t) (suc f) r h =
      last_in (λ l. fields_within f l) (type_within f ((type_text t ++ (41 ∷ [])) ++ r)) t r (rw append_assoc (type_within_type_text t f (41 ∷ r) (omega (arith, length-append (type_text t) (41 ∷ [])))))
  fields_within_fields_text (next t ts) zero r h = absurd (omega (arith, type_text_positive t, length-append (type_text t) (fields_text ts)))
  fields_within_fields_text (next t ts) (suc f) r h =
      let n = length-append (type_text t) (fields_text ts) in
      let i : type_within f ((type_text t ++ fields_text ts) ++ r) ≡ found t (fields_text ts ++ r) = rw append_assoc (type_within_type_text t f (fields_text ts ++ r) (omega arith)) in
      rw i (next_in (λ l. fields_within f l) t (fields_text ts ++ r) (fields_head ts r) ∙ made_some (next t) (fields_within f (fields_text ts ++ r)) ts r (fields_within_fields_text ts f r (omega (arith, type_text_positive t))))

-- the type at the front of a text is found, whatever stands behind it
pub first_type_type_text : (t : Tree) (r : List ℕ) → first_type (type_text t ++ r) ≡ found t r
unfolding first_type
first_type_type_text t r = type_within_type_text t (2 * length (type_text t ++ r)) r (omega (arith, length-append (type_text t) r))

pub type_of_type_text : (t : Tree) → length (type_text t) ≤ 255 → type_of (type_text t) ≡ some t
unfolding type_of nothing_behind
type_of_type_text t h =
    let i : first_type (type_text t) ≡ found t [] = rw append-nil at (first_type_type_text t []) in
    rw (le-leb (length (type_text t)) 255 h, type_of) (rw i)

-- ---- what is read is the text of what is found

pub found_it : {A : Type 0} {g k : Begun A} → ◌≡◌ {A = Found A} (some g) (some k) → g.it ≡ k.it
found_it {A = A} {g = g} {k = k} h = let e : g ≡ k = cc in ap (λ (x : Begun A). x.it) e

pub found_behind : {A : Type 0} {g k : Begun A} → ◌≡◌ {A = Found A} (some g) (some k) → g.behind ≡ k.behind
found_behind {A = A} {g = g} {k = k} h = let e : g ≡ k = cc in ap (λ (x : Begun A). x.behind) e

pub none_found : {A : Type 0} {P : Type 0} {g : Begun A} → ◌≡◌ {A = Found A} none (some g) → P
none_found h = let z : ◌≡◌ {A = ℕ} 0 1 = cc in absurd (omega arith)

-- how something found was made, and by what it was ended
pub record MadeOf {A B : Type 0} (f : A → B) (x : Found A) (b : B) (l : List ℕ) : Type 0 where
  pub from : A
  pub is : x ≡ found from l
  pub gives : f from ≡ b

pub made_of : {A B : Type 0} (f : A → B) (x : Found A) (b : B) (l : List ℕ) → made f x ≡ found b l → MadeOf f x b l
unfolding made
made_of f none b l h = none_found h
made_of f (some g) b l h = record { from = g.it; is = ap (λ r. found g.it r) (found_behind h); gives = found_it h }

ended_by_lem : {A : Type 0} (c : ℕ) (i : A) (r : List ℕ) (a : A) (l : List ℕ) → ended_by c (found i r) ≡ found a l → found i r ≡ found a (c ∷ l)
unfolding ended_by
ended_by_lem c i [] a l h = none_found h
ended_by_lem {A = A} c i (x ∷ k) a l h = go (eqb x c) refl h
  where
    go : (q : Bool) → eqb x c ≡ q → pick q (found i k) none ≡ found a l → ◌≡◌ {A = Found A} (found i (x ∷ k)) (found a (c ∷ l))
    go true s u = rw (eqb-true x c s, found_it u, found_behind u)
    go false s u = none_found u

pub ended_of : {A : Type 0} (c : ℕ) (x : Found A) (a : A) (l : List ℕ) → ended_by c x ≡ found a l → x ≡ found a (c ∷ l)
unfolding ended_by
ended_of c none a l h = none_found h
ended_of c (some g) a l h = ended_by_lem c g.it g.behind a l h

-- one that reads a type or a row of fields is sound: what it passes is the text of what it finds
abbrev TypeSound : (List ℕ → Found Tree) → Type 0
TypeSound one = (l : List ℕ) (t : Tree) (r : List ℕ) → one l ≡ found t r → l ≡ type_text t ++ r

abbrev FieldsSound : (List ℕ → Found Fields) → Type 0
FieldsSound row = (l : List ℕ) (ts : Fields) (r : List ℕ) → row l ≡ found ts r → l ≡ fields_text ts ++ r

maybe_sound : (one : List ℕ → Found Tree) → TypeSound one → (l : List ℕ) (t : Tree) (r : List ℕ) → made maybe (one l) ≡ found t r → 109 ∷ l ≡ type_text t ++ r
unfolding type_text
maybe_sound one s l t r h = let m = made_of maybe (one l) t r h in rw (← m.gives) (ap (λ (x : List ℕ). 109 ∷ x) (s l m.from r m.is))

structure_sound : (row : List ℕ → Found Fields) → FieldsSound row → (l : List ℕ) (t : Tree) (r : List ℕ) → made structure (row l) ≡ found t r → 40 ∷ l ≡ type_text t ++ r
unfolding type_text
structure_sound row s l t r h = let m = made_of structure (row l) t r h in rw (← m.gives) (ap (λ (x : List ℕ). 40 ∷ x) (s l m.from r m.is))

entry_sound : (one : List ℕ → Found Tree) → TypeSound one → (l : List ℕ) (t : Tree) (r : List ℕ) → entry_begun one l ≡ found t r → 97 ∷ 123 ∷ l ≡ type_text t ++ r
unfolding entry_begun entry_by type_text
entry_sound one s [] t r h = none_found h
entry_sound one s (c ∷ l) t r h = go (basic_of c) refl h
  where
    go : (b : Option Basic) → basic_of c ≡ b → entry_by (one l) b ≡ found t r → 97 ∷ 123 ∷ c ∷ l ≡ type_text t ++ r
    go none p e = none_found e
    go (some b) p e =
        let m = made_of (dictionary b) (ended_by 125 (one l)) t r e in
        rw (← m.gives, basic_of_lem c b p, append_assoc) (ap (λ (x : List ℕ). 97 ∷ 123 ∷ basic_letter b ∷ x) (s l m.from (125 ∷ r) (ended_of 125 (one l) m.from r m.is)))

array_sound : (one : List ℕ → Found Tree) → TypeSound one → (l : List ℕ) (t : Tree) (r : List ℕ) → array_begun one l ≡ found t r → 97 ∷ l ≡ type_text t ++ r
unfolding array_begun type_text
array_sound one s [] t r h = none_found h
array_sound one s (c ∷ l) t r h = go (eqb c 123) refl h
  where
    go : (q : Bool) → eqb c 123 ≡ q → pick q (entry_begun one l) (made array (one (c ∷ l))) ≡ found t r → 97 ∷ c ∷ l ≡ type_text t ++ r
    go true p e = rw (eqb-true c 123 p) (entry_sound one s l t r e)
    go false p e = let m = made_of array (one (c ∷ l)) t r e in rw (← m.gives) (ap (λ (x : List ℕ). 97 ∷ x) (s (c ∷ l) m.from r m.is))

basic_sound : (c : ℕ) (l : List ℕ) (b : Option Basic) → basic_of c ≡ b → (t : Tree) (r : List ℕ) → basic_tree l b ≡ found t r → c ∷ l ≡ type_text t ++ r
unfolding basic_tree type_text
basic_sound c l none p t r h = none_found h
basic_sound c l (some b) p t r h = rw (← found_it h, basic_of_lem c b p, found_behind h)

type_sound : (one : List ℕ → Found Tree) (row : List ℕ → Found Fields) → TypeSound one → FieldsSound row → TypeSound (λ l. type_begun one row l)
unfolding type_begun type_text
type_sound one row s u [] t r h = none_found h
type_sound one row s u (c ∷ l) t r h = go (eqb c 118) (eqb c 109) (eqb c 97) (eqb c 40) refl refl refl refl h
  where
    go : (v m a o : Bool) → eqb c 118 ≡ v → eqb c 109 ≡ m → eqb c 97 ≡ a → eqb c 40 ≡ o
        → pick v (found variant l) (pick m (made maybe (one l)) (pick a (array_begun one l) (pick o (made structure (row l)) (basic_tree l (basic_of c))))) ≡ found t r → c ∷ l ≡ type_text t ++ r
    go true m a o p q w z e = rw (← found_it e, eqb-true c 118 p, found_behind e)
    go false true a o p q w z e = rw (eqb-true c 109 q) (maybe_sound one s l t r e)
    go false false true o p q w z e = rw (eqb-true c 97 w) (array_sound one s l t r e)
    go false false false true p q w z e = rw (eqb-true c 40 z) (structure_sound row u l t r e)
    go false false false false p q w z e = basic_sound c l (basic_of c) refl t r e

row_sound : (row : List ℕ → Found Fields) → FieldsSound row → (l : List ℕ) (t : Tree) (k : List ℕ) → l ≡ type_text t ++ k
    → (ts : Fields) (r : List ℕ) → fields_begun row (found t k) ≡ found ts r → l ≡ fields_text ts ++ r
unfolding fields_begun type_text
row_sound row u l t [] i ts r h = none_found h
row_sound row u l t (c ∷ k) i ts r h = go (eqb c 41) refl h
  where
    go : (q : Bool) → eqb c 41 ≡ q → pick q (found (last t) k) (made (next t) (row (c ∷ k))) ≡ found ts r → l ≡ fields_text ts ++ r
    go true p e = i ∙ rw (← found_it e, ← found_behind e, append_assoc, eqb-true c 41 p)
    go false p e =
        let m = made_of (next t) (row (c ∷ k)) ts r e in
        i ∙ rw (← m.gives, append_assoc) (ap (λ (x : List ℕ). type_text t ++ x) (u (c ∷ k) m.from r m.is))

fields_sound : (row : List ℕ → Found Fields) → FieldsSound row → (l : List ℕ) (x : Found Tree) → ((t : Tree) (r : List ℕ) → x ≡ found t r → l ≡ type_text t ++ r)
    → (ts : Fields) (r : List ℕ) → fields_begun row x ≡ found ts r → l ≡ fields_text ts ++ r
unfolding fields_begun
fields_sound row u l none s ts r h = none_found h
fields_sound row u l (some g) s ts r h = row_sound row u l g.it g.behind (s g.it g.behind refl) ts r h

mutual
  unfolding type_within

  pub type_within_sound : (f : ℕ) (l : List ℕ) (t : Tree) (r : List ℕ) → type_within f l ≡ found t r → l ≡ type_text t ++ r
  type_within_sound zero l t r h = none_found h
  type_within_sound (suc f) l t r h = type_sound (λ k. type_within f k) (λ k. fields_within f k) (λ k x y e. type_within_sound f k x y e) (λ k x y e. fields_within_sound f k x y e) l t r h

  pub fields_within_sound : (f : ℕ) (l : List ℕ) (ts : Fields) (r : List ℕ) → fields_within f l ≡ found ts r → l ≡ fields_text ts ++ r
  fields_within_sound zero l ts r h = none_found h
  fields_within_sound (suc f) l ts r h = fields_sound (λ k. fields_within f k) (λ k x y e. fields_within_sound f k x y e) l (type_within f l) (λ x y e. type_within_sound f l x y e) ts r h

pub first_type_sound : (l : List ℕ) (t : Tree) (r : List ℕ) → first_type l ≡ found t r → l ≡ type_text t ++ r
unfolding first_type
first_type_sound l t r h = type_within_sound (2 * length l) l t r h

-- what is left behind a type is shorter
pub first_type_shorter : (l : List ℕ) (t : Tree) (r : List ℕ) → first_type l ≡ found t r → length r < length l
first_type_shorter l t r h = omega (arith, ap length (first_type_sound l t r h), length-append (type_text t) r, type_text_positive t)

nothing_behind_lem : (x : Found Tree) (t : Tree) → nothing_behind x ≡ some t → x ≡ found t []
unfolding nothing_behind
nothing_behind_lem none t h = let z : ◌≡◌ {A = ℕ} 0 1 = cc in absurd (omega arith)
nothing_behind_lem (some g) t h = go g.it g.behind h
  where
    go : (i : Tree) (r : List ℕ) → nothing_behind (found i r) ≡ some t → found i r ≡ found t []
    go i [] e = let z : i ≡ t = cc in rw z
    go i (x ∷ k) e = let z : ◌≡◌ {A = ℕ} 0 1 = cc in absurd (omega arith)

-- a text of a type has at most 255 letters, and nothing stands behind it
pub record OneType (l : List ℕ) (t : Tree) : Type 0 where
  pub few : length l ≤ 255
  pub alone : first_type l ≡ found t []
  pub is : l ≡ type_text t

pub type_of_sound : (l : List ℕ) (t : Tree) → type_of l ≡ some t → OneType l t
unfolding type_of
type_of_sound l t h = go (leb (length l) 255) refl h
  where
    go : (q : Bool) → leb (length l) 255 ≡ q → pick q (nothing_behind (first_type l)) none ≡ some t → OneType l t
    go true p e =
        let a = nothing_behind_lem (first_type l) t e in
        record { few = leb-true (length l) 255 p; alone = a; is = rw append-nil at (first_type_sound l t [] a) }
    go false p e = let z : ◌≡◌ {A = ℕ} 0 1 = cc in absurd (omega arith)

-- ---- the falling number is enough: equations without it

type_more : (f g : ℕ) (l : List ℕ) (t : Tree) (r : List ℕ) → type_within f l ≡ found t r → 2 * length l ≤ g + 1 → type_within g l ≡ found t r
type_more f g l t r h n =
    let e = type_within_sound f l t r h in
    rw e (type_within_type_text t g r (omega (arith, ap length e, length-append (type_text t) r)))

fields_more : (f g : ℕ) (l : List ℕ) (ts : Fields) (r : List ℕ) → fields_within f l ≡ found ts r → 2 * length l ≤ g → fields_within g l ≡ found ts r
fields_more f g l ts r h n =
    let e = fields_within_sound f l ts r h in
    rw e (fields_within_fields_text ts g r (omega (arith, ap length e, length-append (fields_text ts) r)))

-- two that find what the other finds are the same
same_found : {A : Type 0} (x y : Found A) → ((a : A) (r : List ℕ) → x ≡ found a r → y ≡ found a r) → ((a : A) (r : List ℕ) → y ≡ found a r → x ≡ found a r) → x ≡ y
same_found none none p q = refl
same_found none (some g) p q = q g.it g.behind refl
same_found (some g) y p q = sym (p g.it g.behind refl)

pub type_within_enough : (f g : ℕ) (l : List ℕ) → 2 * length l ≤ f + 1 → 2 * length l ≤ g + 1 → type_within f l ≡ type_within g l
type_within_enough f g l m n = same_found (type_within f l) (type_within g l) (λ t r h. type_more f g l t r h n) (λ t r h. type_more g f l t r h m)

pub fields_within_enough : (f g : ℕ) (l : List ℕ) → 2 * length l ≤ f → 2 * length l ≤ g → fields_within f l ≡ fields_within g l
fields_within_enough f g l m n = same_found (fields_within f l) (fields_within g l) (λ ts r h. fields_more f g l ts r h n) (λ ts r h. fields_more g f l ts r h m)

pub first_fields_fields_text : (ts : Fields) (r : List ℕ) → first_fields (fields_text ts ++ r) ≡ found ts r
unfolding first_fields
first_fields_fields_text ts r = fields_within_fields_text ts (2 * length (fields_text ts ++ r) + 1) r (omega (arith, length-append (fields_text ts) r))

pub first_fields_sound : (l : List ℕ) (ts : Fields) (r : List ℕ) → first_fields l ≡ found ts r → l ≡ fields_text ts ++ r
unfolding first_fields
first_fields_sound l ts r h = fields_within_sound (2 * length l + 1) l ts r h

-- two readers of a type agree on texts up to a length
abbrev Agree : (List ℕ → Found Tree) → (List ℕ → Found Tree) → ℕ → Type 0
Agree one two n = (k : List ℕ) → length k ≤ n → one k ≡ two k

entry_same : (one two : List ℕ → Found Tree) (l : List ℕ) → Agree one two (length l) → entry_begun one l ≡ entry_begun two l
unfolding entry_begun
entry_same one two [] h = refl
entry_same one two (c ∷ l) h = rw (h l (omega arith))

array_same : (one two : List ℕ → Found Tree) (l : List ℕ) → Agree one two (length l) → array_begun one l ≡ array_begun two l
unfolding array_begun
array_same one two [] h = refl
array_same one two (c ∷ l) h = rw (h (c ∷ l) (omega arith), entry_same one two l (λ k n. h k (omega arith)))

type_same : (one two : List ℕ → Found Tree) (row line : List ℕ → Found Fields) (c : ℕ) (l : List ℕ) → Agree one two (length l) → row l ≡ line l → type_begun one row (c ∷ l) ≡ type_begun two line (c ∷ l)
unfolding type_begun
type_same one two row line c l h e = rw (e, h l (omega arith), array_same one two l h)

pub first_type_none : first_type [] ≡ none
unfolding first_type type_within
first_type_none = refl

pub first_type_cons : (c : ℕ) (l : List ℕ) → first_type (c ∷ l) ≡ type_begun (λ k. first_type k) (λ k. first_fields k) (c ∷ l)
unfolding first_type first_fields type_within
first_type_cons c l =
    type_within_enough (2 * length (c ∷ l)) (suc (2 * length l + 1)) (c ∷ l) (omega arith) (omega arith)
    ∙ type_same (λ k. type_within (2 * length l + 1) k) (λ k. first_type k) (λ k. fields_within (2 * length l + 1) k) (λ k. first_fields k) c l
    (λ k n. type_within_enough (2 * length l + 1) (2 * length k) k (omega arith) (omega arith)) refl

fields_same : (row line : List ℕ → Found Fields) (x : Found Tree) → ((t : Tree) (r : List ℕ) → x ≡ found t r → row r ≡ line r) → fields_begun row x ≡ fields_begun line x
unfolding fields_begun
fields_same row line none h = refl
fields_same row line (some g) h = go g.it g.behind (h g.it g.behind refl)
  where
    go : (t : Tree) (r : List ℕ) → row r ≡ line r → fields_begun row (found t r) ≡ fields_begun line (found t r)
    go t [] e = refl
    go t (c ∷ k) e = rw e

pub first_fields_is : (l : List ℕ) → first_fields l ≡ fields_begun (λ k. first_fields k) (first_type l)
unfolding first_type first_fields type_within
first_fields_is l =
    fields_within_enough (2 * length l + 1) (suc (2 * length l)) l (omega arith) (omega arith)
    ∙ fields_same (λ k. fields_within (2 * length l) k) (λ k. first_fields k) (type_within (2 * length l) l)
    (λ t r h. let n = first_type_shorter l t r h in fields_within_enough (2 * length l) (2 * length r + 1) r (omega arith) (omega arith))

-- ---- letters from 1 to 127

unfoldable pub plain : List ℕ → Bool
plain [] = true
plain (x ∷ l) = (leb 1 x && leb x 127) && plain l

pub plain_append : (x y : List ℕ) → T (plain x) → T (plain y) → T (plain (x ++ y))
unfolding plain
plain_append [] y p q = q
plain_append (a ∷ x) y p q = both (leb 1 a && leb a 127) (plain (x ++ y)) (both_left (leb 1 a && leb a 127) (plain x) p) (plain_append x y (both_right (leb 1 a && leb a 127) (plain x) p) q)

plain_basic : (b : Basic) (l : List ℕ) → T (plain l) → T (plain (basic_letter b ∷ l))
unfolding plain
plain_basic b l p = both (leb 1 (basic_letter b) && leb (basic_letter b) 127) (plain l) (basic_letter_lem b).plain_letter p

mutual
  unfolding type_text plain

  pub plain_type_text : (t : Tree) → T (plain (type_text t))
  plain_type_text (basic b) = plain_basic b [] tt
  plain_type_text variant = tt
  plain_type_text (maybe t) = plain_type_text t
  plain_type_text (array t) = plain_type_text t
  plain_type_text (dictionary b t) = plain_basic b (type_text t ++ (125 ∷ [])) (plain_append (type_text t) (125 ∷ []) (plain_type_text t) tt)
  plain_type_text (structure ts) = plain_fields_text ts

  pub plain_fields_text : (ts : Fields) → T (plain (fields_text ts))
  plain_fields_text (last t) = plain_append (type_text t) (41 ∷ []) (plain_type_text t) tt
  plain_fields_text (next t ts) = plain_append (type_text t) (fields_text ts) (plain_type_text t) (plain_fields_text ts)

-- of a plain letter
module _ (x : ℕ) (l : List ℕ) (p : T (plain (x ∷ l))) where
  rest_plain : T (plain l)
  unfolding plain
  rest_plain = both_right (leb 1 x && leb x 127) (plain l) p

  small : leb x 127 ≡ true
  unfolding plain
  small = from_test (leb x 127) (both_right (leb 1 x) (leb x 127) (both_left (leb 1 x && leb x 127) (plain l) p))

  no_nul_lem : eqb x 0 ≡ false
  unfolding plain
  no_nul_lem = let h = leb→le 1 x (both_left (leb 1 x) (leb x 127) (both_left (leb 1 x && leb x 127) (plain l) p)) in ne_eqb x 0 (omega arith)

pub plain_no_nul : (l : List ℕ) → T (plain l) → no_nul l ≡ true
unfolding no_nul
plain_no_nul [] p = refl
plain_no_nul (x ∷ l) p = rw (no_nul_lem x l p) (plain_no_nul l (rest_plain x l p))

pub plain_utf8 : (l : List ℕ) → T (plain l) → utf8 l ≡ true
unfolding utf8 utf8_from after_byte following
plain_utf8 [] p = refl
plain_utf8 (x ∷ l) p = rw (le-leb 0 x (omega arith), small x l p, following) (plain_utf8 l (rest_plain x l p))

-- no byte of a plain text is a nul, nor is what stands past its end taken for one
pub plain_at : (l : List ℕ) (i : ℕ) → T (plain l) → eqb (get_or l i 1) 0 ≡ false
plain_at [] i p = refl
plain_at (x ∷ l) zero p = no_nul_lem x l p
plain_at (x ∷ l) (suc i) p = plain_at l i (rest_plain x l p)

pub plain_without_final_nul : (l : List ℕ) → T (plain l) → without_final_nul l ≡ l
unfolding without_final_nul
plain_without_final_nul l p = rw (plain_at l (length l - 1) p, without_final_nul)

pub type_text_no_nul : (t : Tree) → no_nul (type_text t) ≡ true
type_text_no_nul t = plain_no_nul (type_text t) (plain_type_text t)

pub type_text_utf8 : (t : Tree) → utf8 (type_text t) ≡ true
type_text_utf8 t = plain_utf8 (type_text t) (plain_type_text t)

pub type_text_without_final_nul : (t : Tree) → without_final_nul (type_text t) ≡ type_text t
type_text_without_final_nul t = plain_without_final_nul (type_text t) (plain_type_text t)

-- ---- a fixed size is at most 16 times the length of its text

picked : (q : Bool) (n m : ℕ) → n + 7 ≤ m → pick q n 0 + 7 ≤ m
picked true n m h = h
picked false n m h = omega arith

mutual
  unfolding type_text fixed_size

  pub fixed_size_most : (t : Tree) → fixed_size t + 7 ≤ 16 * length (type_text t)
  fixed_size_most (basic bool) = omega arith
  fixed_size_most (basic (number n)) = omega (arith, aligns_most (number_aligned n))
  fixed_size_most (basic (text c)) = omega arith
  fixed_size_most variant = omega arith
  fixed_size_most (maybe t) = omega arith
  fixed_size_most (array t) = omega arith
  fixed_size_most (dictionary b t) = omega arith
  fixed_size_most (structure ts) =
      picked (all_fixed ts) (rounded (fields_end 0 ts) (largest_alignment ts)) (16 * length (40 ∷ fields_text ts))
      (omega (arith, fields_end_most 0 ts, padding_below (fields_aligned ts) (fields_end 0 ts), aligns_most (fields_aligned ts)))

  pub fields_end_most : (place : ℕ) (ts : Fields) → fields_end place ts + 16 ≤ place + 16 * length (fields_text ts)
  fields_end_most place (last t) =
      omega (arith, length-append (type_text t) (41 ∷ []), fixed_size_most t, padding_below (aligned t) place, aligns_most (aligned t))
  fields_end_most place (next t ts) =
      omega (arith, length-append (type_text t) (fields_text ts), fixed_size_most t, padding_below (aligned t) place, aligns_most (aligned t), fields_end_most (rounded place (alignment t) + fixed_size t) ts)
