-- The type at a place by the types at later places: one law for each way out of the functions that call each other. Assumes nothing.
use mathlib.Core.Path.{◌≡◌, refl, sym, ap, ◌∙◌}
use mathlib.Core.List.{List, [], ◌∷◌}
use mathlib.Core.Option.{Option, none, some}
use mathlib.Core.Bool.{Bool, true, false, ◌&&◌}
use Prim.Native.Nat.{ℕ, ◌+◌, ◌*◌, ◌-◌, ◌≤◌, ◌<◌, max}
use native.Mathlib.Omega.{arith}
use lib.Dec.{leb, eqb}
use borrow.Author.Tests.{le-leb, leb-true, eqb-true}
use lib.ListN.{length, drop, length-drop, length-append}
use lib.Seq.{drop-drop, drop_at}
use Rattle.meaning.specs.Choice.{pick}
use Rattle.meaning.specs.Types.{Basic, bool, number, text, Tree, Fields, maybe, array, dictionary, structure, last, next, basic_alignment, basic_fixed, alignment, largest_alignment, fixed, all_fixed, rounded, fixed_size, fields_end}
use Rattle.meaning.specs.TypeText.{type_text, Found, found, made, ended_by, basic_among, basic_of, entry_by as by_key, entry_begun, array_begun, type_begun, fields_begun, first_type, first_fields}
use Rattle.meaning.specs.Padding.{Aligns}
use Rattle.meaning.proofs.PaddingLaws.{aligns_positive, padding_below}
use Rattle.meaning.proofs.TypeLaws.{aligned, fields_aligned, aligns_most}
use Rattle.meaning.proofs.TypeTextLaws.{type_text_positive, first_type_none, first_type_cons, first_type_sound, first_fields_is, fixed_size_most, basic_letter_lem, made_some, ended_some}
use Rattle.signature.specs.Places.{basic_kind, letter_of, letter_by, letter_in, letter_at, type_at, child_of, no_child, child_by, child_at, no_entry, entry_of, entry_by, entry_at}
use Rattle.signature.specs.Steps.{structure_by, key_alignment, key_fixed}
use Rattle.signature.specs.Places.{Child}
use Rattle.signature.specs.Places.{Entry}
use Rattle.signature.specs.declared.Letter.{Letter}
use Rattle.signature.specs.declared.Letter.TheVariants.{Maybe, Array, OpenStructure, CloseStructure, OpenEntry, CloseEntry}
use Rattle.signature.proofs.Letters.{Cut, cut, Key, key_at, no_key_at}

pub type_at_is : (l : List ℕ) (at : ℕ) → length l ≤ 255 → type_at l at ≡ first_type (drop at l)
unfolding type_at
type_at_is l at n = rw (le-leb (length l) 255 n)

child_by_lem : (l : List ℕ) (at : ℕ) → length l ≤ 255 → child_at l at ≡ child_by (letter_at l at) (length l) (first_type (drop at l))
unfolding child_at
child_by_lem l at n = ap (child_by (letter_at l at) (length l)) (type_at_is l at n)

pub entry_by_lem : (l : List ℕ) (at : ℕ) → length l ≤ 255 → entry_at l at ≡ entry_by l at (first_type (drop at l))
unfolding entry_at
entry_by_lem l at n = ap (entry_by l at) (type_at_is l at n)

-- ---- a maybe and an array take the child's alignment and are never fixed

record Holds (f : Tree → Tree) : Type 0 where
  aligns : (t : Tree) → alignment (f t) ≡ alignment t
  loose : (t : Tree) → fixed (f t) ≡ false
  empty : (t : Tree) → fixed_size (f t) ≡ 0

holds_maybe : Holds maybe
unfolding alignment fixed fixed_size
holds_maybe = record { aligns = λ t. refl; loose = λ t. refl; empty = λ t. refl }

holds_array : Holds array
unfolding alignment fixed fixed_size
holds_array = record { aligns = λ t. refl; loose = λ t. refl; empty = λ t. refl }

abbrev pub held_by : Letter → Child → Child
held_by k c = child_of k c.found c.next c.alignment false 0

held : (f : Tree → Tree) → Holds f → (k j : Letter) (len : ℕ) (x : Found Tree) → child_by k len (made f x) ≡ held_by k (child_by j len x)
unfolding child_by made
held f h k j len none = refl
held f h k j len (some g) = rw (h.aligns g.it, h.loose g.it, h.empty g.it)

first_maybe : (l : List ℕ) → first_type (109 ∷ l) ≡ made maybe (first_type l)
unfolding type_begun
first_maybe l = first_type_cons 109 l

first_structure : (l : List ℕ) → first_type (40 ∷ l) ≡ made structure (first_fields l)
unfolding type_begun
first_structure l = first_type_cons 40 l

first_array : (l : List ℕ) → first_type (97 ∷ l) ≡ array_begun (λ k. first_type k) l
unfolding type_begun
first_array l = first_type_cons 97 l

pub child_maybe : (l : List ℕ) (at : ℕ) → length l ≤ 255 → letter_at l at ≡ Maybe → held_by Maybe (child_at l (at + 1)) ≡ child_at l at
child_maybe l at n h =
    let c = cut l at Maybe 109 h refl in
    sym (child_by_lem l at n ∙ rw (h, c.is, first_maybe) (held maybe holds_maybe Maybe (letter_at l (at + 1)) (length l) (first_type (drop (at + 1) l)) ∙ ap (held_by Maybe) (sym (child_by_lem l (at + 1) n))))

array_elements : (l : List ℕ) → (letter_in l ≡ OpenEntry → ⊥) → array_begun (λ k. first_type k) l ≡ made array (first_type l)
unfolding array_begun made letter_in letter_by basic_among
array_elements [] h = rw first_type_none
array_elements (c ∷ l) h = go (eqb c 123) refl
  where
    go : (q : Bool) → eqb c 123 ≡ q → pick q (entry_begun (λ k. first_type k) l) (made array (first_type (c ∷ l))) ≡ made array (first_type (c ∷ l))
    go true p = absurd (h (ap letter_of (eqb-true c 123 p)))
    go false p = refl

pub child_array : (l : List ℕ) (at : ℕ) → length l ≤ 255 → letter_at l at ≡ Array → (letter_at l (at + 1) ≡ OpenEntry → ⊥) → held_by Array (child_at l (at + 1)) ≡ child_at l at
child_array l at n h o =
    let c = cut l at Array 97 h refl in
    sym (child_by_lem l at n ∙ rw (h, c.is, first_array, array_elements (drop (at + 1) l) o) (held array holds_array Array (letter_at l (at + 1)) (length l) (first_type (drop (at + 1) l)) ∙ ap (held_by Array) (sym (child_by_lem l (at + 1) n))))

-- ---- a type that is found: its place in the text and its bounds

pub behind_at : (l : List ℕ) (at : ℕ) (t : Tree) (r : List ℕ) → first_type (drop at l) ≡ found t r → length l - length r ≡ at + length (type_text t)
behind_at l at t r h = omega (arith, length-drop at l, ap length (first_type_sound (drop at l) t r h), length-append (type_text t) r, type_text_positive t)

pub behind_is : (l : List ℕ) (at : ℕ) (t : Tree) (r : List ℕ) → first_type (drop at l) ≡ found t r → drop (length l - length r) l ≡ r
behind_is l at t r h =
    rw (behind_at l at t r h) (sym (drop-drop (length (type_text t)) at l) ∙ ap (λ (x : List ℕ). drop (length (type_text t)) x) (first_type_sound (drop at l) t r h) ∙ drop_at (type_text t) r (length (type_text t)) refl)

-- where a type stands the text goes on
pub type_inside : (l : List ℕ) (at : ℕ) (t : Tree) (r : List ℕ) → first_type (drop at l) ≡ found t r → at + length (type_text t) + length r ≡ length l
type_inside l at t r h = omega (arith, length-drop at l, ap length (first_type_sound (drop at l) t r h), length-append (type_text t) r, type_text_positive t)

-- a type stands at a place, and `c` is what is known of it
pub record Stands (l : List ℕ) (at : ℕ) (c : Child) : Type 0 where
  pub few : length l ≤ 255
  pub it : Tree
  pub type : first_type (drop at l) ≡ found it (drop c.next l)
  pub there : c.found ≡ true
  pub same_kind : c.kind ≡ letter_at l at
  pub same_alignment : c.alignment ≡ alignment it
  pub same_fixed : c.fixed ≡ fixed it
  pub same_size : c.size ≡ fixed_size it
  pub after : c.next ≡ at + length (type_text it)
  pub onward : at < c.next
  pub within : c.next ≤ length l
  pub aligns : Aligns c.alignment
  pub small : c.size + 7 + 16 * at ≤ 16 * c.next

stands_by : (l : List ℕ) (at : ℕ) (t : Tree) (r : List ℕ) → length l ≤ 255 → first_type (drop at l) ≡ found t r → Stands l at (child_by (letter_at l at) (length l) (found t r))
unfolding child_by
stands_by l at t r n h =
    let e = behind_at l at t r h in
    let p = type_text_positive t in
    record {
      few = n;
      it = t;
      type = h ∙ ap (λ (x : List ℕ). found t x) (sym (behind_is l at t r h));
      there = refl;
      same_kind = refl;
      same_alignment = refl;
      same_fixed = refl;
      same_size = refl;
      after = e;
      onward = omega arith;
      within = omega arith;
      aligns = aligned t;
      small = omega (arith, fixed_size_most t);
    }

pub child_found : (l : List ℕ) (at : ℕ) → (child_at l at).found ≡ true → Stands l at (child_at l at)
unfolding child_at type_at child_by
child_found l at h = go (leb (length l) 255) (first_type (drop at l)) refl refl h
  where
    go : (q : Bool) (x : Found Tree) → leb (length l) 255 ≡ q → first_type (drop at l) ≡ x → (child_by (letter_at l at) (length l) (pick q x none)).found ≡ true → Stands l at (child_by (letter_at l at) (length l) (pick q x none))
    go false x w e p = let z : ◌≡◌ {A = ℕ} 0 1 = cc in absurd (omega arith)
    go true none w e p = let z : ◌≡◌ {A = ℕ} 0 1 = cc in absurd (omega arith)
    go true (some g) w e p = stands_by l at g.it g.behind (leb-true (length l) 255 w) e

pub child_missing : (l : List ℕ) (at : ℕ) → length l ≤ 255 → (child_at l at).found ≡ false → first_type (drop at l) ≡ none
unfolding child_by
child_missing l at n h = go (first_type (drop at l)) (ap (λ (c : Child). c.found) (sym (child_by_lem l at n)) ∙ h)
  where
    go : (x : Found Tree) → (child_by (letter_at l at) (length l) x).found ≡ false → x ≡ none
    go none p = refl
    go (some g) p = let z : ◌≡◌ {A = ℕ} 0 1 = cc in absurd (omega arith)

-- what is known of the type at a place, from the type
pub child_is : (l : List ℕ) (at : ℕ) (t : Tree) (r : List ℕ) → length l ≤ 255 → first_type (drop at l) ≡ found t r
    → child_at l at ≡ child_of (letter_at l at) true (length l - length r) (alignment t) (fixed t) (fixed_size t)
unfolding child_by
child_is l at t r n h = child_by_lem l at n ∙ ap (child_by (letter_at l at) (length l)) h

-- ---- dictionaries

pub no_entry_by : (l : List ℕ) (at : ℕ) → length l ≤ 255 → first_type (drop at l) ≡ none → no_entry ≡ entry_at l at
unfolding entry_by
no_entry_by l at n h = sym (entry_by_lem l at n ∙ ap (entry_by l at) h)

pub key_alignment_lem : (b : Basic) → key_alignment (basic_kind b) ≡ basic_alignment b
key_alignment_lem bool = refl
key_alignment_lem (number n) = refl
key_alignment_lem (text x) = refl

pub key_fixed_lem : (b : Basic) → key_fixed (basic_kind b) ≡ basic_fixed b
key_fixed_lem bool = refl
key_fixed_lem (number n) = refl
key_fixed_lem (text x) = refl

-- an entry, from its key's letter, its value and the value's place
abbrev pub entry_with : Letter → ℕ → Child → Entry
entry_with k place v = record {
  found = true;
  key = k;
  place = place;
  value = v;
  alignment = max (key_alignment k) v.alignment;
  fixed = key_fixed k && v.fixed;
  next = v.next + 1;
}

-- a dictionary, from its entry
abbrev pub dictionary_by : Entry → Child
dictionary_by e = child_of Array e.found e.next e.alignment false 0

dictionary_made : (l : List ℕ) (at : ℕ) (b : Basic) (x : Found Tree) → dictionary_by (entry_by l at (made (dictionary b) x)) ≡ child_by Array (length l) (made (dictionary b) x)
unfolding child_by entry_by entry_of made alignment fixed fixed_size
dictionary_made l at b none = refl
dictionary_made l at b (some g) = refl

dictionary_in : (l : List ℕ) (at : ℕ) (r : List ℕ) → dictionary_by (entry_by l at (entry_begun (λ k. first_type k) r)) ≡ child_by Array (length l) (entry_begun (λ k. first_type k) r)
unfolding child_by entry_by entry_begun by_key
dictionary_in l at [] = refl
dictionary_in l at (c ∷ r) = go (basic_of c)
  where
    go : (b : Option Basic) → dictionary_by (entry_by l at (by_key (first_type r) b)) ≡ child_by Array (length l) (by_key (first_type r) b)
    go none = refl
    go (some b) = dictionary_made l at b (ended_by 125 (first_type r))

entry_same : (b : Basic) (t : Tree) (kind key : Letter) (place : ℕ) (k : Letter) (f : Bool) (behind a : ℕ) (x : Bool) (z : ℕ)
    → key ≡ basic_kind b → k ≡ kind → f ≡ true → a ≡ alignment t → x ≡ fixed t → z ≡ fixed_size t
    → ◌≡◌ {A = Entry}
    (record { found = true; key = basic_kind b; place = place; value = child_of kind true (behind + 1 - 1) (alignment t) (fixed t) (fixed_size t); alignment = max (basic_alignment b) (alignment t); fixed = basic_fixed b && fixed t; next = behind + 1 })
    (entry_with key place (child_of k f behind a x z))
entry_same b t kind key place k f behind a x z hk hkind hf ha hx hz =
    let e : behind + 1 - 1 ≡ behind = omega arith in
    rw (hk, hkind, hf, ha, hx, hz, key_alignment_lem, key_fixed_lem, e)

-- a value that no `}` ends
open_end : (f : Tree → Tree) (t : Tree) (r : List ℕ) → (letter_in r ≡ CloseEntry → ⊥) → made f (ended_by 125 (found t r)) ≡ none
unfolding made ended_by letter_in letter_by basic_among
open_end f t [] g = refl
open_end f t (c ∷ r) g = go (eqb c 125) refl
  where
    go : (q : Bool) → eqb c 125 ≡ q → made f (pick q (found t r) none) ≡ none
    go true p = absurd (g (ap letter_of (eqb-true c 125 p)))
    go false p = refl

module _ (l : List ℕ) (at : ℕ) (n : length l ≤ 255) (a : letter_at l at ≡ Array) (o : letter_at l (at + 1) ≡ OpenEntry) where
  second : Cut l (at + 1) 123
  second = cut l (at + 1) OpenEntry 123 o refl

  entry_place : drop (at + 1 + 1) l ≡ drop (at + 2) l
  entry_place = let e : at + 1 + 1 ≡ at + 2 = omega arith in rw e

  first_entry : first_type (drop at l) ≡ entry_begun (λ k. first_type k) (drop (at + 2) l)
  unfolding array_begun
  first_entry = rw ((cut l at Array 97 a refl).is, first_array, second.is) (ap (λ (x : List ℕ). entry_begun (λ k. first_type k) x) entry_place)

  -- behind `a{` a basic key stands
  module _ (k : Key l (at + 2)) where
    key_place : drop (at + 2 + 1) l ≡ drop (at + 3) l
    key_place = let e : at + 2 + 1 ≡ at + 3 = omega arith in rw e

    first_value : first_type (drop at l) ≡ made (dictionary k.it) (ended_by 125 (first_type (drop (at + 3) l)))
    unfolding entry_begun by_key
    first_value = first_entry ∙ rw k.goes.is (rw (basic_letter_lem k.it).known (ap (λ (x : List ℕ). made (dictionary k.it) (ended_by 125 (first_type x))) key_place))

    no_value : first_type (drop (at + 3) l) ≡ none → no_entry ≡ entry_at l at
    unfolding made ended_by
    no_value h = no_entry_by l at n (first_value ∙ rw h)

    -- and a value behind it
    module _ (t : Tree) (r : List ℕ) (h : first_type (drop (at + 3) l) ≡ found t r) where
      value_open : (letter_in r ≡ CloseEntry → ⊥) → no_entry ≡ entry_at l at
      value_open g = no_entry_by l at n (first_value ∙ rw h (open_end (dictionary k.it) t r g))

  pub entry_no_key : key_alignment (letter_at l (at + 2)) ≡ 0 → no_entry ≡ entry_at l at
  entry_no_key h = no_entry_by l at n (first_entry ∙ no_key_at l (at + 2) h (λ k. first_type k))

  pub child_dictionary : dictionary_by (entry_at l at) ≡ child_at l at
  child_dictionary =
      ap dictionary_by (entry_by_lem l at n ∙ ap (entry_by l at) first_entry) ∙ dictionary_in l at (drop (at + 2) l)
      ∙ sym (child_by_lem l at n ∙ rw (a, first_entry))

  -- the ways out of an entry, as the code goes
  pub entry_no_value : (key_alignment (letter_at l (at + 2)) ≡ 0 → ⊥) → (child_at l (at + 3)).found ≡ false → no_entry ≡ entry_at l at
  entry_no_value k h = no_value (key_at l (at + 2) k) (child_missing l (at + 3) n h)

  pub entry_open : (key_alignment (letter_at l (at + 2)) ≡ 0 → ⊥) → (s : Stands l (at + 3) (child_at l (at + 3))) → (letter_at l (child_at l (at + 3)).next ≡ CloseEntry → ⊥) → no_entry ≡ entry_at l at
  entry_open k s g = value_open (key_at l (at + 2) k) s.it (drop (child_at l (at + 3)).next l) s.type g

  pub entry_whole : (key_alignment (letter_at l (at + 2)) ≡ 0 → ⊥) → (s : Stands l (at + 3) (child_at l (at + 3))) → letter_at l (child_at l (at + 3)).next ≡ CloseEntry
      → entry_with (letter_at l (at + 2)) (at + 3) (child_at l (at + 3)) ≡ entry_at l at
  unfolding entry_by entry_of
  entry_whole h s g =
      let k = key_at l (at + 2) h in
      let v = child_at l (at + 3) in
      let c = cut l v.next CloseEntry 125 g refl in
      let r = drop (v.next + 1) l in
      let m = length-drop (v.next + 1) l in
      let w : length l - length r ≡ v.next + 1 = omega (arith, c.within) in
      let e : first_type (drop at l) ≡ found (dictionary k.it s.it) r =
      first_value k ∙ made_some (dictionary k.it) (ended_by 125 (first_type (drop (at + 3) l))) s.it r (ended_some 125 (first_type (drop (at + 3) l)) s.it r (s.type ∙ ap (λ (x : List ℕ). found s.it x) c.is)) in
      sym (entry_by_lem l at n ∙ ap (entry_by l at) e ∙ rw w (entry_same k.it s.it (letter_at l (at + 3)) (letter_at l (at + 2)) (at + 3) v.kind v.found v.next v.alignment v.fixed v.size k.kind s.same_kind s.there s.same_alignment s.same_fixed s.same_size))

-- ---- structures

-- what a structure's remaining fields make of it, when the fields before them have this alignment, are all fixed or not, and end there
unfoldable pub laid : ℕ → ℕ → Bool → ℕ → Found Fields → Child
laid len a f end none = no_child OpenStructure
laid len a f end (some g) = structure_by (len - length g.behind) (max a (largest_alignment g.it)) (f && all_fixed g.it) (fields_end end g.it)

laid_all : (len : ℕ) (x : Found Fields) → laid len 1 true 0 x ≡ child_by OpenStructure len (made structure x)
unfolding laid child_by made alignment fixed fixed_size
laid_all len none = refl
laid_all len (some g) =
    let e : max 1 (largest_alignment g.it) ≡ largest_alignment g.it = omega (arith, aligns_positive (fields_aligned g.it)) in
    rw e

and_assoc : (a b c : Bool) → (a && (b && c)) ≡ ((a && b) && c)
and_assoc true b c = refl
and_assoc false b c = refl

laid_next : (len a : ℕ) (f : Bool) (end : ℕ) (t : Tree) (x : Found Fields)
    → laid len a f end (made (next t) x) ≡ laid len (max a (alignment t)) (f && fixed t) (rounded end (alignment t) + fixed_size t) x
unfolding laid made alignment fixed fixed_size
laid_next len a f end t none = refl
laid_next len a f end t (some g) =
    let m : max a (max (alignment t) (largest_alignment g.it)) ≡ max (max a (alignment t)) (largest_alignment g.it) = omega arith in
    rw (m, and_assoc f (fixed t) (all_fixed g.it))

-- the same, with numbers that are those of the field
laid_more : (len a : ℕ) (f : Bool) (end : ℕ) (t : Tree) (x : Found Fields) (b : ℕ) (g : Bool) (z : ℕ) → b ≡ alignment t → g ≡ fixed t → z ≡ fixed_size t
    → laid len (max a b) (f && g) (rounded end b + z) x ≡ laid len a f end (made (next t) x)
laid_more len a f end t x b g z hb hg hz = rw (hb, hg, hz) (sym (laid_next len a f end t x))

laid_last : (len a : ℕ) (f : Bool) (end : ℕ) (t : Tree) (r : List ℕ) (behind b : ℕ) (g : Bool) (z : ℕ) → len - length r ≡ behind → b ≡ alignment t → g ≡ fixed t → z ≡ fixed_size t
    → structure_by behind (max a b) (f && g) (rounded end b + z) ≡ laid len a f end (found (last t) r)
unfolding laid alignment fixed fixed_size
laid_last len a f end t r behind b g z h hb hg hz = rw (hb, hg, hz, ← h)

-- a field that no `)` ends is followed by another
pub more_fields : (t : Tree) (l : List ℕ) → (letter_in l ≡ CloseStructure → ⊥) → fields_begun (λ k. first_fields k) (found t l) ≡ made (next t) (first_fields l)
unfolding fields_begun made letter_in letter_by basic_among
more_fields t [] g = rw (first_fields_is, first_type_none)
more_fields t (c ∷ l) g = go (eqb c 41) refl
  where
    go : (q : Bool) → eqb c 41 ≡ q → pick q (found (last t) l) (made (next t) (first_fields (c ∷ l))) ≡ made (next t) (first_fields (c ∷ l))
    go true p = absurd (g (ap letter_of (eqb-true c 41 p)))
    go false p = refl

-- the loop over the fields of the structure at a place: what is left answers the whole
pub record Fielding (l : List ℕ) (at place a : ℕ) (f : Bool) (end : ℕ) : Type 0 where
  pub rest : laid (length l) a f end (first_fields (drop place l)) ≡ child_at l at
  pub positive : 0 < a
  pub most : a ≤ 8
  pub onward : at < place
  pub within : place ≤ length l
  pub small : end ≤ 16 * place

pub fields_begin : (l : List ℕ) (at : ℕ) → length l ≤ 255 → letter_at l at ≡ OpenStructure → Fielding l at (at + 1) 1 true 0
fields_begin l at n h =
    let c = cut l at OpenStructure 40 h refl in
    record {
      rest = laid_all (length l) (first_fields (drop (at + 1) l)) ∙ sym (child_by_lem l at n ∙ rw (h, c.is, first_structure));
      positive = omega arith;
      most = omega arith;
      onward = omega arith;
      within = omega (arith, c.within);
      small = omega arith;
    }

module _ (l : List ℕ) (at place a : ℕ) (f : Bool) (end : ℕ) (n : length l ≤ 255) (i : Fielding l at place a f end) where
  pub fields_missing : (child_at l place).found ≡ false → no_child OpenStructure ≡ child_at l at
  unfolding laid fields_begun
  fields_missing h = let e = child_missing l place n h in rw (first_fields_is, e) at i.rest

  module _ (s : Stands l place (child_at l place)) where
    abbrev wide : ℕ
    wide = max a (child_at l place).alignment

    abbrev far : ℕ
    far = rounded end (child_at l place).alignment + (child_at l place).size

    pub far_small : far ≤ 16 * (child_at l place).next
    far_small = omega (arith, i.small, s.small, aligns_most s.aligns, padding_below s.aligns end)

    pub fields_next : (letter_at l (child_at l place).next ≡ CloseStructure → ⊥) → Fielding l at (child_at l place).next wide (f && (child_at l place).fixed) far
    fields_next g =
        let v = (child_at l place).next in
        let e : first_fields (drop place l) ≡ made (next s.it) (first_fields (drop v l)) = first_fields_is (drop place l) ∙ ap (λ (x : Found Tree). fields_begun (λ k. first_fields k) x) s.type ∙ more_fields s.it (drop v l) g in
        record {
          rest = laid_more (length l) a f end s.it (first_fields (drop v l)) (child_at l place).alignment (child_at l place).fixed (child_at l place).size s.same_alignment s.same_fixed s.same_size ∙ ap (laid (length l) a f end) (sym e) ∙ i.rest;
          positive = omega (arith, i.positive);
          most = omega (arith, i.most, aligns_most s.aligns);
          onward = omega (arith, i.onward, s.onward);
          within = s.within;
          small = far_small;
        }

    pub fields_last : letter_at l (child_at l place).next ≡ CloseStructure → structure_by ((child_at l place).next + 1) wide (f && (child_at l place).fixed) far ≡ child_at l at
    unfolding fields_begun
    fields_last g =
        let v = (child_at l place).next in
        let c = cut l v CloseStructure 41 g refl in
        let m = length-drop (v + 1) l in
        let w : length l - length (drop (v + 1) l) ≡ v + 1 = omega (arith, c.within) in
        let e : first_fields (drop place l) ≡ found (last s.it) (drop (v + 1) l) = first_fields_is (drop place l) ∙ ap (λ (x : Found Tree). fields_begun (λ k. first_fields k) x) (s.type ∙ ap (λ (x : List ℕ). found s.it x) c.is) in
        laid_last (length l) a f end s.it (drop (v + 1) l) (v + 1) (child_at l place).alignment (child_at l place).fixed (child_at l place).size w s.same_alignment s.same_fixed s.same_size ∙ ap (laid (length l) a f end) (sym e) ∙ i.rest
