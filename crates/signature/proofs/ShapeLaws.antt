-- The laws of a table of shapes: what a number of it says, one law for each way out, and the table as it fills. Assumes nothing.
use mathlib.Core.Path.{◌≡◌, refl, sym, ap, ◌∙◌}
use mathlib.Core.List.{List, [], ◌∷◌}
use mathlib.Core.Option.{some}
use mathlib.Core.Bool.{Bool, true, false, ◌&&◌}
use Prim.Native.Nat.{ℕ, ◌+◌, ◌*◌, ◌-◌, ◌/◌, ◌%◌, ◌≤◌, ◌<◌, max}
use native.Mathlib.Omega.{arith}
use lib.Dec.{leb, eqb}
use types.Run.{OneOf, miss}
use denote.Enum.Declared.{tag_of}
use lib.ListN.{length, get_or, set, length-set}
use lib.Seq.{get_or-set_same, get_or-set_other, ext_get_or}
use borrow.Author.Tests.{le-leb, lt-leb, leb-true, leb-false, eqb-true, eqb-false, eq-eqb}
use Rattle.meaning.specs.Choice.{pick}
use Rattle.meaning.specs.Types.{basic_alignment, rounded}
use Rattle.meaning.proofs.PaddingLaws.{aligns_positive}
use Rattle.meaning.proofs.TypeLaws.{aligns_most, basic_aligned}
use Rattle.signature.specs.Places.{letter_of, letter_at, no_child, child_at, no_entry, entry_at, is_type}
use Rattle.signature.specs.Steps.{key_alignment}
use Rattle.signature.specs.Places.{Child}
use Rattle.signature.specs.Places.{Entry}
use Rattle.signature.specs.declared.Letter.{Letter}
use Rattle.signature.specs.declared.Letter.TheVariants.{End, Bad, Boolean, Number, Text, Variant, Maybe, Array, OpenStructure, CloseStructure, OpenEntry, CloseEntry}
use Rattle.signature.specs.contracts.Letter.{the_type}
use Rattle.signature.proofs.Letters.{letter_end, letter_some, mark, cut, key_at, alone, lone_child, child_lone}
use Rattle.signature.proofs.Children.{held_by, dictionary_by, child_maybe, child_array, child_dictionary, child_found, Stands, entry_whole, Fielding, fields_begin, fields_missing, fields_next, fields_last, key_alignment_lem}
use Rattle.signature.proofs.Answers.{judge_missing, judge_found, judged_type, child_long}
use Rattle.signature.specs.Shapes.{packed, shape_of, shape_at, Filled, Shaped, Answered, shape_in, shape, ShapedFrom}
use Rattle.signature.specs.declared.shapes.Shape.{Shape}

-- ---- a shape taken apart

unpack_next : (n a : ℕ) (f : Bool) → a ≤ 8 → packed n a f / 32 ≡ n
unpack_next n a true h = omega arith
unpack_next n a false h = omega arith

unpack_alignment : (n a : ℕ) (f : Bool) → a ≤ 8 → packed n a f % 16 ≡ a
unpack_alignment n a true h = omega arith
unpack_alignment n a false h = omega arith

unpack_fixed : (n a : ℕ) (f : Bool) → a ≤ 8 → leb 16 (packed n a f % 32) ≡ f
unpack_fixed n a true h = le-leb 16 (packed n a true % 32) (omega arith)
unpack_fixed n a false h = lt-leb 16 (packed n a false % 32) (omega arith)

unpack_loose : (n a : ℕ) (f : Bool) → a ≤ 8 → packed n a f - packed n a f % 32 / 16 * 16 ≡ packed n a false
unpack_loose n a true h = omega arith
unpack_loose n a false h = omega arith

shape_found : (c : Child) → c.found ≡ true → shape_of c ≡ packed c.next c.alignment c.fixed
unfolding shape_of
shape_found c h = ap (λ (q : Bool). pick q (packed c.next c.alignment c.fixed) 0) h

shape_missing : (c : Child) → c.found ≡ false → shape_of c ≡ 0
unfolding shape_of
shape_missing c h = ap (λ (q : Bool). pick q (packed c.next c.alignment c.fixed) 0) h

-- ---- what a number of the table says of the type at its place

pub record Known (l : List ℕ) (at s : ℕ) : Type 0 where
  pub stands : Stands l at (child_at l at)
  pub next : s / 32 ≡ (child_at l at).next
  pub alignment : s % 16 ≡ (child_at l at).alignment
  pub fixed : leb 16 (s % 32) ≡ (child_at l at).fixed
  pub loose : (k : Letter) → s - s % 32 / 16 * 16 ≡ shape_of (held_by k (child_at l at))

known_by : (l : List ℕ) (at s : ℕ) → s ≡ shape_at l at → (child_at l at).found ≡ true → Known l at s
known_by l at s e p =
    let st = child_found l at p in
    let m = aligns_most st.aligns in
    let w : s ≡ packed (child_at l at).next (child_at l at).alignment (child_at l at).fixed = e ∙ shape_found (child_at l at) p in
    record {
      stands = st;
      next = ap (λ (x : ℕ). x / 32) w ∙ unpack_next (child_at l at).next (child_at l at).alignment (child_at l at).fixed m;
      alignment = ap (λ (x : ℕ). x % 16) w ∙ unpack_alignment (child_at l at).next (child_at l at).alignment (child_at l at).fixed m;
      fixed = ap (λ (x : ℕ). leb 16 (x % 32)) w ∙ unpack_fixed (child_at l at).next (child_at l at).alignment (child_at l at).fixed m;
      loose = λ k. ap (λ (x : ℕ). x - x % 32 / 16 * 16) w ∙ unpack_loose (child_at l at).next (child_at l at).alignment (child_at l at).fixed m ∙ sym (shape_found (held_by k (child_at l at)) p);
    }

pub known : (l : List ℕ) (at s : ℕ) → s ≡ shape_at l at → (s ≡ 0 → ⊥) → Known l at s
known l at s e n = go (child_at l at).found refl
  where
    go : (q : Bool) → (child_at l at).found ≡ q → Known l at s
    go false p = absurd (n (e ∙ shape_missing (child_at l at) p))
    go true p = known_by l at s e p

pub absent : (l : List ℕ) (at s : ℕ) → s ≡ shape_at l at → s ≡ 0 → (child_at l at).found ≡ false
absent l at s e z = go (child_at l at).found refl
  where
    go : (q : Bool) → (child_at l at).found ≡ q → (child_at l at).found ≡ false
    go false p = p
    go true p = let w = e ∙ shape_found (child_at l at) p in absurd (omega (arith, aligns_positive (child_found l at p).aligns))

-- ---- the types of one letter, and what is no type

pub shape_lone : (l : List ℕ) (at : ℕ) (k : Letter) → length l ≤ 255 → letter_at l at ≡ k → alone k ≡ true → shape_of (lone_child (at + 1) k) ≡ shape_at l at
shape_lone l at k n h a = sym (ap shape_of (child_lone l at k n h a))

pub shape_code : (l : List ℕ) (at c : ℕ) (k : Letter) → length l ≤ 255 → at < length l → get_or l at 0 ≡ c → letter_of c ≡ k → alone k ≡ true → shape_of (lone_child (at + 1) k) ≡ shape_at l at
shape_code l at c k n h e q a = shape_lone l at k n (letter_some l at h ∙ ap letter_of e ∙ q) a

pub shape_end : (l : List ℕ) (at : ℕ) → length l ≤ 255 → length l ≤ at → 0 ≡ shape_at l at
unfolding shape_of
shape_end l at n h = shape_lone l at End n (letter_end l at h) refl

pub shape_none : (l : List ℕ) (at : ℕ) (k : Letter) → length l ≤ 255 → k ≡ letter_at l at → (lone_child (at + 1) k ≡ no_child k) × (alone k ≡ true) → 0 ≡ shape_at l at
unfolding shape_of
shape_none l at k n h w = ap shape_of (sym w.0) ∙ shape_lone l at k n (sym h) w.1

pub number_most : (l : List ℕ) (at c w : ℕ) → length l ≤ 255 → letter_at l at ≡ Number c w → w ≤ 8
number_most l at c w n h =
    let e = child_lone l at (Number c w) n h refl in
    let st = child_found l at (ap (λ (x : Child). x.found) e) in
    let a : (child_at l at).alignment ≡ w = ap (λ (x : Child). x.alignment) e in
    omega (arith, aligns_most st.aligns)

-- ---- a maybe and an array

loose_shape : (l : List ℕ) (at s : ℕ) (k : Letter) → s ≡ shape_at l at → s - s % 32 / 16 * 16 ≡ shape_of (held_by k (child_at l at))
loose_shape l at s k e = go (child_at l at).found refl
  where
    go : (q : Bool) → (child_at l at).found ≡ q → s - s % 32 / 16 * 16 ≡ shape_of (held_by k (child_at l at))
    go false p =
        let z : s ≡ 0 = e ∙ shape_missing (child_at l at) p in
        ap (λ (x : ℕ). x - x % 32 / 16 * 16) z ∙ sym (shape_missing (held_by k (child_at l at)) p)
    go true p = (known_by l at s e p).loose k

pub shape_maybe : (l : List ℕ) (at s : ℕ) → length l ≤ 255 → letter_at l at ≡ Maybe → s ≡ shape_at l (at + 1) → s - s % 32 / 16 * 16 ≡ shape_at l at
shape_maybe l at s n h e = loose_shape l (at + 1) s Maybe e ∙ ap shape_of (child_maybe l at n h)

pub shape_array : (l : List ℕ) (at s : ℕ) → length l ≤ 255 → letter_at l at ≡ Array → (letter_at l (at + 1) ≡ OpenEntry → ⊥) → s ≡ shape_at l (at + 1) → s - s % 32 / 16 * 16 ≡ shape_at l at
shape_array l at s n h o e = loose_shape l (at + 1) s Array e ∙ ap shape_of (child_array l at n h o)

-- ---- a dictionary

pub key_most : (l : List ℕ) (at : ℕ) → (key_alignment (letter_at l at) ≡ 0 → ⊥) → key_alignment (letter_at l at) ≤ 8
key_most l at h =
    let k = key_at l at h in
    let e : key_alignment (letter_at l at) ≡ basic_alignment k.it = ap key_alignment k.kind ∙ key_alignment_lem k.it in
    omega (arith, aligns_most (basic_aligned k.it))

pub fits : (l : List ℕ) (place : ℕ) (k : Letter) (c : ℕ) → length l ≤ 255 → letter_at l place ≡ k → mark k ≡ some c → place + 1 ≤ 255
fits l place k c n h m = omega (arith, (cut l place k c h m).within)

module _ (l : List ℕ) (at : ℕ) (n : length l ≤ 255) (a : letter_at l at ≡ Array) (o : letter_at l (at + 1) ≡ OpenEntry) where
  pub no_dictionary : no_entry ≡ entry_at l at → 0 ≡ shape_at l at
  unfolding shape_of
  no_dictionary h = ap (λ (e : Entry). shape_of (dictionary_by e)) h ∙ ap shape_of (child_dictionary l at n a o)

  pub shape_dictionary : (v : ℕ) → Known l (at + 3) v → (key_alignment (letter_at l (at + 2)) ≡ 0 → ⊥) → letter_at l (v / 32) ≡ CloseEntry
      → packed (v / 32 + 1) (max (key_alignment (letter_at l (at + 2))) (v % 16)) false ≡ shape_at l at
  unfolding shape_of
  shape_dictionary v k h g =
      let e : letter_at l (child_at l (at + 3)).next ≡ CloseEntry = ap (λ (x : ℕ). letter_at l x) (sym k.next) ∙ g in
      rw (k.next, k.alignment) (ap (λ (x : Entry). shape_of (dictionary_by x)) (entry_whole l at n a o h k.stands e) ∙ ap shape_of (child_dictionary l at n a o))

-- ---- a structure

pub record Fielded (l : List ℕ) (at place a : ℕ) (f : Bool) : Type 0 where
  pub end : ℕ
  pub fielding : Fielding l at place a f end

pub fielded_begin : (l : List ℕ) (at : ℕ) → length l ≤ 255 → letter_at l at ≡ OpenStructure → Fielded l at (at + 1) 1 true
fielded_begin l at n h = record { end = 0; fielding = fields_begin l at n h }

module _ (l : List ℕ) (at place a : ℕ) (f : Bool) (n : length l ≤ 255) (i : Fielded l at place a f) where
  pub fielded_missing : (s : ℕ) → s ≡ shape_at l place → s ≡ 0 → 0 ≡ shape_at l at
  unfolding shape_of
  fielded_missing s e z = ap shape_of (fields_missing l at place a f i.end n i.fielding (absent l place s e z))

  module _ (s : ℕ) (k : Known l place s) (p b : ℕ) (g : Bool) (hp : p ≡ s / 32) (hb : b ≡ max a (s % 16)) (hg : g ≡ (f && leb 16 (s % 32))) where
    place_is : p ≡ (child_at l place).next
    place_is = hp ∙ k.next

    alignment_is : b ≡ max a (child_at l place).alignment
    alignment_is = hb ∙ ap (λ (x : ℕ). max a x) k.alignment

    fixed_is : g ≡ (f && (child_at l place).fixed)
    fixed_is = hg ∙ ap (λ (x : Bool). f && x) k.fixed

    behind_is : (j : Letter) → letter_at l p ≡ j → letter_at l (child_at l place).next ≡ j
    behind_is j h = ap (λ (x : ℕ). letter_at l x) (sym place_is) ∙ h

    pub fielded_next : (letter_at l p ≡ CloseStructure → ⊥) → Fielded l at p b g
    fielded_next h =
        rw (place_is, alignment_is, fixed_is) (record {
          end = rounded i.end (child_at l place).alignment + (child_at l place).size;
          fielding = fields_next l at place a f i.end n i.fielding k.stands (λ q. h (ap (λ (x : ℕ). letter_at l x) place_is ∙ q));
        })

    pub fielded_last : letter_at l p ≡ CloseStructure → packed (p + 1) b g ≡ shape_at l at
    unfolding shape_of
    fielded_last h =
        rw (place_is, alignment_is, fixed_is) (ap shape_of (fields_last l at place a f i.end n i.fielding k.stands (behind_is CloseStructure h)))

    pub fielded_most : b ≤ 8
    fielded_most = let m = i.fielding.most in omega (arith, alignment_is, aligns_most k.stands.aligns)

    pub fielded_onward : (place < p) × (p ≤ length l)
    fielded_onward = let o = k.stands.onward in let w = k.stands.within in let e = place_is in omega arith

-- ---- a text of one letter

held_nothing : (l : List ℕ) → length l ≡ 1 → 0 ≡ shape_at l (0 + 1)
held_nothing l e = shape_end l (0 + 1) (omega arith) (omega arith)

pub lone_none : (l : List ℕ) (k : Letter) → length l ≡ 1 → letter_at l 0 ≡ k → OneOf (0 ∷ 1 ∷ 6 ∷ 7 ∷ 8 ∷ 9 ∷ 10 ∷ 11 ∷ []) (tag_of the_type k) → 0 ≡ shape_at l 0
unfolding shape_of
lone_none l End e h w = shape_lone l 0 End (omega arith) h refl
lone_none l Bad e h w = shape_lone l 0 Bad (omega arith) h refl
lone_none l Boolean e h w = absurd (miss (0 ∷ 1 ∷ 6 ∷ 7 ∷ 8 ∷ 9 ∷ 10 ∷ 11 ∷ []) 2 tt w)
lone_none l (Number c m) e h w = absurd (miss (0 ∷ 1 ∷ 6 ∷ 7 ∷ 8 ∷ 9 ∷ 10 ∷ 11 ∷ []) 3 tt w)
lone_none l (Text c) e h w = absurd (miss (0 ∷ 1 ∷ 6 ∷ 7 ∷ 8 ∷ 9 ∷ 10 ∷ 11 ∷ []) 4 tt w)
lone_none l Variant e h w = absurd (miss (0 ∷ 1 ∷ 6 ∷ 7 ∷ 8 ∷ 9 ∷ 10 ∷ 11 ∷ []) 5 tt w)
lone_none l Maybe e h w = shape_maybe l 0 0 (omega arith) h (held_nothing l e)
lone_none l Array e h w =
    let o : letter_at l (0 + 1) ≡ End = letter_end l (0 + 1) (omega arith) in
    shape_array l 0 0 (omega arith) h (λ q. let z : End ≡ OpenEntry = sym o ∙ q in let y : ◌≡◌ {A = ℕ} 0 1 = cc in omega arith) (held_nothing l e)
lone_none l OpenStructure e h w = fielded_missing l 0 (0 + 1) 1 true (omega arith) (fielded_begin l 0 (omega arith) h) 0 (held_nothing l e) refl
lone_none l CloseStructure e h w = shape_lone l 0 CloseStructure (omega arith) h refl
lone_none l OpenEntry e h w = shape_lone l 0 OpenEntry (omega arith) h refl
lone_none l CloseEntry e h w = shape_lone l 0 CloseEntry (omega arith) h refl

-- ---- the table as it fills

pub filled_same : (l t : List ℕ) (at : ℕ) → ShapedFrom at l t → Filled at l t t
filled_same l t at h = record { kept = refl; each = h; before = λ k p. refl; behind = λ k p. refl }

pub filled_at : (l t t' : List ℕ) (at i : ℕ) → i ≡ at → Filled i l t t' → Filled at l t t'
filled_at l t t' at i e h = rw e at h

-- the shapes up to a stop put in front of those from it on
pub filled_over : (l t t' t'' : List ℕ) (at stop : ℕ) → at ≤ stop → Filled stop l t t' → Filled at l t' t'' → Filled at l t t''
filled_over l t t' t'' at stop h a b = record {
  kept = b.kept ∙ a.kept;
  each = b.each;
  before = λ k p. b.before k p ∙ a.before k (omega arith);
  behind = λ k p. b.behind k p ∙ a.behind k p;
}

pub filled_none : (l t : List ℕ) (at : ℕ) → length l ≤ at → Filled at l t t
filled_none l t at h = filled_same l t at (λ k p q. absurd (omega arith))

filled_next : (l t t' : List ℕ) (at s : ℕ) → at < length l → at < length t' → Filled (at + 1) l t t' → s ≡ shape_at l at → Filled at l t (set t' at s)
filled_next l t t' at s n m i e = record {
  kept = length-set t' at s ∙ i.kept;
  each = λ k p q. here k p q (eqb k at) refl;
  before = λ k p. get_or-set_other t' at k s 0 (λ r. omega arith) ∙ i.before k (omega arith);
  behind = λ k p. get_or-set_other t' at k s 0 (λ r. omega arith) ∙ i.behind k p;
}
  where
    here : (k : ℕ) → at ≤ k → k < length l → (q : Bool) → eqb k at ≡ q → get_or (set t' at s) k 0 ≡ shape_at l k
    here k p q true r = let w : k ≡ at = eqb-true k at r in rw w (get_or-set_same t' at s 0 m ∙ e)
    here k p q false r = let w = eqb-false k at r in get_or-set_other t' at k s 0 w ∙ i.each k (other k at p w) q
      where
        other : (x y : ℕ) → y ≤ x → (x ≡ y → ⊥) → y + 1 ≤ x
        other x y u v = omega arith

pub filled_put : (l t t' t'' : List ℕ) (at : ℕ) → at < length l → at < length t' → Filled (at + 1) l t t' → t'' ≡ set t' at (shape_at l at) → Filled at l t t''
filled_put l t t' t'' at n m i e = rw e (filled_next l t t' at (shape_at l at) n m i refl)

-- one place further to the front
pub filled_step : (l t t' t'' : List ℕ) (i : ℕ) → 0 < i → i ≤ length l → length l ≤ length t → Filled i l t t' → t'' ≡ set t' (i - 1) (shape_at l (i - 1)) → Filled (i - 1) l t t''
filled_step l t t' t'' i p n m h e =
    let z : i - 1 + 1 ≡ i = omega arith in
    filled_put l t t' t'' (i - 1) (omega arith) (omega (arith, h.kept)) (rw z h) e

-- ---- the answers of the calls

and_false : (a b : Bool) → false ≡ b → false ≡ (a && b)
and_false true b h = h
and_false false b h = refl

pub answered_long : (l t : List ℕ) → 255 < length l → Answered l t t false
answered_long l t h = record {
  judged = and_false (leb (length l) (length t)) (is_type l) (judge_missing l (ap (λ (c : Child). c.found) (sym (child_long l 0 h))));
  filled = λ n m. absurd (omega arith);
  long = λ n. refl;
  small = λ n. refl;
}

pub answered_small : (l t : List ℕ) → length t < length l → Answered l t t false
answered_small l t h = record {
  judged = sym (ap (λ (q : Bool). q && is_type l) (lt-leb (length l) (length t) h));
  filled = λ n m. absurd (omega arith);
  long = λ n. refl;
  small = λ n. refl;
}

module _ (l t t' : List ℕ) (s : ℕ) (n : length l ≤ 255) (m : length l ≤ length t) (i : Filled 0 l t t') (e : s ≡ shape_at l 0) where
  answered : (r : Bool) → r ≡ is_type l → Answered l t t' r
  answered r h = record {
    judged = h ∙ sym (ap (λ (q : Bool). q && is_type l) (le-leb (length l) (length t) m));
    filled = λ a b. i;
    long = λ a. absurd (omega arith);
    small = λ a. absurd (omega arith);
  }

  pub answered_none : s ≡ 0 → Answered l t t' false
  answered_none z = answered false (judge_missing l (absent l 0 s e z))

  pub answered_found : (s ≡ 0 → ⊥) → (r : ℕ) → r ≡ s / 32 → Answered l t t' (eqb r (length l))
  answered_found z r h =
      let k = known l 0 s e z in
      answered (eqb r (length l)) (ap (λ (x : ℕ). eqb x (length l)) (h ∙ k.next) ∙ judge_found l k.stands)

-- a text of one letter: whatever type begins there ends with it
module _ (l t : List ℕ) (s : ℕ) (n : length l ≡ 1) (m : length l ≤ length t) (e : s ≡ shape_at l 0) where
  lone_filled : Filled 0 l t (set t 0 s)
  lone_filled = filled_next l t t 0 s (omega arith) (omega arith) (filled_none l t (0 + 1) (omega arith)) e

  pub answered_lone_none : s ≡ 0 → Answered l t (set t 0 s) false
  answered_lone_none z = answered_none l t (set t 0 s) s (omega arith) m lone_filled e z

  pub answered_lone : (s ≡ 0 → ⊥) → Answered l t (set t 0 s) true
  answered_lone z =
      let k = known l 0 s e z in
      let o = k.stands.onward in
      let w = k.stands.within in
      let q : eqb (s / 32) (length l) ≡ true = eq-eqb (s / 32) (length l) (omega (arith, k.next)) in
      rw q at (answered_found l t (set t 0 s) s (omega arith) m lone_filled e z (s / 32) refl)

-- what a caller with a table for 255 characters learns: a refusal says that the text is no type, and otherwise the table can be asked
module _ (l t t' : List ℕ) (r : Bool) (z : length t ≡ 255) (a : Answered l t t' r) where
  pub table_refused : r ≡ false → is_type l ≡ false
  table_refused h = go (is_type l) refl
    where
      go : (q : Bool) → is_type l ≡ q → is_type l ≡ false
      go false p = p
      go true p =
          let n = (judged_type l p).few in
          let m : leb (length l) (length t) ≡ true = le-leb (length l) (length t) (omega arith) in
          let x : false ≡ true = sym h ∙ a.judged ∙ ap (λ (q : Bool). q && is_type l) m ∙ p in
          let y : ◌≡◌ {A = ℕ} 0 1 = cc in
          absurd (omega arith)

  pub table_type : r ≡ true → is_type l ≡ true
  table_type h = go (leb (length l) (length t)) (is_type l) (sym a.judged ∙ h)
    where
      go : (x y : Bool) → (x && y) ≡ true → y ≡ true
      go true y e = e
      go false y e = let z : ◌≡◌ {A = ℕ} 0 1 = cc in absurd (omega arith)

  pub table_filled : length t' ≡ length t → r ≡ true → Shaped l t'
  table_filled k h = go (leb (length l) (length t)) refl
    where
      go : (q : Bool) → leb (length l) (length t) ≡ q → Shaped l t'
      go true p =
          let m = leb-true (length l) (length t) p in
          let n : length l ≤ 255 = omega arith in
          record { few = n; room = omega arith; each = (a.filled n m).each }
      go false p =
          let x : false ≡ true = ap (λ (q : Bool). q && is_type l) (sym p) ∙ sym a.judged ∙ h in
          let y : ◌≡◌ {A = ℕ} 0 1 = cc in
          absurd (omega arith)

pub table_judges : (l t t' : List ℕ) (r : Bool) → length t ≡ 255 → Answered l t t' r → r ≡ is_type l
table_judges l t t' true z a = sym (table_type l t t' true z a refl)
table_judges l t t' false z a = sym (table_refused l t t' false z a refl)

-- two tables that satisfy the contract are the same
one_table : (l t x y : List ℕ) → Filled 0 l t x → Filled 0 l t y → x ≡ y
one_table l t x y fx fy = ext_get_or 0 x y (fx.kept ∙ sym fy.kept) (λ k p. at k (leb (length l) k) refl)
  where
    at : (k : ℕ) (q : Bool) → leb (length l) k ≡ q → get_or x k 0 ≡ get_or y k 0
    at k true p = fx.behind k (leb-true (length l) k p) ∙ sym (fy.behind k (leb-true (length l) k p))
    at k false p = fx.each k (omega arith) (leb-false (length l) k p) ∙ sym (fy.each k (omega arith) (leb-false (length l) k p))

pub answered_table : (l t x y : List ℕ) (r s : Bool) → Answered l t x r → Answered l t y s → x ≡ y
answered_table l t x y r s p q = go (leb (length l) 255) (leb (length l) (length t)) refl refl
  where
    go : (a b : Bool) → leb (length l) 255 ≡ a → leb (length l) (length t) ≡ b → x ≡ y
    go true true f g =
        let few = leb-true (length l) 255 f in
        let room = leb-true (length l) (length t) g in
        one_table l t x y (p.filled few room) (q.filled few room)
    go true false f g = let h = leb-false (length l) (length t) g in p.small h ∙ sym (q.small h)
    go false b f g = let h = leb-false (length l) 255 f in p.long h ∙ sym (q.long h)

-- ---- a look

pub same_shape : (at : ℕ) (k j : Letter) (n m a b : ℕ) (f g : Bool) → k ≡ j → n ≡ m → a ≡ b → f ≡ g
    → ◌≡◌ {A = Shape} (record { at = at; kind = k; next = n; alignment = a; fixed = f }) (record { at = at; kind = j; next = m; alignment = b; fixed = g })
same_shape at k j n m a b f g hk hn ha hf = rw (hk, hn, ha, hf)

-- a type that stands at a place of a text is what the text's table says of that place
pub looked : (l t : List ℕ) (at : ℕ) → Shaped l t → (child_at l at).found ≡ true → shape_in l t at ≡ shape at (child_at l at)
looked l t at w p =
    let c = child_at l at in
    let st = child_found l at p in
    let k = known_by l at (get_or t at 0) (w.each at (omega arith) (omega (arith, st.onward, st.within))) p in
    same_shape at (letter_at l at) c.kind (get_or t at 0 / 32) c.next (get_or t at 0 % 16) c.alignment (leb 16 (get_or t at 0 % 32)) c.fixed (sym st.same_kind) k.next k.alignment k.fixed
