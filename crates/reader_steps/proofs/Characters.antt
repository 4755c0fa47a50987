-- What a character of a type text says, and a type by the character that it begins with. Assumes nothing.
use Rattle.std.proofs.Common.{◌≡◌, ℕ, suc, ◌+◌, ◌-◌, ◌<◌, ◌≤◌, Bool, true, false, eqb, leb, ◌⊎◌, List, ◌∷◌, length, get_or, take, drop, sym, refl, ap, ◌∙◌, inl, inr, arith, length-drop, drop_of_length-le, length-take, drop-cons, leb-false, leb-true}
use mathlib.Core.Path.{subst⁻¹}
use mathlib.Core.Option.{Option, none, some}
use mathlib.Core.Bool.{false≢true}
use Rattle.std.specs.Prelude.{Option as Found, Some, None, is_some, IfSome}
use Rattle.reader_steps.specs.Codes.{Held, WidthBy}
use Rattle.meaning.specs.Choice.{pick}
use Rattle.meaning.specs.Depths.{Depths}
use Rattle.meaning.specs.Padding.{Aligns}
use Rattle.meaning.specs.Types.{Number as NumberType, Text as TextType, Basic, bool, number, text, Tree, basic, variant, maybe, array, dictionary, structure}
use Rattle.meaning.specs.Letters.{number_letter, text_letter, basic_letter}
use Rattle.meaning.specs.TypeText.{basic_among, basic_of, found, first_type}
use Rattle.meaning.specs.Reading.{Reader, child, read_bool}
use Rattle.meaning.proofs.TypeLaws.{number_positive}
use Rattle.meaning.proofs.TypeTextLaws.{basic_of_lem, first_type_none}
use Rattle.signature.specs.Places.{basic_kind, letter_by, letter_of, letter_at, field_at}
use Rattle.signature.specs.Steps.{key_alignment, key_fixed, width_by, is_text}
use Rattle.signature.specs.Trees.{tree_at, behind_by, Typed, Rowed}
use Rattle.signature.specs.declared.Letter.{Letter}
use Rattle.signature.specs.declared.Letter.TheVariants.{Bad, Number, Text, Variant, Maybe, Array, OpenStructure, CloseStructure, OpenEntry, CloseEntry}
use Rattle.signature.proofs.Letters.{letter_some, mark, cut, key_zero}
use Rattle.signature.proofs.Dispatch.{Shown, shown, is_last, is_next}
use Rattle.signature.proofs.TreeLaws.{typed_by}
use Rattle.reader_basic.specs.Answers.{Done, Whole, Between}
use Rattle.reader_basic.specs.Parts.{key_reader}
use Rattle.meaning.specs.Calls.{Counts}
use Rattle.reader_basic.proofs.Leaves.{child_there}
use Rattle.reader_steps.specs.Places.{Contains, reader_of}
use Rattle.reader_steps.proofs.Readers.{reading_basic, width_by_lem}
use Rattle.reader_steps.proofs.ItemLaws.{key_reader_lem}

-- ---- a letter by its character

-- a letter that is no basic one
record Plain (k : Letter) : Type 0 where
  pub width : width_by k ≡ 0
  pub text : is_text k ≡ false
  pub fixed : key_fixed k ≡ false
  pub reader : (position : ℕ) (big : Bool) → key_reader position big k ≡ read_bool

-- a character is that of a basic type, or its letter is no basic one
by_code : (P : Letter → Type 0) (c : ℕ) → ((b : Basic) → c ≡ basic_letter b → P (basic_kind b)) → ((k : Letter) → Plain k → P k) → P (letter_of c)
unfolding letter_by
by_code P c f g = go (basic_of c) refl
  where
    marks : (v m a o z e f : Bool) → P (pick v Variant (pick m Maybe (pick a Array (pick o OpenStructure (pick z CloseStructure (pick e OpenEntry (pick f CloseEntry Bad)))))))
    marks true m a o z e f = g Variant (record { width = refl; text = refl; fixed = refl; reader = λ p b. refl })
    marks false true a o z e f = g Maybe (record { width = refl; text = refl; fixed = refl; reader = λ p b. refl })
    marks false false true o z e f = g Array (record { width = refl; text = refl; fixed = refl; reader = λ p b. refl })
    marks false false false true z e f = g OpenStructure (record { width = refl; text = refl; fixed = refl; reader = λ p b. refl })
    marks false false false false true e f = g CloseStructure (record { width = refl; text = refl; fixed = refl; reader = λ p b. refl })
    marks false false false false false true f = g OpenEntry (record { width = refl; text = refl; fixed = refl; reader = λ p b. refl })
    marks false false false false false false true = g CloseEntry (record { width = refl; text = refl; fixed = refl; reader = λ p b. refl })
    marks false false false false false false false = g Bad (record { width = refl; text = refl; fixed = refl; reader = λ p b. refl })

    go : (b : Option Basic) → basic_of c ≡ b → P (letter_by c b)
    go (some b) h = f b (basic_of_lem c b h)
    go none h = marks (eqb c 118) (eqb c 109) (eqb c 97) (eqb c 40) (eqb c 41) (eqb c 123) (eqb c 125)

module _ (c : ℕ) where
  -- what is known of none of the characters of a match
  pub no_number : ((n : NumberType) → c ≡ number_letter n → ⊥) → 0 ≡ width_by (letter_of c)
  no_number h = by_code (λ (k : Letter). 0 ≡ width_by k) c go (λ k p. sym p.width)
    where
      go : (b : Basic) → c ≡ basic_letter b → 0 ≡ width_by (basic_kind b)
      go bool e = refl
      go (number n) e = absurd (h n e)
      go (text x) e = refl

  pub no_text : ((x : TextType) → c ≡ text_letter x → ⊥) → false ≡ is_text (letter_of c)
  no_text h = by_code (λ (k : Letter). false ≡ is_text k) c go (λ k p. sym p.text)
    where
      go : (b : Basic) → c ≡ basic_letter b → false ≡ is_text (basic_kind b)
      go bool e = refl
      go (number n) e = refl
      go (text x) e = absurd (h x e)

  pub no_fixed : (c ≡ 98 → ⊥) → 0 ≡ width_by (letter_of c) → false ≡ key_fixed (letter_of c)
  no_fixed i q = by_code (λ (k : Letter). 0 ≡ width_by k → false ≡ key_fixed k) c go (λ k p e. sym p.fixed) q
    where
      go : (b : Basic) → c ≡ basic_letter b → 0 ≡ width_by (basic_kind b) → false ≡ key_fixed (basic_kind b)
      go bool e r = absurd (i e)
      go (number n) e r = absurd (omega (arith, number_positive n))
      go (text x) e r = refl

  -- a number by its width
  pub number_code : (w : ℕ) → w ≡ width_by (letter_of c) → (w ≡ 0 → ⊥) → letter_of c ≡ Number c w
  number_code w q h = by_code (λ (k : Letter). w ≡ width_by k → k ≡ Number c w) c go (λ k p e. absurd (h (e ∙ p.width))) q
    where
      go : (b : Basic) → c ≡ basic_letter b → w ≡ width_by (basic_kind b) → basic_kind b ≡ Number c w
      go bool e r = absurd (h r)
      go (number n) e r = rw (e, r)
      go (text x) e r = absurd (h r)

  -- what is fixed, where no width tells
  pub fixed_by : (r : Found ℕ) → WidthBy (letter_of c) r → (c ≡ 98 → ⊥) → is_some r ≡ key_fixed (letter_of c)
  fixed_by None h i = no_fixed i h
  fixed_by (Some w) h i = sym (ap key_fixed (number_code w h.0 h.1))

  pub byte_code : c ≡ 121 → letter_of c ≡ Number c 1
  unfolding letter_by basic_among
  byte_code e = rw e

  pub code_aligned : (w : ℕ) → w ≡ width_by (letter_of c) → (w ≡ 0 → ⊥) → Aligns w
  code_aligned w q h = by_code (λ (k : Letter). w ≡ width_by k → Aligns w) c go (λ k p e. absurd (h (e ∙ p.width))) q
    where
      go : (b : Basic) → c ≡ basic_letter b → w ≡ width_by (basic_kind b) → Aligns w
      go bool e r = absurd (h r)
      go (number n) e r = width_by_lem w n r
      go (text x) e r = absurd (h r)

  pub text_code : true ≡ is_text (letter_of c) → letter_of c ≡ Text c
  text_code q = by_code (λ (k : Letter). true ≡ is_text k → k ≡ Text c) c go (λ k p e. absurd (false≢true (sym (e ∙ p.text)))) q
    where
      go : (b : Basic) → c ≡ basic_letter b → true ≡ is_text (basic_kind b) → basic_kind b ≡ Text c
      go bool e r = absurd (false≢true (sym r))
      go (number n) e r = absurd (false≢true (sym r))
      go (text x) e r = rw e

  -- what is neither a number nor a text is read as a bool
  pub bool_code : 0 ≡ width_by (letter_of c) → false ≡ is_text (letter_of c) → (position : ℕ) (big : Bool) → key_reader position big (letter_of c) ≡ read_bool
  bool_code q r position big = by_code (λ (k : Letter). 0 ≡ width_by k → false ≡ is_text k → key_reader position big k ≡ read_bool) c go (λ k p e f. p.reader position big) q r
    where
      go : (b : Basic) → c ≡ basic_letter b → 0 ≡ width_by (basic_kind b) → false ≡ is_text (basic_kind b) → key_reader position big (basic_kind b) ≡ read_bool
      go bool e f g = refl
      go (number n) e f g = absurd (omega (arith, number_positive n))
      go (text x) e f g = absurd (false≢true g)

  -- what is fixed, or a text, is a key
  pub fixed_key_lem : true ≡ key_fixed (letter_of c) → key_alignment (letter_of c) ≡ 0 → ⊥
  fixed_key_lem q = by_code (λ (k : Letter). true ≡ key_fixed k → key_alignment k ≡ 0 → ⊥) c go (λ k p e. absurd (false≢true (sym (e ∙ p.fixed)))) q
    where
      go : (b : Basic) → c ≡ basic_letter b → true ≡ key_fixed (basic_kind b) → key_alignment (basic_kind b) ≡ 0 → ⊥
      go bool e f g = omega arith
      go (number n) e f g = omega (arith, number_positive n)
      go (text x) e f g = omega arith

  pub text_key_lem : true ≡ is_text (letter_of c) → key_alignment (letter_of c) ≡ 0 → ⊥
  text_key_lem q = let e : key_alignment (letter_of c) ≡ 1 = ap key_alignment (text_code q) in λ z. omega arith

-- a number in a maybe
pub held_by : (l : List ℕ) (at : ℕ) (r : Found ℕ) → letter_at l at ≡ Maybe → at + 1 < length l → WidthBy (letter_of (get_or l (at + 1) 0)) r → IfSome r (Held l at)
held_by l at None m h w = tt
held_by l at (Some v) m h w = record { maybe = m; within = h; number = letter_some l (at + 1) h ∙ number_code _ v w.0 w.1 }

-- ---- the readers of a character

module _ (c position : ℕ) (big : Bool) (place : ℕ) (part : List ℕ) (n : ℕ) (l l' : List ℕ) (r : Counts) where
  pub leaf_as : (k : Letter) → letter_of c ≡ k → ((d : Depths) → Whole (key_reader position big k d place part) part n l l' r) → (d : Depths) → Whole (key_reader position big (letter_of c) d place part) part n l l' r
  leaf_as k e g d = subst⁻¹ (λ (x : Letter). Whole (key_reader position big x d place part) part n l l' r) e (g d)

  pub leaf_bool : 0 ≡ width_by (letter_of c) → false ≡ is_text (letter_of c) → ((d : Depths) → Whole (read_bool d place part) part n l l' r) → (d : Depths) → Whole (key_reader position big (letter_of c) d place part) part n l l' r
  leaf_bool q f g d = subst⁻¹ (λ (x : Reader). Whole (x d place part) part n l l' r) (bool_code c q f position big) (g d)

-- from j to a stop of a part
pub leaf_child : (c position : ℕ) (big : Bool) (place : ℕ) (part : List ℕ) (j stop n : ℕ) (l l' : List ℕ) (r : Counts) → j ≤ stop → stop ≤ length part
    → ((d : Depths) → Whole (key_reader position big (letter_of c) d (place + j) (take (stop - j) (drop j part))) (take (stop - j) (drop j part)) n l l' r)
    → (d : Depths) → Between (child (key_reader position big (letter_of c) d) place part j stop) part j stop n l l' r
leaf_child c position big place part j stop n l l' r h i g d = child_there _ _ _ _ _ _ _ _ _ h i (g d)

-- by the character of a text at a place
pub key_read : (x : List ℕ) (at : ℕ) → at < length x → (position : ℕ) (big : Bool) (place : ℕ) (part : List ℕ) (j stop n : ℕ) (l l' : List ℕ) (r : Counts) → j ≤ stop → stop ≤ length part
    → ((d : Depths) → Whole (key_reader position big (letter_of (get_or x at 0)) d (place + j) (take (stop - j) (drop j part))) (take (stop - j) (drop j part)) n l l' r)
    → (d : Depths) → Between (child (key_reader position big (letter_at x at) d) place part j stop) part j stop n l l' r
key_read x at h position big place part j stop n l l' r i y g d =
    subst⁻¹ (λ (k : Letter). Between (child (key_reader position big k d) place part j stop) part j stop n l l' r) (letter_some x at h)
    (leaf_child (get_or x at 0) position big place part j stop n l l' r i y g d)

-- what was used of a piece of a part fits in what is left of it
pub part_fits : (part : List ℕ) (j stop : ℕ) {u : ℕ} → u ≤ length (take (stop - j) (drop j part)) → u ≤ length part - j
part_fits part j stop h = omega (arith, h, length-take (stop - j) (drop j part), length-drop j part)

-- ---- a type by the character that it begins with

pub typed_within : {l : List ℕ} {at : ℕ} → Typed l at → at < length l
typed_within {l} {at} t = go (leb (length l) at) refl
  where
    go : (b : Bool) → leb (length l) at ≡ b → at < length l
    go false h = leb-false (length l) at h
    go true h =
        let e : first_type (drop at l) ≡ none = ap first_type (drop_of_length-le l (leb-true (length l) at h)) ∙ first_type_none in
        let y : found (tree_at l at) (behind_by (first_type (drop at l))) ≡ none = sym t.found ∙ e in
        let z : ◌≡◌ {A = ℕ} 0 1 = cc in absurd (omega arith)

-- a type stands where fields do
pub rowed_typed : {l : List ℕ} {i : ℕ} → Rowed l i → Typed l i
rowed_typed {l} {i} w = go (field_at l i).last refl
  where
    go : (b : Bool) → (field_at l i).last ≡ b → Typed l i
    go true e = let s = is_last l i _ _ w.short w.found e in typed_by l i s.it _ w.short s.child
    go false e = let s = is_next l i _ _ w.short w.found e in typed_by l i s.it _ w.short s.child

-- the character of a letter that stands for itself
pub mark_code : (l : List ℕ) (at : ℕ) (k : Letter) (c : ℕ) → letter_at l at ≡ k → mark k ≡ some c → get_or l at 0 ≡ c
mark_code l at k c e m =
    let w = cut l at k c e m in
    let q : get_or l at 0 ∷ drop (suc at) l ≡ c ∷ drop (at + 1) l = sym (drop-cons l at 0 w.within) ∙ w.is in
    cc

-- and the letter of such a character
module _ (l : List ℕ) (at : ℕ) (h : at < length l) where
  pub code_maybe : get_or l at 0 ≡ 109 → letter_at l at ≡ Maybe
  unfolding letter_by basic_among
  code_maybe e = letter_some l at h ∙ ap letter_of e

  pub code_array : get_or l at 0 ≡ 97 → letter_at l at ≡ Array
  unfolding letter_by basic_among
  code_array e = letter_some l at h ∙ ap letter_of e

  pub code_structure : get_or l at 0 ≡ 40 → letter_at l at ≡ OpenStructure
  unfolding letter_by basic_among
  code_structure e = letter_some l at h ∙ ap letter_of e

  pub code_close : get_or l at 0 ≡ 41 → letter_at l at ≡ CloseStructure
  unfolding letter_by basic_among
  code_close e = letter_some l at h ∙ ap letter_of e

  pub code_variant : get_or l at 0 ≡ 118 → letter_at l at ≡ Variant
  unfolding letter_by basic_among
  code_variant e = letter_some l at h ∙ ap letter_of e

  pub code_entry : get_or l at 0 ≡ 123 → letter_at l at ≡ OpenEntry
  unfolding letter_by basic_among
  code_entry e = letter_some l at h ∙ ap letter_of e

abbrev OneOfFour : ℕ → Type 0
OneOfFour c = (c ≡ 40) ⊎ ((c ≡ 97) ⊎ ((c ≡ 109) ⊎ (c ≡ 118)))

module _ {l : List ℕ} {at : ℕ} (t : Typed l at) where
  -- a container begins with one of four characters
  pub contains_code : OneOfFour (get_or l at 0) → Contains (tree_at l at)
  contains_code h = go (tree_at l at) (shown l at _ _ t.found)
    where
      none_aligned : OneOfFour (get_or l at 0) → key_alignment (letter_at l at) ≡ 0
      none_aligned (inl e) = ap key_alignment (code_structure l at (typed_within t) e)
      none_aligned (inr (inl e)) = ap key_alignment (code_array l at (typed_within t) e)
      none_aligned (inr (inr (inl e))) = ap key_alignment (code_maybe l at (typed_within t) e)
      none_aligned (inr (inr (inr e))) = ap key_alignment (code_variant l at (typed_within t) e)

      go : (s : Tree) → Shown l at s (behind_by (first_type (drop at l))) → Contains s
      go (basic b) w = absurd (key_zero b (ap key_alignment (sym w.letter) ∙ none_aligned h))
      go variant w = tt
      go (maybe s) w = tt
      go (array s) w = tt
      go (dictionary b s) w = tt
      go (structure ts) w = tt

  -- and what begins with another is basic
  leaf_reads : (OneOfFour (get_or l at 0) → ⊥) → (position : ℕ) (big : Bool) (nested : ℕ) → reader_of position big nested (tree_at l at) ≡ key_reader position big (letter_at l at)
  leaf_reads h position big nested = go (tree_at l at) (shown l at _ _ t.found)
    where
      go : (s : Tree) → Shown l at s (behind_by (first_type (drop at l))) → reader_of position big nested s ≡ key_reader position big (letter_at l at)
      go (basic b) w = reading_basic position big (65 - nested) b ∙ key_reader_lem position big b ∙ ap (key_reader position big) (sym w.letter)
      go variant w = absurd (h (inr (inr (inr (mark_code l at Variant 118 w.letter refl)))))
      go (maybe s) w = absurd (h (inr (inr (inl (mark_code l at Maybe 109 w.letter refl)))))
      go (array s) w = absurd (h (inr (inl (mark_code l at Array 97 w.letter refl))))
      go (dictionary b s) w = absurd (h (inr (inl (mark_code l at Array 97 w.letter refl))))
      go (structure ts) w = absurd (h (inl (mark_code l at OpenStructure 40 w.letter refl)))

  pub value_leaf : (OneOfFour (get_or l at 0) → ⊥) → (position : ℕ) (big : Bool) (nested : ℕ) (D : Depths) (k : ℕ) (part : List ℕ) (end len n : ℕ) (o o' : List ℕ) (r : Counts)
      → ((d : Depths) → Done (key_reader position big (letter_of (get_or l at 0)) d k part) end len n o o' r) → Done (reader_of position big nested (tree_at l at) D k part) end len n o o' r
  value_leaf h position big nested D k part end len n o o' r g =
      subst⁻¹ (λ (R : Reader). Done (R D k part) end len n o o' r) (leaf_reads h position big nested ∙ ap (key_reader position big) (letter_some l at (typed_within t))) (g D)

  -- a container that is no maybe, array or structure is a variant
  pub variant_else : Contains (tree_at l at) → (get_or l at 0 ≡ 109 → ⊥) → (get_or l at 0 ≡ 97 → ⊥) → (get_or l at 0 ≡ 40 → ⊥) → tree_at l at ≡ variant
  variant_else c m a s = go (tree_at l at) (shown l at _ _ t.found) c
    where
      go : (u : Tree) → Shown l at u (behind_by (first_type (drop at l))) → Contains u → u ≡ variant
      go (basic b) w c = absurd c
      go variant w c = refl
      go (maybe u) w c = absurd (m (mark_code l at Maybe 109 w.letter refl))
      go (array u) w c = absurd (a (mark_code l at Array 97 w.letter refl))
      go (dictionary b u) w c = absurd (a (mark_code l at Array 97 w.letter refl))
      go (structure ts) w c = absurd (s (mark_code l at OpenStructure 40 w.letter refl))
