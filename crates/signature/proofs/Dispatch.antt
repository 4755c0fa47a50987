-- What a reader that knows the type at a place learns from its letters: which type it is, and where its children's types stand.
-- Two readings of each law: from the type to the letters (`shown`), and from the letters to the type (`is-..`). Assumes nothing.
use mathlib.Core.Path.{◌≡◌, refl, sym, ap, ◌∙◌}
use mathlib.Core.List.{List, [], ◌∷◌, ◌++◌, append_assoc}
use mathlib.Core.Bool.{Bool, true, false}
use Prim.Native.Nat.{ℕ, ◌+◌, ◌≤◌, ◌<◌}
use native.Mathlib.Omega.{arith}
use lib.ListN.{length, drop}
use lib.Seq.{drop-drop}
use borrow.Author.Tests.{eqb-false}
use Rattle.meaning.specs.Types.{Basic, bool, number, text, Tree, Fields, basic, variant, maybe, array, dictionary, structure, last, next, number_width, Number as NumberType, Text as TextType}
use Rattle.meaning.specs.Letters.{number_letter, text_letter, basic_letter}
use Rattle.meaning.specs.TypeText.{type_text, fields_text, basic_among, found, first_type, first_fields}
use Rattle.meaning.proofs.TypeTextLaws.{basic_letter_lem, type_text_positive, head, first_type_type_text, first_type_sound, first_fields_fields_text, first_fields_sound, fields_head}
use Rattle.signature.specs.Places.{basic_kind, letter_of, letter_by, letter_in, letter_at, closed_by, field_at}
use Rattle.signature.specs.declared.Letter.{Letter}
use Rattle.signature.specs.declared.Letter.TheVariants.{End, Bad, Boolean, Number, Text, Variant, Maybe, Array, OpenStructure, CloseStructure, OpenEntry, CloseEntry}
use Rattle.signature.proofs.Letters.{cut}
use Rattle.signature.proofs.Children.{type_at_is, behind_at, behind_is, child_is}

-- ---- from the type to the letters

pub record BasicAt (l : List ℕ) (at : ℕ) (b : Basic) (r : List ℕ) : Type 0 where
  pub letter : letter_at l at ≡ basic_kind b
  pub behind : drop (at + 1) l ≡ r

pub record VariantAt (l : List ℕ) (at : ℕ) (r : List ℕ) : Type 0 where
  pub letter : letter_at l at ≡ Variant
  pub behind : drop (at + 1) l ≡ r

pub record MaybeAt (l : List ℕ) (at : ℕ) (t : Tree) (r : List ℕ) : Type 0 where
  pub letter : letter_at l at ≡ Maybe
  pub child : first_type (drop (at + 1) l) ≡ found t r

pub record ArrayAt (l : List ℕ) (at : ℕ) (t : Tree) (r : List ℕ) : Type 0 where
  pub letter : letter_at l at ≡ Array
  pub no_entry_lem : letter_at l (at + 1) ≡ OpenEntry → ⊥
  pub child : first_type (drop (at + 1) l) ≡ found t r

pub record DictionaryAt (l : List ℕ) (at : ℕ) (b : Basic) (t : Tree) (r : List ℕ) : Type 0 where
  pub letter : letter_at l at ≡ Array
  pub entry : letter_at l (at + 1) ≡ OpenEntry
  pub key : letter_at l (at + 2) ≡ basic_kind b
  pub value : first_type (drop (at + 3) l) ≡ found t (125 ∷ r)

pub record StructureAt (l : List ℕ) (at : ℕ) (ts : Fields) (r : List ℕ) : Type 0 where
  pub letter : letter_at l at ≡ OpenStructure
  pub fields : first_fields (drop (at + 1) l) ≡ found ts r

abbrev pub Shown : List ℕ → ℕ → Tree → List ℕ → Type 0
Shown l at (basic b) r = BasicAt l at b r
Shown l at variant r = VariantAt l at r
Shown l at (maybe t) r = MaybeAt l at t r
Shown l at (array t) r = ArrayAt l at t r
Shown l at (dictionary b t) r = DictionaryAt l at b t r
Shown l at (structure ts) r = StructureAt l at ts r

tail_is : (l : List ℕ) (at c : ℕ) (r : List ℕ) → drop at l ≡ c ∷ r → drop (at + 1) l ≡ r
tail_is l at c r h = sym (drop-drop 1 at l) ∙ ap (λ (x : List ℕ). drop 1 x) h

basic_kind_lem : (b : Basic) → letter_of (basic_letter b) ≡ basic_kind b
unfolding letter_by
basic_kind_lem b = rw (basic_letter_lem b).known

-- no type begins with the letter of an entry
no_entry_in : (l : List ℕ) (t : Tree) (r : List ℕ) → l ≡ type_text t ++ r → letter_in l ≡ OpenEntry → ⊥
no_entry_in l t r h e =
    let k = head t r in
    let c : l ≡ 123 ∷ drop 1 l = (cut l 0 OpenEntry 123 e refl).is in
    let q : 123 ∷ drop 1 l ≡ k.first ∷ k.rest = sym c ∙ h ∙ k.is in
    let z : k.first ≡ 123 = cc in
    eqb-false k.first 123 k.no_entry_lem z

shown_at : (l : List ℕ) (at : ℕ) (t : Tree) (r : List ℕ) → drop at l ≡ type_text t ++ r → Shown l at t r
unfolding type_text letter_in letter_by basic_among
shown_at l at (basic b) r h = record { letter = ap letter_in h ∙ basic_kind_lem b; behind = tail_is l at (basic_letter b) r h }
shown_at l at variant r h = record { letter = ap letter_in h; behind = tail_is l at 118 r h }
shown_at l at (maybe t) r h = record { letter = ap letter_in h; child = ap first_type (tail_is l at 109 (type_text t ++ r) h) ∙ first_type_type_text t r }
shown_at l at (array t) r h =
    let d = tail_is l at 97 (type_text t ++ r) h in
    record { letter = ap letter_in h; no_entry_lem = no_entry_in (drop (at + 1) l) t r d; child = ap first_type d ∙ first_type_type_text t r }
shown_at l at (dictionary b t) r h =
    let d = tail_is l at 97 (123 ∷ basic_letter b ∷ ((type_text t ++ (125 ∷ [])) ++ r)) h in
    let two : at + 1 + 1 ≡ at + 2 = omega arith in
    let three : at + 2 + 1 ≡ at + 3 = omega arith in
    let e : drop (at + 2) l ≡ basic_letter b ∷ ((type_text t ++ (125 ∷ [])) ++ r) = rw two at (tail_is l (at + 1) 123 (basic_letter b ∷ ((type_text t ++ (125 ∷ [])) ++ r)) d) in
    let f : drop (at + 3) l ≡ (type_text t ++ (125 ∷ [])) ++ r = rw three at (tail_is l (at + 2) (basic_letter b) ((type_text t ++ (125 ∷ [])) ++ r) e) in
    record {
      letter = ap letter_in h;
      entry = ap letter_in d;
      key = ap letter_in e ∙ basic_kind_lem b;
      value = ap first_type (f ∙ append_assoc (type_text t) (125 ∷ []) r) ∙ first_type_type_text t (125 ∷ r);
    }
shown_at l at (structure ts) r h = record { letter = ap letter_in h; fields = ap first_fields (tail_is l at 40 (fields_text ts ++ r) h) ∙ first_fields_fields_text ts r }

pub shown : (l : List ℕ) (at : ℕ) (t : Tree) (r : List ℕ) → first_type (drop at l) ≡ found t r → Shown l at t r
shown l at t r h = shown_at l at t r (first_type_sound (drop at l) t r h)

-- ---- from the letters to the type

pub record IsNumber (l : List ℕ) (at : ℕ) (t : Tree) (r : List ℕ) (code width : ℕ) : Type 0 where
  pub it : NumberType
  pub type : t ≡ basic (number it)
  pub code_is : code ≡ number_letter it
  pub width_is : width ≡ number_width it
  pub behind : drop (at + 1) l ≡ r

pub record IsText (l : List ℕ) (at : ℕ) (t : Tree) (r : List ℕ) (code : ℕ) : Type 0 where
  pub it : TextType
  pub type : t ≡ basic (text it)
  pub code_is : code ≡ text_letter it
  pub behind : drop (at + 1) l ≡ r

pub record IsMaybe (l : List ℕ) (at : ℕ) (t : Tree) (r : List ℕ) : Type 0 where
  pub it : Tree
  pub type : t ≡ maybe it
  pub child : first_type (drop (at + 1) l) ≡ found it r

pub record IsArray (l : List ℕ) (at : ℕ) (t : Tree) (r : List ℕ) : Type 0 where
  pub it : Tree
  pub type : t ≡ array it
  pub child : first_type (drop (at + 1) l) ≡ found it r

pub record IsDictionary (l : List ℕ) (at : ℕ) (t : Tree) (r : List ℕ) : Type 0 where
  pub key : Basic
  pub it : Tree
  pub type : t ≡ dictionary key it
  pub letter : letter_at l (at + 2) ≡ basic_kind key
  pub value : first_type (drop (at + 3) l) ≡ found it (125 ∷ r)

pub record IsStructure (l : List ℕ) (at : ℕ) (t : Tree) (r : List ℕ) : Type 0 where
  pub it : Fields
  pub type : t ≡ structure it
  pub fields : first_fields (drop (at + 1) l) ≡ found it r

-- a type begins with a letter that begins one
abbrev pub begins : Letter → Bool
begins End = false
begins Bad = false
begins Boolean = true
begins (Number c w) = true
begins (Text c) = true
begins Variant = true
begins Maybe = true
begins Array = true
begins OpenStructure = true
begins CloseStructure = false
begins OpenEntry = false
begins CloseEntry = false

pub is_boolean : (l : List ℕ) (at : ℕ) (t : Tree) (r : List ℕ) → first_type (drop at l) ≡ found t r → letter_at l at ≡ Boolean → (t ≡ basic bool) × (drop (at + 1) l ≡ r)
is_boolean l at t r h k = go t (shown l at t r h)
  where
    go : (t : Tree) → Shown l at t r → (t ≡ basic bool) × (drop (at + 1) l ≡ r)
    go (basic bool) s = (refl, s.behind)
    go (basic (number x)) s = let z : ◌≡◌ {A = ℕ} 0 1 = cc in absurd (omega arith)
    go (basic (text x)) s = let z : ◌≡◌ {A = ℕ} 0 1 = cc in absurd (omega arith)
    go variant s = let z : ◌≡◌ {A = ℕ} 0 1 = cc in absurd (omega arith)
    go (maybe u) s = let z : ◌≡◌ {A = ℕ} 0 1 = cc in absurd (omega arith)
    go (array u) s = let z : ◌≡◌ {A = ℕ} 0 1 = cc in absurd (omega arith)
    go (dictionary b u) s = let z : ◌≡◌ {A = ℕ} 0 1 = cc in absurd (omega arith)
    go (structure us) s = let z : ◌≡◌ {A = ℕ} 0 1 = cc in absurd (omega arith)

pub is_number : (l : List ℕ) (at : ℕ) (t : Tree) (r : List ℕ) (c w : ℕ) → first_type (drop at l) ≡ found t r → letter_at l at ≡ Number c w → IsNumber l at t r c w
is_number l at t r c w h k = go t (shown l at t r h)
  where
    go : (t : Tree) → Shown l at t r → IsNumber l at t r c w
    go (basic bool) s = let z : ◌≡◌ {A = ℕ} 0 1 = cc in absurd (omega arith)
    go (basic (number x)) s = let e = sym k ∙ s.letter in record { it = x; type = refl; code_is = cc; width_is = cc; behind = s.behind }
    go (basic (text x)) s = let z : ◌≡◌ {A = ℕ} 0 1 = cc in absurd (omega arith)
    go variant s = let z : ◌≡◌ {A = ℕ} 0 1 = cc in absurd (omega arith)
    go (maybe u) s = let z : ◌≡◌ {A = ℕ} 0 1 = cc in absurd (omega arith)
    go (array u) s = let z : ◌≡◌ {A = ℕ} 0 1 = cc in absurd (omega arith)
    go (dictionary b u) s = let z : ◌≡◌ {A = ℕ} 0 1 = cc in absurd (omega arith)
    go (structure us) s = let z : ◌≡◌ {A = ℕ} 0 1 = cc in absurd (omega arith)

pub is_text_lem : (l : List ℕ) (at : ℕ) (t : Tree) (r : List ℕ) (c : ℕ) → first_type (drop at l) ≡ found t r → letter_at l at ≡ Text c → IsText l at t r c
is_text_lem l at t r c h k = go t (shown l at t r h)
  where
    go : (t : Tree) → Shown l at t r → IsText l at t r c
    go (basic bool) s = let z : ◌≡◌ {A = ℕ} 0 1 = cc in absurd (omega arith)
    go (basic (number x)) s = let z : ◌≡◌ {A = ℕ} 0 1 = cc in absurd (omega arith)
    go (basic (text x)) s = let e = sym k ∙ s.letter in record { it = x; type = refl; code_is = cc; behind = s.behind }
    go variant s = let z : ◌≡◌ {A = ℕ} 0 1 = cc in absurd (omega arith)
    go (maybe u) s = let z : ◌≡◌ {A = ℕ} 0 1 = cc in absurd (omega arith)
    go (array u) s = let z : ◌≡◌ {A = ℕ} 0 1 = cc in absurd (omega arith)
    go (dictionary b u) s = let z : ◌≡◌ {A = ℕ} 0 1 = cc in absurd (omega arith)
    go (structure us) s = let z : ◌≡◌ {A = ℕ} 0 1 = cc in absurd (omega arith)

pub is_variant : (l : List ℕ) (at : ℕ) (t : Tree) (r : List ℕ) → first_type (drop at l) ≡ found t r → letter_at l at ≡ Variant → (t ≡ variant) × (drop (at + 1) l ≡ r)
is_variant l at t r h k = go t (shown l at t r h)
  where
    go : (t : Tree) → Shown l at t r → (t ≡ variant) × (drop (at + 1) l ≡ r)
    go (basic bool) s = let z : ◌≡◌ {A = ℕ} 0 1 = cc in absurd (omega arith)
    go (basic (number x)) s = let z : ◌≡◌ {A = ℕ} 0 1 = cc in absurd (omega arith)
    go (basic (text x)) s = let z : ◌≡◌ {A = ℕ} 0 1 = cc in absurd (omega arith)
    go variant s = (refl, s.behind)
    go (maybe u) s = let z : ◌≡◌ {A = ℕ} 0 1 = cc in absurd (omega arith)
    go (array u) s = let z : ◌≡◌ {A = ℕ} 0 1 = cc in absurd (omega arith)
    go (dictionary b u) s = let z : ◌≡◌ {A = ℕ} 0 1 = cc in absurd (omega arith)
    go (structure us) s = let z : ◌≡◌ {A = ℕ} 0 1 = cc in absurd (omega arith)

pub is_maybe : (l : List ℕ) (at : ℕ) (t : Tree) (r : List ℕ) → first_type (drop at l) ≡ found t r → letter_at l at ≡ Maybe → IsMaybe l at t r
is_maybe l at t r h k = go t (shown l at t r h)
  where
    go : (t : Tree) → Shown l at t r → IsMaybe l at t r
    go (basic bool) s = let z : ◌≡◌ {A = ℕ} 0 1 = cc in absurd (omega arith)
    go (basic (number x)) s = let z : ◌≡◌ {A = ℕ} 0 1 = cc in absurd (omega arith)
    go (basic (text x)) s = let z : ◌≡◌ {A = ℕ} 0 1 = cc in absurd (omega arith)
    go variant s = let z : ◌≡◌ {A = ℕ} 0 1 = cc in absurd (omega arith)
    go (maybe u) s = record { it = u; type = refl; child = s.child }
    go (array u) s = let z : ◌≡◌ {A = ℕ} 0 1 = cc in absurd (omega arith)
    go (dictionary b u) s = let z : ◌≡◌ {A = ℕ} 0 1 = cc in absurd (omega arith)
    go (structure us) s = let z : ◌≡◌ {A = ℕ} 0 1 = cc in absurd (omega arith)

pub is_array : (l : List ℕ) (at : ℕ) (t : Tree) (r : List ℕ) → first_type (drop at l) ≡ found t r → letter_at l at ≡ Array → (letter_at l (at + 1) ≡ OpenEntry → ⊥) → IsArray l at t r
is_array l at t r h k o = go t (shown l at t r h)
  where
    go : (t : Tree) → Shown l at t r → IsArray l at t r
    go (basic bool) s = let z : ◌≡◌ {A = ℕ} 0 1 = cc in absurd (omega arith)
    go (basic (number x)) s = let z : ◌≡◌ {A = ℕ} 0 1 = cc in absurd (omega arith)
    go (basic (text x)) s = let z : ◌≡◌ {A = ℕ} 0 1 = cc in absurd (omega arith)
    go variant s = let z : ◌≡◌ {A = ℕ} 0 1 = cc in absurd (omega arith)
    go (maybe u) s = let z : ◌≡◌ {A = ℕ} 0 1 = cc in absurd (omega arith)
    go (array u) s = record { it = u; type = refl; child = s.child }
    go (dictionary b u) s = absurd (o s.entry)
    go (structure us) s = let z : ◌≡◌ {A = ℕ} 0 1 = cc in absurd (omega arith)

pub is_dictionary : (l : List ℕ) (at : ℕ) (t : Tree) (r : List ℕ) → first_type (drop at l) ≡ found t r → letter_at l at ≡ Array → letter_at l (at + 1) ≡ OpenEntry → IsDictionary l at t r
is_dictionary l at t r h k o = go t (shown l at t r h)
  where
    go : (t : Tree) → Shown l at t r → IsDictionary l at t r
    go (basic bool) s = let z : ◌≡◌ {A = ℕ} 0 1 = cc in absurd (omega arith)
    go (basic (number x)) s = let z : ◌≡◌ {A = ℕ} 0 1 = cc in absurd (omega arith)
    go (basic (text x)) s = let z : ◌≡◌ {A = ℕ} 0 1 = cc in absurd (omega arith)
    go variant s = let z : ◌≡◌ {A = ℕ} 0 1 = cc in absurd (omega arith)
    go (maybe u) s = let z : ◌≡◌ {A = ℕ} 0 1 = cc in absurd (omega arith)
    go (array u) s = absurd (s.no_entry_lem o)
    go (dictionary b u) s = record { key = b; it = u; type = refl; letter = s.key; value = s.value }
    go (structure us) s = let z : ◌≡◌ {A = ℕ} 0 1 = cc in absurd (omega arith)

pub is_structure : (l : List ℕ) (at : ℕ) (t : Tree) (r : List ℕ) → first_type (drop at l) ≡ found t r → letter_at l at ≡ OpenStructure → IsStructure l at t r
is_structure l at t r h k = go t (shown l at t r h)
  where
    go : (t : Tree) → Shown l at t r → IsStructure l at t r
    go (basic bool) s = let z : ◌≡◌ {A = ℕ} 0 1 = cc in absurd (omega arith)
    go (basic (number x)) s = let z : ◌≡◌ {A = ℕ} 0 1 = cc in absurd (omega arith)
    go (basic (text x)) s = let z : ◌≡◌ {A = ℕ} 0 1 = cc in absurd (omega arith)
    go variant s = let z : ◌≡◌ {A = ℕ} 0 1 = cc in absurd (omega arith)
    go (maybe u) s = let z : ◌≡◌ {A = ℕ} 0 1 = cc in absurd (omega arith)
    go (array u) s = let z : ◌≡◌ {A = ℕ} 0 1 = cc in absurd (omega arith)
    go (dictionary b u) s = let z : ◌≡◌ {A = ℕ} 0 1 = cc in absurd (omega arith)
    go (structure us) s = record { it = us; type = refl; fields = s.fields }

-- ---- a structure's fields, one after another

-- the place behind the field at a place
abbrev pub after_field : List ℕ → ℕ → ℕ
after_field l at = (field_at l at).child.next

pub record IsLast (l : List ℕ) (at : ℕ) (ts : Fields) (r : List ℕ) : Type 0 where
  pub it : Tree
  pub type : ts ≡ last it
  pub child : first_type (drop at l) ≡ found it (drop (after_field l at) l)
  pub behind : drop (after_field l at + 1) l ≡ r

pub record IsNext (l : List ℕ) (at : ℕ) (ts : Fields) (r : List ℕ) : Type 0 where
  pub it : Tree
  pub others : Fields
  pub type : ts ≡ next it others
  pub child : first_type (drop at l) ≡ found it (drop (after_field l at) l)
  pub fields : first_fields (drop (after_field l at) l) ≡ found others r
  pub onward : at < after_field l at

module _ (l : List ℕ) (at : ℕ) (n : length l ≤ 255) (t : Tree) (k : List ℕ) (h : first_type (drop at l) ≡ found t k) where
  after_field_lem : drop (after_field l at) l ≡ k
  unfolding field_at
  after_field_lem = ap (λ c. drop c.next l) (child_is l at t k n h) ∙ behind_is l at t k h

  onward_field : at < after_field l at
  unfolding field_at
  onward_field = omega (arith, ap (λ c. c.next) (child_is l at t k n h), behind_at l at t k h, type_text_positive t)

  last_field : (field_at l at).last ≡ closed_by (found t k)
  unfolding field_at
  last_field = ap closed_by (type_at_is l at n ∙ h)

-- what stands at a place of a structure's fields
abbrev pub FieldShown : List ℕ → ℕ → Fields → List ℕ → Type 0
FieldShown l at (last t) r = ((field_at l at).last ≡ true) × IsLast l at (last t) r
FieldShown l at (next t ts) r = ((field_at l at).last ≡ false) × IsNext l at (next t ts) r

pub field_shown : (l : List ℕ) (at : ℕ) (ts : Fields) (r : List ℕ) → length l ≤ 255 → first_fields (drop at l) ≡ found ts r → FieldShown l at ts r
unfolding type_text closed_by
field_shown l at (last t) r n h =
    let e : first_type (drop at l) ≡ found t (41 ∷ r) = ap first_type (first_fields_sound (drop at l) (last t) r h ∙ append_assoc (type_text t) (41 ∷ []) r) ∙ first_type_type_text t (41 ∷ r) in
    let d = after_field_lem l at n t (41 ∷ r) e in
    (last_field l at n t (41 ∷ r) e, record { it = t; type = refl; child = e ∙ ap (λ (x : List ℕ). found t x) (sym d); behind = tail_is l (after_field l at) 41 r d })
field_shown l at (next t ts) r n h =
    let e : first_type (drop at l) ≡ found t (fields_text ts ++ r) = ap first_type (first_fields_sound (drop at l) (next t ts) r h ∙ append_assoc (type_text t) (fields_text ts) r) ∙ first_type_type_text t (fields_text ts ++ r) in
    let d = after_field_lem l at n t (fields_text ts ++ r) e in
    let k = fields_head ts r in
    let c : closed_by (found t (fields_text ts ++ r)) ≡ false = rw k.is k.no_close in (
      last_field l at n t (fields_text ts ++ r) e ∙ c,
      record { it = t; others = ts; type = refl; child = e ∙ ap (λ (x : List ℕ). found t x) (sym d); fields = ap first_fields d ∙ first_fields_fields_text ts r; onward = onward_field l at n t (fields_text ts ++ r) e },
    )

pub is_last : (l : List ℕ) (at : ℕ) (ts : Fields) (r : List ℕ) → length l ≤ 255 → first_fields (drop at l) ≡ found ts r → (field_at l at).last ≡ true → IsLast l at ts r
is_last l at ts r n h k = go ts (field_shown l at ts r n h)
  where
    go : (us : Fields) → FieldShown l at us r → IsLast l at us r
    go (last t) s = s.1
    go (next t us) s = let z : ◌≡◌ {A = Bool} true false = sym k ∙ s.0 in let w : ◌≡◌ {A = ℕ} 0 1 = cc in absurd (omega arith)

pub is_next : (l : List ℕ) (at : ℕ) (ts : Fields) (r : List ℕ) → length l ≤ 255 → first_fields (drop at l) ≡ found ts r → (field_at l at).last ≡ false → IsNext l at ts r
is_next l at ts r n h k = go ts (field_shown l at ts r n h)
  where
    go : (us : Fields) → FieldShown l at us r → IsNext l at us r
    go (last t) s = let z : ◌≡◌ {A = Bool} true false = sym s.0 ∙ k in let w : ◌≡◌ {A = ℕ} 0 1 = cc in absurd (omega arith)
    go (next t us) s = s.1
