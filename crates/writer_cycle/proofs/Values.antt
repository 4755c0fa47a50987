-- A law for each way out of the writers that call each other, by the type at a place of a text. Assumes nothing.
use mathlib.Core.Path.{◌≡◌, refl, ap, sym, subst, subst⁻¹, ◌∙◌}
use types.Run.{OneOf, miss}
use denote.Enum.Declared.{tag_of}
use mathlib.Core.List.{List, [], ◌∷◌}
use mathlib.Core.Bool.{Bool, true, false}
use native.Mathlib.Omega.{arith}
use Prim.Native.Nat.{ℕ, ◌+◌, ◌-◌, ◌≤◌}
use lib.ListN.{length, drop}
use Rattle.meaning.specs.Depths as Depth
use Rattle.meaning.specs.Depths.{Depths, opened}
use Rattle.meaning.specs.Letters.{number_letter, text_letter}
use Rattle.meaning.specs.Padding.{Aligns}
use Rattle.meaning.specs.Types.{Number as NumberType, Text as TextType, Basic, bool, number, text, Tree, basic, variant, maybe, array, dictionary, structure, number_width, alignment, fixed}
use Rattle.meaning.specs.TypeText.{first_type, type_text}
use Rattle.meaning.specs.Written.{Piece, array_piece, structure_piece}
use Rattle.meaning.proofs.TypeLaws.{number_aligned}
use Rattle.meaning.proofs.TypeTextLaws.{type_of_sound}
use Rattle.meaning_writing.specs.Writing.{Builder, mapped, sealed, build_many}
use Rattle.meaning_writing.specs.Emitting.{emit_basic, emit_maybe, emit_array, emit_structure, emit_variant, emit}
use Rattle.meaning_writing.specs.EventsAt.{PlainAt, NotPlain}
use Rattle.meaning_writing.proofs.WritingSteps.{Shorter}
use Rattle.container_depths.specs.Opening.{depths_of, Raises}
use Rattle.container_depths.specs.declared.ContainerDepths.{ContainerDepths}
use Rattle.container_depths.specs.Opening.{Raised}
use Rattle.signature.specs.Places.{is_type, basic_kind, letter_at}
use Rattle.signature.specs.Trees.{tree_at, behind_by, Typed, fields_at, Described}
use Rattle.signature.specs.declared.Letter.{Letter}
use Rattle.signature.specs.declared.Letter.TheVariants.{Boolean, Number, Text, Maybe, Array, OpenStructure}
use Rattle.signature.specs.declared.shapes.Shape.{Shape}
use Rattle.signature.specs.declared.items.Item.{Item}
use Rattle.signature.specs.contracts.Letter.{the_type}
use Rattle.signature.proofs.Answers.{judged_none}
use Rattle.signature.proofs.Dispatch.{Shown, shown, is_boolean, is_number, is_text_lem}
use Rattle.signature.proofs.TreeLaws.{front, maybe_tree, structure_tree, structure_alignment, structure_fixed}
use Rattle.signature.specs.Items.{item_kind}
use Rattle.writer_basic.specs.Wrote.{Taken, Untaken, Done, around_child, around_value, Structured}
use Rattle.writer_basic.specs.Wrote.{Answer}
use Rattle.writer_basic.proofs.Answers.{answer}
use Rattle.writer_cycle.specs.Places.{value_of, fields_of, item_of, ItemAt}
use Rattle.writer_cycle.proofs.ItemLaws.{emit_basic_lem, emit_maybe_lem, emit_structure_lem, emit_variant_lem}
use Rattle.container_depths.proofs.Levels.{raised_to}
use Rattle.writer_basic.proofs.Openings.{maybe_empty, maybe_neither, maybe_deep, maybe_on, array_not, array_deep, array_on, structure_not, structure_deep, structure_on, variant_not, variant_text_lem, variant_type_lem, variant_deep, variant_on}

-- ---- value, by the letter

-- the letters that are neither a basic type's nor a maybe's, an array's or a structure's
abbrev others : List ℕ
others = 0 ∷ 1 ∷ 5 ∷ 9 ∷ 10 ∷ 11 ∷ []

module _ (signature : List ℕ) (at : ℕ) (t : Typed signature at) (texts : List ℕ) (big : Bool) (d : ContainerDepths) (ns : List ℕ) (i start top : ℕ) (l l' s s' : List ℕ) (r : Answer) where
  abbrev Here : Type 0
  Here = Done (value_of texts big d.variant (tree_at signature at) (depths_of d) (drop i ns)) ns i start top l l' s s' r

  as_basic : (b : Basic) → tree_at signature at ≡ basic b → Done (emit_basic texts big b (depths_of d) (drop i ns)) ns i start top l l' s s' r → Here
  as_basic b e g =
      let q : value_of texts big d.variant (tree_at signature at) ≡ emit_basic texts big b = ap (λ u. value_of texts big d.variant u) e ∙ emit_basic_lem texts big (65 - d.variant) b in
      subst⁻¹ (λ (x : Builder Piece). Done (x (depths_of d) (drop i ns)) ns i start top l l' s s' r) q g

  -- a type that begins with one of those is a variant
  pub value_other : (k : Letter) → k ≡ letter_at signature at → OneOf others (tag_of the_type k) → Done (value_of texts big d.variant variant (depths_of d) (drop i ns)) ns i start top l l' s s' r → Here
  value_other k e h g = go (tree_at signature at) refl (shown signature at _ _ t.found)
    where
      tags : (x : Letter) → letter_at signature at ≡ x → OneOf others (tag_of the_type x)
      tags x q = subst (λ (x : Letter). OneOf others (tag_of the_type x)) (e ∙ q) h

      not_basic : (b : Basic) → OneOf others (tag_of the_type (basic_kind b)) → ⊥
      not_basic bool w = miss others 2 tt w
      not_basic (number c) w = miss others 3 tt w
      not_basic (text c) w = miss others 4 tt w

      go : (u : Tree) → tree_at signature at ≡ u → Shown signature at u (behind_by (first_type (drop at signature))) → Here
      go (basic b) q w = absurd (not_basic b (tags (basic_kind b) w.letter))
      go variant q w = rw q g
      go (maybe u) q w = absurd (miss others 6 tt (tags Maybe w.letter))
      go (array u) q w = absurd (miss others 7 tt (tags Array w.letter))
      go (dictionary b u) q w = absurd (miss others 7 tt (tags Array w.letter))
      go (structure us) q w = absurd (miss others 8 tt (tags OpenStructure w.letter))

module _ (signature : List ℕ) (at : ℕ) (t : Typed signature at) (texts : List ℕ) (big : Bool) (d : ContainerDepths) (ns : List ℕ) (i start top : ℕ) (l l' s : List ℕ) (r : Answer) where
  pub value_boolean : letter_at signature at ≡ Boolean → ((texts : List ℕ) (big : Bool) (d : Depths) (top : ℕ) (s : List ℕ) → Done (emit_basic texts big bool d (drop i ns)) ns i start top l l' s s r)
      → Here signature at t texts big d ns i start top l l' s s r
  value_boolean e g = as_basic signature at t texts big d ns i start top l l' s s r bool (is_boolean signature at _ _ t.found e).0 (g texts big (depths_of d) top s)

  pub value_number : (c w : ℕ) → letter_at signature at ≡ Number c w
      → ((n : NumberType) (texts : List ℕ) (d : Depths) (top : ℕ) (s : List ℕ) → c ≡ number_letter n → w ≡ number_width n → Done (emit_basic texts big (number n) d (drop i ns)) ns i start top l l' s s r)
      → Here signature at t texts big d ns i start top l l' s s r
  value_number c w e g = let m = is_number signature at _ _ c w t.found e in as_basic signature at t texts big d ns i start top l l' s s r (number m.it) m.type (g m.it texts (depths_of d) top s m.code_is m.width_is)

  pub value_text : (c : ℕ) → letter_at signature at ≡ Text c → ((n : TextType) (big : Bool) (d : Depths) (top : ℕ) (s : List ℕ) → c ≡ text_letter n → Done (emit_basic texts big (text n) d (drop i ns)) ns i start top l l' s s r)
      → Here signature at t texts big d ns i start top l l' s s r
  value_text c e g = let m = is_text_lem signature at _ _ c t.found e in as_basic signature at t texts big d ns i start top l l' s s r (text m.it) m.type (g m.it big (depths_of d) top s m.code_is)

pub number_aligned_at : (signature : List ℕ) (at : ℕ) → Typed signature at → (c w : ℕ) → letter_at signature at ≡ Number c w → Aligns w
number_aligned_at signature at t c w e = let m = is_number signature at _ _ c w t.found e in rw m.width_is (number_aligned m.it)

-- ---- maybe
module _ (text : List ℕ) (at : ℕ) (t : Typed text at) (e : letter_at text at ≡ Maybe) where
  module _ (texts : List ℕ) (big : Bool) (d : ContainerDepths) (ns : List ℕ) (i start top : ℕ) (l s : List ℕ) where
    maybe_is : value_of texts big d.variant (tree_at text at) ≡ emit_maybe (alignment (tree_at text (at + 1))) (fixed (tree_at text (at + 1))) (value_of texts big d.variant (tree_at text (at + 1)))
    maybe_is = ap (λ u. value_of texts big d.variant u) (maybe_tree text at t e) ∙ emit_maybe_lem texts big (65 - d.variant) (tree_at text (at + 1))

    as_maybe : (l' s' : List ℕ) (q : Answer) → Done (emit_maybe (alignment (tree_at text (at + 1))) (fixed (tree_at text (at + 1))) (value_of texts big d.variant (tree_at text (at + 1))) (depths_of d) (drop i ns)) ns i start top l l' s s' q
        → Done (value_of texts big d.variant (tree_at text at) (depths_of d) (drop i ns)) ns i start top l l' s s' q
    as_maybe l' s' q g = subst⁻¹ (λ (b : Builder Piece). Done (b (depths_of d) (drop i ns)) ns i start top l l' s s' q) maybe_is g

    pub value_nothing : PlainAt 78 ns i → Done (value_of texts big d.variant (tree_at text at) (depths_of d) (drop i ns)) ns i start top l l s s (answer 0 (i + 3) 0)
    value_nothing p = as_maybe l s _ (maybe_empty _ _ _ d ns i start top l s p)

    pub value_neither : NotPlain 78 ns i → NotPlain 109 ns i → Done (value_of texts big d.variant (tree_at text at) (depths_of d) (drop i ns)) ns i start top l l s s (answer 17 0 0)
    value_neither p q = as_maybe l s _ (maybe_neither _ _ _ d ns i start top l s l s p q)

    module _ (p : PlainAt 109 ns i) (r : Raised) (u : Raises (depths_of d) (opened Depth.maybe (depths_of d)) r) where
      pub value_maybe_deep : (r.refusal ≡ 0 → ⊥) → Done (value_of texts big d.variant (tree_at text at) (depths_of d) (drop i ns)) ns i start top l l s s (answer r.refusal 0 0)
      value_maybe_deep z = as_maybe l s _ (maybe_deep _ _ _ d ns i start top l s p r u l s z)

      pub value_present : (b : Bool) (c : Shape) (l' s' : List ℕ) (q : Answer) → b ≡ big → r.refusal ≡ 0 → c.at ≡ at + 1 → c.fixed ≡ fixed (tree_at text c.at)
          → Done (around_child (alignment (tree_at text c.at)) c.fixed (value_of texts b r.depths.variant (tree_at text c.at) (depths_of r.depths) (drop (i + 3) ns))) ns i start top l l' s s' q
          → Done (value_of texts big d.variant (tree_at text at) (depths_of d) (drop i ns)) ns i start top l l' s s' q
      value_present b c l' s' q o z k y g =
          let v : r.depths.variant ≡ d.variant = ap (λ (x : Depths). x.variant) (raised_to Depth.maybe d r u z) in
          let f : fixed (tree_at text (at + 1)) ≡ c.fixed = sym (y ∙ ap (λ (x : ℕ). fixed (tree_at text x)) k) in
          as_maybe l' s' q (maybe_on _ _ _ d ns i start top l s p r u l' s' q z (rw (← o, ← v, f, ← k) g))

-- ---- array
module _ (text shapes : List ℕ) (at : ℕ) (it : Item) (h : ItemAt text shapes at it) (texts : List ℕ) (big : Bool) (d : ContainerDepths) (w : d.variant ≤ 64) (ns : List ℕ) (i start top : ℕ) (l s : List ℕ) where
  as_array : (l' s' : List ℕ) (q : Answer) → Done (emit_array (item_kind it) it.alignment it.fixed (item_of texts big d.variant text it) (depths_of d) (drop i ns)) ns i start top l l' s s' q
      → Done (value_of texts big d.variant (tree_at text at) (depths_of d) (drop i ns)) ns i start top l l' s s' q
  as_array l' s' q g = subst⁻¹ (λ (b : Builder Piece). Done (b (depths_of d) (drop i ns)) ns i start top l l' s s' q) (h.body texts big d.variant w) g

  pub value_array_not : (kind : ℕ) → kind ≡ item_kind it → NotPlain kind ns i → Done (value_of texts big d.variant (tree_at text at) (depths_of d) (drop i ns)) ns i start top l l s s (answer 17 0 0)
  value_array_not kind e p = as_array l s _ (array_not (item_kind it) _ _ _ d ns i start top l s l s (rw e at p))

  module _ (kind : ℕ) (e : kind ≡ item_kind it) (p : PlainAt kind ns i) (r : Raised) (u : Raises (depths_of d) (opened Depth.array (depths_of d)) r) where
    pub value_array_deep : (r.refusal ≡ 0 → ⊥) → Done (value_of texts big d.variant (tree_at text at) (depths_of d) (drop i ns)) ns i start top l l s s (answer r.refusal 0 0)
    value_array_deep z = as_array l s _ (array_deep (item_kind it) _ _ _ d ns i start top l s (rw e at p) r u l s z)

    pub value_array : (b : Bool) (l' s' : List ℕ) (q : Answer) → b ≡ big → r.refusal ≡ 0 → Shorter (item_of texts b r.depths.variant text it (depths_of r.depths))
        → Done (mapped (array_piece (item_kind it) it.alignment it.fixed) (sealed (build_many (length (drop (i + 3) ns)) (item_of texts b r.depths.variant text it (depths_of r.depths)) (drop (i + 3) ns)))) ns i start top l l' s s' q
        → Done (value_of texts big d.variant (tree_at text at) (depths_of d) (drop i ns)) ns i start top l l' s s' q
    value_array b l' s' q o z sh g =
        let v : r.depths.variant ≡ d.variant = ap (λ (x : Depths). x.variant) (raised_to Depth.array d r u z) in
        as_array l' s' q (array_on (item_kind it) _ _ _ d ns i start top l s (rw e at p) r u l' s' q z (rw (← o, ← v) sh) (rw (← o, ← v) g))

-- ---- structure
module _ {text shapes : List ℕ} {c : Shape} (k : Described text shapes c) (e : letter_at text c.at ≡ OpenStructure) where
  module _ (texts : List ℕ) (big : Bool) (d : ContainerDepths) (w : d.variant ≤ 64) (ns : List ℕ) (i start top : ℕ) (l s : List ℕ) where
    structure_is : value_of texts big d.variant (tree_at text c.at) ≡ emit_structure c.alignment c.fixed (fields_of texts big d.variant (fields_at text (c.at + 1)))
    structure_is = ap (λ u. value_of texts big d.variant u) (structure_tree k e) ∙ emit_structure_lem texts big d.variant (fields_at text (c.at + 1)) w ∙ rw (structure_alignment k e, structure_fixed k e)

    as_structure : (l' s' : List ℕ) (q : Answer) → Done (emit_structure c.alignment c.fixed (fields_of texts big d.variant (fields_at text (c.at + 1))) (depths_of d) (drop i ns)) ns i start top l l' s s' q
        → Done (value_of texts big d.variant (tree_at text c.at) (depths_of d) (drop i ns)) ns i start top l l' s s' q
    as_structure l' s' q g = subst⁻¹ (λ (b : Builder Piece). Done (b (depths_of d) (drop i ns)) ns i start top l l' s s' q) structure_is g

    pub value_structure_not : NotPlain 40 ns i → Done (value_of texts big d.variant (tree_at text c.at) (depths_of d) (drop i ns)) ns i start top l l s s (answer 17 0 0)
    value_structure_not p = as_structure l s _ (structure_not _ _ _ d ns i start top l s l s p)

    module _ (p : PlainAt 40 ns i) (r : Raised) (u : Raises (depths_of d) (opened Depth.structure (depths_of d)) r) where
      pub value_structure_deep : (r.refusal ≡ 0 → ⊥) → Done (value_of texts big d.variant (tree_at text c.at) (depths_of d) (drop i ns)) ns i start top l l s s (answer r.refusal 0 0)
      value_structure_deep z = as_structure l s _ (structure_deep _ _ _ d ns i start top l s p r u l s z)

      pub value_structure : (b : Bool) (l' s' : List ℕ) (q : Answer) → b ≡ big → r.refusal ≡ 0
          → Done (mapped (structure_piece c.alignment c.fixed) (sealed (fields_of texts b r.depths.variant (fields_at text (c.at + 1)) (depths_of r.depths) (drop (i + 3) ns)))) ns i start top l l' s s' q
          → Done (value_of texts big d.variant (tree_at text c.at) (depths_of d) (drop i ns)) ns i start top l l' s s' q
      value_structure b l' s' q o z g =
          let v : r.depths.variant ≡ d.variant = ap (λ (x : Depths). x.variant) (raised_to Depth.structure d r u z) in
          as_structure l' s' q (structure_on _ _ _ d ns i start top l s p r u l' s' q z (rw (← o, ← v) g))

-- ---- variant
module _ (texts : List ℕ) (big : Bool) (d : ContainerDepths) (w : d.variant ≤ 64) (ns : List ℕ) (i start top : ℕ) (l s : List ℕ) where
  as_variant : (l' s' : List ℕ) (q : Answer) → Done (emit_variant texts big (λ u. emit texts big (64 - d.variant) u) (depths_of d) (drop i ns)) ns i start top l l' s s' q
      → Done (value_of texts big d.variant variant (depths_of d) (drop i ns)) ns i start top l l' s s' q
  as_variant l' s' q g = subst⁻¹ (λ (b : Builder Piece). Done (b (depths_of d) (drop i ns)) ns i start top l l' s s' q) (emit_variant_lem texts big d.variant w) g

  pub value_variant_not : NotPlain 118 ns i → Done (value_of texts big d.variant variant (depths_of d) (drop i ns)) ns i start top l l s s (answer 17 0 0)
  value_variant_not p = as_variant l s _ (variant_not texts big _ d ns i start top l s l s p)

  module _ (p : PlainAt 118 ns i) where
    pub value_variant_text : (n : ℕ) → Untaken texts 103 ns (i + 3) n → Done (value_of texts big d.variant variant (depths_of d) (drop i ns)) ns i start top l l s s (answer n 0 0)
    value_variant_text n u = as_variant l s _ (variant_text_lem texts big _ d ns i start top l s p n l s u)

    module _ (part : List ℕ) (t : Taken texts 103 ns (i + 3) part) where
      pub value_variant_type : is_type part ≡ false → Done (value_of texts big d.variant variant (depths_of d) (drop i ns)) ns i start top l l s s (answer 9 0 0)
      value_variant_type e = as_variant l s _ (variant_type_lem texts big _ d ns i start top l s p part t l s (judged_none _ e))

      module _ (e : is_type part ≡ true) (r : Raised) (h : Raises (depths_of d) (opened Depth.variant (depths_of d)) r) where
        pub value_variant_deep : (r.refusal ≡ 0 → ⊥) → Done (value_of texts big d.variant variant (depths_of d) (drop i ns)) ns i start top l l s s (answer r.refusal 0 0)
        value_variant_deep z = as_variant l s _ (variant_deep texts big _ d ns i start top l s p part t _ (front _ e).type r h l s z)

        -- the type stands at the front of its text, as the code has it
        pub value_variant_on : (b : Bool) (x : ℕ) (l' s' : List ℕ) (q : Answer) → b ≡ big → x ≡ 0 → r.refusal ≡ 0
            → Done (around_value (tree_at part x) (value_of texts b r.depths.variant (tree_at part x) (depths_of r.depths) (drop (i + 6) ns))) ns i start top l l' s s' q
            → Done (value_of texts big d.variant variant (depths_of d) (drop i ns)) ns i start top l l' s s' q
        value_variant_on b x l' s' q m o z g =
            let v : r.depths.variant ≡ d.variant + 1 = ap (λ (x : Depths). x.variant) (raised_to Depth.variant d r h z) in
            let y : 65 - r.depths.variant ≡ 64 - d.variant = omega arith in
            as_variant l' s' q (variant_on texts big _ d ns i start top l s p part t _ (front _ e).type r h l' s' q z (rw (m, o, y) at g))

pub structure_structured : (a : ℕ) (fx : Bool) → Structured a fx (structure_piece a fx)
unfolding structure_piece
structure_structured a fx = record { bytes_are = λ cs. refl }

-- a text that is one type is that type's text
pub front_spells : (l : List ℕ) → is_type l ≡ true → (x : ℕ) → x ≡ 0 → type_text (tree_at l x) ≡ l
front_spells l h x e = rw e (sym (type_of_sound l (tree_at l 0) (front l h).type).is)
