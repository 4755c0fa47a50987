-- A law for each way out of a value and of a container, and what tells the containers apart. Assumes nothing.
use Rattle.std.proofs.Common.{◌≡◌, ℕ, zero, suc, ◌+◌, ◌-◌, ◌≤◌, Bool, List, length, refl, arith}
use Rattle.meaning.specs.Types.{Number as NumberType, Text as TextType, number_width, Basic, number, text, Tree, basic, variant, maybe, array, dictionary, structure, alignment}
use Rattle.meaning.specs.Letters.{number_letter, text_letter}
use Rattle.meaning.specs.Outcome.{chain}
use Rattle.meaning.specs.Reading.{read_number, read_text, read_basic, pad, read_maybe, read_tree, read_variant, read_array, read_structure, reading}
use Rattle.meaning.specs.Padding.{Aligns}
use Rattle.meaning.proofs.TypeLaws.{number_aligned as aligned_number}
use Rattle.container_depths.specs.Opening.{depths_of}
use Rattle.de.specs.Parts.{padding_at}
use Rattle.utils.specs.Checks as leafs
use Rattle.container_depths.specs.declared.ContainerDepths.{ContainerDepths}
use Rattle.signature.specs.Places.{letter_at}
use Rattle.signature.specs.declared.Letter.TheVariants.{Text, Variant}
use Rattle.signature.specs.declared.shapes.Shape.{Shape}
use Rattle.signature.specs.Trees.{tree_at, Typed, Described}
use Rattle.signature.proofs.TreeLaws.{described_alignment, described_aligned}
use Rattle.signature.proofs.Dispatch.{is_text_lem, is_variant}
use Rattle.reader_basic.specs.Answers.{Done}
use Rattle.reader_steps.specs.Places.{Contains, reader_of, body_in}
use Rattle.reader_basic.specs.Parts.{Within}
use Rattle.meaning.specs.Calls.{Counts}
use Rattle.reader_basic.proofs.Answers.{answer, both, stopped}
use Rattle.reader_basic.proofs.Leaves.{Pads, pads_first, pads_done}
use Rattle.reader_steps.proofs.Deepening.{few_variants}

-- ---- the reading of a type, one step

pub reading_basic : (position : ℕ) (big : Bool) (n : ℕ) (b : Basic) → reading position big n (basic b) ≡ read_basic position big b
unfolding reading read_tree
reading_basic position big zero b = refl
reading_basic position big (suc n) b = refl

pub number_by : (position : ℕ) (big : Bool) (n c w : ℕ) (t : Tree) (it : NumberType) → t ≡ basic (number it) → c ≡ number_letter it → w ≡ number_width it → reading position big n t ≡ read_number position big c w
unfolding read_basic
number_by position big n c w t it e f g = rw (e, f, g) (reading_basic position big n (number it))

text_by : (position : ℕ) (big : Bool) (n c : ℕ) (t : Tree) (it : TextType) → t ≡ basic (text it) → c ≡ text_letter it → reading position big n t ≡ read_text c
unfolding read_basic
text_by position big n c t it e f = rw (e, f) (reading_basic position big n (text it))

pub width_by_lem : (w : ℕ) (it : NumberType) → w ≡ number_width it → Aligns w
width_by_lem w it e = rw e (aligned_number it)

-- by the letter that stands there
module _ (text : List ℕ) (at : ℕ) (t : Typed text at) (position : ℕ) (big : Bool) (nested : ℕ) where
  pub reads_text : (c : ℕ) → letter_at text at ≡ Text c → reader_of position big nested (tree_at text at) ≡ read_text c
  reads_text c e = let n = is_text_lem text at _ _ c t.found e in text_by position big (65 - nested) c (tree_at text at) n.it n.type n.code_is

-- a container: padding, and what stands in it
body_at : (position : ℕ) (big : Bool) (v m n : ℕ) (d : ContainerDepths) (t : Tree) (k : ℕ) (l : List ℕ) → Contains t → m ≡ suc n → m ≡ 65 - v → n ≡ 64 - v
    → reading position big m t (depths_of d) k l ≡ chain (pad position (alignment t) k l) (body_in position big v t d k l)
unfolding reading read_tree read_maybe read_array read_structure read_variant body_in alignment chain
body_at position big v m n d (basic b) k l c e f g = absurd c
body_at position big v m n d variant k l c e f g = rw (e, ← g) refl
body_at position big v m n d (maybe t) k l c e f g = rw (← f, e) refl
body_at position big v m n d (array t) k l c e f g = rw (← f, e) refl
body_at position big v m n d (dictionary b t) k l c e f g = rw (← f, e) refl
body_at position big v m n d (structure ts) k l c e f g = rw (e, ← g) refl

pub container_reads : (position : ℕ) (big : Bool) (d : ContainerDepths) (t : Tree) (k : ℕ) (l : List ℕ) → Contains t → d.variant ≤ 64
    → reader_of position big d.variant t (depths_of d) k l ≡ chain (pad position (alignment t) k l) (body_in position big d.variant t d k l)
container_reads position big d t k l c h = body_at position big d.variant (65 - d.variant) (64 - d.variant) d t k l c (omega arith) refl refl

-- the ways out of container
module _ (text shapes : List ℕ) (s : Shape) (part : List ℕ) (place position : ℕ) (big : Bool) (d : ContainerDepths) (n : ℕ) (l : List ℕ) (p : leafs.Checked)
    (t : Described text shapes s) (w : Within (length part) place position d) (c : Contains (tree_at text s.at)) (q : p ≡ padding_at (position + place) 0 s.alignment part) where
  container_pads : Pads (pad position (alignment (tree_at text s.at)) place part) (length part) p
  container_pads =
      let a = w.in_frame in
      let b = w.near in
      rw (← described_alignment t) (pads_first position place s.alignment part p (described_aligned t) (omega arith) q)

  pub lead_fits : p.value ≤ length part
  lead_fits = container_pads.fits

  pub container_stop : (p.refusal ≡ 0 → ⊥) → Done (reader_of position big d.variant (tree_at text s.at) (depths_of d) place part) (length part) (length part) n l l (answer p.refusal 0 n)
  container_stop z =
      rw (container_reads position big d (tree_at text s.at) place part c (few_variants w))
      (let g = pads_done n l container_pads in
      let e = container_pads.none_used z in
      stopped (length part) (length part) (length part) (length part) n l l _ (body_in position big d.variant (tree_at text s.at) d place part) (answer p.refusal 0 n) z (omega arith) (rw e at g))

  pub container_on : (l' : List ℕ) (r : Counts) → p.refusal ≡ 0 → Done (body_in position big d.variant (tree_at text s.at) d place part p.value) (length part - p.value) (length part - p.value) n l l' r
      → Done (reader_of position big d.variant (tree_at text s.at) (depths_of d) place part) (length part) (length part) n l l' (answer r.refusal (p.value + r.used) r.count)
  container_on l' r z g =
      let f = container_pads.fits in
      rw (container_reads position big d (tree_at text s.at) place part c (few_variants w))
      (both (length part) (length part) (length part - p.value) (length part) (length part) (length part - p.value) n l l l' _ (body_in position big d.variant (tree_at text s.at) d place part) (answer p.refusal p.value n) r z (omega arith) (omega arith)
      (pads_done n l container_pads) g)

-- ---- what stands in a container

pub reads_variant : (signature : List ℕ) (at : ℕ) → Typed signature at → letter_at signature at ≡ Variant → tree_at signature at ≡ variant
reads_variant signature at t e = (is_variant signature at _ _ t.found e).0

pub body_variant : (signature : List ℕ) (at position : ℕ) (big : Bool) (d : ContainerDepths) (k : ℕ) (part : List ℕ) (lead end len n : ℕ) (l l' : List ℕ) (r : Counts) → tree_at signature at ≡ variant
    → Done (body_in position big d.variant variant d k part lead) end len n l l' r → Done (body_in position big d.variant (tree_at signature at) d k part lead) end len n l l' r
body_variant signature at position big d k part lead end len n l l' r e g = rw e g

-- ---- what callees ask
