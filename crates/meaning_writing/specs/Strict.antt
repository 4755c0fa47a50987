-- The strict test: which bytes are a written form. It goes over the bytes once and keeps nothing; it does not go by the byte order.
-- Assumes nothing: these are definitions.
use Rattle.std.specs.Prelude.{List, [], ◌∷◌, Bool, true, false, ◌&&◌, ℕ, zero, suc, ◌+◌, ◌-◌, ◌*◌, ◌/◌, leb, eqb, length, take, drop, get_or}
use Rattle.std.proofs.Math.Option.{Option, none, some}
use Rattle.meaning.specs.Choice.{pick}
use Rattle.meaning.specs.Numbers.{value}
use Rattle.meaning.specs.Padding.{padding}
use Rattle.meaning.specs.Offsets.{encoded_width, written_width, last_offset}
use Rattle.meaning.specs.Texts.{text_refusal}
use Rattle.meaning.specs.Depths as Depth
use Rattle.meaning.specs.Depths.{Depths, opened}
use Rattle.meaning.specs.Types.{Basic, bool, number, text, Tree, Fields, basic, variant, maybe, array, dictionary, structure, last, next, number_width, alignment, largest_alignment, fixed, all_fixed, entry_alignment, entry_fixed}
use Rattle.meaning.specs.TypeText.{type_of}
use Rattle.meaning.specs.Written.{deeper}
use Rattle.meaning.specs.Reading.{separator}
use Rattle.meaning_writing.specs.Shapes.{Shape, shape_of, basic_shape, behind_padding, fixed_end, offset_count, last_end, field_end, offsets_left, structure_shape, part}

unfoldable pub all_zero : List ℕ → Bool
all_zero [] = true
all_zero (x ∷ l) = eqb x 0 && all_zero l

-- Of a type: its shape, and whether bytes are the written form of a value of it that may be read where so many containers are open.
pub record Test : Type 0 where
  pub shape : Shape
  pub accepts : Depths → List ℕ → Bool

abbrev pub test_shapes : List Test → List Shape
test_shapes [] = []
test_shapes (t ∷ ts) = t.shape ∷ test_shapes ts

-- basic values: a bool is 0 or 1, a number has its width, a text ends in its one nul
unfoldable pub basic_written : Basic → List ℕ → Bool
basic_written bool l = eqb (length l) 1 && leb (get_or l 0 0) 1
basic_written (number c) l = eqb (length l) (number_width c)
basic_written (text c) l = leb 1 (length l) && (eqb (get_or l (length l - 1) 1) 0 && eqb (text_refusal (take (length l - 1) l)) 0)

unfoldable pub basic_test : Basic → Test
basic_test b = record { shape = basic_shape b; accepts = λ d l. basic_written b l }

-- a maybe: nothing is no byte; a child that is fixed fills the part, another has a byte of 0 behind it
unfoldable pub present_written : Bool → Test → List ℕ → Depths → Bool
present_written true t l d = t.accepts d l
present_written false t l d = eqb (get_or l (length l - 1) 1) 0 && t.accepts d (take (length l - 1) l)

unfoldable pub maybe_written : Bool → Test → Depths → List ℕ → Bool
maybe_written fx t d l = pick (eqb (length l) 0) true (deeper (opened Depth.maybe d) (present_written fx t l))

unfoldable pub maybe_test : ℕ → Bool → Test → Test
maybe_test a fx t = record { shape = shape_of a false 0; accepts = λ d l. maybe_written fx t d l }

-- a child of l behind its padding at the place k, which ends at e, and not behind s
unfoldable pub child_written : Test → Depths → List ℕ → ℕ → ℕ → ℕ → Bool
child_written t d l s k e =
    leb (behind_padding k t.shape) e
    && (leb e s
    && (all_zero (part k (behind_padding k t.shape) l)
    && t.accepts d (part (behind_padding k t.shape) e l)))

-- where an element ends: one that is fixed at x, another where the offset of width w at the place j says
unfoldable pub element_end : Bool → List ℕ → ℕ → ℕ → ℕ → ℕ
element_end true l w j x = x
element_end false l w j x = value (part j (j + w) l)

-- so many elements from the place k on, their offsets from j on; the last ends at s
module _ (fx : Bool) (t : Test) (d : Depths) (l : List ℕ) (w s : ℕ) where
  unfoldable pub elements_written : ℕ → ℕ → ℕ → Bool
  elements_written zero j k = eqb k s
  elements_written (suc m) j k =
      child_written t d l s k (element_end fx l w j (fixed_end k t.shape))
      && elements_written m (j + w) (element_end fx l w j (fixed_end k t.shape))

-- a table of m offsets of the smallest fitting width, behind a body of s bytes
unfoldable pub table_written : Test → Depths → List ℕ → ℕ → ℕ → ℕ → Bool
table_written t d l w s m = eqb (s + m * w) (length l) && (eqb (written_width s m) w && elements_written false t d l w s m s 0)

unfoldable pub array_written : Bool → Test → List ℕ → Depths → Bool
array_written true t l d = elements_written true t d l 0 (length l) (length l / t.shape.size) 0 0
array_written false t l d =
    table_written t d l (encoded_width (length l)) (last_offset (encoded_width (length l)) l)
    ((length l - last_offset (encoded_width (length l)) l) / encoded_width (length l))

unfoldable pub array_test : ℕ → Bool → Test → Test
array_test a fx t =
    record { shape = shape_of a false 0; accepts = λ d l. deeper (opened Depth.array d) (array_written fx t l) }

-- behind the last field: of a structure that is fixed, zeros up to its alignment; of another, nothing up to the offsets at b
unfoldable pub fields_finished : Bool → ℕ → ℕ → ℕ → List ℕ → Bool
fields_finished true a k b l = eqb (k + padding k a) b && all_zero (part k b l)
fields_finished false a k b l = eqb k b

-- fields from the place k on, their offsets up to e; the offsets begin at b
module _ (fx : Bool) (a : ℕ) (d : Depths) (l : List ℕ) (b w : ℕ) where
  unfoldable pub fields_written : List Test → ℕ → ℕ → Bool
  fields_written [] k e = false
  fields_written (t ∷ []) k e =
      child_written t d l b k (last_end t.shape.fixed (fixed_end k t.shape) b)
      && fields_finished fx a (last_end t.shape.fixed (fixed_end k t.shape) b) b l
  fields_written (t ∷ u ∷ ts) k e =
      child_written t d l b k (field_end t.shape.fixed l w e (fixed_end k t.shape))
      && fields_written (u ∷ ts) (field_end t.shape.fixed l w e (fixed_end k t.shape)) (offsets_left t.shape.fixed w e)

-- with n offsets of the smallest fitting width
unfoldable pub offsets_written : Bool → ℕ → List Test → List ℕ → Depths → ℕ → ℕ → Bool
offsets_written fx a ts l d w n =
    leb (n * w) (length l)
    && (eqb (written_width (length l - n * w) n) w && fields_written fx a d l (length l - n * w) w ts 0 (length l))

unfoldable pub structure_written : Bool → ℕ → List Test → List ℕ → Depths → Bool
structure_written fx a ts l d = offsets_written fx a ts l d (encoded_width (length l)) (offset_count (test_shapes ts))

unfoldable pub structure_test : ℕ → Bool → List Test → Test
structure_test a fx ts = record {
  shape = structure_shape a fx (test_shapes ts);
  accepts = λ d l. deeper (opened Depth.structure d) (structure_written fx a ts l);
}

-- a dictionary's entry: as a structure, without a depth of its own
unfoldable pub entry_test : ℕ → Bool → List Test → Test
entry_test a fx ts =
    record { shape = structure_shape a fx (test_shapes ts); accepts = λ d l. structure_written fx a ts l d }

-- a variant: the value, the last nul, and the text of a type; s is the number of bytes up to that nul, itself counted
unfoldable pub typed_written : (Tree → Test) → Depths → List ℕ → ℕ → Option Tree → Bool
typed_written test d l s none = false
typed_written test d l s (some t) = deeper (opened Depth.variant d) (λ e. (test t).accepts e (take (s - 1) l))

unfoldable pub variant_written : (Tree → Test) → Depths → List ℕ → ℕ → Bool
variant_written test d l s = pick (eqb s 0) false (typed_written test d l s (type_of (drop s l)))

unfoldable pub variant_test : (Tree → Test) → Test
variant_test test = record { shape = shape_of 8 false 0; accepts = λ d l. variant_written test d l (separator l) }

-- no variant is accepted
abbrev pub no_variant : Test
no_variant = record { shape = shape_of 8 false 0; accepts = λ d l. false }

module _ (variants : Test) where
  unfoldable mutual
    pub test_over : Tree → Test
    test_over (basic b) = basic_test b
    test_over variant = variants
    test_over (maybe t) = maybe_test (alignment t) (fixed t) (test_over t)
    test_over (array t) = array_test (alignment t) (fixed t) (test_over t)
    test_over (dictionary b t) =
        array_test (entry_alignment b t) (entry_fixed b t)
        (entry_test (entry_alignment b t) (entry_fixed b t) (basic_test b ∷ test_over t ∷ []))
    test_over (structure ts) = structure_test (largest_alignment ts) (all_fixed ts) (tests_over ts)

    pub tests_over : Fields → List Test
    tests_over (last t) = test_over t ∷ []
    tests_over (next t ts) = test_over t ∷ tests_over ts

unfoldable pub test_of : ℕ → Tree → Test
test_of zero t = test_over no_variant t
test_of (suc n) t = test_over (variant_test (λ u. test_of n u)) t

-- the test of variants, and those of fields, where so many may stand one inside another
unfoldable pub variants_test : ℕ → Test
variants_test zero = no_variant
variants_test (suc n) = variant_test (λ u. test_of n u)

abbrev pub tests_of : ℕ → Fields → List Test
tests_of n ts = tests_over (variants_test n) ts

-- THE STRICT TEST: bytes are the written form of a value of a type, with at most n variants one inside another, that may be read where
-- so many containers are open
unfoldable pub is_written : ℕ → Tree → Depths → List ℕ → Bool
is_written n t d l = (test_of n t).accepts d l
