-- What the small functions of the strict test answer: basic values, readings, and types of one letter. Assumes nothing: these are
-- definitions.
use Rattle.std.specs.Prelude.{◌≡◌, List, Bool, true, false, ◌&&◌, ℕ, eqb, length, get_or}
use Rattle.std.proofs.Math.Option.{some}
use Rattle.meaning.specs.Choice.{pick}
use Rattle.meaning.specs.Depths as Depth
use Rattle.meaning.specs.Depths.{Depths, depth_refusal, opened}
use Rattle.meaning.specs.Types.{Basic, string, bool, text, basic}
use Rattle.meaning.specs.TypeText.{type_of}
use Rattle.meaning_writing.specs.Shapes.{shape_of}
use Rattle.meaning_writing.specs.Strict.{Test, basic_written}
use Rattle.signature.specs.Places.{basic_kind}
use Rattle.signature.specs.declared.Letter.{Letter}
use Rattle.signature.specs.declared.Letter.TheVariants.{End, Bad, Boolean, Number, Text as Texts, Variant, Maybe, Array, OpenStructure, CloseStructure, OpenEntry, CloseEntry}
use Rattle.strict_ends.specs.declared.Extent.{Extent}
use Rattle.strict_ends.specs.Ends.{extent, shaped}

-- basic values by their letter; what is no letter of one counts as a bool
abbrev pub bool_written : List ℕ → Bool
bool_written l = basic_written bool l

abbrev pub text_written : List ℕ → Bool
text_written l = basic_written (text string) l

abbrev pub letter_written : Letter → List ℕ → Bool
letter_written End l = bool_written l
letter_written Bad l = bool_written l
letter_written Boolean l = bool_written l
letter_written (Number c w) l = eqb (length l) w
letter_written (Texts c) l = text_written l
letter_written Variant l = bool_written l
letter_written Maybe l = bool_written l
letter_written Array l = bool_written l
letter_written OpenStructure l = bool_written l
letter_written CloseStructure l = bool_written l
letter_written OpenEntry l = bool_written l
letter_written CloseEntry l = bool_written l

abbrev pub letter_extent : Letter → Extent
letter_extent End = extent 1 true 1
letter_extent Bad = extent 1 true 1
letter_extent Boolean = extent 1 true 1
letter_extent (Number c w) = extent w true w
letter_extent (Texts c) = extent 1 false 0
letter_extent Variant = extent 1 true 1
letter_extent Maybe = extent 1 true 1
letter_extent Array = extent 1 true 1
letter_extent OpenStructure = extent 1 true 1
letter_extent CloseStructure = extent 1 true 1
letter_extent OpenEntry = extent 1 true 1
letter_extent CloseEntry = extent 1 true 1

unfoldable pub letter_test : Letter → Test
letter_test k = record { shape = shaped (letter_extent k); accepts = λ d l. letter_written k l }

unfoldable pub text_test : Test
text_test = record { shape = shape_of 1 false 0; accepts = λ d l. text_written l }

-- whether a letter is a basic type's
abbrev pub is_basic : Letter → Bool
is_basic End = false
is_basic Bad = false
is_basic Boolean = true
is_basic (Number c w) = true
is_basic (Texts c) = true
is_basic Variant = false
is_basic Maybe = false
is_basic Array = false
is_basic OpenStructure = false
is_basic CloseStructure = false
is_basic OpenEntry = false
is_basic CloseEntry = false

-- a reading, which is a maybe of a number of a width: no byte, or so many where one more maybe may be open
abbrev pub may_open : Depths → Bool
may_open d = eqb (depth_refusal (opened Depth.maybe d)) 0

abbrev pub reading_of : Bool → ℕ → ℕ → Bool
reading_of room w n = pick (eqb n 0) true (room && eqb n w)

unfoldable pub reading_test : ℕ → Test
reading_test w = record { shape = shape_of w false 0; accepts = λ d l. reading_of (may_open d) w (length l) }

-- what a test answers of bytes is what the test of elements of an alignment says, where so many containers are open
pub record Judges (answers : List ℕ → Bool → Type 0) (a : ℕ) (t : Test) (d : Depths) : Type 0 where
  pub aligned : t.shape.alignment ≡ a
  pub same : (l : List ℕ) (b : Bool) → answers l b → b ≡ t.accepts d l

-- a text that is one basic letter
pub record LoneType (l : List ℕ) (k : Letter) : Type 0 where
  pub it : Basic
  pub type : type_of l ≡ some (basic it)
  pub same : k ≡ basic_kind it

-- a text that is a variant's letter alone
abbrev pub lone_variant : List ℕ → Bool
lone_variant l = eqb (length l) 1 && eqb (get_or l 0 0) 118
