-- The reading rules of document 01. Assumes nothing: these are definitions.
--
-- The letters, here and wherever a reading is spoken of:
--   d  the containers that are open                     k  the place in the frame where the part begins
--   l  the part, as bytes                               n  the padding in front of a container, in bytes
--   j  the place in the part where a child begins       e  the place in the part where it ends, or a table's end
--   b  the place in the part where a body ends          u  the bytes used so far
--   w  a width                                          a  an alignment
--   fx whether something is fixed in size, fk a key     t  a type, or a table
use Rattle.std.specs.Prelude.{List, [], ◌∷◌, Bool, true, false, ◌&&◌, ◌||◌, ℕ, zero, suc, ◌+◌, ◌-◌, leb, ltb, eqb, length, take, drop, get_or}
use Rattle.std.proofs.Math.Option.{Option, none, some}
use Rattle.meaning.specs.Choice.{pick}
use Rattle.meaning.specs.Refusals.{out_of_bounds, padding_not_zero, maybe_end_not_zero, no_separator, variant_type_refused, containers_too_deep}
use Rattle.meaning.specs.Numbers.{spelled}
use Rattle.meaning.specs.Padding.{padding, leading_zeros}
use Rattle.meaning.specs.Offsets.{Table, encoded_width, offset_before, last_offset, table_of, ends_of, table_stands}
use Rattle.meaning.specs.Texts.{without_final_nul, text_refusal}
use Rattle.meaning.specs.Depths as Depth
use Rattle.meaning.specs.Depths.{Depths, depth_refusal, opened}
use Rattle.meaning.specs.Types.{Basic, bool, number, text, Tree, Fields, basic, variant, maybe, array, dictionary, structure, last, next, number_width, basic_fixed, alignment, largest_alignment, fixed, all_fixed, entry_alignment, entry_fixed}
use Rattle.meaning.specs.Letters.{bool_letter, number_letter, text_letter, signature_letter, variant_letter, array_letter, dictionary_letter, structure_letter}
use Rattle.meaning.specs.TypeText.{type_of}
use Rattle.meaning.specs.Events.{event, text_event, present, nothing}
use Rattle.meaning.specs.Outcome.{Outcome, outcome, done, refused, after, chain, unused, passing, enclosed}

-- A reader answers for a part of the frame: from the containers that are open, the place of the part's first byte, and the part.
abbrev pub Reader : Type 0
Reader = Depths → ℕ → List ℕ → Outcome

-- A child is read from the part that begins at the present place j and runs to its end e. An end past the part or before the place is 3.
unfoldable pub child : (ℕ → List ℕ → Outcome) → ℕ → List ℕ → ℕ → ℕ → Outcome
child read k l j e = pick (leb j e && leb e (length l)) (read (k + j) (take (e - j) (drop j l))) (refused out_of_bounds (k + j))

-- one more container is open; the place is its first byte after padding
unfoldable pub within : Depths → ℕ → (Depths → Outcome) → Outcome
within d p inside = pick (eqb (depth_refusal d) 0) (inside d) (refused (depth_refusal d) p)

-- n bytes of padding in front of l, which begins at the place k: first too short (3), then not 0 (4)
unfoldable pub padding_of : ℕ → ℕ → List ℕ → Outcome
padding_of n k l =
    pick (ltb (length l) n) (refused out_of_bounds (k + length l))
    (pick (ltb (leading_zeros l) n) (refused padding_not_zero (k + leading_zeros l))
    (done n []))

-- texts take their whole part; 5 comes before 6
unfoldable pub text_as : ℕ → ℕ → List ℕ → Outcome
text_as kind k t = pick (eqb (text_refusal t) 0) (done 0 (text_event kind k t ∷ [])) (refused (text_refusal t) k)

unfoldable pub read_text : ℕ → Reader
read_text kind d k l = after (length l) [] (text_as kind k (without_final_nul l))

-- bool takes no padding, and any byte but 0 is true
unfoldable pub read_bool : Reader
read_bool d k l = pick (eqb (length l) 0) (refused out_of_bounds k) (done 1 (event bool_letter k (pick (eqb (get_or l 0 0) 0) 0 1) ∷ []))

-- a number of a kind and a width, behind n bytes of padding
unfoldable pub number_in : Bool → ℕ → ℕ → ℕ → List ℕ → ℕ → Outcome
number_in big kind w k l n =
    pick (leb (n + w) (length l)) (done w (event kind (k + n) (spelled big w n l) ∷ [])) (refused out_of_bounds (k + n))

-- the byte where a maybe's child stopped must be 0
unfoldable pub end_byte : ℕ → List ℕ → ℕ → ℕ → Outcome
end_byte k l n u = pick (eqb (get_or l (n + u) 1) 0) (done 1 []) (refused maybe_end_not_zero (k + (n + u)))

-- a maybe's child behind n bytes of padding; one that is not fixed has the part less one byte
unfoldable pub present_in : Bool → Reader → ℕ → List ℕ → ℕ → Depths → Outcome
present_in fx read k l n d =
    after 0 (present (k + n) ∷ [])
    (pick fx (child (read d) k l n (length l)) (chain (child (read d) k l n (length l - 1)) (end_byte k l n)))

-- nothing if no byte is left, without depth
unfoldable pub maybe_in : Bool → Reader → Depths → ℕ → List ℕ → ℕ → Outcome
maybe_in fx read d k l n =
    pick (leb (length l) n) (done 0 (nothing (k + n) ∷ []))
    (within (opened Depth.maybe d) (k + n) (present_in fx read k l n))

-- what goes on u bytes further
abbrev pub further : (ℕ → Outcome) → ℕ → ℕ → Outcome
further rest j u = rest (j + u)

-- Elements one behind another; step j e reads one from the place j on, which ends at e or before. Fixed in size: until the end is
-- reached. Each uses a byte, so as many steps as there are bytes are enough; to run out of them would be 3, and is never met.
unfoldable pub elements : ℕ → (ℕ → ℕ → Outcome) → ℕ → ℕ → Outcome
elements zero step e j = pick (leb e j) (done 0 []) (refused out_of_bounds 0)
elements (suc n) step e j = pick (leb e j) (done 0 []) (chain (step j e) (further (elements n step e) j))

-- not fixed: by the ends of a table, which count from n. The next element starts where reading stopped.
unfoldable pub elements_to : (ℕ → ℕ → Outcome) → ℕ → List ℕ → ℕ → Outcome
elements_to step n [] j = done 0 []
elements_to step n (e ∷ es) j = chain (step j (n + e)) (further (elements_to step n es) j)

-- a step of an array or dictionary, from what is open, the place, the part and the end of the body
abbrev pub Step : Type 0
Step = Depths → ℕ → List ℕ → ℕ → ℕ → ℕ → Outcome

-- the contents behind n bytes of padding, with the table t: its length is added to the place
unfoldable pub tabled : ℕ → Step → ℕ → List ℕ → ℕ → Depths → Table → Outcome
tabled kind step k l n d t =
    pick (table_stands t (drop n l))
    (enclosed kind (k + n)
    (chain (elements_to (step d k l (n + t.start)) n (ends_of t (drop n l)) n) (passing (length l - (n + t.start)))))
    (refused out_of_bounds (k + n))

unfoldable pub array_body : ℕ → Bool → Step → ℕ → List ℕ → ℕ → Depths → Outcome
array_body kind true step k l n d = enclosed kind (k + n) (elements (length l) (step d k l (length l)) (length l) n)
array_body kind false step k l n d = tabled kind step k l n d (table_of (drop n l))

unfoldable pub array_in : ℕ → Bool → Step → Depths → ℕ → List ℕ → ℕ → Outcome
array_in kind fx step d k l n = within (opened Depth.array d) (k + n) (array_body kind fx step k l n)

unfoldable pub child_step : Reader → Step
child_step read d k l b = child (read d) k l

-- a structure's field: whether it is fixed, and its reader
pub record Field : Type 0 where
  pub fixed : Bool
  pub reader : Reader

-- The offset of width w before the end e of a structure's table, over a part whose structure begins at n; e counts leading padding.
-- An empty table reads 0, and then a width above the end is 3; a table end before the start is 3, and so is a short piece.
unfoldable pub offset_stands : ℕ → ℕ → ℕ → Bool
offset_stands n w e = leb n e && (leb w e && (eqb e n || leb (n + w) e))

unfoldable pub field_offset : ℕ → ℕ → ℕ → List ℕ → ℕ
field_offset n w e l = pick (eqb e n) 0 (offset_before w e l)

-- an outcome whose padding at the end was judged, whatever the outcome: the padding's 3 or 4 goes first
unfoldable pub padded : Outcome → Outcome → Outcome
padded o p =
    pick (eqb p.refusal 0) (outcome o.refusal (o.used + p.used) o.place o.events)
    (outcome p.refusal o.used p.place o.events)

-- A separator is the last nul from n on, but before the final byte: the number of bytes up to it, itself counted, or 0.
unfoldable pub last_nul : ℕ → List ℕ → ℕ
last_nul zero l = 0
last_nul (suc i) l = pick (eqb (get_or l i 1) 0) (suc i) (last_nul i l)

abbrev pub separator : List ℕ → ℕ
separator l = last_nul (length l - 1) l

-- all of a variant is used
abbrev pub remaining : ℕ → ℕ → Outcome
remaining n u = done (n - u) []

-- a variant behind n bytes of padding, its value in the s - 1 bytes before the separator
module _ (read : Tree → Reader) (d : Depths) (k : ℕ) (l : List ℕ) (n s : ℕ) where
  unfoldable pub variant_value : Tree → Depths → Outcome
  variant_value t d' = chain (child (read t d') k l n (n + (s - 1))) (remaining (length l - n))

  unfoldable pub variant_type : Option Tree → Outcome
  variant_type none = refused variant_type_refused (k + (n + s))
  variant_type (some t) = within (opened Depth.variant d) (k + n) (variant_value t)

  -- the type is judged on all bytes after the separator
  unfoldable pub variant_typed : ℕ → Outcome
  variant_typed u = variant_type (type_of (drop (n + s) l))

  unfoldable pub variant_body : Outcome
  variant_body = enclosed variant_letter (k + n) (chain (text_as signature_letter (k + (n + s)) (without_final_nul (drop (n + s) l))) variant_typed)

unfoldable pub variant_in : (Tree → Reader) → Depths → ℕ → List ℕ → ℕ → Outcome
variant_in read d k l n =
    pick (eqb (separator (drop n l)) 0) (refused no_separator (k + n)) (variant_body read d k l n (separator (drop n l)))

-- from the position on
module _ (position : ℕ) where
  -- padding to an alignment in front of l, which begins at the place k
  unfoldable pub pad : ℕ → ℕ → List ℕ → Outcome
  pad a k l = padding_of (padding (position + k) a) k l

  -- numbers pad, then need their bytes
  unfoldable pub read_number : Bool → ℕ → ℕ → Reader
  read_number big kind w d k l = unused (chain (pad w k l) (number_in big kind w k l))

  unfoldable pub read_basic : Bool → Basic → Reader
  read_basic big bool = read_bool
  read_basic big (number c) = read_number big (number_letter c) (number_width c)
  read_basic big (text c) = read_text (text_letter c)

  unfoldable pub read_maybe : ℕ → Bool → Reader → Reader
  read_maybe a fx read d k l = chain (pad a k l) (maybe_in fx read d k l)

  -- kind: an array's or a dictionary's
  unfoldable pub read_array : ℕ → ℕ → Bool → Step → Reader
  read_array kind a fx step d k l = chain (pad a k l) (array_in kind fx step d k l)

  -- the padding at the end of what is fixed in size, judged from where it stands, also where the last child failed
  unfoldable pub end_padding : Bool → ℕ → ℕ → List ℕ → ℕ → Outcome → Outcome
  end_padding fx a k l j o = pick fx (padded o (pad a (k + (j + o.used)) (drop (j + o.used) l))) o

  -- Fields from the place j of l on; offsets up to e. One that is neither fixed nor last takes its end from the back of the table.
  module _ (fx : Bool) (a : ℕ) (k : ℕ) (l : List ℕ) (n w : ℕ) (d : Depths) where
    unfoldable pub fields_in : List Field → ℕ → ℕ → Outcome
    fields_in [] e j = done 0 []
    fields_in (f ∷ []) e j = chain (end_padding fx a k l j (child (f.reader d) k l j e)) (passing (length l - e))
    fields_in (f ∷ g ∷ fs) e j =
        pick f.fixed (chain (child (f.reader d) k l j e) (further (fields_in (g ∷ fs) e) j))
        (pick (offset_stands n w e)
        (chain (child (f.reader d) k l j (n + field_offset n w e l)) (further (fields_in (g ∷ fs) (e - w)) j))
        (refused out_of_bounds (k + n)))

  unfoldable pub structure_body : ℕ → Bool → List Field → ℕ → List ℕ → ℕ → Depths → Outcome
  structure_body a fx fs k l n d =
      enclosed structure_letter (k + n) (fields_in fx a k l n (encoded_width (length l - n)) d fs (length l) n)

  unfoldable pub structure_in : ℕ → Bool → List Field → Depths → ℕ → List ℕ → ℕ → Outcome
  structure_in a fx fs d k l n = within (opened Depth.structure d) (k + n) (structure_body a fx fs k l n)

  unfoldable pub read_structure : ℕ → Bool → List Field → Reader
  read_structure a fx fs d k l = chain (pad a k l) (structure_in a fx fs d k l)

  -- an entry of a dictionary from the place j to its end e, over the dictionary's part l, whose body ends at b
  module _ (a : ℕ) (fx : Bool) (key value : Reader) (d : Depths) (k : ℕ) (l : List ℕ) (b : ℕ) where
    -- a key that is fixed, and the value; fixed entries are padded after the value
    unfoldable pub value_from : ℕ → ℕ → Outcome
    value_from e j = end_padding fx a k l j (child (value d) k l j e)

    unfoldable pub fixed_key : ℕ → ℕ → Outcome
    fixed_key j e = chain (child (key d) k l j e) (further (value_from e) j)

    -- a text: the value ends before the key's offset, whose width is then added to the place
    unfoldable pub value_before : ℕ → ℕ → ℕ → Outcome
    value_before e w j = pick (leb (j + w) e) (chain (child (value d) k l j (e - w)) (passing w)) (refused out_of_bounds (k + j))

    -- a key that ends at o, past the array's body, is 3 before its text is judged
    unfoldable pub key_to : ℕ → ℕ → ℕ → ℕ → Outcome
    key_to j e w o = pick (leb o b) (chain (child (key d) k l j o) (further (value_before e w) j)) (refused out_of_bounds (k + j))

    -- the key's end counts from the entry, and its offset has the width of the entry's length
    unfoldable pub text_key : ℕ → ℕ → Outcome
    text_key j e =
        pick (leb j e)
        (key_to j e (encoded_width (e - j)) (j + last_offset (encoded_width (e - j)) (take (e - j) (drop j l))))
        (refused out_of_bounds (k + j))

    unfoldable pub entry_from : Bool → ℕ → ℕ → Outcome
    entry_from fk e j = pick fk (fixed_key j e) (text_key j e)

    -- its padding is judged over the dictionary's whole part
    unfoldable pub read_entry : Bool → ℕ → ℕ → Outcome
    read_entry fk j e = chain (pad a (k + j) (drop j l)) (further (entry_from fk e) j)

  unfoldable pub entry_step : ℕ → Bool → Bool → Reader → Reader → Step
  entry_step a fk fx key value d k l b = read_entry a fx key value d k l b fk

  -- a variant, over the readers of the types
  unfoldable pub read_variant : (Tree → Reader) → Reader
  read_variant read d k l = chain (pad 8 k l) (variant_in read d k l)

  module _ (big : Bool) (variants : Reader) where
    unfoldable mutual
      pub read_tree : Tree → Reader
      read_tree (basic b) = read_basic big b
      read_tree variant = variants
      read_tree (maybe t) = read_maybe (alignment t) (fixed t) (read_tree t)
      read_tree (array t) = read_array array_letter (alignment t) (fixed t) (child_step (read_tree t))
      read_tree (dictionary b t) =
          read_array dictionary_letter (entry_alignment b t) (entry_fixed b t)
          (entry_step (entry_alignment b t) (basic_fixed b) (entry_fixed b t) (read_basic big b) (read_tree t))
      read_tree (structure ts) = read_structure (largest_alignment ts) (all_fixed ts) (readers ts)

      pub readers : Fields → List Field
      readers (last t) = record { fixed = fixed t; reader = read_tree t } ∷ []
      readers (next t ts) = record { fixed = fixed t; reader = read_tree t } ∷ readers ts

  -- THE READING of a value of a type, with at most so many variants one inside another; where there are more, the depth is refused
  unfoldable pub reading : Bool → ℕ → Tree → Reader
  reading big zero t = read_tree big (λ d k l. refused containers_too_deep k) t
  reading big (suc n) t = read_tree big (read_variant (λ u. reading big n u)) t
