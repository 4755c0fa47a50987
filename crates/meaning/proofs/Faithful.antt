-- On all frames whatsoever: every text event names the very bytes of the frame that its text has, and a reading answers 0 or one of 3
-- to 12. Both are kept by each way of putting outcomes together, so one induction over the reading rules shows both. Assumes nothing.
use mathlib.Core.Path.{◌≡◌, refl, sym, ap, ◌∙◌}
use mathlib.Core.Logic.{◌⊎◌, inl, inr}
use mathlib.Core.List.{List, [], ◌∷◌, ◌++◌, map, map-append, append_assoc, append-nil}
use mathlib.Core.Option.{Option, none, some}
use mathlib.Core.Bool.{Bool, true, false, ◌&&◌}
use Prim.Native.Nat.{ℕ, zero, suc, ◌+◌, ◌*◌, ◌-◌, ◌≤◌}
use native.Mathlib.Omega.{arith}
use lib.Dec.{leb, ltb, eqb}
use lib.ListN.{length, take, drop, get_or, length-append, length-take, length-drop, length-replicate, take-append-drop}
use lib.Seq.{drop_at, drop-length, take-append_seam, drop-drop}
use borrow.Author.Tests.{eqb-false, leb-true, le-leb}
use Rattle.meaning.specs.Choice.{pick}
use Rattle.meaning.specs.Limits.{largest_frame, most_variants}
use Rattle.meaning.specs.Parts.{part_at}
use Rattle.meaning.specs.Padding.{padding, zeros, leading_zeros}
use Rattle.meaning.specs.Offsets.{Table, encoded_width, last_offset, table_of, ends_of, table_stands}
use Rattle.meaning.specs.Numbers.{spelled}
use Rattle.meaning.specs.Texts.{no_nul, utf8, without_final_nul, text_refusal}
use Rattle.meaning.specs.Depths as Depth
use Rattle.meaning.specs.Depths.{Depths, total, depth_refusal, opened, none_open}
use Rattle.meaning.specs.Types.{Number, byte, int16, uint16, int32, uint32, int64, uint64, double, Text, string, object_path, signature, Basic, bool, number, text, Tree, Fields, basic, variant, maybe, array, dictionary, structure, last, next, number_width, basic_fixed, alignment, largest_alignment, fixed, all_fixed, entry_alignment, entry_fixed}
use Rattle.meaning.specs.Letters.{is_text_letter, bool_letter, number_letter, text_letter, signature_letter, variant_letter, array_letter, dictionary_letter, structure_letter}
use Rattle.meaning.specs.TypeText.{type_of}
use Rattle.meaning.specs.Events.{Event, event, text_event, present, nothing, opening, closing, text_named}
use Rattle.meaning.specs.Outcome.{Outcome, done, refused, after, chain, unused, passing, closing_at, enclosed}
use Rattle.meaning.specs.Reading.{Reader, child, within, padding_of, text_as, read_text, read_bool, number_in, end_byte, present_in, maybe_in, further, elements, elements_to, Step, tabled, array_body, array_in, child_step, Field, offset_stands, field_offset, padded, separator, remaining, variant_value, variant_type, variant_typed, variant_body, variant_in, pad, read_number, read_basic, read_maybe, read_array, end_padding, fields_in, structure_body, structure_in, read_structure, value_from, fixed_key, value_before, key_to, text_key, entry_from, read_entry, entry_step, read_variant, read_tree, readers, reading}
use Rattle.meaning.specs.Calls.{frame_of, frame_reading, Counts, counts, sized, fitted, size, read}
use Rattle.meaning.proofs.Bounds.{last_nul_most}

-- ---- what is told

-- a number that a reading may answer
abbrev pub Met : ℕ → Type 0
Met r = (r ≡ 0) ⊎ ((3 ≤ r) × (r ≤ 12))

abbrev pub text_of : Event → List ℕ
text_of e = e.text

-- each event has the text that it names in the frame
abbrev pub Named : List ℕ → List Event → Type 0
Named frame es = map (text_named frame) es ≡ map text_of es

record Tells (frame : List ℕ) (o : Outcome) : Type 0 where
  met : Met o.refusal
  named : Named frame o.events

-- a part that stands in the frame at a place
record Stands (frame : List ℕ) (k : ℕ) (l : List ℕ) : Type 0 where
  before : List ℕ
  behind : List ℕ
  is : frame ≡ before ++ (l ++ behind)
  starts : length before ≡ k

three : Met 3
three = inr (omega arith, omega arith)

-- a depth's refusal
depth_met : (d : Depths) → Met (depth_refusal d)
unfolding depth_refusal
depth_met d = go (ltb 32 d.structure) (ltb 32 d.array) (ltb 64 (total d))
  where
    go : (x y z : Bool) → Met (pick x 10 (pick y 11 (pick z 12 0)))
    go true y z = inr (omega arith, omega arith)
    go false true z = inr (omega arith, omega arith)
    go false false true = inr (omega arith, omega arith)
    go false false false = inl refl

-- a text is its part's beginning
front_of : (l : List ℕ) → l ≡ without_final_nul l ++ drop (length (without_final_nul l)) l
unfolding without_final_nul
front_of l = go (eqb (get_or l (length l - 1) 1) 0)
  where
    go : (x : Bool) → l ≡ pick x (take (length l - 1) l) l ++ drop (length (pick x (take (length l - 1) l) l)) l
    go true = (let n : length (take (length l - 1) l) ≡ length l - 1 = simp length-take (omega arith) in rw n (sym (take-append-drop (length l - 1) l)))
    go false = sym (rw (drop-length l) (append-nil l))

-- a text's refusal
text_met : (t : List ℕ) → Met (text_refusal t)
unfolding text_refusal
text_met t = go (no_nul t) (utf8 t)
  where
    go : (x y : Bool) → Met (pick x (pick y 0 6) 5)
    go true true = inl refl
    go true false = inr (omega arith, omega arith)
    go false y = inr (omega arith, omega arith)

text_letter_lem : (c : Text) → is_text_letter (text_letter c) ≡ true
text_letter_lem string = refl
text_letter_lem object_path = refl
text_letter_lem signature = refl

number_letter_lem : (c : Number) → is_text_letter (number_letter c) ≡ false
number_letter_lem byte = refl
number_letter_lem int16 = refl
number_letter_lem uint16 = refl
number_letter_lem int32 = refl
number_letter_lem uint32 = refl
number_letter_lem int64 = refl
number_letter_lem uint64 = refl
number_letter_lem double = refl

-- ---- how it goes through

module _ (frame : List ℕ) where
  named_append : (es fs : List Event) → Named frame es → Named frame fs → Named frame (es ++ fs)
  named_append es fs g h = map-append (text_named frame) es fs ∙ rw (g, h) (sym (map-append text_of es fs))

  named_event : (kind p v : ℕ) → is_text_letter kind ≡ false → Named frame (event kind p v ∷ [])
  unfolding text_named
  named_event kind p v h = rw h

  tells_refused : (r p : ℕ) → Met r → Tells frame (refused r p)
  tells_refused r p m = record { met = m; named = refl }

  tells_done : (u : ℕ) (es : List Event) → Named frame es → Tells frame (done u es)
  tells_done u es h = record { met = inl refl; named = h }

  tells_pick : (x : Bool) (o q : Outcome) → Tells frame o → Tells frame q → Tells frame (pick x o q)
  tells_pick true o q g h = g
  tells_pick false o q g h = h

  tells_after : (u : ℕ) (es : List Event) (o : Outcome) → Named frame es → Tells frame o → Tells frame (after u es o)
  tells_after u es o h g = record { met = g.met; named = named_append es o.events h g.named }

  tells_chain : (o : Outcome) (f : ℕ → Outcome) → Tells frame o → ((u : ℕ) → Tells frame (f u)) → Tells frame (chain o f)
  unfolding chain
  tells_chain o f g h = tells_pick (eqb o.refusal 0) _ _ (tells_after o.used o.events (f o.used) g.named (h o.used)) g

  tells_unused : (o : Outcome) → Tells frame o → Tells frame (unused o)
  unfolding unused
  tells_unused o g = tells_pick (eqb o.refusal 0) _ _ g (record { met = g.met; named = g.named })

  tells_padded : (o p : Outcome) → Tells frame o → Tells frame p → Tells frame (padded o p)
  unfolding padded
  tells_padded o p g h = tells_pick (eqb p.refusal 0) _ _ (record { met = g.met; named = g.named }) (record { met = h.met; named = g.named })

  tells_enclosed : (kind p : ℕ) (o : Outcome) → is_text_letter kind ≡ false → Tells frame o → Tells frame (enclosed kind p o)
  unfolding enclosed
  tells_enclosed kind p o h g =
      tells_after 0 (opening kind p ∷ []) (chain o (closing_at p)) (named_event kind p 0 h) (tells_chain o (closing_at p) g (λ u. tells_done 0 (closing (p + u) ∷ []) (named_event _ (p + u) 0 refl)))

  tells_within : (d : Depths) (p : ℕ) (inside : Depths → Outcome) → Tells frame (inside d) → Tells frame (within d p inside)
  unfolding within
  tells_within d p inside g = tells_pick (eqb (depth_refusal d) 0) _ _ g (tells_refused (depth_refusal d) p (depth_met d))

  tells_padding : (n k : ℕ) (l : List ℕ) → Tells frame (padding_of n k l)
  unfolding padding_of
  tells_padding n k l =
      tells_pick (ltb (length l) n) _ _ (tells_refused 3 (k + length l) three)
      (tells_pick (ltb (leading_zeros l) n) _ _ (tells_refused 4 (k + leading_zeros l) (inr (omega arith, omega arith))) (tells_done n [] refl))

  tells_pad : (position a k : ℕ) (l : List ℕ) → Tells frame (pad position a k l)
  unfolding pad
  tells_pad position a k l = tells_padding (padding (position + k) a) k l

  tells_behind : (position a k : ℕ) (l : List ℕ) (f : ℕ → Outcome) → ((n : ℕ) → Tells frame (f n)) → Tells frame (chain (pad position a k l) f)
  tells_behind position a k l f h = tells_chain (pad position a k l) f (tells_pad position a k l) h

  tells_passing : (n u : ℕ) → Tells frame (passing n u)
  tells_passing n u = tells_done n [] refl

  -- ---- parts

  -- a part of a part
  stands_child : {k : ℕ} {l : List ℕ} → Stands frame k l → (j e : ℕ) → j ≤ e → e ≤ length l → Stands frame (k + j) (take (e - j) (drop j l))
  stands_child {k} {l} s j e h g =
      let m : j + (e - j) ≡ e = omega arith in
      let c : List ℕ = take (e - j) (drop j l) in
      let inner : drop j l ≡ c ++ drop e l = sym (take-append-drop (e - j) (drop j l)) ∙ ap (λ (x : List ℕ). c ++ x) (drop-drop (e - j) j l ∙ rw m) in
      let two : l ≡ take j l ++ (c ++ drop e l) = sym (take-append-drop j l) ∙ ap (λ (x : List ℕ). take j l ++ x) inner in
      record {
        before = s.before ++ take j l;
        behind = drop e l ++ s.behind;
        is = s.is ∙ ap (λ (x : List ℕ). s.before ++ (x ++ s.behind)) two ∙ simp append_assoc;
        starts = simp (length-append, length-take) (omega (arith, s.starts));
      }

  stands_rest : {k : ℕ} {l : List ℕ} → Stands frame k l → (j : ℕ) → j ≤ length l → Stands frame (k + j) (drop j l)
  stands_rest {k} {l} s j h = record {
    before = s.before ++ take j l;
    behind = s.behind;
    is = s.is ∙ ap (λ (x : List ℕ). s.before ++ (x ++ s.behind)) (sym (take-append-drop j l)) ∙ simp append_assoc;
    starts = simp (length-append, length-take) (omega (arith, s.starts));
  }

  -- the part's beginning is what its place and length name
  front_named : {k : ℕ} {l : List ℕ} (t x : List ℕ) → Stands frame k l → l ≡ t ++ x → part_at frame k (length t) ≡ t
  unfolding part_at
  front_named {k} {l} t x s h =
      let is : frame ≡ s.before ++ (t ++ (x ++ s.behind)) = s.is ∙ rw h (simp append_assoc) in
      let n : k + length t ≤ length frame = rw is (simp length-append (omega (arith, s.starts))) in
      rw (le-leb (k + length t) (length frame) n, is, drop_at s.before (t ++ (x ++ s.behind)) k s.starts) (take-append_seam t (x ++ s.behind))

  -- a reader tells the truth of every part of the frame
  abbrev Faithful : Reader → Type 0
  Faithful read = (d : Depths) (k : ℕ) (l : List ℕ) → Stands frame k l → Tells frame (read d k l)

  tells_child : (read : ℕ → List ℕ → Outcome) (k : ℕ) (l : List ℕ) → ((k : ℕ) (l : List ℕ) → Stands frame k l → Tells frame (read k l)) → Stands frame k l → (j e : ℕ) → Tells frame (child read k l j e)
  unfolding child
  tells_child read k l f s j e = go (leb j e) (leb e (length l)) refl refl
    where
      go : (x y : Bool) → leb j e ≡ x → leb e (length l) ≡ y → Tells frame (pick (x && y) (read (k + j) (take (e - j) (drop j l))) (refused 3 (k + j)))
      go true true p q = f (k + j) (take (e - j) (drop j l)) (stands_child s j e (leb-true j e p) (leb-true e (length l) q))
      go true false p q = tells_refused 3 (k + j) three
      go false y p q = tells_refused 3 (k + j) three

  -- ---- basic values

  tells_text : (kind k : ℕ) (l : List ℕ) → is_text_letter kind ≡ true → Stands frame k l → Tells frame (text_as kind k (without_final_nul l))
  unfolding text_as text_named
  tells_text kind k l h s =
      let t : List ℕ = without_final_nul l in
      tells_pick (eqb (text_refusal t) 0) _ _
      (tells_done 0 (text_event kind k t ∷ []) (rw (h, front_named t (drop (length t) l) s (front_of l)))) (tells_refused (text_refusal t) k (text_met t))

  text_faithful : (c : Text) → Faithful (read_text (text_letter c))
  unfolding read_text
  text_faithful c d k l s = tells_after (length l) [] (text_as (text_letter c) k (without_final_nul l)) refl (tells_text (text_letter c) k l (text_letter_lem c) s)

  bool_faithful : Faithful read_bool
  unfolding read_bool
  bool_faithful d k l s = tells_pick (eqb (length l) 0) _ _ (tells_refused 3 k three) (tells_done 1 (event bool_letter k (pick (eqb (get_or l 0 0) 0) 0 1) ∷ []) (named_event bool_letter k _ refl))

  number_faithful : (position : ℕ) (big : Bool) (c : Number) → Faithful (read_number position big (number_letter c) (number_width c))
  unfolding read_number number_in
  number_faithful position big c d k l s =
      let w : ℕ = number_width c in
      tells_unused (chain (pad position w k l) (number_in big (number_letter c) w k l))
      (tells_behind position w k l (number_in big (number_letter c) w k l) (λ n.
      tells_pick (leb (n + w) (length l)) _ _ (tells_done w (event (number_letter c) (k + n) (spelled big w n l) ∷ []) (named_event (number_letter c) (k + n) _ (number_letter_lem c))) (tells_refused 3 (k + n) three)))

  basic_faithful : (position : ℕ) (big : Bool) (b : Basic) → Faithful (read_basic position big b)
  unfolding read_basic
  basic_faithful position big bool = bool_faithful
  basic_faithful position big (number c) = number_faithful position big c
  basic_faithful position big (text c) = text_faithful c

  -- ---- maybes

  maybe_faithful : (position a : ℕ) (fx : Bool) (read : Reader) → Faithful read → Faithful (read_maybe position a fx read)
  unfolding read_maybe maybe_in present_in end_byte
  maybe_faithful position a fx read f d k l s = tells_behind position a k l (maybe_in fx read d k l) (λ n.
      tells_pick (leb (length l) n) _ _ (tells_done 0 (nothing (k + n) ∷ []) (named_event _ (k + n) 0 refl))
      (tells_within (opened Depth.maybe d) (k + n) (present_in fx read k l n)
      (tells_after 0 (present (k + n) ∷ []) _ (named_event _ (k + n) 0 refl)
      (tells_pick fx _ _ (tells_child (read (opened Depth.maybe d)) k l (f (opened Depth.maybe d)) s n (length l))
      (tells_chain (child (read (opened Depth.maybe d)) k l n (length l - 1)) (end_byte k l n) (tells_child (read (opened Depth.maybe d)) k l (f (opened Depth.maybe d)) s n (length l - 1))
      (λ u. tells_pick (eqb (get_or l (n + u) 1) 0) _ _ (tells_done 1 [] refl) (tells_refused 7 (k + (n + u)) (inr (omega arith, omega arith)))))))))

  -- ---- arrays and dictionaries

  abbrev FaithfulStep : Step → Type 0
  FaithfulStep step = (d : Depths) (k : ℕ) (l : List ℕ) → Stands frame k l → (b j e : ℕ) → Tells frame (step d k l b j e)

  tells_elements : (n : ℕ) (step : ℕ → ℕ → Outcome) → ((j e : ℕ) → Tells frame (step j e)) → (e j : ℕ) → Tells frame (elements n step e j)
  unfolding elements
  tells_elements zero step f e j = tells_pick (leb e j) _ _ (tells_done 0 [] refl) (tells_refused 3 0 three)
  tells_elements (suc n) step f e j =
      tells_pick (leb e j) _ _ (tells_done 0 [] refl) (tells_chain (step j e) (further (elements n step e) j) (f j e) (λ u. tells_elements n step f e (j + u)))

  tells_elements_to : (step : ℕ → ℕ → Outcome) → ((j e : ℕ) → Tells frame (step j e)) → (n : ℕ) (es : List ℕ) (j : ℕ) → Tells frame (elements_to step n es j)
  unfolding elements_to
  tells_elements_to step f n [] j = tells_done 0 [] refl
  tells_elements_to step f n (e ∷ es) j = tells_chain (step j (n + e)) (further (elements_to step n es) j) (f j (n + e)) (λ u. tells_elements_to step f n es (j + u))

  array_faithful : (position kind a : ℕ) (fx : Bool) (step : Step) → is_text_letter kind ≡ false → FaithfulStep step → Faithful (read_array position kind a fx step)
  unfolding read_array array_in array_body tabled
  array_faithful position kind a true step h f d k l s = tells_behind position a k l (array_in kind true step d k l) (λ n.
      tells_within (opened Depth.array d) (k + n) (array_body kind true step k l n)
      (tells_enclosed kind (k + n) _ h (tells_elements (length l) (step (opened Depth.array d) k l (length l)) (f (opened Depth.array d) k l s (length l)) (length l) n)))
  array_faithful position kind a false step h f d k l s = tells_behind position a k l (array_in kind false step d k l) (λ n.
      (let t : Table = table_of (drop n l) in
      let o : Depths = opened Depth.array d in
      tells_within o (k + n) (array_body kind false step k l n)
      (tells_pick (table_stands t (drop n l)) _ _
      (tells_enclosed kind (k + n) _ h
      (tells_chain (elements_to (step o k l (n + t.start)) n (ends_of t (drop n l)) n) (passing (length l - (n + t.start)))
      (tells_elements_to (step o k l (n + t.start)) (f o k l s (n + t.start)) n (ends_of t (drop n l)) n) (λ u. tells_passing (length l - (n + t.start)) u)))
      (tells_refused 3 (k + n) three))))

  child_faithful : (read : Reader) → Faithful read → FaithfulStep (child_step read)
  unfolding child_step
  child_faithful read f d k l s b j e = tells_child (read d) k l (f d) s j e

  tells_end : (position : ℕ) (fx : Bool) (a k : ℕ) (l : List ℕ) (j : ℕ) (o : Outcome) → Tells frame o → Tells frame (end_padding position fx a k l j o)
  unfolding end_padding
  tells_end position fx a k l j o g = tells_pick fx _ _ (tells_padded o _ g (tells_pad position a (k + (j + o.used)) (drop (j + o.used) l))) g

  entry_faithful : (position a : ℕ) (fk fx : Bool) (key value : Reader) → Faithful key → Faithful value → FaithfulStep (entry_step position a fk fx key value)
  unfolding entry_step read_entry entry_from fixed_key value_from text_key key_to value_before
  entry_faithful position a fk fx key value f g d k l s b j e =
      let c : (j e : ℕ) → Tells frame (child (key d) k l j e) = λ j e. tells_child (key d) k l (f d) s j e in
      let v : (j e : ℕ) → Tells frame (child (value d) k l j e) = λ j e. tells_child (value d) k l (g d) s j e in
      tells_behind position a (k + j) (drop j l) (further (entry_from position a fx key value d k l b fk e) j) (λ n.
      (let i : ℕ = j + n in
      let w : ℕ = encoded_width (e - i) in
      let o : ℕ = i + last_offset w (take (e - i) (drop i l)) in
      tells_pick fk _ _
      (tells_chain (child (key d) k l i e) (further (value_from position a fx key value d k l b e) i) (c i e) (λ u. tells_end position fx a k l (i + u) _ (v (i + u) e)))
      (tells_pick (leb i e) _ _
      (tells_pick (leb o b) _ _
      (tells_chain (child (key d) k l i o) (further (value_before position a fx key value d k l b e w) i) (c i o) (λ u.
      tells_pick (leb (i + u + w) e) _ _
      (tells_chain (child (value d) k l (i + u) (e - w)) (passing w) (v (i + u) (e - w)) (λ x. tells_passing w x)) (tells_refused 3 (k + (i + u)) three)))
      (tells_refused 3 (k + i) three))
      (tells_refused 3 (k + i) three))))

  -- ---- structures

  data FaithfulRow : List Field → Type 0 where
    end : FaithfulRow []
    more : {f : Field} {fs : List Field} → Faithful f.reader → FaithfulRow fs → FaithfulRow (f ∷ fs)

  tells_fields : (position : ℕ) (fx : Bool) (a k : ℕ) (l : List ℕ) (n w : ℕ) (d : Depths) {fs : List Field} → FaithfulRow fs → Stands frame k l → (e j : ℕ) → Tells frame (fields_in position fx a k l n w d fs e j)
  unfolding fields_in
  tells_fields position fx a k l n w d end s e j = tells_done 0 [] refl
  tells_fields position fx a k l n w d (more {f = f} h end) s e j =
      tells_chain _ (passing (length l - e)) (tells_end position fx a k l j _ (tells_child (f.reader d) k l (h d) s j e)) (λ u. tells_passing (length l - e) u)
  tells_fields position fx a k l n w d (more {f = f} h (more {f = g} {fs = fs} i r)) s e j =
      tells_pick f.fixed _ _
      (tells_chain (child (f.reader d) k l j e) (further (fields_in position fx a k l n w d (g ∷ fs) e) j) (tells_child (f.reader d) k l (h d) s j e) (λ u. tells_fields position fx a k l n w d (more {f = g} i r) s e (j + u)))
      (tells_pick (offset_stands n w e) _ _
      (tells_chain (child (f.reader d) k l j (n + field_offset n w e l)) (further (fields_in position fx a k l n w d (g ∷ fs) (e - w)) j)
      (tells_child (f.reader d) k l (h d) s j (n + field_offset n w e l)) (λ u. tells_fields position fx a k l n w d (more {f = g} i r) s (e - w) (j + u)))
      (tells_refused 3 (k + n) three))

  structure_faithful : (position a : ℕ) (fx : Bool) (fs : List Field) → FaithfulRow fs → Faithful (read_structure position a fx fs)
  unfolding read_structure structure_in structure_body
  structure_faithful position a fx fs r d k l s = tells_behind position a k l (structure_in position a fx fs d k l) (λ n.
      tells_within (opened Depth.structure d) (k + n) (structure_body position a fx fs k l n)
      (tells_enclosed structure_letter (k + n) _ refl (tells_fields position fx a k l n (encoded_width (length l - n)) (opened Depth.structure d) r s (length l) n)))

  -- ---- variants

  module _ (read : Tree → Reader) (f : (t : Tree) → Faithful (read t)) (d : Depths) (k : ℕ) (l : List ℕ) (s : Stands frame k l) (n : ℕ) where
    tells_type : (m : ℕ) (o : Option Tree) → Tells frame (variant_type read d k l n m o)
    unfolding variant_type variant_value
    tells_type m none = tells_refused 9 (k + (n + m)) (inr (omega arith, omega arith))
    tells_type m (some t) =
        let v : Depths = opened Depth.variant d in
        tells_within v (k + n) (variant_value read d k l n m t)
        (tells_chain (child (read t v) k l n (n + (m - 1))) (remaining (length l - n)) (tells_child (read t v) k l (f t v) s n (n + (m - 1))) (λ u. tells_done (length l - n - u) [] refl))

    -- a separator that is there stands inside the part
    tells_body : (m : ℕ) → n + m ≤ length l → Tells frame (variant_body read d k l n m)
    unfolding variant_body variant_typed
    tells_body m h =
        tells_enclosed variant_letter (k + n) _ refl
        (tells_chain (text_as signature_letter (k + (n + m)) (without_final_nul (drop (n + m) l))) (variant_typed read d k l n m)
        (tells_text signature_letter (k + (n + m)) (drop (n + m) l) refl (stands_rest s (n + m) h)) (λ u. tells_type m (type_of (drop (n + m) l))))

    tells_variant : Tells frame (variant_in read d k l n)
    unfolding variant_in
    tells_variant = go (eqb (separator (drop n l)) 0) refl
      where
        go : (x : Bool) → eqb (separator (drop n l)) 0 ≡ x → Tells frame (pick x (refused 8 (k + n)) (variant_body read d k l n (separator (drop n l))))
        go true q = tells_refused 8 (k + n) (inr (omega arith, omega arith))
        go false q =
            let most = last_nul_most (length (drop n l) - 1) (drop n l) in
            tells_body (separator (drop n l)) (omega (arith, most, length-drop n l, eqb-false (separator (drop n l)) 0 q))

  variant_faithful : (position : ℕ) (read : Tree → Reader) → ((t : Tree) → Faithful (read t)) → Faithful (read_variant position read)
  unfolding read_variant
  variant_faithful position read f d k l s = tells_behind position 8 k l (variant_in read d k l) (λ n. tells_variant read f d k l s n)

  -- ---- all types

  module _ (position : ℕ) (big : Bool) (variants : Reader) (v : Faithful variants) where
    mutual
      unfolding read_tree

      tree_faithful : (t : Tree) → Faithful (read_tree position big variants t)
      tree_faithful (basic b) = basic_faithful position big b
      tree_faithful variant = v
      tree_faithful (maybe t) = maybe_faithful position (alignment t) (fixed t) (read_tree position big variants t) (tree_faithful t)
      tree_faithful (array t) = array_faithful position array_letter (alignment t) (fixed t) (child_step (read_tree position big variants t)) refl (child_faithful (read_tree position big variants t) (tree_faithful t))
      tree_faithful (dictionary b t) =
          array_faithful position dictionary_letter (entry_alignment b t) (entry_fixed b t) (entry_step position (entry_alignment b t) (basic_fixed b) (entry_fixed b t) (read_basic position big b) (read_tree position big variants t)) refl
          (entry_faithful position (entry_alignment b t) (basic_fixed b) (entry_fixed b t) (read_basic position big b) (read_tree position big variants t) (basic_faithful position big b) (tree_faithful t))
      tree_faithful (structure ts) = structure_faithful position (largest_alignment ts) (all_fixed ts) (readers position big variants ts) (row_faithful ts)

      row_faithful : (ts : Fields) → FaithfulRow (readers position big variants ts)
      row_faithful (last t) = more (tree_faithful t) end
      row_faithful (next t ts) = more (tree_faithful t) (row_faithful ts)

  faithful : (position : ℕ) (big : Bool) (n : ℕ) (t : Tree) → Faithful (reading position big n t)
  unfolding reading
  faithful position big zero t = tree_faithful position big (λ d k l. refused 12 k) (λ d k l s. tells_refused 12 k (inr (omega arith, omega arith))) t
  faithful position big (suc n) t =
      tree_faithful position big (read_variant position (λ u. reading position big n u)) (variant_faithful position (λ u. reading position big n u) (λ u. faithful position big n u)) t

-- ---- the theorems

-- A READING ANSWERS 0 OR ONE OF 3 TO 12, whatever the type, the bytes, the place and the depth
pub reading_met : (position : ℕ) (big : Bool) (n : ℕ) (t : Tree) (d : Depths) (k : ℕ) (l : List ℕ) → Met (reading position big n t d k l).refusal
reading_met position big n t d k l =
    (faithful (zeros k ++ l) position big n t d k l (record { before = zeros k; behind = []; is = rw append-nil; starts = length-replicate k 0 })).met

module _ (type : List ℕ) (big : Bool) (position : ℕ) (frame : List ℕ) where
  frame_tells : Named frame (frame_reading type big position frame).events × ((frame_reading type big position frame).refusal ≤ 12)
  unfolding frame_reading frame_of
  frame_tells = go (type_of type)
    where
      most : (r : ℕ) → Met r → r ≤ 12
      most r (inl h) = omega arith
      most r (inr h) = h.1

      picked : (x : Bool) (o : Outcome) → Tells frame o → Named frame (pick x o (refused 2 0)).events × ((pick x o (refused 2 0)).refusal ≤ 12)
      picked true o h = (h.named, most o.refusal h.met)
      picked false o h = (refl, omega arith)

      go : (t : Option Tree) → Named frame (frame_of big position frame t).events × ((frame_of big position frame t).refusal ≤ 12)
      go none = (refl, omega arith)
      go (some t) = picked (leb (length frame) largest_frame && leb position largest_frame) _
          (faithful frame position big most_variants t none_open 0 frame (record { before = []; behind = []; is = sym (append-nil frame); starts = refl }))

  -- TEXTS ARE TIED TO THE FRAME: each event of a reading has the text that its place and payload name in the frame
  pub texts_named : Named frame (frame_reading type big position frame).events
  texts_named = frame_tells.0

  -- `size` answers only 0 to 12, and `read` also 13
  pub size_numbers : (size type big position frame).refusal ≤ 12
  unfolding size sized
  size_numbers = go (frame_reading type big position frame) frame_tells.1 (eqb (frame_reading type big position frame).refusal 0)
    where
      go : (o : Outcome) → o.refusal ≤ 12 → (x : Bool) → (pick x (counts 0 o.used (length o.events)) (counts o.refusal 0 0)).refusal ≤ 12
      go o h true = omega arith
      go o h false = h

  pub read_numbers : (out : List ℕ) → (read type big position frame out).refusal ≤ 13
  unfolding read fitted
  read_numbers out = go (size type big position frame) size_numbers (leb (3 * (size type big position frame).count) (length out))
    where
      go : (c : Counts) → c.refusal ≤ 12 → (x : Bool) → (pick x c (counts 13 0 0)).refusal ≤ 13
      go c h true = omega arith
      go c h false = omega arith
