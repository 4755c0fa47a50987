-- WRITING, as document 01 has it: events spell a value, judged in event order, and the frame is the value's written form. Assumes
-- nothing: these are definitions.
use Rattle.std.specs.Prelude.{List, [], ◌∷◌, ◌++◌, Bool, ◌&&◌, ℕ, zero, suc, ◌^◌, leb, ltb, eqb, length, take, drop}
use Rattle.std.proofs.Math.Option.{Option, none, some}
use Rattle.meaning.specs.Choice.{pick}
use Rattle.meaning.specs.Limits.{largest_frame, most_variants}
use Rattle.meaning.specs.Refusals.{type_refused, over_limit, variant_type_refused, containers_too_deep, room_too_small, no_value}
use Rattle.meaning.specs.Parts.{holds}
use Rattle.meaning.specs.Texts.{text_refusal}
use Rattle.meaning.specs.Depths as Depth
use Rattle.meaning.specs.Depths.{Depths, none_open, depth_refusal, opened}
use Rattle.meaning.specs.Types.{Basic, bool, number, text, Tree, Fields, basic, variant, maybe, array, dictionary, structure, last, next, number_width}
use Rattle.meaning.specs.Letters.{bool_letter, number_letter, signature_letter, text_letter, variant_letter, maybe_letter, nothing_letter, array_letter, dictionary_letter, structure_letter, container_end}
use Rattle.meaning.specs.TypeText.{type_of}
use Rattle.meaning.specs.Values.{BasicValue, ValueOver, FieldsOver, Value}
use Rattle.meaning.specs.Written.{written}

-- what the events at the front of some numbers spell, and the numbers behind them; or the refusal of the first fault
pub data Built (A : Type 0) : Type 0 where
  built : A → List ℕ → Built A
  fault : ℕ → Built A

-- a builder takes events off the front, where so many containers are open
abbrev pub Builder : Type 0 → Type 0
Builder A = Depths → List ℕ → Built A

unfoldable pub mapped : {A B : Type 0} → (A → B) → Built A → Built B
mapped f (built v r) = built (f v) r
mapped f (fault n) = fault n

unfoldable pub followed : {A B : Type 0} → Built A → (A → List ℕ → Built B) → Built B
followed (built v r) f = f v r
followed (fault n) f = fault n

-- 17 unless a test holds: a wrong event, a payload too wide or other than 0 where only 0 is carried, a bool above 1, a view outside
unfoldable pub when : {A : Type 0} → Bool → Built A → Built A
when b x = pick b x (fault no_value)

-- the refusal of a text or a depth, unless it is 0
unfoldable pub unrefused : {A : Type 0} → ℕ → Built A → Built A
unrefused n x = pick (eqb n 0) x (fault n)

-- one more container is open: its depth is judged before the next event is looked at
unfoldable pub when_shallow : {A : Type 0} → Depths → (Depths → Built A) → Built A
when_shallow d f = unrefused (depth_refusal d) (f d)

-- an event is three numbers: kind, place, payload. Fewer are an unfinished event.
unfoldable pub on_event : {A : Type 0} → List ℕ → (ℕ → ℕ → ℕ → List ℕ → Built A) → Built A
on_event [] f = fault no_value
on_event (k ∷ []) f = fault no_value
on_event (k ∷ p ∷ []) f = fault no_value
on_event (k ∷ p ∷ n ∷ r) f = f k p n r

-- an event of a kind that carries only 0
unfoldable pub on_plain : {A : Type 0} → ℕ → List ℕ → (List ℕ → Built A) → Built A
on_plain kind l f = on_event l (λ k p n r. when (eqb k kind && eqb n 0) (f r))

-- and then the event that closes the container
unfoldable pub sealed : {A : Type 0} → Built A → Built A
sealed x = followed x (λ v l. on_plain container_end l (λ r. built v r))

-- a maybe by the kind of its event: nothing, which opens nothing, or present, followed by its child and by no close
unfoldable pub maybe_by : {A : Type 0} → Builder A → Depths → ℕ → List ℕ → Built (Option A)
maybe_by child d k r =
    pick (eqb k nothing_letter) (built none r)
    (when (eqb k maybe_letter) (when_shallow (opened Depth.maybe d) (λ d'. mapped some (child d' r))))

unfoldable pub build_maybe : {A : Type 0} → Builder A → Builder (Option A)
build_maybe child d l = on_event l (λ k p n r. when (eqb n 0) (maybe_by child d k r))

-- elements, up to an event that closes; an element takes numbers, so that the numbers' length is steps enough
unfoldable pub build_many : {A : Type 0} → ℕ → (List ℕ → Built A) → List ℕ → Built (List A)
build_many zero child l = fault no_value
build_many (suc f) child l = on_event l (λ k p n r.
    pick (eqb k container_end) (built [] l) (followed (child l) (λ v s. mapped (λ vs. v ∷ vs) (build_many f child s))))

-- kind: an array's or a dictionary's, whose entries have no events of their own
unfoldable pub build_array : {A : Type 0} → ℕ → Builder A → Builder (List A)
build_array kind child d l =
    on_plain kind l (λ r. when_shallow (opened Depth.array d) (λ d'. sealed (build_many (length l) (child d') r)))

unfoldable pub build_both : {A B : Type 0} → Builder A → Builder B → Builder (A × B)
build_both one other d l = followed (one d l) (λ v r. mapped (λ w. (v, w)) (other d r))

unfoldable pub build_structure : {A : Type 0} → Builder A → Builder A
build_structure fields d l = on_plain structure_letter l (λ r. when_shallow (opened Depth.structure d) (λ d'. sealed (fields d' r)))

-- a variant's type is refused by 9; its depth is judged after its type
unfoldable pub variant_by : {F : Tree → Type 0} → ((t : Tree) → Builder (F t)) → Depths → List ℕ → Option Tree → Built ((t : Tree) × F t)
variant_by child d r none = fault variant_type_refused
variant_by child d r (some t) = when_shallow (opened Depth.variant d) (λ d'. sealed (mapped (λ v. (t, v)) (child t d' r)))

-- texts are views of a byte slice: place and payload are where one begins, and its length
module _ (texts : List ℕ) where
  -- a text's view lies inside the slice, or 17; then 5, then 6
  unfoldable pub on_text : {A : Type 0} → ℕ → List ℕ → (List ℕ → List ℕ → Built A) → Built A
  on_text kind l f = on_event l (λ k p n r.
      when (eqb k kind && holds texts p n) (unrefused (text_refusal (take n (drop p texts))) (f (take n (drop p texts)) r)))

  unfoldable pub build_basic : (b : Basic) → List ℕ → Built (BasicValue b)
  build_basic bool l = on_event l (λ k p n r. when (eqb k bool_letter && leb n 1) (built (eqb n 1) r))
  build_basic (number c) l = on_event l (λ k p n r. when (eqb k (number_letter c) && ltb n (256 ^ number_width c)) (built n r))
  build_basic (text c) l = on_text (text_letter c) l (λ t r. built t r)

  -- after `v` come a `g` event for the signature, then the value
  unfoldable pub build_variant : {F : Tree → Type 0} → ((t : Tree) → Builder (F t)) → Builder ((t : Tree) × F t)
  build_variant child d l = on_plain variant_letter l (λ q. on_text signature_letter q (λ s r. variant_by child d r (type_of s)))

  module _ {Held : Type 0} (variants : Builder Held) where
    unfoldable mutual
      pub build_over : (t : Tree) → Builder (ValueOver Held t)
      build_over (basic b) = λ d l. build_basic b l
      build_over variant = variants
      build_over (maybe t) = build_maybe (build_over t)
      build_over (array t) = build_array array_letter (build_over t)
      build_over (dictionary b t) = build_array dictionary_letter (build_both (λ d l. build_basic b l) (build_over t))
      build_over (structure ts) = build_structure (build_fields ts)

      pub build_fields : (ts : Fields) → Builder (FieldsOver Held ts)
      build_fields (last t) = build_over t
      build_fields (next t ts) = build_both (build_over t) (build_fields ts)

  -- THE VALUE that events spell, with at most so many variants one inside another; where there are more, the depth is refused
  unfoldable pub build : (n : ℕ) (t : Tree) → Builder (Value n t)
  build zero t = build_over (λ d l. fault containers_too_deep) t
  build (suc n) t = build_over (build_variant (λ u. build n u)) t

-- what a write makes: the refusal, 0 if done; the frame, empty if refused
pub record Framed : Type 0 where
  pub refusal : ℕ
  pub frame : List ℕ

abbrev pub framed : ℕ → List ℕ → Framed
framed n l = record { refusal = n; frame = l }

-- 2, where the frame is over its limit
unfoldable pub limited : List ℕ → Framed
limited l = pick (leb (length l) largest_frame) (framed 0 l) (framed over_limit [])

-- the written form of a value; numbers left over behind its events are 17
unfoldable pub frame_built : Bool → (t : Tree) → Built (Value most_variants t) → Framed
frame_built big t (built v []) = limited (written big most_variants t v)
frame_built big t (built v (k ∷ r)) = framed no_value []
frame_built big t (fault n) = framed n []

unfoldable pub frame_typed : Bool → List ℕ → List ℕ → Option Tree → Framed
frame_typed big numbers texts none = framed type_refused []
frame_typed big numbers texts (some t) = frame_built big t (build texts most_variants t none_open numbers)

-- the order: 1; the first fault in event order, 17, 5, 6, 9, 10 to 12; 2
unfoldable pub frame_writing : List ℕ → Bool → List ℕ → List ℕ → Framed
frame_writing type big numbers texts = frame_typed big numbers texts (type_of type)

-- then 13, where the frame has no room
unfoldable pub roomed : ℕ → Framed → Framed
roomed room f = pick (leb (length f.frame) room) f (framed room_too_small [])

-- what the call returns: the refusal, and the frame's length; every refusal has length 0
pub record WriteAnswer : Type 0 where
  pub refusal : ℕ
  pub used : ℕ

abbrev pub write_answer : ℕ → ℕ → WriteAnswer
write_answer r n = record { refusal = r; used = n }

unfoldable pub write_answered : Framed → WriteAnswer
write_answered f = write_answer f.refusal (length f.frame)

-- the frame at the front; what is left of the output is unchanged
unfoldable pub output_with : List ℕ → Framed → List ℕ
output_with out f = f.frame ++ drop (length f.frame) out

-- WRITE: the answer, and the output afterwards
unfoldable pub write : List ℕ → Bool → List ℕ → List ℕ → List ℕ → WriteAnswer
write type big numbers texts out = write_answered (roomed (length out) (frame_writing type big numbers texts))

unfoldable pub write_slice : List ℕ → Bool → List ℕ → List ℕ → List ℕ → List ℕ
write_slice type big numbers texts out = output_with out (roomed (length out) (frame_writing type big numbers texts))
