-- The texts of a written value stand in its frame, where its events say: the frame shows its own events. Assumes nothing.
use mathlib.Core.Path.{◌≡◌, refl, sym, ◌∙◌}
use mathlib.Core.List.{List, [], ◌∷◌, ◌++◌, map, append-nil, append_assoc}
use mathlib.Core.Option.{Option, none, some}
use mathlib.Core.Bool.{Bool, true, false}
use Prim.Native.Nat.{ℕ, zero, suc, ◌+◌, ◌≤◌}
use native.Mathlib.Omega.{arith}
use lib.Dec.{T}
use lib.ListN.{length, take, drop, length-append, length-replicate}
use lib.Seq.{take_at, drop_at}
use Rattle.meaning.specs.Padding.{padding, zeros}
use Rattle.meaning.specs.Types.{Basic, bool, number, text, Tree, Fields, basic, variant, maybe, array, dictionary, structure, last, next, alignment, largest_alignment, fixed, all_fixed, entry_alignment, entry_fixed}
use Rattle.meaning.specs.Letters.{bool_letter, number_letter, signature_letter, text_letter, is_text_letter, variant_letter, maybe_letter, nothing_letter, array_letter, dictionary_letter, structure_letter, container_end}
use Rattle.meaning.specs.TypeText.{type_text}
use Rattle.meaning.specs.Events.{Event, event, text_event, triples}
use Rattle.meaning.specs.Values.{BasicValue, ValueOver, FieldsOver, Value}
use Rattle.meaning.specs.Written.{Piece, stop, layout, events_from, bit, basic_piece, maybe_piece, enclosing, array_bytes, array_piece, structure_bytes, structure_piece, entry_piece, variant_piece, piece_over, pieces_over, piece, written}
use Rattle.meaning_writing.specs.Shown as Shown
use Rattle.meaning_writing.specs.Shown.{Shows}
use Rattle.meaning_writing.proofs.ShownLaws.{number_plain, not_textual}
use Rattle.meaning.proofs.LayoutLaws.{All, nil, cons, layout_cons, events_cons}

-- an event whose text, if it has one, stands in the frame
pub record TextStands (frame : List ℕ) (e : Event) : Type 0 where
  pub contained : T (is_text_letter e.kind) → e.place + e.payload ≤ length frame
  pub same : T (is_text_letter e.kind) → take e.payload (drop e.place frame) ≡ e.text

pub data AllStand (frame : List ℕ) : List Event → Type 0 where
  ended : AllStand frame []
  more : {e : Event} {es : List Event} → TextStands frame e → AllStand frame es → AllStand frame (e ∷ es)

stand_append : {frame : List ℕ} {es fs : List Event} → AllStand frame es → AllStand frame fs → AllStand frame (es ++ fs)
stand_append ended t = t
stand_append (more h s) t = more h (stand_append s t)

-- such events are shown by their own numbers
pub stand_shown : {frame : List ℕ} {es : List Event} → AllStand frame es → Shows frame (triples es) es []
unfolding triples
stand_shown ended = Shown.ended
stand_shown (more {e} h s) = Shown.more (record { place = e.place; is = refl; contained = h.contained; same = h.same }) (stand_shown s)

plain_stands : {frame : List ℕ} (kind k n : ℕ) → is_text_letter kind ≡ false → TextStands frame (event kind k n)
plain_stands kind k n h = record { contained = λ t. not_textual kind h t; same = λ t. not_textual kind h t }

text_stands : (kind k : ℕ) (x v y frame : List ℕ) → length x ≡ k → frame ≡ x ++ (v ++ y) → TextStands frame (text_event kind k v)
text_stands kind k x v y frame h e = record {
  contained = λ t. rw e (simp length-append (omega arith));
  same = λ t. rw e (rw (drop_at x (v ++ y) k h) (take_at v y (length v) refl));
}

-- a container's events round events that stand
enclosed_stand : {frame : List ℕ} (kind k n : ℕ) {es : List Event} → is_text_letter kind ≡ false → AllStand frame es → AllStand frame (enclosing kind k n es)
enclosed_stand kind k n h s = more (plain_stands kind k 0 h) (stand_append s (more (plain_stands container_end (k + n) 0 refl) ended))

-- a piece whose texts stand in every frame in which it stands
abbrev pub Standing : Piece → Type 0
Standing c = (k : ℕ) (x y frame : List ℕ) → length x ≡ k → frame ≡ x ++ (c.bytes ++ y) → AllStand frame (c.events k)

-- children laid out from the place j, where place 0 is p
layout_stands : (cs : List Piece) → All Standing cs → (p j : ℕ) (x y frame : List ℕ) → length x ≡ p + j → frame ≡ x ++ (layout j cs ++ y) → AllStand frame (events_from p j cs)
layout_stands [] nil p j x y frame h e = unfold events_from in ended
layout_stands (c ∷ cs) (cons g gs) p j x y frame h e =
    let z : List ℕ = zeros (padding j c.alignment) in
    let e₁ : frame ≡ (x ++ z) ++ (c.bytes ++ (layout (stop j c) cs ++ y)) = e ∙ rw layout_cons (simp append_assoc) in
    let e₂ : frame ≡ ((x ++ z) ++ c.bytes) ++ (layout (stop j c) cs ++ y) = e₁ ∙ simp append_assoc in
    let h₁ : length (x ++ z) ≡ p + (j + padding j c.alignment) = simp (length-append, length-replicate) (omega arith) in
    let h₂ : length ((x ++ z) ++ c.bytes) ≡ p + stop j c = unfold stop in simp (length-append, length-replicate) (omega arith) in
    rw events_cons (stand_append (g (p + (j + padding j c.alignment)) (x ++ z) (layout (stop j c) cs ++ y) frame h₁ e₁) (layout_stands cs gs p (stop j c) ((x ++ z) ++ c.bytes) y frame h₂ e₂))

-- a body whose children stand, with something behind it
body_stands : (cs : List Piece) → All Standing cs → (b : List ℕ) (k : ℕ) (x y frame : List ℕ) → length x ≡ k → frame ≡ x ++ ((layout 0 cs ++ b) ++ y) → AllStand frame (events_from k 0 cs)
body_stands cs g b k x y frame h e = layout_stands cs g k 0 x (b ++ y) frame (omega arith) (e ∙ simp append_assoc)

basic_standing : (big : Bool) (b : Basic) (v : BasicValue b) → Standing (basic_piece big b v)
unfolding basic_piece
basic_standing big bool v k x y frame h e = more (plain_stands bool_letter k (bit v) refl) ended
basic_standing big (number c) v k x y frame h e = more (plain_stands (number_letter c) k v (number_plain c).no_text) ended
basic_standing big (text c) v k x y frame h e = more (text_stands (text_letter c) k x v (0 ∷ y) frame h (e ∙ simp append_assoc)) ended

maybe_standing : {A : Type 0} (a : ℕ) (fx : Bool) (p : A → Piece) → ((v : A) → Standing (p v)) → (v : Option A) → Standing (maybe_piece a fx p v)
unfolding maybe_piece
maybe_standing a fx p g none k x y frame h e = more (plain_stands nothing_letter k 0 refl) ended
maybe_standing a true p g (some v) k x y frame h e = more (plain_stands maybe_letter k 0 refl) (g v k x y frame h e)
maybe_standing a false p g (some v) k x y frame h e = more (plain_stands maybe_letter k 0 refl) (g v k x (0 ∷ y) frame h (e ∙ simp append_assoc))

array_standing : (kind a : ℕ) (fx : Bool) (cs : List Piece) → is_text_letter kind ≡ false → All Standing cs → Standing (array_piece kind a fx cs)
unfolding array_piece array_bytes
array_standing kind a true cs t g k x y frame h e = enclosed_stand kind k _ t (layout_stands cs g k 0 x y frame (omega arith) e)
array_standing kind a false cs t g k x y frame h e = enclosed_stand kind k _ t (body_stands cs g _ k x y frame h e)

fields_standing : (a : ℕ) (fx : Bool) (cs : List Piece) → All Standing cs → (k : ℕ) (x y frame : List ℕ) → length x ≡ k → frame ≡ x ++ (structure_bytes a fx cs ++ y) → AllStand frame (events_from k 0 cs)
unfolding structure_bytes
fields_standing a true cs g k x y frame h e = body_stands cs g _ k x y frame h e
fields_standing a false cs g k x y frame h e = body_stands cs g _ k x y frame h e

structure_standing : (a : ℕ) (fx : Bool) (cs : List Piece) → All Standing cs → Standing (structure_piece a fx cs)
unfolding structure_piece
structure_standing a fx cs g k x y frame h e = enclosed_stand structure_letter k _ refl (fields_standing a fx cs g k x y frame h e)

entry_standing : (a : ℕ) (fx : Bool) (cs : List Piece) → All Standing cs → Standing (entry_piece a fx cs)
unfolding entry_piece
entry_standing a fx cs g k x y frame h e = fields_standing a fx cs g k x y frame h e

variant_standing : (t : Tree) (c : Piece) → Standing c → Standing (variant_piece t c)
unfolding variant_piece
variant_standing t c g k x y frame h e =
    let e₁ : frame ≡ x ++ (c.bytes ++ ((0 ∷ type_text t) ++ y)) = e ∙ simp append_assoc in
    let e₂ : frame ≡ (x ++ (c.bytes ++ (0 ∷ []))) ++ (type_text t ++ y) = e ∙ simp append_assoc in
    let h₂ : length (x ++ (c.bytes ++ (0 ∷ []))) ≡ k + (length c.bytes + 1) = simp length-append (omega arith) in
    enclosed_stand variant_letter k _ refl (more (text_stands signature_letter (k + (length c.bytes + 1)) (x ++ (c.bytes ++ (0 ∷ []))) (type_text t) y frame h₂ e₂) (g k x ((0 ∷ type_text t) ++ y) frame h e₁))

all_standing : {A : Type 0} (p : A → Piece) → ((v : A) → Standing (p v)) → (vs : List A) → All Standing (map p vs)
all_standing p g [] = nil
all_standing p g (v ∷ vs) = cons (g v) (all_standing p g vs)

module _ (big : Bool) {Held : Type 0} (held : Held → Piece) (hx : (x : Held) → Standing (held x)) where
  mutual
    unfolding piece_over

    over_standing : (t : Tree) (v : ValueOver Held t) → Standing (piece_over big held t v)
    over_standing (basic b) v = basic_standing big b v
    over_standing variant v = hx v
    over_standing (maybe t) v = maybe_standing (alignment t) (fixed t) (λ x. piece_over big held t x) (λ x. over_standing t x) v
    over_standing (array t) v = array_standing array_letter (alignment t) (fixed t) (map (λ x. piece_over big held t x) v) refl (all_standing (λ x. piece_over big held t x) (λ x. over_standing t x) v)
    over_standing (dictionary b t) v = array_standing dictionary_letter (entry_alignment b t) (entry_fixed b t) _ refl
        (all_standing (λ x. entry_piece (entry_alignment b t) (entry_fixed b t) (basic_piece big b x.0 ∷ piece_over big held t x.1 ∷ []))
        (λ x. entry_standing (entry_alignment b t) (entry_fixed b t) _ (cons (basic_standing big b x.0) (cons (over_standing t x.1) nil))) v)
    over_standing (structure ts) v = structure_standing (largest_alignment ts) (all_fixed ts) (pieces_over big held ts v) (fields_stand ts v)

    fields_stand : (ts : Fields) (v : FieldsOver Held ts) → All Standing (pieces_over big held ts v)
    fields_stand (last t) v = cons (over_standing t v) nil
    fields_stand (next t ts) v = cons (over_standing t v.0) (fields_stand ts v.1)

pub piece_standing : (big : Bool) (n : ℕ) (t : Tree) (v : Value n t) → Standing (piece big n t v)
unfolding piece
piece_standing big zero t v = over_standing big (λ x. absurd x) (λ x. absurd x) t v
piece_standing big (suc n) t v = over_standing big (λ x. variant_piece x.0 (piece big n x.0 x.1)) (λ x. variant_standing x.0 (piece big n x.0 x.1) (piece_standing big n x.0 x.1)) t v

-- a written frame shows its own events
pub frame_shows : (big : Bool) (n : ℕ) (t : Tree) (v : Value n t) → Shows (written big n t v) (triples ((piece big n t v).events 0)) ((piece big n t v).events 0) []
unfolding written
frame_shows big n t v = stand_shown (piece_standing big n t v 0 [] [] (written big n t v) refl (sym (append-nil (piece big n t v).bytes)))
