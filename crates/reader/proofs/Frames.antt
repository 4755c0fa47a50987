-- A whole frame: a law for each way out of whole, and from its answer to those of size and read. Assumes nothing.
use mathlib.Core.Path.{◌≡◌, refl, ap, sym, ◌∙◌}
use mathlib.Core.List.{List, [], ◌∷◌, ◌++◌}
use mathlib.Core.Bool.{Bool, true, false, ◌&&◌}
use Prim.Native.Nat.{ℕ, ◌-◌, ◌*◌, ◌/◌, ◌≤◌, ◌<◌}
use native.Mathlib.Omega.{arith}
use native.Mathlib.Nat.{zero-add}
use lib.Dec.{leb, eqb}
use lib.ListN.{length, take, drop}
use lib.Seq.{take-length, take-append_seam}
use borrow.Author.Tests.{eq-eqb, ne_eqb, eqb-true, le-leb, lt-leb}
use Rattle.meaning.specs.Choice.{pick}
use Rattle.meaning.specs.Depths.{Depths, none_open, depth_refusal}
use Rattle.meaning.specs.Outcome.{Outcome}
use Rattle.meaning.specs.Events.{Event, triples}
use Rattle.meaning.specs.Limits.{largest_frame}
use Rattle.meaning.specs.Calls.{frame_of, frame_reading, Counts, counts, sized, fitted, filled, size, read, read_slice}
use Rattle.meaning.proofs.Bounds.{frame_events}
use Rattle.container_depths.specs.Opening.{depths_of}
use Rattle.container_depths.specs.declared.ContainerDepths.{ContainerDepths}
use Rattle.signature.specs.Places.{is_type}
use Rattle.meaning.specs.Reading.{child}
use Rattle.reader_basic.specs.Answers.{Done, Whole, Between}
use Rattle.reader_steps.specs.Places.{reader_of}
use Rattle.reader_basic.specs.Parts.{Within}
use Rattle.reader_basic.proofs.Answers.{answer, refusing}
use Rattle.signature.specs.Trees.{tree_at}
use Rattle.signature.proofs.Answers.{judged_none}
use Rattle.signature.proofs.TreeLaws.{Front}
use Rattle.events.proofs.SliceLaws.{advance_most, fills}

-- a frame is within the limits, with no container open
pub within_frame : {len position : ℕ} {d : ContainerDepths} → len ≤ 65536 → position ≤ 65536 → depths_of d ≡ none_open → Within len 0 position d
within_frame {len} h i e = record { in_frame = rw (zero-add len) h; near = i; shallow = rw e (unfold depth_refusal in refl) }

-- a frame is all of its part
pub child_all : (R : ℕ → List ℕ → Outcome) (frame : List ℕ) (n : ℕ) (l l' : List ℕ) (r : Counts) → Between (child R 0 frame 0 (length frame)) frame 0 (length frame) n l l' r → Whole (R 0 frame) frame n l l' r
unfolding child
child_all R frame n l l' r d =
    let z : length frame - 0 ≡ length frame = omega arith in
    rw (le-leb 0 (length frame) (omega arith), le-leb (length frame) (length frame) (omega arith), z, take-length frame) at d

-- ---- the ways out of whole

module _ (type : List ℕ) (big : Bool) (position : ℕ) (frame l : List ℕ) where
  abbrev reads : List ℕ → Counts → Type 0
  reads l' r = Done (frame_reading type big position frame) (length frame) (length frame) 0 l l' r

  pub whole_type : is_type type ≡ false → reads l (answer 1 0 0)
  unfolding frame_reading frame_of
  whole_type h = rw (judged_none type h) (refusing 1 0 (length frame) (length frame) 0 l (λ w. omega arith))

  module _ (j : Front type) where
    whole_past : (leb (length frame) largest_frame && leb position largest_frame) ≡ false → reads l (answer 2 0 0)
    unfolding frame_reading frame_of
    whole_past h = rw (j.type, h) (refusing 2 0 (length frame) (length frame) 0 l (λ w. omega arith))

    pub whole_long : 65536 < length frame → reads l (answer 2 0 0)
    whole_long h = whole_past (rw (lt-leb (length frame) 65536 h))

    pub whole_far : length frame ≤ 65536 → 65536 < position → reads l (answer 2 0 0)
    whole_far h i = whole_past (rw (le-leb (length frame) 65536 h, lt-leb position 65536 i))

    module _ (h : length frame ≤ 65536) (i : position ≤ 65536) (d : ContainerDepths) (e : depths_of d ≡ none_open) where
      pub whole_read : (x : ℕ) → x ≡ 0 → (l' : List ℕ) (r : Counts) → Done (reader_of position big d.variant (tree_at type x) (depths_of d) 0 frame) (length frame) (length frame) 0 l l' r → reads l' r
      unfolding frame_reading frame_of
      whole_read x q l' r c =
          let v : d.variant ≡ 0 = ap (λ (x : Depths). x.variant) e in
          rw (j.type, le-leb (length frame) 65536 h, le-leb position 65536 i) (rw (q, e, v) at c)

-- ---- counts

counts_by : {a b : Counts} → a.refusal ≡ b.refusal → a.used ≡ b.used → a.count ≡ b.count → a ≡ b
counts_by {a} {b} p q r = let e : counts a.refusal a.used a.count ≡ counts b.refusal b.used b.count = rw (p, q, r) in e

-- ---- from the answer of whole to those of size and read

module _ (type : List ℕ) (big : Bool) (position : ℕ) (frame : List ℕ) where
  abbrev o : Outcome
  o = frame_reading type big position frame

  module _ {end len : ℕ} {l l' : List ℕ} {r : Counts} (d : Done o end len 0 l l' r) where
    few : r.refusal ≡ 0 → length o.events ≤ 8454273
    few z = frame_events type big position frame (sym d.refusal ∙ z)

    counted : r.refusal ≡ 0 → r.count ≡ length o.events
    counted z =
        let m = few z in
        d.count ∙ advance_most o.events 0 (omega arith) ∙ omega arith

    pub size_done : r.refusal ≡ 0 → r ≡ size type big position frame
    unfolding size sized
    size_done z = rw (eq-eqb o.refusal 0 (sym d.refusal ∙ z)) (counts_by z d.used (counted z))

    pub size_refused : (r.refusal ≡ 0 → ⊥) → answer r.refusal 0 0 ≡ size type big position frame
    unfolding size sized
    size_refused z = rw (ne_eqb o.refusal 0 (λ w. z (d.refusal ∙ w))) (counts_by d.refusal refl refl)

  module _ (out : List ℕ) (s : Counts) (h : s ≡ size type big position frame) where
    pub same_refusal : s.refusal ≡ o.refusal
    unfolding size sized
    same_refusal = go (eqb o.refusal 0) refl (ap (λ (x : Counts). x.refusal) h)
      where
        go : (b : Bool) → eqb o.refusal 0 ≡ b → s.refusal ≡ (pick b (counts 0 o.used (length o.events)) (counts o.refusal 0 0)).refusal → s.refusal ≡ o.refusal
        go true p q = q ∙ sym (eqb-true o.refusal 0 p)
        go false p q = q

    module _ (z : s.refusal ≡ 0 → ⊥) where
      is_refused : size type big position frame ≡ counts o.refusal 0 0
      unfolding size sized
      is_refused = rw (ne_eqb o.refusal 0 (λ w. z (same_refusal ∙ w)))

      pub read_refused : s ≡ read type big position frame out
      unfolding read fitted
      read_refused = h ∙ rw is_refused (rw (le-leb 0 (length out) (omega arith)))

      pub slice_refused : out ≡ read_slice type big position frame out
      unfolding read_slice filled
      slice_refused = rw (← read_refused) (rw (ne_eqb s.refusal 0 z))

    module _ (i : length out / 3 < s.count) where
      pub read_small : answer 13 0 0 ≡ read type big position frame out
      unfolding read fitted
      read_small = rw (← h) (rw (lt-leb (3 * s.count) (length out) (omega arith)))

      pub slice_small : out ≡ read_slice type big position frame out
      unfolding read_slice filled
      slice_small = rw (← read_small)

    module _ (z : s.refusal ≡ 0) (i : s.count ≤ length out / 3) {end len : ℕ} (l' : List ℕ) (r : Counts) (d : Done o end len 0 out l' r) where
      zero_too : r.refusal ≡ 0
      zero_too = d.refusal ∙ sym same_refusal ∙ z

      pub read_done : r ≡ read type big position frame out
      unfolding read fitted
      read_done = size_done d zero_too ∙ rw (← h) (rw (le-leb (3 * s.count) (length out) (omega arith)))

      pub slice_done : l' ≡ read_slice type big position frame out
      unfolding read_slice filled
      slice_done =
          let m : s.count ≡ length o.events = ap (λ (x : Counts). x.count) (h ∙ sym (size_done d zero_too)) ∙ counted d zero_too in
          rw (← read_done) (rw (eq-eqb r.refusal 0 zero_too) (d.slice ∙ fills o.events [] out 0 refl (omega arith) (omega (arith, few d zero_too))))

-- ---- a frame read in one walk, whose events were held in another slice

triples_length : (es : List Event) → length (triples es) ≡ 3 * length es
unfolding triples
triples_length [] = refl
triples_length (e ∷ es) = omega (arith, triples_length es)

take_triples : (es : List Event) (b : List ℕ) → take (3 * length es) (triples es ++ b) ≡ triples es
take_triples es b = rw (← triples_length es) (take-append_seam (triples es) b)

copied : (es : List Event) (l l' out : List ℕ) (n : ℕ) → n ≡ length es → l' ≡ triples es ++ drop (3 * length es) l → take (3 * n) l' ++ drop (3 * n) out ≡ triples es ++ drop (3 * length es) out
copied es l l' out n m e = rw (m, e, take_triples es (drop (3 * length es) l))

module _ (type : List ℕ) (big : Bool) (position : ℕ) (frame out : List ℕ) where
  abbrev Answers : Counts → List ℕ → Type 0
  Answers r l = (r ≡ read type big position frame out) × (l ≡ read_slice type big position frame out)

  module _ {end len : ℕ} {l l' : List ℕ} {r : Counts} (d : Done (frame_reading type big position frame) end len 0 l l' r) where
    pub once_refused : (r.refusal ≡ 0 → ⊥) → Answers (answer r.refusal 0 0) out
    once_refused z =
        let h = size_refused type big position frame d z in
        (read_refused type big position frame out (answer r.refusal 0 0) h z, slice_refused type big position frame out (answer r.refusal 0 0) h z)

    module _ (z : r.refusal ≡ 0) where
      once_sized : r ≡ size type big position frame
      once_sized = size_done type big position frame d z

      pub once_small : length out / 3 < r.count → Answers (answer 13 0 0) out
      once_small i = (read_small type big position frame out r once_sized i, slice_small type big position frame out r once_sized i)

      module _ (i : r.count ≤ length out / 3) where
        pub once_again : {end' len' : ℕ} (l'' : List ℕ) (s : Counts) → Done (frame_reading type big position frame) end' len' 0 out l'' s → Answers s l''
        once_again l'' s e = (read_done type big position frame out r once_sized z i l'' s e, slice_done type big position frame out r once_sized z i l'' s e)

        once_read : r ≡ read type big position frame out
        unfolding read fitted
        once_read = once_sized ∙ rw (← once_sized) (rw (le-leb (3 * r.count) (length out) (omega arith)))

        once_slice : 3 * r.count ≤ length l → take (3 * r.count) l' ++ drop (3 * r.count) out ≡ read_slice type big position frame out
        unfolding read_slice filled
        once_slice k =
            let es = (frame_reading type big position frame).events in
            let m = counted type big position frame d z in
            let g = few type big position frame d z in
            rw (← once_read) (rw (eq-eqb r.refusal 0 z) (copied es l l' out r.count m (d.slice ∙ fills es [] l 0 refl (omega (arith, m)) (omega (arith, g)))))

        pub once_held : 3 * r.count ≤ length l → Answers r (take (3 * r.count) l' ++ drop (3 * r.count) out)
        once_held k = (once_read, once_slice k)

-- a text that is no type
module _ (type : List ℕ) (big : Bool) (position : ℕ) (frame : List ℕ) (h : is_type type ≡ false) where
  pub type_refused_lem : answer 1 0 0 ≡ size type big position frame
  type_refused_lem = size_refused type big position frame (whole_type type big position frame [] h) (λ w. omega arith)

  pub type_read : (out : List ℕ) → answer 1 0 0 ≡ read type big position frame out
  type_read out = read_refused type big position frame out (answer 1 0 0) type_refused_lem (λ w. omega arith)

  pub type_slice : (out : List ℕ) → out ≡ read_slice type big position frame out
  type_slice out = slice_refused type big position frame out (answer 1 0 0) type_refused_lem (λ w. omega arith)
