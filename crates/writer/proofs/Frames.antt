-- A law for each way out of the walk over a whole frame and of `write`. Assumes nothing.
use mathlib.Core.Path.{◌≡◌, refl, ap, sym, subst, ◌∙◌}
use mathlib.Core.List.{List, [], ◌∷◌, ◌++◌}
use mathlib.Core.Bool.{Bool, true, false}
use native.Mathlib.Omega.{arith}
use Prim.Native.Nat.{ℕ, ◌+◌, ◌-◌, ◌≤◌, ◌<◌}
use lib.ListN.{length, take, drop, length-drop, drop_of_length-le}
use lib.Seq.{take_all, length-take-le}
use borrow.Author.Tests.{le-leb, lt-leb}
use Rattle.meaning.specs.Depths.{Depths, none_open, depth_refusal}
use Rattle.meaning.specs.Limits.{largest_frame}
use Rattle.meaning.specs.Written.{Piece}
use Rattle.meaning_writing.specs.Writing.{Built, built, fault, Framed, framed, limited, frame_writing, roomed, write_answer, write_answered, output_with, write, write_slice}
use Rattle.meaning_writing.specs.Emitting.{emit, frame_emitted}
use Rattle.meaning_writing.proofs.EmitLaws.{frame_untyped, frame_emitted_lem}
use Rattle.container_depths.specs.Opening.{depths_of}
use Rattle.container_depths.specs.declared.ContainerDepths.{ContainerDepths}
use Rattle.signature.specs.Places.{is_type}
use Rattle.signature.specs.Trees.{tree_at}
use Rattle.signature.proofs.Answers.{judged_none}
use Rattle.signature.proofs.TreeLaws.{front}
use Rattle.writer_store.specs.Stores.{puts}
use Rattle.writer_basic.specs.Wrote.{Done, Shallow}
use Rattle.writer_basic.specs.Wrote.{Answer}
use Rattle.writer_store.proofs.Puts.{puts_room}
use Rattle.writer_cycle.specs.Places.{value_of}
use Rattle.writer.specs.Answers.{frame_of, MadeFrame, SaysFrame, WroteFrame, Judged, faulty, left, long, full, good}

-- ---- the walk

-- at the start nothing is open
pub start_shallow : (big : Bool) (d : ContainerDepths) → depths_of d ≡ none_open → Shallow (record { big = big; depths = d })
start_shallow big d e = record { is = rw e (unfold depth_refusal in refl) }

-- a piece stands at the front
front_bytes : (bs l l' : List ℕ) → take (0 + length bs) l' ≡ take 0 l ++ bs → take (length bs) l' ≡ bs
front_bytes bs l l' e = let z : 0 + length bs ≡ length bs = omega arith in rw z at e

pub whole_done : (type : List ℕ) (big : Bool) (ns texts : List ℕ) (d : ContainerDepths) (x : ℕ) (l l' s s' : List ℕ) (r : Answer) → depths_of d ≡ none_open → x ≡ 0 → length s ≡ 128
    → Done (value_of texts big d.variant (tree_at type x) (depths_of d) (drop 0 ns)) ns 0 0 0 l l' s s' r → WroteFrame (frame_of type big ns texts) ns l l' r
whole_done type big ns texts d x l l' s s' r e h m g =
    let y : Done (value_of texts big d.variant (tree_at type 0) (depths_of d) (drop 0 ns)) ns 0 0 0 l l' s s' r = rw h at g in
    let w : Done (frame_of type big ns texts) ns 0 0 0 l l' s s' r = subst (λ (x : Depths). Done (emit texts big (65 - x.variant) (tree_at type 0) x (drop 0 ns)) ns 0 0 0 l l' s s' r) e y in
    record { says = go (frame_of type big ns texts) w.says }
  where
    go : (y : Built Piece) → Rattle.writer_basic.specs.Wrote.Says y ns 0 0 0 l l' s s' r → SaysFrame y ns l l' r
    go (built c rest) f = record {
      refusal = f.refusal;
      behind = f.behind;
      size = f.size;
      stored = λ k i. front_bytes c.bytes l l' (f.stored (record { inside = omega arith; limit = i; ready = omega arith })).bytes_are;
    }
    go (fault k) f = f

-- what it says of what it answers
record IsFrame (x : Built Piece) (ns l l' : List ℕ) (r : Answer) : Type 0 where
  pub piece : Piece
  pub rest : List ℕ
  pub is : x ≡ built piece rest
  pub facts : MadeFrame piece rest ns l l' r

module _ {x : Built Piece} {ns l l' : List ℕ} {r : Answer} (d : WroteFrame x ns l l' r) where
  frame_of_lem : r.refusal ≡ 0 → IsFrame x ns l l' r
  frame_of_lem z = go x refl d.says
    where
      go : (y : Built Piece) → x ≡ y → SaysFrame y ns l l' r → IsFrame x ns l l' r
      go (built c rest) e d = record { piece = c; rest = rest; is = e; facts = d }
      go (fault n) e d = absurd (d.real (sym d.refusal ∙ z))

  frame_fault : (r.refusal ≡ 0 → ⊥) → x ≡ fault r.refusal
  frame_fault z = go x d.says
    where
      go : (y : Built Piece) → SaysFrame y ns l l' r → y ≡ fault r.refusal
      go (built c rest) d = absurd (z d.refusal)
      go (fault n) d = rw d.refusal

-- ---- write

module _ (type : List ℕ) (big : Bool) (ns texts out : List ℕ) where
  -- an answer, and the output afterwards
  abbrev pub Answers : ℕ → ℕ → List ℕ → Type 0
  Answers n u out' = (write_answer n u ≡ write type big ns texts out) × (out' ≡ write_slice type big ns texts out)

  answer_is : (f : Framed) → frame_writing type big ns texts ≡ f → length f.frame ≤ length out → write type big ns texts out ≡ write_answer f.refusal (length f.frame)
  unfolding write roomed write_answered
  answer_is f e h = rw (e, le-leb (length f.frame) (length out) h)

  slice_is : (f : Framed) → frame_writing type big ns texts ≡ f → length f.frame ≤ length out → write_slice type big ns texts out ≡ f.frame ++ drop (length f.frame) out
  unfolding write_slice roomed output_with
  slice_is f e h = rw (e, le-leb (length f.frame) (length out) h)

  refused_is : (n : ℕ) → frame_writing type big ns texts ≡ framed n [] → Answers n 0 out
  refused_is n e = (sym (answer_is (framed n []) e (omega arith)), sym (slice_is (framed n []) e (omega arith)))

  pub write_untyped : is_type type ≡ false → Answers 1 0 out
  write_untyped h = refused_is 1 (frame_untyped type big ns texts (judged_none type h))

  module _ (h : is_type type ≡ true) where
    emitted_is : frame_writing type big ns texts ≡ frame_emitted (frame_of type big ns texts)
    emitted_is = frame_emitted_lem type big ns texts (tree_at type 0) (front type h).type

    module _ (l l' : List ℕ) (r : Answer) (d : WroteFrame (frame_of type big ns texts) ns l l' r) where
      write_fault : (r.refusal ≡ 0 → ⊥) → Answers r.refusal 0 out
      unfolding frame_emitted
      write_fault z = refused_is r.refusal (emitted_is ∙ ap frame_emitted (frame_fault d z))

      module _ (z : r.refusal ≡ 0) where
        more_left : (x : List ℕ) (c : Piece) → 0 < length x → frame_emitted (built c x) ≡ framed 17 []
        unfolding frame_emitted
        more_left [] c p = absurd (omega arith)
        more_left (k ∷ x) c p = refl

        write_left : r.next < length ns → Answers 17 0 out
        write_left p =
            let m = frame_of_lem d z in
            refused_is 17 (emitted_is ∙ ap frame_emitted (m.is ∙ ap (built m.piece) m.facts.behind) ∙ more_left (drop r.next ns) m.piece (rw (length-drop r.next ns) (omega arith)))

        module _ (p : length ns ≤ r.next) where
          whole_is : (m : IsFrame (frame_of type big ns texts) ns l l' r) → frame_writing type big ns texts ≡ limited m.piece.bytes
          unfolding frame_emitted
          whole_is m =
              let y : drop r.next ns ≡ [] = drop_of_length-le ns p in
              emitted_is ∙ ap frame_emitted (m.is ∙ ap (built m.piece) (m.facts.behind ∙ y))

          write_long : 65536 < r.size → Answers 2 0 out
          unfolding limited
          write_long q = let m = frame_of_lem d z in refused_is 2 (whole_is m ∙ rw (lt-leb (length m.piece.bytes) largest_frame (omega (arith, m.facts.size))))

          module _ (q : r.size ≤ 65536) where
            short_is : (m : IsFrame (frame_of type big ns texts) ns l l' r) → frame_writing type big ns texts ≡ framed 0 m.piece.bytes
            unfolding limited
            short_is m = whole_is m ∙ rw (le-leb (length m.piece.bytes) largest_frame (omega (arith, m.facts.size)))

            size_is : (m : IsFrame (frame_of type big ns texts) ns l l' r) → r.size ≡ length m.piece.bytes
            size_is m = omega (arith, m.facts.size)

            write_full : length out < r.size → Answers 13 0 out
            unfolding write write_slice roomed write_answered output_with
            write_full w =
                let m = frame_of_lem d z in
                let e = short_is m in
                let k = lt-leb (length m.piece.bytes) (length out) (omega (arith, size_is m)) in
                (rw (e, k), rw (e, k))

            -- a walk over an output with room for the frame has the frame's bytes in front
            front_of : (m : IsFrame (frame_of type big ns texts) ns l l' r) (part part' : List ℕ) (r' : Answer) → WroteFrame (frame_of type big ns texts) ns part part' r' → r.size ≤ length part → length part ≤ largest_frame → take r.size part' ≡ m.piece.bytes
            front_of m part part' r' g i j = ap (λ (u : ℕ). take u part') (size_is m) ∙ go (frame_of type big ns texts) m.is g.says
              where
                go : (x : Built Piece) → x ≡ built m.piece m.rest → SaysFrame x ns part part' r' → take (length m.piece.bytes) part' ≡ m.piece.bytes
                go x e f = (rw e at f).stored (omega (arith, size_is m)) j

            module _ (w : r.size ≤ length out) where
              done_with : (m : IsFrame (frame_of type big ns texts) ns l l' r) (out' : List ℕ) → out' ≡ m.piece.bytes ++ drop r.size out → Answers 0 r.size out'
              done_with m out' k =
                  let y = size_is m in
                  let b : length m.piece.bytes ≤ length out = omega arith in
                  (ap (write_answer 0) y ∙ sym (answer_is (framed 0 m.piece.bytes) (short_is m) b), k ∙ (ap (λ (u : ℕ). m.piece.bytes ++ drop u out) y ∙ sym (slice_is (framed 0 m.piece.bytes) (short_is m) b)))

              -- the second walk, over an output of the frame's length
              pub write_again : (part part' : List ℕ) (r' : Answer) → length part ≡ r.size → length part' ≡ length part → WroteFrame (frame_of type big ns texts) ns part part' r' → Answers 0 r.size (part' ++ drop r.size out)
              write_again part part' r' n n' g =
                  let m = frame_of_lem d z in
                  let k : part' ≡ m.piece.bytes = sym (take_all r.size part' (omega arith)) ∙ front_of m part part' r' g (omega arith) (omega arith) in
                  done_with m (part' ++ drop r.size out) (ap (λ (x : List ℕ). x ++ drop r.size out) k)

              -- the first walk's bytes, where they were held
              pub write_held : (out' : List ℕ) → r.size ≤ length l → length l ≤ largest_frame → out' ≡ puts out 0 (take r.size l') → Answers 0 r.size out'
              write_held out' i j e =
                  let m = frame_of_lem d z in
                  let k = front_of m l l' r d i j in
                  let y : 0 + length m.piece.bytes ≡ r.size = omega (arith, size_is m) in
                  done_with m out' (e ∙ ap (puts out 0) k ∙ puts_room m.piece.bytes out 0 (omega arith) ∙ ap (λ (u : ℕ). m.piece.bytes ++ drop u out) y)

      -- what the walk's answer is refused for, and what is known where it is not
      pub write_refused : (n : ℕ) → Judged r (length ns) (length out) n → (n ≡ 0 → ⊥) → Answers n 0 out
      write_refused n (faulty z e) k = rw e (write_fault z)
      write_refused n (left z p e) k = rw e (write_left z p)
      write_refused n (long z p q e) k = rw e (write_long z p q)
      write_refused n (full z p q w e) k = rw e (write_full z p q w)
      write_refused n (good z p q w e) k = absurd (k e)

-- a walk that is not refused
pub record Good (a : Answer) (numbers room : ℕ) : Type 0 where
  pub refusal : a.refusal ≡ 0
  pub all : numbers ≤ a.next
  pub short : a.size ≤ largest_frame
  pub fits : a.size ≤ room

pub judged_good : (a : Answer) (numbers room n : ℕ) → Judged a numbers room n → n ≡ 0 → Good a numbers room
judged_good a numbers room n (faulty z e) k = absurd (z (sym e ∙ k))
judged_good a numbers room n (left z p e) k = absurd (omega arith)
judged_good a numbers room n (long z p q e) k = absurd (omega arith)
judged_good a numbers room n (full z p q w e) k = absurd (omega arith)
judged_good a numbers room n (good z p q w e) k = record { refusal = z; all = p; short = q; fits = w }

-- the bytes that were held fit where the frame does
pub held_fits : (n m : ℕ) (l : List ℕ) → n ≤ length l → n ≤ m → 0 + length (take n l) ≤ m
held_fits n m l h k = rw (length-take-le n l h) (omega arith)
