-- THE LISTING: whatever the blocks and the room of the calls, what they print from a fresh state on is the listing of the input.
-- Assumes nothing.
use mathlib.Core.Path.{◌≡◌, refl, sym, subst, ap, ap₂, ◌∙◌}
use mathlib.Core.List.{List, [], ◌∷◌, ◌++◌, append_assoc, append-nil}
use mathlib.Core.Bool.{Bool, true, false}
use Prim.Native.Nat.{ℕ, ◌+◌, ◌-◌, ◌*◌, ◌%◌, ◌≤◌}
use native.Mathlib.Numerals.{add-one}
use native.Mathlib.Omega.{arith}
use lib.Dec.{ltb, eqb}
use lib.ListN.{length, take, drop}
use borrow.Author.Tests.{le-ltb, ltb-true, eqb-true, eqb-false, ne_eqb}
use Rattle.meaning.specs.Choice.{pick}
use Rattle.meaning.specs.TypeText.{type_of}
use Rattle.meaning.specs.Calls.{counts}
use Rattle.signature.specs.Places.{there_is}
use Rattle.numerals.specs.Hexadecimal.{digit, digit_in}
use Rattle.lines.specs.Lines.{lines_from, last_line, lines, Keeps}
use Rattle.lines.proofs.GatherLaws.{keeps_none, keeps_more}
use Rattle.listing.specs.Listing.{answer, printed, next_number, listed_from, listed_lines, listing}
use Rattle.listing.specs.States.{Machine, machine, fresh_state, longest_line, ended, lettered, halved, paired, spoiled, valued, step, frame_of, answer_of, line_text, output, begun, ending, listed, final_text, Ran, ran, further, run, Turns, finishing, listing_block}
use Rattle.listing.proofs.Steps.{step_ended, step_lettered, step_valued, line_type, output_none, output_line}
use Rattle.listing.proofs.Lines.{nonempty, Spells, spells_none, spells_other, spells_first, spells_second, same_type, same_frame}

-- one call: what it prints, and then what is left
further_prints : (m : Machine) (b : ℕ) (l rest : List ℕ) (r : Ran) → listed (step m b) (l ++ rest) ≡ r.text ++ listed r.machine (drop r.passed l ++ rest) → output m b ++ listed (step m b) (l ++ rest) ≡ (further (output m b) r).text ++ listed r.machine (drop (further (output m b) r).passed (b ∷ l) ++ rest)
further_prints m b l rest r h =
    ap (λ (x : List ℕ). output m b ++ x) h
    ∙ sym (append_assoc (output m b) r.text (listed r.machine (drop r.passed l ++ rest)))
    ∙ ap (λ (n : ℕ). output m b ++ r.text ++ listed r.machine (drop n (b ∷ l) ++ rest)) (sym (add-one r.passed))

pub call_prints : (room : ℕ) (m : Machine) (block rest : List ℕ) → listed m (block ++ rest) ≡ (run room m block).text ++ listed (run room m block).machine (drop (run room m block).passed block ++ rest)
unfolding run listed
call_prints room m [] rest = refl
call_prints room m (b ∷ l) rest =
    go (ltb room longest_line) (call_prints (room - length (output m b)) (step m b) l rest)
  where
    next : Ran
    next = run (room - length (output m b)) (step m b) l

    go : (x : Bool) → listed (step m b) (l ++ rest) ≡ next.text ++ listed next.machine (drop next.passed l ++ rest) → listed m (b ∷ l ++ rest) ≡ (pick x (ran m 0 []) (further (output m b) next)).text ++ listed (pick x (ran m 0 []) (further (output m b) next)).machine (drop (pick x (ran m 0 []) (further (output m b) next)).passed (b ∷ l) ++ rest)
    go true h = refl
    go false h = further_prints m b l rest next h

-- `finish` prints the ending, where a line has room
final_ending : (room : ℕ) (m : Machine) → longest_line ≤ room → final_text room m ≡ ending m
unfolding final_text
final_ending room m h = rw (le-ltb room longest_line h)

turns_print : (m : Machine) (input text : List ℕ) → Turns m input text → text ≡ listed m input
unfolding listed
turns_print m input text (finishing room n h) = final_ending room n h
turns_print m input text (listing_block room n block rest t s) =
    ap (λ (x : List ℕ). (run room n block).text ++ x) (turns_print _ _ _ s) ∙ sym (call_prints room n block rest)

-- The machine stands in a frame's line, number n, of which p is passed, behind the type.
pub record InFrame (type : List ℕ) (n : ℕ) (p : List ℕ) (m : Machine) : Type 0 where
  pub typed : type_of (take m.state.letters m.text) ≡ type_of type
  pub numbered : m.state.line ≡ n
  pub positive : n ≡ 0 → ⊥
  pub spells : Spells p m.state.kept (digit_in m.state.half) m.state.spoilt m.frame

positive_next : (n : ℕ) → next_number n ≡ 0 → n ≡ 0
unfolding next_number
positive_next n = go (ltb n 18446744073709551615)
  where
    go : (x : Bool) → pick x (n + 1) n ≡ 0 → n ≡ 0
    go true h = omega arith
    go false h = h

module _ (type : List ℕ) (n : ℕ) (p : List ℕ) (m : Machine) (f : InFrame type n p m) where
  right_answer : answer_of m ≡ answer type p
  unfolding answer_of answer frame_of
  right_answer =
      ap₂ (λ x y. pick (there_is x) y (counts 1 0 0)) f.typed (same_frame f.spells (take m.state.letters m.text) type f.typed)

  right_line : line_text m ≡ printed n (answer type p)
  unfolding line_text
  right_line =
      rw (ne_eqb m.state.line 0 (λ z. f.positive (sym f.numbered ∙ z))) (ap₂ (λ k c. printed k c) f.numbered right_answer)

  right_ending : ending m ≡ listed_from type n (last_line p)
  unfolding ending last_line listed_from
  right_ending = ap (λ (x : Bool). pick x (line_text m) []) f.spells.seen ∙ go p right_line
    where
      go : (q : List ℕ) → line_text m ≡ printed n (answer type q) → pick (nonempty q) (line_text m) [] ≡ listed_from type n (last_line q)
      go [] h = refl
      go (b ∷ l) h = h ∙ sym (append-nil (printed n (answer type (b ∷ l))))

  frame_ended : InFrame type (next_number n) [] (ended m)
  unfolding ended
  frame_ended = record {
    typed = f.typed;
    numbered = ap next_number f.numbered;
    positive = λ z. f.positive (positive_next n z);
    spells = spells_none m.frame f.spells.keeps.room;
  }

  -- a digit that waits keeps its value
  digit_kept : {q : List ℕ} {kept : ℕ} {spoilt : Bool} {frame : List ℕ} (d : ℕ) → ltb d 16 ≡ true → Spells q kept d spoilt frame → Spells q kept (d % 16) spoilt frame
  digit_kept {q} {kept} {spoilt} {frame} d h s =
      let k = ltb-true d 16 h in subst (λ (x : ℕ). Spells q kept x spoilt frame) (omega arith) s

  frame_valued : (b : ℕ) → InFrame type n (p ++ (b ∷ [])) (valued m (digit b))
  unfolding valued paired halved spoiled
  frame_valued b = go (ltb (digit b) 16) (ltb (digit_in m.state.half) 16) refl refl
    where
      go : (x y : Bool) → ltb (digit b) 16 ≡ x → ltb (digit_in m.state.half) 16 ≡ y → InFrame type n (p ++ (b ∷ [])) (pick x (pick y (paired m (16 * digit_in m.state.half + digit b)) (halved m (digit b))) (spoiled m))
      go false y h k = record { typed = f.typed; numbered = f.numbered; positive = f.positive; spells = spells_other f.spells b h }
      go true false h k = record { typed = f.typed; numbered = f.numbered; positive = f.positive; spells = digit_kept (digit b) h (spells_first f.spells b h k) }
      go true true h k = record { typed = f.typed; numbered = f.numbered; positive = f.positive; spells = spells_second f.spells b h k }

pub frames_listed : (type : List ℕ) (n : ℕ) (p : List ℕ) (m : Machine) → InFrame type n p m → (l : List ℕ) → listed m l ≡ listed_from type n (lines_from p l)
unfolding listed lines_from listed_from
frames_listed type n p m f [] = right_ending type n p m f
frames_listed type n p m f (b ∷ l) =
    go (eqb b 10) refl (frames_listed type (next_number n) [] (ended m) (frame_ended type n p m f) l) (frames_listed type n (p ++ (b ∷ [])) (valued m (digit b)) (frame_valued type n p m f b) l)
  where
    go : (x : Bool) → eqb b 10 ≡ x → listed (ended m) l ≡ listed_from type (next_number n) (lines_from [] l) → listed (valued m (digit b)) l ≡ listed_from type n (lines_from (p ++ (b ∷ [])) l) → output m b ++ listed (step m b) l ≡ listed_from type n (pick x (p ∷ lines_from [] l) (lines_from (p ++ (b ∷ [])) l))
    go true h i j =
        let e = eqb-true b 10 h in
        ap₂ (λ (x y : List ℕ). x ++ y) (sym (output_line m b e) ∙ right_line type n p m f) (ap (λ (k : Machine). listed k l) (step_ended m b e) ∙ i)
    go false h i j =
        let e = eqb-false b 10 h in
        ap₂ (λ (x y : List ℕ). x ++ y) (sym (output_none m b e)) (ap (λ (k : Machine). listed k l) (step_valued m b e (λ z. f.positive (sym f.numbered ∙ z))) ∙ j)

-- The machine stands in the type's line, of which p is passed.
record InType (p : List ℕ) (m : Machine) : Type 0 where
  first : m.state.line ≡ 0
  keeps : Keeps 256 p m.state.letters m.text
  room : length m.frame ≡ 16384

module _ (p : List ℕ) (m : Machine) (t : InType p m) where
  type_ending : ending m ≡ listed_lines (last_line p)
  unfolding ending last_line listed_lines listed_from
  type_ending = ap (λ (x : List ℕ). pick (begun m.state) x []) (sym (line_type m t.first)) ∙ none (begun m.state) ∙ alone p
    where
      none : (x : Bool) → ◌≡◌ {A = List ℕ} (pick x [] []) []
      none true = refl
      none false = refl

      alone : (q : List ℕ) → [] ≡ listed_lines (last_line q)
      alone [] = refl
      alone (b ∷ q) = refl

  type_ended : InFrame p 1 [] (ended m)
  unfolding ended next_number
  type_ended = record {
    typed = same_type t.keeps;
    numbered = ap next_number t.first;
    positive = λ z. omega arith;
    spells = spells_none m.frame t.room;
  }

  type_lettered : (b : ℕ) → InType (p ++ (b ∷ [])) (lettered m b)
  unfolding lettered
  type_lettered b = record { first = t.first; keeps = keeps_more b t.keeps; room = t.room }

type_listed : (p : List ℕ) (m : Machine) → InType p m → (l : List ℕ) → listed m l ≡ listed_lines (lines_from p l)
unfolding listed lines_from listed_lines
type_listed p m t [] = type_ending p m t
type_listed p m t (b ∷ l) =
    go (eqb b 10) refl (type_listed (p ++ (b ∷ [])) (lettered m b) (type_lettered p m t b) l)
  where
    go : (x : Bool) → eqb b 10 ≡ x → listed (lettered m b) l ≡ listed_lines (lines_from (p ++ (b ∷ [])) l) → output m b ++ listed (step m b) l ≡ listed_lines (pick x (p ∷ lines_from [] l) (lines_from (p ++ (b ∷ [])) l))
    go true h i =
        let e = eqb-true b 10 h in
        ap₂ (λ (x y : List ℕ). x ++ y) (sym (output_line m b e) ∙ sym (line_type m t.first)) (ap (λ (k : Machine). listed k l) (step_ended m b e) ∙ frames_listed p 1 [] (ended m) (type_ended p m t) l)
    go false h i =
        let e = eqb-false b 10 h in
        ap₂ (λ (x y : List ℕ). x ++ y) (sym (output_none m b e)) (ap (λ (k : Machine). listed k l) (step_lettered m b e t.first) ∙ i)

pub listed_listing : (text frame : List ℕ) → length text ≡ 256 → length frame ≡ 16384 → (input : List ℕ) → listed (machine fresh_state text frame) input ≡ listing input
unfolding listing lines fresh_state
listed_listing text frame h k input =
    type_listed [] (machine fresh_state text frame) (record { first = refl; keeps = keeps_none 256 text h; room = k }) input

-- THE THEOREM
pub turns_list : (text frame input printed : List ℕ) → length text ≡ 256 → length frame ≡ 16384 → Turns (machine fresh_state text frame) input printed → printed ≡ listing input
turns_list text frame input printed h k s =
    turns_print _ _ _ s ∙ listed_listing text frame h k input
