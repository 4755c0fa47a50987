-- A law for each way out of the functions that go from byte to byte and answer a line. Assumes nothing.
use mathlib.Core.Path.{◌≡◌, refl, sym, ap, ap₂, ◌∙◌}
use mathlib.Core.List.{List, []}
use mathlib.Core.Bool.{Bool, true, false}
use Prim.Native.Nat.{ℕ, ◌+◌, ◌*◌, ◌%◌, ◌≤◌, ◌<◌, min}
use native.Mathlib.Omega.{arith}
use lib.Dec.{ltb}
use lib.ListN.{length, take}
use borrow.Author.Tests.{lt-ltb, le-ltb, ltb-true, ltb-false, le-leb, lt-leb, eq-eqb, ne_eqb}
use Rattle.std.specs.Prelude.{Some, None}
use Rattle.std.specs.Option.{is_some}
use Rattle.meaning.specs.Choice.{pick}
use Rattle.meaning.specs.Calls.{Counts, counts, size}
use Rattle.signature.specs.Places.{is_type}
use Rattle.numerals.specs.Hexadecimal.{digit}
use Rattle.numerals.proofs.DigitLaws.{waits}
use Rattle.lines.specs.Lines.{more, stored}
use Rattle.listing.specs.Listing.{printed, next_number}
use Rattle.listing.specs.States.{Machine, machine, state_of, ended, lettered, paired, halved, spoiled, valued, step, frame_by, frame_of, answer_of, line_text, output, begun, ending, final_text}

module _ (m : Machine) (b : ℕ) where
  pub step_ended : b ≡ 10 → step m b ≡ ended m
  unfolding step
  step_ended h = rw (eq-eqb b 10 h)

  pub step_lettered : (b ≡ 10 → ⊥) → m.state.line ≡ 0 → step m b ≡ lettered m b
  unfolding step
  step_lettered h z = rw (ne_eqb b 10 h, eq-eqb m.state.line 0 z)

  pub step_valued : (b ≡ 10 → ⊥) → (m.state.line ≡ 0 → ⊥) → step m b ≡ valued m (digit b)
  unfolding step
  step_valued h z = rw (ne_eqb b 10 h, ne_eqb m.state.line 0 z)

  pub step_end : (n : ℕ) → b ≡ 10 → n ≡ next_number m.state.line → machine (state_of n m.state.letters 0 None false) m.text m.frame ≡ step m b
  unfolding ended
  step_end n h e = rw e (sym (step_ended h))

  pub step_letter : (k : ℕ) (t : List ℕ) → (b ≡ 10 → ⊥) → m.state.line ≡ 0 → length m.text ≡ 256 → k ≡ more (length m.text) m.state.letters → t ≡ stored (length m.text) m.text m.state.letters b → machine (state_of m.state.line k m.state.kept m.state.half m.state.spoilt) t m.frame ≡ step m b
  unfolding lettered
  step_letter k t h z l e f =
      rw (e ∙ ap (λ (n : ℕ). more n m.state.letters) l, f ∙ ap (λ (n : ℕ). stored n m.text m.state.letters b) l) (sym (step_lettered h z))

  step_digit : (b ≡ 10 → ⊥) → (m.state.line ≡ 0 → ⊥) → (v : ℕ) → v ≡ digit b → valued m v ≡ step m b
  step_digit h z v e = ap (λ (x : ℕ). valued m x) e ∙ sym (step_valued h z)

  pub step_spoilt : (b ≡ 10 → ⊥) → (m.state.line ≡ 0 → ⊥) → 16 ≡ digit b → spoiled m ≡ step m b
  unfolding valued
  step_spoilt h z e = step_digit h z 16 e

  pub step_first : (v : ℕ) → (b ≡ 10 → ⊥) → (m.state.line ≡ 0 → ⊥) → v ≡ digit b → v < 16 → m.state.half ≡ None → halved m v ≡ step m b
  unfolding valued
  step_first v h z e k l =
      let halves : valued m v ≡ halved m v = rw (lt-ltb v 16 k, l) in sym halves ∙ step_digit h z v e

  pub step_second : (v d k : ℕ) (f : List ℕ) → (b ≡ 10 → ⊥) → (m.state.line ≡ 0 → ⊥) → v ≡ digit b → v < 16 → m.state.half ≡ Some d → length m.frame ≡ 16384 → k ≡ more (length m.frame) m.state.kept → f ≡ stored (length m.frame) m.frame m.state.kept (16 * (d % 16) + v) → machine (state_of m.state.line m.state.letters k None m.state.spoilt) m.text f ≡ step m b
  unfolding valued paired
  step_second v d k f h z e l w n c s =
      let first : d % 16 < 16 = omega arith in
      let pairs : valued m v ≡ paired m (16 * (d % 16) + v) = rw (lt-ltb v 16 l, w, lt-ltb (d % 16) 16 first) in
      let count = c ∙ ap (λ (i : ℕ). more i m.state.kept) n in
      let memory = s ∙ ap (λ (i : ℕ). stored i m.frame m.state.kept (16 * (d % 16) + v)) n in
      rw (count, memory) (sym pairs ∙ step_digit h z v e)

-- numbers stay at the largest
pub next_by : (n : ℕ) → n < 18446744073709551616 → min (n + 1) 18446744073709551615 ≡ next_number n
unfolding next_number
next_by n h = go (ltb n 18446744073709551615) refl
  where
    go : (x : Bool) → ltb n 18446744073709551615 ≡ x → min (n + 1) 18446744073709551615 ≡ pick x (n + 1) n
    go true e = let k = ltb-true n 18446744073709551615 e in omega arith
    go false e = let k = ltb-false n 18446744073709551615 e in omega arith

-- which answer the tests of a line give
by_spoilt : (x y z : Bool) (c : Counts) → x ≡ true → counts 18 0 0 ≡ frame_by x y z c
unfolding frame_by
by_spoilt x y z c h = rw h

by_odd : (x y z : Bool) (c : Counts) → x ≡ false → y ≡ true → counts 18 0 0 ≡ frame_by x y z c
unfolding frame_by
by_odd x y z c h k = rw (h, k)

by_long : (x y z : Bool) (c : Counts) → x ≡ false → y ≡ false → z ≡ false → counts 2 0 0 ≡ frame_by x y z c
unfolding frame_by
by_long x y z c h k l = rw (h, k, l)

by_size : (x y z : Bool) (c : Counts) → x ≡ false → y ≡ false → z ≡ true → c ≡ frame_by x y z c
unfolding frame_by
by_size x y z c h k l = rw (h, k, l)

-- the answer to a line, of the type text t
module _ (m : Machine) (t : List ℕ) (is : t ≡ take m.state.letters m.text) where
  pub answer_type : is_type t ≡ false → counts 1 0 0 ≡ answer_of m
  unfolding answer_of
  answer_type h = rw (← is, h)

  answer_frame : is_type t ≡ true → frame_of m ≡ answer_of m
  unfolding answer_of
  answer_frame h = rw (← is, h)

  pub answer_spoilt : is_type t ≡ true → m.state.spoilt ≡ true → counts 18 0 0 ≡ answer_of m
  unfolding frame_of
  answer_spoilt h k = by_spoilt _ _ _ _ k ∙ answer_frame h

  pub answer_odd : is_type t ≡ true → m.state.spoilt ≡ false → is_some m.state.half ≡ true → counts 18 0 0 ≡ answer_of m
  unfolding frame_of
  answer_odd h k l = by_odd _ _ _ _ k (waits m.state.half ∙ l) ∙ answer_frame h

  pub answer_long : is_type t ≡ true → m.state.spoilt ≡ false → is_some m.state.half ≡ false → 16384 < m.state.kept → counts 2 0 0 ≡ answer_of m
  unfolding frame_of
  answer_long h k l w =
      by_long _ _ _ _ k (waits m.state.half ∙ l) (lt-leb m.state.kept 16384 w) ∙ answer_frame h

  pub answer_size : (f : List ℕ) → f ≡ take m.state.kept m.frame → is_type t ≡ true → m.state.spoilt ≡ false → is_some m.state.half ≡ false → m.state.kept ≤ 16384 → size t false 0 f ≡ answer_of m
  unfolding frame_of
  answer_size f e h k l w =
      ap₂ (λ (x y : List ℕ). size x false 0 y) is e ∙ by_size _ _ _ _ k (waits m.state.half ∙ l) (le-leb m.state.kept 16384 w) ∙ answer_frame h

-- what a line end, a byte and the end of the input print
pub line_type : (m : Machine) → m.state.line ≡ 0 → [] ≡ line_text m
unfolding line_text
line_type m h = rw (eq-eqb m.state.line 0 h)

pub line_frame : (m : Machine) (c : Counts) → (m.state.line ≡ 0 → ⊥) → c ≡ answer_of m → printed m.state.line c ≡ line_text m
unfolding line_text
line_frame m c h e = rw (ne_eqb m.state.line 0 h, e)

pub output_none : (m : Machine) (b : ℕ) → (b ≡ 10 → ⊥) → [] ≡ output m b
unfolding output
output_none m b h = rw (ne_eqb b 10 h)

pub output_line : (m : Machine) (b : ℕ) → b ≡ 10 → line_text m ≡ output m b
unfolding output
output_line m b h = rw (eq-eqb b 10 h)

pub final_short : (room : ℕ) (m : Machine) → room < 84 → [] ≡ final_text room m
unfolding final_text
final_short room m h = rw (lt-ltb room 84 h)

pub final_none : (room : ℕ) (m : Machine) → 84 ≤ room → begun m.state ≡ false → [] ≡ final_text room m
unfolding final_text ending
final_none room m h e = rw (le-ltb room 84 h, e)

pub final_line : (room : ℕ) (m : Machine) → 84 ≤ room → begun m.state ≡ true → line_text m ≡ final_text room m
unfolding final_text ending
final_line room m h e = rw (le-ltb room 84 h, e)
