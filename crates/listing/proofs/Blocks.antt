-- A block is passed byte by byte: what is left of it answers the whole, with what was printed in front. Assumes nothing.
use mathlib.Core.Path.{◌≡◌, refl, sym, ap, ap₂, ◌∙◌}
use mathlib.Core.List.{List, [], ◌∷◌, ◌++◌, append_assoc, append-nil}
use Prim.Native.Nat.{ℕ, ◌+◌, ◌-◌, ◌≤◌, ◌<◌}
use native.Mathlib.Nat.{add-zero, zero-add}
use native.Mathlib.Numerals.{add-one}
use native.Mathlib.Omega.{arith}
use lib.ListN.{length, drop, get_or, drop_of_length-le}
use lib.Seq.{sets-eq, drop-cons}
use borrow.Author.Tests.{lt-ltb, le-ltb}
use Rattle.listing.specs.declared.Progress.{Progress}
use Rattle.listing.specs.States.{Machine, step, output, Ran, ran, further, run, Lists, final_text, Finishes}
use Rattle.numerals.specs.Storing.{over, Puts}
use Rattle.numerals.proofs.StoringLaws.{puts_none, puts_then}
use Rattle.listing.proofs.Texts.{output_most}

-- so many bytes and a text in front of what a call makes of the rest
abbrev ahead : ℕ → List ℕ → Ran → Ran
ahead n t r = ran r.machine (n + r.passed) (t ++ r.text)

pub run_none : (room : ℕ) (m : Machine) → run room m [] ≡ ran m 0 []
unfolding run
run_none room m = refl

pub run_short : (room : ℕ) (m : Machine) (l : List ℕ) → room < 84 → run room m l ≡ ran m 0 []
unfolding run
run_short room m [] h = refl
run_short room m (b ∷ l) h = rw (lt-ltb room 84 h)

pub run_more : (room : ℕ) (m : Machine) (b : ℕ) (l : List ℕ) → 84 ≤ room → run room m (b ∷ l) ≡ further (output m b) (run (room - length (output m b)) (step m b) l)
unfolding run
run_more room m b l h = rw (le-ltb room 84 h)

-- The machine m stands where `passed` bytes of the block are passed and `written` bytes of the slice written.
pub record Going (m₀ m : Machine) (block out₀ out : List ℕ) (passed written : ℕ) : Type 0 where
  pub text : List ℕ
  pub puts : Puts out₀ out 0 text written
  pub fits : written ≤ length out₀
  pub rest : run (length out₀) m₀ block ≡ ahead passed text (run (length out₀ - written) m (drop passed block))

pub going_begin : (m : Machine) (block out : List ℕ) → Going m m block out out 0 0
going_begin m block out = record {
  text = [];
  puts = puts_none out 0;
  fits = omega arith;
  rest = begins (run (length out) m block) ∙ ap (λ (n : ℕ). ahead 0 [] (run n m block)) (omega arith);
}
  where
    begins : (r : Ran) → r ≡ ahead 0 [] r
    begins r = ap (λ (n : ℕ). ran r.machine n r.text) (sym (zero-add r.passed))

ahead_further : (n : ℕ) (t u : List ℕ) (r : Ran) → ahead n t (further u r) ≡ ahead (n + 1) (t ++ u) r
ahead_further n t u r =
    let e : n + (r.passed + 1) ≡ n + 1 + r.passed = omega arith in
    ap₂ (λ (k : ℕ) (x : List ℕ). ran r.machine k x) e (sym (append_assoc t u r.text))

module _ {m₀ m : Machine} {block out₀ out : List ℕ} {passed written : ℕ} (g : Going m₀ m block out₀ out passed written) (q : length out ≡ length out₀) where
  pub going_next : (m' : Machine) (b : ℕ) (out' : List ℕ) (written' : ℕ) → passed < length block → 84 ≤ length out - written → b ≡ get_or block passed 0 → Puts out out' written (output m b) written' → m' ≡ step m b → Going m₀ m' block out₀ out' (passed + 1) written'
  going_next m' b out' written' h room e p s =
      let o = output_most m b in
      let n = p.next in
      let f = g.fits in
      let k : 84 ≤ length out₀ - written = omega arith in
      let less : length out₀ - written - length (output m b) ≡ length out₀ - written' = omega arith in
      let behind : drop passed block ≡ b ∷ drop (passed + 1) block = drop-cons block passed 0 h ∙ ap₂ (λ (x i : ℕ). x ∷ drop i block) (sym e) (sym (add-one passed)) in
      record {
        text = g.text ++ output m b;
        puts = puts_then g.puts p;
        fits = omega arith;
        rest = g.rest
            ∙ ap (λ (l : List ℕ). ahead passed g.text (run (length out₀ - written) m l)) behind
            ∙ ap (λ (r : Ran). ahead passed g.text r) (run_more (length out₀ - written) m b (drop (passed + 1) block) k)
            ∙ ahead_further passed g.text (output m b) (run (length out₀ - written - length (output m b)) (step m b) (drop (passed + 1) block))
            ∙ ap₂ (λ (x : ℕ) (y : Machine). ahead (passed + 1) (g.text ++ output m b) (run x y (drop (passed + 1) block))) less (sym s);
      }

  -- where the call stops
  stops : passed ≤ length block → run (length out₀ - written) m (drop passed block) ≡ ran m 0 [] → Lists m₀ m block out₀ out (record { state = m.state; passed = passed; written = written })
  stops i h =
      let all : run (length out₀) m₀ block ≡ ran m passed g.text = g.rest ∙ ap (λ (r : Ran). ahead passed g.text r) h ∙ ap₂ (λ (n : ℕ) (x : List ℕ). ran m n x) (add-zero passed) (append-nil g.text) in
      let n : written ≡ length g.text = g.puts.next ∙ zero-add (length g.text) in
      let w = g.fits in
      record {
        machine = ap (λ (r : Ran). r.machine) (sym all);
        passed = ap (λ (r : Ran). r.passed) (sym all);
        within = i;
        written = n ∙ ap (λ (r : Ran). length r.text) (sym all);
        fits = g.fits;
        slice = g.puts.slice
            ∙ sets-eq g.text out₀ 0 (omega arith)
            ∙ ap (λ (k : ℕ). g.text ++ drop k out₀) (zero-add (length g.text))
            ∙ ap (λ (r : Ran). over r.text out₀) (sym all);
      }

  pub going_short : passed < length block → length out - written < 84 → Lists m₀ m block out₀ out (record { state = m.state; passed = passed; written = written })
  going_short i h = stops (omega arith) (run_short _ m _ (omega arith))

  pub going_end : length block ≡ passed → Lists m₀ m block out₀ out (record { state = m.state; passed = length block; written = written })
  going_end e =
      rw e (stops (omega arith) (ap (λ (l : List ℕ). run (length out₀ - written) m l) (drop_of_length-le block (omega arith)) ∙ run_none _ m))

-- a text from the front of a slice is all that `finish` prints
pub finishes : (m : Machine) (out out' : List ℕ) (t : List ℕ) (r : ℕ) → t ≡ final_text (length out) m → length t ≤ length out → Puts out out' 0 t r → Finishes m out out' r
finishes m out out' t r e h p =
    let n : r ≡ length t = p.next ∙ zero-add (length t) in
    record {
      written = n ∙ ap length e;
      fits = omega arith;
      slice = p.slice
          ∙ sets-eq t out 0 (omega arith)
          ∙ ap (λ (k : ℕ). t ++ drop k out) (zero-add (length t))
          ∙ ap (λ (x : List ℕ). over x out) e;
    }

-- a call with room for a line passes a byte, if there is one
pub lists_moves : (m m' : Machine) (block out out' : List ℕ) (r : Progress) → Lists m m' block out out' r → 84 ≤ length out → 0 < length block → 0 < r.passed
lists_moves m m' [] out out' r p h k = omega arith
lists_moves m m' (b ∷ l) out out' r p h k =
    let e = p.passed ∙ ap (λ (x : Ran). x.passed) (run_more (length out) m b l h) in omega arith
