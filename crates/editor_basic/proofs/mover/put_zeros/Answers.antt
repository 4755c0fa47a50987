-- `put_zeros` meets its contract.
use mathlib.Core.Path.{◌≡◌, sym, ap, ◌∙◌}
use Prim.Native.Nat.{ℕ, ◌+◌, ◌-◌, min}
use native.Mathlib.Omega.{arith}
use lib.ListN.{length, take, drop, length-replicate, replicate}
use Rattle.std.proofs.lemmas.List.{take-replicate, length-take, length-drop}
use Rattle.meaning.specs.Padding.{zeros}
use Rattle.editor_basic.proofs.PutLaws.{put_over, over_beyond}
use Rattle.editor_basic.proofs.mover.put_zeros.Goals as goal

pub returns-then-at-out : goal.returns-then-at-out
returns-then-at-out c =
    let a = c.args in
    let m = c.room-most.result in
    let n : m ≡ min (length (zeros a.count)) (length a.out.now - a.at) = c.room-most.ensures ∙ ap (λ (z : ℕ). min z (length a.out.now - a.at)) (sym (length-replicate a.count 0)) in
    let k : length (take (a.at + m - a.at) (drop a.at a.out.now)) ≡ m =
    omega (arith, length-take (a.at + m - a.at) (drop a.at a.out.now), length-drop a.at a.out.now, c.room-most.ensures, c.if-at-out.true) in
    put_over a.out.now a.at _ m (zeros a.count) _ c.if-at-out.true n (omega arith)
    (c.fill.ensures.after (λ y q. q) ∙ ap (λ (z : ℕ). replicate z 0) k ∙ sym (take-replicate m a.count 0 (omega (arith, c.room-most.ensures))))

pub returns-else-at-out : goal.returns-else-at-out
returns-else-at-out c = sym (over_beyond _ _ _ c.if-at-out.false)
