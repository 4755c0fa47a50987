-- `lines::find` meets its contract. Assumes nothing.
use mathlib.Core.Path.{◌≡◌, sym, ◌∙◌}
use mathlib.Core.Logic.{◌≢◌}
use native.Mathlib.Omega.{arith}
use borrow.Author.Rules.{rules}
use borrow.Author.Tests.{tests}
use Rattle.std.proofs.lemmas.Iterator.{YieldsList-from_slice, IsFirst-from_position}
use Rattle.lines.specs.Words.{place}
use Rattle.lines.proofs.WordLaws.{place_by, place_within}
use Rattle.lines.proofs.find.Goals as goal

pub returns : goal.returns
returns c =
    let text = c.args.text.now in
    let byte = c.args.byte in
    let first = IsFirst-from_position _ _ _ (λ b. b ≡ byte) (λ b. b ≢ byte) c.position.ensures.ran (YieldsList-from_slice text cc) (λ x q k. search (rules, tests)) (λ x q k. search (rules, tests)) in
    let e : c.unwrap_or.result ≡ place byte text = c.unwrap_or.ensures ∙ sym (place_by byte text c.position.result first) in
    let w = place_within byte text in
    (e, omega arith)
