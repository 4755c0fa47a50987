-- `lines::word` meets its contract. Assumes nothing.
use mathlib.Core.Path.{◌≡◌, ap, refl, ◌∙◌}
use lib.Dec.{eqb}
use borrow.Author.Rules.{rules}
use borrow.Author.Tests.{tests}
use Rattle.std.specs.Option.{option_map}
use Rattle.std.specs.List.{slice_get, slice_split}
use Rattle.std.proofs.lemmas.Iterator.Splits.{YieldsList-from_slice_split}
use Rattle.std.proofs.lemmas.Iterator.Consumers.{nth_from_yields_List}
use Rattle.lines.proofs.WordLaws.{now_or, word_by}
use Rattle.lines.proofs.word.Goals as goal

pub returns : goal.returns
returns c =
    let line = c.args.line.now in
    let found : option_map (λ y. y.now) c.nth.result ≡ slice_get (slice_split (λ b. eqb b 32) line) c.args.n = nth_from_yields_List c.nth.result _ c.args.n c.nth.ensures.ran (YieldsList-from_slice_split _ (λ b. eqb b 32) line c.split.ensures.rest c.split.ensures.done c.split.ensures.closure (λ x b q k. search (rules, tests))) in
    ap (λ r. r.now) c.unwrap_or.ensures ∙ now_or _ _ _ found refl ∙ word_by c.args.n line
