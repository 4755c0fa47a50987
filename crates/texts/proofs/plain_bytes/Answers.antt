-- `plain_bytes` meets its contract. Assumes nothing.
use Rattle.std.proofs.Common.{◌≡◌, ◌+◌, ◌-◌, true, rules, arith}
use Rattle.std.specs.List.{All}
use Rattle.std.proofs.lemmas.Fn.{fold_over, slice_gives, fronts}
use Rattle.std.proofs.lemmas.List.Elements.{All-append}
use Rattle.texts.specs.Letters.{PlainByte}
use Rattle.texts.proofs.Runs.{bytes_all}
use Rattle.texts.proofs.plain_bytes.Goals as goal

pub returns : goal.returns
returns g c t =
    let all = fold_over fronts (λ y. y.now) _ (λ ys a. a ≡ true → All PlainByte ys) _
    (λ ys a x b f' j k. (λ e. All-append PlainByte ys _ (j (search rules)) (search rules), search rules)) _ _ _ _ (slice_gives c.iter.result) (λ e. search rules) c.fold.ensures.ran in
    let n : c.args.i + g.row.N - c.args.i ≡ g.row.N = omega arith in
    bytes_all _ _ _ c.requires (rw (c.iter.ensures.rest, n) at (all t))
