use Rattle.std.proofs.Common.{◌≡◌, ◌+◌, ap, ◌∙◌, arith}
use Rattle.books.proofs.Counting.{product_up}
use Rattle.books.proofs.row_book.open.factorial.Goals as goal
use Rattle.rows.proofs.Codes.{fact_fits}
use Rattle.rows.specs.Code.{fact}
use Rattle.std.proofs.iter.runs.Sources.{inclusive_listed}
use Rattle.std.specs.Range.{range_inclusive_start, range_inclusive_end, range_inclusive_exhausted}

pub product-requires-clause-fits : goal.product-requires-clause-fits
product-requires-clause-fits c = λ p t e.
    let up = inclusive_listed p t in
    let counts = (up.4 (ap range_inclusive_exhausted e ∙ c.new.ensures.exhausted)).0 in
    let first = up.2 ∙ ap range_inclusive_start e ∙ c.new.ensures.start in
    let last = up.3 ∙ ap (λ r. range_inclusive_end r + 1) e in
    let is = product_up p up.0 up.1 first counts in
    omega (arith, is, fact_fits p.len (omega (arith, counts.0, c.new.ensures.end)))

pub returns : goal.returns
returns c =
    let run = c.product.ensures.runs tt in
    let p = run.0 in
    let up = inclusive_listed p p.seen in
    let counts = (up.4 (ap range_inclusive_exhausted run.1 ∙ c.new.ensures.exhausted)).0 in
    let first = up.2 ∙ ap range_inclusive_start run.1 ∙ c.new.ensures.start in
    let last = up.3 ∙ ap (λ r. range_inclusive_end r + 1) run.1 in
    let all : p.len ≡ c.args.bells = omega (arith, counts.1 run.2, c.new.ensures.end, c.from.ensures) in
    run.3 ∙ product_up p up.0 up.1 first counts ∙ ap fact all
