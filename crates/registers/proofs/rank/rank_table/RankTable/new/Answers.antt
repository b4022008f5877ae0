use Rattle.std.proofs.Common.{◌≡◌, ◌<◌, length, refl, sym, ap, ◌∙◌, drop, not-suc-le-zero, arith}
use Rattle.registers.proofs.rank.rank_table.RankTable.new.Goals as goal
use Rattle.registers.specs.Cells.{is_taken, chained, trail}
use Rattle.registers.specs.Lent.{most}
use Rattle.registers.specs.Shelves.{table_shelf, empty_table}
use Rattle.registers.specs.declared.rank.cell.Cell.{Cell}
use Rattle.registers.specs.declared.rank.cell.Link.TheVariants.{Free}
use Rattle.std.proofs.Math.Seq.{length_front}
use Rattle.std.proofs.lemmas.List.{get_or_append_left, length-take-le}
use Rattle.std.proofs.lemmas.Slice.{drop-append-drop}

pub invariant_of-result : goal.invariant_of-result
unfolding chained trail
invariant_of-result g c =
    let was = c.args.cells.now in
    let items = c.loop-cell.cell-items in
    let n = c.used-used.result in
    let d : Cell = record { mark = 0; link = Free } in
    let part = length-take-le n was (omega (arith, c.used-used.ensures)) in
    let long = length_front was items n c.loop-cell.auto.cell-items in
    record {
      linked = refl;
      apart = λ i j li lj e. absurd (not-suc-le-zero li);
      kept = λ k h t.
          let w : k < length items = omega (arith, c.used-used.ensures, c.loop-cell.auto.cell-items) in
          sym (ap (λ (x : Cell). is_taken x.link) (get_or_append_left items (drop n was) d k w) ∙ ap is_taken (c.loop-cell.invariant k (omega (arith, c.loop-cell.auto.cell-items, c.loop-cell-test.false)))) ∙ t;
    }

pub returns : goal.returns
unfolding trail table_shelf
returns g c =
    let was = c.args.cells.now in
    let items = c.loop-cell.cell-items in
    let n = c.used-used.result in
    let long = length_front was items n c.loop-cell.auto.cell-items in
    let part : length items ≡ n = c.loop-cell.auto.cell-items ∙ length-take-le n was (omega (arith, c.used-used.ensures)) in
    record { empty = ap empty_table long; lent = record { loan = refl; beyond = (long, drop-append-drop n was items most (omega (arith, c.used-used.ensures)) part) } }
