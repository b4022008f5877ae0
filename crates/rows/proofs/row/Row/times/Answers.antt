use Rattle.std.proofs.Common.{◌≡◌, sym, subst, arith, rules}
use Rattle.rows.proofs.Group.{times_row, times_on, associative}
use Rattle.rows.proofs.Mapped.{callable, mapped}
use Rattle.rows.proofs.Members.{member}
use Rattle.rows.proofs.row.Row.times.Goals as goal
use Rattle.rows.proofs.row.Row.times.Goals.{After-map-bells}
use Rattle.rows.specs.Rows.{bell_in, times, RowOf, On}

pub map-bells-requires : goal.map-bells-requires
map-bells-requires c =
    let m = member 12 _ c.args.other.now.once in
    (omega arith, (omega arith, (omega arith, callable c.args.other.now.bells (λ x q k. search rules) (λ k l. let low = m.low k (omega arith) in let high = m.high k (omega arith) in search rules))))

-- the map has filled each place of the product
product : (c : After-map-bells) → c.map-bells.result ≡ times c.args.self.now.bells c.args.other.now.bells
product c =
    let long = (member 12 _ c.args.other.now.once).long in
    mapped (bell_in c.args.self.now.bells) c.map-bells.ensures.items (omega arith) (λ x y q k. search rules)

pub returns : goal.returns
returns c =
    let is = product (goal.at.returns c).After-map-bells in
    record {
      value = is;
      stage = λ n s o. subst (On n) (sym is) (times_on n _ _ (member 12 _ c.args.other.now.once).long s o);
      associative = λ d r. rw is (associative 12 _ _ d (member 12 _ c.args.other.now.once).long r);
    }

pub invariant_of-result : goal.invariant_of-result
invariant_of-result c = record { once = subst (RowOf 12) (sym (product (goal.at.invariant_of-result c).After-map-bells)) (times_row 12 _ _ c.args.self.now.once c.args.other.now.once) }
