use Rattle.std.proofs.Common.{◌<◌, sym, arith}
use Rattle.rows.specs.Code.{fact, HasCode}
use Rattle.rows.specs.Rows.{inverse, On}
use Rattle.rows.proofs.Codes.{code_small, has_its_code}
use Rattle.rows.proofs.Decoding.{on_by_code}
use Rattle.rows.proofs.Group.{inverse_row, inverse_on}
use Rattle.rows.proofs.row.Row.inverse_on_six.Goals as goal
use Rattle.rows.proofs.row.Row.inverse_on_six.Goals.{In-Ok}
use Rattle.std.proofs.lemmas.Result.{MatchResult-at_ok}

-- the card has the code of the inverse
inverted : (c : In-Ok) → HasCode 6 c.in-Ok.code (inverse 12 c.args.self.now.bells)
unfolding fact
inverted c =
    let a = c.args.self.now.bells in
    let r = c.args.self.now.once in
    let (small, card) = c.in-Ok.ensures in
    let on : On 6 a = on_by_code 6 a (omega arith) r (omega (arith, small, c.code.ensures.value)) in
    has_its_code 6 c.in-Ok.code (inverse 12 a) (inverse_row 12 a r) (inverse_on 6 a r on) (sym (card a (c.code.ensures.back 6 on)))

pub unwrap-requires : goal.unwrap-requires
unwrap-requires c =
    let has = inverted (goal.at.unwrap-requires c).In-Ok in
    let small : c.in-Ok.code < fact 6 = omega (arith, has.coded, code_small 6 (inverse 12 c.args.self.now.bells) has.row has.on (omega arith)) in
    grind arith

pub returns-in-Ok : goal.returns-in-Ok
returns-in-Ok c =
    let has = inverted (goal.at.returns-in-Ok c).In-Ok in
    let there = MatchResult-at_ok _ _ _ c.unwrap.ensures c.of_code.ensures in
    sym (there.only (inverse 12 c.args.self.now.bells) has.row has.on has.coded)
