use Rattle.std.proofs.Common.{◌≡◌, None, sym, refl, subst, arith}
use Rattle.rows.proofs.Members.{member}
use Rattle.rows.proofs.Spelled.{Named, named_on, named_spells, spelled_only, spells_n, spells_named}
use Rattle.rows.proofs.row.Row.read.Goals as goal
use Rattle.rows.proofs.row.Row.read.Goals.{After-loop-p}
use Rattle.rows.specs.Rows.{RowOf}
use Rattle.std.proofs.lemmas.Bool.{both_ways}
use Rattle.std.proofs.lemmas.Option.{MatchOption-at_none}
use Rattle.std.proofs.lemmas.Result.{err_from_is_err_and}

-- the loop has put down the bells that the text names
bells : (c : After-loop-p) → Named c.args.stage.bells c.args.text.now c.loop-p.bells
bells c = record {
  stage = c.args.stage.most;
  long = omega arith;
  twelve = c.loop-p.invariant.0;
  rung = λ k l. c.loop-p.invariant.1 k (omega arith);
  covers = λ k lo hi. c.loop-p.invariant.2 k (omega arith) hi;
}

pub returns-then-text-stage : goal.returns-then-text-stage
returns-then-text-stage c = (
  refl,
  λ a r o e.
      let long = spells_n c.args.stage.bells a c.args.stage.most (member 12 a r).long c.args.text.now e in
      omega arith,
)

pub returns-then-not-once_each : goal.returns-then-not-once_each
returns-then-not-once_each c = (
  refl,
  λ a r o e.
      let is = bells (goal.at.returns-then-not-once_each c).After-loop-p in
      both_ways _ (sym c.if-not-once_each.ensures) (subst (RowOf 12) (spelled_only _ _ _ is a r o e) r),
)

pub returns : goal.returns
returns c =
    let is = bells (goal.at.returns c).After-loop-p in
    (named_on _ _ _ is, named_spells _ _ _ is (sym c.if-not-once_each.ensures))

pub returns-in_err-bells : goal.returns-in_err-bells
returns-in_err-bells c =
    let none : c.bell_named.result ≡ None = grind arith in
    let zero = MatchOption-at_none _ _ none c.bell_named.ensures in
    let p = err_from_is_err_and c.from_residual.result c.from_residual.ensures.1 in
    rw (p.1, p.2) (
      grind arith,
      λ a r o e.
          let low = spells_named c.args.stage.bells c.args.text.now a c.args.stage.most r e c.loop-p.p (omega arith) in
          omega arith,
    )
