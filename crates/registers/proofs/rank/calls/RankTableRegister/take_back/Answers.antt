use Rattle.std.proofs.Common.{refl, sym, ap, arith, rules}
use Rattle.registers.proofs.Tables.{last_below, none_left, removed, rewritten, rewritten_beyond}
use Rattle.registers.proofs.rank.calls.RankTableRegister.take_back.Goals as goal
use Rattle.registers.specs.Cells.{cell_at}
use Rattle.registers.specs.Entries.{with_entries}
use Rattle.registers.specs.Shelves.{empty_table, table_shelf}
use Rattle.registers.specs.declared.rank.cell.Cell.{Cell}
use Rattle.registers.specs.declared.rank.cell.Link.TheVariants.{Free}

pub returns-in_err-last-clause-answer : goal.returns-in_err-last-clause-answer
unfolding table_shelf
returns-in_err-last-clause-answer g c =
    let none = none_left c.args.self.now c.in_err-last.ensures.ok_part in
    search rules

pub returns-in_err-last-clause-after : goal.returns-in_err-last-clause-after
unfolding table_shelf
returns-in_err-last-clause-after g c =
    let table = c.args.self.now in
    ap (λ es. with_entries es (table_shelf table)) (none_left table c.in_err-last.ensures.ok_part).1

pub bounds-self-last : goal.bounds-self-last
bounds-self-last g c = omega (arith, last_below c.args.self.now c.in_ok-last.last c.in_ok-last.ensures.ok_part)

pub invariant_of-self : goal.invariant_of-self
invariant_of-self g c =
    let sound = rewritten c.args.self.now c.in_ok-last.last c.in_ok-last.ensures.ok_part _ in
    record { linked = sound.linked; apart = sound.apart; kept = sound.kept }

pub invariant_of-self-2 : goal.invariant_of-self-2
invariant_of-self-2 g c =
    let sound = (removed c.args.self.now c.in_ok-last.last c.in_ok-last.ensures.ok_part _ refl _ c.previous-self.ensures).0 in
    record { linked = sound.linked; apart = sound.apart; kept = sound.kept }

pub returns : goal.returns
unfolding table_shelf
returns g c =
    let table = c.args.self.now in
    let last = c.in_ok-last.last in
    let freed : Cell = record { mark = (cell_at table.cells.now last.code).mark; link = Free } in
    let less = removed table last c.in_ok-last.ensures.ok_part freed refl _ c.previous-self.ensures in
    let beyond = rewritten_beyond table last c.in_ok-last.ensures.ok_part freed in
    record {
      answer = sym less.2;
      after = λ i. with_entries (less.1 i) (empty_table (beyond.0 i));
      lent = record { loan = refl {a = table.cells.ghost_name}; beyond = beyond };
    }
