use Rattle.std.proofs.Common.{Ok, Err, sym, ◌∙◌, subst, arith}
use Rattle.books.proofs.Fitting.{Kept, law_of_ring, length_few, with}
use Rattle.books.proofs.row_book.calls.RowBookBook.ring.Goals as goal
use Rattle.books.specs.Forms.{shapes}
use Rattle.std.proofs.lemmas.Result.{err_from_is_err_and}

pub enter_rows-requires : goal.enter_rows-requires
enter_rows-requires g c =
    let self = c.args.self.now in
    omega (arith, self.few, self.small, self.long, self.touch.leads.ok.0, length_few self.stage.bells self.forms.now self.touch.leads.items self.stage.most self.staged self.known self.linked)

pub returns-in_err-enter_rows-clause-law : goal.returns-in_err-enter_rows-clause-law
returns-in_err-enter_rows-clause-law g c =
    let self = c.args.self.now in
    let read = rw (c.ok_or.ensures.ok_part, c.in_ok-rung.was) at c.get.ensures.lookup in
    let p = err_from_is_err_and c.from_residual-in_err-enter_rows.result c.from_residual-in_err-enter_rows.ensures.1 in
    rw (p.1, p.2) (law_of_ring self.stage.bells self.limit self.touch.rows c.args.form self.forms.now self.touch.leads.items self.touch.next c.in_ok-rung.rung.now (g.R.Register.shelf self.register) (g.R.Register.shelf c.enter_rows.new.register)
    self.stage.most self.staged self.known self.linked read.3.0 read.1 self.headed (omega (arith, c.if-stand-self.false, c.len-stand.ensures, self.touch.leads.ok.0)) self.long (Err c.in_err-enter_rows.field-0.0) c.in_err-enter_rows.ensures)

pub add-requires-clause-rows_bound : goal.add-requires-clause-rows_bound
add-requires-clause-rows_bound g c =
    let self = c.args.self.now in
    omega (arith, self.few, self.small, self.long, self.touch.leads.ok.0, length_few self.stage.bells self.forms.now self.touch.leads.items self.stage.most self.staged self.known self.linked)

pub invariant_of-self-2 : goal.invariant_of-self-2
invariant_of-self-2 g c =
    let self = c.args.self.now in
    let left = c.add.new.self in
    let read = rw (c.ok_or.ensures.ok_part, c.in_ok-rung.was) at c.get.ensures.lookup in
    let w = with self.forms.now self.touch.leads.items c.args.form self.touch.next c.in_ok-rung.rung.now read.3.0 read.1 self.headed left.leads.items c.add.ensures.leads self.known self.linked in
    record {
      few = omega (arith, left.leads.ok.0, w.more, self.touch.leads.ok.0, c.len-stand.ensures, c.if-stand-self.false);
      small = self.small;
      room = omega (arith, self.room, c.add.ensures.room);
      staged = self.staged;
      known = w.known;
      headed = c.add.ensures.next ∙ w.next;
      linked = w.linked;
      long = omega (arith, c.add.ensures.rows, self.long, w.longer);
    }

pub returns-clause-law : goal.returns-clause-law
returns-clause-law g c = λ kept.
    let self = c.args.self.now in
    let is = g.R.Register.shelf c.enter_rows.new.register in
    let read = rw (c.ok_or.ensures.ok_part, c.in_ok-rung.was) at c.get.ensures.lookup in
    let w = with self.forms.now self.touch.leads.items c.args.form self.touch.next c.in_ok-rung.rung.now read.3.0 read.1 self.headed c.add.new.self.leads.items c.add.ensures.leads self.known self.linked in
    let well = law_of_ring self.stage.bells self.limit self.touch.rows c.args.form self.forms.now self.touch.leads.items self.touch.next c.in_ok-rung.rung.now (g.R.Register.shelf self.register) is
    self.stage.most self.staged self.known self.linked read.3.0 read.1 self.headed (omega (arith, c.if-stand-self.false, c.len-stand.ensures, self.touch.leads.ok.0)) self.long (Ok tt) c.in_ok-enter_rows.ensures kept in
    (subst (λ x. Kept self.stage.bells self.limit (shapes self.forms.now) x is) (sym w.leads) well.0, well.1)
