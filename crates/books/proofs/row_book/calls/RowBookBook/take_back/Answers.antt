use Rattle.std.proofs.Common.{◌<◌, length, Some, refl, ap, ◌∙◌, arith}
use Rattle.books.proofs.Fitting.{last_gone}
use Rattle.books.proofs.row_book.calls.RowBookBook.take_back.Goals as goal
use Rattle.books.specs.declared.lead.Lead.{Lead}
use Rattle.rows.specs.declared.row.Row.{Row}
use Rattle.std.proofs.lemmas.List.Elements.{All-pop}

pub bounds-self-lead : goal.bounds-self-lead
bounds-self-lead g c =
    let self = c.args.self.now in
    let last = rw (c.ok_or.ensures.ok_part, c.in_ok-lead.was) at c.last.ensures in
    (All-pop (λ (l : Lead). l.form < length self.forms.now) self.touch.leads.items last.0 (Some c.in_ok-lead.lead) last.1 self.known).1

pub remove-requires : goal.remove-requires
remove-requires g c =
    let self = c.args.self.now in
    let last = rw (c.ok_or.ensures.ok_part, c.in_ok-lead.was) at c.last.ensures in
    let w = last_gone self.forms.now self.touch.leads.items last.0 last.0 c.in_ok-lead.lead c.index-self-lead.result last.1 refl self.known self.linked in
    omega (arith, self.long, w.shorter)

pub invariant_of-self : goal.invariant_of-self
invariant_of-self g c =
    let self = c.args.self.now in
    let left = c.remove.new.self in
    let last = rw (c.ok_or.ensures.ok_part, c.in_ok-lead.was) at c.last.ensures in
    let gone = c.remove.ensures.stands c.in_ok-lead.lead last.0 last.1 in
    let w = last_gone self.forms.now self.touch.leads.items left.leads.items last.0 c.in_ok-lead.lead c.index-self-lead.result last.1 gone.0 self.known self.linked in
    record {
      few = omega (arith, self.few, left.leads.ok.0, self.touch.leads.ok.0, w.fewer);
      small = self.small;
      room = omega (arith, self.room, c.remove.ensures.room);
      staged = self.staged;
      known = w.known;
      headed = ap (λ (r : Row). r.bells) gone.1 ∙ w.next;
      linked = w.linked;
      long = omega (arith, gone.2, self.long, w.shorter);
    }

pub returns-clause-law : goal.returns-clause-law
returns-clause-law g c =
    let self = c.args.self.now in
    let left = c.remove.new.self in
    let last = rw (c.ok_or.ensures.ok_part, c.in_ok-lead.was) at c.last.ensures in
    let gone = c.remove.ensures.stands c.in_ok-lead.lead last.0 last.1 in
    let w = last_gone self.forms.now self.touch.leads.items left.leads.items last.0 c.in_ok-lead.lead c.index-self-lead.result last.1 gone.0 self.known self.linked in
    w.kept self.stage.bells self.limit (g.R.Register.shelf self.register) (g.R.Register.shelf c.take_back_rows.new.register) c.take_back_rows.ensures
