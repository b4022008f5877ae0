use Rattle.std.proofs.Common.{sym, ◌∙◌, arith}
use Rattle.books.proofs.Fitting.{came_round, leads_long}
use Rattle.books.proofs.row_book.calls.RowBookBook.verdict.Goals as goal

pub returns-then-rows-claimed : goal.returns-then-rows-claimed
returns-then-rows-claimed g c =
    let self = c.args.self.now in
    let long = leads_long self.touch.leads.items c.len-leads.result (c.len-leads.ensures ∙ self.touch.leads.ok.0) in
    let round = came_round self.touch.next.bells c.rounds.result.bells _ c.if-ne.ensures self.headed c.rounds.ensures.value in
    record { law = λ kept. (omega (arith, c.if-leads-eq0.false), round, self.long, c.if-rows-claimed.true) }

pub returns : goal.returns
returns g c =
    let self = c.args.self.now in
    let long = leads_long self.touch.leads.items c.len-leads.result (c.len-leads.ensures ∙ self.touch.leads.ok.0) in
    let round = came_round self.touch.next.bells c.rounds.result.bells _ c.if-ne.ensures self.headed c.rounds.ensures.value in
    record { law = λ kept. (record { some = omega (arith, c.if-leads-eq0.false); comes_round = round; no_repeat = kept.0.1; as_claimed = sym self.long ∙ c.if-rows-claimed.false }, self.long, long) }
