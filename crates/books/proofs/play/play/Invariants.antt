use Rattle.std.proofs.Common.{◌≡◌, ◌-◌, ◌≤◌, length, take}
use Rattle.books.proofs.play.play.Given as goal
use Rattle.books.specs.Law.{Reached}
use Rattle.books.specs.Leads.{rung}

abbrev pub invariant-loop-number : goal.invariant-loop-number
invariant-loop-number g l =
    let forms = g.B.Book.forms l.initial.book in
    let limit = g.B.Book.limit l.initial.book in
    let start = g.B.Book.leads l.initial.book in
    let list = g.S.Source.list l.initial.source in
    let i = g.S.Source.given l.source in
    record {
      same_forms : g.B.Book.forms l.book ≡ forms;
      same_limit : g.B.Book.limit l.book ≡ limit;
      same_list : g.S.Source.list l.source ≡ list;
      within : i ≤ length list;
      leads_are : g.B.Book.leads l.book ≡ rung forms start (take i list);
      law : g.B.Book.kept l.initial.book → g.B.Book.kept l.book × Reached forms limit start list i;
    }

abbrev pub decreases-loop-number : goal.decreases-loop-number
decreases-loop-number g l = length (g.S.Source.list l.source) - g.S.Source.given l.source
