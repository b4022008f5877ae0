use Rattle.std.proofs.Common.{◌≡◌, [], map, take, drop}
use Rattle.books.proofs.history.run.Given as goal
use Rattle.books.specs.Law.{plain, Lawful, standing}
use Rattle.books.specs.Theorems.{Sound}

abbrev pub invariant-loop-i : goal.invariant-loop-i
invariant-loop-i g l =
    let forms = g.B.Book.forms l.initial.book in
    let limit = g.B.Book.limit l.initial.book in
    let asked = map (plain g.S.Source.list) l.initial.call-items in
    record {
      same_forms : g.B.Book.forms l.book ≡ forms;
      same_limit : g.B.Book.limit l.book ≡ limit;
      calls : map (plain g.S.Source.list) l.call-items ≡ asked;
      rest : drop l.i l.answers ≡ drop l.i l.initial.answers;
      law : g.B.Book.kept l.initial.book → g.B.Book.leads l.initial.book ≡ [] → Sound forms → g.B.Book.kept l.book × (g.B.Book.leads l.book ≡ standing forms limit (take l.i asked)) × Lawful forms limit (take l.i asked) (take l.i l.answers);
    }
