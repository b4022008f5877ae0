use Rattle.std.proofs.Common.{◌≡◌, ◌<◌, ◌≤◌, ◌++◌, map, length, get_or, take, drop, refl, sym, ap, ◌∙◌, arith}
use Rattle.books.proofs.Lawful.{law_of_books}
use Rattle.books.proofs.Running.{calls_stay, asked_at, rest_stays, lawful_none, one_more}
use Rattle.books.proofs.history.run.Goals as goal
use Rattle.books.specs.Law.{plain, standing_from}
use Rattle.std.proofs.lemmas.List.{length-map, length-take-le, map-append, take-append-drop, take-map, take-take}

pub loop-i-init : goal.loop-i-init
unfolding standing_from
loop-i-init g c = record {
  same_forms = refl;
  same_limit = refl;
  calls = refl;
  rest = refl;
  law = λ k none sound. (k, none, lawful_none (g.B.Book.forms c.args.book.now) (g.B.Book.limit c.args.book.now));
}

pub loop-i-preserved : goal.loop-i-preserved
loop-i-preserved g c =
    let inv = c.loop-i.invariant in
    let list = g.S.Source.list in
    let asked = map (plain list) (take c.min-number.result c.args.calls.now) in
    let i = c.loop-i.i in
    let d = plain list (get_or c.loop-i.call-items i c.call-item.result) in
    let e = c.answer.ensures in
    let in_calls : i < length c.loop-i.call-items = omega (arith, c.loop-i-test.true, c.loop-i.auto.call-items) in
    let in_answers : i < length c.loop-i.answers = omega (arith, c.loop-i-test.true, c.loop-i.auto.answers, c.min-number.ensures, length-take-le c.min-number.result c.args.calls.now (omega (arith, c.min-number.ensures))) in
    record {
      same_forms = e.still.0 ∙ inv.same_forms;
      same_limit = e.still.1 ∙ inv.same_limit;
      calls = calls_stay list c.loop-i.call-items i c.call-item.result c.answer.new.call e.call ∙ inv.calls;
      rest = rest_stays c.loop-i.answers c.args.answers.now i c.answer.result inv.rest;
      law = λ k none sound.
          let so_far = inv.law k none sound in
          let t = rw (inv.same_forms, inv.same_limit) at e.law so_far.0 in
          let u = one_more (g.B.Book.forms c.args.book.now) (g.B.Book.limit c.args.book.now) asked c.loop-i.answers i d c.answer.result (omega (arith, in_calls, ap length inv.calls, length-map c.loop-i.call-items (plain list))) in_answers
          (asked_at list c.loop-i.call-items i c.call-item.result in_calls ∙ ap (λ cs. get_or cs i d) inv.calls) sound (g.B.Book.leads c.loop-i.book) (g.B.Book.leads c.answer.new.book) so_far.1 so_far.2 t.1 t.2 in
          (t.0, u.0, u.1);
    }

pub returns : goal.returns
returns g c =
    let inv = c.loop-i.invariant in
    let n = c.min-number.result in
    let calls = c.args.calls.now in
    let list = plain g.S.Source.list in
    let forms = g.B.Book.forms c.args.book.now in
    let limit = g.B.Book.limit c.args.book.now in
    let few : n ≤ length calls = omega (arith, c.min-number.ensures) in
    let end : c.loop-i.i ≡ n = omega (arith, c.loop-i-test.false, c.loop-i.auto.i-end, length-take-le n calls few) in
    let asked : take n (map list (take n calls)) ≡ take n (map list calls) = ap (take n) (sym (take-map list n calls)) ∙ take-take n n (map list calls) (omega arith) in
    let law = rw (end, asked) at inv.law in
    record {
      number = c.min-number.ensures;
      still = (inv.same_forms, inv.same_limit);
      calls = map-append list c.loop-i.call-items (drop n calls) ∙ ap (λ xs. xs ++ map list (drop n calls)) inv.calls ∙ sym (map-append list (take n calls) (drop n calls)) ∙ ap (map list) (take-append-drop n calls);
      rest = rw end at inv.rest;
      law = law;
      verdicts = λ k none sound. law_of_books.verdicts forms limit (take n (map list calls)) (take n c.loop-i.answers) (law k none sound).2;
      rings = λ k none sound. law_of_books.rings forms limit (take n (map list calls)) (take n c.loop-i.answers) (law k none sound).2;
      plays = λ k none sound. law_of_books.plays forms limit (take n (map list calls)) (take n c.loop-i.answers) (law k none sound).2;
    }
