use Rattle.std.proofs.Common.{◌≡◌, length, refl, ap, ◌∙◌, subst, sym, arith}
use Rattle.books.proofs.Rung.{not_moved, length_rung, rung_more, reached_more, given_at, given_all, which_lead, back_to}
use Rattle.books.proofs.play.play.Goals as goal
use Rattle.books.specs.Law.{Reached}
use Rattle.books.specs.Leads.{rung}
use Rattle.std.proofs.lemmas.List.{take_all}

pub loop-number-init : goal.loop-number-init
unfolding rung
loop-number-init g c = rw c.rewind.ensures.given (record {
  same_forms = refl;
  same_limit = refl;
  same_list = refl;
  within = omega arith;
  leads_are = refl;
  law = λ k. (k, (omega arith, λ i l. absurd (omega arith)));
})

pub overflow_sub-lead : goal.overflow_sub-lead
overflow_sub-lead g c =
    let inv = c.loop-number.invariant in
    let are = not_moved _ _ _ _ _ _ _ c.in-Err.ensures.moves inv.leads_are in
    (which_lead _ _ _ _ inv.within _ are _ _ c.count.ensures c.count-stand.ensures).0

pub returns-in-Err-clause-moves : goal.returns-in-Err-clause-moves
returns-in-Err-clause-moves g c =
    let inv = c.loop-number.invariant in
    let at = given_at (g.S.Source.list c.rewind.new.self) (g.S.Source.given c.loop-number.source) c.in-Some.number (rw inv.same_list at c.in-Some.ensures.answer) in
    let are = not_moved _ _ _ _ _ _ _ c.in-Err.ensures.moves inv.leads_are in
    let lead = (which_lead _ _ _ _ inv.within _ are _ _ c.count.ensures c.count-stand.ensures).1 in
    (omega (arith, lead, at.0, ap length c.rewind.ensures.list), c.take_back_to.ensures.leads ∙ back_to _ _ _ _ inv.within _ are _ c.count-stand.ensures)

pub returns-in-Err-clause-law : goal.returns-in-Err-clause-law
returns-in-Err-clause-law g c = λ k.
    let inv = c.loop-number.invariant in
    let at = given_at (g.S.Source.list c.rewind.new.self) (g.S.Source.given c.loop-number.source) c.in-Some.number (rw inv.same_list at c.in-Some.ensures.answer) in
    let are = not_moved _ _ _ _ _ _ _ c.in-Err.ensures.moves inv.leads_are in
    let lead = (which_lead _ _ _ _ inv.within _ are _ _ c.count.ensures c.count-stand.ensures).1 in
    let so_far = inv.law k in
    let t = rw (inv.same_forms, inv.same_limit, inv.leads_are, at.1) at c.in-Err.ensures.law so_far.0 in
    (c.take_back_to.ensures.law t.0, rw (lead, ← c.rewind.ensures.list) (so_far.1, t.1))

pub loop-number-smaller : goal.loop-number-smaller
loop-number-smaller g c =
    let d = c.in-Some.ensures in
    let at = given_at (g.S.Source.list c.loop-number.source) (g.S.Source.given c.loop-number.source) c.in-Some.number d.answer in
    omega (arith, at.0, d.given, ap length d.list)

pub loop-number-preserved : goal.loop-number-preserved
loop-number-preserved g c =
    let inv = c.loop-number.invariant in
    let forms = g.B.Book.forms c.args.book.now in
    let start = g.B.Book.leads c.args.book.now in
    let list = g.S.Source.list c.rewind.new.self in
    let i = g.S.Source.given c.loop-number.source in
    let d = c.in-Some.ensures in
    let e = c.in_default-ring.ensures in
    let at = given_at list i c.in-Some.number (rw inv.same_list at d.answer) in
    let moves = rw (inv.same_forms, inv.same_limit, inv.leads_are, at.1) at e.moves in
    rw d.given (record {
      same_forms = e.still.0 ∙ inv.same_forms;
      same_limit = e.still.1 ∙ inv.same_limit;
      same_list = d.list ∙ inv.same_list;
      within = omega (arith, at.0);
      leads_are = moves.2 ∙ sym (rung_more forms start list i at.0);
      law = λ k.
          let so_far = inv.law k in
          let t = rw (inv.same_forms, inv.same_limit, inv.leads_are, at.1) at e.law so_far.0 in
          (t.0, reached_more forms (g.B.Book.limit c.args.book.now) start list i at.0 so_far.1 t.1);
    })

pub returns-clause-moves : goal.returns-clause-moves
returns-clause-moves g c =
    let inv = c.loop-number.invariant in
    let forms = g.B.Book.forms c.args.book.now in
    let start = g.B.Book.leads c.args.book.now in
    let list = g.S.Source.list c.rewind.new.self in
    let i = g.S.Source.given c.loop-number.source in
    let end = given_all list i (rw inv.same_list at c.in_default.ensures.answer) in
    let are = inv.leads_are ∙ ap (rung forms start) (take_all i list end) in
    rw (← c.rewind.ensures.list) (c.count-2.ensures ∙ ap length are ∙ length_rung forms start list, are)

pub returns-clause-law : goal.returns-clause-law
returns-clause-law g c = λ k.
    let inv = c.loop-number.invariant in
    let list = g.S.Source.list c.rewind.new.self in
    let i = g.S.Source.given c.loop-number.source in
    let end : i ≡ length list = omega (arith, inv.within, given_all list i (rw inv.same_list at c.in_default.ensures.answer)) in
    let so_far = inv.law k in
    (so_far.0, rw (← c.rewind.ensures.list) (subst (Reached (g.B.Book.forms c.args.book.now) (g.B.Book.limit c.args.book.now) (g.B.Book.leads c.args.book.now) list) end so_far.1))
