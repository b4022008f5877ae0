use Rattle.std.proofs.Common.{ap}
use Rattle.books.proofs.Opened.{kept_from}
use Rattle.books.proofs.Sounding.{shapes_sound}
use Rattle.books.proofs.proving.prove_rows.Goals as goal
use Rattle.books.specs.Forms.{leads_in}

pub returns : goal.returns
returns g c =
    let b = c.in_ok-book.book in
    let e = c.in_ok-book.ensures in
    let stands = e.stands in
    let kept = kept_from g.R.Register.shelf b.register c.args.register b.forms.now _ b.stage c.args.forms.now.stage b.limit c.args.limit stands.3 stands.1 stands.2 stands.4 e.opens in
    let empty = ap leads_in stands.4 in
    let sound = shapes_sound b.forms.now in
    record {
      opening = (c.run.ensures.number, e.opens);
      calls = c.run.ensures.calls;
      rest = c.run.ensures.rest;
      law = rw (← stands.0, ← stands.2) (c.run.ensures.law kept empty sound).2;
      verdicts = rw (← stands.0, ← stands.2) (c.run.ensures.verdicts kept empty sound);
      rings = rw (← stands.0, ← stands.2) (c.run.ensures.rings kept empty sound);
      plays = rw (← stands.0, ← stands.2) (c.run.ensures.plays kept empty sound);
    }
