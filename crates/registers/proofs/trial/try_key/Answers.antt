use Rattle.std.proofs.Common.{◌≡◌, sym}
use Rattle.registers.proofs.Trials.{undone_entered, entered_other, passes_by}
use Rattle.registers.proofs.trial.try_key.Goals as goal
use Rattle.registers.specs.Entries.{Entry}

pub returns : goal.returns
returns g c =
    let s = g.R.Register.shelf c.args.register.now in
    let k = g.K.Key.code c.args.key.now in
    let r = c.enter-entered.result in
    let e : Entry = record { code = k; mark = c.args.mark } in
    let after = c.enter-entered.ensures.after in
    let back : g.R.Register.shelf c.undo.new.register ≡ s = cc (undone_entered r e s) in
    record {
      passes = passes_by s k c.args.mark _ c.enter-entered.ensures.answer (cc) (cc);
      others = λ other h. entered_other r (g.K.Key.code other) k c.args.mark s.entries (λ q. h (g.met.K.Key.apart other c.args.key.now (sym q)));
      after = back;
    }
