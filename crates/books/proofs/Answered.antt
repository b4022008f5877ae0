-- What one call answers, and the leads after it, as the law has them.
use Rattle.std.proofs.Common.{◌≡◌, ℕ, List, length, Ok, Err, sym, ap, ◌∙◌, subst}
use Rattle.books.proofs.Rung.{not_moved}
use Rattle.books.proofs.Standing.{which_stand}
use Rattle.books.specs.Law.{after, BookAnswer, Gives}
use Rattle.books.specs.Law.Gives.{adds, turns_down, plays, stops, takes, takes_none, certifies, no_lead, not_round, other_length}
use Rattle.books.specs.Leads.{Shape, Lead, rows_of}
use Rattle.books.specs.Playing.{Plays, PlaysMoves}
use Rattle.books.specs.Ringing.{Moves, Rings, Takes, Judges}
use Rattle.books.specs.declared.call.Call.{Call}
use Rattle.books.specs.declared.call.Call.TheVariants.{Ring, Play, TakeBack, Verdict}
use Rattle.books.specs.declared.call.Certificate.{Certificate}
use Rattle.books.specs.declared.call.Reply.TheVariants.{Stands, Form, True}
use Rattle.books.specs.declared.fault.BookFault.TheVariants.{Ring as NotRung, Play as NotPlayed, TakeBack as NotTaken, Verdict as NotCertified}
use Rattle.books.specs.declared.fault.PlayFault.{PlayFault}
use Rattle.books.specs.declared.fault.RingFault.{RingFault}
use Rattle.books.specs.declared.fault.TakeBackFault.{TakeBackFault}
use Rattle.books.specs.declared.fault.TakeBackFault.TheVariants.{Leads as NoneToTake}
use Rattle.books.specs.declared.fault.VerdictFault.{VerdictFault}
use Rattle.books.specs.declared.fault.VerdictFault.TheVariants.{Leads as NoLead, Head, Length}

module _ (forms : List Shape) (limit : ℕ) (leads : List Lead) (K : Type 0) where
  -- the book is kept, the leads are those after the call, and the answer is given
  abbrev pub Answered : Call (List ℕ) → BookAnswer → List Lead → Type 0
  Answered c a now = K × (now ≡ after forms limit leads c) × Gives forms limit leads c a

  -- a lead that is free is added
  pub rings : (f n : ℕ) (now : List Lead) → Moves forms limit leads f (Ok n) now → K × Rings forms limit leads f (Ok n) → Answered (Ring f) (Ok (Stands n)) now
  rings f n now m (k, free) = (k, m.2 ∙ sym (which_stand.ring_adds forms limit leads f free), rw m.1 (adds free))

  -- one that is turned down leaves the leads as they were
  pub rings_none : (f : ℕ) (e : RingFault) (now : List Lead) → Moves forms limit leads f (Err e) now → K × Rings forms limit leads f (Err e) → Answered (Ring f) (Err (NotRung e)) now
  rings_none f e now m (k, t) = (k, not_moved forms limit leads f e now (after forms limit leads (Ring f)) m (sym (which_stand.ring_refused forms limit leads f e t)), turns_down t)

  -- every lead of the play is added
  pub plays_all : (fs : List ℕ) (n : ℕ) (now : List Lead) → PlaysMoves forms leads fs (Ok n) now → K × Plays forms limit leads fs (Ok n) → Answered (Play fs) (Ok (Stands n)) now
  plays_all fs n now m (k, r) = (k, m.1 ∙ sym (which_stand.play_adds forms limit leads fs r), rw m.0 (plays r))

  -- or none is
  pub plays_none : (fs : List ℕ) (e : PlayFault) (now : List Lead) → PlaysMoves forms leads fs (Err e) now → K × Plays forms limit leads fs (Err e) → Answered (Play fs) (Err (NotPlayed e)) now
  plays_none fs e now m (k, t) = (k, m.1 ∙ sym (which_stand.play_refused forms limit leads fs e.lead e.fault m.0 t.0 t.1), stops m.0 t.0 t.1)

  -- the last lead goes, and its form is answered
  pub takes_one : (f : ℕ) (now : List Lead) → Takes leads (Ok f) now → K → Answered TakeBack (Ok (Form f)) now
  takes_one f now t k = (k, sym (ap (λ ls. after forms limit ls TakeBack) t.1 ∙ which_stand.take_back forms limit now t.0), rw t.2 (takes now t.0 t.1))

  -- where none stands none goes
  pub takes_no_lead : (e : TakeBackFault) (now : List Lead) → Takes leads (Err e) now → K → Answered TakeBack (Err (NotTaken e)) now
  takes_no_lead NoneToTake now t k = (k, t.1 ∙ sym (ap (λ ls. after forms limit ls TakeBack) t.0 ∙ which_stand.take_back_none forms limit), takes_none t.0)

  -- a true touch is certified, with its rows and leads
  pub judges_true : (n : ℕ) (c : Certificate) → K → Judges forms leads n (Ok c) → Answered (Verdict n) (Ok (True c)) leads
  judges_true n c k j = (
    k,
    sym (which_stand.verdict_none forms limit leads n),
    subst (λ (r : ℕ). Gives forms limit leads (Verdict n) (Ok (True (record { rows = r; leads = c.leads })))) (sym j.1)
        (subst (λ (l : ℕ). Gives forms limit leads (Verdict n) (Ok (True (record { rows = length (rows_of forms leads); leads = l })))) (sym j.2) (certifies j.0)),
  )

  -- and what is none is told what it lacks
  pub judges_not : (n : ℕ) (e : VerdictFault) → K → Judges forms leads n (Err e) → Answered (Verdict n) (Err (NotCertified e)) leads
  judges_not n NoLead k j = (k, sym (which_stand.verdict_none forms limit leads n), no_lead j)
  judges_not n Head k j = (k, sym (which_stand.verdict_none forms limit leads n), not_round j.0 j.1)
  judges_not n (Length m) k j = (k, sym (which_stand.verdict_none forms limit leads n), rw j.2 (other_length j.0 j.1 (λ e. j.3 (j.2 ∙ e))))
