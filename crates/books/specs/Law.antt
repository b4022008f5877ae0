-- Which leads stand after a list of calls, and the law of the answers. Leads, heads, rows and places are all that it speaks of.
use Rattle.std.specs.Prelude.{◌≡◌, ℕ, ◌+◌, ◌-◌, ◌<◌, ◌≤◌, Bool, true, false, not, ◌&&◌, ◌↔◌, List, [], ◌∷◌, ◌++◌, length, take, Some, Ok, Err, Result, ◌≢◌, nat_lt, slice_index}
use Rattle.books.specs.Leads.{Shape, Lead, next_head, rows_of, new_rows, added, rung, Shares, NoRepeat, FirstAgain}
use Rattle.books.specs.declared.call.Call.{Call}
use Rattle.books.specs.declared.call.Call.TheVariants.{Ring, Play, TakeBack, Verdict}
use Rattle.books.specs.declared.call.Reply.{Reply}
use Rattle.books.specs.declared.call.Reply.TheVariants.{Stands, Form, True}
use Rattle.books.specs.declared.fault.BookFault.{BookFault}
use Rattle.books.specs.declared.fault.BookFault.TheVariants.{Ring as NotRung, Play as NotPlayed, TakeBack as NotTaken, Verdict as NotCertified}
use Rattle.books.specs.declared.fault.RingFault.{RingFault}
use Rattle.books.specs.declared.fault.RingFault.TheVariants.{Form as NoForm, Limit, Again, Register}
use Rattle.books.specs.declared.fault.TakeBackFault.TheVariants.{Leads as NoneToTake}
use Rattle.books.specs.declared.fault.VerdictFault.TheVariants.{Leads as NoLead, Head, Length}
use Rattle.rows.specs.Rows.{rounds}
use Rattle.std.specs.List.{list_all, list_any, slice_get}
use Rattle.std.specs.Str.{bytes_eq}

-- a call with the list that a source means in the place of the source
abbrev pub plain : {S : Type 0} → (S → List ℕ) → Call S → Call (List ℕ)
plain list (Ring f) = Ring f
plain list (Play s) = Play (list s)
plain list TakeBack = TakeBack
plain list (Verdict n) = Verdict n

-- tests for rows
abbrev pub among : List (List ℕ) → List ℕ → Bool
among rows x = list_any (λ y. bytes_eq y x) rows

abbrev pub apart : List (List ℕ) → List (List ℕ) → Bool
apart book new = list_all (λ x. not (among book x)) new

-- the form is in the list, the limit is not reached, and no row of the lead is in the book
unfoldable pub free : List Shape → ℕ → List Lead → ℕ → Bool
free forms limit leads f = nat_lt f (length forms) && (nat_lt (length leads) limit && apart (rows_of forms leads) (new_rows forms leads f))

-- lead by lead, from start: if one is turned down, all of them go again
unfoldable pub playing : List Shape → ℕ → List Lead → List Lead → List ℕ → List Lead
unfolding free
playing forms limit start leads [] = leads
playing forms limit start leads (f ∷ fs) = elim (free forms limit leads f) [ true ↦ playing forms limit start (added forms leads f) fs | false ↦ start ]

-- the leads that stand after one call
unfoldable pub after : List Shape → ℕ → List Lead → Call (List ℕ) → List Lead
unfolding playing free
after forms limit leads (Ring f) = playing forms limit leads leads (f ∷ [])
after forms limit leads (Play fs) = playing forms limit leads leads fs
after forms limit leads TakeBack = take (length leads - 1) leads
after forms limit leads (Verdict n) = leads

unfoldable pub standing_from : List Shape → ℕ → List Lead → List (Call (List ℕ)) → List Lead
unfolding after playing free
standing_from forms limit leads [] = leads
standing_from forms limit leads (c ∷ cs) = standing_from forms limit (after forms limit leads c) cs

-- which leads stand, from forms, limit and calls alone
abbrev pub standing : List Shape → ℕ → List (Call (List ℕ)) → List Lead
standing forms limit calls = standing_from forms limit [] calls

-- past the checks before that of the rows
abbrev pub Past : List Shape → ℕ → List Lead → ℕ → Type 0
Past forms limit leads f = (f < length forms) × (length leads < limit)

-- a lead may be added
abbrev pub Free : List Shape → ℕ → List Lead → ℕ → Type 0
Free forms limit leads f = Past forms limit leads f × (Shares (rows_of forms leads) (new_rows forms leads f) → ⊥)

-- a lead is turned down for this
abbrev pub Turned : List Shape → ℕ → List Lead → ℕ → RingFault → Type 0
Turned forms limit leads f NoForm = length forms ≤ f
Turned forms limit leads f Limit = (f < length forms) × (limit ≤ length leads)
Turned forms limit leads f (Again i j) = Past forms limit leads f × FirstAgain (rows_of forms leads) (new_rows forms leads f) i j
Turned forms limit leads f (Register e) = ⊥

-- the first m leads of a play are added
abbrev pub Reached : List Shape → ℕ → List Lead → List ℕ → ℕ → Type 0
Reached forms limit leads fs m = (m ≤ length fs) × ((i : ℕ) → i < m → Free forms limit (rung forms leads (take i fs)) (slice_index fs i))

pub record TrueTouch (forms : List Shape) (leads : List Lead) (claimed : ℕ) : Type 0 where
  pub some : 0 < length leads
  pub comes_round : next_head forms leads ≡ rounds 12
  pub no_repeat : NoRepeat (rows_of forms leads)
  pub as_claimed : length (rows_of forms leads) ≡ claimed

-- what a call is answered; antt has no name for an alias
abbrev pub BookAnswer : Type 0
BookAnswer = Result Reply BookFault

-- the leads that stand give this answer to a call
pub data Gives (forms : List Shape) (limit : ℕ) (leads : List Lead) : Call (List ℕ) → BookAnswer → Type 0 where
  adds : {f : ℕ} → Free forms limit leads f → Gives forms limit leads (Ring f) (Ok (Stands (length leads + 1)))
  turns_down : {f : ℕ} {e : RingFault} → Turned forms limit leads f e → Gives forms limit leads (Ring f) (Err (NotRung e))
  plays : {fs : List ℕ} → Reached forms limit leads fs (length fs) → Gives forms limit leads (Play fs) (Ok (Stands (length leads + length fs)))
  stops : {fs : List ℕ} {m : ℕ} {e : RingFault} → m < length fs → Reached forms limit leads fs m → Turned forms limit (rung forms leads (take m fs)) (slice_index fs m) e → Gives forms limit leads (Play fs) (Err (NotPlayed (record { lead = m; fault = e })))
  takes : (front : List Lead) (l : Lead) → leads ≡ front ++ l ∷ [] → Gives forms limit leads TakeBack (Ok (Form l.form))
  takes_none : leads ≡ [] → Gives forms limit leads TakeBack (Err (NotTaken NoneToTake))
  certifies : {n : ℕ} → TrueTouch forms leads n → Gives forms limit leads (Verdict n) (Ok (True (record { rows = length (rows_of forms leads); leads = length leads })))
  no_lead : {n : ℕ} → leads ≡ [] → Gives forms limit leads (Verdict n) (Err (NotCertified NoLead))
  not_round : {n : ℕ} → 0 < length leads → (next_head forms leads ≢ rounds 12) → Gives forms limit leads (Verdict n) (Err (NotCertified Head))
  other_length : {n : ℕ} → 0 < length leads → next_head forms leads ≡ rounds 12 → (length (rows_of forms leads) ≢ n) → Gives forms limit leads (Verdict n) (Err (NotCertified (Length (length (rows_of forms leads)))))

abbrev pub At : {X : Type 0} → List X → ℕ → X → Type 0
At xs k x = slice_get xs k ≡ Some x

-- the leads that stand when call k is made
abbrev pub before : List Shape → ℕ → List (Call (List ℕ)) → ℕ → List Lead
before forms limit calls k = standing forms limit (take k calls)

-- one answer to each call, and it is b exactly when b is what the standing leads give
pub record Lawful (forms : List Shape) (limit : ℕ) (calls : List (Call (List ℕ))) (answers : List BookAnswer) : Type 0 where
  pub each : length answers ≡ length calls
  pub exactly : (k : ℕ) (c : Call (List ℕ)) (a : BookAnswer) → At calls k c → At answers k a → (b : BookAnswer) → (a ≡ b) ↔ Gives forms limit (before forms limit calls k) c b
