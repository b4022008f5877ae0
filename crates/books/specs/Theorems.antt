-- What follows from the law of the answers.
use Rattle.std.specs.Prelude.{◌≡◌, ℕ, ◌<◌, ◌≤◌, ◌↔◌, List, [], ◌∷◌, ◌++◌, length, take, Ok, Err, ◌≢◌, slice_index, slice_index_or}
use Rattle.books.specs.Law.{after, standing, Past, Free, Turned, Reached, TrueTouch, BookAnswer, Gives, At, before, Lawful}
use Rattle.books.specs.Leads.{Shape, Lead, shape_at, rows_of, new_rows, added, rung, Shares, NoRepeat, FirstAgain}
use Rattle.books.specs.declared.call.Call.{Call}
use Rattle.books.specs.declared.call.Call.TheVariants.{Ring, Play, TakeBack, Verdict}
use Rattle.books.specs.declared.call.Certificate.{Certificate}
use Rattle.books.specs.declared.call.Reply.TheVariants.{True}
use Rattle.books.specs.declared.fault.BookFault.TheVariants.{Ring as NotRung, Play as NotPlayed}
use Rattle.books.specs.declared.fault.RingFault.{RingFault}
use Rattle.books.specs.declared.fault.RingFault.TheVariants.{Again}
use Rattle.rows.specs.Rows.{RowOf}

-- what every closed list of forms has: rows throughout, none of them twice in a lead
pub record SoundShape (s : Shape) : Type 0 where
  pub rows_are : (i : ℕ) → i < length s.rows → RowOf 12 (slice_index_or s.rows i [])
  pub turn_is : RowOf 12 s.turn
  pub no_repeat : NoRepeat s.rows

abbrev pub Sound : List Shape → Type 0
Sound forms = (f : ℕ) → f < length forms → SoundShape (shape_at forms f)

abbrev pub Certifies : BookAnswer → Type 0
Certifies a = (c : Certificate) × (a ≡ Ok (True c))

-- every verdict in a history certifies exactly the true touches of the length claimed
abbrev pub VerdictsTrue : List Shape → ℕ → List (Call (List ℕ)) → List BookAnswer → Type 0
VerdictsTrue forms limit calls answers =
    (k n : ℕ) (a : BookAnswer) → At calls k (Verdict n) → At answers k a → Certifies a ↔ TrueTouch forms (before forms limit calls k) n

-- past the checks before it, a lead rung next is turned down exactly when one of its rows is in the book, and the places are named
abbrev pub RingsTurned : List Shape → ℕ → List (Call (List ℕ)) → List BookAnswer → Type 0
RingsTurned forms limit calls answers =
    (k f : ℕ) (a : BookAnswer) → At calls k (Ring f) → At answers k a → Past forms limit (before forms limit calls k) f
    → (((e : RingFault) × (a ≡ Err (NotRung e))) ↔ Shares (rows_of forms (before forms limit calls k)) (new_rows forms (before forms limit calls k) f))
    × ((e : RingFault) → a ≡ Err (NotRung e) → (i j : ℕ) × (e ≡ Again i j) × FirstAgain (rows_of forms (before forms limit calls k)) (new_rows forms (before forms limit calls k) f) i j)

-- and so is a lead reached in a play, the play's own earlier leads included
abbrev pub PlaysTurned : List Shape → ℕ → List (Call (List ℕ)) → List BookAnswer → Type 0
PlaysTurned forms limit calls answers =
    (k m : ℕ) (fs : List ℕ) (a : BookAnswer) → At calls k (Play fs) → At answers k a → m < length fs → Reached forms limit (before forms limit calls k) fs m
    → (leads : List Lead) → leads ≡ rung forms (before forms limit calls k) (take m fs) → Past forms limit leads (slice_index fs m)
    → (((e : RingFault) × (a ≡ Err (NotPlayed (record { lead = m; fault = e })))) ↔ Shares (rows_of forms leads) (new_rows forms leads (slice_index fs m)))
    × ((e : RingFault) → a ≡ Err (NotPlayed (record { lead = m; fault = e })) → (i j : ℕ) × (e ≡ Again i j) × FirstAgain (rows_of forms leads) (new_rows forms leads (slice_index fs m)) i j)

pub record LawOfBooks : Type 0 where
  pub verdicts : (forms : List Shape) (limit : ℕ) (calls : List (Call (List ℕ))) (answers : List BookAnswer) → Lawful forms limit calls answers → VerdictsTrue forms limit calls answers
  pub rings : (forms : List Shape) (limit : ℕ) (calls : List (Call (List ℕ))) (answers : List BookAnswer) → Lawful forms limit calls answers → RingsTurned forms limit calls answers
  pub plays : (forms : List Shape) (limit : ℕ) (calls : List (Call (List ℕ))) (answers : List BookAnswer) → Lawful forms limit calls answers → PlaysTurned forms limit calls answers
  -- the law leaves one list of answers
  pub one : (forms : List Shape) (limit : ℕ) (calls : List (Call (List ℕ))) (a b : List BookAnswer) → Lawful forms limit calls a → Lawful forms limit calls b → a ≡ b
  -- one call more: all that a single call has to promise
  pub extends : (forms : List Shape) (limit : ℕ) (calls : List (Call (List ℕ))) (answers : List BookAnswer) (c : Call (List ℕ)) (a : BookAnswer) → Sound forms → Lawful forms limit calls answers → Gives forms limit (standing forms limit calls) c a → Lawful forms limit (calls ++ c ∷ []) (answers ++ a ∷ [])
  pub goes_on : (forms : List Shape) (limit : ℕ) (calls : List (Call (List ℕ))) (c : Call (List ℕ)) → standing forms limit (calls ++ c ∷ []) ≡ after forms limit (standing forms limit calls) c
  pub true_so_far : (forms : List Shape) (limit : ℕ) (calls : List (Call (List ℕ))) → Sound forms → NoRepeat (rows_of forms (standing forms limit calls))

-- what one call does to the leads that stand
pub record WhichStand : Type 0 where
  pub ring_adds : (forms : List Shape) (limit : ℕ) (leads : List Lead) (f : ℕ) → Free forms limit leads f → after forms limit leads (Ring f) ≡ added forms leads f
  pub ring_refused : (forms : List Shape) (limit : ℕ) (leads : List Lead) (f : ℕ) (e : RingFault) → Turned forms limit leads f e → after forms limit leads (Ring f) ≡ leads
  pub play_adds : (forms : List Shape) (limit : ℕ) (leads : List Lead) (fs : List ℕ) → Reached forms limit leads fs (length fs) → after forms limit leads (Play fs) ≡ rung forms leads fs
  pub play_refused : (forms : List Shape) (limit : ℕ) (leads : List Lead) (fs : List ℕ) (m : ℕ) (e : RingFault) → m < length fs → Reached forms limit leads fs m
      → Turned forms limit (rung forms leads (take m fs)) (slice_index fs m) e → after forms limit leads (Play fs) ≡ leads
  pub take_back : (forms : List Shape) (limit : ℕ) (front : List Lead) (l : Lead) → after forms limit (front ++ l ∷ []) TakeBack ≡ front
  pub take_back_none : (forms : List Shape) (limit : ℕ) → after forms limit [] TakeBack ≡ []
  pub verdict_none : (forms : List Shape) (limit : ℕ) (leads : List Lead) (n : ℕ) → after forms limit leads (Verdict n) ≡ leads

-- distinct numbers below n are at most n
abbrev pub Pigeonhole : Type 0
Pigeonhole = (n : ℕ) (xs : List ℕ) → ((i : ℕ) → i < length xs → slice_index xs i < n) → ((i j : ℕ) → i < j → j < length xs → slice_index xs i ≢ slice_index xs j) → length xs ≤ n
