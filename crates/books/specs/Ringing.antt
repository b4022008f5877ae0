-- What a ring, a take back and a verdict answer, and the leads that then stand.
use Rattle.std.specs.Prelude.{◌≡◌, ℕ, suc, ◌+◌, ◌-◌, ◌<◌, ◌≤◌, List, [], ◌∷◌, ◌++◌, length, take, Some, None, Ok, Err, Result, ◌≢◌, slice_index_or}
use Rattle.books.specs.Law.{Past, Free, Turned, TrueTouch}
use Rattle.books.specs.Leads.{Shape, Lead, next_head, rows_of, added, NoRepeat}
use Rattle.books.specs.declared.call.Certificate.{Certificate}
use Rattle.books.specs.declared.fault.RingFault.{RingFault}
use Rattle.books.specs.declared.fault.RingFault.TheVariants.{Form as NoForm, Limit, Again, Register}
use Rattle.books.specs.declared.fault.TakeBackFault.{TakeBackFault}
use Rattle.books.specs.declared.fault.VerdictFault.{VerdictFault}
use Rattle.books.specs.declared.fault.VerdictFault.TheVariants.{Leads as NoLead, Head, Length}
use Rattle.registers.specs.Entries.{Entry, Shelf, with_entries, marked, entering, entered}
use Rattle.registers.specs.declared.entered.Entered.{Entered}
use Rattle.registers.specs.declared.entered.Entered.TheVariants.{Added, Held}
use Rattle.registers.specs.declared.fault.RegisterFault.{RegisterFault}
use Rattle.rows.specs.Code.{code}
use Rattle.rows.specs.Rows.{rounds}

-- rows with their places, as entries of a register
abbrev pub placed : ℕ → List (List ℕ) → List Entry
placed k [] = []
placed k (x ∷ xs) = record { code = code x; mark = k } ∷ placed (suc k) xs

-- a register holds the rows of a book, each at its place, and no row twice
abbrev pub Holds : List Entry → List (List ℕ) → Type 0
Holds es rows = (es ≡ placed 0 rows) × NoRepeat rows

-- what a ring does to the leads, whatever the register holds
abbrev pub Moves : List Shape → ℕ → List Lead → ℕ → Result ℕ RingFault → List Lead → Type 0
Moves forms limit leads f (Ok n) after = Past forms limit leads f × (n ≡ length leads + 1) × (after ≡ added forms leads f)
Moves forms limit leads f (Err NoForm) after = (length forms ≤ f) × (after ≡ leads)
Moves forms limit leads f (Err Limit) after = (f < length forms) × (limit ≤ length leads) × (after ≡ leads)
Moves forms limit leads f (Err (Again i j)) after = Past forms limit leads f × (after ≡ leads)
Moves forms limit leads f (Err (Register e)) after = Past forms limit leads f × (after ≡ leads)

-- what a ring answers
abbrev pub Rings : List Shape → ℕ → List Lead → ℕ → Result ℕ RingFault → Type 0
Rings forms limit leads f (Ok n) = Free forms limit leads f
Rings forms limit leads f (Err e) = Turned forms limit leads f e

-- what a take back answers, and the leads that then stand
abbrev pub Takes : List Lead → Result ℕ TakeBackFault → List Lead → Type 0
Takes leads (Ok f) after = (l : Lead) × (leads ≡ after ++ l ∷ []) × (f ≡ l.form)
Takes leads (Err e) after = (leads ≡ []) × (after ≡ [])

-- what a verdict answers
abbrev pub Judges : List Shape → List Lead → ℕ → Result Certificate VerdictFault → Type 0
Judges forms leads n (Ok c) = TrueTouch forms leads n × (c.rows ≡ length (rows_of forms leads)) × (c.leads ≡ length leads)
Judges forms leads n (Err NoLead) = leads ≡ []
Judges forms leads n (Err Head) = (0 < length leads) × (next_head forms leads ≢ rounds 12)
Judges forms leads n (Err (Length m)) = (0 < length leads) × (next_head forms leads ≡ rounds 12) × (m ≡ length (rows_of forms leads)) × (m ≢ n)

-- what entering one row at place p answers, by what the register answers
abbrev pub at_place : ℕ → Result Entered RegisterFault → Result Unit RingFault
at_place p (Ok Added) = Ok tt
at_place p (Ok (Held m)) = Err (Again p m)
at_place p (Err e) = Err (Register e)

-- what entering row x at place p answers, and the register after it
abbrev pub row_answer : ℕ → List ℕ → Shelf → Result Unit RingFault
row_answer p x s = at_place p (entering s (code x))

abbrev pub row_entered : ℕ → List ℕ → Shelf → Shelf
row_entered p x s = entered (entering s (code x)) (record { code = code x; mark = p }) s

-- the register with new rows from place p on behind its entries
abbrev pub with_placed : ℕ → List (List ℕ) → Shelf → Shelf
with_placed p xs s = with_entries (s.entries ++ placed p xs) s

-- the register without its last entries, as many of this number as there are
abbrev pub without : ℕ → Shelf → Shelf
without n s = with_entries (take (length s.entries - n) s.entries) s

-- the new rows up to k are absent when each of them is entered
abbrev pub Absent : List Entry → ℕ → List (List ℕ) → ℕ → Type 0
Absent es p new k = (i : ℕ) → i < k → marked (code (slice_index_or new i [])) (es ++ placed p (take i new)) ≡ None

-- what entering new rows from place p on answers, and the register after it
abbrev pub Enters : Shelf → ℕ → List (List ℕ) → Result Unit RingFault → Shelf → Type 0
Enters s p new (Ok _) after = (after ≡ with_placed p new s) × Absent s.entries p new (length new)
Enters s p new (Err NoForm) after = ⊥
Enters s p new (Err Limit) after = ⊥
Enters s p new (Err (Again i j)) after = (after ≡ s) × ((k : ℕ) × (k < length new) × (i ≡ p + k) × (marked (code (slice_index_or new k [])) (s.entries ++ placed p (take k new)) ≡ Some j) × Absent s.entries p new k)
Enters s p new (Err (Register e)) after = (after ≡ s) × ((k : ℕ) × (k < length new) × (entering (with_placed p (take k new) s) (code (slice_index_or new k [])) ≡ Err e) × Absent s.entries p new k)
