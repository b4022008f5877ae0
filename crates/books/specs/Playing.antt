-- What a play answers, and the leads that then stand.
use Rattle.std.specs.Prelude.{◌≡◌, ℕ, ◌+◌, ◌<◌, List, length, take, Ok, Err, Result, slice_index}
use Rattle.books.specs.Law.{Turned, Reached}
use Rattle.books.specs.Leads.{Shape, Lead, rung}
use Rattle.books.specs.declared.fault.PlayFault.{PlayFault}

-- what a play does to the leads, whatever a register holds: all of its leads stand, or none
abbrev pub PlaysMoves : List Shape → List Lead → List ℕ → Result ℕ PlayFault → List Lead → Type 0
PlaysMoves forms leads fs (Ok n) after = (n ≡ length leads + length fs) × (after ≡ rung forms leads fs)
PlaysMoves forms leads fs (Err e) after = (e.lead < length fs) × (after ≡ leads)

-- what a play answers: every lead could be added, or the first that could not, and why
abbrev pub Plays : List Shape → ℕ → List Lead → List ℕ → Result ℕ PlayFault → Type 0
Plays forms limit leads fs (Ok n) = Reached forms limit leads fs (length fs)
Plays forms limit leads fs (Err e) = Reached forms limit leads fs e.lead × Turned forms limit (rung forms leads (take e.lead fs)) (slice_index fs e.lead) e.fault
