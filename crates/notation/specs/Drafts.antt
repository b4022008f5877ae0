-- What the reader has in hand, and what each token does to it, in terms of the reading from the left.
use Rattle.std.specs.Prelude.{◌≡◌, ℕ, ◌<◌, ◌≤◌, Bool, true, false, List, ◌++◌, map, reverse, length, take, drop, Some, None, Option, Ok, Err, Result}
use Rattle.notation.specs.Changes.{made}
use Rattle.notation.specs.Grammar.{Sign}
use Rattle.notation.specs.Reading.{Kind, cross, point, comma, sign, other, State, Step, goes, halts, Outcome, read, stopped, add, all_changes, close, done, first, begin, behind_cross, behind_run, behind_point}
use Rattle.notation.specs.declared.change.Change.{Change}
use Rattle.notation.specs.declared.changes.Changes.{Changes}
use Rattle.notation.specs.declared.draft.Draft.{Draft}
use Rattle.notation.specs.declared.draft.Seen.{Seen}
use Rattle.notation.specs.declared.draft.Seen.TheVariants.{Fresh, Signed, Crossed, Ran, Pointed}
use Rattle.notation.specs.declared.fault.Fault.{Fault}
use Rattle.notation.specs.declared.fault.Fault.TheVariants.{Byte, Early, Many}
use Rattle.notation.specs.declared.token.Token.{Token}
use Rattle.notation.specs.declared.token.Token.TheVariants.{Run, Cross, Point, Comma, And, Plus, Other}
use Rattle.rows.specs.Text.{named}

-- the changes in a list
abbrev pub listed : Changes → List (List Bool)
listed c = map (λ (x : Change). x.made) (take c.count c.list)

-- the part of a doubled block that is added: its changes except the last, backwards
abbrev pub mirrored : {X : Type 0} → List X → List X
mirrored xs = drop 1 (reverse xs)

-- these changes are in hand, or there are more than 64
abbrev pub Holds : Option Changes → List (List Bool) → Type 0
Holds None cs = 64 < length cs
Holds (Some c) cs = listed c ≡ cs

abbrev pub is_amp : Sign → Bool
is_amp Sign.none = false
is_amp Sign.amp = true
is_amp Sign.plus = false

-- a draft on n bells stands for a state of the reading; what was seen last it says by its own word
pub record Drafted (n : ℕ) (d : Draft) (st : State) : Type 0 where
  pub stage : d.stage.bells ≡ n
  pub holds : Holds d.changes (map (made n) (st.whole ++ st.block))
  pub block : d.block ≡ length st.whole
  pub from : d.from ≡ st.from
  pub doubles : d.doubles ≡ is_amp st.sign

-- all changes of a state with its block whole, or that they are more than 64
abbrev pub Whole : ℕ → State → Result Changes Fault → Type 0
Whole n st (Ok c) = (length (all_changes st) ≤ 64) × (listed c ≡ map (made n) (all_changes st))
Whole n st (Err f) = (64 < length (all_changes st)) × (f ≡ Many st.from)

-- the state after a step is in hand, or its fault was answered
abbrev pub Steps : ℕ → Step → Result Unit Fault → Draft → Type 0
Steps n s (Ok x) d = (st : State) × (s ≡ goes st) × Drafted n d st
Steps n s (Err f) d = s ≡ halts f

-- what a byte of this kind does behind what was seen
abbrev pub turn : ℕ → ℕ → Kind → Seen → State → Step
turn n j k Fresh st = first n j k st
turn n j k Signed st = begin n j k st
turn n j k Crossed st = behind_cross n j k st
turn n j k Ran st = behind_run n j k st
turn n j k Pointed st = behind_point n j k st

-- what a whole run does: it is added, but not directly behind another
abbrev pub runs : ℕ → ℕ → List ℕ → Seen → State → Step
runs n j ws Fresh st = add n j ws st
runs n j ws Signed st = add n j ws st
runs n j ws Crossed st = add n j ws st
runs n j ws Ran st = halts (Byte j)
runs n j ws Pointed st = add n j ws st

abbrev pub stepped : ℕ → Token → Seen → State → Step
stepped n (Run digits at) s st = runs n at (map named digits.now) s st
stepped n (Cross at) s st = turn n at cross s st
stepped n (Point at) s st = turn n at point s st
stepped n (Comma at) s st = turn n at comma s st
stepped n (And at) s st = turn n at (sign Sign.amp) s st
stepped n (Plus at) s st = turn n at (sign Sign.plus) s st
stepped n (Other at) s st = turn n at other s st

-- what is seen last behind a token that is taken
abbrev pub seen_behind : Token → Seen → Seen
seen_behind (Run digits at) s = Ran
seen_behind (Cross at) s = Crossed
seen_behind (Point at) s = Pointed
seen_behind (Comma at) s = Fresh
seen_behind (And at) s = Signed
seen_behind (Plus at) s = Signed
seen_behind (Other at) s = s

abbrev pub position : Token → ℕ
position (Run digits at) = at
position (Cross at) = at
position (Point at) = at
position (Comma at) = at
position (And at) = at
position (Plus at) = at
position (Other at) = at

-- what the end of the text at j comes to
abbrev pub finished : ℕ → Seen → State → Outcome
finished j Fresh st = stopped (Early j)
finished j Signed st = stopped (Early j)
finished j Crossed st = done (close j st)
finished j Ran st = done (close j st)
finished j Pointed st = stopped (Early j)

-- the outcome of a reading, answered
abbrev pub Answers : ℕ → Outcome → Result Changes Fault → Type 0
Answers n o (Ok c) = (ws : List (List ℕ)) × (o ≡ read ws) × (listed c ≡ map (made n) ws)
Answers n o (Err f) = o ≡ stopped f
