-- Reading a notation from the left, up to the first fault: the value that the reader answers. The law of notations ties it to the grammar.
use Rattle.std.specs.Prelude.{ℕ, suc, cond, List, [], ◌∷◌, ◌++◌, length, ◌==◌, nat_lt}
use Rattle.rows.specs.Text.{named}
use Rattle.notation.specs.Changes.{ascending, made, can_ring}
use Rattle.notation.specs.Grammar.{Sign, doubled}
use Rattle.notation.specs.declared.fault.Fault.{Fault}
use Rattle.notation.specs.declared.fault.Fault.TheVariants.{Byte, Early, Places, Unrung, Many}

-- what a byte is to a notation; a bell comes with the place that it names
pub data Kind : Type 0 where
  bell : ℕ → Kind
  cross : Kind
  point : Kind
  comma : Kind
  sign : Sign → Kind
  other : Kind

abbrev pub mark : ℕ → Kind
mark b = cond (b == 45) cross (cond (b == 120) cross (cond (b == 46) point (cond (b == 44) comma
    (cond (b == 38) (sign Sign.amp) (cond (b == 43) (sign Sign.plus) other)))))

abbrev pub kind : ℕ → Kind
kind b = cond (nat_lt 0 (named b)) (bell (named b)) (mark b)

-- what stands directly before the next byte
pub data Seen : Type 0 where
  -- nothing of this block
  fresh : Seen
  -- the block's sign
  signed : Seen
  -- a cross
  crossed : Seen
  -- a run that begins at this byte, with these places so far
  running : ℕ → List ℕ → Seen
  -- a point
  pointed : Seen

-- what is read: the changes of the whole blocks, as written and doubled; the first byte and the sign of this block; its changes so far,
-- without a run that is not yet complete
pub record State : Type 0 where
  pub whole : List (List ℕ)
  pub from : ℕ
  pub sign : Sign
  pub block : List (List ℕ)
  pub seen : Seen

abbrev pub start : State
start = record { whole = []; from = 0; sign = Sign.none; block = []; seen = fresh }

-- a reading goes on in a state, or stops with a fault
pub data Step : Type 0 where
  goes : State → Step
  halts : Fault → Step

-- a whole text is read, with its changes as written, or reading stopped
pub data Outcome : Type 0 where
  read : List (List ℕ) → Outcome
  stopped : Fault → Outcome

abbrev pub seeing : State → Seen → State
seeing st s = record { whole = st.whole; from = st.from; sign = st.sign; block = st.block; seen = s }

-- the complete change with these places, which begins at p, is added if it is in order and can be rung
abbrev pub add : ℕ → ℕ → List ℕ → State → Step
add n p ws st = cond (ascending n ws)
    (cond (can_ring (made n ws)) (goes (record { whole = st.whole; from = st.from; sign = st.sign; block = st.block ++ ws ∷ []; seen = crossed })) (halts (Unrung p)))
    (halts (Places p))

abbrev pub all_changes : State → List (List ℕ)
all_changes st = st.whole ++ doubled st.sign st.block

-- the block is whole, and the next begins at j
abbrev pub close : ℕ → State → Step
close j st = cond (nat_lt 64 (length (all_changes st))) (halts (Many st.from))
    (goes (record { whole = all_changes st; from = j; sign = Sign.none; block = []; seen = fresh }))

-- the byte at j begins a change, or stops the reading
abbrev pub begin : ℕ → ℕ → Kind → State → Step
begin n j (bell v) st = goes (seeing st (running j (v ∷ [])))
begin n j cross st = add n j [] st
begin n j point st = halts (Byte j)
begin n j comma st = halts (Byte j)
begin n j (sign s) st = halts (Byte j)
begin n j other st = halts (Byte j)

-- the byte at j stands behind a cross
abbrev pub behind_cross : ℕ → ℕ → Kind → State → Step
behind_cross n j (bell v) st = goes (seeing st (running j (v ∷ [])))
behind_cross n j cross st = add n j [] st
behind_cross n j point st = halts (Byte j)
behind_cross n j comma st = close (suc j) st
behind_cross n j (sign s) st = halts (Byte j)
behind_cross n j other st = halts (Byte j)

-- the byte at j stands behind a complete run, whose change is in the block
abbrev pub behind_run : ℕ → ℕ → Kind → State → Step
behind_run n j (bell v) st = halts (Byte j)
behind_run n j cross st = add n j [] st
behind_run n j point st = goes (seeing st pointed)
behind_run n j comma st = close (suc j) st
behind_run n j (sign s) st = halts (Byte j)
behind_run n j other st = halts (Byte j)

-- the byte at j is the first of a block
abbrev pub first : ℕ → ℕ → Kind → State → Step
first n j (bell v) st = goes (seeing st (running j (v ∷ [])))
first n j cross st = add n j [] st
first n j point st = halts (Byte j)
first n j comma st = halts (Byte j)
first n j (sign s) st = goes (record { whole = st.whole; from = st.from; sign = s; block = st.block; seen = signed })
first n j other st = halts (Byte j)

-- the byte at j stands behind a point
abbrev pub behind_point : ℕ → ℕ → Kind → State → Step
behind_point n j (bell v) st = goes (seeing st (running j (v ∷ [])))
behind_point n j cross st = halts (Byte j)
behind_point n j point st = halts (Byte j)
behind_point n j comma st = halts (Byte j)
behind_point n j (sign s) st = halts (Byte j)
behind_point n j other st = halts (Byte j)

abbrev pub then : Step → (State → Step) → Step
then (goes st) f = f st
then (halts f) g = halts f

-- the byte at j stands in or behind a run that begins at p
abbrev pub in_run : ℕ → ℕ → ℕ → List ℕ → Kind → State → Step
in_run n j p ws (bell v) st = goes (seeing st (running p (ws ++ v ∷ [])))
in_run n j p ws cross st = then (add n p ws st) (behind_run n j cross)
in_run n j p ws point st = then (add n p ws st) (behind_run n j point)
in_run n j p ws comma st = then (add n p ws st) (behind_run n j comma)
in_run n j p ws (sign s) st = then (add n p ws st) (behind_run n j (sign s))
in_run n j p ws other st = then (add n p ws st) (behind_run n j other)

abbrev pub step : ℕ → ℕ → Kind → Seen → State → Step
step n j k fresh st = first n j k st
step n j k signed st = begin n j k st
step n j k crossed st = behind_cross n j k st
step n j k (running p ws) st = in_run n j p ws k st
step n j k pointed st = behind_point n j k st

abbrev pub done : Step → Outcome
done (goes st) = read st.whole
done (halts f) = stopped f

-- the text ends at j
abbrev pub ended : ℕ → ℕ → Seen → State → Outcome
ended n j fresh st = stopped (Early j)
ended n j signed st = stopped (Early j)
ended n j crossed st = done (close j st)
ended n j (running p ws) st = done (then (add n p ws st) (close j))
ended n j pointed st = stopped (Early j)

-- the bytes from j on, read in a state or after a stop
unfoldable pub reading : ℕ → ℕ → Step → List ℕ → Outcome
reading n j (halts f) bs = stopped f
reading n j (goes st) [] = ended n j st.seen st
reading n j (goes st) (b ∷ bs) = reading n (suc j) (step n j (kind b) st.seen st) bs

-- what the reading of a text comes to
abbrev pub outcome : ℕ → List ℕ → Outcome
outcome n t = reading n 0 (goes start) t
