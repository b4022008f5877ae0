-- What each line of a script says.
use Rattle.std.specs.Prelude.{◌≡◌, ℕ, ◌-◌, ◌^◌, ◌<◌, min, true, List, ◌∷◌, ◌++◌, length, Some, None, codes, Option}
use Rattle.sheets.specs.Words.{before, digits, value, Word, BlankLine}
use Rattle.trace.specs.declared.command.Command.{Command}
use Rattle.trace.specs.declared.command.Command.TheVariants.{Blank, Lend, Rows, Clashes, Enter, Find, Count, Back, Unknown}
use Rattle.std.specs.Borrow.{Bor}

-- a mark: digits that write a number of 32 bits
abbrev pub MarkOf : List ℕ → ℕ → Type 0
MarkOf t m = (digits t ≡ true) × (value t < 2 ^ 32) × (m ≡ value t)

abbrev pub NoMark : List ℕ → Type 0
NoMark t = (m : ℕ) → MarkOf t m → ⊥

-- a number: digits; what they write, or the largest number
abbrev pub NumberOf : List ℕ → ℕ → Type 0
NumberOf t n = (digits t ≡ true) × (n ≡ min (value t) (2 ^ 64 - 1))

-- the arguments of `lend`: two numbers
abbrev pub LendArgs : List ℕ → ℕ → ℕ → Type 0
LendArgs t n c = (a : List ℕ) × (b : List ℕ) × Word a × (t ≡ a ++ 32 ∷ b) × NumberOf a n × NumberOf b c

-- of `enter`: a key of however many words, and a mark
abbrev pub EnterArgs : List ℕ → List ℕ → ℕ → Type 0
EnterArgs t key m = (b : List ℕ) × Word b × (t ≡ key ++ 32 ∷ b) × MarkOf b m

-- what `lend` and `enter` are read from their arguments as, if they have such arguments
abbrev pub LendOf : List ℕ → Option Command → Type 0
LendOf t None = (n c : ℕ) → LendArgs t n c → ⊥
LendOf t (Some c) = (n : ℕ) × (m : ℕ) × (c ≡ Lend n m) × LendArgs t n m

abbrev pub EnterOf : List ℕ → Option Command → Type 0
EnterOf t None = (key : List ℕ) (m : ℕ) → EnterArgs t key m → ⊥
EnterOf t (Some c) = (key : Bor (List ℕ)) × (m : ℕ) × (c ≡ Enter key m) × EnterArgs t key.now m

-- what a line of one word says
abbrev pub SaysAlone : List ℕ → Command → Type 0
SaysAlone t Rows = t ≡ codes "rows"
SaysAlone t Clashes = t ≡ codes "clashes"
SaysAlone t Count = t ≡ codes "count"
SaysAlone t Back = t ≡ codes "back"
SaysAlone t _ = ⊥

-- what a word says with the arguments behind it
abbrev pub SaysWith : List ℕ → List ℕ → Command → Type 0
SaysWith w a (Lend n c) = (w ≡ codes "lend") × LendArgs a n c
SaysWith w a (Enter key m) = (w ≡ codes "enter") × EnterArgs a key.now m
SaysWith w a (Find key) = (w ≡ codes "find") × (key.now ≡ a)
SaysWith w a _ = ⊥

-- what a line says as a command
abbrev pub Says : List ℕ → Command → Type 0
Says t (Lend n c) = (args : List ℕ) × (t ≡ codes "lend " ++ args) × LendArgs args n c
Says t Rows = t ≡ codes "rows"
Says t Clashes = t ≡ codes "clashes"
Says t (Enter key m) = (args : List ℕ) × (t ≡ codes "enter " ++ args) × EnterArgs args key.now m
Says t (Find key) = t ≡ codes "find " ++ key.now
Says t Count = t ≡ codes "count"
Says t Back = t ≡ codes "back"
Says t _ = ⊥

-- a line is blank, or a command, or unknown: then its word is what stands before the first space
abbrev pub Parsed : List ℕ → Command → Type 0
Parsed t Blank = BlankLine t
Parsed t (Unknown word) = (word.now ≡ before 32 t) × (BlankLine t → ⊥) × ((c : Command) → Says t c → ⊥)
Parsed t c = Says t c

-- the answers of the two functions that look at the word
abbrev pub Alone : List ℕ → Option Command → Type 0
Alone t None = (c : Command) → SaysAlone t c → ⊥
Alone t (Some c) = SaysAlone t c

abbrev pub Known : List ℕ → List ℕ → Option Command → Type 0
Known w a None = (c : Command) → SaysWith w a c → ⊥
Known w a (Some c) = SaysWith w a c

-- the command that comes next in the lines t, of which those behind it are left; none where nothing is left
abbrev pub ComesNext : List ℕ → Option Command → List ℕ → Type 0
ComesNext t None rest = length rest ≡ 0
ComesNext t (Some c) rest = length rest < length t
