-- What each line of a sheet says.
use Rattle.std.specs.Prelude.{◌≡◌, ℕ, ◌-◌, ◌^◌, min, true, List, [], ◌∷◌, ◌++◌, Some, None, codes, Option}
use Rattle.lead.specs.declared.command.Command.{Command}
use Rattle.lead.specs.declared.command.Command.TheVariants.{Blank, Stage, Method, Call, Unknown}
use Rattle.sheets.specs.Words.{before, digits, value, Word, BlankLine}
use Rattle.std.specs.Borrow.{Bor}

-- the byte of an argument that has exactly one
abbrev pub byte_of : List ℕ → Option ℕ
byte_of [] = None
byte_of (b ∷ []) = Some b
byte_of (b ∷ c ∷ bs) = None

-- the arguments of `stage`: digits; what they write, or the largest number
abbrev pub StageArgs : List ℕ → ℕ → Type 0
StageArgs t n = (digits t ≡ true) × (n ≡ min (value t) (2 ^ 64 - 1))

-- of `method`: a letter and a notation
abbrev pub MethodArgs : List ℕ → Option ℕ → List ℕ → Type 0
MethodArgs t l notation = (a : List ℕ) × Word a × (t ≡ a ++ 32 ∷ notation) × (l ≡ byte_of a)

-- of `call`: a letter, a mark and a notation
abbrev pub CallArgs : List ℕ → Option ℕ → Option ℕ → List ℕ → Type 0
CallArgs t l m notation = (a : List ℕ) × (b : List ℕ) × Word a × Word b × (t ≡ a ++ 32 ∷ (b ++ 32 ∷ notation)) × (l ≡ byte_of a) × (m ≡ byte_of b)

-- what each command is read from its arguments as, if it has such arguments
abbrev pub StageOf : List ℕ → Option Command → Type 0
StageOf t None = (n : ℕ) → StageArgs t n → ⊥
StageOf t (Some c) = (n : ℕ) × (c ≡ Stage n) × StageArgs t n

abbrev pub MethodOf : List ℕ → Option Command → Type 0
MethodOf t None = (l : Option ℕ) (notation : List ℕ) → MethodArgs t l notation → ⊥
MethodOf t (Some c) = (l : Option ℕ) × (notation : Bor (List ℕ)) × (c ≡ Method l notation) × MethodArgs t l notation.now

abbrev pub CallOf : List ℕ → Option Command → Type 0
CallOf t None = (l m : Option ℕ) (notation : List ℕ) → CallArgs t l m notation → ⊥
CallOf t (Some c) = (l : Option ℕ) × (m : Option ℕ) × (notation : Bor (List ℕ)) × (c ≡ Call l m notation) × CallArgs t l m notation.now

-- what a line says; one that says nothing else is unknown, and its word is what stands before the first space
abbrev pub Parsed : List ℕ → Command → Type 0
Parsed t Blank = BlankLine t
Parsed t (Stage n) = (args : List ℕ) × (t ≡ codes "stage " ++ args) × StageArgs args n
Parsed t (Method l notation) = (args : List ℕ) × (t ≡ codes "method " ++ args) × MethodArgs args l notation.now
Parsed t (Call l m notation) = (args : List ℕ) × (t ≡ codes "call " ++ args) × CallArgs args l m notation.now
Parsed t (Unknown word) =
    (word.now ≡ before 32 t) × (BlankLine t → ⊥)
    × ((args : List ℕ) (n : ℕ) → t ≡ codes "stage " ++ args → StageArgs args n → ⊥)
    × ((args : List ℕ) (l : Option ℕ) (notation : List ℕ) → t ≡ codes "method " ++ args → MethodArgs args l notation → ⊥)
    × ((args : List ℕ) (l m : Option ℕ) (notation : List ℕ) → t ≡ codes "call " ++ args → CallArgs args l m notation → ⊥)

-- what a word and the arguments behind it make
abbrev pub Known : List ℕ → List ℕ → Option Command → Type 0
Known w a None =
    ((n : ℕ) → w ≡ codes "stage" → StageArgs a n → ⊥) × ((l : Option ℕ) (notation : List ℕ) → w ≡ codes "method" → MethodArgs a l notation → ⊥)
    × ((l m : Option ℕ) (notation : List ℕ) → w ≡ codes "call" → CallArgs a l m notation → ⊥)
Known w a (Some c) = Parsed (w ++ 32 ∷ a) c
