-- What the text of a key says.
use Rattle.std.specs.Prelude.{◌≡◌, ℕ, ◌<◌, min, true, List, ◌∷◌, ◌++◌, length, Some, None, Option}
use Rattle.rows.specs.Rows.{IsStage, RowOf, On}
use Rattle.rows.specs.Text.{spelled}
use Rattle.rows.specs.declared.fault.RowFault.{RowFault}
use Rattle.rows.specs.declared.fault.RowFault.TheVariants.{Stage, Row}
use Rattle.sheets.specs.Words.{digits, value, Word}
use Rattle.trace.specs.declared.written.NoKey.{NoKey}
use Rattle.trace.specs.declared.written.NoKey.TheVariants.{Row as OfRow, Clash as OfClash}
use Rattle.std.specs.Borrow.{Bor}

-- a text spells a row on the stage of its length
abbrev pub RowText : List ℕ → List ℕ → Type 0
RowText t bells = On (length t) bells × (spelled (length t) bells ≡ t)

-- why it spells none
abbrev pub NoRow : List ℕ → RowFault → Type 0
NoRow t Stage = IsStage (length t) → ⊥
NoRow t Row = (a : List ℕ) → RowOf 12 a → RowText t a → ⊥

abbrev pub RowRefused : List ℕ → NoKey → Type 0
RowRefused t (OfRow f) = NoRow t f
RowRefused t OfClash = ⊥

-- the number that digits write; what is above 255 counts as 255
abbrev pub FormNumber : List ℕ → ℕ → Type 0
FormNumber t n = (digits t ≡ true) × (n ≡ min (value t) 255)

-- two numbers and what stands behind them
abbrev pub ClashText : List ℕ → ℕ → ℕ → List ℕ → Type 0
ClashText t p q row = (a : List ℕ) × (b : List ℕ) × Word a × Word b × (t ≡ a ++ 32 ∷ (b ++ 32 ∷ row)) × FormNumber a p × FormNumber b q

abbrev pub ClashWords : List ℕ → Option (ℕ × ℕ × Bor (List ℕ)) → Type 0
ClashWords t None = (p q : ℕ) (row : List ℕ) → ClashText t p q row → ⊥
ClashWords t (Some x) = ClashText t x.0 x.1 x.2.now

abbrev pub ClashRead : List ℕ → ℕ → ℕ → List ℕ → Type 0
ClashRead t p q bells = (row : List ℕ) × ClashText t p q row × RowText row bells

-- why a text is no clash key: its row is none, or it does not begin with two numbers below 16
abbrev pub ClashRefused : List ℕ → NoKey → Type 0
ClashRefused t (OfRow f) = (p : ℕ) × (q : ℕ) × (row : List ℕ) × ClashText t p q row × NoRow row f
ClashRefused t OfClash = (p q : ℕ) (row : List ℕ) → ClashText t p q row → p < 16 → q < 16 → ⊥
