-- Examples that ringers know, worked from the definitions.
use Rattle.std.specs.Prelude.{◌≡◌, ℕ, suc, ◌-◌, Bool, List, [], ◌∷◌, ◌++◌, map, length, codes}
use Rattle.forms.specs.Adding.{with_end}
use Rattle.forms.specs.Leads.{turn}
use Rattle.notation.specs.Changes.{places}
use Rattle.notation.specs.Faults.{First, Right}
use Rattle.notation.specs.declared.fault.Fault.TheVariants.{Unrung}
use Rattle.rows.specs.Code.{code}
use Rattle.rows.specs.Rows.{inverse}
use Rattle.rows.specs.Text.{named}
use Rattle.std.specs.List.{range_with_len}

-- the row that a text spells, with the covers behind it
abbrev pub row : List ℕ → List ℕ
row t = map named t ++ range_with_len (suc (length t)) (12 - length t)

-- on n bells the notation has this many changes and this turn
abbrev pub Rings : ℕ → List ℕ → ℕ → List ℕ → List (List Bool) → Type 0
Rings n t l r cs = Right n t cs × (length cs ≡ l) × (turn cs ≡ r)

-- with this ending the lead turns so
abbrev pub Turns : ℕ → List (List Bool) → List ℕ → List ℕ → Type 0
Turns n cs t r = (es : List (List Bool)) × Right n t es × (turn (with_end cs es) ≡ r)

pub record WorkedExamples : Type 0 where
  pub code_2143 : code (row (codes "2143")) ≡ 7
  pub code_1342 : code (row (codes "1342")) ≡ 12
  pub code_4321 : code (row (codes "4321")) ≡ 23
  pub code_132546 : code (row (codes "132546")) ≡ 26
  -- entry 252 of the card
  pub code_135264 : code (row (codes "135264")) ≡ 252
  pub inverse_135264 : inverse 12 (row (codes "135264")) ≡ row (codes "142635")
  pub code_142635 : code (row (codes "142635")) ≡ 170
  pub run_on_five : places 5 (2 ∷ []) ≡ 1 ∷ 2 ∷ 5 ∷ []
  pub all_made : First 4 (codes "1234") (Unrung 0)
  pub cross_on_five : First 5 (codes "-") (Unrung 0)
  pub plain_bob_minimus : (cs : List (List Bool)) × Rings 4 (codes "&-14-14,12") 8 (row (codes "1342")) cs
  pub plain_bob_minor : (cs : List (List Bool)) × Rings 6 (codes "&-16-16-16,12") 12 (row (codes "135264")) cs
  pub grandsire_doubles : (cs : List (List Bool)) × Rings 5 (codes "3,&1.5.1.5.1") 10 (row (codes "12534")) cs × Turns 5 cs (codes "3.1") (row (codes "14523")) × Turns 5 cs (codes "3.123") (row (codes "15423"))
