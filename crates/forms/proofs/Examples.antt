-- The worked examples: the reading of each notation is computed, and the law of notations says what it means.
use Rattle.std.proofs.Common.{◌≡◌, ℕ, List, [], ◌∷◌, map, codes, refl, subst}
use Rattle.forms.specs.Leads.{rows_from}
use Rattle.forms.specs.Worked.{WorkedExamples}
use Rattle.notation.proofs.Law.{Told, law}
use Rattle.notation.specs.Changes.{made, can_ring, crosses, rung}
use Rattle.notation.specs.Faults.{First, Right}
use Rattle.notation.specs.Reading.{outcome, read, stopped, reading}
use Rattle.notation.specs.declared.fault.Fault.{Fault}
use Rattle.rows.specs.Code.{fact, code_to}

right_from : (n : ℕ) (t : List ℕ) (ws : List (List ℕ)) → outcome n t ≡ read ws → Right n t (map (made n) ws)
right_from n t ws e = subst (Told n t) e (law n t)

first_from : (n : ℕ) (t : List ℕ) (f : Fault) → outcome n t ≡ stopped f → First n t f
first_from n t f e = subst (Told n t) e (law n t)

-- the changes as written: those of Minimus and Minor have a cross and the two end places in turn
minimus : List (List ℕ)
minimus = [] ∷ (1 ∷ 4 ∷ []) ∷ [] ∷ (1 ∷ 4 ∷ []) ∷ [] ∷ (1 ∷ 4 ∷ []) ∷ [] ∷ (1 ∷ 2 ∷ []) ∷ []

minor : List (List ℕ)
minor = [] ∷ (1 ∷ 6 ∷ []) ∷ [] ∷ (1 ∷ 6 ∷ []) ∷ [] ∷ (1 ∷ 6 ∷ []) ∷ [] ∷ (1 ∷ 6 ∷ []) ∷ [] ∷ (1 ∷ 6 ∷ []) ∷ [] ∷ (1 ∷ 2 ∷ []) ∷ []

grandsire : List (List ℕ)
grandsire = (3 ∷ []) ∷ (1 ∷ []) ∷ (5 ∷ []) ∷ (1 ∷ []) ∷ (5 ∷ []) ∷ (1 ∷ []) ∷ (5 ∷ []) ∷ (1 ∷ []) ∷ (5 ∷ []) ∷ (1 ∷ []) ∷ []

bob : List (List ℕ)
bob = (3 ∷ []) ∷ (1 ∷ []) ∷ []

single : List (List ℕ)
single = (3 ∷ []) ∷ (1 ∷ 2 ∷ 3 ∷ []) ∷ []

pub examples : WorkedExamples
unfolding reading can_ring crosses rung rows_from fact code_to minimus minor grandsire bob single
examples = record {
  code_2143 = refl;
  code_1342 = refl;
  code_4321 = refl;
  code_132546 = refl;
  code_135264 = refl;
  inverse_135264 = refl;
  code_142635 = refl;
  run_on_five = refl;
  all_made = first_from 4 (codes "1234") _ refl;
  cross_on_five = first_from 5 (codes "-") _ refl;
  plain_bob_minimus = (map (made 4) minimus, (right_from 4 (codes "&-14-14,12") minimus refl, refl, refl));
  plain_bob_minor = (map (made 6) minor, (right_from 6 (codes "&-16-16-16,12") minor refl, refl, refl));
  grandsire_doubles = (
    map (made 5) grandsire,
    (right_from 5 (codes "3,&1.5.1.5.1") grandsire refl, refl, refl),
    (map (made 5) bob, right_from 5 (codes "3.1") bob refl, refl),
    (map (made 5) single, right_from 5 (codes "3.123") single refl, refl),
  );
}
