-- The rows of a lead, one after another.
use Rattle.std.proofs.Common.{◌≡◌, ℕ, zero, suc, ◌<◌, ◌≤◌, Bool, List, [], ◌∷◌, ◌++◌, map, length, get_or, take, set, Decides, sym, refl, ap, ◌∙◌, subst, arith}
use Rattle.forms.specs.Leads.{rows_from, lead_rows}
use Rattle.forms.specs.Repeats.{bells_of}
use Rattle.notation.proofs.Drafting.{made_in}
use Rattle.notation.specs.Changes.{rung}
use Rattle.notation.specs.declared.change.Change.{Change}
use Rattle.rows.specs.declared.row.Row.{Row}
use Rattle.std.proofs.Math.Seq.{take-suc-set}
use Rattle.std.proofs.lemmas.List.{get_or-map, get_or-take, length-map, length-set, length-take-le, map_push, take-map, take_all}
use Rattle.std.proofs.lemmas.Slice.Eq.{bytes_eq-Decides}
use Rattle.std.specs.Str.{bytes_eq}

-- one row more than changes
pub rows_long : (cs : List (List Bool)) (r : List ℕ) → length (rows_from cs r) ≡ suc (length cs)
unfolding rows_from
rows_long [] r = refl
rows_long (c ∷ cs) r = ap suc (rows_long cs (rung c r))

pub rows_first : (cs : List (List Bool)) (r : List ℕ) → get_or (rows_from cs r) 0 [] ≡ r
unfolding rows_from
rows_first [] r = refl
rows_first (c ∷ cs) r = refl

-- each row is the one before with its change rung
pub rows_next : (cs : List (List Bool)) (r : List ℕ) (j : ℕ) → j < length cs → get_or (rows_from cs r) (suc j) [] ≡ rung (get_or cs j []) (get_or (rows_from cs r) j [])
unfolding rows_from
rows_next [] r j l = absurd (omega arith)
rows_next (c ∷ cs) r zero l = rows_first cs (rung c r)
rows_next (c ∷ cs) r (suc j) l = rows_next cs (rung c r) j (omega arith)

-- one change more rings one row more
rows_more : (cs : List (List Bool)) (r : List ℕ) (j : ℕ) → j < length cs → rows_from (take (suc j) cs) r ≡ rows_from (take j cs) r ++ rung (get_or cs j []) (get_or (rows_from (take j cs) r) j []) ∷ []
unfolding rows_from
rows_more [] r j l = absurd (omega arith)
rows_more (c ∷ cs) r zero l = refl
rows_more (c ∷ cs) r (suc j) l = ap (λ rs. r ∷ rs) (rows_more cs (rung c r) j (omega arith))

-- the rows up to place j stand in the array
pub record Standing (cs : List (List Bool)) (rows : List Row) (j : ℕ) : Type 0 where
  pub room : length rows ≡ 65
  pub stand : map bells_of (take (suc j) rows) ≡ lead_rows (take j cs)

module _ (xs : List Change) (rows : List Row) (j : ℕ) where
  -- the next row is written
  pub standing_more : (x : Change) (d next : Row) → j < length xs → suc j < 65 → Standing (map made_in xs) rows j → x ≡ get_or xs j x → next.bells ≡ rung x.made (get_or rows j d).bells → (k : ℕ) → k ≡ suc j
      → Standing (map made_in xs) (set rows k next) k
  standing_more x d next l h s at is k e =
      let room = s.room in
      let cs : List (List Bool) = map made_in xs in
      let made : x.made ≡ get_or cs j [] = ap made_in at ∙ sym (get_or-map made_in xs j x [] l) in
      let last : (get_or rows j d).bells ≡ get_or (lead_rows (take j cs)) j [] =
      sym (get_or-map bells_of rows j d [] (omega arith)) ∙ sym (get_or-take (suc j) (map bells_of rows) j [] (omega arith)) ∙ ap (λ rs. get_or rs j []) (take-map bells_of (suc j) rows ∙ s.stand) in
      subst (λ i. Standing cs (set rows i next) i) (sym e) (record {
        room = length-set rows (suc j) next ∙ room;
        stand = ap (map bells_of) (take-suc-set rows (suc j) next (omega arith)) ∙ map_push bells_of (take (suc j) rows) next ∙ ap (λ rs. rs ++ next.bells ∷ []) s.stand
            ∙ ap (λ b. lead_rows (take j cs) ++ b ∷ []) (is ∙ (λ i. rung (made i) (last i))) ∙ sym (rows_more cs _ j (omega (arith, length-map xs made_in)));
      })

  -- all rows stand, where the changes are the first n of a list
  pub standing_all : (list : List Change) (n : ℕ) → xs ≡ take n list → n ≤ length list → length xs ≡ j → Standing (map made_in xs) rows j → map bells_of (take (suc n) rows) ≡ lead_rows (map made_in (take n list))
  standing_all list n is l e s =
      let same : n ≡ j = omega (arith, ap length is, length-take-le n list l) in
      ap (λ k. map bells_of (take (suc k) rows)) same ∙ s.stand ∙ ap lead_rows (take_all j (map made_in xs) (omega (arith, length-map xs made_in)) ∙ ap (map made_in) is)

-- whether an earlier row and the row at place j are equal
pub compared : (rows : List Row) (i j : ℕ) (a b : Row) → i < length (take j rows) → j < length rows → a ≡ get_or (take j rows) i a → b ≡ get_or rows j b → Decides (bytes_eq a.bells b.bells) (get_or (map bells_of rows) i [] ≡ get_or (map bells_of rows) j [])
compared rows i j a b l h earlier later =
    let before : i < j = omega (arith, length-take-le j rows (omega arith)) in
    let ra : a.bells ≡ get_or (map bells_of rows) i [] = ap bells_of (earlier ∙ get_or-take j rows i a before) ∙ sym (get_or-map bells_of rows i a [] (omega arith)) in
    let rb : b.bells ≡ get_or (map bells_of rows) j [] = ap bells_of later ∙ sym (get_or-map bells_of rows j b [] h) in
    let same = bytes_eq-Decides a.bells b.bells in
    (λ e. sym ra ∙ same.0 e ∙ rb, λ e. same.1 (ra ∙ e ∙ sym rb))
