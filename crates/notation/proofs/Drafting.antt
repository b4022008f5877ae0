-- The changes that are listed, and one more.
use Rattle.std.proofs.Common.{◌≡◌, ℕ, ◌+◌, ◌-◌, ◌<◌, ◌≤◌, Bool, true, false, List, [], ◌∷◌, ◌++◌, map, reverse, length, get_or, take, drop, Ok, Err, Result, sym, refl, ap, ◌∙◌, arith}
use mathlib.Core.List.{reverse_aux}
use Rattle.notation.specs.Drafts.{listed, mirrored}
use Rattle.notation.specs.declared.change.Change.{Change}
use Rattle.notation.specs.declared.changes.Changes.{Changes}
use Rattle.std.proofs.lemmas.List.{drop-map, get_or-drop, get_or-map, get_or-reverse, get_or-take, length-drop, length-map, length-reverse, length-take-le, take_more}
use Rattle.std.specs.Result.{MatchResult, is_ok}

-- the places made in a change
abbrev pub made_in : Change → List Bool
made_in x = x.made

-- as many changes are listed as are counted
pub listed_long : (c : Changes) → length (listed c) ≡ c.count
listed_long c = length-map (take c.count c.list) made_in ∙ length-take-le c.count c.list (let r = c.room in let f = c.few in omega arith)

-- what is read from the list is what is listed there
pub listed_at : (c : Changes) (i : ℕ) (d : Change) → i < c.count → (get_or c.list i d).made ≡ get_or (listed c) i []
listed_at c i d l =
    let long : length (take c.count c.list) ≡ c.count = length-take-le c.count c.list (let r = c.room in let f = c.few in omega arith) in
    ap made_in (sym (get_or-take c.count c.list i d l)) ∙ sym (get_or-map made_in (take c.count c.list) i d [] (omega arith))

map_reverse_aux : {X Y : Type 0} (f : X → Y) (xs ys : List X) → map f (reverse_aux xs ys) ≡ reverse_aux (map f xs) (map f ys)
map_reverse_aux f [] ys = refl
map_reverse_aux f (x ∷ xs) ys = map_reverse_aux f xs (x ∷ ys)

-- the mirrored changes of a block are the changes of the mirrored block
pub map_mirrored : {X Y : Type 0} (f : X → Y) (xs : List X) → map f (mirrored xs) ≡ mirrored (map f xs)
map_mirrored f xs = sym (drop-map f 1 (reverse xs)) ∙ ap (drop 1) (map_reverse_aux f xs [])

-- as many as the changes from `from` on, but for the last
pub mirrored_long : {X : Type 0} (xs : List X) (from : ℕ) → length (mirrored (drop from xs)) ≡ length xs - from - 1
mirrored_long xs from = length-drop 1 (reverse (drop from xs)) ∙ ap (λ k. k - 1) (length-reverse (drop from xs) ∙ length-drop from xs)

-- one more of them is the next one backwards
pub mirrored_more : {X : Type 0} (xs : List X) (from back : ℕ) (d x : X) → 1 ≤ back → back < length xs - from → x ≡ get_or xs (length xs - 1 - back) d
    → take (back - 1) (mirrored (drop from xs)) ++ x ∷ [] ≡ take (back + 1 - 1) (mirrored (drop from xs))
mirrored_more xs from back d x one most is =
    let bs = drop from xs in
    let long : length bs ≡ length xs - from = length-drop from xs in
    let behind : 1 + (back - 1) ≡ back = omega arith in
    let place : from + (length bs - 1 - back) ≡ length xs - 1 - back = omega arith in
    let next : get_or (mirrored bs) (back - 1) d ≡ x =
    get_or-drop 1 (reverse bs) (back - 1) d ∙ ap (λ k. get_or (reverse bs) k d) behind ∙ get_or-reverse bs back d (omega arith)
    ∙ get_or-drop from xs (length bs - 1 - back) d ∙ ap (λ k. get_or xs k d) place ∙ sym is in
    let upto : back - 1 + 1 ≡ back + 1 - 1 = omega arith in
    ap (λ z. take (back - 1) (mirrored bs) ++ z ∷ []) (sym next) ∙ sym (take_more (mirrored bs) (back - 1) d (omega (arith, mirrored_long xs from))) ∙ ap (λ k. take k (mirrored bs)) upto

-- a change that is handed back did not go in, and one that is not did
pub handed_back : (A : Type 0) (B : Change → Type 0) (r : Result (Unit {0}) Change) → is_ok r ≡ false → MatchResult r (λ _. A) B → (x : Change) × B x
handed_back A B (Ok u) e m = cc
handed_back A B (Err x) e m = (x, m)

pub taken : (A : Type 0) (B : Change → Type 0) (r : Result (Unit {0}) Change) → is_ok r ≡ true → MatchResult r (λ _. A) B → A
taken A B (Ok u) e m = m
taken A B (Err x) e m = cc
