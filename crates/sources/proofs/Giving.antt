-- A list several times over, given number by number.
use Rattle.std.proofs.Common.{◌≡◌, ℕ, zero, suc, ◌+◌, ◌*◌, ◌<◌, ◌≤◌, min, List, [], ◌∷◌, ◌++◌, length, Some, None, sym, refl, ap, ◌∙◌, inl, inr, not-suc-le-zero, suc-mul, arith}
use Rattle.sources.specs.Giving.{given_of_parts}
use Rattle.std.proofs.lemmas.List.{length-append}
use Rattle.std.proofs.lemmas.Option.{gets, slice_get_past, slice_get_within}
use Rattle.std.proofs.lemmas.Grind.{common_steps}
use Rattle.std.specs.List.{repeat, slice_get}

nth_first : (xs ys : List ℕ) (i : ℕ) → i < length xs → slice_get (xs ++ ys) i ≡ slice_get xs i
nth_first xs ys i h = grind (arith, common_steps, gets)

nth_second : (xs ys : List ℕ) (i : ℕ) → slice_get (xs ++ ys) (length xs + i) ≡ slice_get ys i
nth_second xs ys i = grind (arith, common_steps, gets)

length_repeated : (n : ℕ) (xs : List ℕ) → length (repeat n xs) ≡ n * length xs
length_repeated zero xs = omega arith
length_repeated (suc n) xs = length-append xs (repeat n xs) ∙ omega (arith, length_repeated n xs, suc-mul n (length xs))

-- each round gives the list again
nth_round : (n r : ℕ) (xs : List ℕ) (i : ℕ) → r < n → i < length xs → slice_get (repeat n xs) (r * length xs + i) ≡ slice_get xs i
nth_round zero r xs i h l = absurd (not-suc-le-zero h)
nth_round (suc n) zero xs i h l = let e : 0 * length xs + i ≡ i = omega arith in rw e (nth_first xs (repeat n xs) i l)
nth_round (suc n) (suc r) xs i h l =
    let e : suc r * length xs + i ≡ length xs + (r * length xs + i) = omega (arith, suc-mul r (length xs)) in
    rw e (nth_second xs (repeat n xs) (r * length xs + i) ∙ nth_round n r xs i (omega arith) l)

module _ (times round : ℕ) (xs : List ℕ) (g : ℕ) where
  -- all rounds are gone
  pub parts_over : times ≤ round → slice_get (repeat times xs) (given_of_parts times round xs g) ≡ None
  parts_over h = grind (arith, common_steps, gets, length_repeated, slice_get_past)

  -- in a round the list below goes on
  pub parts_on : round < times → g < length xs → slice_get (repeat times xs) (given_of_parts times round xs g) ≡ slice_get xs g
  parts_on h l = grind (arith, common_steps, nth_round)

  -- the end of a round is the begin of the next
  pub parts_turn : round < times → length xs ≤ g → given_of_parts times round xs g ≡ given_of_parts times (round + 1) xs 0
  parts_turn h l = grind (arith, common_steps, suc-mul)

-- a round begins with the first of the list, if it has one
pub parts_begin : (times round : ℕ) (xs : List ℕ) → round < times → slice_get (repeat times xs) (given_of_parts times round xs 0) ≡ slice_get xs 0
parts_begin times round [] h = slice_get_past (repeat times []) (given_of_parts times round [] 0) (omega (arith, length_repeated times []))
parts_begin times round (x ∷ xs) h = parts_on times round (x ∷ xs) 0 h (omega arith)

pub ruleset rounds = (parts_over, parts_on, parts_begin, parts_turn, gets, slice_get_within, suc-mul)
