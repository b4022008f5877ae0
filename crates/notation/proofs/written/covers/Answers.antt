use Rattle.std.proofs.Common.{◌≡◌, ℕ, ◌+◌, ◌-◌, ◌<◌, ◌≤◌, Bool, true, false, List, [], ◌++◌, length, get_or, replicate, take, drop, refl, ◌∙◌, arith, rules}
use Rattle.notation.proofs.written.covers.Goals as goal
use Rattle.notation.specs.Changes.{making}
use Rattle.std.proofs.lemmas.Bool.Decides.{nat_tests}
use Rattle.std.proofs.lemmas.List.{places, same_lists, get_or_append_left, get_or-append_right, get_or-replicate}

-- where twelve places not made stand before twelve made, the twelve from index 12 - n on are n not made and the covers above them
window : (e : List Bool) (n : ℕ) → n ≤ 12 → length e ≡ 24 → ((i : ℕ) (d : Bool) → i < 12 → get_or e i d ≡ false) → ((i : ℕ) (d : Bool) → 12 ≤ i → i < 24 → get_or e i d ≡ true)
    → take (24 - n - (12 - n)) (drop (12 - n) e) ≡ making n []
window e n most long low high =
    same_lists _ _ (search (rules, places)) (λ k d h. let below = low (12 - n + k) d in let above = high (12 - n + k) d in grind (arith, places, nat_tests))

pub returns : goal.returns
returns c =
    let off : List Bool = replicate 12 false in
    let on : List Bool = replicate 12 true in
    c.copy_from_slice.ensures.after
    ∙ window (off ++ on) c.args.stage.bells c.args.stage.most refl (λ i d l. get_or_append_left off on d i l ∙ get_or-replicate 12 i false d l)
    (λ i d lo hi. get_or-append_right off on 12 i d refl lo ∙ get_or-replicate 12 (i - 12) true d (omega arith))
