use Rattle.std.proofs.lemmas.Option.{MatchOption-at_some}
use Rattle.std.proofs.Common.{Some, ◌≡◌, ℕ, ◌<◌, List, map, get_or, sym, refl, ap, ◌∙◌, arith}
use Rattle.rows.specs.Code.{fact, code, code_to, HasCode}
use Rattle.rows.specs.Rows.{inverse}
use Rattle.rows.proofs.Decoding.{decoded, decoded_only}
use Rattle.rows.proofs.card.inverse_code.Goals as goal
use Rattle.std.proofs.lemmas.List.FromFn.{get_or-map-range_with_len}
use Rattle.std.specs.List.{range_with_len}

-- the code of the inverse of the row that is decoded from c
inverted : ℕ → ℕ
inverted c = code (inverse 12 (decoded 12 c))

-- a table of all these codes has the rule of the card at each entry
carried : (table : List ℕ) → map inverted (range_with_len 0 720) ≡ table → (c : ℕ) → c < 720 → (a : List ℕ) → HasCode 6 c a → get_or table c 0 ≡ code (inverse 12 a)
unfolding fact inverted
carried table e c l a h =
    ap (λ (t : List ℕ). get_or t c 0) (sym e)
    ∙ get_or-map-range_with_len inverted 0 720 c c 0 l (omega arith)
    ∙ ap (λ (b : List ℕ). code (inverse 12 b)) (sym (decoded_only 6 c a h (omega arith)))

pub returns : goal.returns
unfolding inverted decoded code_to
returns c =
    let some : c.get.result ≡ Some c.in_ok-inverse.inverse = grind arith in
    let (within, read) = MatchOption-at_some _ _ _ some c.get.ensures.lookup.3 in
    (within, λ a h. c.from.ensures ∙ read 0 ∙ carried _ refl c.args.code within a h)
