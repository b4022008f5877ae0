-- Cutting a text at a byte.
use Rattle.std.proofs.Common.{◌≡◌, ℕ, suc, ◌+◌, ◌<◌, ◌≤◌, ◌≢◌, eqb, List, ◌∷◌, ◌++◌, length, get_or, take, drop, sym, ap, ◌∙◌, arith, length-drop}
use Rattle.sheets.specs.Words.{upto}
use Rattle.std.proofs.lemmas.List.{get_or-drop, set-get_or, set_split}
use Rattle.std.proofs.lemmas.List.Sums.{position_or_len_is}
use Rattle.std.proofs.lemmas.Bool.{eq-eqb, ne_eqb}

-- the first b is the one before which none stands
pub first_at : (b : ℕ) (t : List ℕ) (i : ℕ) → i < length t → get_or t i 0 ≡ b → ((k : ℕ) → k < i → get_or t k 0 ≢ b) → upto b t ≡ i
first_at b t i l is before = position_or_len_is (λ x. eqb x b) t i 0 (omega arith) (λ k h. ne_eqb (get_or t k 0) b (before k h)) (λ _. eq-eqb (get_or t i 0) b is)

pub none_at : (b : ℕ) (t : List ℕ) → ((k : ℕ) → k < length t → get_or t k 0 ≢ b) → upto b t ≡ length t
none_at b t other = position_or_len_is (λ x. eqb x b) t (length t) 0 (omega arith) (λ k h. ne_eqb (get_or t k 0) b (other k h)) (λ l. absurd (omega arith))

-- the byte at i and what stands on both sides of it make the text
pub parted_at : (b : ℕ) (t : List ℕ) (i : ℕ) → i < length t → get_or t i 0 ≡ b → t ≡ take i t ++ b ∷ drop (i + 1) t
parted_at b t i l is =
    let next : suc i ≡ i + 1 = omega arith in
    sym (set-get_or t i 0) ∙ set_split t i (get_or t i 0) l ∙ ap (λ x. take i t ++ x ∷ drop (suc i) t) is ∙ ap (λ k. take i t ++ b ∷ drop k t) next

-- none stands behind the last b
pub none_behind : (b : ℕ) (t : List ℕ) (i : ℕ) → ((k : ℕ) → i + 1 ≤ k → k < length t → get_or t k 0 ≢ b) → upto b (drop (i + 1) t) ≡ length (drop (i + 1) t)
none_behind b t i behind = none_at b (drop (i + 1) t) (λ k h e. behind (i + 1 + k) (omega arith) (omega (arith, length-drop (i + 1) t)) (sym (get_or-drop (i + 1) t k 0) ∙ e))
