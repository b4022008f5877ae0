-- A text that is compared with a word byte by byte.
use Rattle.std.proofs.Common.{◌≡◌, ℕ, ◌+◌, ◌≤◌, List, [], ◌∷◌, length, get_or, drop, ◌∙◌, arith}
use Rattle.std.proofs.lemmas.List.{drop_all, drop_more}

-- from byte i on t has the bytes of a word, and no more
abbrev pub ReadsAs : List ℕ → ℕ → List ℕ → Type 0
ReadsAs t i [] = length t ≡ i
ReadsAs t i (x ∷ xs) = (get_or t i 0 ≡ x) × ReadsAs t (i + 1) xs

reaches : (t : List ℕ) (i : ℕ) (xs : List ℕ) → ReadsAs t i xs → i ≤ length t
reaches t i [] h = omega arith
reaches t i (x ∷ xs) h = omega (arith, reaches t (i + 1) xs h.1)

reads_from : (t : List ℕ) (i : ℕ) (xs : List ℕ) → ReadsAs t i xs → drop i t ≡ xs
reads_from t i [] h = drop_all i t (omega arith)
reads_from t i (x ∷ xs) h = drop_more t i 0 (omega (arith, reaches t (i + 1) xs h.1)) ∙ (λ k. h.0 k ∷ reads_from t (i + 1) xs h.1 k)

-- so it is that word
pub reads : (t xs : List ℕ) → ReadsAs t 0 xs → t ≡ xs
reads t xs h = reads_from t 0 xs h
