-- Whether a code is in a list of entries: one more entry at its end, and the mark that is found.
use Rattle.std.proofs.Common.{◌≡◌, ℕ, zero, suc, ◌<◌, true, eqb, ◌⊎◌, List, [], ◌∷◌, ◌++◌, length, Some, None, sym, refl, ap, ◌∙◌, inl, inr, not-suc-le-zero, arith}
use Rattle.registers.specs.Cells.{among}
use Rattle.registers.specs.Entries.{Entry, code_at, NoCodeTwice, marked}
use Rattle.std.proofs.lemmas.List.{get_or_append_left, get_or_push, length_push}
use Rattle.std.proofs.lemmas.Bool.{cases_Bool, cases_lt, false≢true}
use Rattle.std.proofs.lemmas.Bool.Decides.{nat_tests}

-- the new entry's code is in the list
pub among_here : (k : ℕ) (es : List Entry) (e : Entry) → e.code ≡ k → among k (es ++ e ∷ []) ≡ true
among_here k [] e h = grind (arith, nat_tests)
among_here k (x ∷ es) e h = grind (arith, nat_tests, among_here k es e h)

-- a code that was in the list stays in it
pub among_before : (k : ℕ) (es : List Entry) (e : Entry) → among k es ≡ true → among k (es ++ e ∷ []) ≡ true
among_before k [] e h = absurd (false≢true h)
among_before k (x ∷ es) e h = grind (arith, nat_tests, among_before k es e)

-- a code in the longer list is the new one, or was in the list
pub among_which : (k : ℕ) (es : List Entry) (e : Entry) → among k (es ++ e ∷ []) ≡ true → (e.code ≡ k) ⊎ (among k es ≡ true)
among_which k [] e h = inl (grind (arith, nat_tests))
among_which k (x ∷ es) e h =
    elim (cases_Bool (eqb x.code k)) [
      | inl t ↦ inr (rw t)
      | inr f ↦ elim (among_which k es e (rw f at h)) [ inl s ↦ inl s | inr m ↦ inr (rw f m) ]
    ]

-- an entry's code is in the list
pub among_at : (k : ℕ) (es : List Entry) (i : ℕ) → i < length es → code_at es i ≡ k → among k es ≡ true
among_at k [] i l h = absurd (not-suc-le-zero l)
among_at k (x ∷ es) zero l h = grind (arith, nat_tests)
among_at k (x ∷ es) (suc i) l h = grind (arith, nat_tests, among_at k es i (omega arith) h)

-- a code that is not in the list has no mark
pub marked_absent : (k : ℕ) (es : List Entry) → (among k es ≡ true → ⊥) → marked k es ≡ None
marked_absent k [] h = refl
marked_absent k (x ∷ es) h = grind (arith, nat_tests, marked_absent k es)

-- a code that has no mark is not in the list
pub absent_marked : (k : ℕ) (es : List Entry) → marked k es ≡ None → among k es ≡ true → ⊥
absent_marked k [] h m = false≢true m
absent_marked k (x ∷ es) h m = grind (arith, nat_tests, absent_marked k es)

-- the mark of a code that was in the list stays
pub marked_before : (k : ℕ) (es : List Entry) (e : Entry) → among k es ≡ true → marked k (es ++ e ∷ []) ≡ marked k es
marked_before k [] e h = absurd (false≢true h)
marked_before k (x ∷ es) e h = grind (arith, nat_tests, marked_before k es e)

-- a code that was not in the list has the mark of the new entry
pub marked_here : (k : ℕ) (es : List Entry) (e : Entry) → (among k es ≡ true → ⊥) → e.code ≡ k → marked k (es ++ e ∷ []) ≡ Some e.mark
marked_here k [] e h c = grind (arith, nat_tests)
marked_here k (x ∷ es) e h c = grind (arith, nat_tests, marked_here k es e)

-- the entries there were stay at their places
code_before : (es : List Entry) (e : Entry) (i : ℕ) → i < length es → code_at (es ++ e ∷ []) i ≡ code_at es i
code_before es e i l = ap (λ (x : Entry). x.code) (get_or_append_left es (e ∷ []) (record { code = 0; mark = 0 }) i l)

-- and the new one stands behind them
code_last : (es : List Entry) (e : Entry) (i : ℕ) → length es ≡ i → code_at (es ++ e ∷ []) i ≡ e.code
code_last es e i l = ap (λ (x : Entry). x.code) (get_or_push es e (record { code = 0; mark = 0 }) i l)

-- with an entry whose code is new, no code stands twice
pub once_push : (es : List Entry) (e : Entry) → NoCodeTwice es → (among e.code es ≡ true → ⊥) → NoCodeTwice (es ++ e ∷ [])
once_push es e once new i j li lj s =
    let long = length_push es e in
    elim (cases_lt i (length es)) [
      | inl bi ↦ elim (cases_lt j (length es)) [
        | inl bj ↦ once i j bi bj (sym (code_before es e i bi) ∙ s ∙ code_before es e j bj)
        | inr aj ↦ absurd (new (among_at e.code es i bi (sym (code_before es e i bi) ∙ s ∙ code_last es e j (omega arith))))
      ]
      | inr ai ↦ elim (cases_lt j (length es)) [
        | inl bj ↦ absurd (new (among_at e.code es j bj (sym (code_before es e j bj) ∙ sym s ∙ code_last es e i (omega arith))))
        | inr aj ↦ omega arith
      ]
    ]
