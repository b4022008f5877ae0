-- What the calls answer, by what the list of entries holds: shared by all registers.
use Rattle.std.proofs.Common.{◌≡◌, ℕ, zero, suc, ◌<◌, ◌≤◌, List, [], ◌∷◌, ◌++◌, length, get_or, Some, None, Ok, Err, sym, refl, ap, ◌∙◌, not-suc-le-zero, arith}
use Rattle.registers.specs.Entries.{Entry, code_at, Shelf, NoCodeTwice, marked, entering, last_mark, without_last}
use Rattle.registers.specs.declared.entered.Entered.TheVariants.{Added, Held}
use Rattle.registers.specs.declared.fault.RegisterFault.TheVariants.{Reach, Full}
use Rattle.std.proofs.lemmas.Bool.Decides.{nat_tests}

-- the mark of an entry by its index
abbrev pub mark_at : List Entry → ℕ → ℕ
mark_at es i = (get_or es i (record { code = 0; mark = 0 })).mark

-- a code that no entry has is absent
pub marked_none : (c : ℕ) (es : List Entry) → ((i : ℕ) → i < length es → code_at es i ≡ c → ⊥) → marked c es ≡ None
marked_none c [] h = refl
marked_none c (e ∷ es) h =
    let here = h 0 (omega arith) in
    grind (arith, nat_tests, marked_none c es (λ i l. h (suc i) (omega arith)))

-- the first entry with a code gives its mark
pub marked_first : (c : ℕ) (es : List Entry) (i : ℕ) → i < length es → code_at es i ≡ c → ((j : ℕ) → j < i → code_at es j ≡ c → ⊥) → marked c es ≡ Some (mark_at es i)
marked_first c [] i l e h = absurd (not-suc-le-zero l)
marked_first c (x ∷ es) zero l e h = grind (arith, nat_tests)
marked_first c (x ∷ es) (suc i) l e h =
    let here = h 0 (omega arith) in
    grind (arith, nat_tests, marked_first c es i (omega arith) e (λ j m. h (suc j) (omega arith)))

-- where no code stands twice, any entry with a code gives its mark
pub marked_at : (c : ℕ) (es : List Entry) (i : ℕ) → NoCodeTwice es → i < length es → code_at es i ≡ c → marked c es ≡ Some (mark_at es i)
marked_at c es i once l e = marked_first c es i l e (λ j m f. let s : j ≡ i = once j i (omega arith) l (f ∙ sym e) in omega arith)

-- the last entry is the one that goes
pub last_mark_last : (es : List Entry) (e : Entry) → last_mark (es ++ e ∷ []) ≡ Ok e.mark
last_mark_last [] e = refl
last_mark_last (x ∷ []) e = refl
last_mark_last (x ∷ (y ∷ es)) e = last_mark_last (y ∷ es) e

pub without_last_last : (es : List Entry) (e : Entry) → without_last (es ++ e ∷ []) ≡ es
without_last_last [] e = refl
without_last_last (x ∷ []) e = refl
without_last_last (x ∷ (y ∷ es)) e = ap (λ r. x ∷ r) (without_last_last (y ∷ es) e)

-- the answer of an enter, case by case
module _ (s : Shelf) (c : ℕ) where
  pub enters_beyond : s.reach ≤ c → entering s c ≡ Err Reach
  enters_beyond h = grind (arith, nat_tests)

  pub enters_held : (m : ℕ) → c < s.reach → marked c s.entries ≡ Some m → entering s c ≡ Ok (Held m)
  enters_held m h e = grind (arith, nat_tests)

  pub enters_full : c < s.reach → marked c s.entries ≡ None → s.capacity ≤ length s.entries → entering s c ≡ Err Full
  enters_full h e f = grind (arith, nat_tests)

  pub enters_added : c < s.reach → marked c s.entries ≡ None → length s.entries < s.capacity → entering s c ≡ Ok Added
  enters_added h e f = grind (arith, nat_tests)
