-- Entering a key, finding it and taking it back, on any register.
use Rattle.std.proofs.Common.{◌≡◌, ℕ, Bool, true, false, cond, eqb, leb, List, [], ◌∷◌, ◌++◌, length, Some, None, Ok, Err, Option, Result, sym, refl, ap, ◌∙◌, arith}
use Rattle.registers.proofs.Among.{absent_marked, marked_here}
use Rattle.registers.proofs.Entries.{without_last_last}
use Rattle.registers.specs.Entries.{Shelf, Entry, marked, held, appended, with_entries, entering, entered}
use Rattle.registers.specs.Trials.{undone, Passes}
use Rattle.registers.specs.declared.entered.Entered.{Entered}
use Rattle.registers.specs.declared.entered.Entered.TheVariants.{Added, Held}
use Rattle.registers.specs.declared.fault.RegisterFault.{RegisterFault}
use Rattle.registers.specs.declared.fault.RegisterFault.TheVariants.{Reach, Full}
use Rattle.registers.specs.declared.trial.Trial.{Trial}
use Rattle.std.proofs.lemmas.Bool.{ne_eqb}
use Rattle.std.proofs.lemmas.Bool.Decides.{nat_tests}

-- taking back what an enter has added leaves the list that stood before it
pub undone_entered : (r : Result Entered RegisterFault) (e : Entry) (s : Shelf) → undone r (entered r e s) ≡ s
undone_entered (Ok Added) e s = ap (λ es. with_entries es s) (without_last_last s.entries e)
undone_entered (Ok (Held m)) e s = refl
undone_entered (Err f) e s = refl

-- only an absent code is added
added_by : (b d : Bool) (o : Option ℕ) → cond b (Err Reach) (held o (cond d (Err Full) (Ok Added))) ≡ Ok Added → o ≡ None
added_by true d o h = grind (arith, nat_tests)
added_by false d None h = refl
added_by false d (Some m) h = grind (arith, nat_tests)

-- a code is held with the mark that it has
held_by : (b d : Bool) (o : Option ℕ) (m : ℕ) → cond b (Err Reach) (held o (cond d (Err Full) (Ok Added))) ≡ Ok (Held m) → o ≡ Some m
held_by true d o m h = grind (arith, nat_tests)
held_by false true None m h = grind (arith, nat_tests)
held_by false false None m h = grind (arith, nat_tests)
held_by false d (Some k) m h = grind (arith, nat_tests)

-- an entry at the end changes nothing for another code
marked_other : (k c m : ℕ) (es : List Entry) → (c ≡ k → ⊥) → marked k (es ++ record { code = c; mark = m } ∷ []) ≡ marked k es
marked_other k c m [] h = rw (ne_eqb c k h)
marked_other k c m (e ∷ es) h = ap (λ r. cond (eqb e.code k) (Some e.mark) r) (marked_other k c m es h)

-- so an enter changes nothing for another code
pub entered_other : (r : Result Entered RegisterFault) (k c m : ℕ) (es : List Entry) → (c ≡ k → ⊥) → marked k (appended r (record { code = c; mark = m }) es) ≡ marked k es
entered_other (Ok Added) k c m es h = marked_other k c m es h
entered_other (Ok (Held n)) k c m es h = refl
entered_other (Err f) k c m es h = refl

-- the answers of a trial by those of its calls
pub passes_by : (s : Shelf) (c m : ℕ) (t : Trial) → t.entered ≡ entering s c → t.found ≡ marked c (entered t.entered (record { code = c; mark = m }) s).entries → t.left ≡ marked c s.entries → Passes s c m t
passes_by s c m t a f l = record {
  answer = a;
  finding = f;
  leaving = l;
  added = λ e. let o = added_by (leb s.reach c) (leb s.capacity (length s.entries)) (marked c s.entries) (sym a ∙ e) in (f ∙ (ap (λ r. marked c (appended r (record { code = c; mark = m }) s.entries)) e ∙ marked_here c s.entries (record { code = c; mark = m }) (absent_marked c s.entries o) refl), l ∙ o);
  held = λ h e. let o = held_by (leb s.reach c) (leb s.capacity (length s.entries)) (marked c s.entries) h (sym a ∙ e) in (f ∙ (ap (λ r. marked c (appended r (record { code = c; mark = m }) s.entries)) e ∙ o), l ∙ o);
}
