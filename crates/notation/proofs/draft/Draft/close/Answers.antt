use Rattle.std.proofs.Common.{◌≡◌, ℕ, ◌++◌, Err, Ok, map, length, refl, ap, sym, subst, append-nil, ◌∙◌, rules}
use Rattle.notation.proofs.Closing.{close_goes, closed, twice, whole_listed, whole_many}
use Rattle.notation.proofs.Drafting.{listed_long}
use Rattle.notation.proofs.draft.Draft.close.Goals as goal
use Rattle.notation.proofs.draft.Draft.close.Goals.{In_ok-changes, then-self+in_ok-ok_or, else-self}
use Rattle.notation.specs.Changes.{made}
use Rattle.notation.specs.Drafts.{Drafted, Holds, Whole, listed}
use Rattle.notation.specs.Reading.{State, all_changes}
use Rattle.notation.specs.declared.fault.Fault.TheVariants.{Many}
use Rattle.std.proofs.lemmas.List.{length-map}
use Rattle.std.proofs.lemmas.Option.{MatchOption-at_none, MatchOption-at_some}
use Rattle.std.specs.Option.{option_copied_mut}

-- the changes that are lent are those of the draft
hand : (c : In_ok-changes) (n : ℕ) (st : State) → Drafted n c.args.self.now st → listed c.in_ok-changes.changes.now ≡ map (made n) (st.whole ++ st.block)
hand c n st d = subst (λ o. Holds o (map (made n) (st.whole ++ st.block))) (sym c.as_mut.ensures.value ∙ ap option_copied_mut c.in_ok-changes.ensures.ok_part) d.holds

pub returns-in_err-ok_or : goal.returns-in_err-ok_or
returns-in_err-ok_or c n st d =
    let h = hand (goal.at.returns-in_err-ok_or c).In_ok-changes n st d in
    let w : Whole n st (Err (Many c.args.self.now.from)) = whole_many n st c.in_ok-changes.changes.now c.args.self.now.block _ h d.block (sym d.doubles ∙ c.if-self.true) (ap Many d.from)
    (MatchOption-at_none _ _ c.in_err-ok_or.ensures.ok_part c.double.ensures.again) in
    search rules

pub returns : goal.returns
returns c n st d =
    let h = hand (goal.at.returns c).In_ok-changes n st d in
    let (few, is) : Whole n st (Ok c.if-self.changes) =
    elim c.if-self.branch [
      | then-self+in_ok-ok_or w ↦ rw w.changes-is (whole_listed n st w.double.new.self
          (MatchOption-at_some _ _ _ w.in_ok-ok_or.ensures.ok_part w.double.ensures.again ∙ twice n st (listed c.in_ok-changes.changes.now) c.args.self.now.block h d.block (sym d.doubles ∙ w.if-self.true)))
      | else-self w ↦ rw w.changes-is (whole_listed n st c.in_ok-changes.changes.now (search rules))
    ] in (
      closed n st c.args.next,
      close_goes n st c.args.next few,
      record {
        stage = d.stage;
        holds = is ∙ ap (map (made n)) (sym (append-nil (all_changes st)));
        block = sym (listed_long c.if-self.changes) ∙ ap length is ∙ length-map (all_changes st) (made n);
        from = refl;
        doubles = refl;
      },
    )
