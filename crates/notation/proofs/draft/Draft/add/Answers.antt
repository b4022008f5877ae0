use Rattle.std.proofs.Common.{◌≡◌, ℕ, ◌<◌, not, [], ◌∷◌, ◌++◌, None, Ok, map, length, refl, sym, ap, ◌∙◌, subst, arith, rules}
use Rattle.notation.proofs.Closing.{add_goes, grown, with_change}
use Rattle.notation.proofs.Drafting.{handed_back, listed_long, taken}
use Rattle.notation.proofs.draft.Draft.add.Goals as goal
use Rattle.notation.proofs.draft.Draft.add.Goals.{In_ok-change, in_default-via-in-None-1, in_default-via-in-Some+else-is_err}
use Rattle.notation.specs.Changes.{made}
use Rattle.notation.specs.Drafts.{Drafted, Holds, listed}
use Rattle.notation.specs.Reading.{State, goes, add}
use Rattle.notation.specs.Written.{Written, WrittenFault}
use Rattle.notation.specs.declared.draft.Draft.{Draft}
use Rattle.rows.specs.Text.{named}
use Rattle.std.proofs.lemmas.List.{length_push}
use Rattle.std.proofs.lemmas.Result.{err_from_is_err_and}

-- the change goes in, and the draft e has it too
added : (c : In_ok-change) (n : ℕ) (st : State) (e : Draft) → Drafted n c.args.self.now st
    → e.stage ≡ c.args.self.now.stage → e.block ≡ c.args.self.now.block → e.from ≡ c.args.self.now.from → e.doubles ≡ c.args.self.now.doubles
    → Holds e.changes (map (made n) (st.whole ++ st.block) ++ c.in_ok-change.change.made ∷ [])
    → (x : State) × (add n c.args.at (map named c.args.digits.now) st ≡ goes x) × Drafted n e x
added c n st e d stage block from doubles holds =
    let ws = map named c.args.digits.now in
    let w : Written n ws c.args.at (Ok c.in_ok-change.change) = subst (λ k. Written k ws c.args.at (Ok c.in_ok-change.change)) d.stage c.in_ok-change.ensures in
    (with_change n st ws, add_goes n st c.in_ok-change.change c.args.at ws w, grown n st c.in_ok-change.change c.args.at ws c.args.self.now e w d stage block from doubles holds)

pub returns-in_err-change : goal.returns-in_err-change
returns-in_err-change c n st d =
    let at_n = λ (k : ℕ). WrittenFault k (map named c.args.digits.now) c.args.at c.in_err-change.field-0.0 in
    let w : at_n n = subst at_n d.stage c.in_err-change.ensures in
    let p = err_from_is_err_and c.from_residual.result c.from_residual.ensures.1 in
    rw (p.1, p.2) (search rules)

pub returns-then-is_err : goal.returns-then-is_err
returns-then-is_err c n st d =
    let cs = map (made n) (st.whole ++ st.block) in
    let hand : listed c.in-Some.changes ≡ cs = subst (λ o. Holds o cs) c.in-Some.is d.holds in
    let full = handed_back _ _ c.push.result (c.is_err.ensures.negation ∙ ap not c.if-is_err.true) c.push.ensures in
    added (goal.at.returns-then-is_err c).In_ok-change n st _ d refl refl refl refl
    (omega (arith, full.1.2, listed_long c.in-Some.changes, ap length hand, length_push cs c.in_ok-change.change.made))

pub returns-in_default : goal.returns-in_default
returns-in_default c n st d =
    let cs = map (made n) (st.whole ++ st.block) in
    let y = c.in_ok-change.change.made in
    let more = length_push cs y in
    elim c.in_default.branch [
      | in_default-via-in-None-1 v ↦
          let none : c.args.self.now.changes ≡ None = search rules in
          let past : 64 < length cs = subst (λ o. Holds o cs) none d.holds in
          rw v.self-is (added (goal.at.returns-in_default c).In_ok-change n st _ d refl refl refl refl (subst (λ o. Holds o (cs ++ y ∷ [])) (sym none) (omega arith)))
      | in_default-via-in-Some+else-is_err v ↦
          let hand : listed v.in-Some.changes ≡ cs = subst (λ o. Holds o cs) v.in-Some.is d.holds in
          let pushed = taken _ _ v.push.result (v.is_err.ensures.negation ∙ ap not v.if-is_err.false) v.push.ensures in
          rw v.self-is (added (goal.at.returns-in_default c).In_ok-change n st _ d refl refl refl refl (pushed ∙ ap (λ l. l ++ y ∷ []) hand))
    ]
