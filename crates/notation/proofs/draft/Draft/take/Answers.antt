use Rattle.std.proofs.Common.{rules}
use Rattle.notation.proofs.draft.Draft.take.Goals as goal
use Rattle.notation.proofs.draft.Draft.take.Goals.{in-Run-Fresh+in_ok-add-in-Run-Fresh, in-Cross-Fresh+in_ok-add-in-Cross-Fresh, in-Point-Ran, in-Comma-Crossed+in_ok-close-in-Comma-Crossed, in-And-Fresh, in-And, in_default-matches}
use Rattle.notation.specs.Grammar.{Sign}
use Rattle.notation.specs.Reading.{State, pointed, signed, seeing}

-- the state behind a sign
behind_sign : Sign → State → State
behind_sign s st = record { whole = st.whole; from = st.from; sign = s; block = st.block; seen = signed }

pub returns-clause-steps : goal.returns-clause-steps
unfolding behind_sign
returns-clause-steps c n st d =
    elim c.match-token.branch [
      | in-Run-Fresh+in_ok-add-in-Run-Fresh w ↦ search rules
      | in-Cross-Fresh+in_ok-add-in-Cross-Fresh w ↦ search rules
      | in-Point-Ran w ↦ (seeing st pointed, search rules, search rules)
      | in-Comma-Crossed+in_ok-close-in-Comma-Crossed w ↦ search rules
      | in-And-Fresh w ↦
          elim w.match-matches.branch [
            | in-And v ↦ (behind_sign Sign.amp st, search rules, search rules)
            | in_default-matches v ↦ (behind_sign Sign.plus st, search rules, search rules)
          ]
    ]
