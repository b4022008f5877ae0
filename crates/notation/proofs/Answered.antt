-- What the reading comes to is what the text means, and nothing else is.
use Rattle.std.proofs.Common.{◌≡◌, ℕ, ◌<◌, ◌≤◌, List, length, drop, Some, Ok, Err, Result, sym, ap, ◌∙◌, subst, arith}
use Rattle.notation.proofs.Law.{Told, law, only_first, only_right, right_or_first}
use Rattle.notation.proofs.Resuming.{resume, resume_end, token_more}
use Rattle.notation.specs.Drafts.{Answers, Drafted, Steps, finished, position, seen_behind, stepped}
use Rattle.notation.specs.Faults.{Right}
use Rattle.notation.specs.Meaning.{Means, Only}
use Rattle.notation.specs.Reading.{State, goes, halts, outcome, start}
use Rattle.notation.specs.Tokens.{Next, TokenAt}
use Rattle.notation.specs.declared.changes.Changes.{Changes}
use Rattle.notation.specs.declared.draft.Draft.{Draft}
use Rattle.notation.specs.declared.draft.Seen.TheVariants.{Fresh}
use Rattle.notation.specs.declared.fault.Fault.{Fault}
use Rattle.notation.specs.declared.token.Token.{Token}
use Rattle.notation.specs.declared.token.Token.TheVariants.{Run, Cross, Point, Comma, And, Plus, Other}
use Rattle.notation.specs.declared.token.Tokens.{Tokens}
use Rattle.std.proofs.lemmas.List.{drop_all}

means : (n : ℕ) (t : List ℕ) (r : Result Changes Fault) → Answers n (outcome n t) r → Means n t r
means n t (Ok c) a = subst (Right n t) (sym a.2) (subst (Told n t) a.1 (law n t))
means n t (Err f) a = subst (Told n t) a (law n t)

only : (n : ℕ) (t : List ℕ) (r : Result Changes Fault) → Means n t r → Only n t r
only n t (Ok c) m = (λ cs r. only_right n t cs _ r m, λ f x. right_or_first n t _ f m x)
only n t (Err f) m = (λ cs r. right_or_first n t cs f r m, λ g x. only_first n t g f x m)

-- what is answered as the reading comes out is what the text means
pub told : (n : ℕ) (t : List ℕ) (r : Result Changes Fault) → Answers n (outcome n t) r → Means n t r × Only n t r
told n t r a = let m = means n t r a in (m, only n t r m)

-- a token has at least one byte, and lies inside the text
token_inside : (t : List ℕ) (j end : ℕ) (token : Token) → TokenAt t j end token → (position token ≡ j) × (j < end) × (end ≤ length t)
token_inside t j end (Run digits at) x = (x.0, x.1, x.2)
token_inside t j end (Cross at) x = (x.0, omega (arith, x.3), omega (arith, x.1, x.3))
token_inside t j end (Point at) x = (x.0, omega (arith, x.3), omega (arith, x.1, x.3))
token_inside t j end (Comma at) x = (x.0, omega (arith, x.3), omega (arith, x.1, x.3))
token_inside t j end (And at) x = (x.0, omega (arith, x.3), omega (arith, x.1, x.3))
token_inside t j end (Plus at) x = (x.0, omega (arith, x.3), omega (arith, x.1, x.3))
token_inside t j end (Other at) x = (x.0, omega (arith, x.3), omega (arith, x.1, x.3))

-- the tokens up to some byte are taken: the draft stands for a state from which the rest of the text comes out as the whole does
pub record Underway (n : ℕ) (t : List ℕ) (rest : Tokens) (d : Draft) : Type 0 where
  pub inside : rest.at ≤ length t
  pub same : rest.text.now ≡ t
  pub state : State
  pub drafted : Drafted n d state
  pub comes : resume n rest.at d.seen (goes state) (drop rest.at t) ≡ outcome n t

-- no token is taken
pub underway_none : (n : ℕ) (t : List ℕ) (rest : Tokens) (d : Draft) → rest.text.now ≡ t → rest.at ≡ 0 → Drafted n d start → d.seen ≡ Fresh → Underway n t rest d
unfolding resume
underway_none n t rest d same at drafted seen = record {
  inside = omega arith;
  same = same;
  state = start;
  drafted = drafted;
  comes = λ i. resume n (at i) (seen i) (goes start) (drop (at i) t);
}

module _ (n : ℕ) (t : List ℕ) (rest : Tokens) (d : Draft) (u : Underway n t rest d) where
  module _ (token : Token) (next : Tokens) (gives : (next.text.now ≡ rest.text.now) × Next rest.text.now rest.at next.at (Some token)) where
    here : TokenAt t rest.at next.at token
    here = subst (λ x. TokenAt x rest.at next.at token) u.same gives.1

    pub token_before : position token < length t
    token_before = omega (arith, token_inside t rest.at next.at token here)

    -- the outcome is that of the rest behind the token, after its step
    behind : resume n next.at (seen_behind token d.seen) (stepped n token d.seen u.state) (drop next.at t) ≡ outcome n t
    behind = sym (token_more n t rest.at next.at d.seen u.state token here) ∙ u.comes

    -- one token more is taken
    pub underway_more : (e : Draft) → Steps n (stepped n token d.seen u.state) (Ok tt) e → e.seen ≡ seen_behind token d.seen → Underway n t next e
    underway_more e (st, goes_on, drafted) seen = record {
      inside = omega (arith, token_inside t rest.at next.at token here);
      same = gives.0 ∙ u.same;
      state = st;
      drafted = drafted;
      comes = (λ i. resume n next.at (seen i) (sym goes_on i) (drop next.at t)) ∙ behind;
    }

    -- the token is refused
    pub underway_halts : (f : Fault) → stepped n token d.seen u.state ≡ halts f → Answers n (outcome n t) (Err f)
    unfolding resume
    underway_halts f stops = sym behind ∙ ap (λ x. resume n next.at (seen_behind token d.seen) x (drop next.at t)) stops

  -- all tokens are taken
  pub underway_all : (r : Result Changes Fault) → length rest.text.now ≤ rest.at → Answers n (finished (length t) d.seen u.state) r → Answers n (outcome n t) r
  underway_all r past a =
      let ends : rest.at ≡ length t = omega (arith, u.inside, ap length u.same) in
      let out : finished (length t) d.seen u.state ≡ outcome n t =
      sym (resume_end n (length t) d.seen u.state) ∙ (λ i. resume n (sym ends i) d.seen (goes u.state) (sym (drop_all rest.at t (omega arith)) i)) ∙ u.comes in
      subst (λ o. Answers n o r) out a
