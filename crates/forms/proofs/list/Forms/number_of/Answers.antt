use Rattle.std.proofs.Common.{rules, ◌≡◌, ◌∙◌}
use Rattle.forms.proofs.Taking.{numbered}
use Rattle.forms.proofs.list.Forms.number_of.Goals as goal
use Rattle.std.proofs.lemmas.Iterator.{IsFirst-from_position, YieldsList-from_slice}
use borrow.Author.Tests.{tests}

pub returns : goal.returns
returns g c =
    let forms = c.args.self.now.list.items in
    let letter = c.args.letter in
    let mark = c.args.mark in
    numbered forms letter mark c.position.result
    (IsFirst-from_position _ _ c.position.result (λ f. (f.letter ≡ letter) × (f.mark ≡ mark)) (λ f. (f.letter ≡ letter) × (f.mark ≡ mark) → ⊥) c.position.ensures.ran (YieldsList-from_slice forms (c.iter.ensures.rest ∙ c.deref.ensures.value)) (λ x q k. search (rules, tests)) (λ x q k. search (rules, tests)))
