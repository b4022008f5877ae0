use Rattle.std.proofs.Common.{rules, ◌∙◌, ◌≡◌, Ok, Err, MatchResult}
use Rattle.forms.proofs.Taking.{alone}
use Rattle.forms.proofs.begin.Forms+Closed.of_method.Goals as goal

pub returns : goal.returns
returns c =
    let begun = c.in_ok-forms.ensures in
    let told = c.add_method-added.ensures in
    let closed = c.close-closed.ensures in
    let mapped : MatchResult c.add_method-added.result (λ _. c.map.result ≡ Ok c.close-closed.result) (λ e. c.map.result ≡ Err e) = search rules in
    alone _ _ _ _ _ _ c.close-closed.result c.add_method-added.result c.map.result begun.0 begun.1 (closed.0 ∙ told.stage ∙ begun.0) closed.1 told.answer mapped
