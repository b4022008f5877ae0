use Rattle.std.proofs.Common.{take, sym, subst, rules}
use Rattle.std.proofs.lemmas.List.{take-map}
use Rattle.std.specs.Str.{IsUtf8}
use Rattle.rows.proofs.Spelled.{no_error, spelled_utf8}
use Rattle.rows.specs.Text.{character}
use Rattle.rows.proofs.text.SpelledDisplay.fmt.Goals as goal

pub returns-clause-writes : goal.returns-clause-writes
returns-clause-writes g c =
    let is = take-map character c.args.self.now.stage.bells c.args.self.now.row.bells in
    search (rules, is)

pub unwrap-text-requires : goal.unwrap-text-requires
unwrap-text-requires g c =
    let spelled = c.args.self.now in
    let is = subst (λ t. IsUtf8 (take spelled.stage.bells t)) (sym c.characters-characters.ensures) (spelled_utf8 spelled.stage.bells spelled.row.bells) in
    no_error _ _ _ (λ e q. q.0 is) c.from_utf8.ensures.cases
