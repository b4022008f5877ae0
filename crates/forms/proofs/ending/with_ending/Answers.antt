use Rattle.std.proofs.Common.{◌≡◌, ℕ, ◌+◌, ◌-◌, ◌≤◌, List, ◌++◌, map, length, take, sym, ap, ◌∙◌, append_assoc, arith}
use Rattle.forms.proofs.ending.with_ending.Goals as goal
use Rattle.notation.proofs.Drafting.{listed_long, made_in}
use Rattle.notation.specs.Drafts.{listed}
use Rattle.notation.specs.declared.change.Change.{Change}
use Rattle.std.proofs.Math.Seq.{take-append_seam}
use Rattle.std.proofs.lemmas.List.{length-append, length-map, length-take-le, map-append, take-map, take-take}

-- the first n of a list whose end is replaced by as many
replaced : (lead ending rest : List Change) (n from : ℕ) → n ≤ length lead → from + length ending ≡ n → map made_in (take n (take from lead ++ (ending ++ rest))) ≡ take from (map made_in (take n lead)) ++ map made_in ending
replaced lead ending rest n from l e =
    let kept : List Change = take from lead in
    let whole : n ≡ length (kept ++ ending) = omega (arith, length-append kept ending, length-take-le from lead (omega arith)) in
    let first : take from (map made_in (take n lead)) ≡ map made_in kept = take-map made_in from (take n lead) ∙ ap (map made_in) (take-take from n lead (omega arith)) in
    ap (λ l. map made_in (take n l)) (sym (append_assoc kept ending rest)) ∙ ap (λ k. map made_in (take k ((kept ++ ending) ++ rest))) whole ∙ ap (map made_in) (take-append_seam (kept ++ ending) rest)
    ∙ map-append made_in kept ending ∙ ap (λ l. l ++ map made_in ending) (sym first)

pub returns : goal.returns
returns c =
    let lead = c.args.lead.now in
    let ending = c.args.ending.now in
    let fits = c.in_ok-from.ensures in
    let room = lead.room in
    let few = lead.few in
    let long = listed_long lead in
    let short = listed_long ending in
    let copied : map made_in c.copy_from_slice.new.self ≡ listed ending = ap (map made_in) (c.copy_from_slice.ensures.after ∙ c.as_slice.ensures) in
    let cut : c.in_ok-from.from ≡ length (listed lead) - length (listed ending) = omega arith in
    (omega arith, replaced lead.list c.copy_from_slice.new.self _ lead.count c.in_ok-from.from (omega arith) (omega (arith, ap length copied, length-map c.copy_from_slice.new.self made_in)) ∙ (λ i. take (cut i) (listed lead) ++ copied i))
