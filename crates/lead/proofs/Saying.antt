-- What the words of a line say.
use Rattle.std.proofs.Common.{◌≡◌, ℕ, List, ◌∷◌, ◌++◌, length, get_or, Some, None, codes, Option, unwrap_or, sym, refl, ap, ◌∙◌, subst, arith, Bor}
use Rattle.lead.specs.Sheets.{Parsed, StageArgs, MethodArgs, CallArgs, StageOf, MethodOf, CallOf, Known}
use Rattle.lead.specs.declared.command.Command.{Command}
use Rattle.lead.specs.declared.command.Command.TheVariants.{Unknown}
use Rattle.sheets.proofs.Parting.{parted, same_parts, has_none}
use Rattle.sheets.specs.Words.{upto, CutInto, Word, BlankLine}

-- arguments that lack a space are none of `method` or `call`
pub method_none : (t : List ℕ) → upto 32 t ≡ length t → (l : Option ℕ) (nt : List ℕ) → MethodArgs t l nt → ⊥
method_none t none l nt h = has_none 32 h.0 nt t h.2 none

pub call_none : (t : List ℕ) → upto 32 t ≡ length t → (l m : Option ℕ) (nt : List ℕ) → CallArgs t l m nt → ⊥
call_none t none l m nt h = has_none 32 h.0 (h.1 ++ 32 ∷ nt) t h.4 none

pub call_half : {t x y : List ℕ} → CutInto 32 t x y → upto 32 y ≡ length y → (l m : Option ℕ) (nt : List ℕ) → CallArgs t l m nt → ⊥
call_half cut none l m nt h = has_none 32 h.1 nt _ (same_parts (parted cut) (record { whole = h.4; lacks = h.2 })).1 none

-- the three words begin with different letters
other_word : (w v u : List ℕ) → (get_or v 0 0 ≡ get_or u 0 0 → ⊥) → w ≡ v → w ≡ u → ⊥
other_word w v u differ is e = differ (ap (λ x. get_or x 0 0) (sym is ∙ e))

pub known_stage : (w a : List ℕ) (r : Option Command) → w ≡ codes "stage" → StageOf a r → Known w a r
known_stage w a None is h = (
  λ n _ args. h n args,
  λ l nt e _. other_word w (codes "stage") (codes "method") (λ x. omega arith) is e,
  λ l m nt e _. other_word w (codes "stage") (codes "call") (λ x. omega arith) is e,
)
known_stage w a (Some c) is h = subst (Parsed (w ++ 32 ∷ a)) (sym h.1) (a, ap (λ x. x ++ 32 ∷ a) is, h.2)

pub known_method : (w a : List ℕ) (r : Option Command) → w ≡ codes "method" → MethodOf a r → Known w a r
known_method w a None is h = (
  λ n e _. other_word w (codes "method") (codes "stage") (λ x. omega arith) is e,
  λ l nt _ args. h l nt args,
  λ l m nt e _. other_word w (codes "method") (codes "call") (λ x. omega arith) is e,
)
known_method w a (Some c) is h = subst (Parsed (w ++ 32 ∷ a)) (sym h.2) (a, ap (λ x. x ++ 32 ∷ a) is, h.3)

pub known_call : (w a : List ℕ) (r : Option Command) → w ≡ codes "call" → CallOf a r → Known w a r
known_call w a None is h = (
  λ n e _. other_word w (codes "call") (codes "stage") (λ x. omega arith) is e,
  λ l nt e _. other_word w (codes "call") (codes "method") (λ x. omega arith) is e,
  λ l m nt _ args. h l m nt args,
)
known_call w a (Some c) is h = subst (Parsed (w ++ 32 ∷ a)) (sym h.3) (a, ap (λ x. x ++ 32 ∷ a) is, h.4)

-- a line that was cut behind its first word
module _ (t : List ℕ) (x y : Bor (List ℕ)) (cut : CutInto 32 t x.now y.now) where
  says_known : (c : Command) → Known x.now y.now (Some c) → Parsed t c
  says_known c h = subst (λ z. Parsed z c) (sym (parted cut).whole) h

  says_unknown : (BlankLine t → ⊥) → Known x.now y.now None → Parsed t (Unknown x)
  says_unknown other h = (
    cut.front,
    other,
    λ args n e h'. let is = same (codes "stage") args refl e in h.0 n is.0 (subst (λ z. StageArgs z n) (sym is.1) h'),
    λ args l nt e h'. let is = same (codes "method") args refl e in h.1 l nt is.0 (subst (λ z. MethodArgs z l nt) (sym is.1) h'),
    λ args l m nt e h'. let is = same (codes "call") args refl e in h.2 l m nt is.0 (subst (λ z. CallArgs z l m nt) (sym is.1) h'),
  )
    where
      same : (a rest : List ℕ) → Word a → t ≡ a ++ 32 ∷ rest → (x.now ≡ a) × (y.now ≡ rest)
      same a rest w is = same_parts (parted cut) (record { whole = is; lacks = w })

  -- what its word and arguments make, or else its word
  pub says : (r : Option Command) (c : Command) → (BlankLine t → ⊥) → Known x.now y.now r → c ≡ unwrap_or r (Unknown x) → Parsed t c
  says None c other h is = subst (Parsed t) (sym is) (says_unknown other h)
  says (Some d) c other h is = subst (Parsed t) (sym is) (says_known d h)
