-- A text and the parts that it is cut into.
use Rattle.std.proofs.Common.{◌≡◌, ℕ, ◌+◌, ◌<◌, ◌≢◌, eqb, List, [], ◌∷◌, ◌++◌, length, get_or, take, drop, sym, refl, ap, ◌∙◌, subst, arith}
use Rattle.std.proofs.Math.ListN.{get_or-append}
use Rattle.std.proofs.Math.Seq.{take-append_seam, drop-append-add, get_or-append_seam}
use Rattle.sheets.proofs.Cutting.{first_at, none_at}
use Rattle.sheets.specs.Words.{upto, before, behind, CutInto, BlankLine}
use Rattle.std.proofs.lemmas.List.{length-append, length-drop, length-take-le, get_or-take}
use Rattle.std.proofs.lemmas.List.Sums.{split_at_first, passes_at_first, fails_before_first}
use Rattle.std.proofs.lemmas.Bool.{eqb-true, eqb-false}

-- a text is what stands before its first b, the b and what stands behind it
pub record PartedAt (b : ℕ) (t x y : List ℕ) : Type 0 where
  pub whole : t ≡ x ++ b ∷ y
  pub lacks : upto b x ≡ length x

-- no byte before the first b is one
other_before : (b : ℕ) (t : List ℕ) (k : ℕ) → k < upto b t → get_or t k 0 ≢ b
other_before b t k h = eqb-false (get_or t k 0) b (fails_before_first (λ x. eqb x b) t k 0 h)

-- what stands before the first b has none
pub front_lacks : (b : ℕ) (t : List ℕ) → upto b t < length t → upto b (before b t) ≡ length (before b t)
front_lacks b t l =
    let long : length (before b t) ≡ upto b t = length-take-le (upto b t) t (omega arith) in
    none_at b (before b t) (λ k h e. let inside : k < upto b t = omega arith in other_before b t k inside (sym (get_or-take (upto b t) t k 0 inside) ∙ e))

-- a text that was cut at its first b
pub parted : {b : ℕ} {t x y : List ℕ} → CutInto b t x y → PartedAt b t x y
parted {b} {t} {x} {y} h =
    let here : get_or t (upto b t) 0 ≡ b = eqb-true (get_or t (upto b t) 0) b (passes_at_first (λ z. eqb z b) t 0 h.inside) in
    record {
      whole = split_at_first (λ z. eqb z b) t 0 h.inside ∙ (λ i. sym h.front i ++ here i ∷ sym h.back i);
      lacks = subst (λ z. upto b z ≡ length z) (sym h.front) (front_lacks b t h.inside);
    }

-- the first b is the one behind a text that has none
upto_parted : (b : ℕ) (a rest : List ℕ) → upto b a ≡ length a → upto b (a ++ b ∷ rest) ≡ length a
upto_parted b a rest w =
    first_at b (a ++ b ∷ rest) (length a) (omega (arith, length-append a (b ∷ rest))) (get_or-append_seam a b rest 0)
    (λ k h e. other_before b a k (omega arith) (sym (get_or-append a (b ∷ rest) 0 k h) ∙ e))

-- so a text is cut at its first b in one way
pub same_parts : {b : ℕ} {t x y a rest : List ℕ} → PartedAt b t x y → PartedAt b t a rest → (x ≡ a) × (y ≡ rest)
same_parts {b} {t} {x} {y} {a} {rest} p q = (front x y p ∙ sym (front a rest q), back x y p ∙ sym (back a rest q))
  where
    front : (c more : List ℕ) → PartedAt b t c more → c ≡ take (upto b t) t
    front c more s = sym (take-append_seam c (b ∷ more)) ∙ ap (λ k. take k (c ++ b ∷ more)) (sym (upto_parted b c more s.lacks)) ∙ ap (λ z. take (upto b z) z) (sym s.whole)

    back : (c more : List ℕ) → PartedAt b t c more → more ≡ drop (upto b t + 1) t
    back c more s = sym (drop-append-add c (b ∷ more) 1) ∙ ap (λ k. drop (k + 1) (c ++ b ∷ more)) (sym (upto_parted b c more s.lacks)) ∙ ap (λ z. drop (upto b z + 1) z) (sym s.whole)

-- a text with a b somewhere has a first one
pub has_none : (b : ℕ) (a rest t : List ℕ) → t ≡ a ++ b ∷ rest → upto b t ≡ length t → ⊥
has_none b a rest t is none =
    other_before b t (length a) (omega (arith, ap length is, length-append a (b ∷ rest))) (ap (λ z. get_or z (length a) 0) is ∙ get_or-append_seam a b rest 0)

-- a text is parted at its last b in one way
pub last_is : (b : ℕ) (a rest c more : List ℕ) → a ++ b ∷ rest ≡ c ++ b ∷ more → upto b rest ≡ length rest → upto b more ≡ length more → (a ≡ c) × (rest ≡ more)
last_is b [] rest [] more is w v = (refl, ap (drop 1) is)
last_is b [] rest (y ∷ ys) more is w v = absurd (has_none b ys more rest (ap (drop 1) is) w)
last_is b (x ∷ xs) rest [] more is w v = absurd (has_none b xs rest more (sym (ap (drop 1) is)) v)
last_is b (x ∷ xs) rest (y ∷ ys) more is w v =
    let next = last_is b xs rest ys more (ap (drop 1) is) w v in
    let same : x ≡ y = ap (λ t. get_or t 0 0) is in ((λ i. same i ∷ next.0 i), next.1)

-- what stands behind the first line is shorter than the lines
pub behind_shorter : (t rest : List ℕ) → 0 < length t → rest ≡ behind 10 t → length rest < length t
behind_shorter t rest some is = omega (arith, ap length is, length-drop (upto 10 t + 1) t)

pub not_blank : (t : List ℕ) → 0 < length t → (get_or t 0 0 ≡ 35 → ⊥) → BlankLine t → ⊥
not_blank [] l other = λ _. absurd (omega arith)
not_blank (b ∷ t) l other = other
