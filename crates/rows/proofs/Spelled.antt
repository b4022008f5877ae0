-- A row and its text lead back to each other.
use Rattle.std.proofs.Common.{◌≡◌, ℕ, zero, suc, ◌+◌, ◌-◌, ◌<◌, ◌≤◌, List, [], ◌∷◌, map, length, get_or, take, Ok, Err, Result, MatchResult, sym, refl, ap, ◌∙◌, subst, ⊎_elim, arith}
use Rattle.rows.proofs.Members.{member}
use Rattle.rows.specs.Rows.{RowOf, On}
use Rattle.rows.specs.Text.{named, character, spelled}
use Rattle.std.proofs.lemmas.List.{ext_get_or, get_or-map, get_or-take, length-map, length-take-le, take-map}
use Rattle.std.proofs.lemmas.Str.{IsUtf8-from_ascii}
use Rattle.std.specs.Result.{IsOk}
use Rattle.std.specs.Str.{IsAscii, IsUtf8}
use Rattle.std.proofs.lemmas.Bool.{cases_lt}
use Rattle.std.proofs.lemmas.Bool.Decides.{nat_tests}

pub named_character : (v : ℕ) → 1 ≤ v → v ≤ 12 → named (character v) ≡ v
named_character v lo hi = grind (arith, nat_tests)

pub character_named : (b : ℕ) → 1 ≤ named b → character (named b) ≡ b
character_named b h = grind (arith, nat_tests)

character_small : (v : ℕ) → character v < 128
character_small v = grind (arith, nat_tests)

characters_ascii : (a : List ℕ) → IsAscii (map character a)
characters_ascii [] i = omega arith
characters_ascii (x ∷ xs) zero = character_small x
characters_ascii (x ∷ xs) (suc i) = characters_ascii xs i

-- the first n characters of a row are a text, since each is one byte of ASCII
pub spelled_utf8 : (n : ℕ) (a : List ℕ) → IsUtf8 (take n (map character a))
spelled_utf8 n a = IsUtf8-from_ascii _ (subst IsAscii (sym (take-map character n a)) (characters_ascii (take n a)))

-- an answer that can be no error is a value
pub no_error : {T E : Type 0} (r : Result T E) (P : T → Type 0) (Q : E → Type 0) → ((e : E) → Q e → ⊥) → MatchResult r P Q → IsOk r
no_error (Ok x) P Q never m = refl
no_error (Err e) P Q never m = absurd (never e m)

-- the bells that a text names on n bells, with the covers behind them
pub record Named (n : ℕ) (t a : List ℕ) : Type 0 where
  pub stage : n ≤ 12
  pub long : length t ≡ n
  pub twelve : length a ≡ 12
  pub rung : (k : ℕ) → k < n → get_or a k 0 ≡ named (get_or t k 0)
  pub covers : (k : ℕ) → n ≤ k → k < 12 → get_or a k 0 ≡ k + 1

module _ (n : ℕ) (x : List ℕ) (s : n ≤ 12) (l : length x ≡ 12) where
  spelled_long : length (spelled n x) ≡ n
  spelled_long = length-map (take n x) character ∙ length-take-le n x (omega arith)

  spelled_at : (k : ℕ) → k < n → get_or (spelled n x) k 0 ≡ character (get_or x k 0)
  spelled_at k h =
      get_or-map character (take n x) k 0 0 (let e = length-take-le n x (omega arith) in omega arith) ∙ ap character (get_or-take n x k 0 h)

  -- a text that spells a row on n bells has n characters
  pub spells_n : (t : List ℕ) → spelled n x ≡ t → length t ≡ n
  spells_n t e = ap length (sym e) ∙ spelled_long

-- and each of them names a bell
pub spells_named : (n : ℕ) (t x : List ℕ) → n ≤ 12 → RowOf 12 x → spelled n x ≡ t → (k : ℕ) → k < n → 1 ≤ named (get_or t k 0)
spells_named n t x s r e k h =
    let m = member 12 x r in
    let low = m.low k (omega arith) in
    let bell = named_character (get_or x k 0) low (m.high k (omega arith)) in
    let at = ap named (ap (λ y. get_or y k 0) (sym e) ∙ spelled_at n x s m.long k h) in
    omega arith

module _ (n : ℕ) (t a : List ℕ) (m : Named n t a) where
  pub named_on : On n a
  named_on p lo hi = m.covers (p - 1) (omega arith) (omega arith) ∙ omega arith

  -- where the bells are a row, each byte names a bell, and so is its character
  pub named_spells : RowOf 12 a → spelled n a ≡ t
  named_spells r =
      ext_get_or 0 (spelled n a) t (spelled_long n a m.stage m.twelve ∙ sym m.long) (λ k l.
      let h : k < n = omega (arith, spelled_long n a m.stage m.twelve) in
      let low : 1 ≤ named (get_or t k 0) = subst (λ v. 1 ≤ v) (m.rung k h) ((member 12 a r).low k (let s = m.stage in omega arith)) in
      spelled_at n a m.stage m.twelve k h ∙ ap character (m.rung k h) ∙ character_named (get_or t k 0) low)

  -- a row that the text spells has the bells that it names
  pub spelled_only : (x : List ℕ) → RowOf 12 x → On n x → spelled n x ≡ t → x ≡ a
  spelled_only x r o e =
      let mx = member 12 x r in
      ext_get_or 0 x a (mx.long ∙ sym m.twelve) (λ k l.
      let k12 : k < 12 = omega (arith, mx.long) in
      ⊎_elim
      (λ h. sym (named_character (get_or x k 0) (mx.low k k12) (mx.high k k12)) ∙ ap named (sym (spelled_at n x m.stage mx.long k h) ∙ ap (λ s. get_or s k 0) e) ∙ sym (m.rung k h))
      (λ h.
      let back : k ≡ suc k - 1 = omega arith in
      ap (λ i. get_or x i 0) back ∙ (o (suc k) (omega arith) (omega arith) ∙ (let one : suc k ≡ k + 1 = omega arith in one)) ∙ sym (m.covers k h k12))
      (cases_lt k n))
