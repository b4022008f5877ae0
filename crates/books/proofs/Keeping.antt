-- What a register that holds the rows of a book tells of new rows that are entered in it.
use Rattle.std.proofs.Common.{◌≡◌, ℕ, zero, suc, ◌+◌, ◌-◌, ◌*◌, ◌<◌, ◌≤◌, min, true, eqb, List, [], ◌∷◌, ◌++◌, map, length, get_or, take, Some, None, Err, Option, sym, refl, ap, ◌∙◌, subst, ⊎_elim, All, arith}
use Rattle.books.specs.Leads.{StandsAt, Among, Shares, NoRepeat, FirstAgain}
use Rattle.books.specs.Opening.{Large}
use Rattle.books.specs.Ringing.{placed, with_placed, without, Holds, Absent}
use Rattle.books.proofs.Placing.{placed_long}
use Rattle.books.proofs.Linking.{Staged}
use Rattle.books.proofs.Pigeonhole.{pigeonhole}
use Rattle.books.proofs.Repeating.{front, behind}
use Rattle.registers.proofs.Entries.{enters_held, enters_added}
use Rattle.registers.specs.Entries.{Entry, Shelf, marked, entering}
use Rattle.registers.specs.declared.fault.RegisterFault.{RegisterFault}
use Rattle.rows.proofs.Codes.{code_small}
use Rattle.rows.proofs.Digits.{row_only}
use Rattle.rows.specs.Code.{code, fact}
use Rattle.std.proofs.lemmas.List.Elements.{All-append, All-get_or, All-take}
use Rattle.std.proofs.lemmas.List.{get_or_append_left, get_or-append_right, get_or-map, get_or-take, length-append, length-map, length-take-le, take_at}
use Rattle.std.proofs.lemmas.Bool.{cases_Bool, cases_lt, eq-eqb, eqb-true}

-- the places go on where the first rows end
placed_append : (k : ℕ) (xs ys : List (List ℕ)) → placed k (xs ++ ys) ≡ placed k xs ++ placed (k + length xs) ys
placed_append k [] ys = let e : k ≡ k + 0 = omega arith in ap (λ m. placed m ys) e
placed_append k (x ∷ xs) ys =
    let e : suc k + length xs ≡ k + suc (length xs) = omega arith in
    ap (λ (r : List Entry). record { code = code x; mark = k } ∷ r) (placed_append (suc k) xs ys ∙ ap (λ m. placed (suc k) xs ++ placed m ys) e)

-- what was found is not missing
some_none : (m : ℕ) → Some m ≡ None → ⊥
some_none m h = cc

-- a row that stands among others has its code among theirs
absent : (k : ℕ) (xs : List (List ℕ)) (x : List ℕ) → marked (code x) (placed k xs) ≡ None → (j : ℕ) → j < length xs → get_or xs j [] ≡ x → ⊥
absent k [] x h j l e = omega arith
absent k (y ∷ ys) x h zero l e = some_none k (let t : eqb (code y) (code x) ≡ true = eq-eqb (code y) (code x) (ap code e) in rw t at h)
absent k (y ∷ ys) x h (suc j) l e = ⊎_elim (λ t. some_none k (rw t at h)) (λ f. absent (suc k) ys x (rw f at h) j (omega arith) e) (cases_Bool (eqb (code y) (code x)))

-- the mark of a code is the place of a row with that code
found : (k : ℕ) (xs : List (List ℕ)) (c m : ℕ) → marked c (placed k xs) ≡ Some m → (j : ℕ) × (j < length xs) × (m ≡ k + j) × (code (get_or xs j []) ≡ c)
found k [] c m h = absurd (some_none m (sym h))
found k (x ∷ xs) c m h =
    ⊎_elim (λ t. (0, omega arith, (let e : Some k ≡ Some m = rw t at h in let f : k ≡ m = cc in omega arith), eqb-true (code x) c t))
    (λ f. let there = found (suc k) xs c m (rw f at h) in (suc there.0, omega (arith, there.1), omega (arith, there.2), there.3))
    (cases_Bool (eqb (code x) c))

-- what is smaller than two numbers is smaller than the lesser
below_min : (x a b c : ℕ) → x < a → x < b → min a b ≤ c → x < c
below_min x a b c l m h = omega arith

-- a front has no row twice
once_take : (k : ℕ) (xs : List (List ℕ)) → k ≤ length xs → NoRepeat xs → NoRepeat (take k xs)
once_take k xs h once i j l m e =
    let long : length (take k xs) ≡ k = length-take-le k xs h in
    once i j l (omega arith) (sym (get_or-take k xs i [] (omega arith)) ∙ e ∙ get_or-take k xs j [] (omega arith))

-- rows on the stage, none of them twice, are at most n!: their codes lie below n! and differ
rows_most : (n : ℕ) (xs : List (List ℕ)) → n ≤ 12 → All (Staged n) xs → NoRepeat xs → length xs ≤ fact n
rows_most n xs small staged once =
    let at : (i : ℕ) → i < length xs → get_or (map code xs) i 0 ≡ code (get_or xs i []) = λ i l. get_or-map code xs i [] 0 l in
    let long : length (map code xs) ≡ length xs = length-map xs code in
    let each : (i : ℕ) → i < length xs → Staged n (get_or xs i []) = λ i l. All-get_or (Staged n) xs i [] l staged in
    let most : length (map code xs) ≤ fact n =
    pigeonhole (fact n) (map code xs)
    (λ i l. let k : i < length xs = omega arith in let s = each i k in omega (arith, at i k, code_small n (get_or xs i []) s.0 s.1 small))
    (λ i j l m e.
    let kj : j < length xs = omega arith in
    let ki : i < length xs = omega arith in
    once i j l kj (row_only 12 (get_or xs i []) (get_or xs j []) (each i ki).0 (each j kj).0 (sym (at i ki) ∙ e ∙ at j kj))) in
    omega arith

module _ (n : ℕ) (book new : List (List ℕ)) (s : Shelf) (p : ℕ) (small : n ≤ 12) (book_staged : All (Staged n) book) (new_staged : All (Staged n) new) (new_once : NoRepeat new) (holds : Holds s.entries book) (next : p ≡ length book) where
  -- the entries stand for the rows of the book and the new rows so far
  so_far : (xs : List (List ℕ)) → s.entries ++ placed p xs ≡ placed 0 (book ++ xs)
  so_far xs = ap (λ l. l ++ placed p xs) holds.0 ∙ ap (λ m. placed 0 book ++ placed m xs) (let e : p ≡ 0 + length book = omega arith in e) ∙ sym (placed_append 0 book xs)

  -- a new row that is absent is not in the book
  not_there : (k : ℕ) → marked (code (get_or new k [])) (s.entries ++ placed p (take k new)) ≡ None → Among book (get_or new k []) → ⊥
  not_there k h a =
      let j : ℕ = a.0 in
      let l : j < length book = a.1.0 in
      absent 0 (book ++ take k new) (get_or new k []) (ap (marked (code (get_or new k []))) (sym (so_far (take k new))) ∙ h) j
      (omega (arith, length-append book (take k new))) (get_or_append_left book (take k new) [] j l ∙ a.1.1)

  -- where each of the first new rows was absent, none of them is in the book
  none_shared : (k : ℕ) → k ≤ length new → Absent s.entries p new k → Shares book (take k new) → ⊥
  none_shared k l h s =
      let long : length (take k new) ≡ k = length-take-le k new l in
      let i : ℕ = s.0 in
      let li : i < k = omega (arith, s.1) in
      not_there i (h i li) (subst (Among book) (get_or-take k new i [] li) s.2)

  -- all new rows were absent
  pub none_again : Absent s.entries p new (length new) → Shares book new → ⊥
  none_again h s = not_there s.0 (h s.0 s.1) s.2

  -- the register then holds the rows of the book and the new rows
  pub holds_more : (after : Shelf) → after ≡ with_placed p new s → Absent s.entries p new (length new) → Holds after.entries (book ++ new)
  holds_more after e h = (ap (λ (t : Shelf). t.entries) e ∙ so_far new, behind book new holds.1 new_once (none_again h))

  -- a new row at an index is a row on the stage
  new_at : (k : ℕ) → k < length new → Staged n (get_or new k [])
  new_at k l = All-get_or (Staged n) new k [] l new_staged

  -- a new row that was found stands in the book: two new rows differ, and a row is the only one with its code
  pub again : (i j k : ℕ) → k < length new → i ≡ p + k → marked (code (get_or new k [])) (s.entries ++ placed p (take k new)) ≡ Some j → Absent s.entries p new k → FirstAgain book new i j
  again i j k l e h none =
      let x = get_or new k [] in
      let all = book ++ take k new in
      let there = found 0 all (code x) j (ap (marked (code x)) (sym (so_far (take k new))) ∙ h) in
      let at : ℕ = there.0 in
      let la : at < length all = there.1 in
      let is : at ≡ j = omega (arith, there.2) in
      let long : length (take k new) ≡ k = length-take-le k new (omega arith) in
      let staged : All (Staged n) all = All-append (Staged n) book (take k new) book_staged (All-take (Staged n) k new new_staged) in
      let same : get_or all at [] ≡ x = row_only 12 (get_or all at []) x (All-get_or (Staged n) all at [] la staged).0 (new_at k l).0 there.3 in
      record {
        k = k;
        within = l;
        place = omega arith;
        stands = ⊎_elim
            (λ b. subst (λ m. StandsAt book m x) is (b, sym (get_or_append_left book (take k new) [] at b) ∙ same))
            (λ b.
            let lk : at - length book < k = omega (arith, length-append book (take k new)) in
            absurd (new_once (at - length book) k lk l (sym (get_or-take k new (at - length book) [] lk) ∙ sym (get_or-append_right book (take k new) (length book) at [] refl b) ∙ same)))
            (cases_lt at (length book));
        first = λ d m a. not_there d (none d m) a;
      }

  -- a register that reaches every row, and has room for all or for as many as the leads can have, takes every new row
  pub never : (limit k : ℕ) (e : RegisterFault) → Large n limit s → length book + length new ≤ 64 * limit → k < length new
      → Absent s.entries p new k → entering (with_placed p (take k new) s) (code (get_or new k [])) ≡ Err e → ⊥
  never limit k e large fits l none h = by (marked (code (get_or new k [])) (s.entries ++ placed p (take k new))) refl
    where
      -- the code of a row on the stage is below n!
      low : code (get_or new k []) < s.reach
      low = let t = new_at k l in omega (arith, large.0, code_small n (get_or new k []) t.0 t.1 small)

      -- as many entries as rows so far
      long : length (s.entries ++ placed p (take k new)) ≡ length book + k
      long = ap length (so_far (take k new)) ∙ (placed_long 0 (book ++ take k new) ∙ (length-append book (take k new) ∙ ap (λ m. length book + m) (length-take-le k new (omega arith))))

      -- the rows so far and this one are different rows on the stage
      few : marked (code (get_or new k [])) (s.entries ++ placed p (take k new)) ≡ None → length book + k < fact n
      few f =
          let front_long : length (take (suc k) new) ≡ suc k = length-take-le (suc k) new (omega arith) in
          let absent_more : Absent s.entries p new (suc k) = λ i m. ⊎_elim (λ b. none i b) (λ b. let t : k ≡ i = omega arith in subst (λ d. marked (code (get_or new d [])) (s.entries ++ placed p (take d new)) ≡ None) t f) (cases_lt i k) in
          let most = rows_most n (book ++ take (suc k) new) small (All-append (Staged n) book (take (suc k) new) book_staged (All-take (Staged n) (suc k) new new_staged))
          (behind book (take (suc k) new) holds.1 (once_take (suc k) new (omega arith) new_once) (none_shared (suc k) (omega arith) absent_more)) in
          omega (arith, length-append book (take (suc k) new))

      -- the row is held, or there is room for it
      by : (o : Option ℕ) → marked (code (get_or new k [])) (s.entries ++ placed p (take k new)) ≡ o → ⊥
      by (Some m) f =
          let t = sym (enters_held (with_placed p (take k new) s) (code (get_or new k [])) m low f) ∙ h in
          cc
      by None f =
          let t = sym (enters_added (with_placed p (take k new) s) (code (get_or new k [])) low f (let b = few f in omega (arith, long, below_min (length book + k) (fact n) (64 * limit) s.capacity b (omega arith) large.1))) ∙ h in
          cc

-- without the entries of its last rows a register holds the others
pub holds_front : (s after : Shelf) (rows last : List (List ℕ)) (number : ℕ) → number ≡ length last → after ≡ without number s → Holds s.entries (rows ++ last) → Holds after.entries rows
holds_front s after rows last number e is holds =
    let split : s.entries ≡ placed 0 rows ++ placed (0 + length rows) last = holds.0 ∙ placed_append 0 rows last in
    let long : length s.entries ≡ length rows + length last = ap length holds.0 ∙ (placed_long 0 (rows ++ last) ∙ length-append rows last) in
    (ap (λ (t : Shelf). t.entries) is ∙ ap (take (length s.entries - number)) split ∙ take_at (placed 0 rows) (placed (0 + length rows) last) (length s.entries - number) (omega (arith, placed_long 0 rows)), front rows last holds.1)
