-- Rows with their places, and the rows of a lead as they are entered.
use Rattle.std.proofs.Common.{◌≡◌, ℕ, zero, suc, ◌+◌, ◌<◌, List, [], ◌∷◌, ◌++◌, map, length, get_or, take, sym, refl, ap, ◌∙◌, arith}
use Rattle.books.specs.Forms.{shape}
use Rattle.books.specs.Ringing.{placed}
use Rattle.forms.proofs.Leading.{rows_long}
use Rattle.forms.specs.Leads.{lead_rows}
use Rattle.forms.specs.Repeats.{bells_of}
use Rattle.forms.specs.declared.form.Form.{Form}
use Rattle.notation.proofs.Drafting.{listed_long}
use Rattle.notation.specs.Drafts.{listed}
use Rattle.rows.specs.Code.{code}
use Rattle.rows.specs.Rows.{rounds, times}
use Rattle.rows.specs.declared.row.Row.{Row}
use Rattle.std.proofs.lemmas.List.{get_or-map, length-map, length-take, take-map}

-- an entry for each row
pub placed_long : (p : ℕ) (xs : List (List ℕ)) → length (placed p xs) ≡ length xs
placed_long p [] = refl
placed_long p (x ∷ xs) = ap suc (placed_long (suc p) xs)

-- one row more takes the next place, as each row moves the place on by one
pub placed_more : (p : ℕ) (xs : List (List ℕ)) (j : ℕ) → j < length xs → placed p (take (suc j) xs) ≡ placed p (take j xs) ++ record { code = code (get_or xs j []); mark = p + j } ∷ []
placed_more p [] j l = absurd (omega arith)
placed_more p (x ∷ xs) zero l = let e : p ≡ p + 0 = omega arith in ap (λ k. record { code = code x; mark = k } ∷ []) e
placed_more p (x ∷ xs) (suc j) l =
    let e : suc p + j ≡ p + suc j = omega arith in
    ap (λ es. record { code = code x; mark = p } ∷ es) (placed_more (suc p) xs j (omega arith) ∙ ap (λ k. placed (suc p) (take j xs) ++ record { code = code (get_or xs j []); mark = k } ∷ []) e)

-- the rows of a shape are those of its form before the turn
shape_rows : (f : Form) (rows : List Row) → map bells_of rows ≡ lead_rows (listed f.changes) → (shape f).rows ≡ map bells_of (take f.changes.count rows)
shape_rows f rows e =
    let cs = listed f.changes in
    ap (take (length cs)) (sym e) ∙ take-map bells_of (length cs) rows ∙ ap (λ n. map bells_of (take n rows)) (listed_long f.changes)

-- there are so many, since the turn stands behind them
pub rows_enough : (f : Form) (rows : List Row) → map bells_of rows ≡ lead_rows (listed f.changes) → f.changes.count ≡ length (take f.changes.count rows)
rows_enough f rows e = omega (arith, length-take f.changes.count rows, ap length e, length-map rows bells_of, rows_long (listed f.changes) (rounds 12), listed_long f.changes)

-- a row that is read from the form gives the row of the lead at that place, as its head times it
pub lead_row : (f : Form) (head : List ℕ) (rows : List Row) (j : ℕ) (d : Row) (bells : List ℕ) → map bells_of rows ≡ lead_rows (listed f.changes)
    → j < length (take f.changes.count rows) → d ≡ get_or (take f.changes.count rows) j d → bells ≡ times head d.bells
    → (j < length (map (times head) (shape f).rows)) × (bells ≡ get_or (map (times head) (shape f).rows) j [])
lead_row f head rows j d bells e l read is =
    let front = take f.changes.count rows in
    rw (shape_rows f rows e) (
      omega (arith, length-map front bells_of, length-map (map bells_of front) (times head)),
      is ∙ ap (λ (r : Row). times head r.bells) read ∙ ap (times head) (sym (get_or-map bells_of front j d [] l)) ∙ sym (get_or-map (times head) (map bells_of front) j [] [] (omega (arith, length-map front bells_of))),
    )
