-- What a row book that has kept its register answers, and that it keeps it.
use Rattle.std.proofs.Common.{◌≡◌, ℕ, ◌+◌, ◌*◌, ◌<◌, ◌≤◌, false, not, List, [], ◌∷◌, ◌++◌, map, length, get_or, Some, Ok, Err, Result, sym, refl, ap, ◌∙◌, subst, All, arith}
use Rattle.books.specs.Forms.{shape, shapes, lead, leads_in, FormsKnown}
use Rattle.books.specs.Law.{Past, Free, Turned}
use Rattle.books.specs.Leads.{Shape, Lead, shape_at, next_head, rows_of_lead, rows_of, new_lead, new_rows, added, Linked, NoRepeat}
use Rattle.books.specs.Opening.{Large}
use Rattle.books.specs.Ringing.{without, Holds, Enters}
use Rattle.books.specs.declared.fault.RingFault.{RingFault}
use Rattle.books.specs.declared.fault.RingFault.TheVariants.{Form as NoForm, Limit, Again, Register}
use Rattle.books.specs.declared.lead.Lead.{Lead as LeadValue}
use Rattle.books.proofs.Keeping.{again, holds_front, holds_more, never, none_again}
use Rattle.books.proofs.Linking.{Staged, known_rightly, lead_staged, linked_front, linked_last, linked_push, next_push, next_staged, new_few, rows_few, rows_push, rows_staged}
use Rattle.books.proofs.Repeating.{Rightly, lead_once, rows_added}
use Rattle.books.proofs.Sounding.{shape_long, shapes_on, shapes_short, shapes_sound}
use Rattle.forms.specs.Staged.{FormsOn}
use Rattle.forms.specs.declared.form.Form.{Form}
use Rattle.registers.specs.Entries.{Entry, Shelf, with_entries}
use Rattle.rows.specs.Rows.{rounds, times}
use Rattle.rows.specs.declared.row.Row.{Row}
use Rattle.std.proofs.lemmas.Bool.{not-false}
use Rattle.std.proofs.lemmas.Slice.Eq.{bytes_eq-Decides}
use Rattle.std.specs.Str.{bytes_eq}
use Rattle.std.proofs.lemmas.List.{get_or-map, length-append, length-map, length_push, map_push}
use Rattle.std.proofs.lemmas.List.Elements.{All-pop, All-push}

-- what is read from the list of forms has the shape that the law sees there
shape_read : (fs : List Form) (k : ℕ) (d : Form) → k < length fs → shape_at (shapes fs) k ≡ shape (get_or fs k d)
shape_read fs k d l = get_or-map shape fs k d _ l

-- a register holds the rows of these leads, and is large enough
abbrev pub Kept : ℕ → ℕ → List Shape → List Lead → Shelf → Type 0
Kept n limit forms leads s = Holds s.entries (rows_of forms leads) × Large n limit s

-- other entries make a register no smaller
pub large_stays : (n limit : ℕ) (s after : Shelf) (es : List Entry) → after ≡ with_entries es s → Large n limit s → Large n limit after
large_stays n limit s after es is large = subst (Large n limit) (sym is) large

-- entering the rows of a lead has kept the register, and its answer is the law's
abbrev pub Rung : ℕ → ℕ → List Shape → List Lead → ℕ → Result Unit RingFault → Shelf → Type 0
Rung n limit forms leads f (Ok _) after = Kept n limit forms (added forms leads f) after × Free forms limit leads f
Rung n limit forms leads f (Err e) after = Kept n limit forms leads after × Turned forms limit leads f e

module _ (n : ℕ) (fs : List Form) (ls : List LeadValue) (small : n ≤ 12) (staged : FormsOn n fs) (known : FormsKnown (length fs) ls) (linked : Linked (shapes fs) (leads_in ls)) where
  -- every lead has a form of the list and a row for its head
  rightly : All (Rightly (shapes fs)) (leads_in ls)
  rightly = known_rightly fs ls known

  -- no lead has more than 64 rows
  pub length_few : length (rows_of (shapes fs) (leads_in ls)) ≤ 64 * length ls
  length_few = omega (arith, rows_few n (shapes fs) (shapes_sound fs) (shapes_on n fs staged) (shapes_short fs) (leads_in ls) rightly, length-map ls lead)

  -- the rows of a new lead are entered: all are new, or the first that stands in the book is found
  pub rung_well : (limit p f : ℕ) (s after : Shelf) → p ≡ length (rows_of (shapes fs) (leads_in ls)) → Past (shapes fs) limit (leads_in ls) f → Kept n limit (shapes fs) (leads_in ls) s
      → (r : Result Unit RingFault) → Enters s p (new_rows (shapes fs) (leads_in ls) f) r after → Rung n limit (shapes fs) (leads_in ls) f r after
  rung_well limit p f s after next past kept = by
    where
      -- the next head is a row on the stage
      head : Staged n (next_head (shapes fs) (leads_in ls))
      head = next_staged n (shapes fs) (shapes_sound fs) (shapes_on n fs staged) (shapes_short fs) (leads_in ls) rightly linked

      -- and so are the rows of the book
      book_staged : All (Staged n) (rows_of (shapes fs) (leads_in ls))
      book_staged = rows_staged n (shapes fs) (shapes_sound fs) (shapes_on n fs staged) (shapes_short fs) (leads_in ls) rightly linked

      -- and the new rows
      new_staged : All (Staged n) (new_rows (shapes fs) (leads_in ls) f)
      new_staged = lead_staged n (shapes fs) (shapes_sound fs) (shapes_on n fs staged) (shapes_short fs) (next_head (shapes fs) (leads_in ls)) f head past.0

      -- no new row stands twice
      new_once : NoRepeat (new_rows (shapes fs) (leads_in ls) f)
      new_once = lead_once (shapes fs) (shapes_sound fs) (next_head (shapes fs) (leads_in ls)) f head.0 past.0

      -- there are at most 64 rows for each lead that the limit allows
      most : length (rows_of (shapes fs) (leads_in ls)) + length (new_rows (shapes fs) (leads_in ls) f) ≤ 64 * limit
      most = omega (arith, length_few, length-map ls lead, new_few n (shapes fs) (shapes_sound fs) (shapes_on n fs staged) (shapes_short fs) (leads_in ls) f past.0, past.1)

      -- by what was answered
      by : (r : Result Unit RingFault) → Enters s p (new_rows (shapes fs) (leads_in ls) f) r after → Rung n limit (shapes fs) (leads_in ls) f r after
      by (Ok u) h = (
        (
          subst (Holds after.entries) (sym (rows_added (shapes fs) (leads_in ls) f)) (holds_more n (rows_of (shapes fs) (leads_in ls)) (new_rows (shapes fs) (leads_in ls) f) s p small book_staged new_staged new_once kept.0 next after h.0 h.1),
          large_stays n limit s after _ h.0 kept.1,
        ),
        (past, none_again n (rows_of (shapes fs) (leads_in ls)) (new_rows (shapes fs) (leads_in ls) f) s p small book_staged new_staged new_once kept.0 next h.1),
      )
      by (Err NoForm) h = absurd h
      by (Err Limit) h = absurd h
      by (Err (Again i j)) h = (
        subst (Kept n limit (shapes fs) (leads_in ls)) (sym h.0) kept,
        (past, again n (rows_of (shapes fs) (leads_in ls)) (new_rows (shapes fs) (leads_in ls) f) s p small book_staged new_staged new_once kept.0 next i j h.1.0 h.1.1 h.1.2 h.1.3 h.1.4),
      )
      by (Err (Register e)) h =
          absurd (never n (rows_of (shapes fs) (leads_in ls)) (new_rows (shapes fs) (leads_in ls) f) s p small book_staged new_staged new_once kept.0 next limit h.1.0 e kept.1 most h.1.1 h.1.3 h.1.2)

-- the rows of the last lead are taken back, so that the register holds those of the others
taken_well : (n limit : ℕ) (forms : List Shape) (ls : List Lead) (l : Lead) (s after : Shelf) (number : ℕ) → number ≡ length (shape_at forms l.form).rows → after ≡ without number s
    → Kept n limit forms (ls ++ l ∷ []) s → Kept n limit forms ls after
taken_well n limit forms ls l s after number e is kept = (
  holds_front s after (rows_of forms ls) (rows_of_lead forms l) number (e ∙ sym (length-map (shape_at forms l.form).rows (times l.head))) is (subst (Holds s.entries) (rows_push forms ls l) kept.0),
  large_stays n limit s after _ is kept.1,
)

-- rows that passed the test for equality are both rounds where one is
pub came_round : (a b h : List ℕ) → false ≡ not (bytes_eq a b) → a ≡ h → b ≡ rounds 12 → h ≡ rounds 12
came_round a b h e is round = sym is ∙ (bytes_eq-Decides a b).0 (not-false (bytes_eq a b) (sym e)) ∙ round

-- as many leads as the vector has elements
pub leads_long : (ls : List LeadValue) (n : ℕ) → n ≡ length ls → n ≡ length (leads_in ls)
leads_long ls n e = e ∙ sym (length-map ls lead)

-- the leads without the last, as the book and its register have them
pub record Without (fs : List Form) (ls after : List LeadValue) (l : LeadValue) (d : Form) : Type 0 where
  pub leads : leads_in ls ≡ leads_in after ++ lead l ∷ []
  pub known : FormsKnown (length fs) after
  pub linked : Linked (shapes fs) (leads_in after)
  -- its head comes next again
  pub next : l.head.bells ≡ next_head (shapes fs) (leads_in after)
  pub fewer : length ls ≡ length after + 1
  pub shorter : length (rows_of (shapes fs) (leads_in ls)) ≡ length (rows_of (shapes fs) (leads_in after)) + (get_or fs l.form d).changes.count
  pub kept : (n limit : ℕ) (s s' : Shelf) → s' ≡ without (get_or fs l.form d).changes.count s → Kept n limit (shapes fs) (leads_in ls) s → Kept n limit (shapes fs) (leads_in after) s'

module _ (fs : List Form) (ls after front : List LeadValue) (l : LeadValue) (d : Form) (is : ls ≡ front ++ l ∷ []) (left : after ≡ front) (known : FormsKnown (length fs) ls) (linked : Linked (shapes fs) (leads_in ls)) where
  -- the last lead's form is in the list
  last_form : l.form < length fs
  last_form = (All-pop (λ (x : LeadValue). x.form < length fs) ls front (Some l) is known).1

  -- the leads as the law sees them end with the last one
  leads_last : leads_in ls ≡ leads_in after ++ lead l ∷ []
  leads_last = ap leads_in is ∙ map_push lead front l ∙ ap (λ x. leads_in x ++ lead l ∷ []) (sym left)

  -- its rows are as many as its form has changes
  last_long : (get_or fs l.form d).changes.count ≡ length (shape_at (shapes fs) l.form).rows
  last_long = sym (shape_long (get_or fs l.form d)) ∙ ap (λ (s : Shape). length s.rows) (sym (shape_read fs l.form d last_form))

  -- a lead and its rows stand behind those of the others, so that they go alone
  pub last_gone : Without fs ls after l d
  last_gone = record {
    leads = leads_last;
    known = subst (FormsKnown (length fs)) (sym left) (All-pop (λ (x : LeadValue). x.form < length fs) ls front (Some l) is known).0;
    linked = linked_front (shapes fs) (leads_in after) (lead l) (subst (Linked (shapes fs)) leads_last linked);
    next = linked_last (shapes fs) (leads_in after) (lead l) (subst (Linked (shapes fs)) leads_last linked);
    fewer = ap length is ∙ length_push front l ∙ ap (λ x. length x + 1) (sym left);
    shorter = ap (λ x. length (rows_of (shapes fs) x)) leads_last ∙ (ap length (rows_push (shapes fs) (leads_in after) (lead l)) ∙ (length-append (rows_of (shapes fs) (leads_in after)) (rows_of_lead (shapes fs) (lead l))
        ∙ ap (λ k. length (rows_of (shapes fs) (leads_in after)) + k) (length-map (shape_at (shapes fs) l.form).rows (times l.head.bells) ∙ sym last_long)));
    kept = λ n limit s s' e kept. taken_well n limit (shapes fs) (leads_in after) (lead l) s s' (get_or fs l.form d).changes.count last_long e (subst (λ x. Kept n limit (shapes fs) x s) leads_last kept);
  }

-- the leads with one more, as the book has them
pub record With (fs : List Form) (ls after : List LeadValue) (f : ℕ) (head : Row) (rung : Form) : Type 0 where
  pub leads : leads_in after ≡ added (shapes fs) (leads_in ls) f
  pub known : FormsKnown (length fs) after
  pub linked : Linked (shapes fs) (leads_in after)
  -- head × turn comes next
  pub next : times head.bells (shape rung).turn ≡ next_head (shapes fs) (leads_in after)
  pub more : length after ≡ length ls + 1
  pub longer : length (rows_of (shapes fs) (leads_in after)) ≡ length (rows_of (shapes fs) (leads_in ls)) + length (shape rung).rows

module _ (fs : List Form) (ls : List LeadValue) (f : ℕ) (head : Row) (rung : Form) (l : f < length fs) (is : rung ≡ get_or fs f rung) (next : head.bells ≡ next_head (shapes fs) (leads_in ls)) where
  -- the form that is read is the one that the law sees
  shape_rung : shape_at (shapes fs) f ≡ shape rung
  shape_rung = shape_read fs f rung l ∙ ap shape (sym is)

  -- so the rows that are entered are the new rows
  pub rows_rung : map (times head.bells) (shape rung).rows ≡ new_rows (shapes fs) (leads_in ls) f
  rows_rung = ap (λ h. map (times h) (shape rung).rows) next ∙ ap (λ (s : Shape). map (times (next_head (shapes fs) (leads_in ls))) s.rows) (sym shape_rung)

  -- a lead of this form with the next head is the lead that the law adds
  pub with : (after : List LeadValue) → after ≡ ls ++ record { form = f; head = head } ∷ [] → FormsKnown (length fs) ls → Linked (shapes fs) (leads_in ls) → With fs ls after f head rung
  with after stands known linked =
      let leads : leads_in after ≡ added (shapes fs) (leads_in ls) f = ap leads_in stands ∙ map_push lead ls (record { form = f; head = head }) ∙ ap (λ (h : List ℕ). leads_in ls ++ record { form = f; head = h } ∷ []) next in
      record {
        leads = leads;
        known = subst (FormsKnown (length fs)) (sym stands) (All-push (λ (x : LeadValue). x.form < length fs) ls (record { form = f; head = head }) known l);
        linked = subst (Linked (shapes fs)) (sym leads) (linked_push (shapes fs) (leads_in ls) (new_lead (shapes fs) (leads_in ls) f) linked refl);
        next = ap (λ h. times h (shape rung).turn) next ∙ ap (λ (s : Shape). times (next_head (shapes fs) (leads_in ls)) s.turn) (sym shape_rung)
            ∙ sym (next_push (shapes fs) (leads_in ls) (new_lead (shapes fs) (leads_in ls) f)) ∙ ap (next_head (shapes fs)) (sym leads);
        more = ap length stands ∙ length_push ls (record { form = f; head = head });
        longer = ap (λ x. length (rows_of (shapes fs) x)) leads ∙ (ap length (rows_added (shapes fs) (leads_in ls) f) ∙ (length-append (rows_of (shapes fs) (leads_in ls)) (new_rows (shapes fs) (leads_in ls) f)
            ∙ ap (λ k. length (rows_of (shapes fs) (leads_in ls)) + k) (length-map (shape_at (shapes fs) f).rows (times (next_head (shapes fs) (leads_in ls))) ∙ ap (λ (s : Shape). length s.rows) shape_rung)));
      }

-- a form of the list, and fewer leads than the limit
pub past_checks : (fs : List Form) (ls : List LeadValue) (f limit : ℕ) → f < length fs → length ls < limit → Past (shapes fs) limit (leads_in ls) f
past_checks fs ls f limit l h = (let e = length-map fs shape in omega arith, let e = length-map ls lead in omega arith)

-- what a ring answers after entering the rows of the form that was read, by the answer of the register
pub law_of_ring : (n limit p f : ℕ) (fs : List Form) (ls : List LeadValue) (head : Row) (rung : Form) (s after : Shelf) → n ≤ 12 → FormsOn n fs → FormsKnown (length fs) ls → Linked (shapes fs) (leads_in ls)
    → f < length fs → rung ≡ get_or fs f rung → head.bells ≡ next_head (shapes fs) (leads_in ls) → length ls < limit → p ≡ length (rows_of (shapes fs) (leads_in ls))
    → (r : Result Unit RingFault) → Enters s p (map (times head.bells) (shape rung).rows) r after → Kept n limit (shapes fs) (leads_in ls) s → Rung n limit (shapes fs) (leads_in ls) f r after
law_of_ring n limit p f fs ls head rung s after small staged known linked l is next few long r h kept =
    rung_well n fs ls small staged known linked limit p f s after long (past_checks fs ls f limit l few) kept r (subst (λ new. Enters s p new r after) (rows_rung fs ls f head rung l is next) h)
