-- The theorems for specs/Lines01, a theorem for each statement.
--   LineCaseOf d l line k — the case of the refusal k of a line, or of acceptance (0);  stated_case — what is stated has it
use mathlib.Core.Bool.{true, false}
use mathlib.Core.List.{List, [], ◌∷◌}
use mathlib.Core.Logic.{◌⊎◌, inl, inr}
use mathlib.Core.Path.{◌≡◌, refl, sym, ap, subst, ◌∙◌}
use Prim.Native.Nat.{ℕ, ◌≤◌, ◌<◌}
use native.Mathlib.Numerals.{unary_clauses}
use native.Mathlib.Omega.{arith}
use borrow.Author.Tests.{ltb-true, lt-ltb}
use lib.Dec.{eqb}
use lib.ListN.{get_or, length}
use Rattle.integer.proofs.Search.{clash}
use Rattle.line_form.specs.Form.{Form, problem, scale, row, right, right_within, guess, inverse, weight, end}
use Rattle.line_form.specs.Spelling.{spell}
use Rattle.line_form.proofs.Printable.{spell_some, spell_no_feed}
use Rattle.line_form.proofs.Spelling.{spelled_read}
use Rattle.loader_values.specs.Item.{item_of, placed, outside, miscounted}
use Rattle.loader_values.specs.declared.Part.{Part}
use Rattle.loader_values.specs.declared.Part.TheVariants.{Row, Right, Guess, Inverse}
use Rattle.loader_bit_set.specs.Places.{lacking}
use Rattle.loader_bit_set.proofs.Places.{lacking-≤}
use Rattle.loader_lists.specs.Lists.{Lists, short_lists}
use Rattle.loader_progress.specs.Progress.{missing, set_of, ended, early, repeated, incomplete}
use Rattle.loader_order.proofs.CodeLaws.{count_13}
use Rattle.rules.specs.Refusal.{code}
use Rattle.loader.specs.Answer.{case_of, line_answer}
use Rattle.loader.specs.Taken.{TakenAs, fresh}
use Rattle.loader.specs.declared.Loader.{Loader}
use Rattle.loader.specs.declared.Taken.{Taken}
use Rattle.loader.proofs.Accepted.{accepted_form}
use Rattle.loader_runs.specs.Run.{State, forms}
use Rattle.loader_runs.specs.Accepts.{Made}
use Rattle.file_shape.specs.Given.{GivenBy}
use Rattle.file_shape.proofs.Stage.{given_by}
use Rattle.loader_stated.specs.Stated as stated
use Rattle.loader_stated.specs.Stated.{Formed, Unrepeated, LineStated}
use Rattle.promises.specs.Lines01.{InTime, not_given}
use Rattle.promises.specs.Lines01 as line
use Rattle.promises.proofs.Cases01.{Case}
use Rattle.promises.proofs.Demands.{line_refuses_as_stated}
use Rattle.promises.proofs.Places.{took, own_places, other_places_kept, taken_run}

abbrev LineCaseOf : Loader → Lists → List ℕ → ℕ → Type 0
LineCaseOf d l line k =
    Case (eqb k 8) (short_lists l ≡ true)
    (Case (eqb k 14) ((short_lists l ≡ false) × (ended d.stage ≡ true))
    (Case (eqb k 1) ((short_lists l ≡ false) × ((ended d.stage ≡ false) × (320 < length line)))
    (Case (eqb k 2) ((short_lists l ≡ false) × ((ended d.stage ≡ false) × ((length line ≤ 320) × ((f : Form) → line ≡ spell f → ⊥))))
    (Case (eqb k 11) ((f : Form) × (Formed d l line f × (early d.stage (item_of f) ≡ true)))
    (Case (eqb k 3) ((f : Form) × ((InTime d l line f × (placed d.n (item_of f) ≡ false)) ⊎ (Unrepeated d l line f × (outside f ≡ true))))
    (Case (eqb k 12) ((f : Form) × (InTime d l line f × ((placed d.n (item_of f) ≡ true) × (repeated d.stage d.sets (item_of f) ≡ true))))
    (Case (eqb k 4) ((f : Form) × (Unrepeated d l line f × ((outside f ≡ false) × (miscounted d.n f ≡ true))))
    Unit)))))))

module _ (d : Loader) (l : Lists) (line : List ℕ) where
  stated_case : {w : List ℕ} → LineStated d l line w → LineCaseOf d l line (get_or w 0 0)
  stated_case (stated.too_short a) = a
  stated_case (stated.after_end a b) = (a, b)
  stated_case (stated.too_long a b c) = (a, (b, c))
  stated_case (stated.no_form a b c n) = (a, (b, (c, n)))
  stated_case (stated.too_early f h e) = (f, (h, e))
  stated_case (stated.i_outside f h t p) = (f, inl (record { formed = h; timely = t }, p))
  stated_case (stated.again f h t p r) = (f, (record { formed = h; timely = t }, (p, r)))
  stated_case (stated.value_outside f u o) = (f, inr (u, o))
  stated_case (stated.wrong_count f u o m) = (f, (u, (o, m)))
  stated_case (stated.forms_missing f u o m i) = tt
  stated_case (stated.accepted f u o m i) = tt

module _ (d : Loader) (line : List ℕ) (l : Lists) (r : Taken) (l' : Lists) (x : TakenAs d line l r l') (m : Made d) where
  case_of_lem : {w : List ℕ} → code r.outcome ≡ w → LineCaseOf d l line (get_or w 0 0)
  case_of_lem {w} e = stated_case d l line ((line_refuses_as_stated d line l r l' x m w).0 e)

  code_as : {w : List ℕ} → LineStated d l line w → code r.outcome ≡ w
  code_as {w} y = (line_refuses_as_stated d line l r l' x m w).1 y

pub long_line_is_1 : line.LongLineIs1
long_line_is_1 d line l r l' x m = (case_of_lem d line l r l' x m, λ c. code_as d line l r l' x m (stated.too_long c.0 c.1.0 c.1.1))

pub no_form_is_2 : line.NoFormIs2
no_form_is_2 d line l r l' x m = (case_of_lem d line l r l' x m, λ c. code_as d line l r l' x m (stated.no_form c.0 c.1.0 c.1.1.0 c.1.1.1))

pub no_form_is_empty : line.NoFormIsEmpty
no_form_is_empty f e = let h = spell_some f in omega (arith, h, ap (λ (s : List ℕ). length s) e)

pub no_form_has_feed : line.NoFormHasFeed
no_form_has_feed = spell_no_feed

pub outside_is_3 : line.OutsideIs3
outside_is_3 d line l r l' x m = (case_of_lem d line l r l' x m, λ c. code_as d line l r l' x m (go c.0 c.1))
  where
    go : (f : Form) → (InTime d l line f × (placed d.n (item_of f) ≡ false)) ⊎ (Unrepeated d l line f × (outside f ≡ true)) → LineStated d l line (3 ∷ [])
    go f (inl h) = stated.i_outside f h.0.formed h.0.timely h.1
    go f (inr h) = stated.value_outside f h.0 h.1

pub wrong_count_is_4 : line.WrongCountIs4
wrong_count_is_4 d line l r l' x m = (case_of_lem d line l r l' x m, λ c. code_as d line l r l' x m (stated.wrong_count c.0 c.1.0 c.1.1.0 c.1.1.1))

pub short_line_is_8 : line.ShortLineIs8
short_line_is_8 d line l r l' x m = (case_of_lem d line l r l' x m, λ c. code_as d line l r l' x m (stated.too_short c))

pub early_is_11 : line.EarlyIs11
early_is_11 d line l r l' x m = (case_of_lem d line l r l' x m, λ c. code_as d line l r l' x m (stated.too_early c.0 c.1.0 c.1.1))

pub repeated_is_12 : line.RepeatedIs12
repeated_is_12 d line l r l' x m = (
  case_of_lem d line l r l' x m,
  λ c. code_as d line l r l' x m (stated.again c.0 c.1.0.formed c.1.0.timely c.1.1.0 c.1.1.1),
)

pub missing_is_13 : line.MissingIs13
unfolding line_answer missing lacking
missing_is_13 d line l r l' x k e =
    let c = count_13 (case_of d l line) (sym x.says ∙ e) in
    let same : (p : Part) → lacking (set_of d.sets p) d.n ≡ not_given d.n d.sets p = λ p. simp unary_clauses refl in
    let most : (p : Part) → lacking (set_of d.sets p) d.n ≤ d.n = λ p. lacking-≤ (set_of d.sets p) d.n in
    (omega (arith, c, same Row, same Right, same Guess, same Inverse), omega (arith, c, most Row, most Right, most Guess, most Inverse))

-- only an end can have forms outstanding
is_end : (n : ℕ) (z : List ℕ) (f : Form) → incomplete n z (item_of f) ≡ true → (f ≡ end) × (0 < missing n z)
is_end n z (problem m) e = clash false e refl
is_end n z (scale s t) e = clash false e refl
is_end n z (row i a others) e = clash false e refl
is_end n z (right i b) e = clash false e refl
is_end n z (right_within i b d) e = clash false e refl
is_end n z (guess i x) e = clash false e refl
is_end n z (inverse i g others) e = clash false e refl
is_end n z (weight i w) e = clash false e refl
is_end n z end e = (refl, ltb-true 0 (missing n z) e)

outstanding : (d : Loader) (l : Lists) (line : List ℕ) (k : ℕ) {w : List ℕ} → LineStated d l line w → w ≡ 13 ∷ k ∷ [] →
    Unrepeated d l line end × (0 < missing d.n d.sets) × (k ≡ missing d.n d.sets)
outstanding d l line k (stated.forms_missing f u o m i) e =
    let x = is_end d.n d.sets f i in
    (subst (λ (g : Form). Unrepeated d l line g) x.0 u, x.1, sym (ap (λ (v : List ℕ). get_or v 1 0) e))
outstanding d l line k (stated.too_short a) e = let z : ◌≡◌ {A = ℕ} 8 13 = cc in absurd (omega (arith, z))
outstanding d l line k (stated.after_end a b) e = let z : ◌≡◌ {A = ℕ} 14 13 = cc in absurd (omega (arith, z))
outstanding d l line k (stated.too_long a b c) e = let z : ◌≡◌ {A = ℕ} 1 13 = cc in absurd (omega (arith, z))
outstanding d l line k (stated.no_form a b c n) e = let z : ◌≡◌ {A = ℕ} 2 13 = cc in absurd (omega (arith, z))
outstanding d l line k (stated.too_early f h t) e = let z : ◌≡◌ {A = ℕ} 11 13 = cc in absurd (omega (arith, z))
outstanding d l line k (stated.i_outside f h t p) e = let z : ◌≡◌ {A = ℕ} 3 13 = cc in absurd (omega (arith, z))
outstanding d l line k (stated.again f h t p r) e = let z : ◌≡◌ {A = ℕ} 12 13 = cc in absurd (omega (arith, z))
outstanding d l line k (stated.value_outside f u o) e = let z : ◌≡◌ {A = ℕ} 3 13 = cc in absurd (omega (arith, z))
outstanding d l line k (stated.wrong_count f u o m) e = let z : ◌≡◌ {A = ℕ} 4 13 = cc in absurd (omega (arith, z))
outstanding d l line k (stated.accepted f u o m i) e = let z : ◌≡◌ {A = ℕ} 0 13 = ap (λ (v : List ℕ). get_or v 0 0) e in absurd (omega (arith, z))

pub outstanding_is_13 : line.OutstandingIs13
outstanding_is_13 d line l r l' x m k = (
  λ e. outstanding d l line k ((line_refuses_as_stated d line l r l' x m (13 ∷ k ∷ [])).0 e) refl,
  λ c.
      code_as d line l r l' x m (stated.forms_missing end c.0 refl refl (lt-ltb 0 (missing d.n d.sets) c.1))
      ∙ ap (λ (j : ℕ). 13 ∷ j ∷ []) (sym c.2),
)

pub after_end_is_14 : line.AfterEndIs14
after_end_is_14 d line l r l' x m = (case_of_lem d line l r l' x m, λ c. code_as d line l r l' x m (stated.after_end c.0 c.1))

pub line_ordered : line.LineOrdered
line_ordered c = refl

pub accepted_line_puts : line.AcceptedLinePuts
accepted_line_puts d line l r l' x e =
    let a = accepted_form d l line (sym x.says ∙ e) in
    (a.0, (spelled_read line a.0 a.1.reads, (x.loader ∙ a.1.loader, x.lists ∙ a.1.lists)))

pub accepted_line_own_places : line.AcceptedLineOwnPlaces
accepted_line_own_places d f l r l' x m e = own_places d f l l' (took d f l r l' x e) m

pub accepted_line_changes_no_other : line.AcceptedLineChangesNoOther
accepted_line_changes_no_other d f l r l' x e = other_places_kept d f l l' (took d f l r l' x e)

pub given_are_forms : line.GivenAreForms
given_are_forms l lines d l' t =
    let r = taken_run fresh l lines d l' t in
    subst (λ (u : State). GivenBy u.loader (forms lines)) r.1 (given_by l lines r.0)
