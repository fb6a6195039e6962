-- What Paper 6 of 02 changes, exactly: repetition is tested before the rules on values.
--   Compared, compared — of every line the same is said as before, or its answer becomes 12
--   changes       — the answer is another exactly where 02 says so;  becomes_12 — and then it is 12
--   made_changes  — so at every loader made by `new` and `take`;  other_same — at a loader whose own n is out of range no answer is another
--   accepted_same — the same lines are accepted;  left_same — and the same is left of the loader and the lists
use mathlib.Core.Path.{◌≡◌, refl, sym, subst, ◌∙◌}
use mathlib.Core.Bool.{Bool, true, false, cond, ◌||◌}
use mathlib.Core.List.{List, [], ◌∷◌}
use mathlib.Core.Logic.{◌↔◌}
use mathlib.Core.Option.{Option, none, some}
use Prim.Native.Nat.{ℕ}
use native.Mathlib.Omega.{arith}
use lib.Dec.{T}
use lib.IntN.{ℤ, pos, nat_abs}
use lib.ListN.{take, drop}
use Rattle.integer.proofs.Search.{clash}
use Rattle.rules.specs.Order.{Test, number, verdict}
use Rattle.rules.specs.Range.{in_range}
use Rattle.rules.specs.declared.Kind.TheVariants.{Size}
use Rattle.rules.proofs.Tests.{None, skip_tests, skipped, some_of, some_code, Moved, moved, same, other}
use Rattle.rules.proofs.Verdicts.{nothing_is_not}
use Rattle.line_form.specs.Form.{Form, problem, scale, row, right, right_within, guess, inverse, weight, end}
use Rattle.line_form.specs.Reading.{reading}
use Rattle.loader_values.specs.Item.{item_of, placed, outside, miscounted}
use Rattle.loader_values.specs.declared.Item.{Item}
use Rattle.loader_values.specs.declared.Item.TheVariants.{Of}
use Rattle.loader_values.specs.declared.Part.{Part}
use Rattle.loader_values.specs.declared.Part.TheVariants.{Row, Right, Guess, Inverse, Weight}
use Rattle.loader_lists.specs.Lists.{Lists}
use Rattle.loader_progress.specs.Progress.{given, sized, misplaced, repeated}
use Rattle.loader_progress.proofs.Progress.{placed_of, size_in, misplaced_by, misplaced_start}
use Rattle.loader_order.specs.Order.{LineCase, line_order}
use Rattle.loader_order.proofs.CodeLaws.{code_12}
use Rattle.loader.specs.declared.Loader.{Loader}
use Rattle.loader.specs.Answer.{case_of, line_answer}
use Rattle.loader.specs.Taken.{loader_after, lists_after}
use Rattle.loader_runs.specs.Accepts.{Made}
use Rattle.loader_runs.specs.Before.{order_before, answer_before, loader_before, lists_before, ThreeOrFour, three, four, Becomes12, part, second_problem, second_scale}
use Rattle.loader_runs.specs.OwnSize.{OwnSize}
use Rattle.loader_runs.proofs.Sound.{made_size}

-- ---- 3 or 4
not_12 : {w : List ℕ} → ThreeOrFour w → 12 ∷ [] ≡ w → ⊥
not_12 three e = let z : ◌≡◌ {A = ℕ} 12 3 = cc in omega arith
not_12 four e = let z : ◌≡◌ {A = ℕ} 12 4 = cc in omega arith

pub some_number : {w : List ℕ} → ThreeOrFour w → w ≡ [] → ⊥
some_number three e = nothing_is_not e
some_number four e = nothing_is_not e

passes_11 : (c : LineCase) {w : List ℕ} → ThreeOrFour w → verdict (order_before c) ≡ w → None (take 5 (order_before c))
passes_11 c {w} three e = (skipped (take 5 (order_before c)) (drop 5 (order_before c)) w refl e).0
passes_11 c {w} four e = (skipped (take 5 (order_before c)) (drop 5 (order_before c)) w refl e).0

-- ---- a form that was given already
module _ (d : Loader) where
  is_placed : {x : Item} {w : List ℕ} → Becomes12 d x w → placed d.n x ≡ true
  is_placed (part g h t) = h
  is_placed (second_problem e) = refl
  is_placed (second_scale e) = refl

  abbrev of_values : Bool → Bool → List ℕ
  of_values a b = cond a (3 ∷ []) (cond b (4 ∷ []) [])

  part_becomes : (p : Part) (i : ℤ) (a b : Bool) → given d.sets p (nat_abs i) ≡ true → placed d.n (Of p i) ≡ true → a || (b || false) ≡ true → Becomes12 d (Of p i) (of_values a b)
  part_becomes p i true b g h e = part g h three
  part_becomes p i false true g h e = part g h four
  part_becomes p i false false g h e = absurd (subst T (sym e) tt)

  whole_becomes : {x : Item} (a : Bool) → Becomes12 d x (3 ∷ []) → a || (false || false) ≡ true → Becomes12 d x (of_values a false)
  whole_becomes true t e = t
  whole_becomes false t e = absurd (subst T (sym e) tt)

  form_becomes : (f : Form) → repeated d.stage d.sets (item_of f) ≡ true → placed d.n (item_of f) ≡ true → outside f || (miscounted d.n f || false) ≡ true
      → Becomes12 d (item_of f) (of_values (outside f) (miscounted d.n f))
  form_becomes (problem n) r p e = whole_becomes (outside (problem n)) (second_problem r) e
  form_becomes (scale s t) r p e = whole_becomes (outside (scale s t)) (second_scale r) e
  form_becomes (row i a others) r p e = part_becomes Row i (outside (row i a others)) (miscounted d.n (row i a others)) r p e
  form_becomes (right i b) r p e = part_becomes Right i (outside (right i b)) false r p e
  form_becomes (right_within i b c) r p e = part_becomes Right i (outside (right_within i b c)) false r p e
  form_becomes (guess i x) r p e = part_becomes Guess i (outside (guess i x)) false r p e
  form_becomes (inverse i g others) r p e = part_becomes Inverse i (outside (inverse i g others)) (miscounted d.n (inverse i g others)) r p e
  form_becomes (weight i w) r p e = part_becomes Weight i (outside (weight i w)) false r p e
  form_becomes end r p e = absurd (subst T (sym r) tt)

  is_repeated : {x : Item} {w : List ℕ} → Becomes12 d x w → repeated d.stage d.sets x ≡ true
  is_repeated (part g h t) = g
  is_repeated (second_problem e) = e
  is_repeated (second_scale e) = e

  pub is_3_or_4 : {x : Item} {w : List ℕ} → Becomes12 d x w → ThreeOrFour w
  is_3_or_4 (part g h t) = t
  is_3_or_4 (second_problem e) = three
  is_3_or_4 (second_scale e) = three

  own_place : OwnSize d → (x : Item) → placed d.n x ≡ true → misplaced d.stage d.n x ≡ false
  own_place o x h = go (sized d.stage) refl
    where
      go : (b : Bool) → sized d.stage ≡ b → misplaced d.stage d.n x ≡ false
      go true e = sym (misplaced_by d.stage d.n x e (o e) (sym h))
      go false e = sym (misplaced_start d.stage d.n x e (sym h))

-- ---- a line
module _ (d : Loader) (l : Lists) (line : List ℕ) where
  abbrev here : LineCase
  here = case_of d l line

  -- the tests before 12, and those that it was moved over
  abbrev first : List Test
  first = take 6 (line_order here)

  abbrev values : List Test
  values = number 3 here.outside ∷ number 4 here.miscounted ∷ []

  pub data Compared : Type 0 where
    unchanged : line_answer d l line ≡ answer_before d l line → Compared
    changed : (f : Form) → reading line ≡ some f → misplaced d.stage d.n (item_of f) ≡ false → Becomes12 d (item_of f) (answer_before d l line) → line_answer d l line ≡ 12 ∷ [] → Compared

  by_tests : None first → here.repeated ≡ true → some_of values ≡ true → (o : Option Form) → reading line ≡ o → Compared
  unfolding line_answer answer_before
  by_tests n t s none r = absurd (subst T (rw r at n.1.1.1.0) tt)
  by_tests n t s (some f) r =
      let m : misplaced d.stage d.n (item_of f) ≡ false = rw r at n.1.1.1.1.1.0 in
      let b : answer_before d l line ≡ of_values d (outside f) (miscounted d.n f) =
      skip_tests first (drop 6 (order_before here)) n ∙ some_code values (drop 8 (order_before here)) s ∙ rw r in
      changed f r m
      (rw b (form_becomes d f (rw r at t) (placed_of d.stage d.n (item_of f) m) (rw r at s)))
      ((code_12 here).1 (n, t))

  pub compared : Compared
  unfolding line_answer answer_before
  compared = go (moved first (number 12 here.repeated) values (drop 9 (line_order here)))
    where
      go : Moved first (number 12 here.repeated) values (drop 9 (line_order here)) → Compared
      go (same e) = unchanged e
      go (other n t s) = by_tests n t s (reading line) refl

  pub becomes_12 : (line_answer d l line ≡ answer_before d l line → ⊥) → line_answer d l line ≡ 12 ∷ []
  becomes_12 n = go compared
    where
      go : Compared → line_answer d l line ≡ 12 ∷ []
      go (unchanged e) = absurd (n e)
      go (changed f r m t e) = e

  status_12 : OwnSize d → (f : Form) → reading line ≡ some f → Becomes12 d (item_of f) (answer_before d l line) → line_answer d l line ≡ 12 ∷ []
  unfolding line_answer answer_before
  status_12 o f r t =
      let n = passes_11 here (is_3_or_4 d t) refl in
      let m : here.misplaced ≡ false = rw r (own_place d o (item_of f) (is_placed d t)) in
      (code_12 here).1 ((n.0, (n.1.0, (n.1.1.0, (n.1.1.1.0, (n.1.1.1.1.0, (m, tt)))))), rw r (is_repeated d t))

  pub changes : OwnSize d → (line_answer d l line ≡ answer_before d l line → ⊥) ↔ ((f : Form) × ((reading line ≡ some f) × Becomes12 d (item_of f) (answer_before d l line)))
  changes o = (λ n. go n compared, λ h. λ e. not_12 (is_3_or_4 d h.1.1) (sym (status_12 o h.0 h.1.0 h.1.1) ∙ e))
    where
      go : (line_answer d l line ≡ answer_before d l line → ⊥) → Compared → (f : Form) × ((reading line ≡ some f) × Becomes12 d (item_of f) (answer_before d l line))
      go n (unchanged e) = absurd (n e)
      go n (changed f r m t e) = (f, (r, t))

  pub made_changes : Made d → (line_answer d l line ≡ answer_before d l line → ⊥) ↔ ((f : Form) × ((reading line ≡ some f) × Becomes12 d (item_of f) (answer_before d l line)))
  made_changes m = changes (made_size m)

  pub other_same : sized d.stage ≡ true → in_range Size (pos d.n) ≡ false → line_answer d l line ≡ answer_before d l line
  other_same s o = go compared
    where
      go : Compared → line_answer d l line ≡ answer_before d l line
      go (unchanged e) = e
      go (changed f r m t e) = clash (in_range Size (pos d.n)) (size_in d.stage d.n (item_of f) s m) o

  pub accepted_same : (line_answer d l line ≡ []) ↔ (answer_before d l line ≡ [])
  accepted_same = (λ a. to a compared, λ a. from a compared)
    where
      to : line_answer d l line ≡ [] → Compared → answer_before d l line ≡ []
      to a (unchanged e) = sym e ∙ a
      to a (changed f r m t e) = absurd (nothing_is_not (sym e ∙ a))

      from : answer_before d l line ≡ [] → Compared → line_answer d l line ≡ []
      from a (unchanged e) = e ∙ a
      from a (changed f r m t e) = absurd (some_number (is_3_or_4 d t) a)

  pub left_same : (loader_after d l line ≡ loader_before d l line) × (lists_after d l line ≡ lists_before d l line)
  unfolding loader_after lists_after loader_before lists_before
  left_same = go compared
    where
      refused : {w : List ℕ} → answer_before d l line ≡ w → line_answer d l line ≡ 12 ∷ [] → ThreeOrFour w → (loader_after d l line ≡ loader_before d l line) × (lists_after d l line ≡ lists_before d l line)
      refused b e three = (rw (b, e), rw (b, e))
      refused b e four = (rw (b, e), rw (b, e))

      go : Compared → (loader_after d l line ≡ loader_before d l line) × (lists_after d l line ≡ lists_before d l line)
      go (unchanged e) = (rw e, rw e)
      go (changed f r m t e) = refused refl e (is_3_or_4 d t)
