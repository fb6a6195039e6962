-- The theorems for specs/Document01, a theorem for each statement.
use mathlib.Core.Bool.{false}
use mathlib.Core.List.{List, [], ◌∷◌}
use mathlib.Core.Path.{◌≡◌, refl, sym, ap, subst, ◌∙◌}
use Prim.Native.Nat.{ℕ, suc, ◌+◌, ◌*◌, ◌-◌, ◌/◌, ◌%◌, ◌≤◌, ◌^◌}
use native.Mathlib.Omega.{arith}
use borrow.Author.Tests.{le-ltb, ltb-false, ne_eqb}
use lib.IntN.{ℤ, nat_abs}
use lib.ListN.{get_or}
use Rattle.std.proofs.Common.{Result, Ok, Err}
use Rattle.integer.specs.Finite.{sum}
use Rattle.linear.specs.Matrix.{product, apply}
use Rattle.rules.specs.Range.{in_range, range_of, ranges}
use Rattle.rules.specs.declared.Refusal.{Refusal}
use Rattle.rules.proofs.Ranges.{neither_left, neither_right}
use Rattle.entry.specs.Entry.{entry_value, entry_bound}
use Rattle.entry.specs.Register.{RegisteredAs, entry_with}
use Rattle.entry.specs.declared.Entry.{Entry}
use Rattle.entry.proofs.Limit.{entry_near}
use Rattle.enclosure.specs.Problem.{Problem, S, column_of}
use Rattle.enclosure.specs.Reckoning.{defect, load, margin, residual, row_sum, exceeds, exceeds_with, exceeds_row, slack, bound, bound_with, bound_from, magnitudes_with, inverse_bound}
use Rattle.enclosure.proofs.Instance.{file_worked}
use Rattle.check_spec.specs.Checked.{solution_bounds_after, inverse_bounds_after}
use Rattle.check_spec.specs.Input.{Input, problem, short}
use Rattle.check_spec.specs.Order.{answer}
use Rattle.check_spec.specs.Stated.{LongEnough, too_short, out_of_range, margin_low, residual_large, inverse_large}
use Rattle.check_spec.proofs.Agreed.{same_answer, same_solution, same_inverse}
use Rattle.check_spec.proofs.Lengths.{long_of}
use Rattle.check_spec.proofs.Written.{past_kept}
use Rattle.loader_progress.specs.Progress.{ended}
use Rattle.file_shape.proofs.Complete.{exactly}
use Rattle.loader_runs.specs.Lines.{before, lines_of}
use Rattle.line_form.proofs.Printable.{spell_printable}
use Rattle.file_stated.proofs.Stated.{file_exactly}
use Rattle.loader_spelled.proofs.Text.{lines_feed}
use Rattle.listing.specs.Listing.{answer_of, listing_of}
use Rattle.listing.proofs.Answers.{file_answers}
use Rattle.listing.proofs.Table as table
use Rattle.promises.specs.Document01 as document
use Rattle.promises.specs.Ways.{StatedThrough, not_ended, as_on_lists}
use Rattle.promises.specs.Ways as ways
use Rattle.promises.proofs.Ways.{accepted_sound}
use Rattle.promises.proofs.Cases01.{LargeInverse, back, case_of_lem, code_as, never_15}
use Rattle.promises.proofs.Demands.{limits_computed, through_refuses_as_stated}

-- ---- The system and its steps
pub sizes_ranged : document.SizesRanged
unfolding in_range range_of ranges
sizes_ranged = (λ z. refl, (λ z. refl, λ z. refl))

pub steps_are_powers : document.StepsArePowers
steps_are_powers P = (refl, refl)

pub forms_ranged : document.FormsRanged
unfolding in_range range_of ranges
forms_ranged = (λ z. refl, (λ z. refl, (λ z. refl, (λ z. refl, λ z. refl))))

long_enough : (I : Input) → LongEnough I → short I ≡ false
long_enough I h =
    rw (
      le-ltb _ _ h.matrix,
      le-ltb _ _ h.right,
      le-ltb _ _ h.tolerance,
      le-ltb _ _ h.guess,
      le-ltb _ _ h.inverse,
      le-ltb _ _ h.weights,
      le-ltb _ _ h.solution,
      le-ltb _ _ h.inverses,
    ) refl

pub lengths_asked : document.LengthsAsked
lengths_asked I = (long_of I, long_enough I)

pub used_row_after_row : document.UsedRowAfterRow
used_row_after_row I i j = ((refl, refl), (refl, (refl, (refl, refl))))

pub rest_not_read : document.RestNotRead
rest_not_read I J r r' E L E' L' a x y = (
  x.says ∙ same_answer I J a ∙ sym y.says,
  λ e.
      let q : answer I ≡ [] = sym x.says ∙ e in (
        λ i l. rw (x.solution_bounds, y.solution_bounds) (same_solution I J a q i l),
        λ k l. rw (x.inverse_bounds, y.inverse_bounds) (same_inverse I J a q k l),
      ),
)

pub rest_not_written : document.RestNotWritten
unfolding solution_bounds_after inverse_bounds_after
rest_not_written I r E L x = (
  λ i l. rw x.solution_bounds (past_kept 0 (answer I) I.n I.solution_bounds (bound (problem I)) i l),
  λ k l. rw x.inverse_bounds (past_kept 0 (answer I) (I.n * I.n) I.inverse_bounds (λ (i : ℕ). inverse_bound (problem I) (i / I.n) (i % I.n)) k l),
)

-- ---- The reckoning
pub margin_is : document.MarginIs
unfolding margin load defect product apply sum
margin_is P m = refl

pub margins_above_zero : document.MarginsAboveZero
margins_above_zero P E L a = (accepted_sound P E L a).margins

pub within : (P : Problem) (k : ℕ) → exceeds P k ≡ false → (nat_abs (residual P k) + S P * P.d k ≤ 2 ^ 25) × (nat_abs (residual P k) ≤ row_sum P k)
unfolding exceeds
within P k e =
    (ltb-false _ _ (neither_left (exceeds_with (residual P) (slack P) k) (exceeds_row P k) e), ltb-false _ _ (neither_right (exceeds_with (residual P) (slack P) k) (exceeds_row P k) e))

pub residuals_small : document.ResidualsSmall
unfolding residual row_sum apply
residuals_small P E L a k l = within P k ((accepted_sound P E L a).residuals k l)

pub limit_is_largest : document.LimitIsLargest
unfolding bound bound_with bound_from magnitudes_with apply
limit_is_largest P E L a i l = (limits_computed P E L a).0 i l

pub inverse_limit_is : document.InverseLimitIs
inverse_limit_is P E L a i j li lj k lk =
    let h = (within (column_of P j) k ((accepted_sound P E L a).columns j lj k lk)).0 in
    ((limits_computed P E L a).1 i j li lj, (refl, (refl, (refl, omega (arith, h)))))

abbrev value_of : Result Entry Refusal → ℤ → ℤ
value_of (Ok y) z = y.value
value_of (Err r) z = z

abbrev limit_of : Result Entry Refusal → ℕ → ℕ
limit_of (Ok y) z = y.limit
limit_of (Err r) z = z

module _ (x : ℤ) (e s : ℕ) (v : ℤ) (b : ℕ) (r : RegisteredAs x e s (entry_with v b)) where
  pub entered : v ≡ entry_value s x
  entered = ap (λ (k : Result Entry Refusal). value_of k v) (r.entry refl)

  pub limited : b ≡ entry_bound s x e
  limited = ap (λ (k : Result Entry Refusal). limit_of k b) (r.entry refl)

pub entry_rounded : document.EntryRounded
entry_rounded x e s v b r = rw (entered x e s v b r) (entry_near s x)

pub entry_limited : document.EntryLimited
unfolding entry_bound
entry_limited x e s v b r = limited x e s v b r ∙ rw (entered x e s v b r) refl

-- ---- The file
pub lines_ended : document.LinesEnded
lines_ended line rest h = lines_feed line rest h

pub no_lines_in_nothing : document.NoLinesInNothing
unfolding lines_of
no_lines_in_nothing = refl

pub forms_printable : document.FormsPrintable
forms_printable = spell_printable

pub last_line_unended : document.LastLineUnended
unfolding lines_of
last_line_unended b [] h = rw (ne_eqb b 10 (h 0)) refl
last_line_unended b (c ∷ line) h = rw (ne_eqb b 10 (h 0)) (ap (before b) (last_line_unended c line (λ k. h (suc k))))

pub whole_files_shaped : document.WholeFilesShaped
whole_files_shaped = exactly

-- ---- Refused for what was handed in
pub short_list_is_8 : document.ShortListIs8
short_list_is_8 I r E L x = (case_of_lem I r E L x, λ p. code_as I r E L x (too_short p))

pub out_of_range_is_3 : document.OutOfRangeIs3
out_of_range_is_3 I r E L x = (case_of_lem I r E L x, λ p. code_as I r E L x (out_of_range p.0 p.1))

pub low_margin_is_5 : document.LowMarginIs5
low_margin_is_5 I r E L x m = (
  λ e. let c = case_of_lem I r E L x e in (c.0, rw (← back m) c.1),
  λ c. code_as I r E L x (margin_low m c.0 c.1.below c.1.here c.1.before),
)

pub large_residual_is_6 : document.LargeResidualIs6
large_residual_is_6 I r E L x k = (
  λ e. let c = case_of_lem I r E L x e in (c.0, (c.1.0, rw (← back k) c.1.1)),
  λ c. code_as I r E L x (residual_large k c.0 c.1.0 c.1.1.below c.1.1.here c.1.1.before),
)

pub large_inverse_is_7 : document.LargeInverseIs7
large_inverse_is_7 I r E L x j k = (
  λ e. let c : LargeInverse I (j + 1 - 1) (k + 1 - 1) = case_of_lem I r E L x e in subst (λ (a : ℕ). LargeInverse I a k) (back j) (subst (λ (b : ℕ). LargeInverse I (j + 1 - 1) b) (back k) c),
  λ c.
      let low = c.1.1.1.1.1 in
      code_as I r E L x (inverse_large j k c.0 c.1.0 c.1.1.0 c.1.1.1.0 low.below low.here c.1.1.1.1.0 low.before),
)

-- ---- Refused for how far the desk has come
pub not_ended_is_15 : document.NotEndedIs15
not_ended_is_15 s I r E L x =
    let f = through_refuses_as_stated s I r E L x (15 ∷ []) in
    (λ e. go (f.0 e) refl, λ c. f.1 (not_ended c.0 c.1))
  where
    go : {w : List ℕ} → StatedThrough s I w → w ≡ 15 ∷ [] → (short I ≡ false) × (ended s ≡ false)
    go (ways.too_short p) e = let z : ◌≡◌ {A = ℕ} 8 15 = cc in absurd (omega (arith, z))
    go (not_ended p q) e = (p, q)
    go (as_on_lists w q y) e = absurd (never_15 y e)

pub check_ordered : document.CheckOrdered
check_ordered s I = refl

pub brackets_filled : document.BracketsFilled
unfolding listing_of
brackets_filled file old new count x = (answer_of file, (file_exactly file (answer_of file)).0 refl, file_answers file, x.bytes)

-- ---- A whole file
pub whole_file_listed : document.WholeFileListed
whole_file_listed old new count x = x.bytes ∙ table.whole_file_lem

pub whole_file_worked : document.WholeFileWorked
whole_file_worked = file_worked

-- ---- Marked for proof
pub cases_hold : document.CasesHold
cases_hold = table.listing_cases_hold
