-- What can be said of a file.
--   file_answers — nothing, or one of 01's refusals with what stands in the inner brackets; never 8
--   answer_zero  — 0 stands for nothing but acceptance
use mathlib.Core.Path.{◌≡◌, refl}
use mathlib.Core.Bool.{Bool, true, false, cond}
use mathlib.Core.List.{List, [], ◌∷◌}
use Prim.Native.Nat.{ℕ, ◌+◌, ◌*◌, ◌/◌, ◌%◌}
use native.Mathlib.Omega.{arith}
use lib.Dec.{ltb}
use lib.ListN.{get_or}
use Rattle.rules.specs.Order.{verdict, if_accepted, or_else}
use Rattle.enclosure.specs.Problem.{Problem}
use Rattle.check_spec.specs.Order.{first_margin, first_residual, first_inverse_place, computed, checked_of}
use Rattle.loader_lists.specs.Lists.{short_lists}
use Rattle.loader_order.specs.Order.{LineCase, line_order}
use Rattle.loader.specs.Answer.{case_of, line_answer}
use Rattle.loader_runs.specs.Run.{State, from_new, step}
use Rattle.loader_runs.proofs.Passing.{step_long}
use Rattle.loader_progress.specs.Progress.{ended}
use Rattle.listing_refusal.specs.Refused.{printed}
use Rattle.loader_runs.specs.Lines.{lines_of}
use Rattle.loader_runs.specs.Read.{Reading, read_from, zeros, reading_of}
use Rattle.listing.specs.Answers.{Alone, too_long, no_form, out_of_range, wrong_count, too_early, repeated, after_end, Answers, of_line, margin, residual, inverse_residual_lem, missing, not_ended}
use Rattle.listing.specs.Answers as answers
use Rattle.listing.specs.Listing.{problem_in, answer_of}
use Rattle.listing.proofs.Entire.{zeros_long}

-- ---- a line
data LineCode : List ℕ → Type 0 where
  quiet : LineCode []
  alone : {k : ℕ} → Alone k → LineCode (k ∷ [])
  lacking : (count : ℕ) → LineCode (13 ∷ count ∷ [])

line_code_lem : (c : LineCase) → c.short ≡ false → LineCode (verdict (line_order c))
line_code_lem c h = rw h (go c.ended c.long c.unspelled c.early c.misplaced c.repeated c.outside c.miscounted c.incomplete)
  where
    go : (b14 b1 b2 b11 b3 b12 b3' b4 b13 : Bool) →
        LineCode (cond b14 (14 ∷ []) (cond b1 (1 ∷ []) (cond b2 (2 ∷ []) (cond b11 (11 ∷ []) (cond b3 (3 ∷ []) (cond b12 (12 ∷ []) (cond b3' (3 ∷ []) (cond b4 (4 ∷ []) (cond b13 (13 ∷ c.missing ∷ []) [])))))))))
    go true b1 b2 b11 b3 b12 b3' b4 b13 = alone after_end
    go false true b2 b11 b3 b12 b3' b4 b13 = alone too_long
    go false false true b11 b3 b12 b3' b4 b13 = alone no_form
    go false false false true b3 b12 b3' b4 b13 = alone too_early
    go false false false false true b12 b3' b4 b13 = alone out_of_range
    go false false false false false true b3' b4 b13 = alone repeated
    go false false false false false false true b4 b13 = alone out_of_range
    go false false false false false false false true b13 = alone wrong_count
    go false false false false false false false false true = lacking c.missing
    go false false false false false false false false false = quiet

-- ---- the lines, one after another
abbrev printed_of : Reading → List ℕ
printed_of R = printed R.line R.code

first_answers : {l : List ℕ} (k : ℕ) (u : State) (rest : Reading) → LineCode l → (l ≡ [] → Answers (printed_of rest)) → Answers (printed_of (if_accepted l rest (record { code = l; line = k + 1; state = u })))
first_answers k u rest quiet h = h refl
first_answers k u rest (alone a) h = of_line a (k + 1) (omega arith)
first_answers k u rest (lacking count) h = missing count

lines_answer : (k : ℕ) (u : State) (lines : List (List ℕ)) → short_lists u.lists ≡ false → Answers (printed_of (read_from k u lines))
unfolding read_from line_answer
lines_answer k u [] h = answers.accepted
lines_answer k u (line ∷ lines) h =
    first_answers {l = line_answer u.loader u.lists line} k u (read_from (k + 1) (step u line) lines) (line_code_lem (case_of u.loader u.lists line) h)
    (λ e. lines_answer (k + 1) (step u line) lines (step_long u line e h))

-- ---- the check
computed_answers : (n m k i : ℕ) → Answers (printed 0 (verdict (computed n m k i)))
computed_answers n m k i = go (ltb m n) (ltb k n) (ltb i (n * n))
  where
    go : (a b c : Bool) → Answers (printed 0 (cond a (5 ∷ (m + 1) ∷ []) (cond b (6 ∷ (k + 1) ∷ []) (cond c (7 ∷ (i / n + 1) ∷ (i % n + 1) ∷ []) []))))
    go true b c = margin (m + 1) (omega arith)
    go false true c = residual (k + 1) (omega arith)
    go false false true = inverse_residual_lem (i / n + 1) (i % n + 1) (omega arith) (omega arith)
    go false false false = answers.accepted

checked_answers : (P : Problem) → Answers (printed 0 (checked_of P))
checked_answers P = computed_answers P.n (first_margin P) (first_residual P) (first_inverse_place P)

-- ---- the file
later_answers : (b : Bool) (l : List ℕ) → Answers (printed 0 l) → Answers (printed 0 (cond b l (15 ∷ [])))
later_answers true l h = h
later_answers false l h = not_ended

else_answers : (l m : List ℕ) → Answers l → Answers m → Answers (or_else l m)
else_answers [] m x y = y
else_answers (k ∷ vs) m x y = x

pub file_answers : (file : List ℕ) → Answers (answer_of file)
unfolding answer_of
file_answers file =
    else_answers (printed_of (reading_of file)) _ (lines_answer 0 (from_new zeros) (lines_of file) zeros_long)
    (later_answers (ended (reading_of file).state.loader.stage) (checked_of (problem_in file)) (checked_answers (problem_in file)))

alone_not_zero : {k : ℕ} → Alone k → k ≡ 0 → ⊥
alone_not_zero too_long e = absurd (omega (arith, e))
alone_not_zero no_form e = absurd (omega (arith, e))
alone_not_zero out_of_range e = absurd (omega (arith, e))
alone_not_zero wrong_count e = absurd (omega (arith, e))
alone_not_zero too_early e = absurd (omega (arith, e))
alone_not_zero repeated e = absurd (omega (arith, e))
alone_not_zero after_end e = absurd (omega (arith, e))

answers_zero : {l : List ℕ} → Answers l → get_or l 0 0 ≡ 0 → l ≡ []
answers_zero answers.accepted e = refl
answers_zero (of_line a line h) e = absurd (alone_not_zero a e)
answers_zero (margin row h) e = absurd (omega (arith, e))
answers_zero (residual row h) e = absurd (omega (arith, e))
answers_zero (inverse_residual_lem column row h h') e = absurd (omega (arith, e))
answers_zero (missing count) e = absurd (omega (arith, e))
answers_zero not_ended e = absurd (omega (arith, e))

pub answer_zero : (file : List ℕ) → get_or (answer_of file) 0 0 ≡ 0 → answer_of file ≡ []
answer_zero file = answers_zero (file_answers file)
