-- The refusals of a check on lists in 01's order: 8, 3, 5, 6, 7.
--   first_margin P   — the lowest row whose margin is 0 or less; n where there is none
--   first_residual P — the lowest row whose residual is too large, with its slack above 2^25 or without it above the sum along its row; n where there is none
--   first_inverse_place P — the lowest column, then its lowest row, of a residual of the inverse that is too large: column · n + row;
--     n · n where there is none
--   computed n m k i — 5 at row m, 6 at row k, 7 at place i;  computed_of P — at the first of each
--   checked_of P     — what is said of these: 5, 6 or 7, or nothing
--   order_on_lists I  — the tests in their order;  answer I — what is said of them: nothing where the proposal is accepted
use Rattle.std.specs.Prelude.{not, List, [], ◌∷◌, ℕ, ◌+◌, ◌*◌, ◌/◌, ◌%◌, ltb}
use Rattle.integer.specs.Finite.{first}
use Rattle.rules.specs.Order.{Test, number, verdict}
use Rattle.enclosure.specs.Problem.{Problem, column_of}
use Rattle.enclosure.specs.Reckoning.{margin_fails, exceeds}
use Rattle.check_spec.specs.Input.{Input, problem, short, in_ranges}

abbrev pub first_margin : Problem → ℕ
first_margin P = first P.n (margin_fails P)

abbrev pub first_residual : Problem → ℕ
first_residual P = first P.n (exceeds P)

abbrev pub first_inverse_place : Problem → ℕ
first_inverse_place P = first (P.n * P.n) (λ (i : ℕ). exceeds (column_of P (i / P.n)) (i % P.n))

abbrev pub computed : ℕ → ℕ → ℕ → ℕ → List Test
computed n m k i =
    record { says = 5 ∷ (m + 1) ∷ []; holds = ltb m n }
    ∷ record { says = 6 ∷ (k + 1) ∷ []; holds = ltb k n }
    ∷ record { says = 7 ∷ (i / n + 1) ∷ (i % n + 1) ∷ []; holds = ltb i (n * n) }
    ∷ []

abbrev pub computed_of : Problem → List Test
computed_of P = computed P.n (first_margin P) (first_residual P) (first_inverse_place P)

abbrev pub checked_of : Problem → List ℕ
checked_of P = verdict (computed_of P)

abbrev pub order_on_lists : Input → List Test
order_on_lists I =
    number 8 (short I)
    ∷ number 3 (not (in_ranges I))
    ∷ computed_of (problem I)

unfoldable pub answer : Input → List ℕ
answer I = verdict (order_on_lists I)
