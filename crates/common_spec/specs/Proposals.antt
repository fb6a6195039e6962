-- What is handed to the call on two proposals (document 02, Paper 13: "Two offices solve the same equations with different solvers and steps").
--   proposal  — the numbers and the six lists of one proposal, as the input of a check. Its limits are held by the call itself, in lists long enough: 8 of a
--     proposal is of its own six lists
--   Proposals — two proposals, and the two interval lists as they come in;  proposals — from its parts
--   short_intervals Q — 8: an interval list, which is a column list, is too short
--   all_same n f g — f 0, .., f (n − 1) are g 0, .., g (n − 1)
--   same_equations I J — n, the matrix, the right sides and the tolerances are the same, of the lists only what is used; s, t, guess, inverse and weights may
--     differ
--   most_steps — 2^36, the largest magnitude of a guess
--   is_too_wide I — a solution limit of I is above 2^36, in its own steps
use Rattle.std.specs.Prelude.{Bool, ◌&&◌, ◌||◌, List, ℕ, ◌*◌, ◌^◌, eqb, ltb, ℤ, length, replicate}
use Rattle.integer.specs.Finite.{largest, every}
use Rattle.linear.specs.Slice.{at}
use Rattle.rules.specs.Range.{short_column}
use Rattle.enclosure.specs.Reckoning.{bound}
use Rattle.check_spec.specs.Input.{Input, input, problem}
use Rattle.integer.specs.Same.{same_number}

abbrev pub proposal : ℕ → ℕ → ℕ → List ℤ → List ℤ → List ℤ → List ℤ → List ℤ → List ℤ → Input
proposal n s t matrix right tolerance guess inverse weights =
    input n s t matrix right tolerance guess inverse weights (replicate 32 0) (replicate 1024 0)

pub record Proposals : Type 0 where
  pub first : Input
  pub second : Input
  pub low : List ℤ
  pub high : List ℤ

abbrev pub proposals : Input → Input → List ℤ → List ℤ → Proposals
proposals first second low high = record { first = first; second = second; low = low; high = high }

-- 02: "8 for an interval list comes first and is of neither proposal."
abbrev pub short_intervals : Proposals → Bool
short_intervals Q = short_column (length Q.low) || short_column (length Q.high)

unfoldable pub all_same : ℕ → (ℕ → ℤ) → (ℕ → ℤ) → Bool
all_same n f g = every n (λ (i : ℕ). same_number (f i) (g i))

-- 02: "New 20, if size, matrix, right side or tolerances differ"
abbrev pub same_equations : Input → Input → Bool
same_equations I J =
    eqb I.n J.n
    && (all_same (I.n * I.n) (at I.matrix) (at J.matrix)
    && (all_same I.n (at I.right) (at J.right) && all_same I.n (at I.tolerance) (at J.tolerance)))

abbrev pub most_steps : ℕ
most_steps = 2 ^ 36

-- 02: "then new 21, if a solution limit is above 2^36"
abbrev pub is_too_wide : Input → Bool
is_too_wide I = ltb most_steps (largest I.n (bound (problem I)))
