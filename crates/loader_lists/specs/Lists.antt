-- The numbers of the lent lists (01: "A lent matrix list has at least 1,024 numbers and a column list at least 32").
--   Lists, lists — the lists
--   is_too_short     — a list of one of these lengths is too short;  short_lists l — 8: one of them is
use Rattle.std.specs.Prelude.{Bool, ◌||◌, List, ℕ, ℤ, length}
use Rattle.rules.specs.Range.{short_matrix, short_column}

pub record Lists : Type 0 where
  pub matrix : List ℤ
  pub right : List ℤ
  pub tolerance : List ℤ
  pub guess : List ℤ
  pub inverse : List ℤ
  pub weights : List ℤ

abbrev pub lists : List ℤ → List ℤ → List ℤ → List ℤ → List ℤ → List ℤ → Lists
lists a b d x g w = record { matrix = a; right = b; tolerance = d; guess = x; inverse = g; weights = w }

abbrev pub is_too_short : ℕ → ℕ → ℕ → ℕ → ℕ → ℕ → Bool
is_too_short a b d x g w = short_matrix a || (short_column b || (short_column d || (short_column x || (short_matrix g || short_column w))))

abbrev pub short_lists : Lists → Bool
short_lists l = is_too_short (length l.matrix) (length l.right) (length l.tolerance) (length l.guess) (length l.inverse) (length l.weights)
