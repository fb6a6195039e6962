-- Small problems whose factor was worked out by hand, as rows of a table.
--   FactorCase — n, t, A, G and w, and the row, the numerator and the denominator of the factor
--   whole_file_case — of document 01: D = (1 1 / 2 −1) and T = 16, so 18 / 14 in row 0 and 19 / 13, which is larger, in row 1
--   heavy_second — the same with the weights (1, 3): 20 / 12 in row 0, which is larger, and 53 / 43 in row 1
--   equal_rows  — D = 0, weights (2, 1): 2 / 2 and 1 / 1, which are equal, so those of row 0
--   factor_cases — the table;  factor_case_problem — a row's problem;  factor_case_holds, factor_cases_hold — a row, all rows of the table hold
use Rattle.std.specs.Prelude.{Bool, true, ◌&&◌, List, [], ◌∷◌, ℕ, eqb, ℤ, pos, negsuc}
use Rattle.enclosure.specs.Problem.{Problem, problem_of}
use Rattle.quality_spec.specs.Peak.{peak_row, numerator, denominator}

pub record FactorCase : Type 0 where
  pub n : ℕ
  pub t : ℕ
  pub A : List ℤ
  pub G : List ℤ
  pub w : List ℤ
  pub row : ℕ
  pub above : ℕ
  pub below : ℕ

abbrev pub whole_file_by : List ℤ → ℕ → ℕ → ℕ → FactorCase
whole_file_by w row above below = record {
  n = 2;
  t = 4;
  A = pos 4 ∷ negsuc 0 ∷ negsuc 0 ∷ pos 3 ∷ [];
  G = pos 4 ∷ pos 1 ∷ pos 1 ∷ pos 6 ∷ [];
  w = w;
  row = row;
  above = above;
  below = below;
}

abbrev pub whole_file_case : FactorCase
whole_file_case = whole_file_by (pos 1 ∷ pos 1 ∷ []) 1 19 13

abbrev pub heavy_second : FactorCase
heavy_second = whole_file_by (pos 1 ∷ pos 3 ∷ []) 0 20 12

abbrev pub equal_rows : FactorCase
equal_rows = record {
  n = 2;
  t = 0;
  A = pos 1 ∷ pos 0 ∷ pos 0 ∷ pos 1 ∷ [];
  G = pos 1 ∷ pos 0 ∷ pos 0 ∷ pos 1 ∷ [];
  w = pos 2 ∷ pos 1 ∷ [];
  row = 0;
  above = 2;
  below = 2;
}

abbrev pub factor_cases : List FactorCase
factor_cases = whole_file_case ∷ heavy_second ∷ equal_rows ∷ []

abbrev pub factor_case_problem : FactorCase → Problem
factor_case_problem r = problem_of r.n 0 r.t r.A [] [] [] r.G r.w

abbrev pub factor_case_holds : FactorCase → Bool
factor_case_holds r =
    let P = factor_case_problem r in
    eqb (peak_row P) r.row && (eqb (numerator P) r.above && eqb (denominator P) r.below)

abbrev pub factor_cases_hold : List FactorCase → Bool
factor_cases_hold [] = true
factor_cases_hold (r ∷ rs) = factor_case_holds r && factor_cases_hold rs
