-- Small problems whose sequence was worked out by hand, as rows of a table.
--   SearchCase — n, t, A and G, how many lists may be tried, how many stand before the first good one, and that list
--   at_once    — 1 everywhere is good
--   shifted    — u = (1024, 1): 1 bit brings 1,024 to 512, and 1 to 0; the second list is (513, 1)
--   three      — rows of the problem with D = (1 16 0 / 0 1 16 / 0 0 1) and T = 16
--   third      — two steps without a shift: (18, 18, 2), then (307, 51, 3);  too_few — the same with an allowance of 2
--   never      — G = 0: every margin of every list is 0
--   search_cases — the table
--   search_case_problem — a row's problem;  is_list w i xs — w has the numbers xs from place i on;  search_case_holds, search_cases_hold — a row, all rows
--     of the table hold
use Rattle.std.specs.Prelude.{Bool, true, ◌&&◌, List, [], ◌∷◌, ℕ, ◌+◌, eqb, ℤ, pos, negsuc}
use Rattle.enclosure.specs.Problem.{Problem, problem_of}
use Rattle.weights_spec.specs.Sequence.{tried, first_good}

pub record SearchCase : Type 0 where
  pub n : ℕ
  pub t : ℕ
  pub A : List ℤ
  pub G : List ℤ
  pub allowance : ℕ
  pub before : ℕ
  pub list : List ℕ

abbrev pub at_once : SearchCase
at_once = record { n = 1; t = 4; A = pos 1 ∷ []; G = pos 15 ∷ []; allowance = 1; before = 0; list = 1 ∷ [] }

abbrev pub shifted : SearchCase
shifted = record {
  n = 2;
  t = 10;
  A = pos 1024 ∷ negsuc 1023 ∷ pos 0 ∷ pos 1023 ∷ [];
  G = pos 1 ∷ pos 0 ∷ pos 0 ∷ pos 1 ∷ [];
  allowance = 64;
  before = 1;
  list = 513 ∷ 1 ∷ [];
}

abbrev pub three : ℕ → ℕ → List ℕ → SearchCase
three allowance before list = record {
  n = 3;
  t = 4;
  A = pos 15 ∷ negsuc 15 ∷ pos 0 ∷ pos 0 ∷ pos 15 ∷ negsuc 15 ∷ pos 0 ∷ pos 0 ∷ pos 15 ∷ [];
  G = pos 1 ∷ pos 0 ∷ pos 0 ∷ pos 0 ∷ pos 1 ∷ pos 0 ∷ pos 0 ∷ pos 0 ∷ pos 1 ∷ [];
  allowance = allowance;
  before = before;
  list = list;
}

abbrev pub third : SearchCase
third = three 3 2 (307 ∷ 51 ∷ 3 ∷ [])

abbrev pub too_few : SearchCase
too_few = three 2 2 []

abbrev pub never : SearchCase
never = record { n = 1; t = 4; A = pos 1 ∷ []; G = pos 0 ∷ []; allowance = 3; before = 3; list = [] }

abbrev pub search_cases : List SearchCase
search_cases = at_once ∷ shifted ∷ third ∷ too_few ∷ never ∷ []

abbrev pub search_case_problem : SearchCase → Problem
search_case_problem r = problem_of r.n 0 r.t r.A [] [] [] r.G []

abbrev pub is_list : (ℕ → ℕ) → ℕ → List ℕ → Bool
is_list w i [] = true
is_list w i (x ∷ xs) = eqb (w i) x && is_list w (i + 1) xs

abbrev pub search_case_holds : SearchCase → Bool
search_case_holds r = eqb (first_good (search_case_problem r) r.allowance) r.before && is_list (tried (search_case_problem r) r.before) 0 r.list

abbrev pub search_cases_hold : List SearchCase → Bool
search_cases_hold [] = true
search_cases_hold (r ∷ rs) = search_case_holds r && search_cases_hold rs
