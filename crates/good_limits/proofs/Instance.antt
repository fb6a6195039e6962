-- No statement on good limits is empty: the whole file of document 01, with and without tolerances, and a net with an exact guess.
--   whole_good — its limits are good;  whole_own — its own factor is 19 / 13, that of its second row
--   whole_fine — it is a rounded exact proposal with 3·9 ≤ 2·16, so its limits are 0 or 1
--   loose_good — with the tolerances 1 and 2
--   mark_net — 1·x = 0 with the guess 0 and no tolerance, both steps 1/16, inverse 16/16;  mark_exact, mark_zero — that guess is exact, and its limit is 0
use mathlib.Core.List.{List, [], ◌∷◌}
use mathlib.Core.Path.{◌≡◌, refl}
use Prim.Native.Nat.{ℕ}
use lib.Dec.{lit≤}
use lib.IntN.{ℤ, pos}
use Rattle.integer.specs.Finite.{sum, sumℕ}
use Rattle.integer.proofs.Below.{only, each_of_two}
use Rattle.linear.specs.Matrix.{apply, product, identity}
use Rattle.enclosure.specs.Demand.{sum_of_magnitudes}
use Rattle.enclosure.specs.Example.{file, exact, exact_inverse, loose_file}
use Rattle.enclosure.specs.Problem.{Problem, problem_of}
use Rattle.enclosure.specs.Reckoning.{defect, load, margin, row_sum, bound, inverse_bound}
use Rattle.enclosure.proofs.Instance.{file_rounded, file_sound}
use Rattle.enclosure.proofs.QualityInstance.{file_factor}
use Rattle.good_limits.specs.Good.{OwnFactor, ExactGuess, FineRounded, OneStep, Good}
use Rattle.good_limits.proofs.Good.{limits_good}

pub whole_good : Good file (bound file) (inverse_bound file)
whole_good = limits_good file (lit≤ tt) (each_of_two _ (lit≤ tt) (lit≤ tt)) file_sound.margins

pub whole_own : OwnFactor file 19 13
unfolding apply product identity sum sumℕ defect load margin
whole_own = record { row = 1; below = lit≤ tt; above_is = refl; under_is = refl; every_row = file_factor }

pub whole_fine : FineRounded file exact 11 exact_inverse 11
unfolding sumℕ row_sum sum_of_magnitudes
whole_fine = record { rounded = file_rounded; fine = lit≤ tt }

pub whole_one_step : OneStep 2 (bound file) (inverse_bound file)
whole_one_step = whole_good.one_step exact 11 exact_inverse 11 whole_fine

pub loose_good : Good loose_file (bound loose_file) (inverse_bound loose_file)
unfolding apply product identity sum sumℕ defect load margin
loose_good = limits_good loose_file (lit≤ tt) (each_of_two _ (lit≤ tt) (lit≤ tt)) (each_of_two _ refl refl)

-- ---- an exact guess
abbrev one_entry : ℕ → List ℤ
one_entry k = pos k ∷ []

abbrev mark_net : Problem
mark_net = problem_of 1 4 4 (one_entry 1) (one_entry 0) (one_entry 0) (one_entry 0) (one_entry 16) (one_entry 1)

pub mark_exact : ExactGuess mark_net
unfolding apply sum
mark_exact = record { solves = record { positive = lit≤ tt; solves = only _ refl }; no_tolerance = only _ refl }

pub mark_zero : bound mark_net 0 ≡ 0
unfolding apply product identity sum sumℕ defect load margin
mark_zero = (limits_good mark_net (lit≤ tt) (only _ (lit≤ tt)) (only _ refl)).solution.exact_zero mark_exact 0 (lit≤ tt)
