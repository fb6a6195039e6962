-- The lines for a problem of a complete file (01: "Refused for what was handed in", 5 to 7, and "A whole file").
--   reported_of P — the report, with the limits of the reckoning
--   line_or numbers rest — the line of a refusal with these numbers; the rest where there are none
-- The problem that a file's forms give: n, s and t, and each number of a list from the form of its part for its row, whatever the order of the forms.
--   problem_from fs — it; rows count from 0 here and from 1 in the forms
use Rattle.std.specs.Prelude.{List, ℕ, suc, nat_abs}
use Rattle.rules.specs.Order.{if_accepted}
use Rattle.enclosure.specs.Problem.{Problem}
use Rattle.enclosure.specs.Reckoning.{bound, inverse_bound}
use Rattle.listing_report.specs.Report.{report_of}
use Rattle.listing_refusal.specs.Refused.{refused_of}
use Rattle.line_form.specs.Form.{Form}
use Rattle.loader_lists.specs.Slot.{Matrix, Right, Tolerance, Guess, Inverse, Weight}
use Rattle.loader_runs.specs.Given.{value_from, size_from, scales_from}

abbrev pub reported_of : Problem → List ℕ
reported_of P = report_of P.n P.s P.X (bound P) (inverse_bound P)

abbrev pub line_or : List ℕ → List ℕ → List ℕ
line_or numbers rest = if_accepted numbers rest (refused_of numbers)

abbrev pub problem_from : List Form → Problem
problem_from fs = record {
  n = size_from fs;
  s = (scales_from fs).solution;
  t = (scales_from fs).inverse;
  A = λ (i j : ℕ). value_from fs Matrix (suc i) j;
  b = λ (i : ℕ). value_from fs Right (suc i) 0;
  d = λ (i : ℕ). nat_abs (value_from fs Tolerance (suc i) 0);
  X = λ (i : ℕ). value_from fs Guess (suc i) 0;
  G = λ (i j : ℕ). value_from fs Inverse (suc i) j;
  w = λ (i : ℕ). nat_abs (value_from fs Weight (suc i) 0);
}
