-- Problems that agree on the first n numbers of each list have the same report.
--   report_same, reported_same — a report from equal numbers, and that of such problems
use mathlib.Core.Path.{◌≡◌, ap}
use mathlib.Core.List.{List, ◌++◌}
use Prim.Native.Nat.{ℕ, ◌+◌, ◌<◌}
use lib.IntN.{ℤ}
use Rattle.enclosure.specs.Problem.{Problem}
use Rattle.enclosure.specs.Reckoning.{bound, inverse_bound}
use Rattle.enclosure.proofs.Agreement.{Agreeing, over, bound_same}
use Rattle.line_numeral.specs.Decimal.{decimal}
use Rattle.listing_text.specs.Line.{gap, numbers, line_opening, line_closing}
use Rattle.listing_text.proofs.Each.{each_ext}
use Rattle.listing_report.specs.Report.{solution_line, entry_line, inverse_line, report_of}
use Rattle.line_form.specs.Form.{bytes}
use Rattle.check_spec.proofs.Agreement.{inverse_same}
use Rattle.file_check.specs.Judged.{reported_of}

-- ---- a report has only the first n numbers
module _ (n s : ℕ) (X X' : ℕ → ℤ) (E E' : ℕ → ℕ) (L L' : ℕ → ℕ → ℕ) (h_x : (i : ℕ) → i < n → X i ≡ X' i) (h_e : (i : ℕ) → i < n → E i ≡ E' i)
    (h_l : (i j : ℕ) → i < n → j < n → L i j ≡ L' i j) where
  row_same : (i : ℕ) → i < n → numbers n (L i) ≡ numbers n (L' i)
  row_same i l = each_ext n (λ (j : ℕ). gap j ++ decimal (L i j)) (λ (j : ℕ). gap j ++ decimal (L' i j)) (λ j lj. rw (h_l i j l lj))

  pub report_same : report_of n s X E L ≡ report_of n s X' E' L'
  unfolding report_of
  report_same =
      rw (
        each_ext n (solution_line X E) (solution_line X' E') (λ i l. rw (h_x i l, h_e i l)),
        each_ext n (entry_line s X E) (entry_line s X' E') (λ i l. rw (h_x i l, h_e i l)),
        each_ext n (inverse_line n L) (inverse_line n L') (λ i l. ap (λ (t : List ℕ). line_opening (bytes "(inverse ") (i + 1) ++ t ++ line_closing) (row_same i l)),
      )

pub reported_same : (P Q : Problem) → Agreeing P Q → reported_of P ≡ reported_of (over P Q)
reported_same P Q a =
    report_same P.n P.s P.X Q.X (bound P) (bound (over P Q)) (inverse_bound P) (inverse_bound (over P Q)) a.guess (bound_same P Q a) (inverse_same P Q a)
