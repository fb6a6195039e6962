-- What the report's code asks and writes in its steps; cited by the contracts inside.
--   Reportable n s X E L — n and s are in their ranges, the lists long enough, and the guesses at most 2^36 in absolute value
--   report_in        — the report of numbers that stand in lists
--   block_line       — the line of row i in one of the report's three blocks;  most_of — how long it is at most
use Rattle.std.specs.Prelude.{List, ℕ, ◌+◌, ◌*◌, ◌≤◌, ◌<◌, ◌^◌, ℤ, nat_abs, length, get_or}
use Rattle.linear.specs.Slice.{at}
use Rattle.listing_report.specs.declared.Block.{Block}
use Rattle.listing_report.specs.declared.Block.TheVariants.{Solution, Entry, Inverse}
use Rattle.listing_report.specs.Report.{solution_line, entry_line, inverse_line, report_of}

pub record Reportable (n s : ℕ) (X : List ℤ) (E L : List ℕ) : Type 0 where
  pub n_max : n ≤ 32
  pub scale : s ≤ 20
  pub guess_long : n ≤ length X
  pub solution_long : n ≤ length E
  pub inverse_long : n * n ≤ length L
  pub guess : (i : ℕ) → i < n → nat_abs (at X i) ≤ 2 ^ 36

abbrev pub report_in : ℕ → ℕ → List ℤ → List ℕ → List ℕ → List ℕ
report_in n s X E L = report_of n s (at X) (λ (i : ℕ). get_or E i 0) (λ (i j : ℕ). get_or L (i * n + j) 0)

abbrev pub block_line : Block → ℕ → ℕ → List ℤ → List ℕ → List ℕ → ℕ → List ℕ
block_line Solution n s X E L i = solution_line (at X) (λ (k : ℕ). get_or E k 0) i
block_line Entry n s X E L i = entry_line s (at X) (λ (k : ℕ). get_or E k 0) i
block_line Inverse n s X E L i = inverse_line n (λ (k j : ℕ). get_or L (k * n + j) 0) i

abbrev pub most_of : Block → ℕ
most_of Solution = 76
most_of Entry = 76
most_of Inverse = 707
