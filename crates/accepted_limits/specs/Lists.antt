-- The limits that a call on lists leaves, as good limits (good_limits/specs/Good).
--   GoodLists I E L    — the lists E and L after a check of I are good: E_i at place i, the limit of row i and column j of the inverse at place i·n + j
--   OneStepLists I E L — every limit in them is 0 or 1
use Rattle.std.specs.Prelude.{List, ℕ, ◌+◌, ◌*◌, get_or}
use Rattle.check_spec.specs.Input.{Input, problem}
use Rattle.good_limits.specs.Good.{OneStep, Good}

abbrev pub GoodLists : Input → List ℕ → List ℕ → Type 0
GoodLists I E L = Good (problem I) (λ (i : ℕ). get_or E i 0) (λ (i j : ℕ). get_or L (i * I.n + j) 0)

abbrev pub OneStepLists : Input → List ℕ → List ℕ → Type 0
OneStepLists I E L = OneStep I.n (λ (i : ℕ). get_or E i 0) (λ (i j : ℕ). get_or L (i * I.n + j) 0)
