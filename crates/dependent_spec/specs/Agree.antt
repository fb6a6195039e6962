-- Two calls of the check of two nets that agree on the places used, and what holds of them alike: the rest of each list is not read.
--   AgreeingNets J K — n, s, t and the first numbers of every list are the same, of both nets and of C, in lists that are long enough
--   SameTogether J r r' .. — the same is said of both, and where nothing is said the first places of the four limit lists are the same
--   RestKept J E₁ L₁ E₂ L₂ — past the first n, or n × n, places the four limit lists are as they were
use Rattle.std.specs.Prelude.{false, List, [], ◌≡◌, ℕ, ◌*◌, ◌≤◌, ◌<◌, get_or, length}
use Rattle.linear.specs.Slice.{at}
use Rattle.rules.specs.Range.{short_matrix}
use Rattle.check_spec.specs.Agree.{Agree}
use Rattle.dependent_spec.specs.Order.{CheckedNets, nets_code}
use Rattle.dependent_spec.specs.Nets.{Nets}

pub record AgreeingNets (J K : Nets) : Type 0 where
  pub main : Agree J.main K.main
  pub dependent : Agree J.dependent K.dependent
  pub long : short_matrix (length J.coupling) ≡ false
  pub long' : short_matrix (length K.coupling) ≡ false
  pub coupling : (k : ℕ) → k < J.dependent.n * J.main.n → at J.coupling k ≡ at K.coupling k

-- the first n numbers of two lists are the same
abbrev pub SameFirst : ℕ → List ℕ → List ℕ → Type 0
SameFirst n xs ys = (i : ℕ) → i < n → get_or xs i 0 ≡ get_or ys i 0

pub record SameTogether (J : Nets) (r r' : CheckedNets) (E₁ L₁ E₂ L₂ E₁' L₁' E₂' L₂' : List ℕ) : Type 0 where
  pub says : nets_code r ≡ nets_code r'
  pub main_solution : nets_code r ≡ [] → SameFirst J.main.n E₁ E₁'
  pub main_inverse : nets_code r ≡ [] → SameFirst (J.main.n * J.main.n) L₁ L₁'
  pub dependent_solution : nets_code r ≡ [] → SameFirst J.dependent.n E₂ E₂'
  pub dependent_inverse : nets_code r ≡ [] → SameFirst (J.dependent.n * J.dependent.n) L₂ L₂'

-- past its first n numbers a list is as another
abbrev pub SameRest : ℕ → List ℕ → List ℕ → Type 0
SameRest n xs ys = (i : ℕ) → n ≤ i → get_or xs i 0 ≡ get_or ys i 0

pub record RestKept (J : Nets) (E₁ L₁ E₂ L₂ : List ℕ) : Type 0 where
  pub main_solution : SameRest J.main.n E₁ J.main.solution_bounds
  pub main_inverse : SameRest (J.main.n * J.main.n) L₁ J.main.inverse_bounds
  pub dependent_solution : SameRest J.dependent.n E₂ J.dependent.solution_bounds
  pub dependent_inverse : SameRest (J.dependent.n * J.dependent.n) L₂ J.dependent.inverse_bounds
