-- What is said of a check, refusal by refusal.
--   Case b A B — A where b holds, else B
--   LargeInverse I j k — the case of 7, with column j and row k
--   CaseOf I k a b — the case of the refusal k of a check, with the numbers a and b that it gives;  stated_case — what is stated has it
--   case_of_lem, code_as — what is said has its case, and what is stated is said
--   back     — a place counted from 1, counted from 0
--   never_15 — a check on lists never answers 15
use mathlib.Core.Bool.{Bool, true, false}
use mathlib.Core.List.{List, [], ◌∷◌}
use mathlib.Core.Path.{◌≡◌, ap}
use Prim.Native.Nat.{ℕ, ◌+◌, ◌-◌, ◌<◌}
use native.Mathlib.Omega.{arith}
use lib.Dec.{eqb}
use lib.ListN.{get_or}
use Rattle.rules.specs.Refusal.{code, Outcome}
use Rattle.enclosure.specs.Sound.{Margins, Residuals}
use Rattle.enclosure.specs.Problem.{column_of}
use Rattle.enclosure.specs.Reckoning.{margin_fails, exceeds}
use Rattle.check_spec.specs.Checked.{Checked}
use Rattle.check_spec.specs.Input.{Input, problem, short, in_ranges}
use Rattle.check_spec.specs.Stated.{Usable, Stated, too_short, out_of_range, margin_low, residual_large, inverse_large, accepted}
use Rattle.promises.specs.Ways.{Lowest}
use Rattle.promises.proofs.Demands.{check_refuses_as_stated}

abbrev pub LargeInverse : Input → ℕ → ℕ → Type 0
LargeInverse I j k =
    Usable I × (Margins (problem I) × (Residuals (problem I) × ((j < I.n) × (((c : ℕ) → c < j → Residuals (column_of (problem I) c)) × Lowest I.n (exceeds (column_of (problem I) j)) k))))

pub back : (m : ℕ) → m + 1 - 1 ≡ m
back m = omega arith

abbrev pub Case : Bool → Type 0 → Type 0 → Type 0
Case true A B = A
Case false A B = B

abbrev pub CaseOf : Input → ℕ → ℕ → ℕ → Type 0
CaseOf I k a b =
    Case (eqb k 8) (short I ≡ true)
    (Case (eqb k 3) ((short I ≡ false) × (in_ranges I ≡ false))
    (Case (eqb k 5) (Usable I × Lowest I.n (margin_fails (problem I)) (a - 1))
    (Case (eqb k 6) (Usable I × (Margins (problem I) × Lowest I.n (exceeds (problem I)) (a - 1)))
    (Case (eqb k 7) (LargeInverse I (a - 1) (b - 1))
    Unit))))

stated_case : (I : Input) {w : List ℕ} → Stated I w → CaseOf I (get_or w 0 0) (get_or w 1 0) (get_or w 2 0)
stated_case I (too_short p) = p
stated_case I (out_of_range p q) = (p, q)
stated_case I (margin_low m u l p h) = (u, rw (back m) (record { below = l; here = p; before = h }))
stated_case I (residual_large k u g l p h) = (u, (g, rw (back k) (record { below = l; here = p; before = h })))
stated_case I (inverse_large j k u g r lj lk p q h) = rw (back j, back k) (u, (g, (r, (lj, (q, record { below = lk; here = p; before = h })))))
stated_case I (accepted u x) = tt

module _ (I : Input) (r : Outcome) (E L : List ℕ) (x : Checked I r E L) where
  pub case_of_lem : {w : List ℕ} → code r ≡ w → CaseOf I (get_or w 0 0) (get_or w 1 0) (get_or w 2 0)
  case_of_lem {w} e = stated_case I ((check_refuses_as_stated I r E L x w).0 e)

  pub code_as : {w : List ℕ} → Stated I w → code r ≡ w
  code_as {w} y = (check_refuses_as_stated I r E L x w).1 y

pub never_15 : {I : Input} {w : List ℕ} → Stated I w → w ≡ 15 ∷ [] → ⊥
never_15 (too_short p) e = let z : ◌≡◌ {A = ℕ} 8 15 = cc in omega (arith, z)
never_15 (out_of_range p q) e = let z : ◌≡◌ {A = ℕ} 3 15 = cc in omega (arith, z)
never_15 (margin_low m u l p h) e = let z : ◌≡◌ {A = ℕ} 5 15 = cc in omega (arith, z)
never_15 (residual_large k u g l p h) e = let z : ◌≡◌ {A = ℕ} 6 15 = cc in omega (arith, z)
never_15 (inverse_large j k u g r lj lk p q h) e = let z : ◌≡◌ {A = ℕ} 7 15 = cc in omega (arith, z)
never_15 (accepted u x) e = let z : ◌≡◌ {A = ℕ} 0 15 = ap (λ (l : List ℕ). get_or l 0 0) e in omega (arith, z)
