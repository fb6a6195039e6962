-- From two checks and what is made of their limits to the contract.
--   short_low, short_high, long_both — 8, by the lengths of the interval lists
--   code_refused, code_accepted — what a check by value says, by its outcome
--   limit_is — its limits are those of the reckoning
--   equations_ready, meeting_ready — what the comparison and the ends ask
--   common_met — the contract, where both are accepted and of the same equations
use mathlib.Core.Path.{◌≡◌, sym, ap, ap₂, subst, ◌∙◌}
use mathlib.Core.Bool.{Bool, true, false, ◌||◌}
use mathlib.Core.List.{List, []}
use Prim.Native.Nat.{ℕ, ◌-◌, ◌≤◌, ◌<◌, ◌^◌}
use borrow.Author.Tests.{lt-ltb, le-ltb}
use lib.Dec.{ltb}
use lib.IntN.{ℤ}
use lib.ListN.{get_or, length}
use Rattle.integer.specs.Finite.{largest}
use Rattle.integer.proofs.Search.{largest_ext}
use Rattle.linear.specs.Reach.{ColumnList}
use Rattle.linear.proofs.Written.{written_ext}
use Rattle.rules.specs.Refusal.{code}
use Rattle.std.specs.Prelude.{Ok, Err}
use Rattle.rules.specs.declared.Refusal.{Refusal}
use Rattle.rules.proofs.Ranges.{neither}
use Rattle.enclosure.specs.Reckoning.{bound}
use Rattle.check_spec.specs.Input.{Input, problem}
use Rattle.check_spec.specs.Order.{answer}
use Rattle.check_spec.proofs.Fit.{Fit}
use Rattle.check_spec.specs.Stated.{LongEnough}
use Rattle.check_spec.proofs.Lengths.{long_of}
use Rattle.check_spec.proofs.Statements.{accepted_usable}
use Rattle.check_spec.proofs.Written.{solution_written, accepted_fit, solution_at}
use Rattle.common_spec.specs.Answer.{Common, CommonAs}
use Rattle.common_spec.specs.Ends.{finer, low_end, high_end}
use Rattle.common_spec.specs.Proposals.{Proposals, short_intervals, same_equations, most_steps, is_too_wide}
use Rattle.common_spec.proofs.Contract.{long_low, long_high, common_wide, common_found}
use Rattle.common_spec.proofs.Equations.{same_of}
use Rattle.common_ends.specs.Met.{limit_at, wide_limits, lows_of, highs_of, Met, too_wide, narrow}
use Rattle.check_held.specs.Held.{HeldAs}
use Rattle.check_held.specs.declared.Held.{Held}

module _ (Q : Proposals) where
  pub short_low : length Q.low < 32 → short_intervals Q ≡ true
  short_low l = rw (lt-ltb (length Q.low) 32 l)

  pub short_high : 32 ≤ length Q.low → length Q.high < 32 → short_intervals Q ≡ true
  short_high l h = rw (le-ltb (length Q.low) 32 l, lt-ltb (length Q.high) 32 h)

  pub long_both : 32 ≤ length Q.low → 32 ≤ length Q.high → short_intervals Q ≡ false
  long_both l h = neither (le-ltb (length Q.low) 32 l) (le-ltb (length Q.high) 32 h)

module _ (I : Input) (c : Held) (x : HeldAs I c) where
  pub code_refused : (r : Refusal) → c.outcome ≡ Err r → code (Err r) ≡ answer I
  code_refused r e = ap code (sym e) ∙ x.says

  pub code_accepted : c.outcome ≡ Ok tt → answer I ≡ []
  code_accepted e = sym x.says ∙ ap code e

module _ (I : Input) (a : answer I ≡ []) where
  pub fit : Fit I
  fit = accepted_fit I a

  pub long : LongEnough I
  long = long_of I (accepted_usable I a).long

  pub limit_is : (c : Held) → HeldAs I c → (i : ℕ) → i < I.n → limit_at c.solution i ≡ bound (problem I) i
  limit_is c x i l =
      ap (λ (E : List ℕ). get_or E i 0) (x.solution_bounds ∙ solution_written I a)
      ∙ solution_at I fit i l

pub equations_ready : (I J : Input) → answer I ≡ [] → answer J ≡ [] →
    ((I.n ≤ 32) × ((1024 ≤ length I.matrix) × (1024 ≤ length J.matrix)))
    × (((32 ≤ length I.right) × (32 ≤ length J.right)) × ((32 ≤ length I.tolerance) × (32 ≤ length J.tolerance)))
equations_ready I J a b =
    let l = long I a in
    let m = long J b in
    (((fit I a).n_max, (l.matrix, m.matrix)), ((l.right, m.right), (l.tolerance, m.tolerance)))

pub meeting_ready : (Q : Proposals) → short_intervals Q ≡ false → answer Q.first ≡ [] → answer Q.second ≡ [] → same_equations Q.first Q.second ≡ true →
    ((Q.first.n ≤ 32) × ((Q.first.n ≤ length Q.low) × (Q.first.n ≤ length Q.high)))
    × (((Q.first.s ≤ 20) × (Q.second.s ≤ 20)) × (ColumnList Q.first.guess Q.first.n (2 ^ 36) × ColumnList Q.second.guess Q.first.n (2 ^ 36)))
meeting_ready Q e a b s =
    let f = fit Q.first a in
    let g = fit Q.second b in (
      (f.n_max, (long_low Q e a, long_high Q e a)),
      ((f.solution_scale, g.solution_scale), (f.guess, subst (λ (n : ℕ). ColumnList Q.second.guess n (2 ^ 36)) (sym (same_of Q.first Q.second s).n) g.guess)),
    )

module _ (Q : Proposals) (c d : Held) (x : HeldAs Q.first c) (y : HeldAs Q.second d) (e : short_intervals Q ≡ false)
    (a : answer Q.first ≡ []) (b : answer Q.second ≡ []) (s : same_equations Q.first Q.second ≡ true) where
  abbrev I : Input
  I = Q.first

  abbrev J : Input
  J = Q.second

  abbrev n : ℕ
  n = Q.first.n

  same_n : Q.first.n ≡ Q.second.n
  same_n = (same_of Q.first Q.second s).n

  first_limit : (i : ℕ) → i < n → limit_at c.solution i ≡ bound (problem I) i
  first_limit = limit_is I a c x

  second_limit : (i : ℕ) → i < n → limit_at d.solution i ≡ bound (problem J) i
  second_limit i l = limit_is J b d y i (rw (sym same_n) l)

  first_wide : wide_limits n c.solution ≡ is_too_wide I
  first_wide = ap (ltb most_steps) (largest_ext n (limit_at c.solution) (bound (problem I)) first_limit)

  second_wide : wide_limits n d.solution ≡ is_too_wide J
  second_wide = ap (ltb most_steps) (largest_ext n (limit_at d.solution) (bound (problem J)) second_limit ∙ ap (λ (k : ℕ). largest k (bound (problem J))) same_n)

  wide_same : (wide_limits n c.solution || wide_limits n d.solution) ≡ (is_too_wide I || is_too_wide J)
  wide_same = ap₂ (λ (p q : Bool). p || q) first_wide second_wide

  abbrev k : ℕ
  k = finer I J - I.s

  abbrev k' : ℕ
  k' = finer I J - J.s

  low_same : (i : ℕ) → i < n → lows_of k I.guess c.solution k' J.guess d.solution i ≡ low_end I J i
  unfolding low_end
  low_same i l = rw (first_limit i l, second_limit i l)

  high_same : (i : ℕ) → i < n → highs_of k I.guess c.solution k' J.guess d.solution i ≡ high_end I J i
  unfolding high_end
  high_same i l = rw (first_limit i l, second_limit i l)

  pub common_met : {r : Common} {low high : List ℤ} → Met n I.s I.guess c.solution J.s J.guess d.solution Q.low Q.high r low high → CommonAs Q r low high
  common_met (too_wide w) = common_wide Q e a b s (sym wide_same ∙ w)
  common_met (narrow low high w l h) =
      common_found Q e a b s (sym wide_same ∙ w)
      (l ∙ written_ext Q.low 0 1 (lows_of k I.guess c.solution k' J.guess d.solution) (low_end I J) n low_same)
      (h ∙ written_ext Q.high 0 1 (highs_of k I.guess c.solution k' J.guess d.solution) (high_end I J) n high_same)
