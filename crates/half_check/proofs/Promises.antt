-- What a check by halves promises, from its contract.
--   own_matrix — an input with its own matrix list again is that input: `with_matrix` puts another list in the place of the matrix and of nothing else
--   half_stated — each refusal, and acceptance, is said exactly in its stated case
--   half_8 — 8 exactly where the half or another list is too short;  half_3 — n out of range is 3, whatever the half holds
--   half_encloses, half_accepts — both halves of demand 3, for the filled-out matrix
--   half_rest — two halves that agree on the first n·(n + 1)/2 numbers give the same outcome and the same limit lists
use mathlib.Core.Path.{◌≡◌, refl, sym, ap, subst, ◌∙◌}
use mathlib.Core.Bool.{Bool, true, false, not, ◌||◌}
use mathlib.Core.List.{List, [], ◌∷◌}
use mathlib.Core.Logic.{◌↔◌}
use Prim.Native.Nat.{ℕ, ◌+◌, ◌*◌, ◌<◌}
use lib.IntN.{ℤ, pos}
use lib.ListN.{get_or, length}
use Rattle.linear.specs.Matrix.{Vec, Mat}
use Rattle.linear.specs.Slice.{at}
use Rattle.rules.specs.Order.{number}
use Rattle.rules.specs.Range.{in_range}
use Rattle.rules.specs.Refusal.{code, Outcome}
use Rattle.rules.specs.declared.Kind.TheVariants as kind
use Rattle.rules.proofs.Ranges.{not_first}
use Rattle.rules.proofs.Tests.{code_exactly}
use Rattle.rules.proofs.Verdicts.{nothing_is_not}
use Rattle.enclosure.specs.Demand.{Encloses, RoundedExact}
use Rattle.check_spec.specs.Checked.{solution_bounds_after, inverse_bounds_after}
use Rattle.check_spec.specs.Input.{Input, problem, short, in_ranges}
use Rattle.check_spec.specs.Stated.{Stated}
use Rattle.check_spec.specs.Order.{answer, computed_of}
use Rattle.check_spec.proofs.Contract.{answer_short, answer_range}
use Rattle.check_spec.proofs.Statements.{stated, code_of_lem}
use Rattle.half_fill.specs.Half.{half_count, short_half}
use Rattle.half_fill.proofs.Filling.{filled_same}
use Rattle.half_check.specs.Checked.{with_matrix, filled_input, CheckedHalf}
use Rattle.half_check.specs.Stated.{HalfStated, half_too_short, as_stated}

pub own_matrix : (H : Input) → with_matrix H H.matrix ≡ H
own_matrix H = refl

-- whether the half is too short
data Length (H : Input) : Type 0 where
  under : short_half (length H.matrix) ≡ true → Length H
  enough : short_half (length H.matrix) ≡ false → Length H

half_length : (H : Input) → Length H
half_length H = go (short_half (length H.matrix)) refl
  where
    go : (b : Bool) → short_half (length H.matrix) ≡ b → Length H
    go true e = under e
    go false e = enough e

module _ (H : Input) (r : Outcome) (E L : List ℕ) (h : CheckedHalf H r E L) where
  pub half_stated : {w : List ℕ} → (code r ≡ w) ↔ HalfStated H w
  half_stated = (λ e. subst (HalfStated H) e (here (half_length H)), there)
    where
      here : Length H → HalfStated H (code r)
      here (under e) = subst (HalfStated H) (sym (h.short_half_lem e).0) (half_too_short e)
      here (enough e) = as_stated e (subst (Stated (filled_input H)) (sym (h.as_square e).says) (stated (filled_input H)))

      there : {w : List ℕ} → HalfStated H w → code r ≡ w
      there (half_too_short e) = (h.short_half_lem e).0
      there (as_stated e t) = (h.as_square e).says ∙ code_of_lem (filled_input H) t

  pub half_8 : (code r ≡ 8 ∷ []) ↔ (short_half (length H.matrix) || short (filled_input H) ≡ true)
  unfolding answer
  half_8 = go (half_length H)
    where
      go : Length H → (code r ≡ 8 ∷ []) ↔ (short_half (length H.matrix) || short (filled_input H) ≡ true)
      go (under e) = (λ _. rw e, λ _. (h.short_half_lem e).0)
      go (enough e) =
          let exact = code_exactly [] (number 8 (short (filled_input H))) (number 3 (not (in_ranges (filled_input H))) ∷ computed_of (problem (filled_input H))) refl refl in
          let s = (h.as_square e).says in
          (λ t. rw e (exact.0 (sym s ∙ t)).1, λ t. s ∙ answer_short (filled_input H) (rw e at t))

  pub half_3 : short_half (length H.matrix) ≡ false → short (filled_input H) ≡ false → in_range kind.Size (pos H.n) ≡ false → code r ≡ 3 ∷ []
  half_3 e f out = (h.as_square e).says ∙ answer_range (filled_input H) f (not_first _ (not_first _ out))

  pub half_encloses : code r ≡ [] → Encloses (problem (filled_input H)) (λ (i : ℕ). get_or E i 0) (λ (i j : ℕ). get_or L (i * H.n + j) 0)
  half_encloses t = go (half_length H)
    where
      go : Length H → Encloses (problem (filled_input H)) (λ (i : ℕ). get_or E i 0) (λ (i j : ℕ). get_or L (i * H.n + j) 0)
      go (under e) = absurd (nothing_is_not (sym (h.short_half_lem e).0 ∙ t))
      go (enough e) = (h.as_square e).encloses t

  pub half_accepts : (N : Vec) (q : ℕ) (G : Mat) (q' : ℕ) → short_half (length H.matrix) ≡ false → short (filled_input H) ≡ false → in_ranges (filled_input H) ≡ true →
      RoundedExact (problem (filled_input H)) N q G q' → code r ≡ []
  half_accepts N q G q' e = (h.as_square e).accepts N q G q'

module _ (H : Input) (other : List ℤ) (r r' : Outcome) (E L E' L' : List ℕ) where
  pub half_rest : CheckedHalf H r E L → CheckedHalf (with_matrix H other) r' E' L' → short_half (length H.matrix) ≡ false → short_half (length other) ≡ false →
      ((k : ℕ) → k < half_count H.n → at H.matrix k ≡ at other k) → (code r ≡ code r') × ((E ≡ E') × (L ≡ L'))
  half_rest h h' e e' same =
      let a = h.as_square e in
      let b = h'.as_square e' in
      let I : filled_input H ≡ filled_input (with_matrix H other) = ap (with_matrix H) (filled_same H.n H.matrix other same) in (
        a.says ∙ ap answer I ∙ sym b.says,
        (a.solution_bounds ∙ ap solution_bounds_after I ∙ sym b.solution_bounds, a.inverse_bounds ∙ ap inverse_bounds_after I ∙ sym b.inverse_bounds),
      )
