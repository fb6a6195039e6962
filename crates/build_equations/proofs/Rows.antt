-- Laws of a row summed over the kept lines.
--   row_none, row_next, row_end — for the loop over the lines;  row_small — a row over some of them has room for one more
--   row_matrix, row_right — the row over all of them is that of the equations
use mathlib.Core.Path.{◌≡◌, refl, sym, ap, subst, ◌∙◌}
use Prim.Native.Nat.{ℕ, ◌+◌, ◌≤◌, ◌<◌, ◌^◌}
use native.Mathlib.Nat.{le_antisymm, mul-le-mul, mul-le-mul_right}
use native.Mathlib.Omega.{arith}
use lib.IntN.{ℤ, pos, nat_abs, ◌+ℤ◌}
use lib.ListN.{replicate, get_or-replicate}
use Rattle.integer.specs.Finite.{sum}
use Rattle.integer.proofs.Sum.{sum_none, sum_next, abs_sum≤}
use Rattle.linear.specs.Slice.{at}
use Rattle.build_lines.specs.Distinct.{weight_at, gain}
use Rattle.build_lines.proofs.Net.{weight_at_magnitude, gain_magnitude}
use Rattle.build_gathering.specs.declared.Gathered.{Gathered}
use Rattle.build_gathering.specs.declared.KeptLines.{KeptLines}
use Rattle.build_gathering.specs.Gathered.{line_at, ProperLines}
use Rattle.build_equations.specs.declared.Row.{Row}
use Rattle.build_equations.specs.Kept.{RowSums, Grown, SmallRow, kept_matrix, kept_right}

module _ (seen : KeptLines) (k : ℕ) where
  pub row_none : RowSums seen k 0 (record { sums = replicate 33 (pos 0); right = pos 0 })
  row_none = record {
    long = refl;
    sums = λ m b. get_or-replicate 33 m (pos 0) (pos 0) (omega arith) ∙ sym (sum_none (λ (i : ℕ). weight_at k m (line_at seen i)));
    right = sym (sum_none (λ (i : ℕ). gain k (line_at seen i)));
  }

  pub row_next : (p : ℕ) {r r' : Row} → RowSums seen k p r → Grown k (line_at seen p) r r' → RowSums seen k (p + 1) r'
  row_next p o n = record {
    long = n.long;
    sums = λ m b. n.sums m b ∙ ap (λ (z : ℤ). z +ℤ weight_at k m (line_at seen p)) (o.sums m b) ∙ sym (sum_next p (λ (i : ℕ). weight_at k m (line_at seen i)));
    right = n.right ∙ ap (λ (z : ℤ). z +ℤ gain k (line_at seen p)) o.right ∙ sym (sum_next p (λ (i : ℕ). gain k (line_at seen i)));
  }

  pub row_end : {p n : ℕ} {r : Row} → p ≤ n → n ≤ p → RowSums seen k p r → RowSums seen k n r
  row_end {r = r} p q o = subst (λ (i : ℕ). RowSums seen k i r) (le_antisymm p q) o

  pub row_small : {c : ℕ} → ProperLines seen c → {p : ℕ} {r : Row} → p ≤ c → RowSums seen k p r → SmallRow r
  row_small lines {p} {r} h o = record {
    long = o.long;
    sums = λ m b. rw (o.sums m b) (most (λ (i : ℕ). weight_at k m (line_at seen i)) (λ i c. omega (arith, weight_at_magnitude k m (line_at seen i), (lines.proper i (omega arith)).weight)));
    right = rw o.right (most (λ (i : ℕ). gain k (line_at seen i)) (λ i c. omega (arith, gain_magnitude k (line_at seen i), mul-le-mul (lines.proper i (omega arith)).weight (lines.proper i (omega arith)).difference)));
  }
    where
      most : (f : ℕ → ℤ) → ((i : ℕ) → i < p → nat_abs (f i) ≤ 2 ^ 22) → nat_abs (sum p f) ≤ 2 ^ 30
      most f s = omega (arith, abs_sum≤ p (2 ^ 22) f s, mul-le-mul_right {m = p} {n = 256} (2 ^ 22) (omega (arith, lines.count_max)))

module _ (g : Gathered) (i : ℕ) {r : Row} (o : RowSums g.seen (i + 1) g.progress.count r) where
  pub row_matrix : (j : ℕ) → j < 32 → at r.sums (j + 1) ≡ kept_matrix g i j
  row_matrix j b = o.sums (j + 1) (omega arith)

  pub row_right : r.right ≡ kept_right g i
  row_right = o.right
