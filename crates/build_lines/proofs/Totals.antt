-- Laws of sums over lines, and of the distinct lines.
--   distinct_among, distinct_length — the distinct lines are among the lines, and no more
--   total_ext, total-+, total-*, total-*r, total_swap — equal terms, sums, factors left and right, exchange with a sum over places
--   abs_total — |Σ f| ≤ count · b where every |f l| ≤ b
use mathlib.Core.Path.{◌≡◌, refl, sym, ◌∙◌}
use mathlib.Core.Bool.{Bool, true, false, cond}
use mathlib.Core.List.{List, [], ◌∷◌}
use Prim.Native.Nat.{ℕ, suc, ◌*◌, ◌≤◌}
use native.Mathlib.Nat.{suc-mul}
use native.Mathlib.Omega.{arith}
use lib.IntN.{ℤ, nat_abs, ◌+ℤ◌, ◌*ℤ◌}
use lib.ListN.{length}
use Rattle.integer.specs.Finite.{sum}
use Rattle.integer.proofs.Absolute.{abs-+}
use Rattle.integer.proofs.Ring.{ring, zero-*, *-zero}
use Rattle.integer.proofs.Sum.{sum-+, sum_zero}
use Rattle.build_lines.specs.declared.Observation.{Observation}
use Rattle.build_lines.specs.Line.{has_key}
use Rattle.build_lines.specs.Distinct.{distinct_after, total}
use Rattle.integer.specs.Among.{Among, here, there}
use Rattle.build_lines.proofs.Members.{either}

same_among : {l x : Observation} {ls : List Observation} → l ≡ x → Among l (x ∷ ls)
same_among e = rw e here

pub distinct_among : (es ls : List Observation) (l : Observation) → Among l (distinct_after es ls) → Among l ls
unfolding distinct_after
distinct_among es [] l i = i
distinct_among es (x ∷ ls) l i = go (has_key es x.key) i (distinct_among (x ∷ es) ls l)
  where
    go : (b : Bool) → Among l (cond b (distinct_after (x ∷ es) ls) (x ∷ distinct_after (x ∷ es) ls)) → (Among l (distinct_after (x ∷ es) ls) → Among l ls) → Among l (x ∷ ls)
    go true j ih = there (ih j)
    go false j ih = either j same_among (λ k. there (ih k))

pub distinct_length : (es ls : List Observation) → length (distinct_after es ls) ≤ length ls
unfolding distinct_after
distinct_length es [] = omega arith
distinct_length es (x ∷ ls) = go (has_key es x.key) (distinct_length (x ∷ es) ls)
  where
    go : (b : Bool) → length (distinct_after (x ∷ es) ls) ≤ length ls → length (cond b (distinct_after (x ∷ es) ls) (x ∷ distinct_after (x ∷ es) ls)) ≤ suc (length ls)
    go true h = omega arith
    go false h = omega arith

pub total_ext : (f g : Observation → ℤ) (ls : List Observation) → ((l : Observation) → Among l ls → f l ≡ g l) → total f ls ≡ total g ls
unfolding total
total_ext f g [] h = refl
total_ext f g (l ∷ ls) h = rw (h l here, total_ext f g ls (λ m i. h m (there i)))

pub total-+ : (f g : Observation → ℤ) (ls : List Observation) → total (λ (l : Observation). f l +ℤ g l) ls ≡ total f ls +ℤ total g ls
unfolding total
total-+ f g [] = refl
total-+ f g (l ∷ ls) = rw (total-+ f g ls) (simp ring)

pub total-* : (k : ℤ) (f : Observation → ℤ) (ls : List Observation) → total (λ (l : Observation). k *ℤ f l) ls ≡ k *ℤ total f ls
unfolding total
total-* k f [] = sym (*-zero k)
total-* k f (l ∷ ls) = rw (total-* k f ls) (simp ring)

pub total-*r : (k : ℤ) (f : Observation → ℤ) (ls : List Observation) → total (λ (l : Observation). f l *ℤ k) ls ≡ total f ls *ℤ k
unfolding total
total-*r k f [] = sym (zero-* k)
total-*r k f (l ∷ ls) = rw (total-*r k f ls) (simp ring)

pub total_swap : (n : ℕ) (f : ℕ → Observation → ℤ) (ls : List Observation) → sum n (λ (i : ℕ). total (f i) ls) ≡ total (λ (l : Observation). sum n (λ (i : ℕ). f i l)) ls
unfolding total
total_swap n f [] = sum_zero n
total_swap n f (l ∷ ls) = sum-+ n (λ (i : ℕ). f i l) (λ (i : ℕ). total (f i) ls) ∙ rw (total_swap n f ls)

pub abs_total : (b : ℕ) (f : Observation → ℤ) (ls : List Observation) → ((l : Observation) → Among l ls → nat_abs (f l) ≤ b) → nat_abs (total f ls) ≤ length ls * b
unfolding total
abs_total b f [] h = omega arith
abs_total b f (l ∷ ls) h = omega (arith, suc-mul (length ls) b, abs_total b f ls (λ m i. h m (there i)), abs-+ (f l) (total f ls), h l here)
