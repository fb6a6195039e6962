-- Theorem (b): in a list that builds, a copy of any of its lines at any place changes nothing.
--   repeated_builds — the longer list builds, with the same matrix and the same right side, while it is at most 256 long
use mathlib.Core.Path.{◌≡◌, sym, subst}
use mathlib.Core.Bool.{Bool}
use mathlib.Core.List.{List, [], ◌∷◌, ◌++◌}
use Prim.Native.Nat.{ℕ, ◌+◌, ◌≤◌}
use lib.ListN.{length}
use Rattle.build_lines.specs.declared.Observation.{Observation}
use Rattle.build_lines.specs.Order.{build_answer}
use Rattle.build_lines.specs.Distinct.{weight_at, gain}
use Rattle.build_lines.specs.Repeated.{SameBuilt}
use Rattle.integer.specs.Among.{Among}
use Rattle.build_lines.proofs.Members.{joined}
use Rattle.build_lines.proofs.Lines.{builds_fits, fits_builds}
use Rattle.build_lines.proofs.Repeat.{repeated_total}

pub repeated_builds : (n : ℕ) (short : Bool) (l : Observation) (xs ys : List Observation) → build_answer n (xs ++ ys) short ≡ [] → Among l (xs ++ ys) → length (xs ++ l ∷ ys) ≤ 256 →
    SameBuilt n (xs ++ ys) (xs ++ l ∷ ys) short
repeated_builds n short l xs ys e i count_max =
    let t = builds_fits n (xs ++ ys) short e in
    let u = t.0 in
    let w = t.1 in
    let own : (m : Observation) → Among m (xs ++ l ∷ ys) → Among m (xs ++ ys) = λ m j. joined xs ys j (λ p. subst (λ (z : Observation). Among z (xs ++ ys)) (sym p) i) (λ k. k) in
    record {
      builds =
          fits_builds n (xs ++ l ∷ ys) short (record { long = u.long; size = u.size; count_max = count_max })
          (record { good = λ m j. w.good m (own m j); one = λ x y j k. w.one x y (own x j) (own y k) });
      matrix = λ r c. repeated_total (weight_at (r + 1) (c + 1)) l xs ys [] i (λ y j k. w.one y l j i k);
      right = λ r. repeated_total (gain (r + 1)) l xs ys [] i (λ y j k. w.one y l j i k);
    }
