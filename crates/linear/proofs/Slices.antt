-- A part of a list, &xs[p..p + n].
--   slice_read — number k of it, as the machine reads it, is number p + k of the list
--   reach_read — a number within reach, by way of the place that was carried to it, as the machine reads it
--   slice_sum — a sum over it as a sum over its places
--   placed_length, placed_at, placed_below, placed_above — after the part was written
use Rattle.std.proofs.Common.{◌≡◌, refl, ap, ◌∙◌, List, ℕ, zero, suc, ◌+◌, ◌-◌, ◌*◌, ◌≤◌, ◌<◌, ◌^◌, ℤ, nat_abs, length, get_or, arith, rules, w64, to_z, of_z}
use Rattle.std.specs.List.{between, sum_by}
use Rattle.std.proofs.lemmas.Int.{to_z-of_z}
use Rattle.std.proofs.lemmas.List.{places}
use borrow.Rule.Slice.PartMut.{put_mid}
use Rattle.std.proofs.lemmas.List.Edits.{get_or-between, between_more}
use Rattle.std.proofs.lemmas.List.Sums.{sum_by_push}
use Rattle.integer.specs.Finite.{sumℕ}
use Rattle.integer.proofs.Machine.{small}
use Rattle.linear.specs.Slice.{at}
use Rattle.linear.specs.Place.{Carried}
use Rattle.linear.specs.Reach.{Reach}

pub slice_read : (xs : List ℤ) (p n k : ℕ) → k < n → nat_abs (at xs (p + k)) < 2 ^ 63 → to_z w64 (of_z w64 (at (between p (p + n) xs) k)) ≡ at xs (p + k)
slice_read xs p n k l h =
    ap (λ (z : ℤ). to_z w64 (of_z w64 z)) (get_or-between xs p (p + n) k _ (omega arith)) ∙ to_z-of_z w64 (at xs (p + k)) (small (at xs (p + k)) h)

pub reach_read : {xs : List ℤ} {p s n b j place : ℕ} → Reach xs p s n b → b < 2 ^ 63 → Carried p s j place → j < n → to_z w64 (of_z w64 (at xs place)) ≡ at xs (p + j * s)
reach_read {xs} {p} {s} {j = j} h small_b e l = rw e.is (to_z-of_z w64 (at xs (p + j * s)) (small (at xs (p + j * s)) (omega (arith, h.magnitudes j l))))

pub slice_sum : {A : Type 0} (f : A → ℕ) (d : A) (xs : List A) (p n : ℕ) → p + n ≤ length xs → sum_by f (between p (p + n) xs) ≡ sumℕ n (λ (j : ℕ). f (get_or xs (p + j) d))
unfolding sumℕ
slice_sum f d xs p zero h = let e : p + 0 - p ≡ 0 = omega arith in rw e refl
slice_sum f d xs p (suc n) h =
    let e : p + suc n ≡ p + n + 1 = omega arith in
    rw (e, between_more xs p (p + n) d (omega arith) (omega arith), sum_by_push f (between p (p + n) xs) (get_or xs (p + n) d)) (rw (slice_sum f d xs p n (omega arith)))

-- ---- after numbers were written to the part: the list holds ys there
module _ {A : Type 0} (xs ys : List A) (p n : ℕ) (long : length ys ≡ n) (room : p + n ≤ length xs) where
  pub placed_length : length (put_mid p (p + n - p) xs ys) ≡ length xs
  placed_length = search (rules, places)

  pub placed_at : (d : A) (j : ℕ) → j < n → get_or (put_mid p (p + n - p) xs ys) (p + j) d ≡ get_or ys j d
  placed_at d j l = search (rules, places)

  pub placed_below : (d : A) (i : ℕ) → i < p → get_or (put_mid p (p + n - p) xs ys) i d ≡ get_or xs i d
  placed_below d i l = search (rules, places)

  pub placed_above : (d : A) (i : ℕ) → p + n ≤ i → get_or (put_mid p (p + n - p) xs ys) i d ≡ get_or xs i d
  placed_above d i l = search (rules, places)
