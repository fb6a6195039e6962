-- Rows of C as parts of its list, and lists copied.
--   row_bounded — each number of a row, taken as a part of the list, is within the row's bound
--   row_total — the sum along that part and the limits is the slack's sum along the row
--   front_copied — a front of one list in place of the front of another
use Rattle.std.proofs.Common.{◌≡◌, refl, sym, ap, ◌∙◌, List, ◌++◌, ℕ, zero, suc, ◌+◌, ◌*◌, ◌≤◌, ◌<◌, ℤ, pos, nat_abs, length, get_or, set, take, drop, min, arith, add-one, zero-add, length-take}
use Rattle.std.specs.List.{between, sum_by, zip}
use Rattle.std.proofs.lemmas.List.{take_all, get_or_default}
use Rattle.std.proofs.lemmas.List.Edits.{get_or-between, length-between, paste_more}
use Rattle.std.proofs.lemmas.List.Sums.{sum_by_more}
use Rattle.std.proofs.lemmas.Slice.Zip.{length-zip, get_or-zip}
use Rattle.integer.specs.Finite.{sumℕ}
use Rattle.integer.proofs.Sum.{sumℕ_next, sumℕ_ext}
use Rattle.linear.specs.Place.{Carried}
use Rattle.linear.specs.Reach.{Reach}
use Rattle.linear.specs.Slice.{at}
use Rattle.linear.specs.Written.{written}
use Rattle.dependent_coupling.specs.Carried.{limit_cap, capped_term, capped_sum}

front_total : {A : Type 0} (f : A → ℕ) (d : A) (xs : List A) (n : ℕ) → n ≤ length xs → sum_by f (take n xs) ≡ sumℕ n (λ (j : ℕ). f (get_or xs j d))
unfolding sumℕ
front_total f d xs zero h = refl
front_total f d xs (suc n) h =
    rw (← add-one) (omega (arith, sum_by_more f xs n d (omega arith), sumℕ_next n (λ (j : ℕ). f (get_or xs j d)), front_total f d xs n (omega arith)))

room : {xs : List ℤ} {k row b : ℕ} (marks : ℕ) → Carried 0 marks k row → Reach xs (k * marks) 1 marks b → row + marks ≤ length xs
room zero start h = omega arith
room (suc m) start h = omega (arith, h.inside m (omega arith))

module _ {xs : List ℤ} {k marks row b : ℕ} (start : Carried 0 marks k row) (h : Reach xs (k * marks) 1 marks b) where
  pub row_bounded : (j : ℕ) (d : ℤ) → j < length (between row (row + marks) xs) → nat_abs (get_or (between row (row + marks) xs) j d) ≤ b
  row_bounded j d l =
      let p : j < marks = omega (arith, length-take {A = ℤ}) in
      let e : row + j ≡ k * marks + j * 1 = omega arith in
      rw (get_or-between xs row (row + marks) j d (omega arith), e, get_or_default xs (k * marks + j * 1) d (pos 0) (h.inside j p)) (h.magnitudes j p)

  pub row_total : (es : List ℕ) → marks ≤ length es → sum_by capped_term (zip (between row (row + marks) xs) es) ≡ capped_sum marks xs es k
  row_total es m =
      let ks : List ℤ = between row (row + marks) xs in
      let long : length ks ≡ marks = omega (arith, length-between xs row (row + marks) (room marks start h)) in
      let term : (j : ℕ) → j < marks → capped_term (get_or (zip ks es) j (pos 0, 0)) ≡ nat_abs (at xs (k * marks + j)) * min (get_or es j 0) limit_cap =
      λ j l.
      let e : row + j ≡ k * marks + j = omega arith in
      rw (get_or-zip ks es j (pos 0, 0) (omega arith) (omega arith), get_or-between xs row (row + marks) j (pos 0) (omega arith), e) refl in
      ap (sum_by capped_term) (sym (take_all marks (zip ks es) (omega (arith, length-zip ks es))))
      ∙ front_total capped_term (pos 0, 0) (zip ks es) marks (omega (arith, length-zip ks es))
      ∙ sumℕ_ext marks _ _ term

pub front_copied : (d s : List ℕ) (n : ℕ) → n ≤ length d → n ≤ length s → take n s ++ drop n d ≡ written d 0 1 (λ (i : ℕ). get_or s i 0) n
unfolding written
front_copied d s zero h k = refl
front_copied d s (suc n) h k =
    let e : 0 + n * 1 ≡ n = omega arith in
    let step : set (take n s ++ drop n d) n (get_or s n 0) ≡ take (n + 1) s ++ drop (n + 1) d =
    simp zero-add at (paste_more d 0 s n 0 (omega arith) (omega arith)) in
    rw (e, ← front_copied d s n (omega arith) (omega arith), step, add-one) refl
