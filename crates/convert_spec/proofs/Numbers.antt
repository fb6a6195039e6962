-- Laws of the lists of numbers that are written, and of the forms that they make.
--   size_within — n of numbers in their ranges is 1 to 32
--   along_length, along_at, along_inside, along_ext — how many, each of them, all in range, equal numbers
--   whole_list    — the first number and the others are the whole list
--   row_count, row_at, row_inside — the same of the numbers of a row, its first number and the others
--   item_for, old_for, miscounted_for, outside_for — the form of a part for a row: which it is, it is one of 01's, there are n numbers in a list, and all are in range
use mathlib.Core.Path.{◌≡◌, refl, ap, ◌∙◌}
use mathlib.Core.Bool.{true, false}
use mathlib.Core.List.{List, ◌∷◌}
use Prim.Native.Nat.{ℕ, zero, suc, ◌+◌, ◌-◌, ◌≤◌, ◌<◌}
use native.Mathlib.Omega.{arith}
use borrow.Author.Tests.{eq-eqb}
use lib.IntN.{ℤ, pos}
use lib.ListN.{length, get_or}
use Rattle.rules.specs.Range.{in_range}
use Rattle.rules.specs.declared.Kind.{Kind}
use Rattle.rules.specs.declared.Kind.TheVariants as kind
use Rattle.rules.proofs.Ranges.{both, size_range}
use Rattle.enclosure.specs.Problem.{Problem}
use Rattle.line_form.specs.List.{all_inside}
use Rattle.loader_values.specs.Item.{item_of, outside, miscounted}
use Rattle.loader_values.specs.declared.Item.TheVariants.{Of}
use Rattle.loader_values.specs.declared.Part.{Part}
use Rattle.loader_values.specs.declared.Part.TheVariants.{Row, Right, Guess, Inverse, Weight}
use Rattle.convert_spec.specs.Edition.{is_old}
use Rattle.convert_spec.specs.File.{numbers_along, form_for}
use Rattle.convert_spec.specs.Numbers.{NumbersInRange}

pub size_within : {P : Problem} → NumbersInRange P → (1 ≤ P.n) × (P.n ≤ 32)
size_within {P} w = size_range P.n w.size

along_length : (g : ℕ → ℤ) (j c : ℕ) → length (numbers_along g j c) ≡ c
unfolding numbers_along
along_length g j zero = refl
along_length g j (suc c) = ap suc (along_length g (suc j) c)

along_at : (g : ℕ → ℤ) (j c m : ℕ) → m < c → get_or (numbers_along g j c) m (pos 0) ≡ g (j + m)
unfolding numbers_along
along_at g j zero m h = absurd (omega arith)
along_at g j (suc c) zero h = ap g (omega arith)
along_at g j (suc c) (suc m) h = along_at g (suc j) c m (omega arith) ∙ ap g (omega arith)

along_inside : (k : Kind) (g : ℕ → ℤ) (n j c : ℕ) → j + c ≤ n → ((m : ℕ) → m < n → in_range k (g m) ≡ true) → all_inside k (numbers_along g j c) ≡ true
unfolding numbers_along all_inside
along_inside k g n j zero l h = refl
along_inside k g n j (suc c) l h = both (h j (omega arith)) (along_inside k g n (suc j) c (omega arith) h)

pub along_ext : (g h : ℕ → ℤ) (n j c : ℕ) → j + c ≤ n → ((m : ℕ) → m < n → g m ≡ h m) → numbers_along g j c ≡ numbers_along h j c
unfolding numbers_along
along_ext g h n j zero l e = refl
along_ext g h n j (suc c) l e = rw (e j (omega arith), along_ext g h n (suc j) c (omega arith) e)

whole_list : (g : ℕ → ℤ) (n : ℕ) → 1 ≤ n → g 0 ∷ numbers_along g 1 (n - 1) ≡ numbers_along g 0 n
unfolding numbers_along
whole_list g zero h = absurd (omega arith)
whole_list g (suc m) h = let e : suc m - 1 ≡ m = omega arith in ap (λ (c : ℕ). g 0 ∷ numbers_along g 1 c) e

-- ---- a row of n numbers
module _ (g : ℕ → ℤ) (n : ℕ) (n_pos : 1 ≤ n) where
  abbrev pub numbers : List ℤ
  numbers = g 0 ∷ numbers_along g 1 (n - 1)

  pub row_count : length numbers ≡ n
  row_count = ap length (whole_list g n n_pos) ∙ along_length g 0 n

  pub row_at : (j : ℕ) → j < n → get_or numbers j (pos 0) ≡ g j
  row_at j l = ap (λ (zs : List ℤ). get_or zs j (pos 0)) (whole_list g n n_pos) ∙ along_at g 0 n j l ∙ ap g (omega arith)

  pub row_inside : (k : Kind) → ((m : ℕ) → m < n → in_range k (g m) ≡ true) → all_inside k numbers ≡ true
  row_inside k h = ap (all_inside k) (whole_list g n n_pos) ∙ along_inside k g n 0 n (omega arith) h

-- ---- the form of a part for a row
pub item_for : (P : Problem) (p : Part) (i : ℕ) → item_of (form_for P p i) ≡ Of p (pos (suc i))
item_for P Row i = refl
item_for P Right i = refl
item_for P Guess i = refl
item_for P Inverse i = refl
item_for P Weight i = refl

pub old_for : (P : Problem) (p : Part) (i : ℕ) → is_old (form_for P p i) ≡ true
old_for P Row i = refl
old_for P Right i = refl
old_for P Guess i = refl
old_for P Inverse i = refl
old_for P Weight i = refl

module _ (P : Problem) (n_pos : 1 ≤ P.n) where
  pub miscounted_for : (p : Part) (i : ℕ) → miscounted P.n (form_for P p i) ≡ false
  miscounted_for Row i = rw (eq-eqb (length (numbers (P.A i) P.n n_pos)) P.n (row_count (P.A i) P.n n_pos))
  miscounted_for Right i = refl
  miscounted_for Guess i = refl
  miscounted_for Inverse i = rw (eq-eqb (length (numbers (P.G i) P.n n_pos)) P.n (row_count (P.G i) P.n n_pos))
  miscounted_for Weight i = refl

  pub outside_for : NumbersInRange P → (p : Part) (i : ℕ) → i < P.n → outside (form_for P p i) ≡ false
  outside_for h Row i l = rw (row_inside (P.A i) P.n n_pos kind.Matrix (λ j m. h.matrix i j l m))
  outside_for h Right i l = rw (h.right i l)
  outside_for h Guess i l = rw (h.guess i l)
  outside_for h Inverse i l = rw (row_inside (P.G i) P.n n_pos kind.Inverse (λ j m. h.inverse i j l m))
  outside_for h Weight i l = rw (h.weights i l)
