-- The sets of given forms after a form, and how many forms are missing then.
--   hits p q, once — 1 for the part p itself; it is one of the parts, once
--   marked_own, marked_other — the sets after a form: its own part's set with its place, the others as before
--   given_own, given_else — the form was given then, and every other form as before
--   ungiven_marked — with a form that was not given one form fewer is left to give;  ungiven_most — at most 5n are
--   missing_most — at most 4n are missing;  missing_kept — a weight leaves their count
use mathlib.Core.Path.{◌≡◌, refl, sym, subst}
use mathlib.Core.Bool.{Bool, true, false, cond}
use mathlib.Core.List.{List, [], ◌∷◌}
use Prim.Native.Nat.{ℕ, suc, ◌+◌, ◌*◌, ◌-◌, ◌≤◌, ◌<◌}
use native.Mathlib.Decide.{ℕ_discrete}
use native.Mathlib.Omega.{arith}
use native.Mathlib.Nat.{suc-mul}
use borrow.Author.Tests.{eqb-true, eqb-false}
use lib.Dec.{eqb}
use lib.ListN.{length}
use lib.Seq.{get_or-set_same, get_or-set_other}
use Rattle.loader_values.specs.Item.{part_index}
use Rattle.loader_values.specs.declared.Part.{Part}
use Rattle.loader_values.specs.declared.Part.TheVariants.{Row, Right, Guess, Inverse, Weight}
use Rattle.loader_values.proofs.Capped.{part_same, part_below}
use Rattle.loader_bit_set.specs.Places.{with_place, lacking}
use Rattle.loader_bit_set.proofs.Places.{has_same, has_other, lacking_with, lacking-≤}
use Rattle.loader_progress.specs.Progress.{set_of, counted_parts, total_over, given, marked, missing}
use Rattle.loader_progress.specs.Ungiven.{parts, ungiven}

abbrev pub hits : Part → Part → ℕ
hits p q = cond (eqb (part_index p) (part_index q)) 1 0

total_over_more : (p : Part) (ps : List Part) (f g : Part → ℕ) → ((q : Part) → f q ≡ g q + hits p q) → total_over ps f ≡ total_over ps g + total_over ps (hits p)
total_over_more p [] f g h = refl
total_over_more p (q ∷ ps) f g h = omega (arith, h q, total_over_more p ps f g h)

pub once : (p : Part) → total_over parts (hits p) ≡ 1
once Row = refl
once Right = refl
once Guess = refl
once Inverse = refl
once Weight = refl

-- the sets after a form: its own part's set with its place, the others as before
module _ (z : List ℕ) (five : length z ≡ 5) (p : Part) (i : ℕ) where
  marked_own : set_of (marked z p i) p ≡ with_place (set_of z p) (i - 1)
  marked_own = get_or-set_same z (part_index p) (with_place (set_of z p) (i - 1)) 0 (omega (arith, part_below p))

  marked_other : (q : Part) → (part_index q ≡ part_index p → ⊥) → set_of (marked z p i) q ≡ set_of z q
  marked_other q e = get_or-set_other z (part_index p) (part_index q) (with_place (set_of z p) (i - 1)) 0 e

  fewer : (n : ℕ) → 1 ≤ i → i ≤ n → given z p i ≡ false → (q : Part) → lacking (set_of z q) n ≡ lacking (set_of (marked z p i) q) n + hits p q
  fewer n l h e q = go (eqb (part_index p) (part_index q)) refl
    where
      go : (b : Bool) → eqb (part_index p) (part_index q) ≡ b → lacking (set_of z q) n ≡ lacking (set_of (marked z p i) q) n + cond b 1 0
      go true s =
          subst (λ (r : Part). lacking (set_of z r) n ≡ lacking (set_of (marked z p i) r) n + 1) (part_same p q (eqb-true (part_index p) (part_index q) s))
          (rw marked_own (omega (arith, lacking_with (set_of z p) n (i - 1) (omega arith) e)))
      go false s = rw (marked_other q (λ r. eqb-false (part_index p) (part_index q) s (sym r))) (omega arith)

  pub ungiven_marked : (n : ℕ) → 1 ≤ i → i ≤ n → given z p i ≡ false → ungiven n z ≡ suc (ungiven n (marked z p i))
  unfolding ungiven
  ungiven_marked n l h e =
      omega (arith, once p, total_over_more p parts (λ (q : Part). lacking (set_of z q) n) (λ (q : Part). lacking (set_of (marked z p i) q) n) (fewer n l h e))

module _ (z : List ℕ) (five : length z ≡ 5) (q : Part) (k : ℕ) where
  pub given_own : given (marked z q k) q k ≡ true
  given_own = rw (marked_own z five q k) (has_same (set_of z q) (k - 1))

  pub given_else : (p : Part) (i : ℕ) → 1 ≤ i → 1 ≤ k → (part_index p ≡ part_index q → i ≡ k → ⊥) → given (marked z q k) p i ≡ given z p i
  given_else p i l h other = go (ℕ_discrete (part_index p) (part_index q))
    where
      go : Dec (part_index p ≡ part_index q) → given (marked z q k) p i ≡ given z p i
      go (no e) = rw (marked_other z five q k p e)
      go (yes e) =
          subst (λ (r : Part). given (marked z q k) r i ≡ given z r i) (sym (part_same p q e))
          (rw (marked_own z five q k) (has_other (set_of z q) (k - 1) (i - 1) (λ s. other e (omega arith))))

-- ---- how many are left to give, and how many of these are missing
total_over_most : (ps : List Part) (f : Part → ℕ) (n : ℕ) → ((q : Part) → f q ≤ n) → total_over ps f ≤ length ps * n
total_over_most [] f n h = omega arith
total_over_most (q ∷ ps) f n h = omega (arith, h q, total_over_most ps f n h, suc-mul (length ps) n)

pub ungiven_most : (n : ℕ) (z : List ℕ) → ungiven n z ≤ 5 * n
unfolding ungiven
ungiven_most n z = total_over_most parts (λ (q : Part). lacking (set_of z q) n) n (λ q. lacking-≤ (set_of z q) n)

pub missing_most : (n : ℕ) (z : List ℕ) → missing n z ≤ 4 * n
unfolding missing
missing_most n z = total_over_most counted_parts (λ (q : Part). lacking (set_of z q) n) n (λ q. lacking-≤ (set_of z q) n)

pub missing_kept : (n : ℕ) (z : List ℕ) → length z ≡ 5 → (i : ℕ) → missing n (marked z Weight i) ≡ missing n z
unfolding missing
missing_kept n z five i =
    let same : (q : Part) → (part_index q ≡ 4 → ⊥) → set_of (marked z Weight i) q ≡ set_of z q = marked_other z five Weight i in
    rw (same Row (λ e. omega arith), same Right (λ e. omega arith), same Guess (λ e. omega arith), same Inverse (λ e. omega arith))
