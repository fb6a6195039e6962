-- A loader to which the forms of the parts are given in the order of the parts, each by rising i.
--   rank p k      — the place of the form of the part p for the number k in that order
--   GivenTo n r d — at the scaled loader d, of n equations, the forms up to the rank r were given, and no other
--   done_next, reached_next — one form more;  reached_part — from one part to the next
--   total_none — where no part lacks a form, the sum is 0;  all_there, reached_all, reached_old — so it is after the last part: nothing is missing,
--                   by the count in force and by 01's
use mathlib.Core.Path.{◌≡◌, refl, subst, ◌∙◌}
use mathlib.Core.Bool.{true, false}
use mathlib.Core.List.{List, [], ◌∷◌}
use Prim.Native.Nat.{ℕ, suc, ◌+◌, ◌*◌, ◌-◌, ◌≤◌, ◌<◌}
use native.Mathlib.Decide.{ℕ_discrete}
use native.Mathlib.Omega.{arith}
use lib.IntN.{pos}
use lib.ListN.{length, length-set}
use Rattle.loader_values.specs.Item.{part_index}
use Rattle.loader_values.specs.declared.Item.TheVariants.{Of}
use Rattle.loader_values.specs.declared.Part.{Part}
use Rattle.loader_values.proofs.Capped.{part_same, part_below}
use Rattle.loader_bit_set.specs.Places.{lacking}
use Rattle.loader_bit_set.proofs.Places.{none_lacking}
use Rattle.loader_progress.specs.Ungiven.{parts, ungiven}
use Rattle.loader_progress.specs.Progress.{set_of, counted_parts, total_over, given, marked, missing, scaled, ended}
use Rattle.loader.specs.declared.Loader.{Loader}
use Rattle.loader.specs.Taken.{after}
use Rattle.loader_runs.proofs.Marks.{given_own, given_else}

abbrev pub rank : Part → ℕ → ℕ
rank p k = part_index p * 33 + k

pub record GivenTo (n r : ℕ) (d : Loader) : Type 0 where
  pub size : d.n ≡ n
  pub ready : scaled d.stage ≡ true
  pub going : ended d.stage ≡ false
  pub five : length d.sets ≡ 5
  pub done : (q : Part) (k : ℕ) → 1 ≤ k → k ≤ n → rank q k ≤ r → given d.sets q k ≡ true
  pub clear : (q : Part) (k : ℕ) → 1 ≤ k → k ≤ n → r < rank q k → given d.sets q k ≡ false

module _ (n : ℕ) (n_max : n ≤ 32) where
  -- one form more
  module _ {r : ℕ} {d : Loader} (h : GivenTo n r d) (p : Part) (i : ℕ) (from : 1 ≤ i) (to : i ≤ n) (next : rank p i ≡ suc r) where
    done_next : (q : Part) (k : ℕ) → 1 ≤ k → k ≤ n → rank q k ≤ rank p i → given (marked d.sets p i) q k ≡ true
    done_next q k f t l = go (ℕ_discrete (rank q k) (rank p i))
      where
        go : Dec (rank q k ≡ rank p i) → given (marked d.sets p i) q k ≡ true
        go (yes e) =
            let a : part_index p ≡ part_index q = omega arith in
            let b : i ≡ k = omega arith in
            subst (λ (x : Part). given (marked d.sets p i) x k ≡ true) (part_same p q a) (subst (λ (m : ℕ). given (marked d.sets p i) p m ≡ true) b (given_own d.sets h.five p i))
        go (no e) = given_else d.sets h.five p i q k f from (λ a b. e (omega arith)) ∙ h.done q k f t (omega arith)

    pub reached_next : GivenTo n (rank p i) (after d (Of p (pos i)))
    reached_next = record {
      size = h.size;
      ready = h.ready;
      going = h.going;
      five = simp length-set h.five;
      done = done_next;
      clear = λ q k f t l. given_else d.sets h.five p i q k f from (λ a b. omega arith) ∙ h.clear q k f t (omega arith);
    }

  pub reached_part : {d : Loader} (p : Part) (m : ℕ) → part_index p ≡ m → GivenTo n (rank p n) d → GivenTo n (suc m * 33) d
  reached_part p m e h = record {
    size = h.size;
    ready = h.ready;
    going = h.going;
    five = h.five;
    done = λ q k f t l. h.done q k f t (omega arith);
    clear = λ q k f t l. h.clear q k f t (omega arith);
  }

-- ---- nothing is missing
total_none : (ps : List Part) (f : Part → ℕ) → ((q : Part) → f q ≡ 0) → total_over ps f ≡ 0
total_none [] f h = refl
total_none (q ∷ ps) f h = omega (arith, h q, total_none ps f h)

module _ {n : ℕ} {d : Loader} (n_max : n ≤ 32) (h : GivenTo n 165 d) where
  all_there : (q : Part) → lacking (set_of d.sets q) n ≡ 0
  all_there q =
      none_lacking (set_of d.sets q) n
      (λ i l. let e : suc i - 1 ≡ i = omega arith in rw e at (h.done q (suc i) (omega arith) (omega arith) (omega (arith, part_below q))))

  pub reached_all : missing d.n d.sets ≡ 0
  unfolding missing
  reached_all = rw h.size (total_none counted_parts (λ (q : Part). lacking (set_of d.sets q) n) all_there)

  pub reached_old : ungiven d.n d.sets ≡ 0
  unfolding ungiven
  reached_old = rw h.size (total_none parts (λ (q : Part). lacking (set_of d.sets q) n) all_there)
