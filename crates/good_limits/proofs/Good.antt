-- The limits of the reckoning are good, wherever every margin is above 0, every weight is at least 1 and there is a row (specs/Good).
--   own_factor — the proposal's own factor
--   good_for   — the limits of one problem
--   limits_good — both lists of limits;  good_as — limits that agree on the first n places are good alike
--   zero_all   — where one limit is 0, all are;  far_inverse — the row of each column, of an exact inverse
use mathlib.Core.Path.{◌≡◌, refl, sym, ◌∙◌}
use Prim.Native.Nat.{ℕ, ◌+◌, ◌*◌, ◌≤◌, ◌<◌}
use lib.Dec.{lit≤}
use lib.IntN.{nat_abs}
use Rattle.linear.specs.Matrix.{Vec, Mat, column, product}
use Rattle.enclosure.specs.Problem.{Problem, T, column_of}
use Rattle.enclosure.specs.Reckoning.{load, margin, bound, inverse_bound}
use Rattle.enclosure.specs.Demand.{ExactInverse}
use Rattle.enclosure.specs.Sound.{Margins}
use Rattle.enclosure.specs.Quality.{Factor, NeverFar}
use Rattle.enclosure.proofs.Demands.{encloses, column_margin}
use Rattle.enclosure.proofs.Quality.{never_far_row, far_row, column_factor}
use Rattle.enclosure.proofs.QualityCorner.{corner}
use Rattle.enclosure.proofs.QualityFactor.{peak_factor}
use Rattle.enclosure.proofs.QualityRounded.{rounded_limits, rounded_inverse_limits}
use Rattle.enclosure.proofs.QualityZero.{zero_solves, zero_exact, exact_zero}
use Rattle.good_limits.specs.Good.{OwnFactor, Attained, GoodFor, Good}

own_factor : (P : Problem) → 0 < P.n → Margins P → (a : ℕ) × ((c : ℕ) × OwnFactor P a c)
own_factor P n_pos hm =
    let (k, (l, f)) = peak_factor P n_pos hm in
    (T P * P.w k + load P k, (nat_abs (margin P k), record { row = k; below = l; above_is = refl; under_is = refl; every_row = f }))

pub good_for : (P : Problem) → 0 < P.n → ((i : ℕ) → i < P.n → 1 ≤ P.w i) → Margins P → GoodFor P (bound P)
good_for P n_pos hw hm =
    let x = corner P n_pos hm in
    let whole = (encloses P hw hm).determined in
    let y = whole.exists_over x.β 1 (lit≤ tt) in
    let z = whole.exists P.b in
    record {
      β = x.β;
      at_end = x.at_end;
      right = x.right;
      at_corner = record { N = y.N; q = y.q; holds = y.holds; far = λ N q h a c f. far_row P a c N q n_pos h.positive hw (x.never_far a c f N q h) };
      at_b = λ none. record { N = z.N; q = z.q; holds = z.holds; far = λ N q h a c f. never_far_row P a c n_pos hw hm none f N q h };
      zero_exact = λ i l e. record { solves = zero_solves P hw hm i l e; no_tolerance = zero_exact P hw hm i l e };
      exact_zero = λ g i l. exact_zero P hm g.no_tolerance g.solves i;
    }

pub limits_good : (P : Problem) → 0 < P.n → ((i : ℕ) → i < P.n → 1 ≤ P.w i) → Margins P → Good P (bound P) (inverse_bound P)
limits_good P n_pos hw hm =
    let (a, (c, f)) = own_factor P n_pos hm in
    record {
      a = a;
      c = c;
      factor = f;
      solution = good_for P n_pos hw hm;
      columns = λ j l. good_for (column_of P j) n_pos hw (λ m lm. rw (column_margin P j m) (hm m lm));
      column_factors = column_factor P;
      one_step = λ N q H q' x. record {
        solution = rounded_limits P N q H q' x.rounded x.fine;
        inverse = rounded_inverse_limits P N q H q' x.rounded x.fine;
      };
    }

-- ---- limits that agree
attained_as : (P : Problem) (E E' : ℕ → ℕ) (exact : Vec → ℕ → Type 0) → ((i : ℕ) → i < P.n → E' i ≡ E i) → Attained P E exact → Attained P E' exact
attained_as P E E' exact e x = record {
  N = x.N;
  q = x.q;
  holds = x.holds;
  far = λ N q h a c f. let r = x.far N q h a c f in record { row = r.row; below = r.below; limits = λ i l. rw (e i l) (r.limits i l) };
}

good_for_as : (P : Problem) (E E' : ℕ → ℕ) → ((i : ℕ) → i < P.n → E' i ≡ E i) → GoodFor P E → GoodFor P E'
good_for_as P E E' e x = record {
  β = x.β;
  at_end = x.at_end;
  right = x.right;
  at_corner = attained_as P E E' _ e x.at_corner;
  at_b = λ none. attained_as P E E' _ e (x.at_b none);
  zero_exact = λ i l z. x.zero_exact i l (sym (e i l) ∙ z);
  exact_zero = λ g i l. e i l ∙ x.exact_zero g i l;
}

pub good_as : (P : Problem) (E E' : ℕ → ℕ) (L L' : ℕ → ℕ → ℕ) → ((i : ℕ) → i < P.n → E' i ≡ E i) → ((i j : ℕ) → i < P.n → j < P.n → L' i j ≡ L i j) →
    Good P E L → Good P E' L'
good_as P E E' L L' e f x = record {
  a = x.a;
  c = x.c;
  factor = x.factor;
  solution = good_for_as P E E' e x.solution;
  columns = λ j l. good_for_as (column_of P j) (λ i. L i j) (λ i. L' i j) (λ i li. f i j li l) (x.columns j l);
  column_factors = x.column_factors;
  one_step = λ N q H q' y.
      let s = x.one_step N q H q' y in
      record { solution = λ i l. rw (e i l) (s.solution i l); inverse = λ i j li lj. rw (f i j li lj) (s.inverse i j li lj) };
}

-- ---- what follows
pub zero_all : (P : Problem) (E : ℕ → ℕ) → GoodFor P E → (i : ℕ) → i < P.n → E i ≡ 0 → (j : ℕ) → j < P.n → E j ≡ 0
zero_all P E x i l z = x.exact_zero (x.zero_exact i l z)

pub far_inverse : (P : Problem) (E : ℕ → ℕ) (L : ℕ → ℕ → ℕ) → Good P E L → (H : Mat) (q : ℕ) → ExactInverse P H q → (a c : ℕ) → Factor P a c →
    (j : ℕ) → j < P.n → NeverFar (column_of P j) a c (λ (i : ℕ). L i j) (column H j) q
unfolding product
far_inverse P E L x H q h a c f j l =
    ((x.columns j l).at_b (λ k lk. refl)).far (column H j) q (record { positive = h.positive; solves = λ k lk. h.right k j lk l }) a c (x.column_factors j a c f)
