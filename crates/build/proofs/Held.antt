-- What the two lists hold after `build`.
--   untouched — on a refusal both lists are as before;  new_matrix_lem, new_right_lem — where the equations are built, the lists with them written
--   right_held, right_rest — the right sides at their places, every other place as before
--   held — in the square layout: the numbers at their places, every other place as before
--   in_check_ranges — (d) never is it the built matrix or right side that makes a check answer 3
--   repeated_built — (b) a copy of a line anywhere gives the same two lists
use mathlib.Core.Path.{◌≡◌, sym, ap, subst, ◌∙◌}
use mathlib.Core.Bool.{true}
use mathlib.Core.List.{List, [], ◌∷◌, ◌++◌}
use Prim.Native.Nat.{ℕ, ◌+◌, ◌*◌, ◌/◌, ◌%◌, ◌≤◌, ◌<◌}
use native.Mathlib.Nat.{mod-lt, div-lt_iff_lt-mul, div-add-mod'}
use native.Mathlib.Omega.{arith}
use lib.IntN.{ℤ, pos}
use lib.ListN.{length}
use Rattle.linear.specs.Slice.{at}
use Rattle.rules.specs.Range.{in_range, all_in_range}
use Rattle.rules.specs.declared.Kind.TheVariants as kind
use Rattle.rules.proofs.AllInRange.{all_in}
use Rattle.rules.proofs.Ranges.{size_range}
use Rattle.rules.proofs.Verdicts.{accepted_new, accepted_old}
use Rattle.build_lines.specs.Order.{Built, build_code, build_answer}
use Rattle.build_lines.specs.declared.Observation.{Observation}
use Rattle.build_lines.specs.Distinct.{built_matrix, built_right}
use Rattle.integer.specs.Among.{Among}
use Rattle.linear.proofs.Written.{front_at, front_else, written_ext}
use Rattle.build_lines.specs.Stated.{Admitted, Buildable}
use Rattle.build_lines.proofs.Lines.{builds_fits}
use Rattle.build_lines.proofs.Net.{matrix_in_range, right_in_range}
use Rattle.build_lines.proofs.Repeated.{repeated_builds}
use Rattle.build_equations.specs.declared.Layout.{Layout}
use Rattle.build_equations.specs.declared.Layout.TheVariants.{Square}
use Rattle.build_equations.specs.Written.{width_of, matrix_written, right_written}
use Rattle.build.proofs.Ends.{matrix_room, long_right}
use Rattle.build_equations.proofs.Layouts.{square_start, square_at, square_else}
use Rattle.build_equations.proofs.Places.{rows_ext}
use Rattle.build.specs.BuiltAs.{short_for, BuiltAs}
use Rattle.build.specs.Held.{HeldSquare}

module _ (n : ℕ) (ls : List Observation) (layout : Layout) (a b : List ℤ) {r : Built} {a' b' : List ℤ} (built : BuiltAs n ls layout a b r a' b') where
  pub untouched : {k : ℕ} {ks : List ℕ} → build_code r ≡ k ∷ ks → (a' ≡ a) × (b' ≡ b)
  untouched e =
      let s = sym built.says ∙ e in
      (built.matrix ∙ accepted_old (matrix_written layout n (built_matrix ls) a) a s, built.right ∙ accepted_old (right_written n (built_right ls) b) b s)

  module _ (done : build_code r ≡ []) where
    silent : build_answer n ls (short_for layout a b) ≡ []
    silent = sym built.says ∙ done

    pub new_matrix_lem : a' ≡ matrix_written layout n (built_matrix ls) a
    new_matrix_lem = built.matrix ∙ accepted_new (matrix_written layout n (built_matrix ls) a) a silent

    new_right_lem : b' ≡ right_written n (built_right ls) b
    new_right_lem = built.right ∙ accepted_new (right_written n (built_right ls) b) b silent

    pub fitting : Admitted n (length ls) (short_for layout a b) × Buildable n ls
    fitting = builds_fits n ls (short_for layout a b) silent

    pub few_rows : n ≤ 32
    few_rows = (size_range n fitting.0.size).1

    pub right_held : (i : ℕ) → i < n → at b' i ≡ built_right ls i
    right_held i p =
        ap (λ (l : List ℤ). at l i) new_right_lem ∙ front_at b (built_right ls) (pos 0) n i p (omega (arith, few_rows, long_right layout a b fitting.0.long))

    pub right_rest : (p : ℕ) → n ≤ p → at b' p ≡ at b p
    right_rest p h = ap (λ (l : List ℤ). at l p) new_right_lem ∙ front_else b (built_right ls) (pos 0) n p h

    pub right_in_check_range : all_in_range kind.Right n (at b') ≡ true
    right_in_check_range =
        all_in kind.Right n (at b') (λ i m. subst (λ (z : ℤ). in_range kind.Right z ≡ true) (sym (right_held i m)) (right_in_range n ls fitting.1 fitting.0.count_max i))

    -- a list that has the built matrix at i·n + j
    pub matrix_in_check_range : (A : List ℤ) → ((i j : ℕ) → i < n → j < n → at A (i * n + j) ≡ built_matrix ls i j) → all_in_range kind.Matrix (n * n) (at A) ≡ true
    matrix_in_check_range A h =
        all_in kind.Matrix (n * n) (at A) (λ p m. subst (λ (z : ℤ). in_range kind.Matrix z ≡ true) (sym (place p m)) (matrix_in_range n ls fitting.1 fitting.0.count_max (p / n) (p % n)))
      where
        n_pos : (p : ℕ) → p < n * n → 0 < n
        n_pos p m = omega (arith, (size_range n fitting.0.size).0)

        place : (p : ℕ) → p < n * n → at A p ≡ built_matrix ls (p / n) (p % n)
        place p m = ap (at A) (sym (div-add-mod' p n)) ∙ h (p / n) (p % n) ((div-lt_iff_lt-mul (n_pos p m)).1 m) (mod-lt p (n_pos p m))

module _ (n : ℕ) (ls : List Observation) (a b : List ℤ) {r : Built} {a' b' : List ℤ} (built : BuiltAs n ls Square a b r a' b') (done : build_code r ≡ []) where
  pub held : HeldSquare n ls a b a' b'
  held =
      let n_max = few_rows n ls Square a b built done in
      let fits : n * n ≤ length a = omega (arith, square_start n n, matrix_room Square n a b n_max (fitting n ls Square a b built done).0.long) in
      record {
        matrix = λ i j p q. ap (λ (l : List ℤ). at l (i * n + j)) (new_matrix_lem n ls Square a b built done) ∙ square_at n (built_matrix ls) a fits i j p q;
        right = right_held n ls Square a b built done;
        matrix_rest = λ p h. ap (λ (l : List ℤ). at l p) (new_matrix_lem n ls Square a b built done) ∙ square_else n (built_matrix ls) a p h;
        right_rest = right_rest n ls Square a b built done;
      }

  pub in_check_ranges : (all_in_range kind.Matrix (n * n) (at a') ≡ true) × (all_in_range kind.Right n (at b') ≡ true)
  in_check_ranges = (matrix_in_check_range n ls Square a b built done a' held.matrix, right_in_check_range n ls Square a b built done)

pub repeated_built : (n : ℕ) (l : Observation) (xs ys : List Observation) (layout : Layout) (a b : List ℤ) {r s : Built} {a' b' a'' b'' : List ℤ} →
    BuiltAs n (xs ++ ys) layout a b r a' b' → build_code r ≡ [] → Among l (xs ++ ys) → length (xs ++ l ∷ ys) ≤ 256 → BuiltAs n (xs ++ l ∷ ys) layout a b s a'' b'' → (build_code s ≡ []) × (a'' ≡ a') × (b'' ≡ b')
repeated_built n l xs ys layout a b f done i count_max g =
    let same = repeated_builds n (short_for layout a b) l xs ys (sym f.says ∙ done) i count_max in
    let again = g.says ∙ same.builds in (
      again,
      new_matrix_lem n (xs ++ l ∷ ys) layout a b g again ∙ rows_ext (width_of layout n) n (built_matrix (xs ++ l ∷ ys)) (built_matrix (xs ++ ys)) a same.matrix ∙ sym (new_matrix_lem n (xs ++ ys) layout a b f done),
      new_right_lem n (xs ++ l ∷ ys) layout a b g again ∙ written_ext b 0 1 (built_right (xs ++ l ∷ ys)) (built_right (xs ++ ys)) n (λ j m. same.right j) ∙ sym (new_right_lem n (xs ++ ys) layout a b f done),
    )
