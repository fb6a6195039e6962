-- What the matrix list holds after `build` in the lower layout (document 02, Paper 10).
--   held_half — the numbers at their places in the half, every other place as before
--   half_is_square — filled out, the half is what the square layout gives on the first n × n places; the right sides are the same
--   same_refusals — where both layouts find their lists long enough, or both too short, they say the same
--   half_in_check_ranges — never is it the built half or right side that makes a check answer 3
use mathlib.Core.Path.{◌≡◌, sym, ap, subst, ◌∙◌}
use mathlib.Core.Bool.{true}
use mathlib.Core.List.{List, []}
use Prim.Native.Nat.{ℕ, ◌+◌, ◌*◌, ◌/◌, ◌%◌, ◌≤◌, ◌<◌}
use native.Mathlib.Nat.{mod-lt, div-lt_iff_lt-mul, div-add-mod'}
use native.Mathlib.Omega.{arith}
use native.Mathlib.Decide.{dec_le}
use lib.IntN.{ℤ}
use Rattle.integer.specs.Finite.{sumℕ}
use Rattle.linear.specs.Slice.{at}
use Rattle.rules.specs.Range.{all_in_range}
use Rattle.rules.specs.declared.Kind.TheVariants as kind
use Rattle.half_fill.specs.Half.{lower_place, half_place, filled_out}
use Rattle.half_fill.proofs.Places.{some_row, place_lower, place_swap}
use Rattle.half_fill.proofs.Filling.{filled_at_lem}
use Rattle.build_lines.specs.Order.{Built, build_code, build_answer}
use Rattle.build_lines.specs.declared.Observation.{Observation}
use Rattle.build_lines.specs.Distinct.{built_matrix}
use Rattle.build_lines.proofs.Net.{symmetric}
use Rattle.build_equations.specs.declared.Layout.TheVariants.{Square, Lower}
use Rattle.build_equations.specs.Written.{width_of, matrix_written}
use Rattle.build_equations.proofs.Layouts.{rows_at, rows_else, lower_start}
use Rattle.build.specs.BuiltAs.{short_for, BuiltAs}
use Rattle.build.specs.Held.{HeldHalf}
use Rattle.build.proofs.Ends.{matrix_room}
use Rattle.build.proofs.Held.{new_matrix_lem, fitting, few_rows, right_held, right_rest, right_in_check_range, matrix_in_check_range, held}

-- row i of the lower half starts at i·(i + 1)/2
start_is : (n i : ℕ) → sumℕ i (width_of Lower n) ≡ i * (i + 1) / 2
start_is n i = omega (arith, lower_start n i)

module _ (n : ℕ) (ls : List Observation) (h b : List ℤ) {r : Built} {h' b' : List ℤ} (built : BuiltAs n ls Lower h b r h' b') (done : build_code r ≡ []) where
  lower : (i j : ℕ) → i < n → j ≤ i → at h' (lower_place i j) ≡ built_matrix ls i j
  lower i j p q =
      ap (λ (l : List ℤ). at l (lower_place i j)) (new_matrix_lem n ls Lower h b built done)
      ∙ subst (λ (s : ℕ). at (matrix_written Lower n (built_matrix ls) h) (s + j) ≡ built_matrix ls i j) (start_is n i)
      (rows_at (width_of Lower n) (built_matrix ls) h n (matrix_room Lower n h b (few_rows n ls Lower h b built done) (fitting n ls Lower h b built done).0.long) i p j (omega arith))

  everywhere : (i j : ℕ) → i < n → j < n → at h' (half_place i j) ≡ built_matrix ls i j
  everywhere i j p q = go (dec_le j i)
    where
      go : Dec (j ≤ i) → at h' (half_place i j) ≡ built_matrix ls i j
      go (yes l) = ap (at h') (place_lower l) ∙ lower i j p l
      go (no m) =
          let l : i ≤ j = omega arith in
          ap (at h') (place_swap i j ∙ place_lower l) ∙ lower j i q l ∙ symmetric ls j i

  pub held_half : HeldHalf n ls h b h' b'
  held_half = record {
    matrix = everywhere;
    right = right_held n ls Lower h b built done;
    matrix_rest = λ p l. ap (λ (m : List ℤ). at m p) (new_matrix_lem n ls Lower h b built done) ∙ rows_else (width_of Lower n) (built_matrix ls) h n p (omega (arith, start_is n n, l));
    right_rest = right_rest n ls Lower h b built done;
  }

  filled_held : (i j : ℕ) → i < n → j < n → at (filled_out n h') (i * n + j) ≡ built_matrix ls i j
  filled_held i j p q = filled_at_lem n h' (few_rows n ls Lower h b built done) i j p q ∙ everywhere i j p q

  pub half_in_check_ranges : (all_in_range kind.Matrix (n * n) (at (filled_out n h')) ≡ true) × (all_in_range kind.Right n (at b') ≡ true)
  half_in_check_ranges = (matrix_in_check_range n ls Lower h b built done (filled_out n h') filled_held, right_in_check_range n ls Lower h b built done)

  module _ (a c : List ℤ) {s : Built} {a' c' : List ℤ} (square : BuiltAs n ls Square a c s a' c') (done' : build_code s ≡ []) where
    pub half_is_square : ((k : ℕ) → k < n * n → at (filled_out n h') k ≡ at a' k) × ((i : ℕ) → i < n → at b' i ≡ at c' i)
    half_is_square = (
      λ k l.
          let e = div-add-mod' k n in
          let p = (div-lt_iff_lt-mul (some_row l)).1 l in
          let q = mod-lt k (some_row l) in
          ap (at (filled_out n h')) (sym e) ∙ filled_held (k / n) (k % n) p q ∙ sym ((held n ls a c square done').matrix (k / n) (k % n) p q) ∙ ap (at a') e,
      λ i l. right_held n ls Lower h b built done i l ∙ sym (right_held n ls Square a c square done' i l),
    )

pub same_refusals : (n : ℕ) (ls : List Observation) (h b a c : List ℤ) {r s : Built} {h' b' a' c' : List ℤ} → BuiltAs n ls Lower h b r h' b' → BuiltAs n ls Square a c s a' c' →
    short_for Lower h b ≡ short_for Square a c → build_code r ≡ build_code s
same_refusals n ls h b a c f g e = f.says ∙ ap (build_answer n ls) e ∙ sym g.says
