-- The square entry on any list that has the half's numbers at i·n + j, whatever follows them.
--   square_agrees — such a list agrees with the filled-out matrix on the places used
--   answers       — the two are answered alike
--   square_says   — the square entry says the same of it;  square_solution, square_inverse — and writes the same limits
use mathlib.Core.Path.{◌≡◌, refl, sym, ap, ◌∙◌}
use mathlib.Core.Bool.{Bool, true, false}
use mathlib.Core.List.{List, []}
use Prim.Native.Nat.{ℕ, ◌+◌, ◌*◌, ◌/◌, ◌%◌, ◌≤◌, ◌<◌}
use native.Mathlib.Omega.{arith}
use native.Mathlib.Nat.{mod-lt, div-lt_iff_lt-mul, div-add-mod'}
use lib.IntN.{ℤ, pos}
use lib.ListN.{get_or, length}
use Rattle.linear.specs.Slice.{at, matrix_of}
use Rattle.rules.specs.Range.{in_range, short_matrix}
use Rattle.rules.specs.Refusal.{code, Outcome}
use Rattle.rules.specs.declared.Kind.TheVariants as kind
use Rattle.rules.proofs.Ranges.{both_left, not_first, neither_right, size_range}
use Rattle.check_spec.specs.Checked.{Checked}
use Rattle.check_spec.specs.Input.{Input, short}
use Rattle.check_spec.specs.Order.{answer}
use Rattle.check_spec.specs.Agree.{Agree}
use Rattle.check_spec.proofs.Agreed.{same_answer, same_solution, same_inverse}
use Rattle.check_spec.proofs.Contract.{answer_range}
use Rattle.check_spec.proofs.Statements.{accepted_usable}
use Rattle.half_fill.specs.Half.{half_place, short_half, filled_out}
use Rattle.half_check.specs.Checked.{with_matrix, filled_input, CheckedHalf}
use Rattle.half_fill.proofs.Places.{some_row}
use Rattle.half_fill.proofs.Filling.{filled_at_lem}

module _ (H : Input) (A : List ℤ) (long : short (filled_input H) ≡ false) (matrix-long : short_matrix (length A) ≡ false)
    (same : (i j : ℕ) → i < H.n → j < H.n → matrix_of A H.n i j ≡ at H.matrix (half_place i j)) where
  long_square : short (with_matrix H A) ≡ false
  long_square = rw (matrix-long, neither_right (short_matrix (length (filled_out H.n H.matrix))) _ long)

  here : H.n ≤ 32 → (k : ℕ) → k < H.n * H.n → at (filled_out H.n H.matrix) k ≡ at A k
  here n_max k l =
      let i : ℕ = k / H.n in
      let j : ℕ = k % H.n in
      let li : i < H.n = (div-lt_iff_lt-mul (some_row l)).1 l in
      let lj : j < H.n = mod-lt k (some_row l) in
      let e : k ≡ i * H.n + j = omega (arith, div-add-mod' k H.n) in
      ap (at (filled_out H.n H.matrix)) e ∙ filled_at_lem H.n H.matrix n_max i j li lj ∙ sym (same i j li lj) ∙ ap (at A) (sym e)

  square_agrees : H.n ≤ 32 → Agree (filled_input H) (with_matrix H A)
  square_agrees n_max = record {
    n = refl;
    s = refl;
    t = refl;
    long = long;
    long' = long_square;
    matrix = here n_max;
    right = λ k l. refl;
    tolerance = λ k l. refl;
    guess = λ k l. refl;
    inverse = λ k l. refl;
    weights = λ k l. refl;
  }

  pub answers : answer (filled_input H) ≡ answer (with_matrix H A)
  answers = go (in_range kind.Size (pos H.n)) refl
    where
      go : (b : Bool) → in_range kind.Size (pos H.n) ≡ b → answer (filled_input H) ≡ answer (with_matrix H A)
      go true e = same_answer (filled_input H) (with_matrix H A) (square_agrees (size_range _ e).1)
      go false e = answer_range (filled_input H) long (not_first _ (not_first _ e)) ∙ sym (answer_range (with_matrix H A) long_square (not_first _ (not_first _ e)))

  module _ (r r' : Outcome) (E L E' L' : List ℕ) (h : CheckedHalf H r E L) (h' : Checked (with_matrix H A) r' E' L') (enough : short_half (length H.matrix) ≡ false) where
    pub square_says : code r ≡ code r'
    square_says = (h.as_square enough).says ∙ answers ∙ sym h'.says

    module _ (taken : code r ≡ []) where
      nothing : answer (filled_input H) ≡ []
      nothing = sym (h.as_square enough).says ∙ taken

      agreed : Agree (filled_input H) (with_matrix H A)
      agreed = square_agrees (size_range _ (both_left _ _ (both_left _ _ (accepted_usable (filled_input H) nothing).inside))).1

      pub square_solution : (i : ℕ) → i < H.n → get_or E i 0 ≡ get_or E' i 0
      square_solution i l = rw ((h.as_square enough).solution_bounds, h'.solution_bounds) (same_solution (filled_input H) (with_matrix H A) agreed nothing i l)

      pub square_inverse : (k : ℕ) → k < H.n * H.n → get_or L k 0 ≡ get_or L' k 0
      square_inverse k l = rw ((h.as_square enough).inverse_bounds, h'.inverse_bounds) (same_inverse (filled_input H) (with_matrix H A) agreed nothing k l)
