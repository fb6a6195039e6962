-- What the collected numbers are known to be, once every one that counts is in its range, and the lines that they give.
--   small_read    — a number that fits with room for its sign is read back as itself
--   any_above — whether one of the first numbers is other than 0
--   size          — n is 1 to 32
--   matrix_small, inverse_small, right_small, guess_small, tolerance_small, weight_small — a number fits a machine integer with room for its sign
--   held_in_range — the problem's numbers are in their ranges
--   most_is, line_of — a part's line, by the part;  row_text_lem, right_text, guess_text, inverse_text, weight_text — its bytes are those of the part's form
use mathlib.Core.Path.{◌≡◌, refl, sym, ap, subst, ◌∙◌}
use mathlib.Core.Bool.{Bool, true, false, ◌||◌}
use native.Mathlib.Numerals.{add-one}
use Rattle.std.specs.List.{list_any}
use Rattle.std.proofs.lemmas.List.Folds.{list_any_more}
use mathlib.Core.List.{List, [], ◌∷◌}
use Prim.Native.Nat.{ℕ, zero, suc, max, ◌+◌, ◌*◌, ◌≤◌, ◌<◌, ◌^◌}
use native.Mathlib.Omega.{arith}
use borrow.Author.Tests.{lt-ltb, le-ltb}
use lib.Dec.{ltb}
use lib.IntN.{ℤ, pos, nat_abs}
use lib.ListN.{length, take, length-append}
use lib.Seq.{sets}
use Rattle.integer.specs.Finite.{largest}
use Rattle.integer.proofs.Search.{largest_next, largest_end, largest_at}
use mir.Syntax.{w64}
use mir.Val.{to_z, of_z}
use Rattle.integer.proofs.Machine.{small, read}
use Rattle.linear.specs.Slice.{at}
use Rattle.linear.proofs.Places.{place}
use Rattle.rules.specs.Range.{range_of, ranges, in_range}
use Rattle.rules.specs.declared.Kind.TheVariants as kind
use Rattle.rules.proofs.AllInRange.{all_at}
use Rattle.rules.proofs.Ranges.{range_natural, size_range, matrix_range, right_range, tolerance_range, guess_range, inverse_range, weight_range}
use Rattle.line_form.specs.Form.{bytes}
use Rattle.line_form.specs.Spelling.{spell}
use Rattle.loader_values.specs.declared.Part.{Part}
use Rattle.loader_values.specs.declared.Part.TheVariants.{Row, Right, Guess, Inverse, Weight}
use Rattle.loader_runs.specs.Holds.{InRange}
use Rattle.listing_text.specs.Wrote.{Wrote}
use Rattle.file.specs.declared.Collected.{Collected}
use Rattle.file.specs.Read.{state_of}
use Rattle.loader_spelled.proofs.Length.{place_most}
use Rattle.convert_spec.specs.File.{form_for}
use Rattle.convert_spec.specs.Numbers.{NumbersInRange}
use Rattle.convert_spec.proofs.Size.{most, part_most}
use Rattle.convert_writer.specs.Written.{held_by, form_line, value_text, row_text, most_for, SmallFrom, FirstSmall}
use Rattle.convert_writer.proofs.Each.{value_line, row_line}

-- a number of this magnitude is read back as itself
pub small_read : (z : ℤ) → nat_abs z < 2 ^ 63 → to_z w64 (of_z w64 z) ≡ z
small_read z h = read z (small z h).sfits

-- ---- whether one number is other than 0
above_zero : (a b : ℕ) → ltb 0 (max a b) ≡ ltb 0 a || ltb 0 b
above_zero zero zero = refl
above_zero zero (suc b) = rw (lt-ltb 0 (max 0 (suc b)) (omega arith), lt-ltb 0 (suc b) (omega arith))
above_zero (suc a) b = rw (lt-ltb 0 (max (suc a) b) (omega arith), lt-ltb 0 (suc a) (omega arith))

pub any_above : (n : ℕ) (xs : List ℤ) → n ≤ length xs → list_any (λ (z : ℤ). ltb 0 (nat_abs z)) (take n xs) ≡ ltb 0 (largest n (λ (i : ℕ). nat_abs (at xs i)))
unfolding largest
any_above zero xs h = refl
any_above (suc n) xs h =
    let e = rw add-one at (list_any_more (λ (z : ℤ). ltb 0 (nat_abs z)) xs n (pos 0) (omega arith)) in
    rw (e, any_above n xs (omega arith)) (sym (above_zero (largest n (λ (i : ℕ). nat_abs (at xs i))) (nat_abs (at xs n))))

-- ---- sizes
module _ (c : Collected) (r : InRange (state_of c)) where
  abbrev n : ℕ
  n = c.loader.n

  pub size : (0 < n) × (n ≤ 32)
  size = size_range n r.size

  pub matrix_small : (i : ℕ) → i < n → SmallFrom c.matrix (i * n) n
  matrix_small i li j lj = omega (arith, matrix_range (at c.matrix (i * n + j)) (all_at kind.Matrix (n * n) (at c.matrix) r.matrix (i * n + j) (place li lj)))

  pub inverse_small : (i : ℕ) → i < n → SmallFrom c.inverse (i * n) n
  inverse_small i li j lj = omega (arith, inverse_range (at c.inverse (i * n + j)) (all_at kind.Inverse (n * n) (at c.inverse) r.inverse (i * n + j) (place li lj)))

  pub right_small : FirstSmall c.right n
  right_small i l = omega (arith, right_range (at c.right i) (all_at kind.Right n (at c.right) r.right i l))

  pub guess_small : FirstSmall c.guess n
  guess_small i l = omega (arith, guess_range (at c.guess i) (all_at kind.Guess n (at c.guess) r.guess i l))

  pub tolerance_small : FirstSmall c.tolerance n
  tolerance_small i l = omega (arith, (tolerance_range (at c.tolerance i) (all_at kind.Tolerance n (at c.tolerance) r.tolerance i l)).1)

  weight_in : (i : ℕ) → i < n → in_range kind.Weight (at c.weights i) ≡ true
  weight_in i l = all_at kind.Weight n (at c.weights) r.weights i l

  pub weight_small : FirstSmall c.weights n
  weight_small i l = omega (arith, (weight_range (at c.weights i) (weight_in i l)).1)

  weight_natural : (i : ℕ) → i < n → at c.weights i ≡ pos (nat_abs (at c.weights i))
  unfolding range_of ranges
  weight_natural i l = (range_natural kind.Weight 1 (at c.weights i) refl (weight_in i l)).0

  -- the problem's numbers are in their ranges
  held_in_range : NumbersInRange (held_by c)
  held_in_range = record {
    size = r.size;
    solution = r.solution;
    inverse_scale = r.inverse_scale;
    matrix = λ i j li lj. all_at kind.Matrix (n * n) (at c.matrix) r.matrix (i * n + j) (place li lj);
    right = λ i l. all_at kind.Right n (at c.right) r.right i l;
    guess = λ i l. all_at kind.Guess n (at c.guess) r.guess i l;
    inverse = λ i j li lj. all_at kind.Inverse (n * n) (at c.inverse) r.inverse (i * n + j) (place li lj);
    weights = λ i l. subst (λ (z : ℤ). in_range kind.Weight z ≡ true) (weight_natural i l) (weight_in i l);
  }

  -- ---- lines
  most_is : (q : Part) → most_for q ≡ most q + 2
  most_is Row = refl
  most_is Right = refl
  most_is Guess = refl
  most_is Inverse = refl
  most_is Weight = refl

  -- a line that was written with room to spare is no longer than its part's lines are
  pub line_of : {o p t : List ℕ} {from end room : ℕ} (i : ℕ) → i < n → (q : Part) {part : Part} → part ≡ q → t ≡ form_line (form_for (held_by c) q i) → Wrote room o from t p end →
      Wrote (most_for part) o from (form_line (form_for (held_by c) part i)) p end
  line_of {o} {p} {t} {from} {end} {room} i l q {part} e s x =
      rw e (record {
        end_is = x.end_is ∙ ap (λ (k : List ℕ). from + length k) s;
        stored = x.stored ∙ ap (sets o from) s;
        end_max =
            omega (
              arith,
              x.end_is ∙ ap (λ (k : List ℕ). from + length k) s,
              length-append (spell (form_for (held_by c) q i)) (10 ∷ []),
              part_most (held_by c) held_in_range q i l,
              place_most (suc i) (omega (arith, size.1)),
              most_is q,
            );
      })

  pub row_text_lem : (i : ℕ) → row_text (bytes "(row ") (i + 1) n (λ (j : ℕ). at c.matrix (i * n + j)) ≡ form_line (form_for (held_by c) Row i)
  unfolding spell
  row_text_lem i = row_line (bytes "(row ") i (λ (j : ℕ). at c.matrix (i * n + j)) n size.0

  pub inverse_text : (i : ℕ) → row_text (bytes "(inverse ") (i + 1) n (λ (j : ℕ). at c.inverse (i * n + j)) ≡ form_line (form_for (held_by c) Inverse i)
  unfolding spell
  inverse_text i = row_line (bytes "(inverse ") i (λ (j : ℕ). at c.inverse (i * n + j)) n size.0

  pub right_text : (i : ℕ) → value_text (bytes "(right ") (i + 1) (at c.right i) ≡ form_line (form_for (held_by c) Right i)
  unfolding spell
  right_text i = value_line (bytes "(right ") i (at c.right i)

  pub guess_text : (i : ℕ) → value_text (bytes "(guess ") (i + 1) (at c.guess i) ≡ form_line (form_for (held_by c) Guess i)
  unfolding spell
  guess_text i = value_line (bytes "(guess ") i (at c.guess i)

  pub weight_text : (i : ℕ) → i < n → value_text (bytes "(weight ") (i + 1) (at c.weights i) ≡ form_line (form_for (held_by c) Weight i)
  unfolding spell
  weight_text i l = ap (value_text (bytes "(weight ") (i + 1)) (weight_natural i l) ∙ value_line (bytes "(weight ") i (pos (nat_abs (at c.weights i)))
