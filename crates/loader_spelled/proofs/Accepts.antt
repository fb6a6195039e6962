-- The spelling of a form that no test of forms refuses is accepted: it is never too long.
--   place_bytes, list_bytes — the bytes of its i, and of its list
--   spelled_length   — such a spelling has at most 302 bytes, below the 320 of refusal 1
--   code_nothing, accepts_spelled — nothing is said of the form, and its spelling is accepted at a loader that has not ended, with lists that are long enough
--   spelled_accepted — and leaves what the form gives
--   accepted_length  — so no accepted line has more than 302 bytes
use mathlib.Core.Path.{◌≡◌, sym, subst, ◌∙◌}
use mathlib.Core.Bool.{false, not}
use mathlib.Core.List.{List, [], ◌∷◌}
use Prim.Native.Nat.{ℕ, suc, ◌+◌, ◌*◌, ◌≤◌}
use native.Mathlib.Nat.{le_trans, mul-le-mul_right}
use native.Mathlib.Omega.{arith}
use borrow.Author.Tests.{not-false, le-ltb, eqb-true}
use lib.Dec.{eqb}
use lib.IntN.{ℤ, nat_abs}
use lib.ListN.{length}
use Rattle.rules.specs.Range.{in_range}
use Rattle.rules.specs.declared.Kind.{Kind}
use Rattle.rules.specs.declared.Kind.TheVariants as kind
use Rattle.rules.proofs.Ranges.{both_left, both_right}
use Rattle.line_numeral.specs.Decimal.{numeral}
use Rattle.line_form.specs.Form.{Form, problem, scale, row, right, right_within, guess, inverse, weight, end}
use Rattle.line_form.specs.Spelling.{spell, numerals}
use Rattle.line_form.specs.List.{all_inside}
use Rattle.line_form.proofs.Spelling.{spelled_read, read_spelled}
use Rattle.loader_lists.specs.Lists.{Lists, short_lists}
use Rattle.loader_values.specs.declared.Item.TheVariants.{Of}
use Rattle.loader_values.specs.declared.Part.{Part}
use Rattle.loader_values.specs.declared.Part.TheVariants.{Row, Right, Guess, Inverse, Weight}
use Rattle.loader_values.proofs.Between.{from_to_lem}
use Rattle.loader_progress.specs.Progress.{scaled, ended, misplaced}
use Rattle.loader_progress.proofs.Progress.{late, size_of, placed_of}
use Rattle.loader.specs.declared.Loader.{Loader}
use Rattle.loader.specs.Answer.{line_answer}
use Rattle.loader.specs.Taken.{loader_after, lists_after}
use Rattle.loader_order.proofs.CodeLaws.{Passed}
use Rattle.loader.proofs.Exact.{form_case, form_code, answer_form}
use Rattle.loader.proofs.Accepted.{AcceptedLine, accepted_form}
use Rattle.loader_spelled.proofs.Length.{bytes_of, kind_most, numerals_most, place_most, problem_length, scale_length, row_length, right_length, within_length, guess_length, inverse_length, weight_length, end_length}

-- ---- the length
-- a form of a part that is neither early nor misplaced: i has two bytes at most, and n is at most 32
module _ (d : Loader) where
  place_bytes : (p : Part) (i : ℤ) → not (scaled d.stage) ≡ false → misplaced d.stage d.n (Of p i) ≡ false → length (numeral i) ≤ 2
  place_bytes p i a m =
      let b = from_to_lem 1 d.n i (placed_of d.stage d.n (Of p i) m) in
      let s = size_of d.stage d.n (Of p i) (late d.stage a) m in
      subst (λ (z : ℤ). length (numeral z) ≤ 2) (sym b.whole) (place_most (nat_abs i) (omega (arith, b.to, s.1)))

  list_bytes : (p : Part) (i : ℤ) (k : Kind) (a : ℤ) (zs : List ℤ) → not (scaled d.stage) ≡ false → misplaced d.stage d.n (Of p i) ≡ false
      → not (all_inside k (a ∷ zs)) ≡ false → not (eqb (length (a ∷ zs)) d.n) ≡ false → length (numerals a zs) + 1 ≤ 32 * suc (bytes_of k)
  list_bytes p i k a zs e m o c =
      let s = size_of d.stage d.n (Of p i) (late d.stage e) m in
      let n : length (a ∷ zs) ≡ d.n = eqb-true (length (a ∷ zs)) d.n (not-false _ c) in
      le_trans (numerals_most k a zs (not-false _ o)) (mul-le-mul_right {m = length (a ∷ zs)} {n = 32} (suc (bytes_of k)) (omega (arith, n, s.1)))

  pub spelled_length : (f : Form) → Passed (form_case d f) → length (spell f) ≤ 302
  spelled_length (problem n) h = omega (arith, problem_length n, kind_most kind.Size n (not-false _ h.outside))
  spelled_length (scale s t) h =
      let r = not-false _ h.outside in
      omega (arith, scale_length s t, kind_most kind.SolutionScale s (both_left _ (in_range kind.InverseScale t) r), kind_most kind.InverseScale t (both_right (in_range kind.SolutionScale s) _ r))
  spelled_length (row i a zs) h =
      omega (arith, row_length i a zs, place_bytes Row i h.early h.misplaced, list_bytes Row i kind.Matrix a zs h.early h.misplaced h.outside h.miscounted)
  spelled_length (right i b) h = omega (arith, right_length i b, place_bytes Right i h.early h.misplaced, kind_most kind.Right b (not-false _ h.outside))
  spelled_length (right_within i b e) h =
      let r = not-false _ h.outside in
      omega (arith, within_length i b e, place_bytes Right i h.early h.misplaced, kind_most kind.Right b (both_left _ (in_range kind.Tolerance e) r), kind_most kind.Tolerance e (both_right (in_range kind.Right b) _ r))
  spelled_length (guess i x) h = omega (arith, guess_length i x, place_bytes Guess i h.early h.misplaced, kind_most kind.Guess x (not-false _ h.outside))
  spelled_length (inverse i g zs) h =
      omega (arith, inverse_length i g zs, place_bytes Inverse i h.early h.misplaced, list_bytes Inverse i kind.Inverse g zs h.early h.misplaced h.outside h.miscounted)
  spelled_length (weight i w) h = omega (arith, weight_length i w, place_bytes Weight i h.early h.misplaced, kind_most kind.Weight w (not-false _ h.outside))
  spelled_length end h = omega (arith, end_length)

-- ---- acceptance
pub code_nothing : (d : Loader) (f : Form) → Passed (form_case d f) → form_code d f ≡ []
unfolding form_code
code_nothing d f h = rw (h.early, h.misplaced, h.outside, h.miscounted, h.repeated, h.incomplete)

module _ (d : Loader) (l : Lists) (long : short_lists l ≡ false) (going : ended d.stage ≡ false) where
  pub accepts_spelled : (f : Form) → Passed (form_case d f) → line_answer d l (spell f) ≡ []
  accepts_spelled f h =
      answer_form d l (spell f) f long going (le-ltb 320 (length (spell f)) (omega (arith, spelled_length d f h))) (read_spelled f) ∙ code_nothing d f h

  pub spelled_accepted : (f : Form) → Passed (form_case d f) → AcceptedLine d l (spell f) f
  unfolding loader_after lists_after
  spelled_accepted f h = record {
    reads = read_spelled f;
    long = long;
    going = going;
    fine = h;
    loader = rw (accepts_spelled f h, read_spelled f);
    lists = rw (accepts_spelled f h, read_spelled f);
  }

pub accepted_length : (d : Loader) (l : Lists) (line : List ℕ) → line_answer d l line ≡ [] → length line ≤ 302
accepted_length d l line e =
    let a = accepted_form d l line e in
    rw (spelled_read line a.0 a.1.reads) (spelled_length d a.0 a.1.fine)
