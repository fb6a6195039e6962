-- Words that many statements share. `code r` is nothing where a call accepts, else 01's number of the refusal and the places or the count that it gives.
--   RangeIs k a b — a number of the kind k is in its range exactly where it is from a to b
--   test_numbers ts — the numbers of tests, in their order
--   Lowest n fails m — of the rows below n, m is the lowest that fails
--   Refused w    — something is said
--   Accepted P E L — the problem P was accepted with the limits E of the heights and L of the inverse: by a check on lists or through a loader, whose limits
--     are what its two lists hold afterwards, row after row, by the lower half of its matrix, or as a file, whose limits are what its listing shows (Demands,
--     `FileShowsLimits`)
--   StatedThrough — the case that is stated for what a check through a loader says
use Rattle.std.specs.Prelude.{Bool, true, false, ◌&&◌, List, [], ◌∷◌, map, ◌≡◌, ℕ, ◌+◌, ◌*◌, ◌<◌, ℤ, get_or, take}
use Rattle.std.specs.Int.Signed.{le_z}
use Rattle.rules.specs.Order.{Test}
use Rattle.rules.specs.Range.{in_range}
use Rattle.rules.specs.Refusal.{code, Outcome}
use Rattle.rules.specs.declared.Kind.{Kind}
use Rattle.enclosure.specs.Problem.{Problem}
use Rattle.enclosure.specs.Reckoning.{bound, inverse_bound}
use Rattle.check_spec.specs.Input.{Input, problem, short}
use Rattle.check_spec.specs.Checked.{Checked}
use Rattle.check_spec.specs.Stated.{Stated}
use Rattle.half_check.specs.Checked.{filled_input, CheckedHalf}
use Rattle.loader_progress.specs.Progress.{ended}
use Rattle.loader_progress.specs.declared.Stage.{Stage}
use Rattle.loader_order.specs.Through.{CheckedThrough}
use Rattle.line_form.specs.Form.{bytes}
use Rattle.listing_refusal.specs.declared.FileAnswer.{FileAnswer}
use Rattle.listing.specs.Listing.{problem_in, ListedAs, AnsweredAs}

abbrev pub RangeIs : Kind → ℤ → ℤ → Type 0
RangeIs k a b = (z : ℤ) → in_range k z ≡ le_z a z && le_z z b

abbrev pub test_numbers : List Test → List ℕ
test_numbers ts = map (λ (t : Test). get_or t.says 0 0) ts

pub record Lowest (n : ℕ) (fails : ℕ → Bool) (m : ℕ) : Type 0 where
  pub below : m < n
  pub here : fails m ≡ true
  pub before : (k : ℕ) → k < m → fails k ≡ false

abbrev pub Refused : List ℕ → Type 0
Refused w = w ≡ [] → ⊥

pub data Accepted : Problem → (ℕ → ℕ) → (ℕ → ℕ → ℕ) → Type 0 where
  on_lists : (I : Input) (r : Outcome) (E L : List ℕ) → Checked I r E L → code r ≡ [] →
      Accepted (problem I) (λ (i : ℕ). get_or E i 0) (λ (i j : ℕ). get_or L (i * I.n + j) 0)
  through_loader : (s : Stage) (I : Input) (r : Outcome) (E L : List ℕ) → CheckedThrough s I r E L → code r ≡ [] →
      Accepted (problem I) (λ (i : ℕ). get_or E i 0) (λ (i j : ℕ). get_or L (i * I.n + j) 0)
  by_half : (H : Input) (r : Outcome) (E L : List ℕ) → CheckedHalf H r E L → code r ≡ [] →
      Accepted (problem (filled_input H)) (λ (i : ℕ). get_or E i 0) (λ (i j : ℕ). get_or L (i * H.n + j) 0)
  of_file : (file old new : List ℕ) (r : FileAnswer) → AnsweredAs file old new r → r.reply.number ≡ 0 →
      Accepted (problem_in file) (bound (problem_in file)) (inverse_bound (problem_in file))
  of_listing : (file old new : List ℕ) (count : ℕ) → ListedAs file old new count → take 8 (take count new) ≡ bytes "(bounds " →
      Accepted (problem_in file) (bound (problem_in file)) (inverse_bound (problem_in file))

pub data StatedThrough (s : Stage) (I : Input) : List ℕ → Type 0 where
  -- 8: a lent list too short
  too_short : short I ≡ true → StatedThrough s I (8 ∷ [])
  -- 15: checking before an accepted end
  not_ended : short I ≡ false → ended s ≡ false → StatedThrough s I (15 ∷ [])
  -- 3, 5, 6, 7 and acceptance: as on lists
  as_on_lists : (w : List ℕ) → ended s ≡ true → Stated I w → StatedThrough s I w
