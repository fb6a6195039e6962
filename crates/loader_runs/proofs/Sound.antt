-- What holds of every loader made by `new` and `take`.
--   SoundLoader — five sets; past problem n is in its range, past scale s and t in theirs; before the scale no form of a part was given; after the
--                end none is missing
--   made_sound — every such loader is sound;  made_size — so none has an n of its own out of range
use mathlib.Core.Path.{◌≡◌, refl}
use mathlib.Core.Bool.{true, false, not}
use mathlib.Core.List.{List, [], ◌∷◌}
use Prim.Native.Nat.{ℕ, ◌-◌}
use native.Mathlib.Omega.{arith}
use borrow.Author.Tests.{not-false, ltb-false}
use lib.IntN.{ℤ, pos, nat_abs}
use lib.ListN.{length, length-set, replicate}
use Rattle.integer.proofs.Search.{clash}
use Rattle.rules.specs.Range.{in_range, range_of, ranges}
use Rattle.rules.specs.declared.Kind.TheVariants as kind
use Rattle.rules.proofs.Ranges.{both_left, both_right, range_kept}
use Rattle.line_form.specs.Form.{Form, problem, scale, row, right, right_within, guess, inverse, weight, end}
use Rattle.loader_values.specs.Item.{item_of}
use Rattle.loader_lists.specs.Lists.{Lists}
use Rattle.loader_values.specs.declared.Item.TheVariants.{Of}
use Rattle.loader_values.specs.declared.Part.{Part}
use Rattle.loader_values.specs.declared.Part.TheVariants.{Row, Right, Guess, Inverse, Weight}
use Rattle.loader_bit_set.proofs.Places.{has_none}
use Rattle.loader_progress.specs.Progress.{given, missing, sized, scaled, ended}
use Rattle.loader_progress.specs.declared.Stage.{Stage}
use Rattle.loader_progress.specs.declared.Stage.TheVariants.{Start, Sized, Scaled, Ended}
use Rattle.loader_progress.proofs.Progress.{late}
use Rattle.loader.specs.declared.Loader.{Loader}
use Rattle.loader.specs.Answer.{line_answer}
use Rattle.loader.specs.Taken.{fresh, after, loader_after}
use Rattle.loader_order.proofs.CodeLaws.{Passed}
use Rattle.loader.proofs.Exact.{form_case}
use Rattle.loader.proofs.CodeLaws.{refused_leaves}
use Rattle.loader.proofs.Accepted.{accepted_form}
use Rattle.loader_runs.specs.Accepts.{Made, new, taken}

pub record SoundLoader (d : Loader) : Type 0 where
  pub five : length d.sets ≡ 5
  pub size : sized d.stage ≡ true → in_range kind.Size (pos d.n) ≡ true
  pub solution : scaled d.stage ≡ true → in_range kind.SolutionScale (pos d.s) ≡ true
  pub inverse : scaled d.stage ≡ true → in_range kind.InverseScale (pos d.t) ≡ true
  pub empty : scaled d.stage ≡ false → (p : Part) (i : ℕ) → given d.sets p i ≡ false
  pub whole : ended d.stage ≡ true → missing d.n d.sets ≡ 0

-- ---- the stage
unsized : (s : Stage) → sized s ≡ false → scaled s ≡ false
unsized Start e = refl
unsized Sized e = clash true refl e
unsized Scaled e = e
unsized Ended e = e

-- ---- a number in range, as the loader keeps it
size_kept : (n : ℤ) → in_range kind.Size n ≡ true → in_range kind.Size (pos (nat_abs n)) ≡ true
unfolding range_of ranges
size_kept n h = range_kept kind.Size 1 n refl h

solution_kept : (s : ℤ) → in_range kind.SolutionScale s ≡ true → in_range kind.SolutionScale (pos (nat_abs s)) ≡ true
unfolding range_of ranges
solution_kept s h = range_kept kind.SolutionScale 0 s refl h

inverse_kept : (t : ℤ) → in_range kind.InverseScale t ≡ true → in_range kind.InverseScale (pos (nat_abs t)) ≡ true
unfolding range_of ranges
inverse_kept t h = range_kept kind.InverseScale 0 t refl h

-- ---- from line to line
pub fresh_empty : (p : Part) (i : ℕ) → given (replicate 5 0) p i ≡ false
fresh_empty Row i = has_none (i - 1)
fresh_empty Right i = has_none (i - 1)
fresh_empty Guess i = has_none (i - 1)
fresh_empty Inverse i = has_none (i - 1)
fresh_empty Weight i = has_none (i - 1)

pub fresh_sound : SoundLoader fresh
fresh_sound = record {
  five = refl;
  size = λ e. clash false e refl;
  solution = λ e. clash false e refl;
  inverse = λ e. clash false e refl;
  empty = λ e. fresh_empty;
  whole = λ e. clash false e refl;
}

module _ (d : Loader) (h : SoundLoader d) (going : ended d.stage ≡ false) where
  part_sound : (p : Part) (i : ℤ) → not (scaled d.stage) ≡ false → SoundLoader (after d (Of p i))
  part_sound p i e = record {
    five = simp length-set h.five;
    size = h.size;
    solution = h.solution;
    inverse = h.inverse;
    empty = λ q. clash (scaled d.stage) (not-false (scaled d.stage) e) q;
    whole = λ q. clash (ended d.stage) q going;
  }

  pub form_sound : (f : Form) → Passed (form_case d f) → SoundLoader (after d (item_of f))
  form_sound (problem n) p = record {
    five = h.five;
    size = λ e. size_kept n (not-false (in_range kind.Size n) p.outside);
    solution = λ e. clash false e refl;
    inverse = λ e. clash false e refl;
    empty = λ e. h.empty (unsized d.stage p.repeated);
    whole = λ e. clash false e refl;
  }
  form_sound (scale s t) p = record {
    five = h.five;
    size = λ e. h.size (not-false (sized d.stage) p.early);
    solution = λ e. solution_kept s (both_left (in_range kind.SolutionScale s) (in_range kind.InverseScale t) (not-false _ p.outside));
    inverse = λ e. inverse_kept t (both_right (in_range kind.SolutionScale s) (in_range kind.InverseScale t) (not-false _ p.outside));
    empty = λ e. clash true refl e;
    whole = λ e. clash false e refl;
  }
  form_sound (row i a others) p = part_sound Row i p.early
  form_sound (right i b) p = part_sound Right i p.early
  form_sound (right_within i b c) p = part_sound Right i p.early
  form_sound (guess i x) p = part_sound Guess i p.early
  form_sound (inverse i g others) p = part_sound Inverse i p.early
  form_sound (weight i w) p = part_sound Weight i p.early
  form_sound end p = record {
    five = h.five;
    size = λ e. h.size (late d.stage p.early);
    solution = λ e. h.solution (not-false (scaled d.stage) p.early);
    inverse = λ e. h.inverse (not-false (scaled d.stage) p.early);
    empty = λ e. clash true refl e;
    whole = λ e. omega (arith, ltb-false 0 (missing d.n d.sets) p.incomplete);
  }

pub line_sound : (d : Loader) (l : Lists) (line : List ℕ) → SoundLoader d → SoundLoader (loader_after d l line)
line_sound d l line h = go (line_answer d l line) refl
  where
    go : (w : List ℕ) → line_answer d l line ≡ w → SoundLoader (loader_after d l line)
    go [] e = let a = accepted_form d l line e in rw a.1.loader (form_sound d h a.1.going a.0 a.1.fine)
    go (k ∷ ks) e = rw (refused_leaves d l line e).0 h

pub made_sound : {d : Loader} → Made d → SoundLoader d
made_sound new = fresh_sound
made_sound (taken {d} m l line) = line_sound d l line (made_sound m)

pub made_size : {d : Loader} → Made d → sized d.stage ≡ true → in_range kind.Size (pos d.n) ≡ true
made_size m = (made_sound m).size
