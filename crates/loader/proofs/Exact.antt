-- What is said of a line, of the form it is, and of that form as the code has it.
--   form_case, form_code — the cases of a form that is read at a loader that has not ended, and what is said
--   answer_form  — what is said of a line that is a form is what is said of the form
--   code_capped  — and of its capped form
--   exact_loader, exact_lists — where nothing is said, both leave the same;  exact_room — and there is room for the form
use mathlib.Core.Path.{◌≡◌, refl, ap}
use mathlib.Core.Bool.{Bool, true, false}
use mathlib.Core.List.{List, []}
use mathlib.Core.Option.{some}
use Prim.Native.Nat.{ℕ, ◌<◌}
use native.Mathlib.Omega.{arith}
use lib.Dec.{ltb}
use lib.IntN.{ℤ}
use lib.ListN.{length}
use Rattle.rules.specs.Order.{verdict}
use Rattle.line_numeral.specs.Numeral.{cap, cap_at}
use Rattle.line_numeral.proofs.Cap.{cap_small}
use Rattle.line_form.specs.Form.{Form, problem, scale, row, right, right_within, guess, inverse, weight, end}
use Rattle.line_form.specs.Reading.{reading}
use Rattle.line_parts.specs.Line.{capped_form, numbers_in}
use Rattle.loader_values.specs.Item.{item_of, placed, outside, miscounted}
use Rattle.loader_values.specs.Capped.{item_in, values_in}
use Rattle.loader_values.specs.declared.Item.TheVariants.{Of}
use Rattle.loader_values.specs.declared.Part.{Part}
use Rattle.loader_values.specs.declared.Part.TheVariants.{Row, Right, Guess, Inverse, Weight}
use Rattle.loader_values.proofs.Capped.{placed_capped, outside_capped, miscounted_capped, item_exact}
use Rattle.loader_values.proofs.Between.{from_to_lem}
use Rattle.loader_lists.specs.Lists.{Lists, short_lists}
use Rattle.loader_lists.specs.Pasted.{Rooms, pasted_all}
use Rattle.loader_lists.specs.Put.{closed}
use Rattle.loader_lists.specs.Span.{Narrow}
use Rattle.loader_lists.proofs.Lists.{rooms}
use Rattle.loader_lists.proofs.Exact.{all_exact}
use Rattle.loader_order.specs.Order.{LineCase, line_order}
use Rattle.loader_order.proofs.CodeLaws.{Passed, passed}
use Rattle.loader.specs.declared.Loader.{Loader}
use Rattle.loader_progress.specs.declared.Stage.{Stage}
use Rattle.loader_progress.specs.Progress.{set_of, ended, early, misplaced, repeated, incomplete, missing}
use Rattle.loader.specs.Answer.{line_answer}
use Rattle.loader.specs.Taken.{after, lists_with}
use Rattle.loader.specs.Decided.{code_in}
use Rattle.loader_progress.proofs.Progress.{placed_of}
use Rattle.loader.proofs.Form.{narrow_by}

abbrev pub form_case : Loader → Form → LineCase
form_case d f = record {
  short = false;
  ended = false;
  long = false;
  unspelled = false;
  early = early d.stage (item_of f);
  misplaced = misplaced d.stage d.n (item_of f);
  repeated = repeated d.stage d.sets (item_of f);
  outside = outside f;
  miscounted = miscounted d.n f;
  incomplete = incomplete d.n d.sets (item_of f);
  missing = missing d.n d.sets;
}

unfoldable pub form_code : Loader → Form → List ℕ
form_code d f = verdict (line_order (form_case d f))

pub answer_form : (d : Loader) (l : Lists) (line : List ℕ) (f : Form) → short_lists l ≡ false → ended d.stage ≡ false → ltb 320 (length line) ≡ false → reading line ≡ some f
    → line_answer d l line ≡ form_code d f
unfolding line_answer form_code
answer_form d l line f a b c e = rw (a, b, c, e)

-- ---- the tests of the capped form
early_capped : (s : Stage) (f : Form) → early s (item_in (capped_form f)) ≡ early s (item_of f)
early_capped s (problem n) = refl
early_capped s (scale u v) = refl
early_capped s (row i a others) = refl
early_capped s (right i b) = refl
early_capped s (right_within i b d) = refl
early_capped s (guess i x) = refl
early_capped s (inverse i g others) = refl
early_capped s (weight i w) = refl
early_capped s end = refl

incomplete_capped : (n : ℕ) (z : List ℕ) (f : Form) → incomplete n z (item_in (capped_form f)) ≡ incomplete n z (item_of f)
incomplete_capped n z (problem m) = refl
incomplete_capped n z (scale u v) = refl
incomplete_capped n z (row i a others) = refl
incomplete_capped n z (right i b) = refl
incomplete_capped n z (right_within i b d) = refl
incomplete_capped n z (guess i x) = refl
incomplete_capped n z (inverse i g others) = refl
incomplete_capped n z (weight i w) = refl
incomplete_capped n z end = refl

module _ (d : Loader) (f : Form) (small : d.n < cap_at) where
  misplaced_capped : misplaced d.stage d.n (item_in (capped_form f)) ≡ misplaced d.stage d.n (item_of f)
  unfolding misplaced
  misplaced_capped = rw (placed_capped d.n f small)

  repeated_by : (p : Part) (i : ℤ) → placed d.n (Of p i) ≡ true → repeated d.stage d.sets (Of p (cap i)) ≡ repeated d.stage d.sets (Of p i)
  repeated_by p i h = ap (λ (k : ℤ). repeated d.stage d.sets (Of p k)) (cap_small i (omega (arith, (from_to_lem 1 d.n i h).to)))

  repeated_capped : (g : Form) → placed d.n (item_of g) ≡ true → repeated d.stage d.sets (item_in (capped_form g)) ≡ repeated d.stage d.sets (item_of g)
  repeated_capped (problem n) h = refl
  repeated_capped (scale u v) h = refl
  repeated_capped (row i a others) h = repeated_by Row i h
  repeated_capped (right i b) h = repeated_by Right i h
  repeated_capped (right_within i b e) h = repeated_by Right i h
  repeated_capped (guess i x) h = repeated_by Guess i h
  repeated_capped (inverse i g others) h = repeated_by Inverse i h
  repeated_capped (weight i w) h = repeated_by Weight i h
  repeated_capped end h = refl

  -- the test of the place comes before that of repetition
  pub code_capped : code_in d (capped_form f) (numbers_in f).count (numbers_in f).inside ≡ form_code d f
  unfolding code_in form_code
  code_capped = go (misplaced d.stage d.n (item_of f)) refl
    where
      go : (b : Bool) → misplaced d.stage d.n (item_of f) ≡ b → code_in d (capped_form f) (numbers_in f).count (numbers_in f).inside ≡ form_code d f
      go true e = rw (early_capped d.stage f, misplaced_capped, outside_capped f, miscounted_capped d.n f, incomplete_capped d.n d.sets f, e)
      go false e =
          rw (early_capped d.stage f, misplaced_capped, outside_capped f, miscounted_capped d.n f, incomplete_capped d.n d.sets f, repeated_capped f (placed_of d.stage d.n (item_of f) e))

-- ---- what an accepted form leaves
module _ (d : Loader) (f : Form) (small : d.n < cap_at) (none : form_code d f ≡ []) where
  holds : Passed (form_case d f)
  unfolding form_code
  holds = passed (form_case d f) none

  exact : item_in (capped_form f) ≡ item_of f
  exact = item_exact d.n f small (placed_of d.stage d.n (item_of f) holds.misplaced) holds.outside

  pub exact_loader : after d (item_in (capped_form f)) ≡ after d (item_of f)
  exact_loader = ap (after d) exact

  narrow : Narrow d.n (item_of f)
  narrow = narrow_by d (item_of f) holds.early holds.misplaced

  module _ (l : Lists) (enough : short_lists l ≡ false) where
    pub exact_room : Rooms d.n (item_in (capped_form f)) l
    exact_room = rw exact (rooms d.n (item_of f) l enough narrow)

    pub exact_lists : closed d.n (set_of d.sets Weight) (item_in (capped_form f)) (pasted_all d.n (item_in (capped_form f)) (values_in (capped_form f) (numbers_in f).values) l) ≡ lists_with d f l
    exact_lists = rw exact (ap (closed d.n (set_of d.sets Weight) (item_of f)) (all_exact d.n f l enough narrow holds.outside holds.miscounted))
