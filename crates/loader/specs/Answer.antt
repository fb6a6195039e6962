-- What is said of a line at a loader.
--   of_form o other g — g of the form that a line is; `other` where the line is no form
--   case_of d l line — which of the stated cases hold of a line at the loader d, with the lists l
--   line_answer d l line — what is said of the line: nothing where it is accepted
use Rattle.std.specs.Prelude.{true, false, List, ℕ, ltb, length}
use Rattle.std.proofs.Math.Option.{Option, none, some}
use Rattle.rules.specs.Order.{verdict}
use Rattle.line_form.specs.Form.{Form}
use Rattle.line_form.specs.Reading.{reading}
use Rattle.loader_values.specs.Item.{item_of, outside, miscounted}
use Rattle.loader_lists.specs.Lists.{Lists, short_lists}
use Rattle.loader_progress.specs.Progress.{missing, ended, early, misplaced, repeated, incomplete}
use Rattle.loader_order.specs.Order.{LineCase, line_order}
use Rattle.loader.specs.declared.Loader.{Loader}

abbrev pub of_form {ℓ} : {A : Type ℓ} → Option Form → A → (Form → A) → A
of_form none other g = other
of_form (some f) other g = g f

abbrev pub case_of : Loader → Lists → List ℕ → LineCase
case_of d l line = record {
  short = short_lists l;
  ended = ended d.stage;
  long = ltb 320 (length line);
  unspelled = of_form (reading line) true (λ (f : Form). false);
  early = of_form (reading line) false (λ (f : Form). early d.stage (item_of f));
  misplaced = of_form (reading line) false (λ (f : Form). misplaced d.stage d.n (item_of f));
  repeated = of_form (reading line) false (λ (f : Form). repeated d.stage d.sets (item_of f));
  outside = of_form (reading line) false (λ (f : Form). outside f);
  miscounted = of_form (reading line) false (λ (f : Form). miscounted d.n f);
  incomplete = of_form (reading line) false (λ (f : Form). incomplete d.n d.sets (item_of f));
  missing = missing d.n d.sets;
}

unfoldable pub line_answer : Loader → Lists → List ℕ → List ℕ
line_answer d l line = verdict (line_order (case_of d l line))
