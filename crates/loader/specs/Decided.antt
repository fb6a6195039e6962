-- What the code decides of a line before it writes, with the cases of its form, the numbers capped; cited by the contracts inside.
-- proofs/Exact.antt ties them to the exact form.
--   case_in d m c b — the cases from 11 on; c is the count of its list, b is whether the numbers of its list are in their range
--   code_in         — what is said of it
--   fits x         — its numbers are in their ranges, i in 1 to 32
--   AcceptedOf   — what an accepted form gives: nothing is said, and there are the loader then and the form to write
--   DecidedIn      — what is decided of a form: that, or the refusal that is said
--   NumbersFor   — the numbers vs are those of the form of the line, where it is a form
--   AcceptedAt   — what an accepted line gives, with the lists l: nothing is said, and there are the loader then, the numbers vs of its form, room for the form to
--                  write, and what the numbers leave, written as that form
--   DecidedFor     — what is decided of a line, with the lists l: that, or the refusal that is said
--   DecidedAs      — that, with any lists of which one is too short or none is
use Rattle.std.specs.Prelude.{Bool, true, false, ◌&&◌, List, [], ◌≡◌, ℕ, ℤ, Result, Ok, Err, MatchResult}
use Rattle.rules.specs.Order.{verdict}
use Rattle.rules.specs.Range.{in_range}
use Rattle.rules.specs.Refusal.{code}
use Rattle.rules.specs.declared.Kind.TheVariants as kind
use Rattle.rules.specs.declared.Refusal.{Refusal}
use Rattle.line_parts.specs.declared.CappedForm.{CappedForm}
use Rattle.line_parts.specs.Line.{line_of}
use Rattle.line_form.specs.declared.Numbers.{Numbers}
use Rattle.loader_values.specs.Item.{placed}
use Rattle.loader_values.specs.Capped.{item_in, outside_in, miscounted_in, values_in}
use Rattle.loader_values.specs.declared.Item.{Item}
use Rattle.loader_values.specs.declared.Item.TheVariants.{Problem, Scale, Of, End}
use Rattle.loader_values.specs.declared.Part.TheVariants.{Weight}
use Rattle.loader_lists.specs.Lists.{Lists, short_lists}
use Rattle.loader_lists.specs.Pasted.{Rooms, pasted_all}
use Rattle.loader_lists.specs.Put.{closed}
use Rattle.loader_progress.specs.Progress.{set_of, missing, early, misplaced, repeated, incomplete}
use Rattle.loader_order.specs.Order.{LineCase, line_order}
use Rattle.loader.specs.declared.AcceptedForm.{AcceptedForm}
use Rattle.loader.specs.declared.Loader.{Loader}
use Rattle.loader.specs.Answer.{line_answer}
use Rattle.loader.specs.Taken.{after, loader_after, lists_after}

abbrev pub case_in : Loader → CappedForm → ℕ → Bool → LineCase
case_in d m count inside = record {
  short = false;
  ended = false;
  long = false;
  unspelled = false;
  early = early d.stage (item_in m);
  misplaced = misplaced d.stage d.n (item_in m);
  repeated = repeated d.stage d.sets (item_in m);
  outside = outside_in m inside;
  miscounted = miscounted_in d.n m count;
  incomplete = incomplete d.n d.sets (item_in m);
  missing = missing d.n d.sets;
}

unfoldable pub code_in : Loader → CappedForm → ℕ → Bool → List ℕ
code_in d m count inside = verdict (line_order (case_in d m count inside))

abbrev pub fits : Item → Bool
fits (Problem n) = in_range kind.Size n
fits (Scale s t) = in_range kind.SolutionScale s && in_range kind.InverseScale t
fits (Of p i) = placed 32 (Of p i)
fits End = true

pub record AcceptedOf (d : Loader) (m : CappedForm) (z : Numbers) (a : AcceptedForm) : Type 0 where
  pub says : [] ≡ code_in d m z.count z.inside
  pub loader : a.loader ≡ after d (item_in m)
  pub item : a.item ≡ item_in m

abbrev pub DecidedIn : Loader → CappedForm → Numbers → Result AcceptedForm Refusal → Type 0
DecidedIn d m z r = MatchResult r (AcceptedOf d m z) (λ (x : Refusal). code (Err x) ≡ code_in d m z.count z.inside)

abbrev pub NumbersFor : List ℕ → List ℤ → Type 0
NumbersFor line vs = (m : CappedForm) → (line_of line).answer ≡ Ok m → vs ≡ values_in m (line_of line).numbers.values

pub record AcceptedAt (d : Loader) (l : Lists) (line : List ℕ) (vs : List ℤ) (a : AcceptedForm) : Type 0 where
  pub says : [] ≡ line_answer d l line
  pub loader : a.loader ≡ loader_after d l line
  pub values : NumbersFor line vs
  pub room : Rooms d.n a.item l
  pub lists : closed d.n (set_of d.sets Weight) a.item (pasted_all d.n a.item vs l) ≡ lists_after d l line

abbrev pub DecidedFor : Loader → Lists → List ℕ → List ℤ → Result AcceptedForm Refusal → Type 0
DecidedFor d l line vs r = MatchResult r (AcceptedAt d l line vs) (λ (x : Refusal). code (Err x) ≡ line_answer d l line)

abbrev pub DecidedAs : Loader → Bool → List ℕ → List ℤ → Result AcceptedForm Refusal → Type 0
DecidedAs d short line vs r = (l : Lists) → short_lists l ≡ short → DecidedFor d l line vs r
