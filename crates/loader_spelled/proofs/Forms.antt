-- Which forms no test refuses, and that the spelling of a part's is accepted.
--   passed_part    — a form of a part with i in 1 to n, its numbers in range, n of them in a list, not given yet, at a scaled loader
--   passed_problem, passed_scale, passed_end — problem at a loader that was given none, scale at a sized one, end where nothing is missing
--   accepts_part — its spelling is accepted
use mathlib.Core.Path.{◌≡◌, refl, sym}
use mathlib.Core.Bool.{true, false}
use mathlib.Core.List.{[]}
use native.Mathlib.Omega.{arith}
use borrow.Author.Tests.{le-ltb}
use lib.IntN.{ℤ, pos, nat_abs}
use Rattle.rules.specs.Range.{in_range}
use Rattle.rules.specs.declared.Kind.TheVariants as kind
use Rattle.line_form.specs.Form.{Form, problem, scale, end}
use Rattle.line_form.specs.Spelling.{spell}
use Rattle.loader_values.specs.Item.{item_of, placed, outside, miscounted}
use Rattle.loader_lists.specs.Lists.{Lists, short_lists}
use Rattle.loader_values.specs.declared.Item.TheVariants.{Problem, Scale, Of, End}
use Rattle.loader_values.specs.declared.Part.{Part}
use Rattle.loader_progress.specs.Progress.{given, sized, scaled, ended, missing}
use Rattle.loader_progress.proofs.Progress.{scaled_sized, misplaced_by, misplaced_start}
use Rattle.loader.specs.declared.Loader.{Loader}
use Rattle.loader.specs.Answer.{line_answer}
use Rattle.loader_order.proofs.CodeLaws.{Passed}
use Rattle.loader.proofs.Exact.{form_case}
use Rattle.loader_spelled.proofs.Accepts.{accepts_spelled}

module _ (d : Loader) where
  pub passed_problem : (n : ℤ) → sized d.stage ≡ false → in_range kind.Size n ≡ true → Passed (form_case d (problem n))
  passed_problem n s r = record {
    short = refl;
    ended = refl;
    long = refl;
    unspelled = refl;
    early = refl;
    misplaced = sym (misplaced_start d.stage d.n (Problem n) {b = true} s refl);
    outside = rw r;
    miscounted = refl;
    repeated = s;
    incomplete = refl;
  }

  module _ (own : in_range kind.Size (pos d.n) ≡ true) where
    pub passed_scale : (s t : ℤ) → sized d.stage ≡ true → scaled d.stage ≡ false → in_range kind.SolutionScale s ≡ true → in_range kind.InverseScale t ≡ true
        → Passed (form_case d (scale s t))
    passed_scale s t a b p q = record {
      short = refl;
      ended = refl;
      long = refl;
      unspelled = refl;
      early = rw a;
      misplaced = sym (misplaced_by d.stage d.n (Scale s t) {b = true} a own refl);
      outside = rw (p, q);
      miscounted = refl;
      repeated = b;
      incomplete = refl;
    }

    module _ (ready : scaled d.stage ≡ true) where
      pub passed_part : (f : Form) {p : Part} {i : ℤ} → item_of f ≡ Of p i → placed d.n (Of p i) ≡ true → outside f ≡ false → miscounted d.n f ≡ false → given d.sets p (nat_abs i) ≡ false
          → Passed (form_case d f)
      passed_part f {p} {i} e h o c g = record {
        short = refl;
        ended = refl;
        long = refl;
        unspelled = refl;
        early = rw (e, ready);
        misplaced = rw e (sym (misplaced_by d.stage d.n (Of p i) {b = true} (scaled_sized d.stage ready) own (sym h)));
        outside = o;
        miscounted = c;
        repeated = rw e g;
        incomplete = rw e;
      }

      pub passed_end : missing d.n d.sets ≡ 0 → Passed (form_case d end)
      passed_end m = record {
        short = refl;
        ended = refl;
        long = refl;
        unspelled = refl;
        early = rw ready;
        misplaced = sym (misplaced_by d.stage d.n End {b = true} (scaled_sized d.stage ready) own refl);
        outside = refl;
        miscounted = refl;
        repeated = refl;
        incomplete = le-ltb 0 (missing d.n d.sets) (omega (arith, m));
      }

-- ---- a spelling, with lists that are long enough
module _ (d : Loader) (l : Lists) (long : short_lists l ≡ false) (going : ended d.stage ≡ false) (own : in_range kind.Size (pos d.n) ≡ true)
    (ready : scaled d.stage ≡ true) where
  pub accepts_part : (f : Form) {p : Part} {i : ℤ} → item_of f ≡ Of p i → placed d.n (Of p i) ≡ true → outside f ≡ false → miscounted d.n f ≡ false → given d.sets p (nat_abs i) ≡ false
      → line_answer d l (spell f) ≡ []
  accepts_part f e h o c g = accepts_spelled d l long going f (passed_part d own ready f e h o c g)
