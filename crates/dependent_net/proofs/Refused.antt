-- The contract of the check of a dependent net where 8 is said, and where 3 is.
use mathlib.Core.Path.{◌≡◌, sym}
use mathlib.Core.Bool.{true, false}
use Rattle.std.specs.Prelude.{Err}
use Rattle.rules.specs.declared.Refusal.TheVariants.{TooShort, OutOfRange}
use Rattle.rules.proofs.Verdicts.{accepted_old}
use Rattle.dependent_spec.specs.Nets.{DependentNet}
use Rattle.dependent_spec.specs.Order.{dependent_short, dependent_in_ranges}
use Rattle.dependent_spec.specs.Checked.{DependentAs}
use Rattle.dependent_spec.proofs.Statements.{answer_short, answer_range}

module _ (D : DependentNet) where
  pub dependent_short_lem : dependent_short D ≡ true → DependentAs D (Err TooShort) D.own.solution_bounds D.own.inverse_bounds
  dependent_short_lem e = record {
    says = sym (answer_short D e);
    solution_bounds = sym (accepted_old _ _ (answer_short D e));
    inverse_bounds = sym (accepted_old _ _ (answer_short D e));
  }

  pub dependent_range : dependent_short D ≡ false → dependent_in_ranges D ≡ false → DependentAs D (Err OutOfRange) D.own.solution_bounds D.own.inverse_bounds
  dependent_range e f = record {
    says = sym (answer_range D e f);
    solution_bounds = sym (accepted_old _ _ (answer_range D e f));
    inverse_bounds = sym (accepted_old _ _ (answer_range D e f));
  }
