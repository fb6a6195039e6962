use mathlib.Core.Path.{◌≡◌, sym, ◌∙◌}
use mathlib.Core.Bool.{true}
use lib.IntN.{pos}
use Rattle.rules.specs.Range.{in_range}
use Rattle.rules.specs.declared.Kind.TheVariants as kind
use Rattle.rules.proofs.Ranges.{size_range}
use native.Mathlib.Omega.{arith}
use Rattle.half_fill.proofs.Filling.{filled_inside, filled_outside}
use Rattle.half_fill.proofs.fill_out.Goals as goal
use Rattle.half_fill.proofs.fill_out.Goals.{Then-is_natural_in_range}

inside : (c : Then-is_natural_in_range) → in_range kind.Size (pos c.args.n) ≡ true
inside c = sym c.is_natural_in_range.ensures ∙ c.if-is_natural_in_range.true

pub fill_rows-requires : goal.fill_rows-requires
fill_rows-requires c = ((size_range _ (inside c)).1, omega arith)

pub returns-then-is_natural_in_range : goal.returns-then-is_natural_in_range
returns-then-is_natural_in_range c = c.fill_rows.ensures ∙ sym (filled_inside _ _ (inside (goal.at.returns-then-is_natural_in_range c).Then-is_natural_in_range))

pub returns : goal.returns
returns c = sym (filled_outside _ _ (sym c.is_natural_in_range.ensures ∙ c.if-is_natural_in_range.false))
