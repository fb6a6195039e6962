use mathlib.Core.Path.{◌≡◌, sym, ◌∙◌}
use mathlib.Core.Bool.{true, false}
use Rattle.rules.proofs.Ranges.{both_left, not_both, not_first, size_range}
use Rattle.quality_spec.specs.Inquiry.{Inquiry, inquiry, inquiry_short, inquiry_sizes}
use Rattle.quality_spec.proofs.Contract.{long_inquiry, quality_short, quality_range}
use Rattle.quality.proofs.quality.Goals as goal
use Rattle.quality.proofs.quality.Goals.{Else-is_short, Start, Else-not-are_sizes_in_range}

abbrev Q : Start → Inquiry
Q s = let a = s.args in inquiry a.n a.t a.matrix.now a.inverse.now a.weights.now

-- what the tests showed
long : (c : Else-is_short) → inquiry_short (Q (goal.at.Else-is_short c).Start) ≡ false
long c = sym c.is_short.ensures ∙ c.if-is_short.false

sizes : (c : Else-not-are_sizes_in_range) → let s = (goal.at.Else-not-are_sizes_in_range c).Start in inquiry_sizes s.args.n s.args.t ≡ true
sizes c = sym c.are_sizes_in_range.ensures ∙ c.if-not-are_sizes_in_range.false

pub returns-then-is_short : goal.returns-then-is_short
returns-then-is_short c = quality_short (Q (goal.at.returns-then-is_short c).Start) (sym c.is_short.ensures ∙ c.if-is_short.true)

pub are_lists_in_range-requires : goal.are_lists_in_range-requires
are_lists_in_range-requires c =
    let l = long_inquiry (Q (goal.at.are_lists_in_range-requires c).Start) (long (goal.at.are_lists_in_range-requires c).Else-is_short) in
    ((size_range _ (both_left _ _ (sizes c))).1, (l.matrix, (l.inverse, l.weights)))

pub returns-then-not-are_lists_in_range : goal.returns-then-not-are_lists_in_range
returns-then-not-are_lists_in_range c =
    quality_range (Q (goal.at.returns-then-not-are_lists_in_range c).Start) (long (goal.at.returns-then-not-are_lists_in_range c).Else-is_short)
    (not_both (sizes (goal.at.returns-then-not-are_lists_in_range c).Else-not-are_sizes_in_range) (sym c.are_lists_in_range.ensures ∙ c.if-not-are_lists_in_range.true))

pub returns-then-not-are_sizes_in_range : goal.returns-then-not-are_sizes_in_range
returns-then-not-are_sizes_in_range c =
    quality_range (Q (goal.at.returns-then-not-are_sizes_in_range c).Start) (long (goal.at.returns-then-not-are_sizes_in_range c).Else-is_short)
    (not_first _ (sym c.are_sizes_in_range.ensures ∙ c.if-not-are_sizes_in_range.true))
