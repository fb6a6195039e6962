use mathlib.Core.Path.{◌≡◌, sym, ◌∙◌}
use mathlib.Core.Bool.{true, false}
use Rattle.linear.specs.Slice.{at}
use Rattle.rules.specs.Range.{all_in_range}
use Rattle.rules.specs.declared.Kind.TheVariants as kind
use Rattle.rules.proofs.Ranges.{both, not_both, not_first}
use Rattle.doubles_lists.specs.Lists.{exchange_sizes}
use Rattle.doubles_lists.specs.Outward.{Outgoing, outgoing, short_outgoing, outgoing_in_ranges}
use Rattle.doubles_lists.proofs.Outward.{ReadyOutward, ready, small_intervals, out_short, out_range, out_all}
use Rattle.doubles_lists.proofs.intervals_of.Goals as goal
use Rattle.doubles_lists.proofs.intervals_of.Goals.{After-write_intervals, Else-is_short, Start, Then-all_bounds_in_range, Then-all_in_range, Then-are_sizes_in_range}

abbrev I : Start → Outgoing
I s =
    let a = s.args in outgoing a.n a.s a.guess.now a.bounds.now a.low.now a.high.now

long : (c : Else-is_short) → short_outgoing (I (goal.at.Else-is_short c).Start) ≡ false
long c = sym c.is_short.ensures ∙ c.if-is_short.false

sized : (c : Then-are_sizes_in_range) → exchange_sizes c.args.n c.args.s ≡ true
sized c = sym c.are_sizes_in_range.ensures ∙ c.if-are_sizes_in_range.true

here : (c : Then-are_sizes_in_range) → ReadyOutward (I (goal.at.Then-are_sizes_in_range c).Start)
here c = ready (I (goal.at.Then-are_sizes_in_range c).Start) (long (goal.at.Then-are_sizes_in_range c).Else-is_short) (sized c)

guesses : (c : Then-all_in_range) → all_in_range kind.Guess c.args.n (at c.args.guess.now) ≡ true
guesses c = sym c.all_in_range.ensures ∙ c.if-all_in_range.true

within : (c : Then-all_bounds_in_range) → outgoing_in_ranges (I (goal.at.Then-all_bounds_in_range c).Start) ≡ true
within c = let t = (goal.at.Then-all_bounds_in_range c).Then-all_in_range in both (sized (goal.at.Then-all_in_range t).Then-are_sizes_in_range) (both (guesses t) (sym c.all_bounds_in_range.ensures ∙ c.if-all_bounds_in_range.true))

pub returns-then-is_short : goal.returns-then-is_short
returns-then-is_short c = out_short (I (goal.at.returns-then-is_short c).Start) (sym c.is_short.ensures ∙ c.if-is_short.true)

pub all_in_range-requires : goal.all_in_range-requires
all_in_range-requires c = (here c).guess

pub all_bounds_in_range-requires : goal.all_bounds_in_range-requires
all_bounds_in_range-requires c = (here (goal.at.all_bounds_in_range-requires c).Then-are_sizes_in_range).bounds

pub returns-then-all_bounds_in_range : goal.returns-then-all_bounds_in_range
returns-then-all_bounds_in_range c =
    let w = (goal.at.returns-then-all_bounds_in_range c).After-write_intervals in
    let t = (goal.at.returns-then-all_bounds_in_range c).Then-all_bounds_in_range in
    let s = (goal.at.returns-then-all_bounds_in_range c).Then-all_in_range in
    out_all (I (goal.at.returns-then-all_bounds_in_range c).Start) (long (goal.at.returns-then-all_bounds_in_range c).Else-is_short) (within (goal.at.returns-then-all_bounds_in_range c).Then-all_bounds_in_range) w.write_intervals.ensures.low_after w.write_intervals.ensures.high_after

pub returns-else-all_bounds_in_range : goal.returns-else-all_bounds_in_range
returns-else-all_bounds_in_range c =
    let s = (goal.at.returns-else-all_bounds_in_range c).Then-all_in_range in
    out_range (I (goal.at.returns-else-all_bounds_in_range c).Start) (long (goal.at.returns-else-all_bounds_in_range c).Else-is_short)
    (not_both (sized (goal.at.returns-else-all_bounds_in_range c).Then-are_sizes_in_range) (not_both (guesses (goal.at.returns-else-all_bounds_in_range c).Then-all_in_range) (sym c.all_bounds_in_range.ensures ∙ c.if-all_bounds_in_range.false)))

pub returns-else-all_in_range : goal.returns-else-all_in_range
returns-else-all_in_range c =
    let s = (goal.at.returns-else-all_in_range c).Then-are_sizes_in_range in
    out_range (I (goal.at.returns-else-all_in_range c).Start) (long (goal.at.returns-else-all_in_range c).Else-is_short) (not_both (sized (goal.at.returns-else-all_in_range c).Then-are_sizes_in_range) (not_first _ (sym c.all_in_range.ensures ∙ c.if-all_in_range.false)))

pub returns-else-are_sizes_in_range : goal.returns-else-are_sizes_in_range
returns-else-are_sizes_in_range c = out_range (I (goal.at.returns-else-are_sizes_in_range c).Start) (long (goal.at.returns-else-are_sizes_in_range c).Else-is_short) (not_first _ (sym c.are_sizes_in_range.ensures ∙ c.if-are_sizes_in_range.false))

pub write_intervals-requires-clause-n_in_bounds : goal.write_intervals-requires-clause-n_in_bounds
write_intervals-requires-clause-n_in_bounds c = let t = (goal.at.write_intervals-requires-clause-n_in_bounds c).Then-all_bounds_in_range in let h = here (goal.at.write_intervals-requires-clause-n_in_bounds c).Then-are_sizes_in_range in (h.guess, (h.bounds, (h.low, h.high)))

pub write_intervals-requires-clause-small_intervals : goal.write_intervals-requires-clause-small_intervals
write_intervals-requires-clause-small_intervals c = let t = (goal.at.write_intervals-requires-clause-small_intervals c).Then-all_bounds_in_range in let h = here (goal.at.write_intervals-requires-clause-small_intervals c).Then-are_sizes_in_range in small_intervals (I (goal.at.write_intervals-requires-clause-small_intervals c).Start) (within (goal.at.write_intervals-requires-clause-small_intervals c).Then-all_bounds_in_range)
