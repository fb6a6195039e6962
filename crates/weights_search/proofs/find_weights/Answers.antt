use mathlib.Core.Path.{◌≡◌, sym, ◌∙◌}
use mathlib.Core.Bool.{true, false}
use Rattle.rules.proofs.Ranges.{both_left, not_both, not_first, size_range}
use Rattle.weights_spec.specs.Request.{Request, request, search_short, search_sizes}
use Rattle.weights_spec.proofs.Contract.{long_request, found_short, found_range}
use Rattle.weights_search.proofs.find_weights.Goals as goal
use Rattle.weights_search.proofs.find_weights.Goals.{Else-is_short, Start, Else-not-are_sizes_in_range}

abbrev Q : Start → Request
Q s = let a = s.args in request a.n a.t a.matrix.now a.inverse.now a.allowance a.weights.now

-- what the tests showed
long : (c : Else-is_short) → search_short (Q (goal.at.Else-is_short c).Start) ≡ false
long c = sym c.is_short.ensures ∙ c.if-is_short.false

sizes : (c : Else-not-are_sizes_in_range) → let s = (goal.at.Else-not-are_sizes_in_range c).Start in search_sizes s.args.n s.args.t s.args.allowance ≡ true
sizes c = sym c.are_sizes_in_range.ensures ∙ c.if-not-are_sizes_in_range.false

pub returns-then-is_short : goal.returns-then-is_short
returns-then-is_short c = rw c.into.ensures (found_short (Q (goal.at.returns-then-is_short c).Start) (sym c.is_short.ensures ∙ c.if-is_short.true))

pub are_lists_in_range-requires : goal.are_lists_in_range-requires
are_lists_in_range-requires c =
    let l = long_request (Q (goal.at.are_lists_in_range-requires c).Start) (long (goal.at.are_lists_in_range-requires c).Else-is_short) in
    ((size_range _ (both_left _ _ (sizes c))).1, (l.matrix, l.inverse))

pub returns-then-not-are_lists_in_range : goal.returns-then-not-are_lists_in_range
returns-then-not-are_lists_in_range c =
    let a = goal.at.returns-then-not-are_lists_in_range c in
    rw c.into-then-not-are_lists_in_range.ensures (found_range (Q a.Start) (long a.Else-is_short)
    (not_both (sizes a.Else-not-are_sizes_in_range) (sym c.are_lists_in_range.ensures ∙ c.if-not-are_lists_in_range.true)))

pub returns-then-not-are_sizes_in_range : goal.returns-then-not-are_sizes_in_range
returns-then-not-are_sizes_in_range c =
    let a = goal.at.returns-then-not-are_sizes_in_range c in
    rw c.into-then-not-are_sizes_in_range.ensures (found_range (Q a.Start) (long a.Else-is_short)
    (not_first _ (sym c.are_sizes_in_range.ensures ∙ c.if-not-are_sizes_in_range.true)))
