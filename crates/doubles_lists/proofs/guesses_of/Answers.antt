use mathlib.Core.Path.{◌≡◌, sym, ◌∙◌}
use mathlib.Core.Bool.{true, false}
use Rattle.doubles_lists.specs.Lists.{exchange_sizes}
use Rattle.doubles_lists.specs.Inward.{Incoming, incoming, short_incoming, all_have_guess}
use Rattle.doubles_lists.proofs.Inward.{ReadyInward, ready, in_short, in_range_lem, in_none, in_all}
use borrow.Author.Tests.{lt-ltb, le-ltb}
use Rattle.doubles_lists.proofs.guesses_of.Goals as goal
use Rattle.doubles_lists.proofs.guesses_of.Goals.{Else-guess-lt-COLUMN_LENGTH, Start, Then-all_have_guess, Then-are_sizes_in_range}

abbrev I : Start → Incoming
I s = incoming s.args.n s.args.s s.args.values.now s.args.guess.now

-- what the tests showed
long : (c : Else-guess-lt-COLUMN_LENGTH) → short_incoming (I (goal.at.Else-guess-lt-COLUMN_LENGTH c).Start) ≡ false
long c = rw (le-ltb _ 32 c.if-values-lt-COLUMN_LENGTH.false, le-ltb _ 32 c.if-guess-lt-COLUMN_LENGTH.false)

sized : (c : Then-are_sizes_in_range) → exchange_sizes c.args.n c.args.s ≡ true
sized c = sym c.are_sizes_in_range.ensures ∙ c.if-are_sizes_in_range.true

here : (c : Then-are_sizes_in_range) → ReadyInward (I (goal.at.Then-are_sizes_in_range c).Start)
here c = ready (I (goal.at.Then-are_sizes_in_range c).Start) (long (goal.at.Then-are_sizes_in_range c).Else-guess-lt-COLUMN_LENGTH) (sized c)

have : (c : Then-all_have_guess) → all_have_guess (I (goal.at.Then-all_have_guess c).Start) ≡ true
have c = sym c.all_have_guess.ensures ∙ c.if-all_have_guess.true

pub returns-then-values-lt-COLUMN_LENGTH : goal.returns-then-values-lt-COLUMN_LENGTH
returns-then-values-lt-COLUMN_LENGTH c = in_short (I (goal.at.returns-then-values-lt-COLUMN_LENGTH c).Start) (rw (lt-ltb _ 32 c.if-values-lt-COLUMN_LENGTH.true))

pub returns-then-guess-lt-COLUMN_LENGTH : goal.returns-then-guess-lt-COLUMN_LENGTH
returns-then-guess-lt-COLUMN_LENGTH c = in_short (I (goal.at.returns-then-guess-lt-COLUMN_LENGTH c).Start) (rw (le-ltb _ 32 c.if-values-lt-COLUMN_LENGTH.false, lt-ltb _ 32 c.if-guess-lt-COLUMN_LENGTH.true))

pub all_have_guess-requires : goal.all_have_guess-requires
all_have_guess-requires c = ((here c).values, (here c).scale)

pub returns-then-all_have_guess : goal.returns-then-all_have_guess
returns-then-all_have_guess c =
    let t = (goal.at.returns-then-all_have_guess c).Then-all_have_guess in
    let s = (goal.at.returns-then-all_have_guess c).Then-are_sizes_in_range in
    let e = (goal.at.returns-then-all_have_guess c).Else-guess-lt-COLUMN_LENGTH in
    in_all (I (goal.at.returns-then-all_have_guess c).Start) e.shared_slice_known-1.given (long (goal.at.returns-then-all_have_guess c).Else-guess-lt-COLUMN_LENGTH) (sized (goal.at.returns-then-all_have_guess c).Then-are_sizes_in_range) (have (goal.at.returns-then-all_have_guess c).Then-all_have_guess) c.write_guesses.ensures

pub returns-then-are_sizes_in_range : goal.returns-then-are_sizes_in_range
returns-then-are_sizes_in_range c =
    let s = (goal.at.returns-then-are_sizes_in_range c).Then-are_sizes_in_range in
    let e = (goal.at.returns-then-are_sizes_in_range c).Else-guess-lt-COLUMN_LENGTH in
    in_none (I (goal.at.returns-then-are_sizes_in_range c).Start) (long (goal.at.returns-then-are_sizes_in_range c).Else-guess-lt-COLUMN_LENGTH) (sized (goal.at.returns-then-are_sizes_in_range c).Then-are_sizes_in_range) (sym c.all_have_guess.ensures ∙ c.if-all_have_guess.false)

pub returns : goal.returns
returns c =
    in_range_lem (I (goal.at.returns c).Start) (long (goal.at.returns c).Else-guess-lt-COLUMN_LENGTH) (sym c.are_sizes_in_range.ensures ∙ c.if-are_sizes_in_range.false)

pub write_guesses-requires-clause-n_in_bounds : goal.write_guesses-requires-clause-n_in_bounds
write_guesses-requires-clause-n_in_bounds c = let h = here (goal.at.write_guesses-requires-clause-n_in_bounds c).Then-are_sizes_in_range in (h.values, (h.guess, h.scale))
