use mathlib.Core.Path.{◌≡◌, sym, ap, ◌∙◌}
use Prim.Native.Nat.{ℕ, ◌+◌, ◌*◌, ◌<◌}
use native.Mathlib.Omega.{arith}
use lib.IntN.{pos}
use lib.ListN.{length}
use Rattle.std.specs.List.{between}
use Rattle.std.proofs.lemmas.List.Edits.{length-between, get_or-between}
use Rattle.integer.proofs.Search.{first_never}
use Rattle.linear.specs.Slice.{at}
use Rattle.linear.proofs.Places.{row_room}
use Rattle.check_arrays.specs.Parts.{above_allowed}
use Rattle.check_residuals.proofs.FirstFound.{upto_column, place_in_column}
use Rattle.check_residuals.proofs.first_above_in_columns.Goals as goal
use Rattle.check_residuals.proofs.first_above_in_columns.Goals.{After-first_in_column}

-- column j of the list, by the places of its numbers there
module _ (c : After-first_in_column) where
  long : length (between c.loop.start (c.loop.start + c.args.n) c.args.columns.now) ≡ c.args.n
  long = omega (arith, length-between c.args.columns.now c.loop.start (c.loop.start + c.args.n), row_room c.loop-test.true c.requires.column_list.long, c.loop.invariant.start)

  spot : (k : ℕ) → k < c.args.n → above_allowed (at c.args.allowed.now k) (at (between c.loop.start (c.loop.start + c.args.n) c.args.columns.now) k) ≡ above_allowed (at c.args.allowed.now k) (at c.args.columns.now (c.loop.counter * c.args.n + k))
  spot k l =
      ap (above_allowed (at c.args.allowed.now k))
      (get_or-between c.args.columns.now c.loop.start (c.loop.start + c.args.n) k (pos 0) (omega arith) ∙ ap (λ (x : ℕ). at c.args.columns.now (x + k)) c.loop.invariant.start)

pub returns-in-Some : goal.returns-in-Some
returns-in-Some c =
    let s = (goal.at.returns-in-Some c).After-first_in_column in
    let e = c.in-Some.ensures in
    let inside : c.in-Some.k < c.args.n = omega (arith, long s, e.0) in
    rw c.loop.invariant.start
    (place_in_column c.args.n (λ (k i : ℕ). above_allowed (at c.args.allowed.now k) (at c.args.columns.now i)) c.loop.counter c.loop.invariant.none c.in-Some.k c.loop-test.true inside
    (sym (spot s c.in-Some.k inside) ∙ e.1) (λ i l. sym (spot s i (omega arith)) ∙ e.2 i l))

pub loop-preserved : goal.loop-preserved
loop-preserved c =
    let s = (goal.at.loop-preserved c).After-first_in_column in
    record {
      start = omega (arith, c.loop.invariant.start);
      none = λ i l. upto_column c.args.n (λ (k i : ℕ). above_allowed (at c.args.allowed.now k) (at c.args.columns.now i)) c.loop.counter c.loop.invariant.none c.args.n (omega arith)
          (λ k m. sym (spot s k m) ∙ c.in_default.ensures k (omega (arith, long s))) i (omega arith);
    }

pub returns : goal.returns
returns c =
    let end : c.loop.counter ≡ c.args.n = omega arith in
    (c.loop.invariant.start ∙ ap (λ (x : ℕ). x * c.args.n) end) ∙ sym (first_never (c.args.n * c.args.n) _ (λ i l. c.loop.invariant.none i (rw end l)))
