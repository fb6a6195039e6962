-- The lengths of the lists of a check that passes 8.
--   long_of — lists that are not too short are long enough
use mathlib.Core.Path.{◌≡◌}
use mathlib.Core.Bool.{false}
use borrow.Author.Tests.{ltb-false}
use lib.ListN.{length}
use Rattle.rules.specs.Range.{short_matrix, short_column}
use Rattle.rules.proofs.Ranges.{neither_left, neither_right}
use Rattle.check_spec.specs.Input.{Input, short}
use Rattle.check_spec.specs.Stated.{LongEnough}

pub long_of : (I : Input) → short I ≡ false → LongEnough I
long_of I h1 =
    let h2 = neither_right (short_matrix (length I.matrix)) _ h1 in
    let h3 = neither_right (short_column (length I.right)) _ h2 in
    let h4 = neither_right (short_column (length I.tolerance)) _ h3 in
    let h5 = neither_right (short_column (length I.guess)) _ h4 in
    let h6 = neither_right (short_matrix (length I.inverse)) _ h5 in
    let h7 = neither_right (short_column (length I.weights)) _ h6 in
    record {
      matrix = ltb-false _ 1024 (neither_left _ _ h1);
      right = ltb-false _ 32 (neither_left _ _ h2);
      tolerance = ltb-false _ 32 (neither_left _ _ h3);
      guess = ltb-false _ 32 (neither_left _ _ h4);
      inverse = ltb-false _ 1024 (neither_left _ _ h5);
      weights = ltb-false _ 32 (neither_left _ _ h6);
      solution = ltb-false _ 32 (neither_left _ _ h7);
      inverses = ltb-false _ 1024 (neither_right (short_column (length I.solution_bounds)) _ h7);
    }
