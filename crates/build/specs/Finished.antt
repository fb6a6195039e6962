-- What the last step of the builder asks, says and leaves; cited by the contracts of `finish` and `reply::builds::finish_status` alone.
--   ReadyFor g layout a b — where nothing is said, the kept lines are ready, and the lent lists a and b are long enough
--   Finished — what `finish` says and leaves: it says what was said before any line, or of the lines
use Rattle.std.specs.Prelude.{false, List, ◌≡◌, ℤ, Ok}
use Rattle.rules.specs.Order.{if_accepted}
use Rattle.build_lines.specs.Order.{Built, build_code}
use Rattle.build_gathering.specs.declared.Gathered.{Gathered}
use Rattle.build_gathering.specs.Gathered.{ReadyWhenDone}
use Rattle.build_equations.specs.declared.Layout.{Layout}
use Rattle.build_equations.specs.Kept.{kept_matrix, kept_right}
use Rattle.build_equations.specs.Written.{matrix_written, right_written}
use Rattle.build.specs.BuiltAs.{short_for}

pub record ReadyFor (g : Gathered) (layout : Layout) (a b : List ℤ) : Type 0 where
  pub lines : ReadyWhenDone g
  pub long : g.progress.status ≡ Ok tt → short_for layout a b ≡ false

pub record Finished (g : Gathered) (layout : Layout) (a b : List ℤ) (r : Built) (a' b' : List ℤ) : Type 0 where
  pub says : build_code r ≡ build_code g.progress.status
  pub matrix : a' ≡ if_accepted (build_code r) (matrix_written layout g.progress.n (kept_matrix g) a) a
  pub right : b' ≡ if_accepted (build_code r) (right_written g.progress.n (kept_right g) b) b
