-- Lists of doubles, and what both calls test.
--   double_at xs i — the double at place i; past the end no number
--   exchange_sizes n s — n and s are in their ranges
use Rattle.std.specs.Prelude.{Bool, ◌&&◌, List, ℕ, pos, Float, get_or}
use Rattle.std.specs.Float.{nan}
use Rattle.rules.specs.Range.{in_range}
use Rattle.rules.specs.declared.Kind.TheVariants as kind

abbrev pub double_at : List Float → ℕ → Float
double_at xs i = get_or xs i nan

abbrev pub exchange_sizes : ℕ → ℕ → Bool
exchange_sizes n s = in_range kind.Size (pos n) && in_range kind.SolutionScale (pos s)
