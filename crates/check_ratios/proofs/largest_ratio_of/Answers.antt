use Rattle.check_ratios.proofs.WithinCaps.{small_each}
use native.Mathlib.Omega.{arith}
use Rattle.check_ratios.proofs.largest_ratio_of.Goals as goal
use Rattle.check_ratios.proofs.largest_ratio_of.Goals.{Start}

pub largest_ratio_by_products-requires-clause-by_index : goal.largest_ratio_by_products-requires-clause-by_index
largest_ratio_by_products-requires-clause-by_index c = let s = (goal.at.largest_ratio_by_products-requires-clause-by_index c).Start in small_each _ _ _ (omega (arith, c.sum_of.ensures))
