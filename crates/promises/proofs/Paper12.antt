-- The theorems for specs/Paper12, a theorem for each statement.
use Rattle.enclosure.proofs.Demands.{one_height}
use Rattle.promises.specs.Paper12 as paper
use Rattle.promises.proofs.Demands.{accepted_encloses}

pub solution_exists : paper.SolutionExists
solution_exists P E L a β = let s = (accepted_encloses P E L a).determined.exists β in (s.N, s.q, s.holds)

pub solution_unique : paper.SolutionUnique
solution_unique P E L a = (accepted_encloses P E L a).determined.unique

pub inverse_exists : paper.InverseExists
inverse_exists P E L a = let s = (accepted_encloses P E L a).determined.inverse in (s.H, s.q, s.holds)

pub one_height_within : paper.OneHeightWithin
one_height_within P E L a = one_height P E L (accepted_encloses P E L a)
