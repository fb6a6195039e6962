-- A small net, worked out by computation: marks 1 and 2 and the fixed mark, three field lines, the second given twice; and the ends of the ranges.
--   line key a b difference weight — a line from a to b
--   near, joining, far — the lines 0 → 1, 1 → 2, 2 → 0;  net — a list of them
--   other — the key of `joining` with another weight;  loop — a line from a mark to itself;  heavy — a weight of 65
--   ends — lines at both ends of every range, for n = 32
--   fitting, fit_heights — lines that heights fit, and these heights, over 2
use Rattle.std.specs.Prelude.{List, [], ◌∷◌, ℕ, zero, suc, ℤ, pos, negsuc}
use Rattle.build_lines.specs.declared.Observation.{Observation}

abbrev pub line : ℕ → ℕ → ℕ → ℤ → ℕ → Observation
line key a b difference weight = record { key = key; «from» = a; to = b; difference = difference; weight = weight }

abbrev pub near : Observation
near = line 7 0 1 (pos 10) 2

abbrev pub joining : Observation
joining = line 8 1 2 (negsuc 2) 5

abbrev pub far : Observation
far = line 9 2 0 (pos 4) 1

abbrev pub net : List Observation
net = near ∷ joining ∷ far ∷ joining ∷ []

abbrev pub other : Observation
other = line 8 1 2 (negsuc 2) 6

abbrev pub loop : Observation
loop = line 8 2 2 (pos 0) 5

abbrev pub heavy : Observation
heavy = line 3 0 1 (pos 1) 65

abbrev pub ends : List Observation
ends = line 1 0 32 (negsuc 65535) 1 ∷ line 65535 32 0 (pos 65536) 64 ∷ []

abbrev pub fitting : List Observation
fitting = near ∷ joining ∷ near ∷ []

abbrev pub fit_heights : ℕ → ℤ
fit_heights zero = pos 0
fit_heights (suc zero) = pos 20
fit_heights (suc (suc k)) = pos 14
