-- Document 01's count of missing forms, before Paper 1 of 02 ("gives the count of forms still missing out of 5n"). The theorem on what changes cites it
-- (loader/proofs/Count), and the loader of 01 (convert_spec/specs/Edition).
--   incomplete01 n z x — 13: end with forms outstanding, of all that were not given (`ungiven`)
use Rattle.std.specs.Prelude.{Bool, false, List, ℕ, ltb}
use Rattle.loader_values.specs.declared.Item.{Item}
use Rattle.loader_values.specs.declared.Item.TheVariants.{Problem, Scale, Of, End}
use Rattle.loader_progress.specs.Ungiven.{ungiven}

abbrev pub incomplete01 : ℕ → List ℕ → Item → Bool
incomplete01 n z (Problem m) = false
incomplete01 n z (Scale u v) = false
incomplete01 n z (Of p i) = false
incomplete01 n z End = ltb 0 (ungiven n z)
