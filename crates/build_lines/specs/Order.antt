-- What is said of a list of field lines (document 02, Paper 3): 8, 3 for n, 3 for a list above 256, then line by line 3, 16, 17.
--   Built        — the answer: nothing beside it where the equations are built, or a refusal
--   build_code b — what an answer says, in the documents' numbers; nothing where the equations are built
--   observation_order n earlier l — the tests of the line l after the lines `earlier`;  observation_says — what is said of it
--   observations_say n earlier ls — what is said of the lines ls, in order: the first refusal ends it
--   open_order n k short — the tests before any line: n, the count k of lines, and whether a lent list is too short, which depends on the layout (build/specs/BuiltAs)
--   build_answer n ls short — what is said of all
use Rattle.std.specs.Prelude.{Bool, not, List, [], ◌∷◌, ℕ, ltb, pos, length, Result, Ok, Err, ⊤}
use Rattle.rules.specs.Order.{Test, number, verdict, or_else}
use Rattle.rules.specs.Range.{in_range}
use Rattle.rules.specs.Refusal.{number_of, values_of}
use Rattle.rules.specs.declared.Kind.TheVariants as kind
use Rattle.build_lines.specs.declared.BuildRefusal.{BuildRefusal}
use Rattle.build_lines.specs.declared.BuildRefusal.TheVariants.{Refused, SameMark, OtherContents}
use Rattle.build_lines.specs.declared.Observation.{Observation}
use Rattle.build_lines.specs.Line.{outside_range, same_mark, clashes}

abbrev pub Built : Type 0
Built = Result ⊤ BuildRefusal

abbrev pub build_code : Built → List ℕ
build_code (Ok tt) = []
build_code (Err (Refused r)) = number_of r ∷ values_of r
build_code (Err SameMark) = 16 ∷ []
build_code (Err OtherContents) = 17 ∷ []

-- 02: "For each line: 3 for ranges, then new 16, from equals to, then new 17, a key met before with other contents."
abbrev pub observation_order : ℕ → List Observation → Observation → List Test
observation_order n earlier l = number 3 (outside_range n l) ∷ number 16 (same_mark l) ∷ number 17 (clashes earlier l) ∷ []

abbrev pub observation_says : ℕ → List Observation → Observation → List ℕ
observation_says n earlier l = verdict (observation_order n earlier l)

-- 02: "Lines are taken in order and the first refusal ends the build with both lists untouched."
unfoldable pub observations_say : ℕ → List Observation → List Observation → List ℕ
observations_say n earlier [] = []
observations_say n earlier (l ∷ ls) = or_else (observation_says n earlier l) (observations_say n (l ∷ earlier) ls)

-- 02: "8 comes first, then 3 for n." "A list above 256 is 3, before any line."
abbrev pub open_order : ℕ → ℕ → Bool → List Test
open_order n k short = number 8 short ∷ number 3 (not (in_range kind.Size (pos n))) ∷ number 3 (ltb 256 k) ∷ []

unfoldable pub build_answer : ℕ → List Observation → Bool → List ℕ
build_answer n ls short = or_else (verdict (open_order n (length ls) short)) (observations_say n [] ls)
