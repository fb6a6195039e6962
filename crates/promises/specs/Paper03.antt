-- 02, Paper 3. Equations from the field lines. "Offices wish to send the crew's work and have the equations built" is its reason. The distinct lines and what
-- each adds: build_lines/specs/Distinct.
use Rattle.std.specs.Prelude.{cond, List, [], ◌∷◌, ◌++◌, ◌↔◌, ◌≡◌, ℕ, ◌+◌, ◌*◌, ◌≤◌, ◌<◌, eqb, ℤ, pos, neg_ℤ, ◌-ℤ◌, ◌*ℤ◌, length}
use Rattle.integer.specs.Among.{Among}
use Rattle.linear.specs.Slice.{at}
use Rattle.rules.specs.declared.Kind.TheVariants as kind
use Rattle.build_lines.specs.Distinct.{distinct, total, touches, joins}
use Rattle.build_lines.specs.Order.{build_code, Built}
use Rattle.build_lines.specs.Stated.{BuildStated}
use Rattle.build_lines.specs.declared.Observation.{Observation}
use Rattle.build_equations.specs.declared.Layout.{Layout}
use Rattle.build_equations.specs.declared.Layout.TheVariants.{Square}
use Rattle.build.specs.BuiltAs.{short_for, BuiltAs}
use Rattle.build.specs.Diagonal.{TwiceTheWeight}
use Rattle.promises.specs.Ways.{RangeIs, Refused}

-- "A field line has a key (1 to 65,535), two marks from and to (0 to n [..]), a difference in whole units (−65,536 to 65,536) and a weight (1 to 64)". A mark is
-- one of 32 here, and at most n by `outside_range` of build_lines/specs/Line; "0 is the fixed mark of height 0": `FitAll` of build_lines/specs/Heights
abbrev pub LinesRanged : Type 0
LinesRanged =
    RangeIs kind.Key (pos 1) (pos 65535) × (RangeIs kind.Mark (pos 0) (pos 32) × (RangeIs kind.Difference (neg_ℤ (pos 65536)) (pos 65536) × RangeIs kind.LineWeight (pos 1) (pos 64)))

-- "The builder takes a list of field lines, at most 256 (`BuildRefusesAsStated`), and fills matrix and right side from zero. A line adds its weight to the
-- diagonal of each new mark it touches and takes it from both places that join two new marks"; "Imports are retried, so a key met again with equal contents
-- counts once" (`distinct`). Row i is that of mark i + 1
abbrev pub MatrixFilled : Type 0
MatrixFilled =
    (n : ℕ) (ls : List Observation) (a b : List ℤ) (r : Built) (a' b' : List ℤ) → BuiltAs n ls Square a b r a' b' → build_code r ≡ [] → (i j : ℕ) → i < n → j < n →
    let diagonal : Observation → ℤ = λ (l : Observation). cond (touches (i + 1) l) (pos l.weight) (pos 0) in
    let joint : Observation → ℤ = λ (l : Observation). cond (joins (i + 1) (j + 1) l) (neg_ℤ (pos l.weight)) (pos 0) in
    at a' (i * n + j) ≡ total (λ (l : Observation). cond (eqb (i + 1) (j + 1)) (diagonal l) (joint l)) (distinct ls)

-- "It adds weight times difference to the right side of 'to' and subtracts it from that of 'from'"
abbrev pub RightFilled : Type 0
RightFilled =
    (n : ℕ) (ls : List Observation) (layout : Layout) (a b : List ℤ) (r : Built) (a' b' : List ℤ) → BuiltAs n ls layout a b r a' b' → build_code r ≡ [] → (i : ℕ) → i < n →
    let moved : Observation → ℤ = λ (l : Observation). pos l.weight *ℤ l.difference in
    at b' i ≡ total (λ (l : Observation). cond (eqb l.to (i + 1)) (moved l) (pos 0) -ℤ cond (eqb l.«from» (i + 1)) (moved l) (pos 0)) (distinct ls)

-- "the diagonal summed, plus the weights of distinct lines at the fixed mark, is twice the weight of all distinct keys"
abbrev pub DiagonalTwice : Type 0
DiagonalTwice =
    (n : ℕ) (ls : List Observation) (layout : Layout) (a b : List ℤ) (r : Built) (a' b' : List ℤ) → BuiltAs n ls layout a b r a' b' → build_code r ≡ [] → TwiceTheWeight layout n ls a'

-- "in a list that builds, repeating any line anywhere changes nothing while the list stays at most 256 long"
abbrev pub RepeatChangesNothing : Type 0
RepeatChangesNothing =
    (n : ℕ) (l : Observation) (xs ys : List Observation) (layout : Layout) (a b : List ℤ) (r s : Built) (a' b' a'' b'' : List ℤ) →
    BuiltAs n (xs ++ ys) layout a b r a' b' → build_code r ≡ [] → Among l (xs ++ ys) → length (xs ++ l ∷ ys) ≤ 256 → BuiltAs n (xs ++ l ∷ ys) layout a b s a'' b'' →
    (build_code s ≡ []) × (a'' ≡ a') × (b'' ≡ b')

-- "8 comes first, then 3 for n. Lines are taken in order and the first refusal ends the build [..] For each line: 3 for ranges, then new 16, from equals to, then
-- new 17, a key met before with other contents. A list above 256 is 3, before any line" (`BuildStated`)
abbrev pub BuildRefusesAsStated : Type 0
BuildRefusesAsStated =
    (n : ℕ) (ls : List Observation) (layout : Layout) (a b : List ℤ) (r : Built) (a' b' : List ℤ) → BuiltAs n ls layout a b r a' b' →
    (w : List ℕ) → (build_code r ≡ w) ↔ BuildStated n ls (short_for layout a b) w

-- ".. with both lists untouched"
abbrev pub RefusedBuildLeaves : Type 0
RefusedBuildLeaves =
    (n : ℕ) (ls : List Observation) (layout : Layout) (a b : List ℤ) (r : Built) (a' b' : List ℤ) → BuiltAs n ls layout a b r a' b' → Refused (build_code r) → (a' ≡ a) × (b' ≡ b)
