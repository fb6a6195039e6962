-- What document 02 says of each refusal of Paper 3, and of a list that builds, in words about lines and the lines before them.
--   Passes n l — every number of l is in its range, and from is not to
--   Buildable n ls — a list that builds: every line passes, and lines with one key are equal
--   Admitted n k short — the lent lists are long enough, n is in its range and there are at most 256 lines: neither 8 nor 3 before any line
--   BuildStated n ls short code — the case that is stated for what is said, `short` being whether a lent list is too short; the line of 3, 16 and 17 is the first that does not pass or has a key met with other contents
use Rattle.std.specs.Prelude.{Bool, true, false, List, [], ◌∷◌, ◌++◌, ◌≡◌, ℕ, ◌≤◌, ◌<◌, pos, length}
use Rattle.integer.specs.Among.{Among}
use Rattle.rules.specs.Range.{in_range}
use Rattle.rules.specs.declared.Kind.TheVariants as kind
use Rattle.build_lines.specs.declared.Observation.{Observation}
use Rattle.build_lines.specs.Line.{outside_range}

pub record Passes (n : ℕ) (l : Observation) : Type 0 where
  pub inside : outside_range n l ≡ false
  pub apart : l.«from» ≡ l.to → ⊥

pub record Buildable (n : ℕ) (ls : List Observation) : Type 0 where
  pub good : (l : Observation) → Among l ls → Passes n l
  pub one : (l m : Observation) → Among l ls → Among m ls → l.key ≡ m.key → l ≡ m

pub record Admitted (n k : ℕ) (short : Bool) : Type 0 where
  pub long : short ≡ false
  pub size : in_range kind.Size (pos n) ≡ true
  pub count_max : k ≤ 256

pub data BuildStated (n : ℕ) (ls : List Observation) (short : Bool) : List ℕ → Type 0 where
  -- 8: a lent list too short
  too_short : short ≡ true → BuildStated n ls short (8 ∷ [])
  -- 3: n outside its range
  size_outside : short ≡ false → in_range kind.Size (pos n) ≡ false → BuildStated n ls short (3 ∷ [])
  -- 3: a list above 256
  too_many : short ≡ false → in_range kind.Size (pos n) ≡ true → 256 < length ls → BuildStated n ls short (3 ∷ [])
  -- 3: a number of the line l outside its range
  line_outside : Admitted n (length ls) short → (xs ys : List Observation) (l : Observation) → ls ≡ xs ++ l ∷ ys → Buildable n xs → outside_range n l ≡ true → BuildStated n ls short (3 ∷ [])
  -- 16: from equals to
  same_mark_lem : Admitted n (length ls) short → (xs ys : List Observation) (l : Observation) → ls ≡ xs ++ l ∷ ys → Buildable n xs → outside_range n l ≡ false → l.«from» ≡ l.to → BuildStated n ls short (16 ∷ [])
  -- 17: the key of an earlier line m, with other contents
  other_contents : Admitted n (length ls) short → (xs ys : List Observation) (l m : Observation) → ls ≡ xs ++ l ∷ ys → Buildable n xs → Passes n l → Among m xs → m.key ≡ l.key → (m ≡ l → ⊥) → BuildStated n ls short (17 ∷ [])
  -- none of them
  builds : Admitted n (length ls) short → Buildable n ls → BuildStated n ls short []
