-- A field line (document 02, Paper 3) and the tests of one line.
--   no_observation — what stands past the end of a list of lines
--   is_mark n k  — k is the fixed mark 0 or one of the marks 1 to n
--   outside_range n l — 3: the key, a mark, the difference or the weight is outside its range
--   same_mark l  — 16: from equals to
--   same_contents l m — from, to, difference and weight of both are equal, as given
--   has_key ls k — a line of ls has the key k
--   clashes ls l — 17: a line of ls has the key of l and other contents
use Rattle.std.specs.Prelude.{Bool, false, not, ◌&&◌, ◌||◌, List, [], ◌∷◌, ℕ, eqb, leb, pos}
use Rattle.integer.specs.Same.{same_number}
use Rattle.rules.specs.Range.{in_range}
use Rattle.rules.specs.declared.Kind.TheVariants as kind
use Rattle.build_lines.specs.declared.Observation.{Observation}

abbrev pub no_observation : Observation
no_observation = record { key = 0; «from» = 0; to = 0; difference = pos 0; weight = 0 }

abbrev pub is_mark : ℕ → ℕ → Bool
is_mark n k = in_range kind.Mark (pos k) && leb k n

-- 02: "A field line has a key (1 to 65,535), two marks from and to (0 to n, where 0 is the fixed mark of height 0), a difference in whole units
-- (−65,536 to 65,536) and a weight (1 to 64)." "3 for ranges"
unfoldable pub outside_range : ℕ → Observation → Bool
outside_range n l =
    not
    (in_range kind.Key (pos l.key)
    && (is_mark n l.«from»
    && (is_mark n l.to && (in_range kind.Difference l.difference && in_range kind.LineWeight (pos l.weight)))))

-- 02: "then new 16, from equals to"
abbrev pub same_mark : Observation → Bool
same_mark l = eqb l.«from» l.to

unfoldable pub same_contents : Observation → Observation → Bool
same_contents l m =
    eqb l.«from» m.«from» && (eqb l.to m.to && (same_number l.difference m.difference && eqb l.weight m.weight))

unfoldable pub has_key : List Observation → ℕ → Bool
has_key [] k = false
has_key (e ∷ es) k = eqb e.key k || has_key es k

-- 02: "then new 17, a key met before with other contents"
unfoldable pub clashes : List Observation → Observation → Bool
clashes [] l = false
clashes (e ∷ es) l = (eqb e.key l.key && not (same_contents e l)) || clashes es l
