-- The distinct lines and the equations that they give (document 02, Paper 3).
--   distinct_after earlier ls — the lines of ls whose key no earlier line has, `earlier` being the lines before ls
--   distinct ls — the distinct lines of a whole list
--   total f ls  — the sum of f over the lines ls
--   when b z    — z where b holds, else 0
--   touches k l — the mark k is one of the two of l;  joins k m l — l leads from k to m or from m to k
--   weight_at k m l — what l adds at marks k and m: its weight on the diagonal where it touches k, minus its weight where it joins two
--   gain k l    — what l adds to the right side of k: weight·difference where it leads to k, less that where it leads from k
--   built_matrix ls, built_right ls — A and b; row i (from 0) is that of mark i + 1, and mark 0 has none
use Rattle.std.specs.Prelude.{Bool, cond, ◌&&◌, ◌||◌, List, [], ◌∷◌, ℕ, ◌+◌, eqb, ℤ, pos, neg_ℤ, ◌+ℤ◌, ◌-ℤ◌, ◌*ℤ◌}
use Rattle.linear.specs.Matrix.{Vec, Mat}
use Rattle.build_lines.specs.declared.Observation.{Observation}
use Rattle.build_lines.specs.Line.{has_key}

-- 02: "Imports are retried, so a key met again with equal contents counts once."
unfoldable pub distinct_after : List Observation → List Observation → List Observation
distinct_after earlier [] = []
distinct_after earlier (l ∷ ls) = cond (has_key earlier l.key) (distinct_after (l ∷ earlier) ls) (l ∷ distinct_after (l ∷ earlier) ls)

abbrev pub distinct : List Observation → List Observation
distinct ls = distinct_after [] ls

unfoldable pub total : (Observation → ℤ) → List Observation → ℤ
total f [] = pos 0
total f (l ∷ ls) = f l +ℤ total f ls

abbrev pub when : Bool → ℤ → ℤ
when b z = cond b z (pos 0)

abbrev pub touches : ℕ → Observation → Bool
touches k l = eqb l.«from» k || eqb l.to k

abbrev pub joins : ℕ → ℕ → Observation → Bool
joins k m l = (eqb l.«from» k && eqb l.to m) || (eqb l.«from» m && eqb l.to k)

-- 02: "A line adds its weight to the diagonal of each new mark it touches and takes it from both places that join two new marks."
unfoldable pub weight_at : ℕ → ℕ → Observation → ℤ
weight_at k m l = cond (eqb k m) (when (touches k l) (pos l.weight)) (when (joins k m l) (neg_ℤ (pos l.weight)))

-- 02: "It adds weight times difference to the right side of 'to' and subtracts it from that of 'from'."
unfoldable pub gain : ℕ → Observation → ℤ
gain k l = when (eqb l.to k) (pos l.weight *ℤ l.difference) -ℤ when (eqb l.«from» k) (pos l.weight *ℤ l.difference)

abbrev pub built_matrix : List Observation → Mat
built_matrix ls i j = total (weight_at (i + 1) (j + 1)) (distinct ls)

abbrev pub built_right : List Observation → Vec
built_right ls i = total (gain (i + 1)) (distinct ls)
