-- What the adder does, line by line; cited by the contracts of the code alone. The contract of the builder does not speak of it.
--   places c — the count of kept lines, at most 256
--   line_at seen p, key_at seen i — the line kept at p, and the key that stands beside the line at i;  with_line seen p l — what is kept with l at p
--   together p seen — what is gathered, of its two parts
--   met_at g l   — the first place at which the key of l is kept
--   with_lines g k, counted g — g with k lines looked at, and with one more;  line_number_of g — the number, from 1, of the line that is refused; 0 where none is
--   saying p t, refused_as g t — p and g with t said;  kept g l — g with the line l kept
--   is_refused t — something is said;  when_done t new old — new where nothing is said, else old
--   taken g l, added g l — a line more, where nothing is said yet, and whatever was said
--   gathered g ls k — g with the first k lines of ls added;  few t k — how many of k lines are looked at, where t is said before any
--   opened_as, opening_progress, opened n k short, no_lines — what is said before any line, short being whether a lent list is too short; how far they are taken, what is gathered, and what is kept
--   kept_at g p  — the kept line p;  kept_sum f g — the sum of f over the kept lines
--   Proper l    — the numbers of l are small enough for the sums, and its marks are two;  ProperLines seen c — the first c lines that are kept are proper
--   Ready g     — n and the count are in their ranges, and the kept lines are proper;  ReadyWhenDone g — so where nothing is said
use Rattle.std.specs.Prelude.{Bool, cond, ◌&&◌, List, ◌≡◌, ℕ, zero, suc, ◌+◌, ◌≤◌, ◌<◌, ◌^◌, min, eqb, ltb, leb, ℤ, pos, nat_abs, get_or, set, replicate, Ok, Err, is_err}
use Rattle.integer.specs.Finite.{sum, first}
use Rattle.rules.specs.Range.{in_range}
use Rattle.rules.specs.declared.Kind.TheVariants as kind
use Rattle.rules.specs.declared.Refusal.TheVariants.{OutOfRange, TooShort}
use Rattle.build_lines.specs.Order.{Built}
use Rattle.build_lines.specs.declared.BuildRefusal.TheVariants.{Refused, SameMark, OtherContents}
use Rattle.build_gathering.specs.declared.Gathered.{Gathered}
use Rattle.build_gathering.specs.declared.KeptLines.{KeptLines}
use Rattle.build_gathering.specs.declared.Progress.{Progress}
use Rattle.build_lines.specs.declared.Observation.{Observation}
use Rattle.build_lines.specs.Line.{no_observation, outside_range, same_mark, same_contents}

abbrev pub places : ℕ → ℕ
places c = min c 256

unfoldable pub line_at : KeptLines → ℕ → Observation
line_at seen p = get_or seen.lines p no_observation

abbrev pub key_at : KeptLines → ℕ → ℕ
key_at seen i = get_or seen.keys i 0

unfoldable pub with_line : KeptLines → ℕ → Observation → KeptLines
with_line seen p l = record { keys = set seen.keys p l.key; lines = set seen.lines p l }

abbrev pub together : Progress → KeptLines → Gathered
together p seen = record { progress = p; seen = seen }

abbrev pub met_at : Gathered → Observation → ℕ
met_at g l = first (places g.progress.count) (λ (i : ℕ). eqb (key_at g.seen i) l.key)

unfoldable pub saying : Progress → Built → Progress
saying p t = record { n = p.n; count = p.count; lines = p.lines; status = t }

abbrev pub refused_as : Gathered → Built → Gathered
refused_as g t = together (saying g.progress t) g.seen

abbrev pub with_lines : Gathered → ℕ → Gathered
with_lines g k = together (record { n = g.progress.n; count = g.progress.count; lines = k; status = g.progress.status }) g.seen

abbrev pub counted : Gathered → Gathered
counted g = with_lines g (min (g.progress.lines + 1) 256)

unfoldable pub kept : Gathered → Observation → Gathered
kept g l =
    cond (ltb (places g.progress.count) 256)
    (together (record { n = g.progress.n; count = places g.progress.count + 1; lines = g.progress.lines; status = g.progress.status })
    (with_line g.seen (places g.progress.count) l)) g

unfoldable pub taken : Gathered → Observation → Gathered
taken g l =
    cond (outside_range g.progress.n l) (refused_as g (Err (Refused OutOfRange)))
    (cond (same_mark l) (refused_as g (Err SameMark))
    (cond (ltb (met_at g l) (places g.progress.count))
    (cond (same_contents (line_at g.seen (met_at g l)) l) g (refused_as g (Err OtherContents)))
    (kept g l)))

abbrev pub is_refused : Built → Bool
is_refused t = is_err t

abbrev pub when_done : Built → Gathered → Gathered → Gathered
when_done t new old = cond (is_refused t) old new

unfoldable pub added : Gathered → Observation → Gathered
added g l = when_done g.progress.status (taken (counted g) l) g

abbrev pub line_number_of : Gathered → ℕ
line_number_of g = cond (is_refused g.progress.status) g.progress.lines 0

unfoldable pub gathered : Gathered → List Observation → ℕ → Gathered
gathered g ls zero = g
gathered g ls (suc k) = added (gathered g ls k) (get_or ls k no_observation)

unfoldable pub few : Built → ℕ → ℕ
few t k = cond (is_refused t) 0 (cond (leb k 256) k 0)

unfoldable pub opened_as : ℕ → ℕ → Bool → Built
opened_as n k short = cond short (Err (Refused TooShort)) (cond (in_range kind.Size (pos n) && leb k 256) (Ok tt) (Err (Refused OutOfRange)))

unfoldable pub opening_progress : ℕ → ℕ → Bool → Progress
opening_progress n k short = record { n = n; count = 0; lines = 0; status = opened_as n k short }

unfoldable pub no_lines : KeptLines
no_lines = record { keys = replicate 256 0; lines = replicate 256 no_observation }

abbrev pub opened : ℕ → ℕ → Bool → Gathered
opened n k short = together (opening_progress n k short) no_lines

abbrev pub kept_at : Gathered → ℕ → Observation
kept_at g p = line_at g.seen p

abbrev pub kept_sum : (Observation → ℤ) → Gathered → ℤ
kept_sum f g = sum g.progress.count (λ (p : ℕ). f (kept_at g p))

pub record Proper (l : Observation) : Type 0 where
  pub start : l.«from» ≤ 32
  pub end : l.to ≤ 32
  pub apart : l.«from» ≡ l.to → ⊥
  pub weight : l.weight ≤ 64
  pub difference : nat_abs l.difference ≤ 2 ^ 16

pub record ProperLines (seen : KeptLines) (c : ℕ) : Type 0 where
  pub count_max : c ≤ 256
  pub proper : (p : ℕ) → p < c → Proper (line_at seen p)

pub record Ready (g : Gathered) : Type 0 where
  pub n_pos : 0 < g.progress.n
  pub size : g.progress.n ≤ 32
  pub lines : ProperLines g.seen g.progress.count

pub record ReadyWhenDone (g : Gathered) : Type 0 where
  pub ready : g.progress.status ≡ Ok tt → Ready g
