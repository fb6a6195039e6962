-- The marks of given forms beside the count of forms still to come.
--   mark z p k   — 1 where the form of the part p for the number k was given, else 0
--   count_none, count_next, count_own — how many there are of no forms, and with one form more, of any kind and of its own
--   marked_next  — a form that was not given before adds one mark, its own
--   moved        — so what is given and what is still to come stay the same number when a form is taken
--   times_most   — of no part and number there is more than one
--   mark_one, mark_none, mark_most — a mark of 1 is of a given form, a mark of 0 of one not given, and no mark is above 1
--   Whole, set_whole, whole_set, times_whole, whole_times — nothing is missing exactly where each i from 1 to n was given once of each kind
use mathlib.Core.Path.{◌≡◌, refl, ◌∙◌}
use mathlib.Core.Bool.{Bool, true, false, cond}
use mathlib.Core.List.{List, [], ◌∷◌}
use Prim.Native.Nat.{ℕ, suc, ◌+◌, ◌-◌, ◌≤◌}
use native.Mathlib.Omega.{arith}
use borrow.Author.Tests.{eqb-true, eq-eqb}
use lib.Dec.{eqb}
use lib.IntN.{ℤ, nat_abs}
use lib.ListN.{length}
use Rattle.integer.proofs.Search.{clash}
use Rattle.rules.proofs.Ranges.{both_left, both_right, both}
use Rattle.line_form.specs.Form.{Form}
use Rattle.loader_values.specs.Item.{item_of, part_index}
use Rattle.loader_values.specs.declared.Item.{Item}
use Rattle.loader_values.specs.declared.Item.TheVariants.{Of}
use Rattle.loader_values.specs.declared.Part.{Part}
use Rattle.loader_values.specs.declared.Part.TheVariants.{Row, Right, Guess, Inverse, Weight}
use Rattle.loader_values.proofs.Capped.{part_same}
use Rattle.loader_bit_set.specs.Places.{lacking}
use Rattle.loader_bit_set.proofs.Places.{lacking_none, none_lacking}
use Rattle.loader_progress.specs.Progress.{set_of, given, marked, missing}
use Rattle.loader_runs.specs.Given.{is_of}
use Rattle.loader_runs.proofs.Marks.{given_own, given_else}
use Rattle.file_shape.specs.Shape.{how_many, Times}

abbrev pub mark : List ℕ → Part → ℕ → ℕ
mark z p k = cond (given z p k) 1 0

pub count_none : (p : Part) (k : ℕ) → how_many p k [] ≡ 0
unfolding how_many
count_none p k = refl

pub count_next : (p : Part) (k : ℕ) (f : Form) (fs : List Form) {x : Item} → item_of f ≡ x → how_many p k (f ∷ fs) ≡ cond (is_of p k x) 1 0 + how_many p k fs
unfolding how_many
count_next p k f fs e = rw e

pub count_own : (p : Part) (i : ℤ) (f : Form) (fs : List Form) → item_of f ≡ Of p i → how_many p (nat_abs i) (f ∷ fs) ≡ suc (how_many p (nat_abs i) fs)
count_own p i f fs e =
    let own : is_of p (nat_abs i) (Of p i) ≡ true = both (eq-eqb (part_index p) (part_index p) refl) (eq-eqb (nat_abs i) (nat_abs i) refl) in
    count_next p (nat_abs i) f fs e ∙ rw own (omega arith)

-- ---- one form more
module _ (z : List ℕ) (five : length z ≡ 5) (p : Part) (i : ℤ) (from : 1 ≤ nat_abs i) (new : given z p (nat_abs i) ≡ false) where
  marked_next : (q : Part) (k : ℕ) → 1 ≤ k → mark (marked z p (nat_abs i)) q k ≡ cond (is_of q k (Of p i)) 1 0 + mark z q k
  marked_next q k l = go (is_of q k (Of p i)) refl
    where
      go : (b : Bool) → is_of q k (Of p i) ≡ b → mark (marked z p (nat_abs i)) q k ≡ cond b 1 0 + mark z q k
      go true e =
          let a : q ≡ p = part_same q p (eqb-true (part_index q) (part_index p) (both_left (eqb (part_index q) (part_index p)) (eqb k (nat_abs i)) e)) in
          let b : k ≡ nat_abs i = eqb-true k (nat_abs i) (both_right (eqb (part_index q) (part_index p)) (eqb k (nat_abs i)) e) in
          rw (a, b, given_own z five p (nat_abs i), new)
      go false e =
          rw (given_else z five p (nat_abs i) q k l from
          (λ a b. clash (is_of q k (Of p i)) (both (eq-eqb (part_index q) (part_index p) a) (eq-eqb k (nat_abs i) b)) e)) (omega arith)

  pub moved : (f : Form) (fs : List Form) → item_of f ≡ Of p i → (q : Part) (k : ℕ) → 1 ≤ k → mark z q k + how_many q k (f ∷ fs) ≡ mark (marked z p (nat_abs i)) q k + how_many q k fs
  moved f fs e q k l = omega (arith, count_next q k f fs e, marked_next q k l)

-- ---- each i once of each kind
pub times_most : (p : Part) {c : ℕ} → Times p c → c ≤ 1
times_most Row h = omega arith
times_most Right h = omega arith
times_most Guess h = omega arith
times_most Inverse h = omega arith
times_most Weight h = omega arith

pub mark_one : (b : Bool) → ◌≡◌ {A = ℕ} (cond b 1 0) 1 → b ≡ true
mark_one true e = refl
mark_one false e = absurd (omega arith)

pub mark_none : (b : Bool) → cond b 1 0 ≤ 0 → b ≡ false
mark_none true l = absurd (omega arith)
mark_none false l = refl

mark_most : (b : Bool) → cond b 1 0 ≤ 1
mark_most true = omega arith
mark_most false = omega arith

module _ (n : ℕ) (z : List ℕ) where
  abbrev pub Whole : Type 0
  Whole = (p : Part) (k : ℕ) → 1 ≤ k → k ≤ n → Times p (mark z p k)

  set_whole : (p : Part) → ((k : ℕ) → 1 ≤ k → k ≤ n → mark z p k ≡ 1) → lacking (set_of z p) n ≡ 0
  set_whole p h = none_lacking (set_of z p) n (λ i l. let e : suc i - 1 ≡ i = omega arith in rw e at (mark_one (given z p (suc i)) (h (suc i) (omega arith) (omega arith))))

  pub times_whole : Whole → missing n z ≡ 0
  unfolding missing
  times_whole h = omega (arith, set_whole Row (h Row), set_whole Right (h Right), set_whole Guess (h Guess), set_whole Inverse (h Inverse))

  whole_set : (p : Part) → lacking (set_of z p) n ≡ 0 → (k : ℕ) → 1 ≤ k → k ≤ n → mark z p k ≡ 1
  whole_set p e k f t = rw (lacking_none (set_of z p) n e (k - 1) (omega arith))

  pub whole_times : missing n z ≡ 0 → Whole
  unfolding missing
  whole_times e Row = whole_set Row (omega arith)
  whole_times e Right = whole_set Right (omega arith)
  whole_times e Guess = whole_set Guess (omega arith)
  whole_times e Inverse = whole_set Inverse (omega arith)
  whole_times e Weight = λ k f t. mark_most (given z Weight k)
