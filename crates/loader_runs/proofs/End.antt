-- After an accepted end of lines taken from `new` the loader and the lists are what the lines' forms give, and every used number is in its range.
--   all_given   — where nothing is missing every counted part's form was given for every i from 1 to n
--   from_line   — what was given, by its own line;  only_weight, left_out_lem — what was not is a weight, and is 1
--   FromForms, from_forms — n, s, t and every used number of the lists are those of the forms
--   in_range_lem    — every used number is in its range
use mathlib.Core.Path.{◌≡◌, refl, sym, ap, subst, ◌∙◌}
use mathlib.Core.Bool.{Bool, true, false, cond}
use mathlib.Core.List.{List, [], ◌∷◌}
use Prim.Native.Nat.{ℕ, suc, ◌+◌, ◌*◌, ◌-◌, ◌/◌, ◌%◌, ◌≤◌, ◌<◌}
use native.Mathlib.Nat.{mod-lt, div-add-mod', div-lt_iff_lt-mul}
use native.Mathlib.Omega.{arith}
use borrow.Author.Tests.{eqb-true}
use lib.Dec.{eqb}
use lib.IntN.{pos, nat_abs}
use lib.ListN.{get_or}
use Rattle.integer.proofs.Search.{clash}
use Rattle.rules.specs.Range.{in_range, all_in_range}
use Rattle.rules.proofs.AllInRange.{all_in}
use Rattle.rules.proofs.Ranges.{size_range, one_weight}
use Rattle.line_form.specs.Form.{Form}
use Rattle.loader_values.specs.Item.{part_index}
use Rattle.loader_values.specs.declared.Item.{Item}
use Rattle.loader_values.specs.declared.Part.{Part}
use Rattle.loader_values.specs.declared.Part.TheVariants as part
use Rattle.loader_lists.specs.Slot.{Slot, Matrix, Right, Tolerance, Guess, Inverse, Weight, part_of, width, values_for}
use Rattle.loader_lists.specs.Lists.{Lists}
use Rattle.loader_lists.specs.ListOf.{list_of}
use Rattle.loader_values.proofs.Capped.{part_same}
use Rattle.loader_bit_set.specs.Places.{lacking}
use Rattle.loader_bit_set.proofs.Places.{lacking_none}
use Rattle.loader_progress.specs.Progress.{set_of, counted_parts, total_over, given, missing, scaled, ended}
use Rattle.loader_progress.specs.declared.Stage.{Stage}
use Rattle.loader_progress.specs.declared.Stage.TheVariants.{Start, Sized, Scaled, Ended}
use Rattle.loader_progress.proofs.Progress.{scaled_sized}
use Rattle.loader_runs.specs.Run.{State, from_new, step, forms}
use Rattle.loader_runs.specs.Accepts.{run, Accepts}
use Rattle.loader_runs.specs.Given.{absent, value_from, size_from, scales_from}
use Rattle.loader_runs.specs.Holds.{HoldsItem, HoldsPart, InRange, kind_for, cell}
use Rattle.loader_runs.proofs.Sound.{SoundLoader, fresh_sound, fresh_empty, line_sound}
use Rattle.loader_runs.proofs.Marks.{hits}
use Rattle.loader_runs.proofs.Runs.{collected, FoundForm, found}
use Rattle.loader_runs.proofs.LeftOut.{run_filled, not_given_lem, value_absent}
use Rattle.loader_runs.proofs.Sizes.{HasScales, size_from_lem, scales_from_lem}

-- ---- nothing is missing
-- a part that is counted has no form missing
none_at : (p : Part) (ps : List Part) (f : Part → ℕ) → total_over ps f ≡ 0 → 1 ≤ total_over ps (hits p) → f p ≡ 0
none_at p [] f e h = absurd (omega arith)
none_at p (q ∷ ps) f e h = go (eqb (part_index p) (part_index q)) refl h (none_at p ps f (omega arith))
  where
    go : (b : Bool) → eqb (part_index p) (part_index q) ≡ b → 1 ≤ cond b 1 0 + total_over ps (hits p) → (1 ≤ total_over ps (hits p) → f p ≡ 0) → f p ≡ 0
    go true t l rest = subst (λ (r : Part). f r ≡ 0) (sym (part_same p q (eqb-true (part_index p) (part_index q) t))) (omega arith)
    go false t l rest = rest (omega arith)

all_given : (n : ℕ) (z : List ℕ) → missing n z ≡ 0 → (p : Part) → 1 ≤ total_over counted_parts (hits p) → (k : ℕ) → 1 ≤ k → k ≤ n → given z p k ≡ true
unfolding missing
all_given n z e p c k l h = lacking_none (set_of z p) n (none_at p counted_parts (λ (q : Part). lacking (set_of z q) n) e c) (k - 1) (omega arith)

only_weight : (n : ℕ) (z : List ℕ) → missing n z ≡ 0 → (k : ℕ) → 1 ≤ k → k ≤ n → (s : Slot) → given z (part_of s) k ≡ false → s ≡ Weight
only_weight n z e k l h Matrix g = clash (given z part.Row k) (all_given n z e part.Row (omega arith) k l h) g
only_weight n z e k l h Right g = clash (given z part.Right k) (all_given n z e part.Right (omega arith) k l h) g
only_weight n z e k l h Tolerance g = clash (given z part.Right k) (all_given n z e part.Right (omega arith) k l h) g
only_weight n z e k l h Guess g = clash (given z part.Guess k) (all_given n z e part.Guess (omega arith) k l h) g
only_weight n z e k l h Inverse g = clash (given z part.Inverse k) (all_given n z e part.Inverse (omega arith) k l h) g
only_weight n z e k l h Weight g = refl

pub run_sound : (u : State) → SoundLoader u.loader → (lines : List (List ℕ)) → SoundLoader (run u lines).loader
unfolding run
run_sound u s [] = s
run_sound u s (line ∷ lines) = run_sound (step u line) (line_sound u.loader u.lists line s) lines

ended_scaled : (s : Stage) → ended s ≡ true → scaled s ≡ true
ended_scaled Start e = e
ended_scaled Sized e = e
ended_scaled Scaled e = refl
ended_scaled Ended e = refl

-- the state holds what the forms fs give
pub record FromForms (fs : List Form) (u : State) : Type 0 where
  pub size : u.loader.n ≡ size_from fs
  pub scales : HasScales u (scales_from fs)
  pub values : (s : Slot) (k j : ℕ) → 1 ≤ k → k ≤ u.loader.n → j < width s u.loader.n → cell u.lists u.loader.n s k j ≡ value_from fs s k j

-- ---- the end of lines taken from `new`
module _ (l : Lists) (lines : List (List ℕ)) (a : Accepts (from_new l) lines) (e : ended (run (from_new l) lines).loader.stage ≡ true) where
  abbrev last : State
  last = run (from_new l) lines

  sound : SoundLoader last.loader
  sound = run_sound (from_new l) fresh_sound lines

  pub is_scaled : scaled last.loader.stage ≡ true
  is_scaled = ended_scaled last.loader.stage e

  -- the line that gave a number
  pub from_line : (p : Part) (k : ℕ) → 1 ≤ k → given last.loader.sets p k ≡ true → FoundForm p k (forms lines)
  from_line p k f h = found p k f (from_new l) fresh_sound lines a (fresh_empty p k) h

  -- what no line gave: a weight, which is 1
  pub left_out_lem : (s : Slot) (k j : ℕ) → 1 ≤ k → k ≤ last.loader.n → j < width s last.loader.n → given last.loader.sets (part_of s) k ≡ false → (s ≡ Weight) × (cell last.lists last.loader.n s k j ≡ pos 1)
  left_out_lem s k j f h m g =
      let w : s ≡ Weight = only_weight last.loader.n last.loader.sets (sound.whole e) k f h s g in
      let first : j ≡ 0 = omega (arith, subst (λ (t : Slot). j < width t last.loader.n) w m) in
      (w, rw (w, first) (run_filled (from_new l) fresh_sound lines a (λ q. clash false q refl) e k f h (rw w at g)))

  held : (p : Part) (k : ℕ) (f : 1 ≤ k) (h : given last.loader.sets p k ≡ true) → let r = from_line p k f h in HoldsPart p r.place (λ (s : Slot). values_for s r.form) last
  held p k f h =
      let r = from_line p k f h in
      subst (λ (x : Item). HoldsItem x (λ (s : Slot). values_for s r.form) last) r.item (collected (from_new l) fresh_sound lines a r.form r.among)

  pub from_forms : FromForms (forms lines) last
  from_forms = record {
    size = size_from_lem (from_new l) fresh_sound lines a refl (scaled_sized last.loader.stage is_scaled);
    scales = scales_from_lem (from_new l) fresh_sound lines a refl is_scaled;
    values = λ s k j f h m. value s k j f h m (given last.loader.sets (part_of s) k) refl;
  }
    where
      value : (s : Slot) (k j : ℕ) → 1 ≤ k → k ≤ last.loader.n → j < width s last.loader.n → (b : Bool) → given last.loader.sets (part_of s) k ≡ b
          → cell last.lists last.loader.n s k j ≡ value_from (forms lines) s k j
      value s k j f h m true g =
          let r = from_line (part_of s) k f g in
          let c : cell last.lists last.loader.n s (nat_abs r.place) j ≡ get_or (values_for s r.form) j (pos 0) = (held (part_of s) k f g).cells s refl j m in
          rw (← r.number) at c ∙ sym (r.values s refl j)
      value s k j f h m false g =
          let o = left_out_lem s k j f h m g in
          o.1 ∙ sym (value_absent s k j (forms lines) (not_given_lem (from_new l) fresh_sound lines a (part_of s) k g) ∙ ap absent o.0)

  -- every used number is in its range: those that were given, and 1
  inside : (s : Slot) (k j : ℕ) → 1 ≤ k → k ≤ last.loader.n → j < width s last.loader.n → in_range (kind_for s) (cell last.lists last.loader.n s k j) ≡ true
  inside s k j f h m = go (given last.loader.sets (part_of s) k) refl
    where
      go : (b : Bool) → given last.loader.sets (part_of s) k ≡ b → in_range (kind_for s) (cell last.lists last.loader.n s k j) ≡ true
      go true g =
          let r = from_line (part_of s) k f g in
          let v = (held (part_of s) k f g).inside s refl j m in
          rw (from_forms.values s k j f h m, r.values s refl j) v
      go false g = let o = left_out_lem s k j f h m g in rw (o.1, o.0) one_weight

  column : (s : Slot) → width s last.loader.n ≡ 1 → all_in_range (kind_for s) last.loader.n (λ (k : ℕ). get_or (list_of s last.lists) k (pos 0)) ≡ true
  column s w = all_in (kind_for s) last.loader.n (λ (k : ℕ). get_or (list_of s last.lists) k (pos 0)) (λ k h. one k h)
    where
      one : (k : ℕ) → k < last.loader.n → in_range (kind_for s) (get_or (list_of s last.lists) k (pos 0)) ≡ true
      one k h =
          let place : (suc k - 1) * width s last.loader.n + 0 ≡ k = rw w (omega arith) in
          subst (λ (m : ℕ). in_range (kind_for s) (get_or (list_of s last.lists) m (pos 0)) ≡ true) place (inside s (suc k) 0 (omega arith) (omega arith) (rw w (omega arith)))

  square : (s : Slot) → width s last.loader.n ≡ last.loader.n → all_in_range (kind_for s) (last.loader.n * last.loader.n) (λ (k : ℕ). get_or (list_of s last.lists) k (pos 0)) ≡ true
  square s w = all_in (kind_for s) (last.loader.n * last.loader.n) (λ (k : ℕ). get_or (list_of s last.lists) k (pos 0)) (λ k h. one k h)
    where
      one : (k : ℕ) → k < last.loader.n * last.loader.n → in_range (kind_for s) (get_or (list_of s last.lists) k (pos 0)) ≡ true
      one k h =
          let size = size_range last.loader.n (sound.size (scaled_sized last.loader.stage is_scaled)) in
          let i = k / last.loader.n in
          let first : suc i - 1 ≡ i = omega arith in
          let place : (suc i - 1) * width s last.loader.n + k % last.loader.n ≡ k = rw (w, first) (div-add-mod' k last.loader.n) in
          let above : 0 < last.loader.n = size.0 in
          let below : i < last.loader.n = (div-lt_iff_lt-mul above).1 h in
          subst (λ (m : ℕ). in_range (kind_for s) (get_or (list_of s last.lists) m (pos 0)) ≡ true) place
          (inside s (suc i) (k % last.loader.n) (omega arith) (omega arith) (rw w (mod-lt k above)))

  pub in_range_lem : InRange last
  in_range_lem = record {
    size = sound.size (scaled_sized last.loader.stage is_scaled);
    solution = sound.solution is_scaled;
    inverse_scale = sound.inverse is_scaled;
    matrix = square Matrix refl;
    right = column Right refl;
    tolerance = column Tolerance refl;
    guess = column Guess refl;
    inverse = square Inverse refl;
    weights = column Weight refl;
  }
