-- What may still be accepted falls at each accepted line: by one; at problem, which says how many forms there are, by one or more; and at an end, which may
-- leave weights out, by one and those weights.
--   falls_one   — an accepted line past problem that is no end leaves one form fewer;  falls_end — an end leaves none, where one and the weights not given were left
--   falls       — any accepted line leaves fewer
--   lines_fall, at_most — so accepted lines are at most as many as could be accepted: from `new` at most 163
use mathlib.Core.Path.{◌≡◌, refl}
use mathlib.Core.Bool.{Bool, true, false, not}
use mathlib.Core.List.{List, [], ◌∷◌}
use Prim.Native.Nat.{ℕ, suc, ◌+◌, ◌≤◌, ◌<◌}
use native.Mathlib.Omega.{arith}
use borrow.Author.Tests.{not-false, ltb-false}
use lib.IntN.{ℤ, nat_abs}
use lib.ListN.{length}
use Rattle.integer.proofs.Search.{clash}
use Rattle.rules.proofs.Ranges.{size_range}
use Rattle.line_form.specs.Form.{Form, problem, scale, row, right, right_within, guess, inverse, weight, end}
use Rattle.loader_values.specs.Item.{item_of}
use Rattle.loader_lists.specs.Lists.{Lists}
use Rattle.loader_values.specs.declared.Item.TheVariants.{Of}
use Rattle.loader_values.specs.declared.Part.{Part}
use Rattle.loader_values.specs.declared.Part.TheVariants.{Row, Right, Guess, Inverse, Weight}
use Rattle.loader_values.proofs.Between.{from_to_lem}
use Rattle.loader_bit_set.specs.Places.{lacking}
use Rattle.loader_progress.specs.Progress.{set_of, given, missing, sized, scaled, ended, misplaced}
use Rattle.loader_progress.specs.declared.Stage.{Stage}
use Rattle.loader_progress.specs.declared.Stage.TheVariants.{Start, Sized, Scaled, Ended}
use Rattle.loader_progress.proofs.Progress.{late, placed_of, ungiven_is}
use Rattle.loader.specs.declared.Loader.{Loader}
use Rattle.loader.specs.Answer.{line_answer}
use Rattle.loader.specs.Taken.{after, loader_after}
use Rattle.loader_order.proofs.CodeLaws.{Passed}
use Rattle.loader.proofs.Exact.{form_case}
use Rattle.loader.proofs.Accepted.{accepted_form}
use Rattle.loader_runs.specs.Acceptable.{lines_most, acceptable}
use Rattle.loader_runs.specs.Run.{State, from_new, step}
use Rattle.loader_runs.specs.Accepts.{run, Accepts}
use Rattle.loader_runs.proofs.Marks.{ungiven_marked, ungiven_most}
use Rattle.loader_runs.proofs.Sound.{SoundLoader, fresh_sound, form_sound, line_sound}

is_start : (s : Stage) → sized s ≡ false → s ≡ Start
is_start Start e = refl
is_start Sized e = clash true refl e
is_start Scaled e = clash true refl e
is_start Ended e = clash true refl e

is_sized : (s : Stage) → sized s ≡ true → scaled s ≡ false → s ≡ Sized
is_sized Start e f = clash false e refl
is_sized Sized e f = refl
is_sized Scaled e f = clash true refl f
is_sized Ended e f = clash true refl f

pub is_scaled : (s : Stage) → scaled s ≡ true → ended s ≡ false → s ≡ Scaled
is_scaled Start e f = clash false e refl
is_scaled Sized e f = clash false e refl
is_scaled Scaled e f = refl
is_scaled Ended e f = clash true refl f

module _ (d : Loader) (h : SoundLoader d) (going : ended d.stage ≡ false) where
  part_falls : (p : Part) (i : ℤ) → not (scaled d.stage) ≡ false → misplaced d.stage d.n (Of p i) ≡ false → given d.sets p (nat_abs i) ≡ false
      → acceptable d ≡ suc (acceptable (after d (Of p i)))
  part_falls p i e m g =
      let b = from_to_lem 1 d.n i (placed_of d.stage d.n (Of p i) m) in
      rw (is_scaled d.stage (not-false _ e) going) (omega (arith, ungiven_marked d.sets h.five p (nat_abs i) d.n b.from b.to g))

  form_falls : (f : Form) → Passed (form_case d f) → sized d.stage ≡ true → ended (after d (item_of f)).stage ≡ false → acceptable d ≡ suc (acceptable (after d (item_of f)))
  form_falls (problem n) p q r = clash (sized d.stage) q p.repeated
  form_falls (scale s t) p q r = rw (is_sized d.stage (not-false _ p.early) p.repeated) (omega arith)
  form_falls (row i a others) p q r = part_falls Row i p.early p.misplaced p.repeated
  form_falls (right i b) p q r = part_falls Right i p.early p.misplaced p.repeated
  form_falls (right_within i b c) p q r = part_falls Right i p.early p.misplaced p.repeated
  form_falls (guess i x) p q r = part_falls Guess i p.early p.misplaced p.repeated
  form_falls (inverse i g others) p q r = part_falls Inverse i p.early p.misplaced p.repeated
  form_falls (weight i w) p q r = part_falls Weight i p.early p.misplaced p.repeated
  form_falls end p q r = clash true refl r

  end_falls : (f : Form) → Passed (form_case d f) → ended (after d (item_of f)).stage ≡ true → (acceptable d ≡ suc (lacking (set_of d.sets Weight) d.n)) × (acceptable (after d (item_of f)) ≡ 0)
  end_falls (problem n) p r = clash false r refl
  end_falls (scale s t) p r = clash false r refl
  end_falls (row i a others) p r = clash (ended d.stage) r going
  end_falls (right i b) p r = clash (ended d.stage) r going
  end_falls (right_within i b c) p r = clash (ended d.stage) r going
  end_falls (guess i x) p r = clash (ended d.stage) r going
  end_falls (inverse i g others) p r = clash (ended d.stage) r going
  end_falls (weight i w) p r = clash (ended d.stage) r going
  end_falls end p r =
      (rw (is_scaled d.stage (not-false _ p.early) going) (omega (arith, ltb-false 0 (missing d.n d.sets) p.incomplete, ungiven_is d.n d.sets)), refl)

  first_falls : (f : Form) → Passed (form_case d f) → sized d.stage ≡ false → acceptable (after d (item_of f)) < acceptable d
  first_falls (problem n) p q =
      rw (is_start d.stage p.repeated)
      (omega (arith, ungiven_most (nat_abs n) d.sets, size_range (nat_abs n) ((form_sound d h going (problem n) p).size refl)))
  first_falls (scale s t) p q = clash (sized d.stage) (not-false _ p.early) q
  first_falls (row i a others) p q = clash (sized d.stage) (late d.stage p.early) q
  first_falls (right i b) p q = clash (sized d.stage) (late d.stage p.early) q
  first_falls (right_within i b c) p q = clash (sized d.stage) (late d.stage p.early) q
  first_falls (guess i x) p q = clash (sized d.stage) (late d.stage p.early) q
  first_falls (inverse i g others) p q = clash (sized d.stage) (late d.stage p.early) q
  first_falls (weight i w) p q = clash (sized d.stage) (late d.stage p.early) q
  first_falls end p q = clash (sized d.stage) (late d.stage p.early) q

-- ---- a line that is accepted
module _ (d : Loader) (h : SoundLoader d) (l : Lists) (line : List ℕ) (e : line_answer d l line ≡ []) where
  abbrev next : Loader
  next = loader_after d l line

  pub falls_one : sized d.stage ≡ true → ended next.stage ≡ false → acceptable d ≡ suc (acceptable next)
  falls_one s n =
      let a = accepted_form d l line e in
      let r : ended (after d (item_of a.0)).stage ≡ false = rw (← a.1.loader) n in
      rw a.1.loader (form_falls d h a.1.going a.0 a.1.fine s r)

  pub falls_end : ended next.stage ≡ true → (acceptable d ≡ suc (lacking (set_of d.sets Weight) d.n)) × (acceptable next ≡ 0)
  falls_end n =
      let a = accepted_form d l line e in
      let r : ended (after d (item_of a.0)).stage ≡ true = rw (← a.1.loader) n in
      rw a.1.loader (end_falls d h a.1.going a.0 a.1.fine r)

  pub falls : acceptable next < acceptable d
  falls = go (sized d.stage) refl (ended next.stage) refl
    where
      go : (b : Bool) → sized d.stage ≡ b → (c : Bool) → ended next.stage ≡ c → acceptable next < acceptable d
      go b s true n = omega (arith, falls_end n)
      go true s false n = omega (arith, falls_one s n)
      go false s false n = let a = accepted_form d l line e in rw a.1.loader (first_falls d h a.1.going a.0 a.1.fine s)

-- every accepted line is one of those that could be
lines_fall : (u : State) → SoundLoader u.loader → (lines : List (List ℕ)) → Accepts u lines → length lines + acceptable (run u lines).loader ≤ acceptable u.loader
unfolding run
lines_fall u h [] a = omega arith
lines_fall u h (line ∷ lines) a =
    omega (arith, falls u.loader h u.lists line a.0, lines_fall (step u line) (line_sound u.loader u.lists line h) lines a.1)

pub at_most : (l : Lists) (lines : List (List ℕ)) → Accepts (from_new l) lines → length lines ≤ lines_most
at_most l lines a = omega (arith, lines_fall (from_new l) fresh_sound lines a)
