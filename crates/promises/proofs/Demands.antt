-- The theorems for specs/Demands, a theorem for each statement.
use mathlib.Core.Bool.{Bool, true, false}
use mathlib.Core.List.{List, []}
use mathlib.Core.Path.{◌≡◌, refl, sym, subst, ◌∙◌}
use Prim.Native.Nat.{ℕ, zero, suc, ◌<◌}
use native.Mathlib.Omega.{arith}
use lib.IntN.{ℤ}
use lib.ListN.{take}
use Rattle.check_spec.specs.Checked.{solution_bounds_after, inverse_bounds_after}
use Rattle.check_spec.specs.Input.{Input, short}
use Rattle.check_spec.specs.Stated.{Stated}
use Rattle.check_spec.proofs.Statements.{stated, code_of_lem}
use Rattle.check_spec.proofs.Written.{checked_solution, checked_inverse}
use Rattle.loader_progress.specs.Progress.{ended}
use Rattle.loader_progress.specs.declared.Stage.{Stage}
use Rattle.loader_order.specs.Through.{answer_through, solution_bounds_through, inverse_bounds_through}
use Rattle.loader_order.proofs.Through.{answer_ended, through_lists, check_8, check_15}
use Rattle.loader.specs.Taken.{loader_after, lists_after}
use Rattle.half_check.specs.Checked.{filled_input}
use Rattle.half_check.proofs.Promises.{half_stated}
use Rattle.loader_stated.proofs.Stated.{line_exactly, made_exactly}
use Rattle.loader_stated.proofs.Taken.{taken_other}
use Rattle.file_stated.proofs.Stated.{file_exactly, answered_stated, listed_stated}
use Rattle.enclosure.specs.Reckoning.{bound, inverse_bound}
use Rattle.line_form.specs.Form.{bytes}
use Rattle.listing_report.specs.Report.{report_of}
use Rattle.listing_report.proofs.OneToOne.{SameShown, report_one}
use Rattle.loader_runs.specs.Lines.{lines_of}
use Rattle.loader_runs.specs.Read.{reading_of}
use Rattle.loader_runs.specs.Run.{forms}
use Rattle.file_check.proofs.Forms.{n_pos}
use Rattle.listing.specs.Listing.{problem_in, answer_of}
use Rattle.listing.proofs.Entire.{from, inside}
use Rattle.listing.proofs.Demand.{accepted_parts, file_reported, exact_accepted}
use Rattle.listing.proofs.Meaning.{bounds_begin, answered_none, listed_none, answered_encloses, listed_encloses}
use Rattle.promises.specs.Demands as demand
use Rattle.promises.specs.Ways.{Refused, on_lists, through_loader, by_half, of_file, of_listing, StatedThrough, too_short, not_ended, as_on_lists}
use Rattle.promises.proofs.Ways.{refused_old, half_lists}

-- ---- Demand 1
pub refused_check_leaves : demand.RefusedCheckLeaves
unfolding solution_bounds_after inverse_bounds_after
refused_check_leaves I r E L x h =
    let a : Refused _ = rw x.says at h in
    (x.solution_bounds ∙ refused_old _ _ _ a, x.inverse_bounds ∙ refused_old _ _ _ a)

pub refused_through_leaves : demand.RefusedThroughLeaves
unfolding solution_bounds_through inverse_bounds_through
refused_through_leaves s I r E L x h =
    let a : Refused _ = rw x.says at h in
    (x.solution_bounds ∙ refused_old _ _ _ a, x.inverse_bounds ∙ refused_old _ _ _ a)

pub refused_line_leaves : demand.RefusedLineLeaves
unfolding loader_after lists_after
refused_line_leaves d line l r l' x h =
    let a : Refused _ = rw x.says at h in
    (x.loader ∙ refused_old _ _ _ a, x.lists ∙ refused_old _ _ _ a)

-- ---- Demand 2
pub limits_computed : demand.LimitsComputed
limits_computed P E L (on_lists I r E' L' x e) = (checked_solution I r E' L' x e, checked_inverse I r E' L' x e)
limits_computed P E L (through_loader s I r E' L' x e) =
    let y = through_lists s I x e in
    (checked_solution I r E' L' y e, checked_inverse I r E' L' y e)
limits_computed P E L (by_half H r E' L' x e) =
    let y = half_lists H r E' L' x e in
    (checked_solution (filled_input H) r E' L' y e, checked_inverse (filled_input H) r E' L' y e)
limits_computed P E L (of_file file old new r x z) = (λ i l. refl, λ i j li lj. refl)
limits_computed P E L (of_listing file old new count x b) = (λ i l. refl, λ i j li lj. refl)

pub file_shows_limits : demand.FileShowsLimits
file_shows_limits file old new r x z = x.listed.bytes ∙ file_reported file (answered_none x z)

pub listing_shows_limits : demand.ListingShowsLimits
listing_shows_limits file old new count x b = x.bytes ∙ file_reported file (listed_none x b)

-- an accepted file has a row
file_has_row : (file : List ℕ) → answer_of file ≡ [] → 0 < (problem_in file).n
file_has_row file e =
    let c = (accepted_parts file e).complete in
    n_pos (reading_of file).state (forms (lines_of file)) (from file c.lines c.end) (inside file c.lines c.end)

rows_one : (n s n' s' : ℕ) (X X' : ℕ → ℤ) (E E' : ℕ → ℕ) (L L' : ℕ → ℕ → ℕ) → 0 < n → 0 < n' → report_of n s X E L ≡ report_of n' s' X' E' L' → SameShown n X E L n' X' E' L'
rows_one zero s n' s' X X' E E' L L' p q e = absurd (omega (arith, p))
rows_one (suc n) s zero s' X X' E E' L L' p q e = absurd (omega (arith, q))
rows_one (suc n) s (suc n') s' X X' E E' L L' p q e = report_one n s n' s' X X' E E' L L' e

pub equal_listings_equal_limits : demand.EqualListingsEqualLimits
equal_listings_equal_limits file old new file' old' new' count count' x y b e =
    let P = problem_in file in
    let P' = problem_in file' in
    let b' : take 8 (take count' new') ≡ bytes "(bounds " = subst (λ (l : List ℕ). take 8 l ≡ bytes "(bounds ") e b in
    let same = sym (listing_shows_limits file old new count x b) ∙ e ∙ listing_shows_limits file' old' new' count' y b' in
    let r = rows_one P.n P.s P'.n P'.s P.X P'.X (bound P) (bound P') (inverse_bound P) (inverse_bound P') (file_has_row file (listed_none x b)) (file_has_row file' (listed_none y b')) same in
    (r.size, λ i l. (r.guess i l, r.solution i l), r.inverse)

pub check_refuses_as_stated : demand.CheckRefusesAsStated
check_refuses_as_stated I r E L x w = (λ e. subst (Stated I) (sym x.says ∙ e) (stated I), λ y. x.says ∙ code_of_lem I y)

module _ (s : Stage) (I : Input) where
  through_stated : StatedThrough s I (answer_through s I)
  through_stated = go (short I) refl (ended s) refl
    where
      go : (a : Bool) → short I ≡ a → (b : Bool) → ended s ≡ b → StatedThrough s I (answer_through s I)
      go true p b q = subst (StatedThrough s I) (sym ((check_8 s I).1 (tt, p))) (too_short p)
      go false p false q = subst (StatedThrough s I) (sym ((check_15 s I).1 ((p, tt), rw q))) (not_ended p q)
      go false p true q = as_on_lists _ q (subst (Stated I) (sym (answer_ended s I q)) (stated I))

  through_code : (w : List ℕ) → StatedThrough s I w → answer_through s I ≡ w
  through_code w (too_short p) = (check_8 s I).1 (tt, p)
  through_code w (not_ended p q) = (check_15 s I).1 ((p, tt), rw q)
  through_code w (as_on_lists v q y) = answer_ended s I q ∙ code_of_lem I y

pub through_refuses_as_stated : demand.ThroughRefusesAsStated
through_refuses_as_stated s I r E L x w = (λ e. subst (StatedThrough s I) (sym x.says ∙ e) (through_stated s I), λ y. x.says ∙ through_code s I w y)

pub half_refuses_as_stated : demand.HalfRefusesAsStated
half_refuses_as_stated H r E L x w = half_stated H r E L x

pub line_refuses_as_stated : demand.LineRefusesAsStated
line_refuses_as_stated d line l r l' x m w = let f = made_exactly d l line m w in (λ e. f.0 (sym x.says ∙ e), λ y. x.says ∙ f.1 y)

pub other_line_refuses_as_stated : demand.OtherLineRefusesAsStated
other_line_refuses_as_stated d line l r l' x = (
  λ own w. let f = line_exactly d l line own w in (λ e. f.0 (sym x.says ∙ e), λ y. x.says ∙ f.1 y),
  λ given out w. taken_other d line l r l' x given out w,
)

pub file_refuses_as_stated : demand.FileRefusesAsStated
file_refuses_as_stated file old new r x w y = (answered_stated file x y, listed_stated file x.listed y)

pub file_has_one_case : demand.FileHasOneCase
file_has_one_case file =
    let f = file_exactly file in
    (answer_of file, ((f (answer_of file)).0 refl, λ v y. sym ((f v).1 y)))

-- ---- Demand 3
pub accepted_encloses : demand.AcceptedEncloses
accepted_encloses P E L (on_lists I r E' L' x e) = x.encloses e
accepted_encloses P E L (through_loader s I r E' L' x e) = x.encloses e
accepted_encloses P E L (by_half H r E' L' x e) = (half_lists H r E' L' x e).encloses e
accepted_encloses P E L (of_file file old new r x z) = answered_encloses x z
accepted_encloses P E L (of_listing file old new count x b) = listed_encloses x b

pub check_accepts : demand.CheckAccepts
check_accepts I r E L x long inside N q H q' h = x.accepts N q H q' long inside h

pub through_accepts : demand.ThroughAccepts
through_accepts s I r E L x long end inside N q H q' h = x.accepts N q H q' long end inside h

pub file_accepts : demand.FileAccepts
file_accepts file old new r x c N q H q' h = rw (x.reply, exact_accepted file c N q H q' h) refl

pub listing_accepts : demand.ListingAccepts
listing_accepts file old new count x c N q H q' h = rw x.bytes (bounds_begin file (exact_accepted file c N q H q' h))
