-- What a converter says of a file, each answer exactly in its stated case.
--   some_above, tolerance_code, no_tolerance_code, none_above — some tolerance is above 0 exactly where the largest is
--   code_of_line, code_open, code_complete — what is said where a line is refused, where the file stops before an end, and where it does not
--   convert_stated — what is said is said by its stated case;  stated_code — and in its stated case it is said
--   always_fits   — a buffer of 21,300 bytes is long enough for every new file
use mathlib.Core.Path.{◌≡◌, refl, ◌∙◌}
use mathlib.Core.Bool.{Bool, true, false, cond, ◌||◌}
use mathlib.Core.List.{List, [], ◌∷◌}
use Prim.Native.Nat.{ℕ, zero, suc, ◌≤◌, ◌<◌}
use native.Mathlib.Decide.{dec_lt}
use native.Mathlib.Omega.{arith}
use borrow.Author.Tests.{lt-ltb, le-ltb, ltb-true, ltb-false}
use lib.Dec.{ltb}
use lib.ListN.{length}
use Rattle.integer.specs.Finite.{largest}
use Rattle.integer.proofs.Search.{largest_at, largest-≤}
use Rattle.enclosure.specs.Demand.{NoTolerance}
use Rattle.enclosure.specs.Problem.{Problem}
use Rattle.loader_progress.specs.Progress.{ended}
use Rattle.loader_runs.specs.Read.{reading_of}
use Rattle.listing.specs.Listing.{problem_in}
use Rattle.listing.specs.Complete.{Complete}
use Rattle.convert_spec.specs.Converted.{some_tolerance, convert_answer}
use Rattle.convert_spec.specs.File.{new_file}
use Rattle.convert_spec.specs.Stated.{ConvertStated, line_refused, not_ended, tolerance, too_small, converted}
use Rattle.convert_spec.proofs.Equal.{new_size}

-- ---- the tolerances
some_above : (n : ℕ) (d : ℕ → ℕ) → 0 < largest n d → (i : ℕ) × ((i < n) × (0 < d i))
unfolding largest
some_above zero d h = absurd (omega arith)
some_above (suc n) d h = go (dec_lt 0 (d n)) (some_above n d)
  where
    go : Dec (0 < d n) → (0 < largest n d → (i : ℕ) × ((i < n) × (0 < d i))) → (i : ℕ) × ((i < suc n) × (0 < d i))
    go (yes a) before = (n, (omega arith, a))
    go (no a) before = let r = before (omega arith) in (r.0, (omega (arith, r.1.0), r.1.1))

tolerance_code : (P : Problem) (i : ℕ) → i < P.n → 0 < P.d i → some_tolerance P ≡ true
tolerance_code P i l h = lt-ltb 0 (largest P.n P.d) (omega (arith, largest_at P.n P.d i l))

pub no_tolerance_code : (P : Problem) → NoTolerance P → some_tolerance P ≡ false
no_tolerance_code P h = le-ltb 0 (largest P.n P.d) (largest-≤ P.n P.d 0 (λ i l. omega (arith, h i l)))

pub none_above : (P : Problem) → some_tolerance P ≡ false → NoTolerance P
none_above P e i l = omega (arith, ltb-false 0 (largest P.n P.d) e, largest_at P.n P.d i l)

either_way : (a : Bool) (w : List ℕ) → cond (a || true) w [] ≡ w
either_way true w = refl
either_way false w = refl

module _ (file : List ℕ) (room : ℕ) where
  -- ---- what is said, once every line is accepted
  pub code_of_line : {k : ℕ} {vs : List ℕ} → (reading_of file).code ≡ k ∷ vs → convert_answer file room ≡ k ∷ vs
  unfolding convert_answer
  code_of_line e = rw e

  pub code_open : (reading_of file).code ≡ [] → ended (reading_of file).state.loader.stage ≡ false → convert_answer file room ≡ 15 ∷ []
  unfolding convert_answer
  code_open q e = rw (q, e)

  pub code_complete : Complete file → convert_answer file room ≡ cond (some_tolerance (problem_in file) || ltb room (length (new_file file))) (22 ∷ []) []
  unfolding convert_answer
  code_complete c = rw (c.lines, c.end)

  -- ---- by its stated case
  by_tests : Complete file → (a b : Bool) → some_tolerance (problem_in file) ≡ a → ltb room (length (new_file file)) ≡ b → ConvertStated file room (cond (a || b) (22 ∷ []) [])
  by_tests c true b p q =
      let r = some_above (problem_in file).n (problem_in file).d (ltb-true 0 _ p) in
      tolerance c r.0 r.1.0 r.1.1
  by_tests c false true p q = too_small c (ltb-true room _ q)
  by_tests c false false p q = converted c (none_above (problem_in file) p) (omega (arith, ltb-false room (length (new_file file)) q))

  pub convert_stated : ConvertStated file room (convert_answer file room)
  convert_stated = go (reading_of file).code refl (ended (reading_of file).state.loader.stage) refl
    where
      go : (w : List ℕ) → (reading_of file).code ≡ w → (b : Bool) → ended (reading_of file).state.loader.stage ≡ b → ConvertStated file room (convert_answer file room)
      go (k ∷ vs) q b e = rw (code_of_line q) (line_refused k vs q)
      go [] q false e = rw (code_open q e) (not_ended q e)
      go [] q true e =
          let c : Complete file = record { lines = q; end = e } in
          rw (code_complete c) (by_tests c (some_tolerance (problem_in file)) (ltb room (length (new_file file))) refl refl)

  -- ---- and in its stated case
  pub stated_code : {w : List ℕ} → ConvertStated file room w → convert_answer file room ≡ w
  stated_code (line_refused k vs q) = code_of_line q
  stated_code (not_ended q e) = code_open q e
  stated_code (tolerance c i l h) = code_complete c ∙ rw (tolerance_code (problem_in file) i l h)
  stated_code (too_small c l) = code_complete c ∙ rw (lt-ltb room (length (new_file file)) l) (either_way (some_tolerance (problem_in file)) (22 ∷ []))
  stated_code (converted c z l) = code_complete c ∙ rw (no_tolerance_code (problem_in file) z, le-ltb room (length (new_file file)) l)

  pub always_fits : Complete file → NoTolerance (problem_in file) → 21300 ≤ room → convert_answer file room ≡ []
  always_fits c z l = stated_code (converted c z (omega (arith, new_size file c)))
