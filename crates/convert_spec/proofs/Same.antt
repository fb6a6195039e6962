-- Problems that agree on the numbers that count are written alike, judged alike and reported alike, where their tolerances are the same too.
--   rising_ext     — equal forms;  form_same, parts_same, forms_same — the forms of a row, of the parts, and of the problem
--   R, over_is     — Q with n, s and t of P, which are those of Q where they agree
--   same_numbers   — problems that agree have equal files
--   file_again     — the file of the problem that a problem's file gives is that file
--   same_check, same_report, same_bound, same_inverse_bound — problems that agree in their tolerances too are judged alike, with the same report and limits
use mathlib.Core.Path.{◌≡◌, refl, ap, ◌∙◌}
use mathlib.Core.List.{List, [], ◌∷◌}
use Prim.Native.Nat.{ℕ, zero, suc, ◌+◌, ◌-◌, ◌≤◌, ◌<◌}
use native.Mathlib.Omega.{arith}
use Rattle.enclosure.specs.Problem.{Problem}
use Rattle.enclosure.specs.Reckoning.{bound, inverse_bound}
use Rattle.enclosure.proofs.Agreement.{Agreeing, over, bound_same}
use Rattle.check_spec.specs.Order.{checked_of}
use Rattle.check_spec.proofs.Agreement.{checked_same, inverse_same}
use Rattle.line_form.specs.Form.{Form, end}
use Rattle.loader_values.specs.declared.Part.{Part}
use Rattle.loader_values.specs.declared.Part.TheVariants.{Row, Right, Guess, Inverse, Weight}
use Rattle.file_check.specs.Judged.{reported_of}
use Rattle.file_check.proofs.Agreed.{reported_same}
use Rattle.listing.specs.Listing.{problem_in}
use Rattle.loader_spelled.specs.Ones.{text_of}
use Rattle.convert_spec.specs.File.{form_for, rising, parts_then, old_forms, old_file}
use Rattle.convert_spec.specs.Numbers.{SameNumbers, SameTolerances}
use Rattle.convert_spec.proofs.Numbers.{along_ext}
use Rattle.convert_spec.proofs.Values.{same_file}

rising_ext : (f g : ℕ → Form) (n : ℕ) → ((i : ℕ) → i < n → f i ≡ g i) → (c i : ℕ) → i + c ≤ n → (rest : List Form) → rising f i c rest ≡ rising g i c rest
unfolding rising
rising_ext f g n h zero i l rest = refl
rising_ext f g n h (suc c) i l rest = rw (h i (omega arith), rising_ext f g n h c (suc i) (omega arith) rest)

module _ (P Q : Problem) (a : SameNumbers P Q) where
  abbrev R : Problem
  R = over P Q

  over_is : R ≡ Q
  over_is = λ i. record { n = a.size i; s = a.solution i; t = a.inverse_scale i; A = Q.A; b = Q.b; d = Q.d; X = Q.X; G = Q.G; w = Q.w }

  form_same : (p : Part) (i : ℕ) → i < P.n → form_for P p i ≡ form_for R p i
  form_same Row i l = rw (a.matrix i 0 l (omega arith), along_ext (P.A i) (Q.A i) P.n 1 (P.n - 1) (omega arith) (λ j m. a.matrix i j l m))
  form_same Right i l = rw (a.right i l)
  form_same Guess i l = rw (a.guess i l)
  form_same Inverse i l = rw (a.inverse i 0 l (omega arith), along_ext (P.G i) (Q.G i) P.n 1 (P.n - 1) (omega arith) (λ j m. a.inverse i j l m))
  form_same Weight i l = rw (a.weights i l)

  parts_same : (ps : List Part) (rest : List Form) → parts_then P ps rest ≡ parts_then R ps rest
  parts_same [] rest = refl
  parts_same (p ∷ ps) rest =
      rising_ext (form_for P p) (form_for R p) P.n (form_same p) P.n 0 (omega arith) (parts_then P ps rest)
      ∙ ap (rising (form_for R p) 0 P.n) (parts_same ps rest)

  forms_same : old_forms P ≡ old_forms R
  unfolding old_forms
  forms_same = rw (parts_same (Row ∷ Right ∷ Guess ∷ Inverse ∷ Weight ∷ []) (end ∷ []))

  pub same_numbers : old_file P ≡ old_file Q
  same_numbers = ap text_of (forms_same ∙ ap old_forms over_is)

  module _ (s : SameTolerances P Q) where
    agreeing : Agreeing P Q
    agreeing = record { matrix = a.matrix; right = a.right; tolerance = s; guess = a.guess; inverse = a.inverse; weights = a.weights }

    pub same_check : checked_of P ≡ checked_of Q
    same_check = checked_same P Q agreeing ∙ ap checked_of over_is

    pub same_report : reported_of P ≡ reported_of Q
    same_report = reported_same P Q agreeing ∙ ap reported_of over_is

    pub same_bound : (i : ℕ) → i < P.n → bound P i ≡ bound Q i
    same_bound i l = bound_same P Q agreeing i l ∙ ap (λ (K : Problem). bound K i) over_is

    pub same_inverse_bound : (i j : ℕ) → i < P.n → j < P.n → inverse_bound P i j ≡ inverse_bound Q i j
    same_inverse_bound i j li lj = inverse_same P Q agreeing i j li lj ∙ ap (λ (K : Problem). inverse_bound K i j) over_is

pub file_again : (P : Problem) → old_file (problem_in (old_file P)) ≡ old_file P
file_again P = same_numbers (problem_in (old_file P)) P (same_file P)
