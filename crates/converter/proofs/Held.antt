-- What a file's lines gave is what its forms give, so what is delivered for the collected numbers is delivered for the file.
--   numbers, tolerances — the collected numbers that count are those that the forms give
--   ready         — what a delivery asks of the collected numbers
--   held_code, held_open — what is said of them is said of the file
--   file_delivered, file_refused — the contract of `convert_file`, where every line is accepted and where one is refused
use mathlib.Core.Path.{◌≡◌, refl, sym, ap, subst, ◌∙◌}
use mathlib.Core.Bool.{Bool, true, false}
use mathlib.Core.List.{List, [], ◌∷◌}
use Prim.Native.Nat.{ℕ}
use lib.Dec.{ltb}
use lib.ListN.{length}
use Rattle.integer.specs.Finite.{largest}
use Rattle.integer.proofs.Search.{largest_ext}
use Rattle.rules.specs.Refusal.{code, number_of, values_of}
use Rattle.std.specs.Prelude.{Ok, Err}
use Rattle.rules.specs.declared.Refusal.{Refusal}
use Rattle.loader_progress.specs.Progress.{ended}
use Rattle.loader_runs.specs.Holds.{InRange}
use Rattle.loader_runs.specs.Lines.{lines_of}
use Rattle.loader_runs.specs.Read.{reading_of}
use Rattle.loader_runs.specs.Run.{State, forms}
use Rattle.loader_runs.proofs.End.{FromForms}
use Rattle.file.specs.declared.Collected.{Collected}
use Rattle.file.specs.Read.{state_of, ReadAs}
use Rattle.listing.specs.Listing.{problem_in}
use Rattle.listing.specs.Complete.{Complete}
use Rattle.listing.proofs.Entire.{from, inside}
use Rattle.convert_spec.specs.Converted.{Converted, some_tolerance, convert_answer, Delivered, ConvertedAs, ConvertedAt}
use Rattle.convert_spec.specs.declared.ConversionRefusal.TheVariants.{Refused}
use Rattle.convert_spec.specs.File.{old_file, new_file}
use Rattle.convert_spec.specs.Numbers.{SameNumbers, SameTolerances}
use Rattle.convert_spec.proofs.Limits.{held_numbers, held_tolerances}
use Rattle.convert_spec.proofs.Same.{same_numbers}
use Rattle.convert_spec.proofs.Stated.{code_of_line, code_open, code_complete}
use Rattle.convert_writer.specs.Written.{held_by}
use Rattle.converter.specs.Held.{InRangeAtEnd, held_answer}

module _ (file : List ℕ) {c : Collected} (read : ReadAs file c) (e : c.outcome ≡ Ok tt) where
  quiet : (reading_of file).code ≡ []
  quiet = sym read.says ∙ ap code e

  module _ (z : ended c.loader.stage ≡ true) where
    end : ended (reading_of file).state.loader.stage ≡ true
    end = subst (λ (u : State). ended u.loader.stage ≡ true) read.state z

    whole : Complete file
    whole = record { lines = quiet; end = end }

    given : FromForms (forms (lines_of file)) (state_of c)
    given = subst (λ (u : State). FromForms (forms (lines_of file)) u) (sym read.state) (from file quiet end)

    numbers : SameNumbers (held_by c) (problem_in file)
    numbers = held_numbers (state_of c) (forms (lines_of file)) given

    tolerances : SameTolerances (held_by c) (problem_in file)
    tolerances = held_tolerances (state_of c) (forms (lines_of file)) given

    same_text : old_file (held_by c) ≡ new_file file
    same_text = same_numbers (held_by c) (problem_in file) numbers

    same_tolerance : some_tolerance (held_by c) ≡ some_tolerance (problem_in file)
    same_tolerance =
        ap (ltb 0) (largest_ext (held_by c).n (held_by c).d (problem_in file).d tolerances ∙ ap (λ (k : ℕ). largest k (problem_in file).d) numbers.size)

    held_code : (room : ℕ) → held_answer c room ≡ convert_answer file room
    held_code room = rw (z, same_tolerance, same_text) (sym (code_complete file room whole))

  pub ready : InRangeAtEnd c
  ready z = subst InRange (sym read.state) (inside file quiet (end z))

  held_open : ended c.loader.stage ≡ false → (room : ℕ) → held_answer c room ≡ convert_answer file room
  held_open z room = rw z (sym (code_open file room quiet (subst (λ (u : State). ended u.loader.stage ≡ false) read.state z)))

  -- ---- what is delivered
  delivered : {o p : List ℕ} {r : Converted} → Delivered (held_answer c (length o)) (old_file (held_by c)) o p r → ConvertedAs file o p r
  delivered {o} {p} {r} x = go (ended c.loader.stage) refl
    where
      go : (b : Bool) → ended c.loader.stage ≡ b → ConvertedAs file o p r
      go true z = subst (λ (t : List ℕ). Delivered (convert_answer file (length o)) t o p r) (same_text z) (subst (λ (w : List ℕ). Delivered w (old_file (held_by c)) o p r) (held_code z (length o)) x)
      go false z =
          let w = rw z at x in
          subst (λ (s : List ℕ). Delivered s (new_file file) o p r) (rw z at (held_open z (length o))) (record { says = w.says; size = w.size; bytes = w.bytes })

  pub file_delivered : {o p : List ℕ} {r : Converted} → Delivered (held_answer c (length o)) (old_file (held_by c)) o p r → ConvertedAt file o p (record { answer = r; line = 0 })
  file_delivered x = record { answer = delivered x; line = rw quiet }

module _ (file : List ℕ) {c : Collected} (read : ReadAs file c) (x : Refusal) (e : c.outcome ≡ Err x) where
  spoken : (reading_of file).code ≡ number_of x ∷ values_of x
  spoken = sym read.says ∙ ap code e

  pub file_refused : (o : List ℕ) → ConvertedAt file o o (record { answer = Err (Refused x); line = c.line })
  file_refused o =
      let s : convert_answer file (length o) ≡ number_of x ∷ values_of x = code_of_line file (length o) spoken in
      record { answer = rw s (record { says = refl; size = refl; bytes = refl }); line = rw spoken read.line }
