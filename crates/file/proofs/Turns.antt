-- The loop over a file.
--   ReadUpTo, at_start, read_on, read_refusal, at_end — the invariant of the loop over a file: at the start, past a line that is accepted, at one that is
--     refused, and at the end
--   from_zeros — the same with lists of zeros
use mathlib.Core.Path.{◌≡◌, sym, ap, ◌∙◌}
use mathlib.Core.List.{List, [], ◌∷◌}
use Prim.Native.Nat.{ℕ, ◌+◌, ◌-◌, ◌≤◌, ◌<◌}
use native.Mathlib.Omega.{arith}
use lib.ListN.{length, take, drop}
use Rattle.rules.specs.Refusal.{code, number_of, values_of, Outcome}
use Rattle.std.specs.Prelude.{Ok, Err}
use Rattle.rules.specs.declared.Refusal.{Refusal}
use Rattle.rules.proofs.Verdicts.{accepted_old}
use Rattle.loader_lists.specs.Lists.{Lists}
use Rattle.loader.specs.declared.Loader.{Loader}
use Rattle.loader.specs.declared.Taken.{Taken}
use Rattle.loader.specs.Answer.{line_answer}
use Rattle.loader.specs.Taken.{fresh, lists_after, TakenAs}
use Rattle.loader_runs.specs.Length.{line_length}
use Rattle.loader_runs.specs.Lines.{lines_of}
use Rattle.loader_runs.specs.Read.{Reading, read_from, zeros}
use Rattle.loader_runs.specs.Run.{state_with, from_new}
use Rattle.loader_runs.proofs.Lines.{lines_at, lines_end}
use Rattle.loader_runs.proofs.Read.{read_none, read_accepted, read_refused}
use Rattle.file.specs.declared.LinesTaken.{LinesTaken}
use Rattle.file.specs.Read.{LinesTakenAs, ReadAs}

-- what a file's lines give, with the lists as they are lent
abbrev read_with : Lists → List ℕ → Reading
read_with old file = read_from 0 (from_new old) (lines_of file)

-- k lines were taken, up to the place at: what is left to read gives what was to be read
pub record ReadUpTo (file : List ℕ) (old : Lists) (k at : ℕ) (d : Loader) (l : Lists) : Type 0 where
  pub so : read_from k (state_with d l) (lines_of (drop at file)) ≡ read_with old file
  pub count_max : k ≤ at
  pub inside : at ≤ length file + 1

pub at_start : (file : List ℕ) (old : Lists) {d : Loader} → d ≡ fresh → ReadUpTo file old 0 0 d old
at_start file old e = record { so = rw e; count_max = omega arith; inside = omega arith }

-- what is given back where the lines end, or one is refused
abbrev taken_as : Outcome → ℕ → Loader → LinesTaken
taken_as o k d = record { outcome = o; line = k; loader = d }

read_as : (file : List ℕ) (old : Lists) {l : Lists} {k : ℕ} {d : Loader} (o : Outcome) → record { code = code o; line = k; state = state_with d l } ≡ read_with old file → LinesTakenAs file old (taken_as o k d) l
read_as file old o e = record { says = ap (λ (R : Reading). R.code) e; line = ap (λ (R : Reading). R.line) e; state = ap (λ (R : Reading). R.state) e }

pub at_end : (file : List ℕ) (old : Lists) {l : Lists} {k at : ℕ} {d : Loader} → ReadUpTo file old k at d l → length file ≤ at → LinesTakenAs file old (taken_as (Ok tt) k d) l
at_end file old {l} {k} {at} {d} h m = read_as file old (Ok tt) (sym (read_none k (state_with d l)) ∙ rw (lines_end file m) at h.so)

pub from_zeros : (file : List ℕ) {old new : Lists} {r : LinesTaken} → LinesTakenAs file old r new → old ≡ zeros →
    ReadAs file (record { outcome = r.outcome; line = r.line; loader = r.loader; matrix = new.matrix; right = new.right; tolerance = new.tolerance; guess = new.guess; inverse = new.inverse; weights = new.weights })
from_zeros file t z = record { says = rw z at t.says; line = rw z at t.line; state = rw z at t.state }

module _ (file : List ℕ) (old : Lists) {l l' : Lists} {k at end : ℕ} {d : Loader} {r : Taken} (h : ReadUpTo file old k at d l) (inside : at < length file)
    (place : (end ≡ at + line_length (drop at file)) × (end ≤ length file)) (taken : TakenAs d (take (end - at) (drop at file)) l r l') where
  abbrev line : List ℕ
  line = take (end - at) (drop at file)

  abbrev rest : List (List ℕ)
  rest = lines_of (drop (end + 1) file)

  split : read_from k (state_with d l) (line ∷ rest) ≡ read_with old file
  split = rw (lines_at file inside place.0) at h.so

  pub read_on : r.outcome ≡ Ok tt → ReadUpTo file old (k + 1) (end + 1) r.loader l'
  read_on e =
      let s : line_answer d l line ≡ [] = sym taken.says ∙ ap code e in
      record {
        so = rw (taken.loader, taken.lists) (sym (read_accepted k (state_with d l) line rest s) ∙ split);
        count_max = omega (arith, h.count_max, place.0);
        inside = omega (arith, place.1);
      }

  pub read_refusal : (x : Refusal) → r.outcome ≡ Err x → LinesTakenAs file old (taken_as (Err x) (k + 1) d) l'
  unfolding lists_after
  read_refusal x s =
      let a : line_answer d l line ≡ number_of x ∷ values_of x = sym taken.says ∙ ap code s in
      let same : l' ≡ l = taken.lists ∙ accepted_old _ _ a in
      read_as file old (Err x) (rw same (sym (read_refused k (state_with d l) line rest a) ∙ split))
