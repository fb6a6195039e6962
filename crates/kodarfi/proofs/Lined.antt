-- The calls that give the refused line: what was gathered is that of the whole list, so what was said in the end is the contract of the call.
--   is_whole — what was gathered of the slice, from what was said before any line
--   lined — the contract, from what the last step says
use Rattle.std.proofs.Common.{◌≡◌, ℕ, ℤ, List, length, ap, ◌∙◌}
use Rattle.build_lines.specs.declared.Observation.{Observation}
use Rattle.build_gathering.specs.declared.Gathered.{Gathered}
use Rattle.build_gathering.specs.declared.Progress.{Progress}
use Rattle.build_gathering.specs.Gathered.{together, gathered, few, opening_progress, no_lines, line_number_of}
use Rattle.build_gathering.proofs.Whole.{whole}
use Rattle.build_equations.specs.declared.Layout.{Layout}
use Rattle.build.specs.BuiltAs.{short_for}
use Rattle.build.proofs.Contract.{gathered_for, built}
use Rattle.reply.specs.Builds.{FinishedStatus}
use Rattle.calls_spec.specs.Build.{BuildLineExported}

module _ (n : ℕ) (ls : List Observation) (lay : Layout) (a b : List ℤ) where
  pub is_whole : {s : Progress} {g : Gathered} → s ≡ opening_progress n (length ls) (short_for lay a b) → g ≡ gathered (together s no_lines) ls (few s.status (length ls)) → g ≡ gathered_for n ls lay a b
  is_whole p e = e ∙ ap (λ (z : Progress). gathered (together z no_lines) ls (few z.status (length ls))) p

  pub lined : {g : Gathered} {z : ℕ} {a' b' : List ℤ} {line : ℕ} → g ≡ gathered_for n ls lay a b → FinishedStatus g lay a b z a' b' line → BuildLineExported n ls lay a b z a' b' line
  lined p d = record {
    exported = record { answer = d.answer; built = built n ls lay a b p d.finished; number_is = d.number_is };
    line_is = d.line_is ∙ ap line_number_of p ∙ (whole n ls (short_for lay a b)).line;
  }
