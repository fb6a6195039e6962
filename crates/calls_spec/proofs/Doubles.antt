-- The exported calls of 02's Paper 11, in its words.
--   guesses_status — the number and the values are those of the order of tests, 8, 3, 19
--   zero_doubles_lem, zero_nearest — 0 is said of accepted doubles alone: each of the first n is a finite double, and its guess the nearest to it, halves away from
--     zero
--   ends_status    — the number and the values are those of the order of tests, 8, 3
--   zero_ends, zero_outward — 0 is said of ends that were written alone: each pair is the largest double not above and the smallest not below
--   zero_between — and where a check of the same n, s and guesses gave these limits and 0 as well, every exact solution of every
--     right side within tolerance lies between the ends
--   nets_taken   — the guesses and limits of two nets that the check of both answered with 0 are never refused
--   nets_between — and where the ends of both were written, every joint solution lies between them
use mathlib.Core.List.{List, []}
use mathlib.Core.Path.{◌≡◌, sym, ◌∙◌}
use Prim.Native.Nat.{ℕ, ◌<◌}
use lib.IntN.{ℤ}
use lib.ListN.{get_or}
use lib.Ieee.{Float}
use Rattle.linear.specs.Matrix.{Vec}
use Rattle.linear.specs.Slice.{at}
use Rattle.enclosure.specs.Demand.{RightSide, ExactSolutionOf}
use Rattle.check_spec.specs.Input.{Input, problem}
use Rattle.doubles_guess.specs.Guess.{Nearest}
use Rattle.doubles_guess.specs.Units.{Double}
use Rattle.doubles_interval.specs.Interval.{Outward}
use Rattle.rules.specs.Refusal.{code}
use Rattle.doubles_lists.specs.Lists.{double_at}
use Rattle.doubles_lists.specs.Inward.{guesses_code, Incoming, inward_answer}
use Rattle.doubles_lists.specs.Outward.{Outgoing, outgoing, ends_in, outward_answer}
use Rattle.doubles_lists.specs.Hands.{AllBetween}
use Rattle.doubles_lists.proofs.Enclosed.{checked_between}
use Rattle.doubles_lists.proofs.Inward.{zero_accepted}
use Rattle.dependent_spec.specs.Nets.{Nets}
use Rattle.dependent_spec.specs.Order.{nets_code}
use Rattle.dependent_outward.specs.Heights.{main_outgoing, dependent_outgoing, NoPairRefused, BetweenBoth}
use Rattle.dependent_outward.proofs.Heights.{both_taken, both_between}
use Rattle.reply.specs.ReplyIs.{ReplyIs}
use Rattle.calls_spec.specs.Exported.{CheckExported}
use Rattle.calls_spec.specs.TwoNets.{DependentExported}
use Rattle.calls_spec.specs.Doubles.{GuessesExported, IntervalsExported}
use Rattle.calls_spec.proofs.Meaning.{zero_code}
use Rattle.calls_spec.proofs.TwoNets.{together_zero}

module _ {I : Incoming} {number : ℕ} {places : List ℕ} {guess : List ℤ} (x : GuessesExported I number places guess) where
  pub guesses_status : ReplyIs (inward_answer I) number places
  guesses_status = rw x.guessed.says at x.status

  zero_guessed : number ≡ 0 → guesses_code x.answer ≡ []
  zero_guessed e = x.guessed.says ∙ zero_accepted I (sym guesses_status.number_is ∙ e)

  pub zero_doubles_lem : number ≡ 0 → (i : ℕ) → i < I.n → Double (double_at I.values i)
  zero_doubles_lem e = x.guessed.doubles (zero_guessed e)

  pub zero_nearest : number ≡ 0 → (i : ℕ) → i < I.n → Nearest I.s (double_at I.values i) (at guess i)
  zero_nearest e = x.guessed.nearest (zero_guessed e)

module _ {I : Outgoing} {number : ℕ} {places : List ℕ} {low high : List Float} (x : IntervalsExported I number places low high) where
  pub ends_status : ReplyIs (outward_answer I) number places
  ends_status = rw x.ends.says at x.status

  pub zero_ends : number ≡ 0 → code x.outcome ≡ []
  zero_ends e = zero_code x.outcome (sym x.status.number_is ∙ e)

  pub zero_outward : number ≡ 0 → (i : ℕ) → i < I.n → Outward I.s (at I.guess i) (get_or I.bounds i 0) (ends_in low high i)
  zero_outward e = x.ends.outward (zero_ends e)

module _ {J : Input} {number' : ℕ} {places' E L : List ℕ} (k : CheckExported J number' places' E L) {low₀ high₀ : List Float} {number : ℕ} {places : List ℕ} {low high : List Float}
    (x : IntervalsExported (outgoing J.n J.s J.guess E low₀ high₀) number places low high) where
  pub zero_between : number' ≡ 0 → number ≡ 0 → (β : Vec) (ρ : ℕ) → RightSide (problem J) β ρ → (N : Vec) (q : ℕ) → ExactSolutionOf (problem J) β ρ N q → AllBetween J.n low high N q
  zero_between e f = checked_between J k.checked (zero_code k.outcome (sym k.status.number_is ∙ e)) x.ends (zero_ends x f)

module _ {J : Nets} {number net : ℕ} {places E₁ L₁ E₂ L₂ : List ℕ} (k : DependentExported J number net places E₁ L₁ E₂ L₂) (e : number ≡ 0) where
  accepted_nets : nets_code k.answer ≡ []
  accepted_nets = k.checked.says ∙ together_zero k e

  pub nets_taken : NoPairRefused J E₁ E₂
  nets_taken = both_taken J k.checked accepted_nets

  pub nets_between : {low₀ high₀ low₁ high₁ : List Float} {number₁ : ℕ} {places₁ : List ℕ} → IntervalsExported (main_outgoing J E₁ low₀ high₀) number₁ places₁ low₁ high₁ → number₁ ≡ 0 →
      {low₀' high₀' low₂ high₂ : List Float} {number₂ : ℕ} {places₂ : List ℕ} → IntervalsExported (dependent_outgoing J E₂ low₀' high₀') number₂ places₂ low₂ high₂ → number₂ ≡ 0 →
      BetweenBoth J low₁ high₁ low₂ high₂
  nets_between x f y g = both_between J k.checked accepted_nets x.ends (zero_ends x f) y.ends (zero_ends y g)
