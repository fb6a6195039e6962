-- What is past the first n places is not read, nor what the lists that are written held before.
--   same_code_in, same_guesses — of two calls of `guesses_of` with lists long enough that agree on n, s and the first n doubles: what is said, and the first n
--     guesses where nothing is said
--   same_code_out, same_ends — the same of two calls of `intervals_of` that agree on n, s and the first n guesses and limits
use mathlib.Core.Path.{◌≡◌, sym, ap, ap₂, ◌∙◌}
use mathlib.Core.Bool.{Bool, false, not, ◌&&◌}
use mathlib.Core.List.{List, [], ◌∷◌}
use Prim.Native.Nat.{ℕ, ◌<◌, ◌^◌}
use lib.Dec.{leb}
use lib.IntN.{ℤ}
use lib.ListN.{get_or}
use lib.Ieee.{Float}
use Rattle.linear.specs.Slice.{at}
use Rattle.rules.specs.Order.{number, verdict}
use Rattle.rules.specs.declared.Kind.TheVariants as kind
use Rattle.rules.proofs.AllInRange.{all_ext}
use Rattle.doubles_guess.specs.Guess.{guess_for, has_guess}
use Rattle.doubles_interval.specs.Interval.{interval_of}
use Rattle.doubles_interval.specs.declared.Interval.{Interval}
use Rattle.doubles_lists.specs.Lists.{double_at, exchange_sizes}
use Rattle.doubles_lists.specs.Inward.{Incoming, incoming, short_incoming, inward_answer, guesses_after}
use Rattle.doubles_lists.specs.Outward.{Outgoing, outgoing, short_outgoing, outward_answer, lows_after, highs_after}
use Rattle.rules.proofs.Every.{every_ext}
use Rattle.doubles_lists.proofs.Inward.{after_at}
use Rattle.doubles_lists.proofs.Outward.{low_after_lem, high_after_lem}

module _ (n s : ℕ) (values values' : List Float) (guess guess' : List ℤ) (h : (i : ℕ) → i < n → double_at values i ≡ double_at values' i) where
  abbrev I : Incoming
  I = incoming n s values guess

  abbrev I' : Incoming
  I' = incoming n s values' guess'

  module _ (long : short_incoming I ≡ false) (long' : short_incoming I' ≡ false) where
    pub same_code_in : inward_answer I ≡ inward_answer I'
    unfolding inward_answer
    same_code_in =
        rw (long, long')
        (ap (λ (b : Bool). verdict (number 8 false ∷ number 3 (not (exchange_sizes n s)) ∷ number 19 (not b) ∷ []))
        (every_ext n _ _ (λ i l. ap (has_guess s) (h i l))))

    pub same_guesses : inward_answer I ≡ [] → (i : ℕ) → i < n → at (guesses_after I) i ≡ at (guesses_after I') i
    same_guesses e i l = after_at I e i l ∙ ap (guess_for s) (h i l) ∙ sym (after_at I' (sym same_code_in ∙ e) i l)

module _ (n s : ℕ) (guess guess' : List ℤ) (bounds bounds' : List ℕ) (low low' high high' : List Float)
    (hx : (i : ℕ) → i < n → at guess i ≡ at guess' i) (he : (i : ℕ) → i < n → get_or bounds i 0 ≡ get_or bounds' i 0) where
  abbrev O : Outgoing
  O = outgoing n s guess bounds low high

  abbrev O' : Outgoing
  O' = outgoing n s guess' bounds' low' high'

  module _ (long : short_outgoing O ≡ false) (long' : short_outgoing O' ≡ false) where
    pub same_code_out : outward_answer O ≡ outward_answer O'
    unfolding outward_answer
    same_code_out =
        rw (long, long')
        (ap₂ (λ (x e : Bool). verdict (number 8 false ∷ number 3 (not (exchange_sizes n s && (x && e))) ∷ []))
        (all_ext kind.Guess n _ _ hx) (every_ext n _ _ (λ i l. ap (λ (e : ℕ). leb e (2 ^ 60)) (he i l))))

    pub same_ends : outward_answer O ≡ [] → (i : ℕ) → i < n →
        (double_at (lows_after O) i ≡ double_at (lows_after O') i) × (double_at (highs_after O) i ≡ double_at (highs_after O') i)
    same_ends e i l =
        let e' = sym same_code_out ∙ e in
        let v : interval_of s (at guess i) (get_or bounds i 0) ≡ interval_of s (at guess' i) (get_or bounds' i 0) = ap₂ (interval_of s) (hx i l) (he i l) in
        (low_after_lem O e i l ∙ ap (λ (x : Interval). x.low) v ∙ sym (low_after_lem O' e' i l), high_after_lem O e i l ∙ ap (λ (x : Interval). x.high) v ∙ sym (high_after_lem O' e' i l))
