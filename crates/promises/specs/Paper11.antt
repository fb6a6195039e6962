-- 02, Paper 11. Doubles in, doubles out. "Solvers hand over IEEE 754 doubles and design programs read them" is its reason. `whole x` is the double x in units
-- of 2 ^ -1074, of which every finite double is a whole number; `units_of s z` are z steps.
use Rattle.std.specs.Prelude.{true, false, List, [], ◌∷◌, ◌↔◌, ◌≡◌, ℕ, ◌<◌, ◌≤◌, Float, ℤ, pos, ◌+ℤ◌, ◌-ℤ◌, get_or, ◌≤ℤ◌, ◌<ℤ◌}
use Rattle.std.specs.Float.{fin}
use Rattle.linear.specs.Matrix.{Vec}
use Rattle.linear.specs.Slice.{at}
use Rattle.rules.specs.Refusal.{code, Outcome}
use Rattle.enclosure.specs.Demand.{RightSide, ExactSolutionOf}
use Rattle.enclosure.specs.Problem.{Problem}
use Rattle.doubles_guess.specs.Guess.{guess_for, has_guess, Nearest}
use Rattle.doubles_guess.specs.Units.{whole, Double}
use Rattle.doubles_interval.specs.Interval.{units_of, Outward}
use Rattle.doubles_lists.specs.Hands.{Hands, AllBetween}
use Rattle.doubles_lists.specs.Inward.{guesses_code, Incoming, short_incoming, GuessesOf, Guessed}
use Rattle.doubles_lists.specs.Lists.{double_at, exchange_sizes}
use Rattle.doubles_lists.specs.Outward.{Outgoing, short_outgoing, outgoing_in_ranges, ends_in, IntervalsOf}
use Rattle.promises.specs.Ways.{Refused, Accepted}

-- "A double becomes a guess by rounding its exact value times S to a nearest whole number, halves away from zero"
abbrev pub GuessNearest : Type 0
GuessNearest =
    (I : Incoming) (r : Guessed) (guess : List ℤ) → GuessesOf I r guess → guesses_code r ≡ [] → (i : ℕ) → i < I.n →
    let x = double_at I.values i in Double x × Nearest I.s x (at guess i) × (at guess i ≡ guess_for I.s x)

-- "minus zero gives 0"
abbrev pub MinusZeroGives0 : Type 0
MinusZeroGives0 = (s : ℕ) → guess_for s (fin true 0 (pos 0)) ≡ pos 0

-- "Outward, each height is a pair of doubles, low and high: the largest double not above (X − E)/S and the smallest not below (X + E)/S, zero always plus zero"
-- (`Outward`: `LowEnd` and `HighEnd` of doubles_interval/specs/Ends are these words)
abbrev pub EndsOutward : Type 0
EndsOutward =
    (I : Outgoing) (r : Outcome) (low high : List Float) → IntervalsOf I r low high → code r ≡ [] → (i : ℕ) → i < I.n →
    Outward I.s (at I.guess i) (get_or I.bounds i 0) (ends_in low high i)

-- "Where X and E are guess and limit of an accepted check, the exact height lies between them" (`Hands`: the call is handed these)
abbrev pub HeightBetween : Type 0
HeightBetween =
    (P : Problem) (E : ℕ → ℕ) (L : ℕ → ℕ → ℕ) → Accepted P E L → (I : Outgoing) → Hands P E I → (r : Outcome) (low high : List Float) → IntervalsOf I r low high → code r ≡ [] →
    (β : Vec) (ρ : ℕ) → RightSide P β ρ → (N : Vec) (q : ℕ) → ExactSolutionOf P β ρ N q → AllBetween P.n low high N q

-- "No double lies strictly between either end and the number it stands for"
abbrev pub NoDoubleBetween : Type 0
NoDoubleBetween =
    (I : Outgoing) (r : Outcome) (low high : List Float) → IntervalsOf I r low high → code r ≡ [] → (i : ℕ) → i < I.n → (y : Float) → Double y →
    let X = at I.guess i in let E = get_or I.bounds i 0 in
    ((whole (double_at low i) <ℤ whole y) × (whole y ≤ℤ units_of I.s (X -ℤ pos E)) → ⊥)
    × ((units_of I.s (X +ℤ pos E) ≤ℤ whole y) × (whole y <ℤ whole (double_at high i)) → ⊥)

-- "(8 and 3 first, then new 19, for a double that is not finite or whose guess leaves its range": `has_guess` is neither
abbrev pub InwardRefusals : Type 0
InwardRefusals =
    (I : Incoming) (r : Guessed) (guess : List ℤ) → GuessesOf I r guess →
    ((guesses_code r ≡ 8 ∷ []) ↔ (short_incoming I ≡ true))
    × ((guesses_code r ≡ 3 ∷ []) ↔ ((short_incoming I ≡ false) × (exchange_sizes I.n I.s ≡ false)))
    × ((guesses_code r ≡ 19 ∷ [])
    ↔ ((short_incoming I ≡ false) × (exchange_sizes I.n I.s ≡ true) × ((i : ℕ) × (i < I.n) × (has_guess I.s (double_at I.values i) ≡ false))))

abbrev pub InwardAccepted : Type 0
InwardAccepted =
    (I : Incoming) (r : Guessed) (guess : List ℤ) → GuessesOf I r guess →
    (guesses_code r ≡ [])
    ↔ ((short_incoming I ≡ false) × (exchange_sizes I.n I.s ≡ true) × ((i : ℕ) → i < I.n → has_guess I.s (double_at I.values i) ≡ true))

-- "the guess list is untouched"
abbrev pub RefusedInwardLeaves : Type 0
RefusedInwardLeaves = (I : Incoming) (r : Guessed) (guess : List ℤ) → GuessesOf I r guess → Refused (guesses_code r) → guess ≡ I.guess

-- "Outward, 3 also for a limit outside 0 to 2^60" (`outgoing_in_ranges`)
abbrev pub OutwardRefusals : Type 0
OutwardRefusals =
    (I : Outgoing) (r : Outcome) (low high : List Float) → IntervalsOf I r low high →
    ((code r ≡ 8 ∷ []) ↔ (short_outgoing I ≡ true))
    × ((code r ≡ 3 ∷ []) ↔ ((short_outgoing I ≡ false) × (outgoing_in_ranges I ≡ false)))
    × ((code r ≡ []) ↔ ((short_outgoing I ≡ false) × (outgoing_in_ranges I ≡ true)))

-- "a refusal writes no end.)"
abbrev pub RefusedOutwardLeaves : Type 0
RefusedOutwardLeaves = (I : Outgoing) (r : Outcome) (low high : List Float) → IntervalsOf I r low high → Refused (code r) → (low ≡ I.low) × (high ≡ I.high)
