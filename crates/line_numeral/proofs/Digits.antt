-- Digits, and runs of them.
--   Stops t     — no digit stands at the head of t
--   digit_of_lem, digit_byte — the value of a digit's byte, and the byte of a digit's value
--   run_digit, run_decimal, run_stops — a run at a digit, over the digits of a number, and where no digit follows
--   first_digit, no_minus — the first digit of a number above 0 is none of 0, and none is a minus
use Rattle.std.proofs.Common.{◌≡◌, ℕ, zero, suc, ◌+◌, ◌*◌, ◌/◌, ◌%◌, ◌<◌, ◌≤◌, Bool, true, false, ltb, List, [], ◌∷◌, ◌++◌, length, get_or, refl, ap, ◌∙◌, ap₂, append_assoc, arith, length-append, ltb-false, le-ltb, lt-ltb}
use Rattle.line_numeral.specs.Decimal.{decimal}
use Rattle.line_numeral.specs.Numeral.{digit_of, run_at}
use Rattle.line_numeral.proofs.Decimal.{decimal_small, decimal_induction}

-- no digit stands at the head of t
abbrev pub Stops : List ℕ → Type 0
Stops t = 10 ≤ digit_of (get_or t 0 0)

pub digit_of_lem : (d : ℕ) → d < 10 → digit_of (48 + d) ≡ d
digit_of_lem d h = rw (le-ltb (48 + d) 48 (omega arith), lt-ltb (48 + d) 58 (omega arith)) (omega arith)

pub digit_byte : (b : ℕ) → digit_of b < 10 → b ≡ 48 + digit_of b
digit_byte b h = go (ltb b 48) refl (ltb b 58) refl
  where
    go : (t : Bool) → ltb b 48 ≡ t → (u : Bool) → ltb b 58 ≡ u → b ≡ 48 + digit_of b
    go true p u q = absurd (omega (arith, rw p at h))
    go false p true q = rw (p, q) (omega (arith, ltb-false b 48 p))
    go false p false q = absurd (omega (arith, rw (p, q) at h))

pub run_digit : (v i d : ℕ) (l : List ℕ) → d < 10 → run_at v i ((48 + d) ∷ l) ≡ run_at (v * 10 + d) (i + 1) l
unfolding run_at
run_digit v i d l h = rw (digit_of_lem d h, lt-ltb d 10 h)

pub run_decimal : (n i : ℕ) (t : List ℕ) → run_at 0 i (decimal n ++ t) ≡ run_at n (i + length (decimal n)) t
run_decimal n i t = decimal_induction P one next n i t
  where
    P : ℕ → List ℕ → Type 0
    P n l = (i : ℕ) (t : List ℕ) → run_at 0 i (l ++ t) ≡ run_at n (i + length l) t

    one : (n : ℕ) → n < 10 → P n ((48 + n) ∷ [])
    one n h i t = run_digit 0 i n t h ∙ ap (λ (v : ℕ). run_at v (i + 1) t) (omega arith)

    next : (n : ℕ) → 10 ≤ n → P (n / 10) (decimal (n / 10)) → P n (decimal (n / 10) ++ ((48 + n % 10) ∷ []))
    next n h ih i t =
        rw append_assoc (ih i ((48 + n % 10) ∷ t))
        ∙ run_digit (n / 10) (i + length (decimal (n / 10))) (n % 10) t (omega arith)
        ∙ ap₂ (λ (v j : ℕ). run_at v j t) (omega arith) (simp length-append (omega arith))

pub run_stops : (v i : ℕ) (t : List ℕ) → Stops t → run_at v i t ≡ record { value = v; next = i }
unfolding run_at
run_stops v i [] h = refl
run_stops v i (b ∷ bs) h = rw (le-ltb (digit_of b) 10 h)

pub first_digit : (n : ℕ) (t : List ℕ) → 1 ≤ n → (49 ≤ get_or (decimal n ++ t) 0 0) × (get_or (decimal n ++ t) 0 0 ≤ 57)
first_digit n t = decimal_induction P one next n t
  where
    P : ℕ → List ℕ → Type 0
    P n l = (t : List ℕ) → 1 ≤ n → (49 ≤ get_or (l ++ t) 0 0) × (get_or (l ++ t) 0 0 ≤ 57)

    one : (n : ℕ) → n < 10 → P n ((48 + n) ∷ [])
    one n h t p = omega arith

    next : (n : ℕ) → 10 ≤ n → P (n / 10) (decimal (n / 10)) → P n (decimal (n / 10) ++ ((48 + n % 10) ∷ []))
    next n h ih t p = rw append_assoc (ih ((48 + n % 10) ∷ t) (omega arith))

pub no_minus : (n : ℕ) (t : List ℕ) → get_or (decimal n ++ t) 0 0 ≡ 45 → ⊥
no_minus zero t e =
    let z : ◌≡◌ {A = ℕ} 48 45 = rw (decimal_small 0 (omega arith)) at e in
    omega arith
no_minus (suc n) t e = omega (arith, first_digit (suc n) t (omega arith))
