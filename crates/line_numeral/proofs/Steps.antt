-- Laws of the exact reading, at one byte and at the end, in the form in which the code meets them.
--   run_digit, run_stop, run_end — a run of digits, its value capped on the way, at a digit, at another byte and at the line's end
--   magnitude_zero, magnitude_other, magnitude_run — a magnitude, by the byte at its place
--   number_minus, number_plain      — a number, by the byte at its place
use Rattle.std.proofs.Common.{◌≡◌, ℕ, zero, suc, ◌+◌, ◌*◌, ◌<◌, ◌≤◌, Bool, true, false, cond, ltb, List, [], ◌∷◌, length, get_or, drop, refl, ◌∙◌, add-one, arith, drop_of_length-le, drop-cons, le-ltb, lt-ltb, eq-eqb, ne_eqb}
use Rattle.line_numeral.specs.declared.Number.{Number}
use Rattle.line_numeral.specs.declared.Magnitude.{Magnitude}
use Rattle.line_numeral.specs.Numeral.{digit_of, lost, run_at, magnitude_at, number_at, positive_of, negative_of, cap, cap_at, cap_magnitude}
use Rattle.line_numeral.specs.Capped.{capped_magnitude, capped_number}

-- ---- a run of digits
-- a value that is capped before the rest of the digits is read
run_capped : (v w i : ℕ) (l : List ℕ) → cap_magnitude v ≡ cap_magnitude w → capped_magnitude (run_at v i l) ≡ capped_magnitude (run_at w i l)
unfolding run_at
run_capped v w i [] e = rw e
run_capped v w i (b ∷ bs) e =
    go (ltb (digit_of b) 10) (run_capped (v * 10 + digit_of b) (w * 10 + digit_of b) (i + 1) bs (omega arith))
  where
    go : (t : Bool) → capped_magnitude (run_at (v * 10 + digit_of b) (i + 1) bs) ≡ capped_magnitude (run_at (w * 10 + digit_of b) (i + 1) bs)
        → capped_magnitude (cond t (run_at (v * 10 + digit_of b) (i + 1) bs) (record { value = v; next = i }))
        ≡ capped_magnitude (cond t (run_at (w * 10 + digit_of b) (i + 1) bs) (record { value = w; next = i }))
    go true h = h
    go false h = rw e

module _ (s : List ℕ) (v i k : ℕ) where
  -- the digits from the place i on are s from its index k on; d is the digit there, and w the value with that digit
  pub run_digit : {d w : ℕ} → k < length s → d ≡ digit_of (get_or s k 0) → d < 10 → w ≡ cap_magnitude (v * 10 + d)
      → capped_magnitude (run_at w (i + 1) (drop (k + 1) s)) ≡ capped_magnitude (run_at v i (drop k s))
  unfolding run_at
  run_digit {d} {w} h e l c =
      run_capped w (v * 10 + d) (i + 1) (drop (k + 1) s) (omega arith) ∙ rw (drop-cons s k 0, ← e, lt-ltb _ 10 l, add-one i, add-one k)

  pub run_stop : k < length s → 10 ≤ digit_of (get_or s k 0) → v ≤ cap_at → record { value = v; next = i } ≡ capped_magnitude (run_at v i (drop k s))
  unfolding run_at
  run_stop h d c =
      let q : cap_magnitude v ≡ v = omega arith in
      rw (drop-cons s k 0, le-ltb _ 10 d, q)

  pub run_end : length s ≤ k → v ≤ cap_at → record { value = v; next = i } ≡ capped_magnitude (run_at v i (drop k s))
  unfolding run_at
  run_end h c =
      let q : cap_magnitude v ≡ v = omega arith in
      rw (drop_of_length-le s h, q)

-- ---- the cap
positive_capped : (z : Magnitude) → positive_of (capped_magnitude z) ≡ capped_number (positive_of z)
unfolding cap
positive_capped z = refl

negative_capped : (other : ℕ) (z : Magnitude) → negative_of other (capped_magnitude z) ≡ capped_number (negative_of other z)
negative_capped other z = go z.value
  where
    go : (v : ℕ) → negative_of other (record { value = cap_magnitude v; next = z.next }) ≡ capped_number (negative_of other (record { value = v; next = z.next }))
    go zero = unfold cap in refl
    go (suc v) = unfold cap in rw (ne_eqb (cap_magnitude (suc v)) 0 (λ e. omega arith), ne_eqb (suc v) 0 (λ e. omega arith))

-- a byte that is no digit
pub byte_below : (b : ℕ) → b < 48 → 10 ≤ digit_of b
byte_below b h = rw (lt-ltb b 48 h) (omega arith)

pub byte_above : (b : ℕ) → 58 ≤ b → 10 ≤ digit_of b
byte_above b h = rw (le-ltb b 48 (omega arith), le-ltb b 58 h) (omega arith)

-- ---- a magnitude and a number, by the byte at their place
module _ (s : List ℕ) (i : ℕ) {b : ℕ} (byte : b ≡ get_or s i 0) where
  pub magnitude_zero : b ≡ 48 → record { value = 0; next = i + 1 } ≡ capped_magnitude (magnitude_at s i)
  unfolding magnitude_at
  magnitude_zero e = rw (← byte, e)

  pub magnitude_other : 10 ≤ digit_of b → record { value = 0; next = lost s } ≡ capped_magnitude (magnitude_at s i)
  unfolding magnitude_at
  magnitude_other l = rw (← byte, ne_eqb b 48 (λ e. omega (arith, rw e at l)), le-ltb _ 10 l)

  pub magnitude_run : {r : Magnitude} → 49 ≤ b → b ≤ 57 → r ≡ capped_magnitude (run_at 0 i (drop i s)) → r ≡ capped_magnitude (magnitude_at s i)
  unfolding magnitude_at
  magnitude_run {r} m n q =
      let l : digit_of b < 10 = rw (le-ltb b 48 (omega arith), lt-ltb b 58 (omega arith)) (omega arith) in
      rw (q, ← byte, ne_eqb b 48 (λ e. omega arith), lt-ltb _ 10 l)

  pub number_minus : {z : Magnitude} {r : Number} → b ≡ 45 → z ≡ capped_magnitude (magnitude_at s (i + 1)) → r ≡ negative_of (lost s) z → r ≡ capped_number (number_at s i)
  unfolding number_at
  number_minus e q w = rw (w, q, ← byte, eq-eqb b 45 e) (negative_capped (lost s) (magnitude_at s (i + 1)))

  pub number_plain : {z : Magnitude} {r : Number} → (b ≡ 45 → ⊥) → z ≡ capped_magnitude (magnitude_at s i) → r ≡ positive_of z → r ≡ capped_number (number_at s i)
  unfolding number_at
  number_plain e q w = rw (w, q, ← byte, ne_eqb b 45 e) (positive_capped (magnitude_at s i))
