-- The spelling of a number and its reading are inverse to each other, for numbers of any size.
--   number_spelled — where the spelling of z stands at a place, and no further digit after it, the number there is z
--   number_read    — where a number is read at a place, its spelling stands there
--   numeral_length — a spelling has one byte or more
use Rattle.std.proofs.Common.{◌≡◌, ℕ, zero, suc, ◌+◌, ◌-◌, ◌*◌, ◌<◌, ◌≤◌, Bool, true, false, cond, eqb, ltb, List, [], ◌∷◌, ◌++◌, length, get_or, drop, ℤ, pos, negsuc, neg_ℤ, sym, refl, ap, ◌∙◌, append_assoc, arith, length-append, ltb-true, le-ltb, lt-ltb, eq-eqb, ne_eqb, eqb-true}
use borrow.Author.Tests.{eqb-false}
use Rattle.line_numeral.specs.declared.Number.{Number}
use Rattle.line_numeral.specs.declared.Magnitude.{Magnitude}
use Rattle.line_numeral.specs.Decimal.{decimal, numeral}
use Rattle.line_numeral.specs.Numeral.{digit_of, lost, run_at, magnitude_at, number_at, negative_of}
use Rattle.line_numeral.proofs.Decimal.{decimal_small, decimal_more, decimal_induction}
use Rattle.line_numeral.proofs.Digits.{Stops, digit_byte, run_digit, run_decimal, run_stops, first_digit, no_minus}
use Rattle.line_numeral.proofs.Places.{by_test, head_at_lem, from, inside, rest_at}

pub numeral_length : (z : ℤ) → 1 ≤ length (numeral z)
unfolding numeral
numeral_length (pos n) = decimal_induction (λ n l. 1 ≤ length l) (λ n h. omega arith) (λ n h ih. simp length-append (omega arith)) n
numeral_length (negsuc n) = omega arith

-- ---- what is spelled is read
module _ (s t : List ℕ) (stop : Stops t) where
  magnitude_spelled : (at n : ℕ) → drop at s ≡ decimal n ++ t → magnitude_at s at ≡ record { value = n; next = at + length (decimal n) }
  unfolding magnitude_at
  magnitude_spelled at zero e =
      let z : decimal 0 ≡ 48 ∷ [] = decimal_small 0 (omega arith) in
      rw (eq-eqb (get_or s at 0) 48 (head_at_lem s at ∙ rw (e, z)), z)
  magnitude_spelled at (suc n) e =
      let f = first_digit (suc n) t (omega arith) in
      let h : get_or s at 0 ≡ get_or (decimal (suc n) ++ t) 0 0 = head_at_lem s at ∙ ap (λ (l : List ℕ). get_or l 0 0) e in
      rw (ne_eqb (get_or s at 0) 48 (λ k. omega arith), le-ltb (get_or s at 0) 48 (omega arith), lt-ltb (get_or s at 0) 58 (omega arith), lt-ltb (get_or s at 0 - 48) 10 (omega arith), e)
      (run_decimal (suc n) at t ∙ run_stops (suc n) (at + length (decimal (suc n))) t stop)

  pub number_spelled : (at : ℕ) (z : ℤ) → drop at s ≡ numeral z ++ t → number_at s at ≡ record { value = z; next = at + length (numeral z) }
  unfolding number_at numeral
  number_spelled at (pos n) e =
      rw (ne_eqb (get_or s at 0) 45 (λ k. no_minus n t (sym (head_at_lem s at ∙ ap (λ (l : List ℕ). get_or l 0 0) e) ∙ k)), magnitude_spelled at n e)
  number_spelled at (negsuc n) e =
      let h : get_or s at 0 ≡ 45 = head_at_lem s at ∙ ap (λ (l : List ℕ). get_or l 0 0) e in
      let r : drop (at + 1) s ≡ decimal (suc n) ++ t = rest_at s at (45 ∷ []) e in
      let l : at + 1 + length (decimal (suc n)) ≡ at + suc (length (decimal (suc n))) = omega arith in
      rw (eq-eqb (get_or s at 0) 45 h, magnitude_spelled (at + 1) (suc n) r, ne_eqb (suc n) 0 (λ k. omega arith), l)

-- ---- what is read is spelled
numeral_neg : (v : ℕ) → (v ≡ 0 → ⊥) → numeral (neg_ℤ (pos v)) ≡ 45 ∷ decimal v
unfolding numeral
numeral_neg zero h = absurd (h refl)
numeral_neg (suc v) h = refl

digit_above : {b d : ℕ} → eqb b 48 ≡ false → b ≡ 48 + d → 1 ≤ d
digit_above {b} {d} n e =
    let z : b ≡ 48 → ⊥ = eqb-false b 48 n in
    omega arith

module _ (s : List ℕ) where
  -- digits of value v, which is above 0, stand before the place i
  run_read : (v i : ℕ) (l : List ℕ) → 1 ≤ v → drop i s ≡ l → decimal v ++ l ≡ decimal (run_at v i l).value ++ drop (run_at v i l).next s
  unfolding run_at
  run_read v i [] h e = rw e
  run_read v i (b ∷ bs) h e = go (ltb (digit_of b) 10) refl (run_read (v * 10 + digit_of b) (i + 1) bs (omega arith) (rest_at s i (b ∷ []) e))
    where
      go : (u : Bool) → ltb (digit_of b) 10 ≡ u
          → decimal (v * 10 + digit_of b) ++ bs ≡ decimal (run_at (v * 10 + digit_of b) (i + 1) bs).value ++ drop (run_at (v * 10 + digit_of b) (i + 1) bs).next s
          → decimal v ++ (b ∷ bs) ≡ decimal (cond u (run_at (v * 10 + digit_of b) (i + 1) bs) (record { value = v; next = i })).value
          ++ drop (cond u (run_at (v * 10 + digit_of b) (i + 1) bs) (record { value = v; next = i })).next s
      go true p ih = sym (rw (decimal_more v (digit_of b) h (ltb-true (digit_of b) 10 p), append_assoc, ← digit_byte b (ltb-true (digit_of b) 10 p))) ∙ ih
      go false p ih = rw e

  magnitude_read : (at : ℕ) → (magnitude_at s at).next ≤ length s → drop at s ≡ decimal (magnitude_at s at).value ++ drop (magnitude_at s at).next s
  unfolding magnitude_at
  magnitude_read at = by_test (Spelled at) (eqb (get_or s at 0) 48) zeros (λ n. by_test (Spelled at) (ltb (digit_of (get_or s at 0)) 10) (run n) (λ _ h. absurd (omega arith)))
    where
      Spelled : ℕ → Magnitude → Type 0
      Spelled at z = z.next ≤ length s → drop at s ≡ decimal z.value ++ drop z.next s

      zeros : eqb (get_or s at 0) 48 ≡ true → Spelled at (record { value = 0; next = at + 1 })
      zeros e h =
          let b : get_or s at 0 ≡ 48 = eqb-true (get_or s at 0) 48 e in
          from s at (inside s at (omega arith)) ∙ rw (b, decimal_small 0 (omega arith))

      run : eqb (get_or s at 0) 48 ≡ false → ltb (digit_of (get_or s at 0)) 10 ≡ true → Spelled at (run_at 0 at (drop at s))
      run n e h =
          let d = digit_of (get_or s at 0) in
          let l : d < 10 = ltb-true d 10 e in
          let b : get_or s at 0 ≡ 48 + d = digit_byte (get_or s at 0) l in
          let f : drop at s ≡ (48 + d) ∷ drop (at + 1) s = from s at (inside s at (omega arith)) ∙ ap (λ (x : ℕ). x ∷ drop (at + 1) s) b in
          let q : run_at 0 at (drop at s) ≡ run_at (0 * 10 + d) (at + 1) (drop (at + 1) s) = ap (run_at 0 at) f ∙ run_digit 0 at d (drop (at + 1) s) l in
          let p : 1 ≤ d = digit_above n b in
          let z : 0 * 10 + d ≡ d = omega arith in
          rw (q, z) (f ∙ (rw (decimal_small d l) at (run_read d (at + 1) (drop (at + 1) s) p refl)))

  pub number_read : (at : ℕ) → (number_at s at).next ≤ length s → drop at s ≡ numeral (number_at s at).value ++ drop (number_at s at).next s
  unfolding number_at numeral
  number_read at = by_test Spelled (eqb (get_or s at 0) 45) minus (λ _ h. magnitude_read at h)
    where
      Spelled : Number → Type 0
      Spelled z = z.next ≤ length s → drop at s ≡ numeral z.value ++ drop z.next s

      minus : eqb (get_or s at 0) 45 ≡ true → Spelled (negative_of (lost s) (magnitude_at s (at + 1)))
      minus e =
          let b : get_or s at 0 ≡ 45 = eqb-true (get_or s at 0) 45 e in
          by_test Spelled (eqb (magnitude_at s (at + 1)).value 0) (λ _ h. absurd (omega arith))
          (λ n h. from s at (inside s at (omega arith)) ∙ rw (b, magnitude_read (at + 1) h, numeral_neg (magnitude_at s (at + 1)).value (eqb-false _ 0 n)))
