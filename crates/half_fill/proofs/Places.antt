-- Places in the half.
--   some_row   — a matrix with a place has a row
--   count_next — a row of i + 1 numbers more;  count_up, count_few — more rows have no fewer numbers, 32 rows at most 528
--   place_lower, place_upper — on and below the diagonal, and on and above it;  place_swap — a place and its mirror image are one
--   place_left, place_right — the next column, left of the diagonal and from it on
--   place_below — the places of an n-by-n matrix are the first n·(n + 1)/2
--   place_from_one — document 02's place, which counts from 1
use mathlib.Core.Path.{◌≡◌, sym, ◌∙◌}
use Prim.Native.Nat.{ℕ, zero, suc, ◌+◌, ◌*◌, ◌-◌, ◌/◌, ◌≤◌, ◌<◌, max, min}
use native.Mathlib.Omega.{arith}
use native.Mathlib.Nat.{mul-le-mul}
use native.Mathlib.Decide.{dec_le}
use Rattle.half_fill.specs.Half.{lower_place, half_place, half_count}

pub some_row : {n k : ℕ} → k < n * n → 0 < n
some_row {n} {k} l = go n l
  where
    go : (n : ℕ) → k < n * n → 0 < n
    go zero l = absurd (omega arith)
    go (suc n) l = omega arith

pub count_next : (i : ℕ) → half_count (i + 1) ≡ half_count i + (i + 1)
count_next i = omega arith

count_up : {m n : ℕ} → m ≤ n → half_count m ≤ half_count n
count_up {m} {n} l = let h : m * (m + 1) ≤ n * (n + 1) = mul-le-mul l (omega arith) in omega (arith, h)

pub count_few : {n : ℕ} → n ≤ 32 → half_count n ≤ 528
count_few l = count_up l

-- the larger and the smaller of two
max_left : {i j : ℕ} → j ≤ i → max i j ≡ i
max_left l = omega arith

max_right : {i j : ℕ} → i ≤ j → max i j ≡ j
max_right l = omega arith

min_left : {i j : ℕ} → i ≤ j → min i j ≡ i
min_left l = omega arith

min_right : {i j : ℕ} → j ≤ i → min i j ≡ j
min_right l = omega arith

pub place_lower : {i j : ℕ} → j ≤ i → half_place i j ≡ lower_place i j
unfolding half_place
place_lower l = rw (max_left l, min_right l)

place_upper : {i j : ℕ} → i ≤ j → half_place i j ≡ lower_place j i
unfolding half_place
place_upper l = rw (max_right l, min_left l)

pub place_swap : (i j : ℕ) → half_place i j ≡ half_place j i
place_swap i j = go (dec_le i j)
  where
    go : Dec (i ≤ j) → half_place i j ≡ half_place j i
    go (yes l) = place_upper l ∙ sym (place_lower l)
    go (no h) = let l : j ≤ i = omega arith in place_lower l ∙ sym (place_upper l)

pub place_left : {i j : ℕ} → j < i → half_place i (j + 1) ≡ half_place i j + 1
place_left {i} {j} l =
    let a : half_place i (j + 1) ≡ lower_place i (j + 1) = place_lower (omega arith) in
    let b : half_place i j ≡ lower_place i j = place_lower (omega arith) in omega (arith, a, b)

pub place_right : {i j : ℕ} → i ≤ j → half_place i (j + 1) ≡ half_place i j + (j + 1)
place_right {i} {j} l =
    let a : half_place i (j + 1) ≡ lower_place (j + 1) i = place_upper (omega arith) in
    let b : half_place i j ≡ lower_place j i = place_upper l in omega (arith, a, b, count_next j)

lower_below : {i j n : ℕ} → j ≤ i → i < n → lower_place i j < half_count n
lower_below {i} {j} {n} l h = let m : i + 1 ≤ n = omega arith in omega (arith, count_next i, count_up m)

pub place_below : {i j n : ℕ} → i < n → j < n → half_place i j < half_count n
place_below {i} {j} {n} li lj = go (dec_le i j)
  where
    go : Dec (i ≤ j) → half_place i j < half_count n
    go (yes l) = rw (place_upper l) (lower_below l lj)
    go (no h) = let l : j ≤ i = omega arith in rw (place_lower l) (lower_below l li)

pub place_from_one : (i j : ℕ) → j ≤ i → half_place i j + 1 ≡ (i + 1) * ((i + 1) - 1) / 2 + (j + 1)
place_from_one i j l =
    let e : (i + 1) - 1 ≡ i = omega arith in
    let p : half_place i j ≡ lower_place i j = place_lower l in rw e (omega (arith, p))
