-- Heights with their limits, and the bits of their two ends: rows of a table that one theorem covers (proofs/Table).
--   IntervalRow, interval_row — s, the guess, the limit, and the bits of low and high
--   interval_rows_hold rows — each row is as it says;  interval_rows — the table
use Rattle.std.specs.Prelude.{Bool, true, ◌&&◌, List, [], ◌∷◌, ℕ, ◌^◌, eqb, ℤ, pos, negsuc}
use Rattle.std.specs.Float.{binary64}
use Rattle.std.specs.Float.Ieee.{to_bits}
use Rattle.doubles_interval.specs.Interval.{interval_of}

pub record IntervalRow : Type 0 where
  pub s : ℕ
  pub guess : ℤ
  pub limit : ℕ
  pub low : ℕ
  pub high : ℕ

abbrev pub interval_row : ℕ → ℤ → ℕ → ℕ → ℕ → IntervalRow
interval_row s guess limit low high = record { s = s; guess = guess; limit = limit; low = low; high = high }

abbrev pub interval_rows_hold : List IntervalRow → Bool
interval_rows_hold [] = true
interval_rows_hold (r ∷ rs) =
    let v = interval_of r.s r.guess r.limit in
    eqb (to_bits binary64 v.low) r.low && (eqb (to_bits binary64 v.high) r.high && interval_rows_hold rs)

unfoldable pub interval_rows : List IntervalRow
interval_rows =
    interval_row 0 (pos 0) 0 0 0  -- plus zero
    ∷ interval_row 0 (pos 1) 1 0 4611686018427387904  -- 0 and 2
    ∷ interval_row 0 (negsuc 0) 1 13835058055282163712 0  -- -2 and plus zero
    ∷ interval_row 20 (pos (2 ^ 36)) 0 4679240012837945344 4679240012837945344  -- 65536, exactly
    ∷ interval_row 20 (pos 1) 0 4517110426252607488 4517110426252607488  -- 2^-20, exactly
    ∷ interval_row 0 (pos 1) (2 ^ 53) 14069245235905429503 4845873199050653697  -- 1 - 2^53, and 2^53 + 2 for 2^53 + 1
    ∷ interval_row 0 (negsuc 0) (2 ^ 53) 14069245235905429505 4845873199050653695  -- -2^53 - 2 for -2^53 - 1, and 2^53 - 1
    ∷ interval_row 0 (pos 1) (2 ^ 60) 14100770433297022976 4877398396442247169  -- -2^60 for 1 - 2^60, and 2^60 + 256 for 2^60 + 1
    ∷ []
