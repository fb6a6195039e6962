-- Laws of a report's rows, from what its lists are known to be.
--   guess_small, guess_read — a guess fits, and is read back as itself
--   block_line_lem — a block's line, by the block
--   entry_magnitude — V fits
use mathlib.Core.Path.{◌≡◌}
use mathlib.Core.List.{List}
use Prim.Native.Nat.{ℕ, suc, ◌+◌, ◌*◌, ◌/◌, ◌≤◌, ◌<◌, ◌^◌}
use native.Mathlib.Nat.{pow-le-pow_right, div-le_self}
use native.Mathlib.Omega.{arith}
use lib.IntN.{ℤ, pos, negsuc, nat_abs}
use mir.Syntax.{w64}
use mir.Val.{to_z, of_z}
use Rattle.integer.specs.Quotient.{round_div}
use Rattle.integer.proofs.Absolute.{abs_neg}
use Rattle.integer.proofs.Machine.{small, read}
use Rattle.linear.specs.Slice.{at}
use Rattle.listing_text.specs.Wrote.{Wrote}
use Rattle.listing_report.specs.declared.Block.{Block}
use Rattle.listing_report.specs.Ready.{Reportable, block_line, most_of}

module _ {n s : ℕ} {X : List ℤ} {E L : List ℕ} (ready : Reportable n s X E L) where
  pub guess_small : {i : ℕ} → i < n → nat_abs (at X i) < 2 ^ 63
  guess_small {i} l = omega (arith, ready.guess i l)

  pub guess_read : {i : ℕ} → i < n → to_z w64 (of_z w64 (at X i)) ≡ at X i
  guess_read {i} l = read (at X i) (small (at X i) (guess_small l)).sfits

  pub block_line_lem : {o p : List ℕ} {from end : ℕ} (i : ℕ) (b : Block) {block : Block} → block ≡ b → Wrote (most_of b) o from (block_line b n s X E L i) p end →
      Wrote (most_of block) o from (block_line block n s X E L i) p end
  block_line_lem {o} {p} {from} {end} i b e x = rw e x

-- ---- magnitudes
pub entry_magnitude : (x : ℤ) (s : ℕ) → nat_abs x ≤ 2 ^ 36 → s ≤ 20 → nat_abs (round_div x (2 ^ s)) < 2 ^ 63
unfolding round_div
entry_magnitude (pos a) s h l =
    omega (arith, pow-le-pow_right {n = 2} (omega arith) {i = s} {j = 20} l, div-le_self (2 * a + 2 ^ s) (2 * 2 ^ s))
entry_magnitude (negsuc a) s h l =
    rw (abs_neg (pos ((2 * suc a + 2 ^ s) / (2 * 2 ^ s))))
    (omega (arith, pow-le-pow_right {n = 2} (omega arith) {i = s} {j = 20} l, div-le_self (2 * suc a + 2 ^ s) (2 * 2 ^ s)))
