-- Two inputs whose lists are long enough and agree on the places used: they are answered alike (proofs/Agreed), so the rest of each
-- list is not read.
use Rattle.std.specs.Prelude.{false, ◌≡◌, ℕ, ◌*◌, ◌<◌}
use Rattle.linear.specs.Slice.{at}
use Rattle.check_spec.specs.Input.{Input, short}

pub record Agree (I J : Input) : Type 0 where
  pub n : I.n ≡ J.n
  pub s : I.s ≡ J.s
  pub t : I.t ≡ J.t
  pub long : short I ≡ false
  pub long' : short J ≡ false
  pub matrix : (k : ℕ) → k < I.n * I.n → at I.matrix k ≡ at J.matrix k
  pub right : (k : ℕ) → k < I.n → at I.right k ≡ at J.right k
  pub tolerance : (k : ℕ) → k < I.n → at I.tolerance k ≡ at J.tolerance k
  pub guess : (k : ℕ) → k < I.n → at I.guess k ≡ at J.guess k
  pub inverse : (k : ℕ) → k < I.n * I.n → at I.inverse k ≡ at J.inverse k
  pub weights : (k : ℕ) → k < I.n → at I.weights k ≡ at J.weights k
