-- The forms of a line (01: "The file") over whole numbers of any size: eight words, of which right has two forms (02, Paper 5: "The form (right i (b d)) gives
-- a tolerance d of 0 to 2^20; (right i b) means d = 0").
--   bytes t     — the bytes of an ASCII text
--   Form        — a form; a list is its first number and the others, so it has one number or more
use Rattle.std.specs.Prelude.{List, [], ◌∷◌, ℕ, ℤ}
use Prim.Native.Char.{code}
use Prim.Native.String.{String, [] as empty, ◌∷◌ as ◌then◌}

abbrev pub bytes : String → List ℕ
bytes empty = []
bytes (c then t) = code c ∷ bytes t

pub data Form : Type 0 where
  problem : (n : ℤ) → Form
  scale : (s t : ℤ) → Form
  row : (i a : ℤ) (others : List ℤ) → Form
  right : (i b : ℤ) → Form
  right_within : (i b d : ℤ) → Form
  guess : (i x : ℤ) → Form
  inverse : (i g : ℤ) (others : List ℤ) → Form
  weight : (i w : ℤ) → Form
  end : Form
