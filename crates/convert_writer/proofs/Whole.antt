-- The whole new file, from its parts one after another.
--   rest_written — the lines of each part, and the end
--   file_written — problem, scale, and these
use mathlib.Core.Path.{◌≡◌, sym}
use mathlib.Core.List.{List}
use Prim.Native.Nat.{ℕ, ◌*◌, ◌≤◌}
use native.Mathlib.Omega.{arith}
use lib.IntN.{pos}
use Rattle.line_form.specs.Form.{bytes, problem, scale}
use Rattle.loader_values.specs.declared.Part.{Part}
use Rattle.loader_values.specs.declared.Part.TheVariants.{Row, Right, Guess, Inverse, Weight}
use Rattle.listing_text.specs.Wrote.{Wrote}
use Rattle.listing_text.proofs.Wrote.{then, wider, called}
use Rattle.file.specs.declared.Collected.{Collected}
use Rattle.convert_spec.specs.File.{old_file}
use Rattle.convert_writer.specs.Written.{held_by, form_line, part_lines, rest_of, most_for}
use Rattle.convert_writer.proofs.Each.{file_each, end_line}

module _ (d : Collected) where
  abbrev n : ℕ
  n = d.loader.n

  -- the lines of a part were written
  abbrev Lines : Part → List ℕ → ℕ → List ℕ → ℕ → Type 0
  Lines p old at new end = Wrote (n * most_for p) old at (part_lines (held_by d) p) new end

  pub rest_written : n ≤ 32 → {b r g x v w z : List ℕ} {jb jr jg jx jv jw jz : ℕ}
      → Lines Row b jb r jr → Lines Right r jr g jg → Lines Guess g jg x jx → Lines Inverse x jx v jv → Lines Weight v jv w jw → Wrote 6 w jw (bytes "(end)\n") z jz
      → Wrote 21318 b jb (rest_of (held_by d)) z jz
  rest_written n_max h3 h4 h5 h6 h7 h8 = wider 21318 (omega (arith, n_max)) (then h3 (then h4 (then h5 (then h6 (then h7 (called end_line h8))))))

  pub file_written : {k s t : ℕ} {o a b z : List ℕ} {ja jb jz : ℕ} → k ≡ n → s ≡ d.loader.s → t ≡ d.loader.t → Wrote 31 o 0 (form_line (problem (pos k))) a ja
      → Wrote 50 a ja (form_line (scale (pos s) (pos t))) b jb → Wrote 21318 b jb (rest_of (held_by d)) z jz → Wrote 32768 o 0 (old_file (held_by d)) z jz
  file_written en es et h1 h2 h3 = wider 32768 (omega arith) (called (sym (file_each (held_by d))) (then (rw en at h1) (then (rw (es, et) at h2) h3)))
