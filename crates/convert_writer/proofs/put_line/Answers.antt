use Prim.Native.Nat.{◌<◌}
use native.Mathlib.Omega.{arith}
use Rattle.loader_values.specs.declared.Part.TheVariants.{Row, Right, Guess, Inverse, Weight}
use Rattle.convert_writer.proofs.Held.{matrix_small, inverse_small, right_small, guess_small, weight_small, small_read, line_of, row_text_lem, right_text, guess_text, inverse_text, weight_text}
use Rattle.convert_writer.proofs.put_line.Goals as goal
use Rattle.convert_writer.proofs.put_line.Goals.{In-Guess, In-Inverse, In-Right, In-Row, In-Weight, Start}

-- the line is one of the net's
inside : (s : Start) → s.args.i < s.args.c.now.loader.n
inside s = rw s.requires.n_value.0 at s.requires.n_value.1.1.0

pub put_value-requires : goal.put_value-requires
put_value-requires c =
    let s = (goal.at.put_value-requires c).Start in
    let h = right_small s.args.c.now s.requires.in_range s.args.i (inside (goal.at.put_value-requires c).Start) in
    (omega arith, (rw (small_read _ h) h, omega (arith, s.requires.n_value.1.1.1)))

pub put_value-requires-in-Guess : goal.put_value-requires-in-Guess
put_value-requires-in-Guess c =
    let s = (goal.at.put_value-requires-in-Guess c).Start in
    let h = guess_small s.args.c.now s.requires.in_range s.args.i (inside (goal.at.put_value-requires-in-Guess c).Start) in
    (omega arith, (rw (small_read _ h) h, omega (arith, s.requires.n_value.1.1.1)))

pub put_value-requires-in-Weight : goal.put_value-requires-in-Weight
put_value-requires-in-Weight c =
    let s = (goal.at.put_value-requires-in-Weight c).Start in
    let h = weight_small s.args.c.now s.requires.in_range s.args.i (inside (goal.at.put_value-requires-in-Weight c).Start) in
    (omega arith, (rw (small_read _ h) h, omega (arith, s.requires.n_value.1.1.1)))

pub returns-in-Row : goal.returns-in-Row
returns-in-Row c =
    let status = (goal.at.returns-in-Row c).In-Row in
    let s = (goal.at.returns-in-Row c).Start in
    let e = s.requires.n_value.0 in
    let l = inside (goal.at.returns-in-Row c).Start in
    line_of s.args.c.now s.requires.in_range s.args.i l Row c.in-Row.is (row_text_lem s.args.c.now s.requires.in_range s.args.i) (rw e at c.put_list.ensures)

pub returns-in-Right : goal.returns-in-Right
returns-in-Right c =
    let status = (goal.at.returns-in-Right c).In-Right in
    let s = (goal.at.returns-in-Right c).Start in
    let l = inside (goal.at.returns-in-Right c).Start in
    let h = right_small s.args.c.now s.requires.in_range s.args.i l in
    line_of s.args.c.now s.requires.in_range s.args.i l Right status.in-Right.is (right_text s.args.c.now s.requires.in_range s.args.i) (rw (small_read _ h) at c.put_value.ensures)

pub returns-in-Guess : goal.returns-in-Guess
returns-in-Guess c =
    let status = (goal.at.returns-in-Guess c).In-Guess in
    let s = (goal.at.returns-in-Guess c).Start in
    let l = inside (goal.at.returns-in-Guess c).Start in
    let h = guess_small s.args.c.now s.requires.in_range s.args.i l in
    line_of s.args.c.now s.requires.in_range s.args.i l Guess status.in-Guess.is (guess_text s.args.c.now s.requires.in_range s.args.i) (rw (small_read _ h) at c.put_value-in-Guess.ensures)

pub returns-in-Inverse : goal.returns-in-Inverse
returns-in-Inverse c =
    let status = (goal.at.returns-in-Inverse c).In-Inverse in
    let s = (goal.at.returns-in-Inverse c).Start in
    let e = s.requires.n_value.0 in
    let l = inside (goal.at.returns-in-Inverse c).Start in
    line_of s.args.c.now s.requires.in_range s.args.i l Inverse status.in-Inverse.is (inverse_text s.args.c.now s.requires.in_range s.args.i) (rw e at c.put_list-in-Inverse.ensures)

pub returns-in-Weight : goal.returns-in-Weight
returns-in-Weight c =
    let status = (goal.at.returns-in-Weight c).In-Weight in
    let s = (goal.at.returns-in-Weight c).Start in
    let l = inside (goal.at.returns-in-Weight c).Start in
    let h = weight_small s.args.c.now s.requires.in_range s.args.i l in
    line_of s.args.c.now s.requires.in_range s.args.i l Weight status.in-Weight.is (weight_text s.args.c.now s.requires.in_range s.args.i l) (rw (small_read _ h) at c.put_value-in-Weight.ensures)

pub put_list-requires-clause-fit : goal.put_list-requires-clause-fit
put_list-requires-clause-fit c =
    let s = (goal.at.put_list-requires-clause-fit c).Start in
    rw s.requires.n_value.0 (matrix_small s.args.c.now s.requires.in_range s.args.i (inside s))

pub put_list-requires-in-Inverse-clause-fit : goal.put_list-requires-in-Inverse-clause-fit
put_list-requires-in-Inverse-clause-fit c =
    let s = (goal.at.put_list-requires-in-Inverse-clause-fit c).Start in
    rw s.requires.n_value.0 (inverse_small s.args.c.now s.requires.in_range s.args.i (inside s))
