-- Laws of the tests of a field line.
--   same_tested — whether two whole numbers are equal, as a derived comparison tests it
--   contents_tested — what the code tests of two lines
use mathlib.Core.Path.{◌≡◌, refl}
use mathlib.Core.Bool.{Bool, true, false, ◌&&◌}
use borrow.Author.Tests.{eq-eqb}
use lib.Dec.{eqb}
use lib.IntN.{ℤ}
use mir.Syntax.{w64}
use mir.Val.{SFits, to_z, of_z}
use mir.ValLaws.{to_z-of_z}
use Rattle.std.specs.Ordering.{int_eq}
use Rattle.std.proofs.lemmas.Bool.Decides.{Decides-int_eq}
use Rattle.integer.specs.Same.{same_number}
use Rattle.integer.proofs.Same.{same_number_lem, number_same}
use Rattle.build_lines.specs.declared.Observation.{Observation}
use Rattle.build_lines.specs.Line.{same_contents}

pub same_tested : (a b : ℤ) → int_eq a b ≡ same_number a b
same_tested a b = go (int_eq a b) refl (same_number a b) refl
  where
    go : (x : Bool) → int_eq a b ≡ x → (y : Bool) → same_number a b ≡ y → x ≡ y
    go true p true q = refl
    go false p false q = refl
    go true p false q = let e = (Decides-int_eq a b).0 p in let s : same_number a b ≡ true = rw e (number_same b) in cc
    go false p true q = let s = (Decides-int_eq a b).1 (same_number_lem a b q) in cc

pub contents_tested : (a b : Observation) → SFits w64 a.difference →
    eqb b.key b.key && (eqb a.«from» b.«from» && (eqb a.to b.to && (int_eq (to_z w64 (of_z w64 a.difference)) b.difference && eqb a.weight b.weight)))
    ≡ same_contents a b
unfolding same_contents
contents_tested a b f = rw (eq-eqb b.key b.key refl, to_z-of_z w64 a.difference f, same_tested a.difference b.difference)
