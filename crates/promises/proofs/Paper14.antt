-- The theorems for specs/Paper14, a theorem for each statement.
use mathlib.Core.Path.{refl, sym, subst, ◌∙◌}
use lib.ListN.{length}
use Rattle.convert_spec.specs.File.{old_forms}
use Rattle.convert_spec.specs.Stated.{ConvertStated}
use Rattle.convert_spec.proofs.Promises.{old_desk, equal_checks, same_again, again, alike}
use Rattle.convert_spec.proofs.Stated.{convert_stated, stated_code}
use Rattle.promises.specs.Paper14 as paper
use Rattle.promises.specs.Ways.{Refused}
use Rattle.promises.proofs.Ways.{refused_old}

pub new_file_is : paper.NewFileIs
unfolding old_forms
new_file_is file = refl

pub new_file_written : paper.NewFileWritten
new_file_written file old new r x e = let z = sym x.says ∙ e in (rw (x.size, z) refl, rw (x.bytes, z) refl)

pub old_desk_reads : paper.OldDeskReads
old_desk_reads file old new r x e = old_desk file (length old) (sym x.says ∙ e)

pub checks_equal : paper.ChecksEqual
checks_equal file old new r x e = equal_checks file (length old) (sym x.says ∙ e)

pub converted_again : paper.ConvertedAgain
converted_again file old new old' new' r r' x e fits y =
    let z = sym x.says ∙ e in
    (y.says ∙ again file (length old) z (length old') fits, same_again file (length old) z)

pub equal_numbers_equal_bytes : paper.EqualNumbersEqualBytes
equal_numbers_equal_bytes file other old new old' new' r r' x e c z same fits y =
    let a = alike file (length old) (sym x.says ∙ e) (length old') fits other c z same in
    (y.says ∙ a.0, a.1)

pub convert_refuses_as_stated : paper.ConvertRefusesAsStated
convert_refuses_as_stated file old new r x w =
    (λ e. subst (ConvertStated file (length old)) (sym x.says ∙ e) (convert_stated file (length old)), λ y. x.says ∙ stated_code file (length old) y)

pub refused_conversion_leaves : paper.RefusedConversionLeaves
refused_conversion_leaves file old new r x h =
    let k : Refused _ = rw x.says at h in
    x.bytes ∙ refused_old _ _ _ k
