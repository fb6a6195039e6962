-- What the exported converter says and leaves.
--   ConvertExported — the contract of `kodarfi_convert`: the number and the count of an answer that `ConvertedAs`, the contract of `converter::convert`, holds
--                     of, with the buffer as there; the new file's length where it is written, and what was there before where the call is refused
--   refused_line file — the number, from 1, of the first line that the loader refuses; 0 where it refuses none
--   ConvertLineExported — the contract of `kodarfi_convert_line`: that of `kodarfi_convert`, and this line
use Rattle.std.specs.Prelude.{List, ◌≡◌, ℕ}
use Rattle.rules.specs.Order.{if_accepted}
use Rattle.loader_runs.specs.Read.{reading_of}
use Rattle.convert_spec.specs.Converted.{Converted, convert_code, length_of, ConvertedAs}
use Rattle.reply.specs.ReplyIs.{ReplyIs}

pub record ConvertExported (file old : List ℕ) (old_written number : ℕ) (places new : List ℕ) (written : ℕ) : Type 0 where
  pub answer : Converted
  pub converted : ConvertedAs file old new answer
  pub status : ReplyIs (convert_code answer) number places
  pub written_is : written ≡ if_accepted (convert_code answer) (length_of answer) old_written

abbrev pub refused_line : List ℕ → ℕ
refused_line file = if_accepted (reading_of file).code 0 (reading_of file).line

pub record ConvertLineExported (file old : List ℕ) (old_written number : ℕ) (places new : List ℕ) (written line : ℕ) : Type 0 where
  pub exported : ConvertExported file old old_written number places new written
  pub line_is : line ≡ refused_line file
