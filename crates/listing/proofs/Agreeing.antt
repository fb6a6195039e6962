-- Two complete files whose problems agree: n, s and t are the same, and so is every number that is used.
--   answers_agree, listings_agree — what is said of them, and their listings, are equal
use mathlib.Core.List.{List}
use mathlib.Core.Path.{◌≡◌, sym, ap, ap₂, ◌∙◌}
use Prim.Native.Nat.{ℕ}
use Rattle.enclosure.specs.Problem.{Problem}
use Rattle.enclosure.proofs.Agreement.{Agreeing, over}
use Rattle.check_spec.specs.Order.{checked_of}
use Rattle.check_spec.proofs.Agreement.{checked_same}
use Rattle.listing_refusal.specs.Refused.{printed}
use Rattle.file_check.specs.Judged.{reported_of, line_or}
use Rattle.file_check.proofs.Agreed.{reported_same}
use Rattle.listing.specs.Listing.{problem_in, answer_of, listing_of}
use Rattle.listing.specs.Complete.{Complete}
use Rattle.listing.proofs.Entire.{answer_judged}

-- the second problem is its own with n, s and t of the first
module _ (file file' : List ℕ) (c : Complete file) (c' : Complete file') (same : over (problem_in file) (problem_in file') ≡ problem_in file')
    (agreeing : Agreeing (problem_in file) (problem_in file')) where
  abbrev P : Problem
  P = problem_in file

  abbrev Q : Problem
  Q = problem_in file'

  checked_equal : checked_of P ≡ checked_of Q
  checked_equal = checked_same P Q agreeing ∙ ap checked_of same

  reported_equal : reported_of P ≡ reported_of Q
  reported_equal = reported_same P Q agreeing ∙ ap reported_of same

  pub answers_agree : answer_of file ≡ answer_of file'
  answers_agree = answer_judged file c.lines c.end ∙ ap (printed 0) checked_equal ∙ sym (answer_judged file' c'.lines c'.end)

  pub listings_agree : listing_of file ≡ listing_of file'
  unfolding listing_of
  listings_agree = ap₂ line_or answers_agree reported_equal
