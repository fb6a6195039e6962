-- The theorems for specs/Exported, a theorem for each statement.
use mathlib.Core.Path.{refl, sym, ◌∙◌}
use Rattle.rules.specs.Refusal.{code}
use Rattle.listing.specs.Listing.{answer_of}
use Rattle.listing.proofs.Meaning.{bounds_begin}
use Rattle.file_stated.proofs.Stated.{file_exactly}
use Rattle.calls_spec.proofs.Half.{half_number, half_zero}
use Rattle.calls_spec.proofs.Loader.{take_refused}
use Rattle.calls_spec.proofs.LoaderListing.{turns_listing}
use Rattle.calls_spec.proofs.Meaning.{zero_code, zero_answer}
use Rattle.promises.specs.Exported as exported
use Rattle.promises.specs.Ways.{on_lists, through_loader, by_half, of_listing}
use Rattle.promises.proofs.Demands.{check_refuses_as_stated, through_refuses_as_stated}

pub check_status : exported.CheckStatus
check_status I number places E L x =
    (code x.outcome, ((check_refuses_as_stated I x.outcome E L x.checked (code x.outcome)).0 refl, x.status))

pub half_status : exported.HalfStatus
half_status H number places E L x = half_number x

pub through_status : exported.ThroughStatus
through_status s I number places E L x =
    (code x.outcome, ((through_refuses_as_stated s I x.outcome E L x.checked (code x.outcome)).0 refl, x.status))

pub listing_status : exported.ListingStatus
listing_status file old number places new count x = (answer_of file, ((file_exactly file (answer_of file)).0 refl, x.status))

pub check_zero_accepted : exported.CheckZeroAccepted
check_zero_accepted I number places E L x z =
    on_lists I x.outcome E L x.checked (zero_code x.outcome (sym x.status.number_is ∙ z))

pub half_zero_accepted : exported.HalfZeroAccepted
half_zero_accepted H number places E L x z = by_half H x.outcome E L x.checked (half_zero x z)

pub through_zero_accepted : exported.ThroughZeroAccepted
through_zero_accepted s I number places E L x z =
    through_loader s I x.outcome E L x.checked (zero_code x.outcome (sym x.status.number_is ∙ z))

pub listing_zero_accepted : exported.ListingZeroAccepted
listing_zero_accepted file old number places new count x z =
    of_listing file old new count x.listed (rw x.listed.bytes (bounds_begin file (zero_answer x z)))

pub refused_take_leaves : exported.RefusedTakeLeaves
refused_take_leaves w line l number places w' l' x h = take_refused x h

pub line_by_line_as_listing : exported.LineByLineAsListing
line_by_line_as_listing l long lines numbers w' l' t e file own E L column-long matrix-long number places E' L' x old listed shown new count y =
    turns_listing l long lines t e file own E L column-long matrix-long x y
