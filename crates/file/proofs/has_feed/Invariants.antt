use Rattle.file.specs.Feeds.{FeedWithin}
use Rattle.file.proofs.has_feed.Given as goal

abbrev pub invariant-loop-byte : goal.invariant-loop-byte
invariant-loop-byte l = FeedWithin l.file l.at l.byte-index l.found
