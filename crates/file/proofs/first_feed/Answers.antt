use mathlib.Core.Path.{◌≡◌, ◌∙◌}
use native.Mathlib.Omega.{arith}
use Rattle.std.proofs.Common.{rules}
use Rattle.std.proofs.iter.runs.Made.{chains}
use Rattle.loader_runs.specs.Length.{line_length}
use Rattle.loader_runs.proofs.Lines.{length_most}
use Rattle.file.proofs.Feeds.{first_feed_is}
use Rattle.file.proofs.first_feed.Goals as goal

pub returns : goal.returns
returns c =
    let found : c.unwrap_or.result ≡ line_length c.args.bytes.now = c.unwrap_or.ensures ∙ first_feed_is c.position.result c.args.bytes.now (search (rules, chains)) in
    (found, omega (arith, found, length_most c.args.bytes.now))
