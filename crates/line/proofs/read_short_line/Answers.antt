use Rattle.std.proofs.Common.{◌≡◌, ◌∙◌}
use Rattle.line_numeral.specs.Numeral.{number_at}
use Rattle.line_numeral.specs.Capped.{capped_number}
use Rattle.line_form.specs.Form.{bytes}
use Rattle.line_form.specs.ListAt.{listed_at}
use Rattle.line_form.specs.Reading.{word_at, head_at}
use Rattle.line_parts.specs.Parts.{kind_of}
use Rattle.line_parts.proofs.Whole.{line_read}
use Rattle.line.proofs.read_short_line.Goals as goal

pub returns : goal.returns
returns c =
    let s = c.args.line.now in
    let head : c.head-head.result ≡ head_at s 0 = rw (c.new-reader.ensures.0, c.new-reader.ensures.1) at c.head-head.ensures in
    let first : c.number-first.result ≡ capped_number (number_at s c.head-head.result.next) = rw (c.moved.ensures.0, c.moved.ensures.1, c.new-reader.ensures.0) at c.number-first.ensures in
    let second : c.number-second.result ≡ capped_number (number_at s c.after_space.result) = rw (c.moved-2.ensures.0, c.moved-2.ensures.1, c.new-reader.ensures.0) at c.number-second.ensures in
    let list : c.list-list.result ≡ listed_at (kind_of c.head-head.result.word) s c.after_bracket.result = rw (c.moved-3.ensures.0, c.moved-3.ensures.1, c.new-reader.ensures.0) at c.list-list.ensures in
    let end : c.close-end.result ≡ word_at s c.last_at-last.result (bytes ")") = rw (c.moved-4.ensures.0, c.moved-4.ensures.1, c.new-reader.ensures.0) at c.close-end.ensures in
    c.decide.ensures ∙ line_read s head first c.after_space.ensures second c.after_bracket.ensures list c.last_at-last.ensures end
