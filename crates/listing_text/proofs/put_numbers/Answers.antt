use Rattle.std.proofs.Common.{ℕ, ◌+◌, ◌++◌, slice_index_or, refl, ap, ◌∙◌, arith}
use Rattle.std.proofs.lemmas.List.{get_or_read_under}
use Rattle.listing_text.specs.Line.{gap}
use Rattle.listing_text.proofs.Each.{wrote_none, wrote_more}
use Rattle.listing_text.proofs.put_numbers.Goals as goal

pub loop-j-init : goal.loop-j-init
loop-j-init g c = record { same_length = refl; wrote = wrote_none 21 _ _ _ }

pub loop-j-preserved : goal.loop-j-preserved
loop-j-preserved g c =
    let l = c.loop-j in
    let values = c.args.values.now in
    let item = get_or_read_under values (c.args.start + l.j) _ _ g.T.Numeral.zero c.index-values-start.is (omega (arith, c.requires.room)) refl in
    record {
      same_length = c.put_item-index.auto.out ∙ l.invariant.same_length;
      wrote = wrote_more 21 l.j (λ (k : ℕ). gap k ++ g.T.Numeral.text (slice_index_or values (c.args.start + k) g.T.Numeral.zero)) l.invariant.wrote (ap (λ v. gap l.j ++ g.T.Numeral.text v) item) c.put_item-index.ensures;
    }
