use mathlib.Core.Path.{ap, ◌∙◌}
use Prim.Native.Nat.{ℕ, ◌<◌}
use native.Mathlib.Omega.{arith}
use lib.IntN.{nat_abs}
use Rattle.integer.proofs.Search.{first_past}
use Rattle.enclosure.specs.Sound.{Margins}
use Rattle.enclosure.specs.Reckoning.{margin, margin_fails}
use Rattle.quality_spec.specs.Peak.{spread}
use Rattle.quality_spec.specs.Inquiry.{Inquiry, inquiry, inquiry_problem}
use Rattle.quality_spec.proofs.Contract.{FitInquiry, fit_inquiry, quality_low, quality_given}
use Rattle.quality.proofs.Rows.{full_small, low_is, under, margin_is, above, spread_is, row_is}
use Rattle.quality.proofs.rate.Goals as goal
use Rattle.quality.proofs.rate.Goals.{After-margins_for-margins, After-peak_of-k, Else-low-n, Start}

abbrev Q : Start → Inquiry
Q s = let a = s.args in inquiry a.n a.t a.matrix.now a.inverse.now a.weights.now

fit : (s : Start) → FitInquiry (Q s)
fit s = fit_inquiry (Q s) s.requires.weights_value s.requires.weights_value_2

-- where no margin is 0
none-low : (c : Else-low-n) → Margins (inquiry_problem (Q (goal.at.Else-low-n c).Start))
none-low c =
    let m = (goal.at.Else-low-n c).After-margins_for-margins in
    let P = inquiry_problem (Q (goal.at.After-margins_for-margins m).Start) in
    first_past P.n (margin_fails P) (omega (arith, c.if-low-n.false, low_is (Q (goal.at.After-margins_for-margins m).Start) m.margins_for-margins.ensures c.first_zero-low.ensures))

row_small : (c : After-peak_of-k) → c.peak_of-k.result < 32
row_small c = omega (arith, c.peak_of-k.ensures.0, (fit (goal.at.After-peak_of-k c).Start).n_max)

pub first_zero-low-requires : goal.first_zero-low-requires
first_zero-low-requires c = (fit (goal.at.first_zero-low-requires c).Start).n_max

pub overflow_cast-result : goal.overflow_cast-result
overflow_cast-result c = record { fits = omega (arith, c.if-low-n.true, (fit (goal.at.overflow_cast-result c).Start).n_max) }

pub overflow_add-result : goal.overflow_add-result
overflow_add-result c = record { fits = omega (arith, c.if-low-n.true, (fit (goal.at.overflow_add-result c).Start).n_max) }

pub returns-then-low-n : goal.returns-then-low-n
returns-then-low-n c =
    let m = (goal.at.returns-then-low-n c).After-margins_for-margins in
    let s = (goal.at.returns-then-low-n c).Start in
    quality_low (Q (goal.at.returns-then-low-n c).Start) s.requires.weights_value s.requires.weights_value_2 _ (low_is (Q (goal.at.returns-then-low-n c).Start) m.margins_for-margins.ensures c.first_zero-low.ensures) c.if-low-n.true

pub offset_bounds-spreads-k : goal.offset_bounds-spreads-k
offset_bounds-spreads-k c = record { fits = omega (arith, row_small c) }

pub bounds-spreads-k : goal.bounds-spreads-k
bounds-spreads-k c = row_small c

pub offset_bounds-margins-k : goal.offset_bounds-margins-k
offset_bounds-margins-k c = record { fits = omega (arith, row_small c) }

pub bounds-margins-k : goal.bounds-margins-k
bounds-margins-k c = row_small c

pub returns : goal.returns
returns c =
    let i = (goal.at.returns c).Else-low-n in
    let m = (goal.at.returns c).After-margins_for-margins in
    let s = (goal.at.returns c).Start in
    let P = inquiry_problem (Q (goal.at.returns c).Start) in
    let h = none-low (goal.at.returns c).Else-low-n in
    let hm = m.margins_for-margins.ensures in
    let hs = c.spreads_of-spreads.ensures in
    let l = c.peak_of-k.ensures.0 in
    let row = c.peak_of-k.ensures.1 ∙ row_is (Q (goal.at.returns c).Start) hm h hs in
    quality_given (Q (goal.at.returns c).Start) s.requires.weights_value s.requires.weights_value_2 _ (low_is (Q (goal.at.returns c).Start) hm i.first_zero-low.ensures) i.if-low-n.false
    (spread_is (Q (goal.at.returns c).Start) hm h hs _ l ∙ ap (spread P) row)
    (margin_is (Q (goal.at.returns c).Start) hm h _ l ∙ ap (λ (k : ℕ). nat_abs (margin P k)) row)

pub margins_for-margins-requires-clause-t_bound : goal.margins_for-margins-requires-clause-t_bound
margins_for-margins-requires-clause-t_bound c = let f = fit c in (f.scale, f.n_max)

pub margins_for-margins-requires-clause-matrix_list_2 : goal.margins_for-margins-requires-clause-matrix_list_2
margins_for-margins-requires-clause-matrix_list_2 c = let f = fit c in f.inverse

pub margins_for-margins-requires-clause-matrix_list : goal.margins_for-margins-requires-clause-matrix_list
margins_for-margins-requires-clause-matrix_list c = let f = fit c in f.matrix

pub margins_for-margins-requires-clause-column_list : goal.margins_for-margins-requires-clause-column_list
margins_for-margins-requires-clause-column_list c = let f = fit c in f.weights

pub spreads_of-spreads-requires-clause-t_bound : goal.spreads_of-spreads-requires-clause-t_bound
spreads_of-spreads-requires-clause-t_bound c = let m = (goal.at.spreads_of-spreads-requires-clause-t_bound c).After-margins_for-margins in let f = fit (goal.at.spreads_of-spreads-requires-clause-t_bound c).Start in (f.scale, f.n_max)

pub spreads_of-spreads-requires-clause-column_list : goal.spreads_of-spreads-requires-clause-column_list
spreads_of-spreads-requires-clause-column_list c = let m = (goal.at.spreads_of-spreads-requires-clause-column_list c).After-margins_for-margins in let f = fit (goal.at.spreads_of-spreads-requires-clause-column_list c).Start in f.weights

pub peak_of-k-requires-clause-by_index_2 : goal.peak_of-k-requires-clause-by_index_2
peak_of-k-requires-clause-by_index_2 c = let i = (goal.at.peak_of-k-requires-clause-by_index_2 c).Else-low-n in let m = (goal.at.peak_of-k-requires-clause-by_index_2 c).After-margins_for-margins in let s = (goal.at.peak_of-k-requires-clause-by_index_2 c).Start in let f = fit (goal.at.peak_of-k-requires-clause-by_index_2 c).Start in λ k l. (above (Q (goal.at.peak_of-k-requires-clause-by_index_2 c).Start) m.margins_for-margins.ensures (none-low (goal.at.peak_of-k-requires-clause-by_index_2 c).Else-low-n) k l, omega (arith, full_small (Q (goal.at.peak_of-k-requires-clause-by_index_2 c).Start) f k l, under (Q (goal.at.peak_of-k-requires-clause-by_index_2 c).Start) m.margins_for-margins.ensures k l))

pub peak_of-k-requires-clause-by_index : goal.peak_of-k-requires-clause-by_index
peak_of-k-requires-clause-by_index c = let i = (goal.at.peak_of-k-requires-clause-by_index c).Else-low-n in let m = (goal.at.peak_of-k-requires-clause-by_index c).After-margins_for-margins in let s = (goal.at.peak_of-k-requires-clause-by_index c).Start in let f = fit (goal.at.peak_of-k-requires-clause-by_index c).Start in λ k l. omega (arith, full_small (Q (goal.at.peak_of-k-requires-clause-by_index c).Start) f k l, c.spreads_of-spreads.ensures.each k l)

pub peak_of-k-requires-clause-n_nonzero : goal.peak_of-k-requires-clause-n_nonzero
peak_of-k-requires-clause-n_nonzero c = let i = (goal.at.peak_of-k-requires-clause-n_nonzero c).Else-low-n in let m = (goal.at.peak_of-k-requires-clause-n_nonzero c).After-margins_for-margins in let s = (goal.at.peak_of-k-requires-clause-n_nonzero c).Start in let f = fit (goal.at.peak_of-k-requires-clause-n_nonzero c).Start in (f.n_pos, f.n_max)
