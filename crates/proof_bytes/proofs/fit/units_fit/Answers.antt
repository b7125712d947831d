use Rattle.std.proofs.Common.{◌∙◌, ◌^◌, ℕ, Bool, ltb, sym, ap, take_all, arith}
use Rattle.std.specs.List.{list_all}
use Rattle.std.proofs.lemmas.List.Folds.{list_all_at}
use Rattle.proof_bytes.proofs.Fitting.{units_fit_all}
use Rattle.proof_bytes.proofs.fit.units_fit.Goals as goal

abbrev fits : ℕ → ℕ × ℕ → Bool
fits width u = ltb u.1 (2 ^ width)

pub returns-then-not-fits_width : goal.returns-then-not-fits_width
returns-then-not-fits_width c =
    let unit = c.unit-item.result in
    let wide = ap (fits c.in-Bytes.width) (sym c.unit-item.is) ∙ sym c.fits_width.ensures ∙ c.if-not-fits_width.true in
    sym (units_fit_all c.args.format c.in-Bytes.width c.args.units.now c.in-Bytes.is ∙ list_all_at (fits c.in-Bytes.width) c.args.units.now c.items.unit-index unit c.items-test.true wide)

pub returns-after-items : goal.returns-after-items
returns-after-items c =
    let all = take_all c.items.unit-index c.args.units.now (omega arith) in
    sym (units_fit_all c.args.format c.in-Bytes.width c.args.units.now c.in-Bytes.is ∙ ap (list_all (fits c.in-Bytes.width)) (sym all) ∙ c.items.invariant)
