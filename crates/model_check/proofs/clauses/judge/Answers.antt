use Rattle.std.proofs.Common.{refl}
use Rattle.std.proofs.lemmas.Result.{err_from_is_err_and}
use Rattle.model_check.proofs.clauses.judge.Goals as goal

pub returns-clause-whole : goal.returns-clause-whole
returns-clause-whole g c =
    let read = c.in_ok-summary.ensures.whole in
    record {
      formula = read.clauses;
      whole = read.whole;
      notes = read.notes;
      noted = read.noted;
      shown = read.holds.1;
      lacks = rw (c.cut_of.ensures, read.header, read.number) refl;
    }

pub returns-in_err-summary-clause-fault : goal.returns-in_err-summary-clause-fault
returns-in_err-summary-clause-fault g c =
    let p = err_from_is_err_and c.from_residual.result c.from_residual.ensures.1 in
    rw (p.1, p.2) c.in_err-summary.ensures.fault
