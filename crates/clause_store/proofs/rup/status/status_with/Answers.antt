use Rattle.std.proofs.Common.{◌≡◌, false, true, sym}
use Rattle.std.specs.Option.{is_some}
use Rattle.clause_store.specs.Units.{lit_value}
use Rattle.clause_store.proofs.StatusLemmas.{status_of-satisfied, status_of-two, status_of-unit}
use Rattle.clause_store.proofs.rup.status.status_with.Goals as goal
use Rattle.clause_store.proofs.rup.status.status_with.Goals.{then-is_some-via-else-is_some+then-not-are_false, then-is_some-via-then-is_some}

pub returns-then-is_some : goal.returns-then-is_some
returns-then-is_some c =
    let us = c.args.units.now in
    elim c.then-is_some.branch [
      | then-is_some-via-then-is_some w ↦
          let h : is_some (lit_value us c.args.lit) ≡ true = cc in sym (status_of-satisfied us _ _ c.requires.not_false h)
      | then-is_some-via-else-is_some+then-not-are_false w ↦
          let h : is_some (lit_value us c.args.lit) ≡ false = cc in sym (status_of-two us _ c.args.others.now h cc)
    ]

pub returns : goal.returns
returns c = let h : is_some (lit_value c.args.units.now c.args.lit) ≡ false = cc in sym (status_of-unit c.args.units.now _ c.args.others.now h cc)
