use Rattle.std.proofs.Common.{◌==◌}
use Rattle.lrat_to_proof.specs.Standing.{is_derived}
use Rattle.clause_table.specs.Named.{clause_of}
use Rattle.lrat_to_proof.proofs.HoldingLemmas.{entries_put, holding_ext}
use Rattle.lrat_to_proof.proofs.holding.Holding.put.Goals as goal

pub returns : goal.returns
returns c =
    let old = c.args.self.now in
    let lits = c.args.lits.now in
    let noted = c.in_ok-note_unit.ensures in
    holding_ext _ _ _ _ _ _
    (λ k. rw (c.in_ok-mark.ensures k, c.in_ok-put.ensures.put k, noted.clauses, noted.derived) (entries_put (k == c.args.id) c.args.derived (is_derived old k) lits (clause_of old.clauses k)))
    noted.units noted.refuted
