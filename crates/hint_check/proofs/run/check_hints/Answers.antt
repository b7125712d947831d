use Rattle.sat_rules.specs.HintLines.{listing}
use Rattle.hint_check.proofs.RunLemmas.{accepted_hints, no_memory, refused_hints, unread_hints}
use Rattle.hint_check.proofs.run.check_hints.Goals as goal

pub returns-in-Ok-check_proof : goal.returns-in-Ok-check_proof
returns-in-Ok-check_proof g c =
    rw c.of.ensures
    (accepted_hints c.args.ids (g.H.Read.remaining c.args.hints) c.args.formula c.len-clauses.result c.in-Ok-check_proof.refuted c.len-clauses.ensures
    (c.in-Ok-check_proof.ensures.accepted (listing c.args.formula) c.in-Ok.ensures.ok))

pub returns-in-Err-Refused : goal.returns-in-Err-Refused
returns-in-Err-Refused g c =
    let refused = rw c.in-Err-Refused.field-0-is at (c.in-Err-Refused.ensures.refused (listing c.args.formula) c.in-Ok.ensures.ok) in
    refused_hints c.args.ids (g.H.Read.remaining c.args.hints) c.args.formula c.len-clauses.result c.in-Err-Refused.fault c.len-clauses.ensures refused

pub returns-in-Err-Read : goal.returns-in-Err-Read
returns-in-Err-Read g c = unread_hints c.args.ids (g.H.Read.remaining c.args.hints) c.args.formula c.in-Err-Read.fault c.unread.result c.unread.ensures

pub returns-in-Err : goal.returns-in-Err
returns-in-Err g c = no_memory c.args.ids (g.H.Read.remaining c.args.hints) c.args.formula c.in-Err.fault c.in-Err.ensures.err
