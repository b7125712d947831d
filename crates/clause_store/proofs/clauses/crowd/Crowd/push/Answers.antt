use Rattle.std.proofs.Common.{◌∷◌, [], Some, ap, arith, ◌∙◌}
use Rattle.clause_store.specs.Crowds.{standing}
use Rattle.clause_store.proofs.CrowdLemmas.{pushed-counts, standing-append}
use Rattle.clause_store.proofs.clauses.crowd.Crowd.push.Goals as goal

pub returns : goal.returns
returns c = ap standing c.in_ok-push.ensures.items ∙ standing-append c.args.self.now.places.items (Some c.args.clause ∷ [])

pub returns-then-is_empty : goal.returns-then-is_empty
returns-then-is_empty c = ap standing c.in_ok-push.ensures.items ∙ standing-append c.args.self.now.places.items (Some c.args.clause ∷ [])

pub invariant_of-self-then-is_empty : goal.invariant_of-self-then-is_empty
invariant_of-self-then-is_empty c =
    let x = c.args.self.now in let p = pushed-counts _ _ _ c.in_ok-push.ensures.items in
    record { counted = omega (arith, p.0, p.1, x.counted); half = omega (arith, p.0, x.half); few_notes = omega (arith, p.0, x.few_notes) }

pub invariant_of-self-2 : goal.invariant_of-self-2
invariant_of-self-2 c =
    let x = c.args.self.now in let p = pushed-counts _ _ _ c.in_ok-push.ensures.items in
    record { counted = omega (arith, p.0, p.1, x.counted); half = omega (arith, p.0, x.half); few_notes = omega (arith, p.0, c.note.ensures, x.few_notes) }
