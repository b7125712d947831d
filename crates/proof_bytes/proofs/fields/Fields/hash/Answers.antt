use Rattle.proof_bytes.proofs.Fronts.{leads_ahead}
use Rattle.proof_bytes.proofs.fields.Fields.hash.Goals as goal

pub returns-in-Some : goal.returns-in-Some
returns-in-Some g c = leads_ahead _ _ c.ahead.result.now _ c.in-Some.len c.ahead.ensures c.hash_ahead.ensures.bytes c.take_ahead.ensures.bytes c.in-Some.ensures.read
