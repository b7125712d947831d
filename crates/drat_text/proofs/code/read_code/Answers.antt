use Rattle.drat_text.proofs.Takings.{ahead_leads}
use Rattle.drat_text.proofs.code.read_code.Goals as goal

pub returns-in-Some-clause-read : goal.returns-in-Some-clause-read
returns-in-Some-clause-read g c = ahead_leads c.ahead.result.now _ c.in-Some.count c.ahead.ensures c.in-Some.ensures.read c.take_ahead.ensures.bytes
