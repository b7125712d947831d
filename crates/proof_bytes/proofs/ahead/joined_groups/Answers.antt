use Rattle.proof_bytes.proofs.Groups.{joins, joins_small}
use Rattle.proof_bytes.proofs.ahead.joined_groups.Goals as goal

pub returns-clause-joined : goal.returns-clause-joined
returns-clause-joined c = joins c.args.groups

pub returns-clause-small : goal.returns-clause-small
returns-clause-small c = joins_small c.args.groups c.requires
