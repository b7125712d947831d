use Rattle.definition_rows.proofs.ChainFacts.{chain_rows}
use Rattle.definition_rows.proofs.laws.chain_rows.Goals as goal

pub returns : goal.returns
returns c = chain_rows
