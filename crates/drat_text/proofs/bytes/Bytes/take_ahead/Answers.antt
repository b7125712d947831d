use Rattle.drat_text.proofs.Takings.{ahead_taken}
use Rattle.sat_formula.specs.Source.{ahead_of}
use Rattle.drat_text.proofs.bytes.Bytes.take_ahead.Goals as goal

pub returns-clause-bytes : goal.returns-clause-bytes
returns-clause-bytes g c =
    let s = c.args.self.now in
    ahead_taken s.taken s.front.items (ahead_of s.source) _ _ c.args.count c.requires c.take_ahead.ensures.bytes
