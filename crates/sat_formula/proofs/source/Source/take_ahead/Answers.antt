use Rattle.std.proofs.Common.{arith}
use Rattle.std.proofs.lemmas.Grind.{common_steps}
use Rattle.sat_formula.proofs.Sources.{bytes_taken, room_taken}
use Rattle.sat_formula.proofs.source.Source.take_ahead.Goals as goal

pub returns-clause-bytes : goal.returns-clause-bytes
returns-clause-bytes g c = bytes_taken _ _ c.args.self.now.start c.args.self.now.end c.args.count (grind (arith, common_steps))

pub returns-clause-room : goal.returns-clause-room
returns-clause-room g c = room_taken _ c.args.self.now.start c.args.self.now.end c.args.count (grind (arith, common_steps))
