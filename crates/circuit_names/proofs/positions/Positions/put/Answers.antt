use Rattle.std.proofs.lemmas.Map.Text.{hash_map_updates_str}
use Rattle.circuit_names.proofs.positions.Positions.put.Goals as goal

pub returns-in-Ok : goal.returns-in-Ok
returns-in-Ok c = λ other. hash_map_updates_str c.args.name.now c.args.self.now.positions c.insert.new.self _ c.in-Ok.ensures.updates other
