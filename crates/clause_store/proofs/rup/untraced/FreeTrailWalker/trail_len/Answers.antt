use Rattle.std.proofs.Common.{sym, ◌∙◌}
use Rattle.clause_store.proofs.AssumeLemmas.{freed-length}
use Rattle.clause_store.proofs.rup.untraced.FreeTrailWalker.trail_len.Goals as goal

pub returns : goal.returns
returns c = c.len.ensures ∙ c.args.self.now.ok.0 ∙ sym (freed-length c.args.self.now.items)
