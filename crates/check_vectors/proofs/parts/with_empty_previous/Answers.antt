use Rattle.std.proofs.Common.{ℕ, List, Some, ap}
use Rattle.sat_rules.specs.Clauses.{is_canonical}
use Rattle.checker_rules.proofs.Forms.{form-previous}
use Rattle.clause_store.specs.StateOf.{state_of}
use Rattle.check_vectors.proofs.parts.with_empty_previous.Goals as goal

pub returns : goal.returns
returns g c =
    let ctx = c.args.ctx.now in let k = c.requires in
    record {
      form = form-previous (state_of ctx.checker_state ctx.clause_hasher ctx.clauses ctx.variables) (Some (c.new-empty.result.items, 0))
          (ap is_canonical c.new-empty.ensures.items) k.form;
      store = k.store;
    }
