use Rattle.std.proofs.Common.{◌<◌, ◌+◌, ◌∙◌, ℕ, List, length, get_or, set, take, ap, subst, arith}
use Rattle.std.proofs.lemmas.List.{length-set}
use Rattle.clause_store.specs.Counts.{HoldOneMore}
use Rattle.clause_store.proofs.HeldLemmas.{below-bound, item_is, raised-more}
use Rattle.clause_store.proofs.clauses.counts.LitCounts.raise.Goals as goal

pub raise_one-requires : goal.raise_one-requires
raise_one-requires c =
    let i = c.loop-lit.lit-index in
    let bound = below-bound _ i c.loop-lit-test.true in let is = item_is _ i _ c.loop-lit-test.true c.lit-item.is in
    omega arith

pub loop-lit-preserved : goal.loop-lit-preserved
loop-lit-preserved c =
    let lits = c.args.lits.now in let i = c.loop-lit.lit-index in let now : List ℕ = c.loop-lit.self in
    let is = item_is lits i _ c.loop-lit-test.true c.lit-item.is in
    let bound = below-bound lits i c.loop-lit-test.true in let known : get_or lits i 0 < length now = omega arith in
    let added = c.in_ok-raise_one.ensures ∙ ap (λ l. set now l (get_or now l 0 + 1)) is in
    record {
      held = subst (HoldOneMore (take (i + 1) lits) c.args.self.now) (cc) (raised-more _ i c.loop-lit-test.true c.requires.canonical _ now known c.loop-lit.invariant.held);
      known = cc (length-set now (get_or lits i 0) (get_or now (get_or lits i 0) 0 + 1));
    }
