use Rattle.std.proofs.Common.{◌<◌, ◌+◌, ◌-◌, ◌∙◌, ℕ, List, get_or, set, take, ap, subst}
use Rattle.std.proofs.lemmas.List.{length-set}
use Rattle.clause_store.specs.Counts.{HoldOneMore}
use Rattle.clause_store.proofs.HeldLemmas.{has-at, item_is, lowered-more, raised-next}
use Rattle.clause_store.proofs.clauses.counts.LitCounts.lower.Goals as goal

pub lower_one-requires : goal.lower_one-requires
lower_one-requires c =
    let lits = c.args.lits.now in let i = c.loop-lit.lit-index in
    let next = raised-next _ i c.loop-lit-test.true c.requires.canonical _ _ c.loop-lit.invariant.held in
    rw (item_is lits i c.lit-item.result c.loop-lit-test.true c.lit-item.is, ← next) (c.requires.held (get_or lits i 0) (has-at _ i c.loop-lit-test.true))

pub loop-lit-preserved : goal.loop-lit-preserved
loop-lit-preserved c =
    let lits = c.args.lits.now in let i = c.loop-lit.lit-index in let now : List ℕ = c.loop-lit.self in
    let next = raised-next _ i c.loop-lit-test.true c.requires.canonical now _ c.loop-lit.invariant.held in
    let some = subst (λ n. 0 < n) next (c.requires.held (get_or lits i 0) (has-at _ i c.loop-lit-test.true)) in
    let taken = c.lower_one.ensures ∙ ap (λ l. set now l (get_or now l 0 - 1)) (item_is _ i _ c.loop-lit-test.true c.lit-item.is) in
    record {
      held = subst (λ counts. HoldOneMore (take (i + 1) lits) counts c.args.self.now) (cc)
          (lowered-more _ i c.loop-lit-test.true c.requires.canonical _ now some c.loop-lit.invariant.held);
      known = cc (length-set now (get_or lits i 0) (get_or now (get_or lits i 0) 0 - 1));
    }
