use Rattle.std.proofs.Common.{ℕ, ◌+◌, drop, None, List, ap, sym, ◌∙◌, length-set}
use Rattle.std.proofs.Math.ListN.{drop_of_length-le}
use Rattle.sat_rules.specs.Clauses.{var_of}
use Rattle.clause_store.specs.Trail.{freed, undone}
use Rattle.clause_store.proofs.StatusLemmas.{drop-at}
use Rattle.clause_store.proofs.AssumeLemmas.{freed-first, freed-known}
use Rattle.clause_store.proofs.rup.untraced.free_all.Goals as goal

pub free-requires : goal.free-requires
free-requires c = rw c.index.ensures.value (rw c.loop-lit.invariant.known
    (freed-known c.args.units.now c.args.lits.now c.loop-lit.lit-index c.lit-item.result c.requires c.loop-lit-test.true c.lit-item.is))

pub loop-lit-preserved : goal.loop-lit-preserved
loop-lit-preserved c =
    let m = c.lit-item.result in
    let cut = drop-at c.args.lits.now c.loop-lit.lit-index m c.loop-lit-test.true c.lit-item.is in
    rw (c.free.ensures, c.index.ensures.value) (record {
      same = freed-first c.loop-lit.units m (drop (c.loop-lit.lit-index + 1) c.args.lits.now) ∙ sym (ap (λ (ms : List ℕ). undone c.loop-lit.units (freed ms)) cut) ∙ c.loop-lit.invariant.same;
      known = length-set c.loop-lit.units (var_of m) None ∙ c.loop-lit.invariant.known;
    })

pub returns : goal.returns
returns c = sym (ap (λ (ms : List ℕ). undone c.loop-lit.units (freed ms)) (drop_of_length-le c.args.lits.now c.loop-lit-test.false)) ∙ c.loop-lit.invariant.same
