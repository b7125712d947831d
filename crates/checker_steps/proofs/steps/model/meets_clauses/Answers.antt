use Rattle.checker_steps.proofs.Common.{stored_list, is_marked}
use Rattle.std.proofs.Common.{false, true, sym, ap, ◌∙◌, subst}
use Rattle.clause_store.proofs.GatheredLemmas.{walked_within}
use Rattle.checker_steps.proofs.MetLemmas.{AllWithin, all_met, met-by, met-stored, within-first, within-rest}
use Rattle.checker_steps.proofs.steps.model.meets_clauses.Goals as goal

pub loop-bucket-init : goal.loop-bucket-init
loop-bucket-init c =
    let cs = c.args.clauses.now in
    let all = c.into_iter-bucket-iterator.ensures.into_iter_gives ∙ c.values-bucket-items.ensures.rest in
    record {
      within = subst (AllWithin cs.literal_buffer.items) (sym all) (walked_within c.requires.0 cs (stored_list cs) c.requires.1 c.values-bucket-items.ensures.unique);
      same = ap (all_met (is_marked c.args.marks.now) cs.literal_buffer.items) all;
    }

pub meets_bucket-requires : goal.meets_bucket-requires
meets_bucket-requires c =
    rw c.deref.ensures.value
    (within-first (is_marked c.args.marks.now) _ _ c.in-Some.bucket.now _ c.in-Some.ensures.steps c.loop-bucket.invariant.within)

pub returns-then-not-meets_bucket : goal.returns-then-not-meets_bucket
returns-then-not-meets_bucket c =
    let here = rw c.deref.ensures.value at (sym c.meets_bucket.ensures ∙ c.if-not-meets_bucket.true) in
    sym (sym (met-stored c.requires.0 c.args.clauses.now (stored_list c.args.clauses.now) c.requires.1 c.values-bucket-items.ensures.unique (is_marked c.args.marks.now))
    ∙ sym c.loop-bucket.invariant.same ∙ met-by _ _ _ c.in-Some.bucket.now _ c.in-Some.ensures.steps false here)

pub loop-bucket-preserved : goal.loop-bucket-preserved
loop-bucket-preserved c =
    let steps = c.in-Some.ensures.steps in let here = rw c.deref.ensures.value at (sym c.meets_bucket.ensures ∙ c.if-not-meets_bucket.false) in
    record {
      within = within-rest (is_marked c.args.marks.now) _ _ c.in-Some.bucket.now _ steps c.loop-bucket.invariant.within;
      same = sym (met-by _ _ _ c.in-Some.bucket.now _ steps true here) ∙ c.loop-bucket.invariant.same;
    }

pub returns : goal.returns
returns c =
    let cs = c.args.clauses.now in let listed = is_marked c.args.marks.now in
    sym (ap (all_met listed cs.literal_buffer.items) c.in-None.ensures.steps.0) ∙ c.loop-bucket.invariant.same
    ∙ met-stored c.requires.0 cs (stored_list cs) c.requires.1 c.values-bucket-items.ensures.unique listed
