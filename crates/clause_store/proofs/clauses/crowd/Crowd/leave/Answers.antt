use Rattle.std.proofs.Common.{◌≡◌, None, ap, arith, is_some, length, rules, set, suc, sym, ◌∙◌}
use Rattle.std.specs.List.{filter}
use Rattle.std.proofs.lemmas.Fn.{filter_same}
use Rattle.std.proofs.lemmas.List.{length-set}
use Rattle.clause_store.specs.Crowds.{standing}
use Rattle.clause_store.proofs.CrowdLemmas.{close-counts, left-counts, standing-close, taken}
use Rattle.clause_store.proofs.clauses.crowd.Crowd.leave.Goals as goal

pub invariant_of-self : goal.invariant_of-self
invariant_of-self c =
    let left = set c.args.self.now.places.items c.args.at None in
    let kept : c.retain.new.self.items ≡ filter is_some left = filter_same _ is_some _ (λ x b f t. search rules) _ _ c.retain.ensures.filtered in
    let all : length (standing c.retain.new.self.items) ≡ length c.retain.new.self.items =
    ap length (ap standing kept ∙ standing-close left) ∙ sym (ap length kept ∙ close-counts left) in
    record { counted = omega (arith, all); half = omega arith; few_notes = omega (arith, c.clear.ensures.len) }

pub invariant_of-self-else-self-len : goal.invariant_of-self-else-self-len
invariant_of-self-else-self-len c =
    let x = c.args.self.now in let ps = x.places.items in
    let d = taken _ c.requires.taken in
    let fewer : suc (length (standing (set ps c.args.at None))) ≡ length (standing ps) = left-counts d.0 ps c.args.at c.requires.within d.1 in
    let same : length (set ps c.args.at None) ≡ length ps = length-set ps c.args.at None in
    record {
      counted = omega (arith, fewer, same, x.counted);
      half = omega (arith, same, c.if-self-len.false, c.len.ensures);
      few_notes = omega (arith, same, c.remove.ensures.len, x.few_notes);
    }

pub returns-then-self-len : goal.returns-then-self-len
returns-then-self-len c =
    let left = set c.args.self.now.places.items c.args.at None in
    ap standing (filter_same _ is_some _ (λ x b f t. search rules) _ _ c.retain.ensures.filtered) ∙ standing-close left
