use Rattle.std.proofs.Common.{◌≡◌, ◌∷◌, ◌+◌, ◌++◌, ◌<◌, [], ℕ, List, Option, Some, None, append-nil, length, take, drop, get_or, sym, ap, ◌∙◌, arith}
use Rattle.std.proofs.lemmas.List.{drop-set-lt, drop_more, length-set, take-append-drop, take_all, take_more_set}
use Rattle.clause_store.specs.declared.clauses.Clause.{Clause}
use Rattle.clause_store.specs.Crowds.{standing}
use Rattle.clause_store.specs.Lits.{buffer_used, moved_to}
use Rattle.clause_store.specs.Moved.{all_used}
use Rattle.clause_store.proofs.CrowdLemmas.{place-here, standing-append, standing-drop, standing-more}
use Rattle.clause_store.proofs.MoveLemmas.{all_moved_to-append, all_used-append}
use Rattle.clause_store.proofs.clauses.collect.move_places.Goals as goal

-- the same place in the same list, read from its rest
same-place : (ps qs : List (Option Clause)) (i : ℕ) (p : Option Clause) → drop i ps ≡ drop i qs → length ps ≡ length qs → i < length ps →
    p ≡ get_or ps i p → (p ≡ get_or qs i p) × (drop (i + 1) ps ≡ drop (i + 1) qs)
same-place ps qs i p rest many less is = grind (arith, drop_more ps i p less, drop_more qs i p)

-- the literals of the clause that is read still have room
room : (ps : List (Option Clause)) (i : ℕ) (d : Clause) → i < length ps → Some d ≡ get_or ps i (Some d) →
    (n : ℕ) × (all_used (standing ps) ≡ all_used (standing (take i ps)) + (buffer_used d.lits + n))
room ps i d less is =
    let before = standing (take i ps) in let after = standing (drop (i + 1) ps) in
    let all : standing ps ≡ before ++ d ∷ after =
    ap standing (sym (take-append-drop i ps)) ∙ standing-append (take i ps) (drop i ps) ∙ ap (λ cs. before ++ cs) (standing-drop ps i (Some d) less is) in
    (all_used after, ap all_used all ∙ all_used-append before (d ∷ after))

pub move_to-at-requires : goal.move_to-at-requires
move_to-at-requires c =
    let ps = c.args.places.now in let l = c.loop-i in let v = l.invariant in let d = c.in-Some.clause in
    let here = same-place l.places ps l.i (Some d) v.rest v.many (omega (arith, v.many, c.loop-i-test.true)) (place-here l.places l.i _ (Some d) (omega (arith, v.many, c.loop-i-test.true)) c.in-Some.is) in
    let r = room ps l.i d c.loop-i-test.true here.0 in
    omega (arith, r.1, v.end, c.requires)

pub loop-i-preserved : goal.loop-i-preserved
loop-i-preserved c =
    let ps = c.args.places.now in let l = c.loop-i in let v = l.invariant in let d = c.in-Some.clause in let i = l.i in
    let less : i < length l.places = omega (arith, v.many, c.loop-i-test.true) in
    let here = same-place l.places ps i (Some d) v.rest v.many less (place-here l.places i _ (Some d) less c.in-Some.is) in
    let e : Clause = record d { lits = c.move_to-at.new.self } in
    let is : e ≡ record d { lits = moved_to (c.args.first + all_used (standing (take i ps))) d.lits } =
    ap (λ ls. record d { lits = ls }) (c.move_to-at.ensures.moved ∙ ap (λ n. moved_to n d.lits) v.end) in
    let more : standing (take (i + 1) ps) ≡ standing (take i ps) ++ d ∷ [] = standing-more ps i (Some d) c.loop-i-test.true here.0 in
    record {
      moved =
          let last = all_moved_to-append c.args.first (standing (take i ps)) (d ∷ []) in
          cc (take_more_set l.places i (Some e) less, standing-append (take i l.places) (Some e ∷ []), v.moved, is, last, more);
      rest = drop-set-lt (i + 1) l.places i (Some e) (omega arith) ∙ here.1;
      many = length-set l.places i (Some e) ∙ v.many;
      end = let used = ap all_used more ∙ all_used-append (standing (take i ps)) (d ∷ []) in omega (arith, used, v.end, c.move_to-at.ensures.end);
    }

pub loop-i-preserved-in_default : goal.loop-i-preserved-in_default
loop-i-preserved-in_default c =
    let ps = c.args.places.now in let l = c.loop-i in let v = l.invariant in let i = l.i in
    let less : i < length l.places = omega (arith, v.many, c.loop-i-test.true) in
    let read = place-here l.places i _ None less c.in_default.is in
    let here = same-place l.places ps i None v.rest v.many less read in
    let old : standing (take (i + 1) l.places) ≡ standing (take i l.places) = standing-more l.places i None less read ∙ append-nil _ in
    let new : standing (take (i + 1) ps) ≡ standing (take i ps) = standing-more ps i None c.loop-i-test.true here.0 ∙ append-nil _ in
    record {
      moved = cc (old, new, v.moved);
      rest = here.1;
      many = v.many;
      end = cc (new, v.end);
    }

pub returns-clause-moved : goal.returns-clause-moved
returns-clause-moved c =
    rw (take_all c.loop-i.i c.loop-i.places (omega (arith, c.loop-i.invariant.many)), take_all c.loop-i.i c.args.places.now (omega arith)) at c.loop-i.invariant.moved

pub returns-clause-end : goal.returns-clause-end
returns-clause-end c =
    rw (take_all c.loop-i.i c.args.places.now (omega arith)) at c.loop-i.invariant.end
