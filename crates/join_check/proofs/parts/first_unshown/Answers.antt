use Rattle.std.proofs.Common.{List, ℕ, ◌++◌, ◌∷◌, [], length, ap, sym, ◌∙◌, append-nil, length-append, arith}
use Rattle.std.proofs.lemmas.List.Elements.{All-push, All-same}
use Rattle.refutation_rules.specs.Cubes.{units_of}
use Rattle.join_check.specs.Shown.{IsPartShown}
use Rattle.join_check.proofs.Parting.{one_over, shown_by, unshown_by}
use Rattle.join_check.proofs.parts.first_unshown.Goals as goal

pub loop-cube-preserved : goal.loop-cube-preserved
loop-cube-preserved c =
    let invariant = c.loop-cube.invariant in
    let so_far = invariant.so_far in
    let steps = c.in-Some.ensures.steps in
    record {
      counted = omega (arith, invariant.counted, ap length steps);
      so_far = (
        so_far.0 ++ c.in-Some.cube.now ∷ [],
        one_over c.args.cubes.now so_far.0 c.loop-cube.cube-iterator c.next.new.self c.in-Some.cube.now so_far.1 steps,
        λ formula receipts are all. All-push (λ other. IsPartShown receipts formula (units_of other)) so_far.0 c.in-Some.cube.now (so_far.2 formula receipts are all)
            (shown_by c.args.texts.now formula _ _ receipts c.args.shown.now c.in_ok-digest.ensures are all (sym c.has.ensures ∙ c.if-not-has.false)),
      );
    }

pub returns-then-not-has : goal.returns-then-not-has
returns-then-not-has c = λ formula receipts are all.
    let invariant = c.loop-cube.invariant in
    let so_far = invariant.so_far in
    let steps = c.in-Some.ensures.steps in
    record {
      before = so_far.0;
      cube = c.in-Some.cube.now;
      rest = c.next.new.self;
      split = so_far.1 ∙ ap (λ (l : List (List ℕ)). so_far.0 ++ l) steps;
      place = omega (arith, invariant.counted, ap length steps, c.len-count.ensures, ap length so_far.1, length-append so_far.0 c.loop-cube.cube-iterator);
      shown = so_far.2 formula receipts are all;
      unshown = unshown_by c.args.texts.now formula _ _ receipts c.args.shown.now c.in_ok-digest.ensures are all (sym c.has.ensures ∙ c.if-not-has.true);
    }

pub returns : goal.returns
returns c = λ formula receipts are all.
    let so_far = c.loop-cube.invariant.so_far in
    All-same (λ other. IsPartShown receipts formula (units_of other)) c.args.cubes.now so_far.0
    (so_far.1 ∙ ap (λ (l : List (List ℕ)). so_far.0 ++ l) c.in-None.ensures.steps.0 ∙ append-nil so_far.0) (so_far.2 formula receipts are all)
