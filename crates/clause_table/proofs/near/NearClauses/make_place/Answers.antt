use Rattle.std.proofs.Common.{◌+◌, ◌∙◌, ap, arith, is_ok}
use Rattle.clause_table.proofs.PlaceLemmas.{filled, filled-in_use, filled-rising}
use Rattle.clause_table.proofs.near.NearClauses.make_place.Goals as goal

pub invariant_of-self-2 : goal.invariant_of-self-2
invariant_of-self-2 c =
    let x = c.args.self.now in
    let places = filled x.places.items c.grow.new.items.items c.resize.new.self.items (is_ok c.resize.result) (c.args.id + 1) _
    c.grow.ensures.items c.resize.ensures.items (omega (arith, c.requires.greater)) in
    record {
      rising = filled-rising x.lits.items x.places.items c.resize.new.self.items _ x.rising places;
      counted = ap (λ n. x.garbage + n) (filled-in_use x.lits.items x.places.items c.resize.new.self.items _ places) ∙ x.counted;
    }
