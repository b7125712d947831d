use Rattle.std.proofs.Common.{arith}
use Rattle.std.proofs.lemmas.Bool.Decides.{nat_tests}
use Rattle.sat_formula.proofs.lit.Lit.map_var.Goals as goal

pub returns : goal.returns
returns g c = record {
  from = c.var.result;
  to = c.map.result;
  of_lit = c.var.ensures;
  mapped = c.map.ensures;
  is = grind (arith, nat_tests, c.lit.ensures, c.is_positive.ensures);
}
