use Rattle.std.proofs.Common.{sym, ◌∙◌}
use Rattle.std.proofs.lemmas.Bool.{false≢true}
use Rattle.circuit_check.proofs.formulas.read_gates.Goals as goal

pub returns-then-not-is_combinational-clause-fault : goal.returns-then-not-is_combinational-clause-fault
returns-then-not-is_combinational-clause-fault g c = record {
  circuit = c.in-Ok.circuit;
  says = c.in-Ok.ensures.reads;
  shape = λ shape. false≢true (sym c.if-not-is_combinational.true ∙ c.is_combinational.ensures.1 shape);
}
