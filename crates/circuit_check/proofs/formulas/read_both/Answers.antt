use Rattle.std.proofs.Common.{inl, inr, sym, ◌∙◌}
use Rattle.std.proofs.lemmas.Bool.{false≢true}
use Rattle.circuit_check.proofs.FaultLemmas.{both_fail}
use Rattle.circuit_check.proofs.formulas.read_both.Goals as goal

pub returns-in-Err-clause-fault : goal.returns-in-Err-clause-fault
returns-in-Err-clause-fault g c = both_fail _ _ _ c.in-Err.ensures.fault

pub returns-then-not-is_combinational-clause-fault : goal.returns-then-not-is_combinational-clause-fault
returns-then-not-is_combinational-clause-fault g c = (
  (c.in-Ok.circuits.0, c.in-Ok.ensures.first),
  (c.in-Ok.circuits.1, c.in-Ok.ensures.second),
  inl (record {
    circuit = c.in-Ok.circuits.0;
    says = c.in-Ok.ensures.first;
    shape = λ shape. false≢true (sym c.if-not-is_combinational.true ∙ c.is_combinational.ensures.1 shape);
  }),
)

pub returns-then-not-is_combinational-2-clause-fault : goal.returns-then-not-is_combinational-2-clause-fault
returns-then-not-is_combinational-2-clause-fault g c = (
  (c.in-Ok.circuits.0, c.in-Ok.ensures.first),
  (c.in-Ok.circuits.1, c.in-Ok.ensures.second),
  inr (record {
    circuit = c.in-Ok.circuits.1;
    says = c.in-Ok.ensures.second;
    shape = λ shape. false≢true (sym c.if-not-is_combinational-2.true ∙ c.is_combinational-2.ensures.1 shape);
  }),
)
