use Rattle.std.proofs.Common.{ap}
use Rattle.command.specs.Inputs.{input_bytes_left}
use Rattle.circuit_check_main.proofs.Ending.{ends_possible}
use Rattle.circuit_check_main.proofs.never.answer_never.Goals as goal

-- the texts are those of the files that were opened
pub returns : goal.returns
returns g c = record {
  ends = rw c.ended.ensures (ends_possible (g.W.Write.contents c.args.out.now) (g.W.Write.contents c.run_possible-outcome.new.out)
      (input_bytes_left g.S.File.Read.remaining g.S.Input.Read.remaining c.in_ok-circuit.circuit)
      (input_bytes_left g.S.File.Read.remaining g.S.Input.Read.remaining c.in_ok-answer.answer)
      _ _ c.in_ok-circuit.ensures.bytes c.in_ok-answer.ensures.bytes c.run_possible-outcome.result c.run_possible-outcome.ensures.line
      (λ s. ap (λ w. g.W.Write.contents w) (c.run_possible-outcome.ensures.silent s)) c.run_possible-outcome.ensures.unwritten);
}
