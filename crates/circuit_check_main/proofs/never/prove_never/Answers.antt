use Rattle.std.proofs.Common.{ap}
use Rattle.circuit_check.specs.Claims.{IsNeverFormula}
use Rattle.circuit_check.specs.Reads.{FailsNever}
use Rattle.circuit_check.specs.declared.line.Claim.TheVariants.{Never}
use Rattle.circuit_check_main.proofs.Ending.{ends_claim, never_means}
use Rattle.circuit_check_main.specs.Meaning.{NeverMeans}
use Rattle.command.specs.Inputs.{input_bytes_left}
use Rattle.circuit_check_main.proofs.never.prove_never.Goals as goal

-- the text is that of the circuit that was opened
pub returns : goal.returns
returns g c =
    let known = input_bytes_left g.S.File.Read.remaining g.S.Input.Read.remaining c.in_ok-circuit.circuit in
    record {
      ends = rw c.ended.ensures (ends_claim (g.W.Write.contents c.args.out.now) (g.W.Write.contents c.run_never-outcome.new.out) Never (IsNeverFormula known)
          (NeverMeans (g.S.System.file_bytes c.args.system.now c.args.circuit.now)) (never_means known _ c.in_ok-circuit.ensures.bytes) (FailsNever known)
          c.run_never-outcome.result c.run_never-outcome.ensures.run c.run_never-outcome.ensures.line
          (λ s. ap (λ w. g.W.Write.contents w) (c.run_never-outcome.ensures.silent s)) c.run_never-outcome.ensures.unwritten);
    }
