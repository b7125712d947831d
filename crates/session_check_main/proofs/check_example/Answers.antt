use Rattle.std.proofs.Common.{Some}
use Rattle.session_check.specs.Lines.{both}
use Rattle.session_check_main.proofs.Ending.{ends_session}
use Rattle.session_check_main.proofs.check_example.Goals as goal
use Rattle.session_check_main.specs.declared.TheConstants.{EXAMPLE, EXAMPLE_PROOF}

-- of the texts of the example
pub returns : goal.returns
returns g c =
    let texts = both (Some EXAMPLE.now) (Some EXAMPLE_PROOF.now) in
    record {
      ends = (
        texts,
        rw c.ended.ensures (ends_session texts (g.W.Write.contents c.args.out.now) (g.W.Write.contents c.check_session-outcome.new.out)
            c.check_session-outcome.result c.check_session-outcome.ensures),
      );
    }
