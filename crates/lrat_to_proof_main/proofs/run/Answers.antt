use Rattle.std.proofs.Common.{◌≡◌, Some, arith}
use Rattle.std.proofs.lemmas.Grind.{common_steps}
use Rattle.command.specs.Inputs.{bytes_named}
use Rattle.lrat_to_proof.specs.Widths.{bits_of}
use Rattle.lrat_to_proof_main.proofs.Ending.{ends_weaker}
use Rattle.lrat_to_proof_main.proofs.run.Goals as goal

-- the names and the form are those of the call
pub returns-in-len3 : goal.returns-in-len3
returns-in-len3 g c = record {
  ends = ends_weaker _ _ _ (λ conversion has cnf lrat proof text lines operands known listed fresh.
      let first : cnf ≡ c.as_str-cnf.result.now = grind (arith, common_steps) in
      let second : lrat ≡ c.as_str-other.result.now = grind (arith, common_steps) in
      let third : proof ≡ c.as_str.result.now = grind (arith, common_steps) in
      let formula : bytes_named (g.S.System.file_bytes c.args.system.now)
      (g.S.System.input_bytes c.args.system.now) c.as_str-cnf.result.now ≡ Some text = rw (← first) known in
      let other : bytes_named (g.S.System.file_bytes c.args.system.now)
      (g.S.System.input_bytes c.args.system.now) c.as_str-other.result.now ≡ Some lines = rw (← second) listed in
      record {
        ids = c.in_ok-ids.ids;
        meant_ids = c.in_ok-ids.ensures.ok;
        width = bits_of c.in-Some.width;
        full = c.in-Some.ensures;
        has = rw third (has text lines formula other fresh);
      }) c.convert_files.result c.convert_files.ensures.ends;
}
