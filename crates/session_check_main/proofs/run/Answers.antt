use Rattle.std.proofs.Common.{◌≡◌, [], ◌∷◌, arith, inr, refl}
use Rattle.std.proofs.lemmas.Grind.{common_steps}
use Rattle.command.specs.Calls.{operands_of}
use Rattle.command.specs.Inputs.{bytes_named}
use Rattle.session_check.specs.Lines.{alone, both}
use Rattle.session_check_main.proofs.run.Goals as goal

-- the files are those of the call
pub returns-in-len1 : goal.returns-in-len1
returns-in-len1 g c =
    let named : operands_of c.args.call.now ≡ c.as_str.result.now ∷ [] = grind (arith, common_steps) in
    record {
      ends = inr (
        alone (bytes_named (g.S.System.file_bytes c.args.system.now) (g.S.System.input_bytes c.args.system.now) c.as_str.result.now),
        (λ example. rw named refl),
        c.check_proof.ensures.ends,
      );
    }

pub returns-in-len2 : goal.returns-in-len2
returns-in-len2 g c =
    let named : operands_of c.args.call.now ≡ c.as_str-in-len2.result.now ∷ c.as_str-in-len2-2.result.now ∷ [] = grind (arith, common_steps) in
    record {
      ends = inr (
        both (bytes_named (g.S.System.file_bytes c.args.system.now) (g.S.System.input_bytes c.args.system.now) c.as_str-in-len2.result.now)
            (bytes_named (g.S.System.file_bytes c.args.system.now) (g.S.System.input_bytes c.args.system.now) c.as_str-in-len2-2.result.now),
        (λ example. rw named refl),
        c.check_interaction.ensures.ends,
      );
    }
