use Rattle.std.proofs.Common.{◌≡◌, [], ◌∷◌, arith}
use Rattle.std.proofs.lemmas.Grind.{common_steps}
use Rattle.command.specs.Calls.{operands_of}
use Rattle.follows_check_main.proofs.Ending.{asks}
use Rattle.follows_check_main.proofs.ask.Goals as goal

-- its operands are two names
pub returns-else-ne-clause-asked : goal.returns-else-ne-clause-asked
returns-else-ne-clause-asked g c =
    let names = c.of-names.result in
    let operands : operands_of c.args.call.now ≡ names.inputs.cnf.now ∷ names.claims.now ∷ [] = grind (arith, common_steps) in
    asks _ _ _ _ _ _ _ _ _ _ _ operands c.write_formula.ensures.zero c.write_formula.ensures.named
