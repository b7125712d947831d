use Rattle.std.proofs.Common.{◌≡◌, [], ◌∷◌, arith, refl}
use Rattle.std.proofs.lemmas.Grind.{common_steps}
use Rattle.command.specs.Calls.{operands_of}
use Rattle.varisat_check.specs.Verdicts.{shown_line, shows_unsat}
use Rattle.varisat_check_main.proofs.run.Goals as goal
use Rattle.verdicts.proofs.Ending.{ends_weaker}
use Rattle.verdicts.specs.Statuses.{status_shown}

-- the files are those of the call
pub returns-in-len2 : goal.returns-in-len2
returns-in-len2 g c =
    let operands : operands_of c.args.call.now ≡ c.names_of.result.cnf.now ∷ c.names_of.result.other.now ∷ [] = grind (arith, common_steps) in
    record {
      ends = ends_weaker shown_line (status_shown shows_unsat) _ _ _ _ _ _ (λ verdict means. (
        λ cnf proof others is.
            let first : cnf ≡ c.names_of.result.cnf.now = cc in
            rw first means,
        rw operands refl,
      )) (λ left. refl) c.check_files.result c.check_files.ensures.ends;
    }

pub returns-in-len3 : goal.returns-in-len3
returns-in-len3 g c =
    let operands : operands_of c.args.call.now ≡ c.names_of-in-len3.result.cnf.now ∷ c.names_of-in-len3.result.other.now ∷ c.as_str.result.now ∷ [] =
    grind (arith, common_steps) in
    record {
      ends = ends_weaker shown_line (status_shown shows_unsat) _ _ _ _ _ _ (λ verdict h. (
        λ cnf proof others is.
            let first : cnf ≡ c.names_of-in-len3.result.cnf.now = cc in
            rw first h.0,
        rw operands h.1,
      )) (λ left. left) c.write_hints.result c.write_hints.ensures.ends;
    }
