use Rattle.std.proofs.Common.{◌≡◌, ◌∙◌, [], Some}
use Rattle.circuit_check_main.proofs.Naming.{is_ok_of, names_never, on_is_ok}
use Rattle.circuit_check_main.proofs.never.formula_of_never.Goals as goal

-- the file that got the name was empty, and was written whole
pub returns-clause-named : goal.returns-clause-named
returns-clause-named g c text known fresh well =
    let first = c.new-files.ensures.system in
    let same = c.create_formula.ensures.system ∙ first in
    let unwritten : g.S.OutputSystem.unwritten c.new-files.result.system.now ≡ Some [] = rw first fresh in
    let is = is_ok_of c.name_formula.result 0 well in
    names_never _ _ _ _ _ _ _ (c.in_ok-circuit.ensures.bytes ∙ known) (c.in_ok-out.ensures.unwritten unwritten)
    (on_is_ok c.write_never-written.result (c.name_formula.ensures.written is) c.write_never-written.ensures.whole)
    (rw same at (c.name_formula.ensures.named is))
