use Rattle.answer_text.specs.Literals.{has_lit}
use Rattle.follows_check.proofs.AnswerLemmas.{still_found}
use Rattle.follows_check.proofs.failing.after_claim.Goals as goal

pub returns-in-Some : goal.returns-in-Some
returns-in-Some c = λ claims lines so_far place on. let is = c.in-Some.is in let was = rw is at so_far in rw is (still_found (has_lit c.args.literals.now) claims c.args.claim.now lines c.args.line c.in-Some.field-0 was)
