-- What verdicts that were reached mean for the files of a call.
use Rattle.std.proofs.Common.{◌≡◌, ℕ, List, Option, Some, Result, Ok, Err, IfOk, refl}
use Rattle.command.specs.Inputs.{bytes_named}
use Rattle.follows_check.proofs.Deciding.{answer_decides}
use Rattle.follows_check.specs.Runs.{IsAnswerRun, IsProofRun}
use Rattle.follows_check.specs.Texts.{FollowsText, NotFollowsText}
use Rattle.follows_check.specs.declared.fault.RunFault.{RunFault}
use Rattle.follows_check.specs.declared.verdict.Verdict.{Verdict}
use Rattle.follows_check.specs.declared.verdict.Verdict.TheVariants.{Follows, NoneFails, NotFollows, Open, Unmet}
use Rattle.follows_check_main.specs.Meaning.{MeansOf}

module _ (files : List ℕ → Option (List ℕ)) (input : Option (List ℕ)) (cnf claims : List ℕ) where
  pub by_proof : (known other : Option (List ℕ)) (r : Result Verdict RunFault) → IsProofRun known other r
      → ((text said : List ℕ) → bytes_named files input cnf ≡ Some text → files claims ≡ Some said → r ≡ Ok Follows → FollowsText text said) → IfOk r (MeansOf files input cnf claims)
  by_proof known other (Ok Follows) run shows = λ text said is are. shows text said is are refl
  by_proof known other (Ok (NotFollows claim line)) run shows = absurd run.holds
  by_proof known other (Ok Open) run shows = tt
  by_proof known other (Ok (Unmet clause line)) run shows = tt
  by_proof known other (Ok NoneFails) run shows = tt
  by_proof known other (Err fault) run shows = tt

  pub by_answer : (known other answer : Option (List ℕ)) (r : Result Verdict RunFault) → IsAnswerRun known other answer r
      → ((text said : List ℕ) (claim line : ℕ) → bytes_named files input cnf ≡ Some text → files claims ≡ Some said → r ≡ Ok (NotFollows claim line) → NotFollowsText text said)
      → IfOk r (MeansOf files input cnf claims)
  by_answer known other answer (Ok Follows) run shows = absurd (answer_decides known other run.lits run.holds)
  by_answer known other answer (Ok (NotFollows claim line)) run shows = λ text said is are. shows text said claim line is are refl
  by_answer known other answer (Ok Open) run shows = tt
  by_answer known other answer (Ok (Unmet clause line)) run shows = tt
  by_answer known other answer (Ok NoneFails) run shows = tt
  by_answer known other answer (Err fault) run shows = tt
