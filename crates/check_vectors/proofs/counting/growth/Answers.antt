use Rattle.std.proofs.Common.{◌<◌, length, ap, arith}
use Rattle.std.proofs.lemmas.Result.{err_from_is_err_and}
use Rattle.varisat_checker.specs.Shown.{listeners}
use Rattle.check_vectors.proofs.CountLemmas.{Told, formula-refused, grown, processor-refused, proof-refused, some-left, told}
use Rattle.check_vectors.proofs.counting.growth.Given.{Over}
use Rattle.check_vectors.proofs.counting.growth.Goals as goal
use Rattle.check_vectors.proofs.counting.growth.Goals.{In_ok-check_proof}

-- what the processor that is left shows
counted : (g : Over) (c : In_ok-check_proof g) →
    Told (λ v x. (goal.ProofProcessor-dyn g (v, x)).shown x) c.args.processor c.args.formula.now (g.R.Read.remaining c.args.proof)
    (listeners c.check_proof.new.self).processors
counted g c =
    told (λ v x. (goal.ProofProcessor-dyn g (v, x)).took x) (λ v x. (goal.ProofProcessor-dyn g (v, x)).faulted x)
    (λ v x. (goal.ProofProcessor-dyn g (v, x)).shown x) _ _ _ _ _ _ _ _ _ _ _ _
    c.requires c.new-checker.ensures.state c.new-checker.ensures.processors
    c.in_default.ensures.state c.in_default.ensures.registered c.in_ok-add_formula.ensures.steps c.in_ok-check_proof.ensures.run c.in_ok-add_formula.ensures.delivered

pub index-requires : goal.index-requires
index-requires g c =
    let items = c.into_processors-processors.result.0 in
    let some : 0 < length items.items = some-left _ _ _ _ _ _ (counted g (goal.at.index-requires g c).In_ok-check_proof) c.into_processors-processors.ensures.processors in
    omega (arith, items.ok.0)

pub overflow_sub-result : goal.overflow_sub-result
overflow_sub-result g c = (grown _ _ _ _ _ _ _ _ _ (counted g (goal.at.overflow_sub-result g c).In_ok-check_proof)
    c.into_processors-processors.ensures.processors c.index.ensures c.output-before.ensures c.output.ensures).0

pub returns-clause-count : goal.returns-clause-count
returns-clause-count g c = (grown _ _ _ _ _ _ _ _ _ (counted g (goal.at.returns-clause-count g c).In_ok-check_proof)
    c.into_processors-processors.ensures.processors c.index.ensures c.output-before.ensures c.output.ensures).1

pub returns-in-Err-clause-refused : goal.returns-in-Err-clause-refused
returns-in-Err-clause-refused g c = processor-refused (g.R.Read.remaining c.args.proof) c.args.formula.now _ _ c.new-checker.ensures.state
    (λ running. ap (λ p. p.1) (c.in-Err.ensures.returned running))

pub returns-in_err-add_formula-clause-refused : goal.returns-in_err-add_formula-clause-refused
returns-in_err-add_formula-clause-refused g c =
    let p = err_from_is_err_and c.from_residual.result c.from_residual.ensures.1 in
    rw (p.1, p.2) (formula-refused (g.R.Read.remaining c.args.proof) _ _ _ _ _ c.new-checker.ensures.state c.in_default.ensures.state c.in_err-add_formula.ensures.steps)

pub returns-in_err-check_proof-clause-refused : goal.returns-in_err-check_proof-clause-refused
returns-in_err-check_proof-clause-refused g c =
    let p = err_from_is_err_and c.from_residual-in_err-check_proof.result c.from_residual-in_err-check_proof.ensures.1 in
    rw (p.1, p.2) (proof-refused _ _ _ _ _ _ _ c.new-checker.ensures.state c.in_default.ensures.state c.in_ok-add_formula.ensures.steps c.in_err-check_proof.ensures.run)
