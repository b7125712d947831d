use Rattle.std.proofs.Common.{ap, ◌∙◌, length, subst}
use Rattle.std.proofs.lemmas.Result.{err_from_is_err_and}
use Rattle.lrat_to_proof.specs.Converting.{begun}
use Rattle.lrat_to_proof.specs.Holding.{Holding}
use Rattle.lrat_to_proof.specs.Runs.{Leads, proof_says}
use Rattle.lrat_to_proof.specs.Standing.{holding_of}
use Rattle.lrat_to_proof.specs.Conversions.{conversion_of}
use Rattle.lrat_to_proof.proofs.LineLemmas.{begun_end, given_up, given_up_first}
use Rattle.lrat_to_proof.specs.Widths.{bits_of}
use Rattle.lrat_to_proof.proofs.run.convert_proof.Goals as goal

pub returns-in_err-converter : goal.returns-in_err-converter
returns-in_err-converter g c =
    let width = bits_of c.args.width in
    let from = begun width c.args.formula.now in
    let p = err_from_is_err_and c.from_residual.result c.from_residual.ensures.1 in
    record {
      run = rw (p.1, p.2)
          (given_up_first (proof_says c.args.ids (length c.args.formula.now)) (g.P.Read.remaining c.args.proof) width from (g.W.Write.contents c.args.out.now) (g.W.Write.contents c.new.new.out)
          c.in_err-converter.field-0.0 c.in_err-converter.ensures.err);
    }

pub returns-in_err-end : goal.returns-in_err-end
returns-in_err-end g c =
    let width = bits_of c.args.width in
    let start = g.W.Write.contents c.args.out.now in
    let says = proof_says c.args.ids (length c.args.formula.now) in
    let known = g.P.Read.remaining c.args.proof in
    let from = begun width c.args.formula.now in
    let new = g.W.Write.contents c.end.new.out in
    let k = c.in_ok-convert_lines.ensures width start from c.in_ok-converter.ensures.ok in
    let leads = subst (λ n. Leads (proof_says c.args.ids n) known width from k.0 k.1) c.len-clauses.ensures k.2 in
    let p = err_from_is_err_and c.from_residual-in_err-end.result c.from_residual-in_err-end.ensures.1 in
    record { run = rw (p.1, p.2) (given_up says known width from start new c.in_err-end.field-0.0 (begun_end says known width from start new k.0 k.1 leads (c.in_err-end.ensures.err width start k.1 k.3))) }

pub returns-in_err-convert_lines : goal.returns-in_err-convert_lines
returns-in_err-convert_lines g c =
    let width = bits_of c.args.width in
    let p = err_from_is_err_and c.from_residual-in_err-convert_lines.result c.from_residual-in_err-convert_lines.ensures.1 in
    let stopped = c.in_err-convert_lines.ensures width (g.W.Write.contents c.args.out.now) (begun width c.args.formula.now) c.in_ok-converter.ensures.ok in
    record { run = rw (p.1, p.2) (rw c.len-clauses.ensures at stopped) }

pub returns : goal.returns
returns g c =
    let width = bits_of c.args.width in
    let start = g.W.Write.contents c.args.out.now in
    let k = c.in_ok-convert_lines.ensures width start (begun width c.args.formula.now) c.in_ok-converter.ensures.ok in
    let ended = c.in_ok-end.ensures in
    let wrote = ended.ok width start k.1 k.3 in
    record {
      run = record {
        lines = k.0;
        end = k.1;
        leads = subst (λ n. Leads (proof_says c.args.ids n) (g.P.Read.remaining c.args.proof) width (begun width c.args.formula.now) k.0 k.1) c.len-clauses.ensures k.2;
        answer = c.of.ensures ∙ ap conversion_of (c.is_done.ensures ∙ ap (λ held. (holding_of held).refuted) ended.held ∙ ap (λ (held : Holding). held.refuted) k.3.held);
        written = wrote.bytes;
        fits = wrote.fits;
      };
    }
