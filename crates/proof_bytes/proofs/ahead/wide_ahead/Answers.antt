use Rattle.std.proofs.Common.{Ok, arith, sym, ap, ◌∙◌}
use Rattle.proof_bytes.specs.Formats.{bytes_of}
use Rattle.proof_bytes.proofs.LowBytes.{wide_of_bytes}
use Rattle.proof_bytes.proofs.ahead.wide_ahead.Goals as goal

pub returns-then-fits_width-clause-read : goal.returns-then-fits_width-clause-read
returns-then-fits_width-clause-read c = λ more.
    let bytes = c.in_ok-front.ensures.read (bytes_of c.args.width) (omega arith) more in
    wide_of_bytes c.args.width _ _ more (sym c.fits_width.ensures ∙ c.if-fits_width.true) (bytes ∙ ap (λ n. Ok (n, more)) (sym c.low_bytes-value.ensures))
