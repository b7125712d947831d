use Rattle.std.proofs.Common.{arith, refl, sym, ◌∙◌, ◌-◌, ◌+◌, ◌*◌}
use Rattle.proof_bytes.specs.Formats.{bytes_of}
use Rattle.proof_bytes.proofs.Leading.{exits_by, malformed}
use Rattle.proof_bytes.proofs.Wide.{below_256, wide_begins, wide_fails, wide_more, wide_ok, wide_wrong, fits_256, next_256}
use Rattle.proof_bytes.proofs.fields.Fields.wide_by_bytes.Goals as goal

pub bytes-init : goal.bytes-init
bytes-init g c = record { weight = refl; bounded = omega arith; small = omega arith; leads = wide_begins _ _ (bytes_of c.args.width - 0) (omega arith) }

pub returns-in_err-byte : goal.returns-in_err-byte
returns-in_err-byte g c = exits_by _ _ c.from_residual.ensures.1
    (wide_fails _ (bytes_of c.args.width - (c.bytes.counter + 1)) _ _ _ c.bytes.invariant.leads (omega arith)) c.in_err-byte.ensures

pub overflow_mul-weight : goal.overflow_mul-weight
overflow_mul-weight g c = let f = fits_256 (c.bytes.counter + 1) 0 (c.bytes.weight * 256) 0 (omega arith) (next_256 _ _ c.bytes.invariant.weight) (omega arith)
    (omega arith) in omega (arith, f.weight)

pub bytes-preserved : goal.bytes-preserved
bytes-preserved g c =
    let f = fits_256 c.bytes.counter _ _ c.in_ok-byte.byte (omega arith) c.bytes.invariant.weight c.bytes.invariant.small (omega arith) in
    record {
      weight = next_256 _ _ c.bytes.invariant.weight;
      bounded = below_256 (c.bytes.counter + 1) _ (omega arith) (next_256 _ _ c.bytes.invariant.weight);
      small = f.sum;
      leads = wide_more _ (bytes_of c.args.width - (c.bytes.counter + 1)) _ _ _ c.bytes.invariant.leads (omega arith) c.in_ok-byte.byte c.in_ok-byte.ensures;
    }

pub returns-in_err-last : goal.returns-in_err-last
returns-in_err-last g c = exits_by _ _ c.from_residual-in_err-last.ensures.1 (wide_fails _ 0 _ _ _ c.bytes.invariant.leads (omega arith)) c.in_err-last.ensures

pub returns-then-fits_width : goal.returns-then-fits_width
returns-then-fits_width g c = wide_ok _ _ _ (wide_more _ 0 _ _ _ c.bytes.invariant.leads (omega arith) c.in_ok-last.last c.in_ok-last.ensures) (sym c.fits_width.ensures ∙ c.if-fits_width.true)

pub returns-else-fits_width : goal.returns-else-fits_width
returns-else-fits_width g c = malformed (wide_wrong _ _ _
    (wide_more _ 0 _ _ _ c.bytes.invariant.leads (omega arith) c.in_ok-last.last c.in_ok-last.ensures)
    (sym c.fits_width.ensures ∙ c.if-fits_width.false))
