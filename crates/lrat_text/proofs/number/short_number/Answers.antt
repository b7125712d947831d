use Rattle.lrat_text.proofs.FirstNumberLemmas.{first_after_minus, first_plain, minus_line}
use Rattle.lrat_text.proofs.WordLemmas.{line_some}
use Rattle.lrat_text.proofs.number.short_number.Goals as goal

pub digits_word-requires : goal.digits_word-requires
digits_word-requires c = minus_line c.args.bytes.now c.requires c.if-bytes-eq45.true

pub returns-then-bytes-eq45-clause-first : goal.returns-then-bytes-eq45-clause-first
returns-then-bytes-eq45-clause-first c =
    first_after_minus c.args.bytes.now c.in_ok-value.rest.now c.in_ok-value.value (line_some c.args.bytes.now c.requires) c.if-bytes-eq45.true c.in_ok-value.ensures c.if-value-eq0.false

pub returns-clause-first : goal.returns-clause-first
returns-clause-first c = first_plain c.args.bytes.now c.in_ok-value-2.rest.now c.in_ok-value-2.value c.in_ok-value-2.ensures
