use Rattle.std.proofs.Common.{◌∙◌, ap, sym}
use Rattle.sat_formula.proofs.Exits.{exits}
use Rattle.index_text.specs.Entries.{entries_of}
use Rattle.index_text.specs.Stanzas.{SoFarSaid, stanzas_from, stanzas_of}
use Rattle.index_text.specs.Taking.{IsOutcome, so_far_seen}
use Rattle.index_text.proofs.StanzaLemmas.{ends_as, fails_placed, taken_on}
use Rattle.index_text.proofs.stanzas.read_stanzas.Goals as goal

pub entries-init : goal.entries-init
entries-init c = record { read = ap (λ (s : SoFarSaid). stanzas_from 1 s (entries_of c.args.text.now)) (sym c.new-so_far.ensures) }

pub entries-preserved : goal.entries-preserved
entries-preserved c =
    let e = rw c.in-Some.is at c.split_entry.ensures.entries in
    record {
      read = c.entries.invariant.read
          ∙ taken_on c.entries.line c.line_after-line.result (so_far_seen c.entries.so_far) (so_far_seen c.take.new.self)
          c.entries.rest.now c.split_entry.result.0.now c.in-Some.next.now e c.in_ok-take-in-Some.ensures c.line_after-line.ensures;
    }

pub returns-in_err-take-in-Some : goal.returns-in_err-take-in-Some
returns-in_err-take-in-Some c =
    let e = rw c.in-Some.is at c.split_entry.ensures.entries in
    exits (λ r. IsOutcome (stanzas_of c.args.text.now) r) _ _ c.from_residual.ensures.1
    (fails_placed (stanzas_of c.args.text.now) c.entries.line (so_far_seen c.entries.so_far) c.take.new.self
    c.entries.rest.now c.split_entry.result.0.now c.in-Some.next.now _ c.entries.invariant.read e c.in_err-take-in-Some.ensures)

pub returns-in-None : goal.returns-in-None
returns-in-None c =
    let e = rw c.in-None.is at c.split_entry.ensures.entries in
    ends_as (stanzas_of c.args.text.now) c.entries.line (so_far_seen c.entries.so_far) c.entries.rest.now c.split_entry.result.0.now c.end.result
    c.entries.invariant.read e c.end.ensures
