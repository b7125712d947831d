use Rattle.std.proofs.Common.{◌≡◌, refl, rules}
use Rattle.sat_formula.specs.Outcome.{next_line}
use Rattle.lrat_binary.specs.Drafts.{line_of}
use Rattle.lrat_binary.specs.Lines.{binary_after}
use Rattle.drat_text.specs.Taking.{source_of, unread_bytes}
use Rattle.lrat_binary.proofs.ReaderLemmas.{line_answers, stop_answers, stopped_source}
use Rattle.lrat_binary.proofs.reader.BinaryReader.begin.Goals as goal

pub stopped-requires : goal.stopped-requires
stopped-requires g c =
    let old = c.args.self.now in
    stopped_source old.ids old.number (unread_bytes g.R.Read.remaining old.bytes) (unread_bytes g.R.Read.remaining c.read_line.new.bytes)
    (binary_after old.ids old.number) (source_of c.read_line.new.bytes) c.in-Err.stop (c.in-Err.ensures.read old.number)

pub returns-in-Ok-clause-reads : goal.returns-in-Ok-clause-reads
returns-in-Ok-clause-reads g c = λ on.
    let old = c.args.self.now in
    let number : c.saturating_add-self.result ≡ next_line old.number = search rules in
    line_answers g.R.Read.remaining (line_of c.read_line.new.draft) old
    (record old { bytes = c.read_line.new.bytes; draft = c.read_line.new.draft; number = c.saturating_add-self.result }) c.in-Ok.head
    (c.in-Ok.ensures.read old.number) number refl on on c.in-Ok.ensures.nearer

pub returns-in-Err-clause-reads : goal.returns-in-Err-clause-reads
returns-in-Err-clause-reads g c = λ on.
    let old = c.args.self.now in
    stop_answers g.R.Read.remaining (line_of c.stopped.new.self.draft) old (record old { bytes = c.read_line.new.bytes; draft = c.read_line.new.draft }) c.stopped.new.self
    c.in-Err.stop c.stopped.result (c.in-Err.ensures.read old.number) c.stopped.ensures.explains c.stopped.ensures.bytes refl c.stopped.ensures.numbers c.stopped.ensures.ended
