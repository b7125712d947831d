use Rattle.std.proofs.Common.{rules, arith, ◌≡◌, ◌<◌, false, ap}
use Rattle.lrat_text.specs.NextLine.{work_left}
use Rattle.lrat_text.proofs.ReaderLemmas.{counts_on, line_passed, line_given, stop_counts, stop_told}
use Rattle.lrat_text.proofs.reader.LineReader.begin.Goals as goal

pub lines-preserved : goal.lines-preserved
lines-preserved g c =
    let open_now : c.lines.self.ended ≡ false = search rules in
    let judged = rw c.in-Ok-None.field-0-is at c.in-Ok-None.ensures.judged in
    let less : work_left c.one_line.new.self < work_left c.lines.self = c.in-Ok-None.ensures.nearer open_now (search rules) in
    record {
      reads = λ e. line_passed g.R.Read.remaining c.args.self.now c.lines.self c.one_line.new.self (rw open_now at (c.lines.invariant.reads e)) judged;
      stays = λ e. let same = ap (λ r. r.ended) (c.lines.invariant.stays e) in absurd cc;
      counts = λ still.
          let counted = rw c.in-Ok-None.field-0-is at c.in-Ok-None.ensures.counts in
          counts_on c.args.self.now c.lines.self c.one_line.new.self (c.lines.invariant.counts open_now) (counted still);
      work = omega (arith, c.lines.invariant.work);
    }

pub returns-in-Ok-Some-clause-reads : goal.returns-in-Ok-Some-clause-reads
returns-in-Ok-Some-clause-reads g c = λ e.
    let open_now : c.lines.self.ended ≡ false = search rules in
    let judged = rw c.in-Ok-Some.field-0-is at c.in-Ok-Some.ensures.judged in
    let less : work_left c.one_line.new.self < work_left c.lines.self = c.in-Ok-Some.ensures.nearer open_now (search rules) in
    line_given g.R.Read.remaining c.args.self.now c.lines.self c.one_line.new.self c.in-Ok-Some.head (rw open_now at (c.lines.invariant.reads e)) judged
    (omega (arith, c.lines.invariant.work))

pub returns-in-Err-clause-reads : goal.returns-in-Err-clause-reads
returns-in-Err-clause-reads g c = λ e.
    let open_now : c.lines.self.ended ≡ false = search rules in
    stop_told g.R.Read.remaining c.args.self.now c.lines.self c.one_line.new.self c.stopped.new.self c.in-Err.stop c.stopped.result
    (rw open_now at (c.lines.invariant.reads e)) c.in-Err.ensures.judged c.stopped.ensures.fault c.stopped.ensures.new

pub returns-in-Ok-Some-clause-counts : goal.returns-in-Ok-Some-clause-counts
returns-in-Ok-Some-clause-counts g c = λ e.
    let open_now : c.lines.self.ended ≡ false = search rules in
    let counted = rw c.in-Ok-Some.field-0-is at c.in-Ok-Some.ensures.counts in
    counts_on c.args.self.now c.lines.self c.one_line.new.self (c.lines.invariant.counts open_now) counted

pub returns-in-Err-clause-counts : goal.returns-in-Err-clause-counts
returns-in-Err-clause-counts g c = λ e.
    let open_now : c.lines.self.ended ≡ false = search rules in
    stop_counts c.args.self.now c.lines.self c.one_line.new.self c.stopped.new.self c.in-Err.stop c.stopped.result
    (c.lines.invariant.counts open_now) c.in-Err.ensures.counts c.stopped.ensures.fault c.stopped.ensures.new
