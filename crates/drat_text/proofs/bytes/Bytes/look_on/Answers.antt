use Rattle.std.proofs.Common.{◌≡◌, Some, None, arith, refl, rules, sym, ◌∙◌}
use Rattle.drat_text.specs.Bytes.{is_text_byte}
use Rattle.drat_text.specs.Taking.{unread_bytes}
use Rattle.drat_text.proofs.FrontLemmas.{fails_at, passes_all, passes_more}
use Rattle.drat_text.proofs.LookLemmas.{binary_told, looks_at, looks_more, looks_none, text_told}
use Rattle.drat_text.proofs.bytes.Bytes.look_on.Goals as goal

pub bytes-init : goal.bytes-init
bytes-init g c = record { looks = looks_none g.R.Read.remaining c.args.self.now; passes = search rules }

pub returns-in_default-clause-format : goal.returns-in_default-clause-format
returns-in_default-clause-format g c =
    let old = c.args.self.now in
    let before = c.bytes.invariant in
    let peeked = looks_at g.R.Read.remaining old c.bytes.self c.peek.new.self c.bytes.place _ None before.looks c.in_default.is c.in_ok-byte.ensures.peek in
    (peeked.0, text_told _ (passes_all is_text_byte (unread_bytes g.R.Read.remaining old) c.bytes.place 4096 before.looks.most before.passes peeked.1))

pub returns-then-not-is_text_byte-clause-format : goal.returns-then-not-is_text_byte-clause-format
returns-then-not-is_text_byte-clause-format g c =
    let old = c.args.self.now in
    let byte = c.in-Some.byte in
    let peeked = looks_at g.R.Read.remaining old c.bytes.self c.peek.new.self c.bytes.place _ (Some byte) c.bytes.invariant.looks c.in-Some.is c.in_ok-byte.ensures.peek in
    let fails = sym c.is_text_byte.ensures ∙ c.if-not-is_text_byte.true in
    (peeked.0, binary_told _ (fails_at is_text_byte (unread_bytes g.R.Read.remaining old) c.bytes.place 4096 byte c.bytes-test.true peeked.1 fails))

pub bytes-preserved : goal.bytes-preserved
bytes-preserved g c =
    let old = c.args.self.now in
    let byte = c.in-Some.byte in
    let before = c.bytes.invariant in
    let peeked = looks_at g.R.Read.remaining old c.bytes.self c.peek.new.self c.bytes.place _ (Some byte) before.looks c.in-Some.is c.in_ok-byte.ensures.peek in
    let ok = sym c.is_text_byte.ensures ∙ c.if-not-is_text_byte.false in
    record {
      looks = looks_more g.R.Read.remaining old c.bytes.self c.peek.new.self c.bytes.place _ (Some byte) before.looks c.in-Some.is c.in_ok-byte.ensures.peek
          refl c.bytes-test.true c.in_ok-byte.ensures.front c.peek.ensures.room;
      passes = passes_more is_text_byte (unread_bytes g.R.Read.remaining old) c.bytes.place byte before.passes peeked.1 ok;
    }

pub returns-clause-format : goal.returns-clause-format
returns-clause-format g c =
    let before = c.bytes.invariant in
    let end : c.bytes.place ≡ 4096 = omega (arith, before.looks.most, c.bytes-test.false) in
    (before.looks.kept, text_told (unread_bytes g.R.Read.remaining c.args.self.now) (rw end at before.passes))
