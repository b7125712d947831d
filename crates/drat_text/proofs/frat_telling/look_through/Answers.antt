use Rattle.std.proofs.Common.{Some, None, arith, refl}
use Rattle.drat_text.specs.Taking.{unread_bytes}
use Rattle.drat_text.proofs.LookLemmas.{looks_at, looks_more, looks_none}
use Rattle.drat_text.proofs.FratTellLemmas.{all_remains, seen_all, seen_end, seen_later, seen_told}
use Rattle.drat_text.proofs.frat_telling.look_through.Goals as goal

pub bytes-init : goal.bytes-init
bytes-init g c = record {
  looks = looks_none g.R.Read.remaining c.args.bytes.now;
  remains = all_remains (unread_bytes g.R.Read.remaining c.args.bytes.now);
}

pub returns-in_default-clause-told : goal.returns-in_default-clause-told
returns-in_default-clause-told g c =
    let all = unread_bytes g.R.Read.remaining c.args.bytes.now in
    let before = c.bytes.invariant in
    let peeked = looks_at g.R.Read.remaining c.args.bytes.now c.bytes.bytes c.peek.new.self c.bytes.place _ None before.looks c.in_default.is c.in_ok-byte.ensures.peek in
    (peeked.0, seen_end all c.bytes.place c.bytes.in_comment before.remains peeked.1)

pub returns-in-Told-clause-told : goal.returns-in-Told-clause-told
returns-in-Told-clause-told g c =
    let all = unread_bytes g.R.Read.remaining c.args.bytes.now in
    let x = c.in-Some.byte in
    let before = c.bytes.invariant in
    let peeked = looks_at g.R.Read.remaining c.args.bytes.now c.bytes.bytes c.peek.new.self c.bytes.place _ (Some x) before.looks c.in-Some.is c.in_ok-byte.ensures.peek in
    (peeked.0, seen_told all c.bytes.place x c.bytes.in_comment c.in-Told.answer c.bytes-test.true before.remains peeked.1 c.in-Told.ensures)

pub bytes-preserved : goal.bytes-preserved
bytes-preserved g c =
    let x = c.in-Some.byte in
    let before = c.bytes.invariant in
    let peeked = looks_at g.R.Read.remaining c.args.bytes.now c.bytes.bytes c.peek.new.self c.bytes.place _ (Some x) before.looks c.in-Some.is c.in_ok-byte.ensures.peek in
    record {
      looks = looks_more g.R.Read.remaining c.args.bytes.now c.bytes.bytes c.peek.new.self c.bytes.place _ (Some x) before.looks c.in-Some.is c.in_ok-byte.ensures.peek
          refl c.bytes-test.true c.in_ok-byte.ensures.front c.peek.ensures.room;
      remains = seen_later (unread_bytes g.R.Read.remaining c.args.bytes.now) c.bytes.place x c.bytes.in_comment c.in-Later.next c.bytes-test.true before.remains peeked.1 c.in-Later.ensures;
    }

pub returns-clause-told : goal.returns-clause-told
returns-clause-told g c =
    let before = c.bytes.invariant in
    let all = unread_bytes g.R.Read.remaining c.args.bytes.now in
    (before.looks.kept, seen_all all c.bytes.place c.bytes.in_comment (omega (arith, c.bytes-test.false)) before.remains)
