use Rattle.std.proofs.Common.{List, ℕ, ap, sym, ◌∙◌}
use Rattle.std.specs.List.{list_any}
use Rattle.std.specs.Str.{bytes_eq}
use Rattle.join_check.specs.Carriers.{subjects_to}
use Rattle.join_check.specs.Digests.{is_shown}
use Rattle.join_check.proofs.Digesting.{all_shown, next_digest, none_left, reaches_refuted}
use Rattle.join_check.proofs.digests.ShownDigests.of.Goals as goal

pub digests-init : goal.digests-init
digests-init c = rw c.in_ok-left.ensures (reaches_refuted c.args.receipts.now (is_shown record { digests = c.new.result }) (λ digest. ap (λ (keys : List (List ℕ)). list_any (bytes_eq digest) keys) c.new.ensures.empty))

pub digests-preserved : goal.digests-preserved
digests-preserved c =
    (next_digest c.args.receipts.now (is_shown c.digests.shown) (is_shown c.add.new.self) c.in-Some.digest c.in_ok-add.ensures.digests
    c.digests.left.items c.pop.new.self.items c.add.new.left.items (subjects_to c.in_ok-carriers.carriers c.in-Some.digest) c.digests.invariant c.in-Some.ensures.items (c.in_ok-carriers.ensures c.in-Some.digest) c.in_ok-add.ensures.left).0

pub digests-smaller : goal.digests-smaller
digests-smaller c =
    (next_digest c.args.receipts.now (is_shown c.digests.shown) (is_shown c.add.new.self) c.in-Some.digest c.in_ok-add.ensures.digests
    c.digests.left.items c.pop.new.self.items c.add.new.left.items (subjects_to c.in_ok-carriers.carriers c.in-Some.digest) c.digests.invariant c.in-Some.ensures.items (c.in_ok-carriers.ensures c.in-Some.digest) c.in_ok-add.ensures.left).1

pub returns : goal.returns
returns c =
    let reaches = none_left c.args.receipts.now (is_shown c.digests.shown) c.digests.left.items c.digests.invariant (sym c.digests.left.ok.0 ∙ c.in_default.ensures.cases.0) in
    record {
      sound = reaches.sound;
      whole = λ digest h. all_shown c.args.receipts.now (is_shown c.digests.shown) reaches digest h.0 h.1;
    }
