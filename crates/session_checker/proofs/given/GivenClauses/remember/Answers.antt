use Rattle.std.proofs.Common.{◌≡◌, ◌<◌, ℕ, List, is_ok, length, ap, ◌∙◌, arith}
use Rattle.session_checker.specs.Meeting.{are_members}
use Rattle.session_checker.proofs.MeetingLemmas.{members_pushed, members_put, put_set}
use Rattle.session_checker.proofs.given.GivenClauses.remember.Goals as goal

pub invariant_of-self : goal.invariant_of-self
invariant_of-self c =
    let s = c.args.self.now in
    let below : c.args.number < length s.met_by.items = omega (arith, c.if-number-len.true, c.len.ensures, s.met_by.ok.0) in
    record {
      members = ap (λ (ls : List ℕ). are_members ls s.clauses) (put_set c.args.number c.args.lit s.met_by.items below)
          ∙ members_put c.args.number c.args.lit s.met_by.items s.clauses s.members c.requires.next c.requires.within c.requires.member;
    }

pub invariant_of-self-else-number-len : goal.invariant_of-self-else-number-len
invariant_of-self-else-number-len c =
    let s = c.args.self.now in
    let last : length s.met_by.items ≡ c.args.number = omega (arith, c.if-number-len.false, c.len.ensures, s.met_by.ok.0, c.requires.next) in
    record {
      members = members_pushed (is_ok c.push.result) c.args.number c.args.lit s.met_by.items c.push.new.self.items s.clauses s.members c.push.ensures.items last
          c.requires.within c.requires.member;
    }

pub returns-then-number-len-clause-ok : goal.returns-then-number-len-clause-ok
returns-then-number-len-clause-ok c =
    let s = c.args.self.now in
    put_set c.args.number c.args.lit s.met_by.items (omega (arith, c.if-number-len.true, c.len.ensures, s.met_by.ok.0))
