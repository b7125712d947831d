use Rattle.session_checker.proofs.MeetingLemmas.{members_added}
use Rattle.session_checker.proofs.given.GivenClauses.add.Goals as goal

pub invariant_of-self : goal.invariant_of-self
invariant_of-self c = record {
  members = members_added c.args.self.now.met_by.items c.args.self.now.clauses c.add.new.self c.args.clause.now c.add.result c.args.self.now.members c.add.ensures.ok c.add.ensures.err;
}
