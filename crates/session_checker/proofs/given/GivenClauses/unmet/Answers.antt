use Rattle.std.proofs.Common.{◌≡◌, ◌<◌, ◌+◌, ℕ, suc, true, List, [], Some, None, get_or, drop, length, refl, ap, ◌∙◌, arith}
use Rattle.std.specs.List.{find, list_any}
use Rattle.sat_rules.proofs.Members.{any_from}
use Rattle.clause_table.specs.Values.{among}
use Rattle.session_checker.specs.Refusals.{clause_cause}
use Rattle.session_checker.proofs.MeetingLemmas.{find_in, find_none, find_true, met_here, run_from, unmet_here}
use Rattle.session_checker.proofs.given.GivenClauses.unmet.Goals as goal

pub clauses-init : goal.clauses-init
clauses-init c =
    let given = c.args.self.now in
    record {
      kept = c.still_met-number.ensures.kept;
      clauses = refl;
      cause = run_from (among c.args.values.now) given.met_by.items given.clauses 0 c.still_met-number.result given.members c.still_met-number.ensures.run;
    }

pub returns-in_default-clause-unmet : goal.returns-in_default-clause-unmet
returns-in_default-clause-unmet c =
    let s = among c.args.values.now in
    let cs = c.clauses.self.clauses in
    let n = c.clauses.number in
    let within : n < length cs = omega (arith, c.clauses-test.true, c.len.ensures) in
    let none : find s (get_or cs n []) ≡ None = cc (c.get.ensures, c.in_default.ensures) in
    unmet_here s cs n (clause_cause 1 s c.args.self.now.clauses) within (find_none s (get_or cs n []) none) c.clauses.invariant.cause

pub remember-requires-clause-member : goal.remember-requires-clause-member
remember-requires-clause-member c =
    let s = among c.args.values.now in
    let cs = c.clauses.self.clauses in
    let n = c.clauses.number in
    let found : find s (get_or cs n []) ≡ Some c.in-Some.lit = cc (c.get.ensures, c.in-Some.ensures) in
    find_in s (get_or cs n []) c.in-Some.lit found

pub clauses-preserved : goal.clauses-preserved
clauses-preserved c =
    let s = among c.args.values.now in
    let cs = c.clauses.self.clauses in
    let n = c.clauses.number in
    let clause = get_or cs n [] in
    let new = c.remember.new.self in
    let within : n < length cs = omega (arith, c.clauses-test.true, c.len.ensures) in
    let found : find s (get_or cs n []) ≡ Some c.in-Some.lit = cc (c.get.ensures, c.in-Some.ensures) in
    let met : list_any s clause ≡ true = any_from s clause c.in-Some.lit (find_in s clause c.in-Some.lit found) (find_true s clause c.in-Some.lit found) in
    record {
      kept = c.still_met-number-in-clauses.ensures.kept;
      clauses = c.in_ok-remember.ensures.clauses ∙ c.clauses.invariant.clauses;
      cause = run_from s new.met_by.items new.clauses (n + 1) c.still_met-number-in-clauses.result new.members c.still_met-number-in-clauses.ensures.run
          ∙ ap (λ (ds : List (List ℕ)). clause_cause (suc (n + 1)) s (drop (n + 1) ds)) c.in_ok-remember.ensures.clauses
          ∙ met_here s cs n (clause_cause 1 s c.args.self.now.clauses) within met c.clauses.invariant.cause;
    }
