-- The answer of the check is that of the rules, and the state in which a clause is checked.
use Rattle.std.proofs.Common.{◌≡◌, ℕ, ◌≤◌, Bool, true, false, cond, List, [], ◌∷◌, length, map, filter, Option, All, refl, sym, ap, ◌∙◌, arith}
use Rattle.std.specs.List.{list_all}
use Rattle.std.specs.Option.{option_map}
use Rattle.std.proofs.lemmas.Bool.{and_parts}
use Rattle.std.proofs.lemmas.List.{length-map}
use Rattle.std.proofs.lemmas.List.Elements.{All-cons, All-nil}
use Rattle.std.proofs.lemmas.Bool.Decides.{nat_tests}
use Rattle.sat_rules.specs.Clauses.{is_canonical, is_tautology}
use Rattle.checker_rules.specs.Canonical.{var_bound}
use Rattle.checker_rules.specs.Exact.{AllCanonical, walk_check}
use Rattle.checker_rules.specs.State.{Known, State, Stored, bucket, buckets}
use Rattle.checker_rules.specs.Traced.{bucket_entries, walked, check_trace}
use Rattle.checker_rules.specs.WellFormed.{WellFormed, is_fine}
use Rattle.checker_rules.proofs.Exacts.{check_exact}
use Rattle.checker_rules.specs.Check.{apply_if_named, apply_pending, check, ready, some_pending_name}
use Rattle.checker_rules.specs.Outcome.{Outcome, accept, at_check_failed, no_clause_for_hash, refuse}
use Rattle.checker_rules.proofs.StepForms.{form-ready}
use Rattle.clause_store.specs.declared.clauses.Clause.{Clause}
use Rattle.clause_store.specs.declared.clauses.Clauses.{Clauses}
use Rattle.clause_store.specs.declared.clauses.units.UnitClause.{UnitClause}
use Rattle.clause_store.specs.declared.hash.ClauseHasher.{ClauseHasher}
use Rattle.clause_store.specs.declared.rup.Answer.{Answer}
use Rattle.clause_store.specs.declared.rup.Answer.TheVariants.{Passed, NoClauseForHash, Failed}
use Rattle.clause_store.specs.declared.state.CheckerState.{CheckerState}
use Rattle.clause_store.specs.Buckets.{clauses_at}
use Rattle.clause_store.specs.CheckLaw.{AnswersCheck, CheckIsByRules}
use Rattle.clause_store.specs.Lits.{lits_of}
use Rattle.clause_store.specs.Rup.{AreAllKnown, check_answer, clause_answer, named_buckets}
use Rattle.clause_store.specs.StateOf.{IsBucketed, state_of, stored_unit, stored_units}
use Rattle.clause_store.specs.Trace.{named_clauses, clause_trace, last_trace}
use Rattle.clause_store.specs.Units.{AreKnown}
use Rattle.clause_store.specs.View.{stored_list, stored_of}
use Rattle.clause_store.specs.Store.{IsStore}

fine_parts : (n : ℕ) (e : Stored) → is_fine n e ≡ true → (is_canonical e.lits ≡ true) × (var_bound e.lits ≤ n)
fine_parts n e h = grind (arith, nat_tests)

all_canonical : (n : ℕ) (es : List Stored) → list_all (is_fine n) es ≡ true → list_all (λ e. is_canonical e.lits) es ≡ true
all_canonical n [] h = refl
all_canonical n (e ∷ es) h = grind (arith, fine_parts n e, all_canonical n es)

list_all-filter : {A : Type 0} (p q : A → Bool) (xs : List A) → list_all p xs ≡ true → list_all p (filter q xs) ≡ true
list_all-filter p q [] h = refl
list_all-filter p q (x ∷ xs) h = grind (arith, list_all-filter p q xs)

known-fine : (us : List (Option UnitClause)) (n : ℕ) (buffer : List ℕ) (xs : List Clause) → n ≡ length us →
    list_all (is_fine n) (map (stored_of buffer) xs) ≡ true → All (λ c. AreKnown us (lits_of c.lits buffer)) xs
known-fine us n buffer [] e h = All-nil (λ c. AreKnown us (lits_of c.lits buffer))
known-fine us n buffer (x ∷ xs) e h =
    let p = and_parts _ _ h in
    All-cons (λ c. AreKnown us (lits_of c.lits buffer)) x xs (rw (← e) (fine_parts n (stored_of buffer x) p.0).1) (known-fine us n buffer xs e p.1)

all_known : (st : CheckerState) (h : ClauseHasher) (cs : Clauses) (known : List Known) → IsBucketed h cs →
    WellFormed (state_of st h cs known) → AreAllKnown cs.unit_clauses cs.literal_buffer.items cs.buckets
all_known st h cs known tied form k =
    known-fine cs.unit_clauses (length known) cs.literal_buffer.items (clauses_at cs.buckets k) (cc (length-map cs.unit_clauses (option_map stored_unit)))
    (rw (tied k) (list_all-filter (is_fine (length known)) _ (stored_list cs) form.fine))

named-is : (st : CheckerState) (h : ClauseHasher) (cs : Clauses) (known : List Known) (hs : List ℕ) → IsBucketed h cs →
    named_buckets cs.literal_buffer.items cs.buckets hs ≡ buckets (state_of st h cs known) hs
unfolding bucket
named-is st h cs known [] tied = refl
named-is st h cs known (k ∷ hs) tied = cc (tied k, named-is st h cs known hs tied)

walk-is : (st : CheckerState) (h : ClauseHasher) (cs : Clauses) (known : List Known) (c hs : List ℕ) → IsBucketed h cs →
    clause_answer (stored_units cs.unit_clauses) c (named_buckets cs.literal_buffer.items cs.buckets hs) ≡
    walk_check (state_of st h cs known) c hs
walk-is st h cs known c hs tied = cc (named-is st h cs known hs tied)

answers : (s : State) (c hs : List ℕ) (a : Answer) → AllCanonical s → is_tautology c ≡ false → check_answer a ≡ walk_check s c hs → AnswersCheck s c hs a
answers s c hs Passed can apart e = (check_exact s c hs can apart).passes.0 (sym e)
answers s c hs NoClauseForHash can apart e = (check_exact s c hs can apart).no_clause.0 (sym e)
answers s c hs Failed can apart e = (check_exact s c hs can apart).failed.0 (sym e)

named-walked : (st : CheckerState) (h : ClauseHasher) (cs : Clauses) (known : List Known) (hs : List ℕ) → IsBucketed h cs →
    named_clauses cs.literal_buffer.items cs.buckets hs ≡ walked (state_of st h cs known) hs
unfolding bucket_entries
named-walked st h cs known [] tied = refl
named-walked st h cs known (k ∷ hs) tied =
    cc (tied k, named-walked st h cs known hs tied)

pub check_is_by_rules : CheckIsByRules
check_is_by_rules = record {
  all_known = all_known;
  walk = walk-is;
  answers = λ st h cs known c hs a tied form apart e. answers _ c hs a (all_canonical (length known) (stored_list cs) form.fine) apart (e ∙ walk-is st h cs _ c hs tied);
  trace = λ st h cs known c hs tied. cc (named-walked st h cs known hs tied);
}

-- names change no unit
pub pending-units : (s : State) → (apply_if_named s).units ≡ s.units
pending-units s = elim (some_pending_name s) as (λ b. (cond b (apply_pending s) s).units ≡ s.units) [ true ↦ refl | false ↦ refl ]

length-stored : (us : List (Option UnitClause)) → length (stored_units us) ≡ length us
length-stored us = length-map us _

-- the units and the variables are as many after names were applied
pub pending-length : (st : CheckerState) (h h' : ClauseHasher) (cs cs' : Clauses) (known : List Known) →
    WellFormed (state_of st h cs known) → state_of st h' cs' known ≡ apply_if_named (state_of st h cs known) →
    length cs'.unit_clauses ≡ length known
pending-length st h h' cs cs' known form e =
    let s = state_of st h cs known in
    let same : stored_units cs'.unit_clauses ≡ stored_units cs.unit_clauses = cc (pending-units s) in
    cc (length-stored cs'.unit_clauses)

-- the form of the state in which the clause is checked
pub ready-form : (s t : State) (c : List ℕ) → WellFormed s → t ≡ ready s c → WellFormed t
ready-form s t c form e = rw e (form-ready s c form)

-- there the variables of the stored clauses are known
pub ready-known : (st : CheckerState) (h : ClauseHasher) (cs : Clauses) (known : List Known) → IsStore h cs →
    WellFormed (state_of st h cs known) → AreAllKnown cs.unit_clauses cs.literal_buffer.items cs.buckets
ready-known st h cs known store form = check_is_by_rules.all_known st h cs known store.filed.bucketed form

-- the outcome by what was found
abbrev pub outcome_of : Answer → State → Outcome
outcome_of Passed t = accept t
outcome_of NoClauseForHash t = refuse no_clause_for_hash t
outcome_of Failed t = refuse at_check_failed t

check-is : (s : State) (c hs : List ℕ) (a : Answer) → AnswersCheck (ready s c) c hs a → check s c hs accept ≡ outcome_of a (ready s c)
check-is s c hs Passed e = cc
check-is s c hs NoClauseForHash e = cc
check-is s c hs Failed e = cc

-- what the check found, in the state in which the clause is checked, with the units of before
pub ready-outcome : (st : CheckerState) (h : ClauseHasher) (cs : Clauses) (known : List Known) (buffer c hs : List ℕ) (a : Answer)
    (us : List (Option UnitClause)) (s : State) → IsStore h cs → WellFormed s → state_of st h cs known ≡ ready s c → is_tautology c ≡ false
    → buffer ≡ cs.literal_buffer.items → check_answer a ≡ clause_answer (stored_units cs.unit_clauses) c (named_buckets buffer cs.buckets hs)
    → us ≡ cs.unit_clauses → check s c hs accept ≡ outcome_of a (state_of st h (record cs { unit_clauses = us }) known)
ready-outcome st h cs known buffer c hs a us s store form here apart whole e same =
    let answers = check_is_by_rules.answers st h cs known c hs a store.filed.bucketed (ready-form s (state_of st h cs known) c form here) apart (rw whole at e) in
    rw (same, here) (check-is s c hs a (rw here at answers))

-- so the answer is that of the rules
pub ready-answers : (st : CheckerState) (h : ClauseHasher) (cs : Clauses) (known : List Known) (buffer c hs : List ℕ) (a b : Answer)
    (us : List (Option UnitClause)) (s : State) → IsStore h cs → WellFormed s → state_of st h cs known ≡ ready s c → is_tautology c ≡ false
    → buffer ≡ cs.literal_buffer.items → check_answer a ≡ clause_answer (stored_units cs.unit_clauses) c (named_buckets buffer cs.buckets hs)
    → us ≡ cs.unit_clauses → a ≡ b → let o = outcome_of b (state_of st h (record cs { unit_clauses = us }) known) in
    ((check s c hs accept).refused ≡ o.refused) × (o.after ≡ (check s c hs accept).after)
ready-answers st h cs known buffer c hs a b us s store form here apart whole e same is =
    let o = rw is at (ready-outcome st h cs known buffer c hs a us s store form here apart whole e same) in (ap (λ x. x.refused) o, sym (ap (λ x. x.after) o))

-- the ids that a traced check leaves where it passes
pub ready-trace : (st : CheckerState) (h : ClauseHasher) (cs : Clauses) (known : List Known) (buffer c hs before now : List ℕ) (a : Answer)
    (traced : Bool) (s : State) → IsStore h cs → state_of st h cs known ≡ ready s c → buffer ≡ cs.literal_buffer.items
    → a ≡ Passed → traced ≡ true → now ≡ last_trace traced a (clause_trace (stored_units cs.unit_clauses) c (named_clauses buffer cs.buckets hs)) before → now ≡ check_trace (ready s c) c hs
ready-trace st h cs known buffer c hs before now a traced s store here whole passed on e =
    cc (check_is_by_rules.trace st h cs known c hs store.filed.bucketed)
