-- Buckets that are looked up, and walked as long as that changes something.
use Rattle.std.proofs.Common.{◌≡◌, ℕ, ◌+◌, ◌<◌, nat_eq, Bool, true, false, cond, List, drop, get_or, length, map, Option, None, Some, Result, Ok, Err, OnOk, OnErr, sym}
use Rattle.std.proofs.Common.{◌∙◌, arith, ⊎_elim}
use Rattle.std.proofs.lemmas.Bool.{cases_Bool, eqb-true}
use Rattle.std.proofs.lemmas.List.{drop_more}
use Rattle.checker_rules.specs.Passes.{CheckAnswer, walk_buckets}
use Rattle.clause_store.specs.declared.clauses.Clause.{Clause}
use Rattle.clause_store.specs.declared.clauses.units.UnitClause.{UnitClause}
use Rattle.clause_store.specs.declared.rup.Answer.{Answer}
use Rattle.clause_store.specs.Buckets.{Buckets, clauses_at}
use Rattle.clause_store.specs.Idle.{AreIdle, IsIdleRun, IsIdleSince, Lengthens}
use Rattle.clause_store.specs.Rup.{Walks, WalksFirst, answer_or, check_answer, lits_at, lits_in, named_buckets, true_lits}
use Rattle.clause_store.specs.Trace.{Listing, Lists, named_clauses}
use Rattle.clause_store.specs.View.{stored_in, stored_of}

-- one walk after another
pub lengthens_then : (ids now last : List ℕ) (us vs ws : List (Option UnitClause)) (n m k : ℕ) →
    Lengthens ids us n now vs m → Lengthens now vs m last ws k → Lengthens ids us n last ws k
lengthens_then ids now last us vs ws n m k h g = record {
  no_shorter = omega arith;
  listed = λ e. g.listed (omega arith) ∙ h.listed (omega arith);
  units = λ e. g.units (omega arith) ∙ h.units (omega arith);
}

pub lengthens_then_longer : (ids now last : List ℕ) (us vs ws : List (Option UnitClause)) (n m k : ℕ) →
    Lengthens ids us n now vs m → k ≡ m + 1 → Lengthens ids us n last ws k
lengthens_then_longer ids now last us vs ws n m k h longer = record {
  no_shorter = omega arith;
  listed = λ e. absurd (omega arith);
  units = λ e. absurd (omega arith);
}

-- what was idle before a walk is idle after it, or the trail grew
pub are_idle-walked : (after : Listing) (found : ℕ → Option ℕ) (ids now : List ℕ) (us vs : List (Option UnitClause)) (n m : ℕ) (buffer : List ℕ) (b : Buckets) →
    Lengthens ids us n now vs m → AreIdle found n (λ h. IsIdleRun after ids us (stored_in buffer b h)) →
    AreIdle found m (λ h. IsIdleRun after now vs (stored_in buffer b h))
are_idle-walked after found ids now us vs n m buffer b g f h k e =
    let since = f h k e in
    record {
      no_later = omega arith;
      idle = λ at. let still : m ≡ n = omega arith in rw (g.listed still, g.units still) (since.idle (cc));
    }

-- a bucket is idle after its walk, or the trail grew
pub is_idle_since-walked : (after : Listing) (ids now : List ℕ) (us vs : List (Option UnitClause)) (n m : ℕ) (cs : List Clause) (buffer : List ℕ) (b : Buckets) (h : ℕ)
    (falsified : Bool) → clauses_at b h ≡ cs → Lengthens ids us n now vs m → falsified ≡ false →
    Walks us (lits_in buffer cs) vs falsified → Lists after ids us (map (stored_of buffer) cs) now vs falsified →
    IsIdleSince n m (IsIdleRun after now vs (stored_in buffer b h))
is_idle_since-walked after ids now us vs n m cs buffer b h falsified found g none w l = record {
  no_later = g.no_shorter;
  idle = λ e.
      let u = g.units (sym e) in let i = g.listed (sym e) in
      rw (found, u, i) (record { walk = rw (u, none) at w; listed = rw (u, i, none) at l });
}

are_idle-added : (found more : ℕ → Option ℕ) (n now h : ℕ) (Idle : ℕ → Type 0) → ((k : ℕ) → more k ≡ cond (nat_eq h k) (Some n) (found k)) →
    IsIdleSince n now (Idle h) → AreIdle found now Idle → AreIdle more now Idle
are_idle-added found more n now h Idle added here f k m e =
    ⊎_elim
    (λ (s : nat_eq h k ≡ true). let at : n ≡ m = cc (added k, e, s) in rw (← eqb-true h k s, ← at) here)
    (λ (s : nat_eq h k ≡ false). f k m (cc (added k, e, s))) (cases_Bool (nat_eq h k))

-- a bucket is noted, unless memory is refused
pub are_idle-noted : {T E : Type 0} (r : Result T E) (found more : ℕ → Option ℕ) (n now h : ℕ) (Idle : ℕ → Type 0) →
    OnOk r ((k : ℕ) → more k ≡ cond (nat_eq h k) (Some n) (found k)) → OnErr r ((k : ℕ) → more k ≡ found k) →
    IsIdleSince n now (Idle h) → AreIdle found now Idle → AreIdle more now Idle
are_idle-noted (Ok x) found more n now h Idle ok err here f = are_idle-added _ _ n now h _ ok here f
are_idle-noted (Err y) found more n now h Idle ok err here f = λ k m e. f k m (cc (err k))

-- the walk over the bucket at hand, before those that are left
first-cut : (buffer : List ℕ) (m : Buckets) (us vs : List (Option UnitClause)) (hs : List ℕ) (i : ℕ) (end : Option Answer) (answer : CheckAnswer) →
    i < length hs → WalksFirst us (lits_at buffer m (get_or hs i 0)) vs end →
    walk_buckets (true_lits us) (named_buckets buffer m (drop i hs)) ≡ answer →
    answer_or end (walk_buckets (true_lits vs) (named_buckets buffer m (drop (i + 1) hs))) ≡ answer
first-cut buffer m us vs hs i end answer less h e =
    cc (h (named_buckets buffer m (drop (i + 1) hs)), drop_more hs i 0 less)

pub first-ended : (buffer : List ℕ) (m : Buckets) (us vs : List (Option UnitClause)) (hs : List ℕ) (i : ℕ) (end : Option Answer) (a : Answer) (answer : CheckAnswer) →
    i < length hs → end ≡ Some a → WalksFirst us (lits_at buffer m (get_or hs i 0)) vs end →
    walk_buckets (true_lits us) (named_buckets buffer m (drop i hs)) ≡ answer → check_answer a ≡ answer
first-ended buffer m us vs hs i end a answer less is h e =
    cc (first-cut buffer m us vs hs i end answer less h e)

pub first-walked : (buffer : List ℕ) (m : Buckets) (us vs : List (Option UnitClause)) (hs : List ℕ) (i : ℕ) (end : Option Answer) (answer : CheckAnswer) →
    i < length hs → end ≡ None → WalksFirst us (lits_at buffer m (get_or hs i 0)) vs end →
    walk_buckets (true_lits us) (named_buckets buffer m (drop i hs)) ≡ answer →
    walk_buckets (true_lits vs) (named_buckets buffer m (drop (i + 1) hs)) ≡ answer
first-walked buffer m us vs hs i end answer less is h e =
    cc (first-cut buffer m us vs hs i end answer less h e)

-- what is listed of the bucket at hand
pub listed-ended : (after : Listing) (buffer : List ℕ) (m : Buckets) (ids now : List ℕ) (us vs : List (Option UnitClause)) (hs : List ℕ) (i : ℕ) (last : Option (List ℕ)) →
    i < length hs → Lists after ids us (stored_in buffer m (get_or hs i 0)) now vs true →
    after ids us (named_clauses buffer m (drop i hs)) ≡ last → last ≡ Some now
listed-ended after buffer m ids now us vs hs i last less h e =
    cc (drop_more hs i 0 less, h (named_clauses buffer m (drop (i + 1) hs)))

pub listed-walked : (after : Listing) (buffer : List ℕ) (m : Buckets) (ids now : List ℕ) (us vs : List (Option UnitClause)) (hs : List ℕ) (i : ℕ) (last : Option (List ℕ)) →
    i < length hs → Lists after ids us (stored_in buffer m (get_or hs i 0)) now vs false →
    after ids us (named_clauses buffer m (drop i hs)) ≡ last → after now vs (named_clauses buffer m (drop (i + 1) hs)) ≡ last
listed-walked after buffer m ids now us vs hs i last less h e =
    cc (h (named_clauses buffer m (drop (i + 1) hs)), drop_more hs i 0 less)
