-- A loop that adds clauses one after the other, and what it delivers on.
--     added-all, added-more, added-stops      its end, a turn, and a rejection
--     sets-added, covers-added      what follows for the satisfying set
--     adds-more, adds-stop      what is delivered on: at a turn, and at a clause that is rejected or meets a fault
--     AddedDelivered      both over a formula, of which some clauses are left
--     formula-none, formula-more, of-stops, formula-stops, of-all, formula-all      the same over a formula
use Rattle.std.proofs.Common.{◌≡◌, ℕ, false, List, [], ◌∷◌, ◌++◌, map, Option, Some, None, refl, sym, ap, ◌∙◌, subst, append-nil, append_assoc, arith}
use Rattle.std.proofs.lemmas.List.{map-append}
use Rattle.varisat_checker.proofs.Common.{add_clauses, added, added_by, EmitsCall, EmitsCalls, adds, calls_after, NamedStep, EntailsRedundant, Cause}
use Rattle.varisat_checker.proofs.Common.{Outcome, and_then, State, Step, add_clause, emissions_join, AnswersStep, IsCovered, IsFold}
use Rattle.varisat_checker.proofs.Common.{UnlessFailed, CheckerError, CheckFailed, ProofProcessorError, OutOfMemory, unless_failed, Listeners}
use Rattle.varisat_checker.proofs.Common.{Listens, ListensImage, Delivered, DeliveredWhole, beginning-first, beginning-second, ran-append, ran-none}
use Rattle.checker_rules.specs.Emits.{Emits, EmitsBy}
use Rattle.checker_rules.specs.Steps.{step}
use Rattle.checker_rules.proofs.AddedClauses.{formulas_are_fold, formulas_join}
use Rattle.varisat_checker.proofs.CountLemmas.{add-failed}
use Rattle.varisat_checker.specs.Added.{AddedSoFar, EmitsAdded}
use Rattle.varisat_checker.proofs.FailingLemmas.{Answer, err_answer, ok_answer}

-- ---- what is accepted

-- a rejection of the first of two parts is one of both
stops : (o : Outcome) (next : State → Outcome) (e : CheckerError) (w : State) → AnswersStep (err_answer e) o w →
    AnswersStep (err_answer e) (and_then o next) w
stops o next (CheckFailed number msg debug_step) w h = rw h.0 (refl, h.1, h.2)
stops o next _ w h = h

module _ {s u : State} {cs : List (List ℕ)} (p : AddedSoFar s cs u) where
  pub added-all : {w : State} → w ≡ u → AnswersStep ok_answer (add_clauses s cs) w
  added-all is = (ap (λ (o : Outcome). o.refused) p.accepted, is ∙ ap (λ (o : Outcome). o.after) (sym p.accepted))

  -- these clauses, and more
  joined : (ds : List (List ℕ)) → add_clauses s (cs ++ ds) ≡ add_clauses u ds
  joined ds = formulas_join.outcome s cs ds ∙ ap (λ o. and_then o (λ r. add_clauses r ds)) p.accepted

  pub added-more : (c : List ℕ) (w : State) → AnswersStep ok_answer (step u (add_clause c)) w → AddedSoFar s (cs ++ c ∷ []) w
  added-more c w h = grind (arith, add-failed, joined)

  pub added-stops : (c : List ℕ) (ds : List (List ℕ)) (e : CheckerError) (w : State) → AnswersStep (err_answer e) (step u (add_clause c)) w →
      AnswersStep (err_answer e) (add_clauses s (cs ++ c ∷ ds)) w
  added-stops c ds e w h =
      subst (λ o. AnswersStep (err_answer e) o w) (sym (joined (c ∷ ds))) (stops _ (λ r. add_clauses r ds) e w h)

-- what follows for the satisfying set
module _ (s : State) (before : List Step) (cs : List (List ℕ)) (r : Answer) (u : State) where
  pub sets-added : EntailsRedundant s → IsFold before s → AnswersStep r (add_clauses s cs) u →
      UnlessFailed r (IsFold (before ++ map add_clause (added s cs)) u)
  sets-added good fold h = unless_failed (IsFold _) _ (formulas_are_fold.fold s before cs good fold) r u h

  pub covers-added : IsCovered before s → AnswersStep r (add_clauses s cs) u → UnlessFailed r (IsCovered (before ++ map add_clause (added s cs)) u)
  covers-added covered h = unless_failed (IsCovered _) _ (formulas_are_fold.covers s before cs covered) r u h

-- ---- what is emitted

-- some list is emitted by all clauses
one-emission : (s : State) (c : List ℕ) → (es : List NamedStep) × Emits s (add_clause c) es
one-emission s c = by (step s (add_clause c)).refused
  where
    by : (x : Option Cause) → (es : List NamedStep) × EmitsBy x s (add_clause c) es
    by None = (_, refl)
    by (Some cause) = ([], refl)

all-emissions : (s : State) (cs : List (List ℕ)) → (es : List NamedStep) × EmitsCalls s (map adds cs) es
all-emissions s [] = ([], refl)
all-emissions s (c ∷ cs) =
    let a = one-emission s c in
    let b = all-emissions (step s (add_clause c)).after cs in
    (a.0 ++ b.0, (a.0, b.0, a.1, b.1, refl))

-- what a clause emits, and then those after it that are accepted
first-emits : (u : State) (c : List ℕ) (ds : List (List ℕ)) →
    (rest : List NamedStep) × ((es : List NamedStep) → Emits u (add_clause c) es → EmitsAdded u (c ∷ ds) (es ++ rest))
first-emits u c ds = let k = by (step u (add_clause c)).refused in (k.0, λ es h. k.1 es h h)
  where
    by : (x : Option Cause) → (rest : List NamedStep) × ((es : List NamedStep) → EmitsBy x u (add_clause c) es → Emits u (add_clause c) es →
        EmitsCalls u (map adds (added_by x c (added (step u (add_clause c)).after ds))) (es ++ rest))
    by None = let all = all-emissions (step u (add_clause c)).after (added (step u (add_clause c)).after ds) in (all.0, λ es h k. (es, all.0, k, all.1, refl))
    by (Some cause) = ([], λ es h k. append-nil es ∙ h)

-- where it is rejected or the last, it alone
alone-emits : (u : State) (c : List ℕ) (ds : List (List ℕ)) (es : List NamedStep) → ((step u (add_clause c)).refused ≡ None → ds ≡ []) →
    Emits u (add_clause c) es → EmitsAdded u (c ∷ ds) es
alone-emits u c ds es last h = grind arith

-- after the clauses so far, more of them
emits-on : {s u : State} {cs : List (List ℕ)} → AddedSoFar s cs u → (ds : List (List ℕ)) (xs ys : List NamedStep) → EmitsAdded s cs xs →
    EmitsAdded u ds ys → EmitsAdded s (cs ++ ds) (xs ++ ys)
emits-on {s} {u} {cs} p ds xs ys h k =
    let none : (add_clauses s cs).refused ≡ None = ap (λ (o : Outcome). o.refused) p.accepted in
    let same : added s (cs ++ ds) ≡ added s cs ++ added u ds =
    formulas_join.clauses s cs ds none ∙ ap (λ (l : List (List ℕ)). l ++ added (add_clauses s cs).after ds) (sym (formulas_are_fold.accepted s cs none))
    ∙ ap (λ (o : Outcome). added s cs ++ added o.after ds) p.accepted in
    let reached : u ≡ calls_after s (map adds (added s cs)) = ap (λ (o : Outcome). o.after) (sym p.accepted) ∙ formulas_are_fold.state s cs in
    rw (same, map-append) ((emissions_join (Unit {0}) (Unit {0})).calls _ _ _ _ _ h
    (subst (λ (w : State). EmitsCalls w (map adds (added u ds)) ys) reached k))

-- ---- what is delivered on

module _ {P T : Type 0} (listens : Listens P) (listens_image : ListensImage T) (s : State)
    (old : Listeners P T) where
  module _ {u : State} {cs : List (List ℕ)} (p : AddedSoFar s cs u) (mid : Listeners P T)
      (h : DeliveredWhole (EmitsAdded s cs) listens listens_image old mid) (c : List ℕ) (new : Listeners P T) where
    alone : (ds : List (List ℕ)) → ((step u (add_clause c)).refused ≡ None → ds ≡ []) → DeliveredWhole (EmitsCall u (adds c)) listens listens_image mid new →
        DeliveredWhole (EmitsAdded s (cs ++ c ∷ ds)) listens listens_image old new
    alone ds last k = (
      h.0 ++ k.0,
      emits-on p (c ∷ ds) _ _ h.1 (alone-emits _ _ _ _ last k.1),
      ran-append listens listens_image _ _ _ _ _ h.2 k.2,
    )

    -- a clause that was accepted
    pub adds-more : DeliveredWhole (EmitsCall u (adds c)) listens listens_image mid new →
        DeliveredWhole (EmitsAdded s (cs ++ c ∷ [])) listens listens_image old new
    adds-more k = alone [] (λ none. refl) k

    -- a clause at which the loop stops
    pub adds-stop : (ds : List (List ℕ)) (e : CheckerError) (w : State) → AnswersStep (err_answer e) (step u (add_clause c)) w →
        Delivered (err_answer e) (EmitsCall u (adds c)) listens listens_image mid new →
        Delivered (err_answer e) (EmitsAdded s (cs ++ c ∷ ds)) listens listens_image old new
    adds-stop ds (CheckFailed number msg debug_step) w a k = alone ds (λ none. let is = a.0 in absurd cc) k
    adds-stop ds (ProofProcessorError fault) w a k =
        let later = first-emits u c ds in
        let more = EmitsAdded u (c ∷ ds) in
        beginning-second listens listens_image more (EmitsAdded s (cs ++ c ∷ ds)) _ _ _ _ h.2 (λ es. emits-on p (c ∷ ds) _ es h.1)
        (beginning-first listens listens_image (EmitsCall u (adds c)) more _ _ _ later.1 k)
    adds-stop ds OutOfMemory w a k = tt
    adds-stop ds _ w a k = absurd a

-- ---- over a formula

-- the clauses added so far, of a list of which these are left, and what was delivered on of them
pub record AddedDelivered {P T : Type 0} (listens : Listens P) (listens_image : ListensImage T) (s : State)
    (all : List (List ℕ)) (u : State) (rest : List (List ℕ)) (old new : Listeners P T) : Type 0 where
  pub adding : List (List ℕ)
  pub so_far : AddedSoFar s adding u
  pub is : all ≡ adding ++ rest
  pub delivered : DeliveredWhole (EmitsAdded s adding) listens listens_image old new

module _ {P T : Type 0} {listens : Listens P} {listens_image : ListensImage T} {s : State}
    {all rest : List (List ℕ)} {old : Listeners P T} where
  pub formula-none : s.failed ≡ false → rest ≡ all → AddedDelivered listens listens_image s all s rest old old
  formula-none running e = record {
    adding = [];
    so_far = record { running = running; accepted = refl };
    is = sym e;
    delivered = ([], refl, ran-none listens listens_image old);
  }

  module _ {u : State} {mid : Listeners P T} (p : AddedDelivered listens listens_image s all u rest old mid) where
    pub of-all : rest ≡ [] → AnswersStep ok_answer (add_clauses s all) u
    of-all e = rw (p.is, e, append-nil) (added-all p.so_far refl)

    pub formula-all : rest ≡ [] → DeliveredWhole (EmitsAdded s all) listens listens_image old mid
    formula-all e = rw (p.is, e, append-nil) p.delivered

    module _ {c : List ℕ} {left : List (List ℕ)} (e : rest ≡ c ∷ left) where
      pub formula-more : {w : State} {new : Listeners P T} → AnswersStep ok_answer (step u (add_clause c)) w →
          DeliveredWhole (EmitsCall u (adds c)) listens listens_image mid new → AddedDelivered listens listens_image s all w left old new
      formula-more {w} {new} a h = record {
        adding = p.adding ++ c ∷ [];
        so_far = added-more p.so_far c w a;
        is = p.is ∙ rw e (sym (append_assoc p.adding (c ∷ []) left));
        delivered = adds-more listens listens_image _ _ p.so_far _ p.delivered _ _ h;
      }

      pub of-stops : (f : CheckerError) (w : State) → AnswersStep (err_answer f) (step u (add_clause c)) w → AnswersStep (err_answer f) (add_clauses s all) w
      of-stops f w h = rw (p.is, e) (added-stops p.so_far c left f w h)

      pub formula-stops : (f : CheckerError) (w : State) (new : Listeners P T) → AnswersStep (err_answer f) (step u (add_clause c)) w →
          Delivered (err_answer f) (EmitsCall u (adds c)) listens listens_image mid new →
          Delivered (err_answer f) (EmitsAdded s all) listens listens_image old new
      formula-stops f w new a h =
          rw (p.is, e) (adds-stop listens listens_image _ _ p.so_far _ p.delivered _ _ left f w a h)
