-- Lines that are accepted in turn say true answers.
use Rattle.std.proofs.Common.{◌≡◌, ℕ, Bool, true, cond, ◌&&◌, List, [], ◌∷◌, ◌++◌, Option, Some, None, is_none, refl, sym, ap, ◌∙◌, arith}
use Rattle.std.proofs.lemmas.Bool.{and_parts}
use Rattle.sat_rules.specs.Clauses.{all_true, clause_true, has}
use Rattle.refutation_rules.specs.Sessions.{AllTrue, Fails, Satisfies}
use Rattle.session_checker.specs.Lines.{Held, Line, SessionsAreTrue, after, all_accepted, cause_of, deletes, derives, events_of, fails, gives, gives_up, nothing, satisfies}
use Rattle.session_checker.specs.Refusals.{Refusal}
use Rattle.session_checker.specs.Rules.{AllFollow}
use Rattle.session_checker.proofs.Following.{derived_follows, given_follows, hints_none}
use Rattle.session_checker.proofs.Judging.{core_fails_over, model_holds}

none_is : (o : Option Refusal) → is_none o ≡ true → o ≡ None
none_is o h = grind arith

-- the same assignments satisfy both
abbrev Same : List (List ℕ) → List (List ℕ) → Type 0
Same cs ds = (a : ℕ → Bool) → all_true a cs ≡ all_true a ds

fails_same : (cs ds : List (List ℕ)) (assumed core : List ℕ) → Same cs ds → Fails ds assumed core → Fails cs assumed core
fails_same cs ds assumed core same h = record { part = h.part; fails = λ a t k. h.fails a (sym (same a) ∙ t) k }

satisfies_same : (cs ds : List (List ℕ)) (assumed m : List ℕ) → Same cs ds → Satisfies ds assumed m → Satisfies cs assumed m
satisfies_same cs ds assumed m same h = record {
  found = h.found;
  clauses_true = same h.found ∙ h.clauses_true;
  assumed_true = h.assumed_true;
  values_true = h.values_true;
}

all_more : (a : ℕ → Bool) (cs : List (List ℕ)) (c : List ℕ) → all_true a (cs ++ c ∷ []) ≡ (clause_true a c && all_true a cs)
all_more a [] c = refl
all_more a (d ∷ cs) c = grind (arith, all_more a cs c)

same_more : (cs ds : List (List ℕ)) (c : List ℕ) → Same cs ds → Same (c ∷ cs) (ds ++ c ∷ [])
same_more cs ds c same a = ap (λ (b : Bool). clause_true a c && b) (same a) ∙ sym (all_more a ds c)

-- fewer clauses follow too
fewer_follow : (cs : List (List ℕ)) (f : ℕ → Option (List ℕ)) (ids : List ℕ) → AllFollow cs f → AllFollow cs (λ k. cond (has k ids) None (f k))
fewer_follow cs f ids before i d e a t = grind (arith, before i d, e)

lines_true : (ls : List Line) (h : Held) (cs : List (List ℕ)) → Same cs h.given → AllFollow h.given h.named → all_accepted h ls ≡ true → AllTrue cs (events_of ls)
lines_true [] h cs same sound ok = tt
lines_true (gives i c ∷ ls) h cs same sound ok =
    let p = and_parts (is_none (cause_of h (gives i c))) (all_accepted (after h (gives i c)) ls) ok in
    lines_true ls (after h (gives i c)) (c ∷ cs) (same_more cs h.given c same) (given_follows h.given h.named (after h (gives i c)).named i c (λ k. refl) sound) p.1
lines_true (derives i c ids ∷ ls) h cs same sound ok =
    let p = and_parts (is_none (cause_of h (derives i c ids))) (all_accepted (after h (derives i c ids)) ls) ok in
    lines_true ls (after h (derives i c ids)) cs same
    (derived_follows h.given h.named (after h (derives i c ids)).named i c ids (λ k. refl) (hints_none h.named i c ids (none_is (cause_of h (derives i c ids)) p.0)) sound) p.1
lines_true (deletes ids ∷ ls) h cs same sound ok = lines_true ls (after h (deletes ids)) cs same (fewer_follow h.given h.named ids sound) ok
lines_true (fails assumed core ids ∷ ls) h cs same sound ok =
    let p = and_parts (is_none (cause_of h (fails assumed core ids))) (all_accepted h ls) ok in
    (fails_same cs h.given assumed core same (core_fails_over h.given h.named assumed core ids sound (none_is (cause_of h (fails assumed core ids)) p.0)), lines_true ls h cs same sound p.1)
lines_true (satisfies assumed m ∷ ls) h cs same sound ok =
    let p = and_parts (is_none (cause_of h (satisfies assumed m))) (all_accepted h ls) ok in
    (satisfies_same cs h.given assumed m same (model_holds h.given assumed m (none_is (cause_of h (satisfies assumed m)) p.0)), lines_true ls h cs same sound p.1)
lines_true (gives_up assumed ∷ ls) h cs same sound ok = (tt, lines_true ls h cs same sound ok)

pub sessions_are_true : SessionsAreTrue
sessions_are_true ls ok = lines_true ls nothing [] (λ a. refl) (λ i d e a t. absurd (none_some d e)) ok
  where
    none_some : (d : List ℕ) → None ≡ Some d → ⊥
    none_some d e = grind arith
