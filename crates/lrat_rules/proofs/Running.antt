-- What a list of lines keeps and refutes.
use Rattle.std.proofs.Common.{◌≡◌, ℕ, suc, Bool, true, false, ◌||◌, List, [], ◌∷◌, ◌++◌, Some, refl, subst, inl, inr, arith}
use Rattle.std.proofs.lemmas.Bool.{and_parts, or_cases, false≢true}
use Rattle.sat_rules.specs.Clauses.{all_true, clause_true}
use Rattle.sat_rules.specs.Named.{Item}
use Rattle.lrat_rules.specs.Laws.{IsModel, IsSatisfiable, RunsJoin, RunsKeepModels, RupRunsFollow, all_rup}
use Rattle.lrat_rules.specs.Lines.{Line, RunsRefute, adds, adds_empty, deletes, has_empty, refutes, run, step}
use Rattle.lrat_rules.specs.Stores.{clauses_of, formula_store, numbered}
use Rattle.lrat_rules.proofs.Stepping.{added, line_keeps, rup_line_keeps}

pub runs_keep : RunsKeepModels
runs_keep st su [] h sat = let e : st ≡ su = cc in rw (← e) sat
runs_keep st su (l ∷ ls) h sat = grind (arith, λ (r : List Item) (w : step st l ≡ Some r) (k : run r ls ≡ Some su). runs_keep r su ls k (line_keeps st r l w sat))

formula_model : (n : ℕ) (cs : List (List ℕ)) (a : ℕ → Bool) → all_true a cs ≡ true → IsModel a (numbered n cs)
formula_model n [] a h = refl
formula_model n (c ∷ cs) a h = grind (arith, formula_model (suc n) cs a)

-- after the empty clause nothing satisfies the store
empty_ends : (st su : List Item) (l : Line) → adds_empty l ≡ true → step st l ≡ Some su → IsSatisfiable su → ⊥
empty_ends st su (adds i [] hs) e h sat = false≢true (and_parts false (all_true sat.0 (clauses_of st)) (subst (IsModel sat.0) (added st su i [] hs h).1 sat.1)).0
empty_ends st su (adds i (m ∷ ms) hs) e h sat = false≢true e
empty_ends st su (deletes is) e h sat = false≢true e

refuted : (st : List Item) (ls : List Line) → refutes st ls ≡ true → IsSatisfiable st → ⊥
refuted st [] h sat = false≢true h
refuted st (l ∷ ls) h sat =
    let keeps : (r : List Item) → step st l ≡ Some r → IsSatisfiable r = λ r w. line_keeps st r l w sat in
    grind (arith, keeps, λ (r : List Item). empty_ends st r l, λ (r : List Item). refuted r ls)

-- no assignment makes an empty clause true
empty_is_false : (cs : List (List ℕ)) → has_empty cs ≡ true → (a : ℕ → Bool) → all_true a cs ≡ true → ⊥
empty_is_false [] e a t = false≢true e
empty_is_false ([] ∷ cs) e a t = false≢true t
empty_is_false ((l ∷ ls) ∷ cs) e a t = empty_is_false cs e a (and_parts (clause_true a (l ∷ ls)) (all_true a cs) t).1

pub runs_refute : RunsRefute
runs_refute cs ls h a t = elim (or_cases (has_empty cs) (refutes (formula_store cs) ls) h) [
  | inl e ↦ empty_is_false cs e a t
  | inr r ↦ refuted (formula_store cs) ls r (a, formula_model 1 cs a t)
]

follows : (st su : List Item) (ls : List Line) (a : ℕ → Bool) → run st ls ≡ Some su → all_rup st ls ≡ true → IsModel a st → IsModel a su
follows st su [] a h r m = let e : st ≡ su = cc in rw (← e) m
follows st su (l ∷ ls) a h r m = grind (arith, λ (q : List Item). rup_line_keeps st q l a, λ (q : List Item). follows q su ls a)

pub rup_runs_follow : RupRunsFollow
rup_runs_follow cs su ls h r a t = follows (formula_store cs) su ls a h r (formula_model 1 cs a t)

run_joins : (st su : List Item) (ls ms : List Line) → run st ls ≡ Some su → run st (ls ++ ms) ≡ run su ms
run_joins st su [] ms h = let e : st ≡ su = cc in rw e
run_joins st su (l ∷ ls) ms h = grind (arith, λ (r : List Item). run_joins r su ls ms)

refutes_joins : (st su : List Item) (ls ms : List Line) → run st ls ≡ Some su → refutes st (ls ++ ms) ≡ (refutes st ls || refutes su ms)
refutes_joins st su [] ms h = let e : st ≡ su = cc in rw e
refutes_joins st su (l ∷ ls) ms h = grind (arith, λ (r : List Item). refutes_joins r su ls ms)

pub runs_join : RunsJoin
runs_join = record { run_on = run_joins; refutes_on = refutes_joins }
