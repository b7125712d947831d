-- What an accepted line keeps.
use Rattle.std.proofs.Common.{◌≡◌, ℕ, Bool, true, cond, not, ◌||◌, List, [], ◌∷◌, filter, Some, is_none, refl, arith}
use Rattle.std.proofs.lemmas.Bool.{and_parts, and_from}
use Rattle.sat_rules.specs.Clauses.{all_true, clause_true, has}
use Rattle.sat_rules.specs.Named.{Item}
use Rattle.lrat_rules.specs.Laws.{IsModel, IsSatisfiable, LinesKeepModels, flip_pivot, is_rup, repaired}
use Rattle.lrat_rules.specs.Lines.{Hint, Line, accepts, adds, by_rat, by_rup, deletes, step}
use Rattle.lrat_rules.specs.Stores.{clauses_of, find, without_ids}
use Rattle.lrat_rules.proofs.Flipping.{rat_flips}
use Rattle.lrat_rules.proofs.Propagating.{rup_sound}

-- an accepted addition
pub added : (st su : List Item) (i : ℕ) (c : List ℕ) (hs : List Hint) → step st (adds i c hs) ≡ Some su → (accepts st (adds i c hs) ≡ true) × (su ≡ record { id = i; lits = c } ∷ st)
added st su i c hs h = grind arith

kept_model : (a : ℕ → Bool) (q : Item → Bool) (st : List Item) → IsModel a st → IsModel a (filter q st)
kept_model a q [] m = refl
kept_model a q (x ∷ st) m = grind (arith, kept_model a q st)

-- the new clause under the repaired assignment, with the stored ones
clause_repaired : (st : List Item) (c : List ℕ) (hs : List Hint) → (by_rup st c hs || by_rat st c hs) ≡ true → (a : ℕ → Bool) → IsModel a st →
    (clause_true (cond (clause_true a c) a (flip_pivot a c)) c ≡ true) × IsModel (cond (clause_true a c) a (flip_pivot a c)) st
clause_repaired st c hs h a m = grind (arith, λ (rup : by_rup st c hs ≡ true). rup_sound st c hs rup a m, λ (rat : by_rat st c hs ≡ true). rat_flips st c hs rat a m)

pub line_repairs : (st su : List Item) (l : Line) → step st l ≡ Some su → (a : ℕ → Bool) → IsModel a st → IsModel (repaired a l) su
line_repairs st su (adds i c hs) h a m =
    let t = added st su i c hs h in
    let r = clause_repaired st c hs (and_parts (is_none (find st i)) (by_rup st c hs || by_rat st c hs) t.0).1 a m in
    rw t.1 (and_from (clause_true (repaired a (adds i c hs)) c) (all_true (repaired a (adds i c hs)) (clauses_of st)) r.0 r.1)
line_repairs st su (deletes is) h a m =
    let e : without_ids is st ≡ su = cc in
    rw (← e) (kept_model a (λ x. not (has x.id is)) st m)

pub line_keeps : (st su : List Item) (l : Line) → step st l ≡ Some su → IsSatisfiable st → IsSatisfiable su
line_keeps st su l h sat = (repaired sat.0 l, line_repairs st su l h sat.0 sat.1)

pub lines_keep : LinesKeepModels
lines_keep = record { rup = rup_sound; repairs = line_repairs; keeps = line_keeps }

-- a line without a pivot leaves the assignment
repaired_same : (st : List Item) (l : Line) (a : ℕ → Bool) → is_rup st l ≡ true → IsModel a st → repaired a l ≡ a
repaired_same st (adds i c hs) a h m = rw (rup_sound st c hs h a m)
repaired_same st (deletes is) a h m = refl

pub rup_line_keeps : (st su : List Item) (l : Line) (a : ℕ → Bool) → is_rup st l ≡ true → step st l ≡ Some su → IsModel a st → IsModel a su
rup_line_keeps st su l a r h m = rw (repaired_same st l a r m) at (line_repairs st su l h a m)
