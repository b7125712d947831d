-- The lines of clauses, written one after the other.
use Rattle.std.proofs.Common.{◌≡◌, ℕ, List, [], ◌∷◌, ◌++◌, Option, append_assoc, subst}
use Rattle.std.specs.Io.KnownBytes.{Appends}
use Rattle.std.proofs.KnownBytes.{Appends-trans}
use Rattle.whole_writes.specs.Beginnings.{AppendsBeginning}
use Rattle.sat_output.specs.FormulaTexts.{clause_text, clauses_text, formula_text, header_text}
use Rattle.sat_output.proofs.Beginnings.{begins_front, begins_past}

-- the lines so far, and those still to come
abbrev pub Written : Option (List ℕ) → Option (List ℕ) → List (List ℕ) → List (List ℕ) → Type 0
Written old now left all = (done : List ℕ) × Appends old now done × (done ++ clauses_text left ≡ clauses_text all)

clause_first : (done clause : List ℕ) (rest left all : List (List ℕ)) → left ≡ clause ∷ rest → done ++ clauses_text left ≡ clauses_text all →
    (done ++ (clause_text clause ++ 10 ∷ [])) ++ clauses_text rest ≡ clauses_text all
clause_first done clause rest left all steps so_far = simp append_assoc (simp append_assoc at (rw steps at so_far))

pub one_written : (old now new : Option (List ℕ)) (clause : List ℕ) (rest left all : List (List ℕ)) → Written old now left all → left ≡ clause ∷ rest →
    Appends now new (clause_text clause ++ 10 ∷ []) → Written old new rest all
one_written old now new clause rest left all p steps line =
    (p.0 ++ (clause_text clause ++ 10 ∷ []), Appends-trans old now new p.0 (clause_text clause ++ 10 ∷ []) p.1 line, clause_first p.0 clause rest left all steps p.2)

pub one_begun : (old now new : Option (List ℕ)) (clause : List ℕ) (rest left all : List (List ℕ)) → Written old now left all → left ≡ clause ∷ rest →
    AppendsBeginning now new (clause_text clause ++ 10 ∷ []) → AppendsBeginning old new (clauses_text all)
one_begun old now new clause rest left all p steps line =
    let front = p.0 ++ (clause_text clause ++ 10 ∷ []) in
    subst (AppendsBeginning old new) (clause_first p.0 clause rest left all steps p.2)
    (begins_front old new front (clauses_text rest) (begins_past old now new p.0 (clause_text clause ++ 10 ∷ []) p.1 line))

-- the header's line, and the others
header_first : (cs : List (List ℕ)) → (header_text cs ++ 10 ∷ []) ++ clauses_text cs ≡ formula_text cs
header_first cs = append_assoc (header_text cs) (10 ∷ []) (clauses_text cs)

pub header_begun : (old new : Option (List ℕ)) (cs : List (List ℕ)) → AppendsBeginning old new (header_text cs ++ 10 ∷ []) → AppendsBeginning old new (formula_text cs)
header_begun old new cs p = subst (AppendsBeginning old new) (header_first cs) (begins_front old new (header_text cs ++ 10 ∷ []) (clauses_text cs) p)

pub clauses_begun : (old now new : Option (List ℕ)) (cs : List (List ℕ)) → Appends old now (header_text cs ++ 10 ∷ []) → AppendsBeginning now new (clauses_text cs) →
    AppendsBeginning old new (formula_text cs)
clauses_begun old now new cs p q = subst (AppendsBeginning old new) (header_first cs) (begins_past old now new (header_text cs ++ 10 ∷ []) (clauses_text cs) p q)
