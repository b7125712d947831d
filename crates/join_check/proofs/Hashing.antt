-- What a hasher of lines takes, clause after clause.
use Rattle.std.proofs.Common.{◌≡◌, ℕ, List, [], ◌∷◌, ◌++◌, sym, ◌∙◌, ap, subst, append_assoc, append-nil}
use Rattle.sha2.specs.Hashers.{Holds256}
use Rattle.sat_output.specs.DratTexts.{addition_text}
use Rattle.sat_output.specs.FormulaTexts.{clause_text, clauses_text}
use Rattle.join_check.specs.Hashed.{HasTaken, Takes}
use Rattle.join_check.specs.declared.line_hasher.LineHasher.{LineHasher}

-- more lines behind the last ones
pub takes_behind : (old new : LineHasher) (more : List ℕ) → new.hasher ≡ old.hasher → new.lines.items ≡ old.lines.items ++ more → Takes old new more
takes_behind old new more same e = λ text taken. record {
  begun = taken.begun;
  hashed = rw same taken.hashed;
  whole = ap (λ (xs : List ℕ). xs ++ more) taken.whole ∙ append_assoc taken.begun old.lines.items more ∙ ap (λ (xs : List ℕ). taken.begun ++ xs) (sym e);
}

-- no last lines
pub taken_whole : (h : LineHasher) (text : List ℕ) → Holds256 h.hasher text → h.lines.items ≡ [] → HasTaken h text
taken_whole h text holds e = record {
  begun = text;
  hashed = holds;
  whole = sym (append-nil text) ∙ ap (λ (xs : List ℕ). text ++ xs) (sym e);
}

-- the line of a clause, and those of the clauses to come
pub takes_first : (old mid new : LineHasher) (c : List ℕ) (cs : List (List ℕ)) → Takes old mid (addition_text c) → Takes mid new (clauses_text cs) → Takes old new (clauses_text (c ∷ cs))
takes_first old mid new c cs first rest = λ text taken.
    subst (HasTaken new) (append_assoc text (addition_text c) (clauses_text cs) ∙ ap (λ (xs : List ℕ). text ++ xs) (append_assoc (clause_text c) (10 ∷ []) (clauses_text cs)))
    (rest (text ++ addition_text c) (first text taken))
