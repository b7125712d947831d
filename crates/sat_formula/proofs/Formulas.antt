-- Literals in one row, cut into clauses.
use Rattle.std.proofs.Common.{◌≡◌, ℕ, suc, ◌+◌, ◌≤◌, List, [], ◌∷◌, ◌++◌, length, take, drop, sum, Bool, refl, sym, ap, ◌∙◌, arith}
use Rattle.std.specs.Prelude.{IsTrue, ◌==◌, ◌↔◌}
use Rattle.std.proofs.lemmas.List.{take-append-le, drop-append-le, length-drop, length-append}
use Rattle.std.proofs.lemmas.List.Sums.{fold-append, sum_by-append, sum_by-cons}
use Rattle.std.proofs.Math.Seq.{take-length}
use Rattle.std.proofs.lemmas.Bool.Decides.{nat_tests}
use Rattle.sat_formula.specs.Formula.{cut, vars_with, var_count_of, IsWhole}

pub length-cut : (lengths lits : List ℕ) → length (cut lengths lits) ≡ length lengths
length-cut [] lits = refl
length-cut (n ∷ ns) lits = ap suc (length-cut ns (drop n lits))

-- one more clause after all literals
pub cut-append : (lengths lits clause : List ℕ) → sum lengths ≡ length lits → cut (lengths ++ length clause ∷ []) (lits ++ clause) ≡ cut lengths lits ++ clause ∷ []
cut-append [] [] clause e = ap (λ (c : List ℕ). c ∷ []) (take-length clause)
cut-append [] (l ∷ lits) clause e = let none : 0 ≡ suc (length lits) = e in absurd (omega arith)
cut-append (n ∷ ns) lits clause e =
    let all : n + sum ns ≡ length lits = sym (sum_by-cons (λ k. k) n ns) ∙ e in
    let le : n ≤ length lits = omega arith in
    let rest : sum ns ≡ length (drop n lits) = omega (arith, length-drop n lits) in
    rw (take-append-le n lits clause le, drop-append-le n lits clause le) (ap (λ (cs : List (List ℕ)). take n lits ∷ cs) (cut-append ns (drop n lits) clause rest))

pub var_count_of-append : (clauses : List (List ℕ)) (clause : List ℕ) → var_count_of (clauses ++ clause ∷ []) ≡ vars_with (var_count_of clauses) clause
var_count_of-append clauses clause = fold-append vars_with 0 clauses (clause ∷ [])

pub IsWhole-append : (lengths lits clause : List ℕ) (vars : ℕ) → IsWhole lengths lits vars → IsWhole (lengths ++ length clause ∷ []) (lits ++ clause) (vars_with vars clause)
IsWhole-append lengths lits clause vars w = record {
  total = omega (arith, sum_by-append (λ n. n) lengths (length clause ∷ []), length-append lits clause, w.total);
  vars = rw (cut-append lengths lits clause w.total) (rw var_count_of-append (ap (λ n. vars_with n clause) w.vars));
}

pub cut-empty : (lengths lits : List ℕ) (empty : Bool) → empty ≡ (length lengths == 0) → IsTrue empty ↔ (cut lengths lits ≡ [])
cut-empty [] lits empty e = (λ t. refl, λ t. rw e refl)
cut-empty (n ∷ ns) lits empty e = (λ t. let no : suc (length ns) ≡ 0 = grind (arith, nat_tests) in absurd (omega arith), λ t. absurd cc)
