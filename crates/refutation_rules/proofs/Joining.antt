-- An assignment is carried along the pieces, up to a list that has none.
use Rattle.std.proofs.Common.{◌≡◌, ℕ, Bool, true, List, [], ◌∷◌, Some, refl, sym, ◌∙◌, arith}
use Rattle.std.proofs.lemmas.Bool.{false≢true, false_from_ne_true}
use Rattle.sat_rules.specs.Clauses.{all_true, clause_true}
use Rattle.sat_rules.specs.Named.{Item}
use Rattle.sat_rules.proofs.HintLineFacts.{named_true}
use Rattle.lrat_rules.specs.Laws.{IsModel}
use Rattle.lrat_rules.specs.Stores.{find, formula_store}
use Rattle.lrat_rules.proofs.Running.{runs_keep, rup_runs_follow}
use Rattle.refutation_rules.specs.Carrying.{PieceCarries}
use Rattle.refutation_rules.specs.Pieces.{PiecesJoin}

-- a model of the store makes a clause of it true
found_true : (st : List Item) (a : ℕ → Bool) (i : ℕ) (c : List ℕ) → IsModel a st → find st i ≡ Some c → clause_true a c ≡ true
found_true [] a i c m e = absurd (cc)
found_true (x ∷ st) a i c m e = grind (arith, found_true st a i c)

pub piece_carries : PieceCarries
piece_carries formula wanted ids st ls ran named a t =
    let kept = runs_keep (formula_store formula) st ls ran (a, rup_runs_follow formula (formula_store formula) [] refl refl a t) in
    (kept.0, named_true kept.0 (record { named = find st; above = 0 }) (λ i c e. found_true st kept.0 i c kept.1 e) ids wanted named)

pub pieces_join : PiecesJoin
pieces_join formula [] chain a = chain a
pieces_join formula (ds ∷ bounds) chain a = false_from_ne_true (all_true a formula) (λ e.
    let next = chain.0 a e in false≢true (sym (pieces_join ds bounds chain.1 next.0) ∙ next.1))
