use Rattle.std.proofs.Common.{◌≡◌, List, [], ◌∷◌, Option, is_some, map, refl, arith}
use Rattle.std.specs.List.{list_any}
use Rattle.std.proofs.lemmas.Result.{on_ok_weaker}
use Rattle.sat_formula.specs.declared.lit.Var.{Var}
use Rattle.clause_store.specs.Names.{indexes}
use Rattle.clause_store.proofs.hash.apply_pending_names.Goals as goal

list_any-indexes : (ps : List (Var × Option Var)) → list_any (λ p. is_some p.1) (map indexes ps) ≡ list_any (λ p. is_some p.1) ps
list_any-indexes [] = refl
list_any-indexes (p ∷ ps) = grind (arith, list_any-indexes ps)

pub returns-then-some_name-clause-state : goal.returns-then-some_name-clause-state
returns-then-some_name-clause-state c =
    on_ok_weaker c.rehash.result (λ after st known.
    cc (after st known, list_any-indexes c.args.hasher.now.pending.entries.items, c.some_name.ensures, c.if-some_name.true))
    c.rehash.ensures.state

pub returns-else-some_name-clause-state : goal.returns-else-some_name-clause-state
returns-else-some_name-clause-state c st known =
    cc (list_any-indexes c.args.hasher.now.pending.entries.items, c.some_name.ensures, c.if-some_name.false)
