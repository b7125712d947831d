use Rattle.std.proofs.Common.{◌≡◌, ℕ, ◌+◌, List, [], ◌∷◌, ◌++◌, ap, ◌∙◌, arith}
use Rattle.clause_table.specs.Named.{clause_of}
use Rattle.session_checker.specs.Numbered.{first_clauses}
use Rattle.session_checker.proofs.NumberingLemmas.{first_more}
use Rattle.session_checker.proofs.numbered.NumberedClauses.add.Goals as goal

pub returns-clause-ok : goal.returns-clause-ok
returns-clause-ok c =
    let f = clause_of c.self.inside.clauses in
    let g = clause_of c.store.new.named in
    let n = c.self.inside.count in
    let more : c.in-Some.more ≡ n + 1 = grind (arith, c.in-Some.ensures) in
    ap (first_clauses g) more ∙ first_more f g n c.args.clause.now c.in_ok-store.ensures.put
    ∙ ap (λ (cs : List (List ℕ)). cs ++ c.args.clause.now ∷ []) c.self.view_is
