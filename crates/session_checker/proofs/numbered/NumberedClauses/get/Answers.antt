use Rattle.std.proofs.Common.{◌≡◌, ◌<◌, ℕ, List, [], Option, get_or, length, sym, ap, ◌∙◌, arith}
use Rattle.std.specs.Option.{unwrap_or}
use Rattle.clause_table.specs.Named.{clause_of}
use Rattle.session_checker.proofs.NumberingLemmas.{first_at, first_len}
use Rattle.session_checker.proofs.numbered.NumberedClauses.get.Goals as goal

pub returns-in-Some : goal.returns-in-Some
returns-in-Some c =
    let f = clause_of c.self.inside.clauses in
    let n = c.self.inside.count in
    let len : length c.args.self.now ≡ n = ap length (sym c.self.view_is) ∙ first_len f n in
    let below : c.args.number < n = omega (arith, c.requires, len) in
    ap (λ (o : Option (List ℕ)). unwrap_or o []) c.in-Some.ensures ∙ sym (first_at f n c.args.number below)
    ∙ ap (λ (cs : List (List ℕ)). get_or cs c.args.number []) c.self.view_is

pub returns-in-None : goal.returns-in-None
returns-in-None c =
    let f = clause_of c.self.inside.clauses in
    let n = c.self.inside.count in
    let len : length c.args.self.now ≡ n = ap length (sym c.self.view_is) ∙ first_len f n in
    let below : c.args.number < n = omega (arith, c.requires, len) in
    ap (λ (o : Option (List ℕ)). unwrap_or o []) c.in-None.ensures ∙ sym (first_at f n c.args.number below)
    ∙ ap (λ (cs : List (List ℕ)). get_or cs c.args.number []) c.self.view_is
