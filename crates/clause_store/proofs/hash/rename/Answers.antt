use Rattle.std.proofs.Common.{sym, ◌∙◌, refl, subst}
use Rattle.clause_store.specs.Names.{AgreeOnHeld, names_of}
use Rattle.clause_store.proofs.HashLemmas.{agree_on_held-apart, agree_on_held-same, none-held}
use Rattle.clause_store.proofs.hash.rename.Goals as goal

-- the name changed, of a variable that no clause holds
pub returns-then-renamed-clause-changed : goal.returns-then-renamed-clause-changed
returns-then-renamed-clause-changed c none =
    let counts = c.args.counts.now in let old = names_of c.args.names.now in
    subst (AgreeOnHeld counts old) (sym c.in_ok-renamed.ensures.applied)
    (agree_on_held-apart counts old old _ (λ l e. none-held counts _ (sym c.is_held.ensures ∙ none) l (e ∙ c.index.ensures.value)) (agree_on_held-same counts old old refl))

-- no name changed
pub returns-else-renamed-clause-changed : goal.returns-else-renamed-clause-changed
returns-else-renamed-clause-changed c none =
    agree_on_held-same c.args.counts.now (names_of c.args.names.now) (names_of c.apply_name.new.names) (c.in_ok-renamed.ensures.changed c.if-renamed.false)
