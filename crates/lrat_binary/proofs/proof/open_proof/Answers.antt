use Rattle.std.proofs.Common.{◌≡◌, ℕ, List, subst}
use Rattle.lrat_binary.specs.Proofs.{form_now}
use Rattle.lrat_binary.specs.Telling.{form_of}
use Rattle.lrat_binary.proofs.FirstLemmas.{form_is}
use Rattle.lrat_binary.proofs.proof.open_proof.Goals as goal

pub returns-in-Ok-clause-form : goal.returns-in-Ok-clause-form
returns-in-Ok-clause-form g c =
    let told = subst (λ (l : List ℕ). c.form_of-form.result ≡ form_of c.args.ids c.args.clauses l) c.deref.ensures.value c.form_of-form.ensures in
    form_is c.args.ids c.args.clauses (g.R.Read.remaining c.args.proof) (g.R.Read.remaining c.see_first.new.input) c.see_first.new.seen.items c.new-seen.result.items
    (form_now c.new.result) c.form_of-form.result c.new.ensures.form told c.new-seen.ensures.items c.in-Ok.ensures.kept c.in-Ok.ensures.seen
