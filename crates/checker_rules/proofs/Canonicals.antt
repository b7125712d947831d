-- A canonical list passes the tests that the list it is of passes.
use Rattle.std.proofs.Common.{◌≡◌, ℕ, Bool, ◌&&◌, ◌||◌, List, [], ◌∷◌, refl, ap, ◌∙◌, arith}
use Rattle.std.specs.List.{list_any, list_all}
use Rattle.std.proofs.lemmas.Bool.{eqb-true}
use Rattle.checker_rules.specs.Canonical.{canonical, insert_lit}

any-insert : (p : ℕ → Bool) (l : ℕ) (c : List ℕ) → list_any p (insert_lit l c) ≡ (p l || list_any p c)
any-insert p l [] = refl
any-insert p l (m ∷ c) = grind (arith, eqb-true l m, any-insert p l c)

pub any-canonical : (p : ℕ → Bool) (c : List ℕ) → list_any p (canonical c) ≡ list_any p c
any-canonical p [] = refl
any-canonical p (l ∷ c) = any-insert p l (canonical c) ∙ ap (λ x. p l || x) (any-canonical p c)

all-insert : (p : ℕ → Bool) (l : ℕ) (c : List ℕ) → list_all p (insert_lit l c) ≡ (p l && list_all p c)
all-insert p l [] = refl
all-insert p l (m ∷ c) = grind (arith, eqb-true l m, all-insert p l c)

pub all-canonical : (p : ℕ → Bool) (c : List ℕ) → list_all p (canonical c) ≡ list_all p c
all-canonical p [] = refl
all-canonical p (l ∷ c) = all-insert p l (canonical c) ∙ ap (λ x. p l && x) (all-canonical p c)
