-- Clauses of latches, one after the other, and gates behind others.
use Rattle.std.proofs.Common.{◌≡◌, ℕ, ◌+◌, ◌<◌, List, [], ◌∷◌, ◌++◌, map, length, take, get_or, refl, ap, sym, ◌∙◌, append_assoc}
use Rattle.std.proofs.lemmas.List.{append-nil, map-append, take_more}
use Rattle.refutation_rules.specs.Cubes.{units_of}
use Rattle.circuit_rules.specs.Circuits.{Gate, Latch, lit_of}
use Rattle.circuit_rules.specs.Safety.{reset_clause, reset_clauses, step_clauses}
use Rattle.sat_rules.specs.Clauses.{negate}
use Rattle.circuit_clauses.specs.Machines.{bad_of}

-- what a list gives, and what one element more gives
pub one_more : {X Y : Type 0} (f : List X → List Y) (g : X → List Y) → ((xs : List X) (x : X) → f (xs ++ x ∷ []) ≡ f xs ++ g x) → (xs : List X) (i : ℕ) (x : X)
    (old now new : List Y) → i < length xs → x ≡ get_or xs i x → new ≡ now ++ g x → now ≡ old ++ f (take i xs) → new ≡ old ++ f (take (i + 1) xs)
one_more f g last xs i x old now new less is h e =
    h ∙ ap (λ ys. ys ++ g x) e ∙ append_assoc old (f (take i xs)) (g x) ∙ ap (λ ys. old ++ ys) (sym (last (take i xs) x))
    ∙ ap (λ y. old ++ f (take i xs ++ y ∷ [])) is ∙ ap (λ ys. old ++ f ys) (sym (take_more xs i x less))

pub resets_last : {X : Type 0} (f : X → Latch) (xs : List X) (x : X) → reset_clauses (map f (xs ++ x ∷ [])) ≡ reset_clauses (map f xs) ++ reset_clause (f x).var (f x).reset
resets_last f [] x = append-nil (reset_clause (f x).var (f x).reset)
resets_last f (y ∷ ys) x =
    ap (λ cs. reset_clause (f y).var (f y).reset ++ cs) (resets_last f ys x)
    ∙ sym (append_assoc (reset_clause (f y).var (f y).reset) (reset_clauses (map f ys)) (reset_clause (f x).var (f x).reset))

pub steps_last : {X : Type 0} (d : ℕ) (f : X → Latch) (xs : List X) (x : X) → step_clauses d (map f (xs ++ x ∷ [])) ≡ step_clauses d (map f xs) ++ step_clauses d (f x ∷ [])
steps_last d f [] x = refl
steps_last d f (y ∷ ys) x =
    ap (λ cs. (negate (lit_of ((f y).var + d)) ∷ (f y).next ∷ []) ∷ (lit_of ((f y).var + d) ∷ negate (f y).next ∷ []) ∷ cs) (steps_last d f ys x)

pub units_last : (ls : List ℕ) (l : ℕ) → units_of (ls ++ l ∷ []) ≡ units_of ls ++ (l ∷ []) ∷ []
units_last ls l = map-append (λ k. k ∷ []) ls (l ∷ [])

pub moved_last : {X : Type 0} (m : Gate → Gate) (f : X → Gate) (xs : List X) (x : X) → map m (map f (xs ++ x ∷ [])) ≡ map m (map f xs) ++ m (f x) ∷ []
moved_last m f xs x = ap (map m) (map-append f xs (x ∷ [])) ∙ map-append m (map f xs) (f x ∷ [])

pub nothing_more : (cs : List (List ℕ)) → cs ≡ cs ++ []
nothing_more cs = sym (append-nil cs)

pub bad_is : (outputs bad : List ℕ) → (bad ≡ [] → ⊥) → bad ≡ bad_of outputs bad
bad_is outputs [] h = absurd (h refl)
bad_is outputs (b ∷ bs) h = refl
