-- The lines that a writer writes of a run are accepted by a checker of hints that holds the formula.
--     Same c d      lists of the same literals
--     Matches n k w m h      the map of the hint machine and that of the checker of hints, by the numbers of a writer
use Rattle.checker_rules.proofs.Canonicals.{all-canonical, any-canonical}
use Rattle.std.proofs.Common.{◌≡◌, ℕ, suc, ◌+◌, ◌<◌, ◌≤◌, Bool, true, false, cond, ◌||◌, eqb, ltb, List, [], ◌∷◌}
use Rattle.std.proofs.Common.{◌++◌, length, map, Option, Some, None, refl, sym, ap, ◌∙◌, subst, arith, length-append}
use Rattle.std.specs.Prelude.{take, drop}
use Rattle.std.specs.List.{list_any, list_all}
use Rattle.std.proofs.lemmas.Bool.{eqb-true, le-ltb, false≢true}
use Rattle.std.proofs.lemmas.List.{take-append-drop}
use Rattle.std.proofs.lemmas.Option.{none-some}
use Rattle.sat_rules.specs.Clauses.{IsChain, add_lit, is_unit_on, negate}
use Rattle.sat_rules.specs.HintLines.{Follows, Listed, adds_clause, after_line, deletes_clauses, line_cause, list_from, listing}
use Rattle.sat_rules.specs.Named.{IsAdmitted, Machine, NamedBy, drop_id, negated_set, put_id}
use Rattle.sat_rules.proofs.HintLineFacts.{passes}
use Rattle.checker_rules.specs.CallEmissions.{empty_machine}
use Rattle.checker_rules.specs.Canonical.{canonical}
use Rattle.checker_rules.specs.FormulaEmissions.{input_steps}
use Rattle.checker_rules.specs.HintRun.{HintStep, IsRun, fails_core, lowers, puts_derived, puts_input, removes}
use Rattle.checker_rules.specs.WrittenLines.{LinesFollow, Writer, after_written, lines_of, new_writer, no_input, number_of}

-- the same literals, whatever is asked of them
pub record Same (c d : List ℕ) : Type 0 where
  pub all : (p : ℕ → Bool) → list_all p c ≡ list_all p d
  pub any : (p : ℕ → Bool) → list_any p c ≡ list_any p d

same_itself : (c : List ℕ) → Same c c
same_itself c = record { all = λ p. refl; any = λ p. refl }

same_canonical : (c : List ℕ) → Same (canonical c) c
same_canonical c = record { all = λ p. all-canonical p c; any = λ p. any-canonical p c }

-- a chain of clauses with the same literals
abbrev AllSame : List (List ℕ) → List (List ℕ) → Type 0
AllSame [] [] = Unit {0}
AllSame [] (d ∷ ds) = ⊥
AllSame (c ∷ cs) [] = ⊥
AllSame (c ∷ cs) (d ∷ ds) = Same c d × AllSame cs ds

same_unit : (s : ℕ → Bool) (c d : List ℕ) (l : ℕ) → Same c d → is_unit_on s c l ≡ is_unit_on s d l
same_unit s c d l h = rw (h.any (eqb l), h.all (λ m. eqb m l || s (negate m)))

same_chain : (s : ℕ → Bool) (cs ds : List (List ℕ)) → AllSame cs ds → IsChain s cs → IsChain s ds
same_chain s [] [] h w = w
same_chain s [] (d ∷ ds) h w = absurd h
same_chain s (c ∷ cs) [] h w = absurd h
same_chain s (c ∷ []) (d ∷ []) h w = sym (h.0.all (λ m. s (negate m))) ∙ w
same_chain s (c ∷ []) (d ∷ e ∷ ds) h w = absurd h.1
same_chain s (c ∷ b ∷ cs) (d ∷ []) h w = absurd h.1
same_chain s (c ∷ b ∷ cs) (d ∷ e ∷ ds) h w = (w.0, sym (same_unit s c d w.0 h.0) ∙ w.1, same_chain (add_lit w.0 s) (b ∷ cs) (e ∷ ds) h.1 w.2)

-- the number of an id, where the first k ids are those of input clauses
abbrev number : ℕ → ℕ → ℕ → ℕ
number n k i = cond (ltb i k) (suc i) (n + suc i)

-- different ids have different numbers
number_apart : (n k i j : ℕ) → k ≤ n → eqb i j ≡ false → eqb (number n k i) (number n k j) ≡ false
number_apart n k i j few h = grind arith

-- what an id names for the hint machine, its number names for the checker of hints
abbrev Matched : (ℕ → Option (List ℕ)) → ℕ → List ℕ → Type 0
Matched f i c = (d : List ℕ) × (f i ≡ Some d) × Same c d

pub record Matches (n k : ℕ) (w : Writer) (m : Machine) (h : Listed) : Type 0 where
  pub announced : w.announced ≡ n
  pub inputs : (i : ℕ) → w.inputs i ≡ ltb i k
  pub few : k ≤ n
  pub above : k ≤ m.above
  pub next : h.machine.above ≤ n + suc m.above
  pub below : (i : ℕ) (c : List ℕ) → m.named i ≡ Some c → i < m.above
  pub names : (i : ℕ) (c : List ℕ) → m.named i ≡ Some c → Matched h.machine.named (number n k i) c

-- the writer's number is that of the place
writer_number : (n k : ℕ) (w : Writer) (m : Machine) (h : Listed) → Matches n k w m h → (i : ℕ) → number_of w i ≡ number n k i
writer_number n k w m h r i = rw (r.inputs i, r.announced)

-- named clauses have their like under the numbers
named_like : (n k : ℕ) (w : Writer) (m : Machine) (h : Listed) → Matches n k w m h → (ids : List ℕ) (cs : List (List ℕ)) → NamedBy m.named ids cs →
    (ds : List (List ℕ)) × NamedBy h.machine.named (map (number_of w) ids) ds × AllSame cs ds
named_like n k w m h r [] [] q = ([], tt, tt)
named_like n k w m h r [] (c ∷ cs) q = absurd q
named_like n k w m h r (i ∷ ids) [] q = absurd q
named_like n k w m h r (i ∷ ids) (c ∷ cs) q =
    let found = r.names i c q.0 in
    let rest = named_like n k w m h r ids cs q.1 in
    (found.0 ∷ rest.0, (ap h.machine.named (writer_number n k w m h r i) ∙ found.1, rest.1), (found.2, rest.2))

-- an addition is accepted
addition_accepted : (n k : ℕ) (w : Writer) (m : Machine) (h : Listed) (i : ℕ) (c ids : List ℕ) → Matches n k w m h → m.above ≤ i → IsAdmitted m.named c ids →
    line_cause h (adds_clause (w.announced + suc i) c (map (number_of w) ids)) ≡ None
addition_accepted n k w m h i c ids r low a =
    let like = named_like n k w m h r ids a.0 a.1 in
    rw (le-ltb (w.announced + suc i) h.machine.above (omega (arith, r.next, r.announced)))
    (passes h.machine.named (negated_set c) (map (number_of w) ids) like.0 like.1 (same_chain (negated_set c) a.0 like.0 like.2 a.2))

-- both maps after an addition
matches_put : (n k : ℕ) (w : Writer) (m : Machine) (h : Listed) (i : ℕ) (c ids : List ℕ) → Matches n k w m h → m.above ≤ i →
    Matches n k (after_written w (puts_derived i c ids)) (put_id i c m) (after_line h (adds_clause (w.announced + suc i) c (map (number_of w) ids)))
matches_put n k w m h i c ids r low =
    let fresh : ltb i k ≡ false = le-ltb i k (omega arith) in
    record {
      announced = r.announced;
      inputs = r.inputs;
      few = r.few;
      above = omega arith;
      next = omega arith;
      below = λ j d e. grind (arith, r.below j d);
      names = λ j d e. elim (eqb j i) as (λ b. eqb j i ≡ b → Matched (put_id (w.announced + suc i) c h.machine).named (number n k j) d) [
        | true ↦ λ x. let same : c ≡ d = grind (arith, x, e) in (c, grind (arith, eqb-true j i x, fresh, r.announced), rw (← same) (same_itself c))
        | false ↦ λ x. grind (arith, x, e, fresh, r.announced, r.names j d, number_apart n k j i r.few)
      ] refl;
    }

-- both maps after a deletion
matches_drop : (n k : ℕ) (w : Writer) (m : Machine) (h : Listed) (l i : ℕ) → Matches n k w m h → Matches n k w (drop_id i m) (after_line h (deletes_clauses l (number_of w i ∷ [])))
matches_drop n k w m h l i r = record {
  announced = r.announced;
  inputs = r.inputs;
  few = r.few;
  above = r.above;
  next = r.next;
  below = λ j d e. grind (arith, r.below j d);
  names = λ j d e. grind (arith, r.names j d, number_apart n k j i r.few, writer_number n k w m h r i);
}

-- the steps after the input clauses
steps_follow : (n k : ℕ) (es : List HintStep) (w : Writer) (m : Machine) (h : Listed) → Matches n k w m h → no_input es ≡ true → IsRun m es → (l : Listed) × Follows h (lines_of w es) l
steps_follow n k [] w m h r q g = (h, refl)
steps_follow n k (puts_input i c ∷ es) w m h r q g = absurd (false≢true q)
steps_follow n k (puts_derived i c ids ∷ es) w m h r q g =
    let rest = steps_follow n k es _ _ _ (matches_put n k w m h i c ids r g.0.0) q g.1 in
    (rest.0, (addition_accepted n k w m h i c ids r g.0.0 g.0.1, rest.1))
steps_follow n k (removes i ∷ es) w m h r q g =
    let rest = steps_follow n k es _ _ _ (matches_drop n k w m h w.last i r) q g.1 in
    (rest.0, (refl, rest.1))
steps_follow n k (lowers i true c ids ∷ es) w m h r q g = steps_follow n k es w m h r q g.1
steps_follow n k (lowers i false c ids ∷ es) w m h r q g =
    let rest = steps_follow n k es _ _ _ (matches_drop n k w m h w.last i r) q g.1 in
    (rest.0, (refl, rest.1))
steps_follow n k (fails_core c ids ∷ es) w m h r q g = steps_follow n k es w m h r q g.1

-- the clauses are under the numbers from i on
abbrev StandFrom : (ℕ → Option (List ℕ)) → ℕ → List (List ℕ) → Type 0
StandFrom f i [] = Unit {0}
StandFrom f i (c ∷ cs) = (f i ≡ Some c) × StandFrom f (suc i) cs

later_kept : (cs : List (List ℕ)) (i : ℕ) (m : Machine) (j : ℕ) → j < i → (list_from i cs m).named j ≡ m.named j
later_kept [] i m j h = refl
later_kept (c ∷ cs) i m j h = later_kept cs (suc i) (put_id i c m) j (omega arith) ∙ grind arith

listed_stand : (cs : List (List ℕ)) (i : ℕ) (m : Machine) → StandFrom (list_from i cs m).named i cs
listed_stand [] i m = tt
listed_stand (c ∷ cs) i m = (later_kept cs (suc i) (put_id i c m) i (omega arith) ∙ grind arith, listed_stand cs (suc i) (put_id i c m))

front_stand : (f : ℕ → Option (List ℕ)) (xs ys : List (List ℕ)) (i : ℕ) → StandFrom f i (xs ++ ys) → StandFrom f i xs
front_stand f [] ys i h = tt
front_stand f (x ∷ xs) ys i h = (h.0, front_stand f xs ys (suc i) h.1)

listed_above : (cs : List (List ℕ)) (i : ℕ) (m : Machine) → m.above ≡ i → (list_from i cs m).above ≡ i + length cs
listed_above [] i m h = let p = h in omega arith
listed_above (c ∷ cs) i m h = let p = listed_above cs (suc i) (put_id i c m) refl in omega arith

-- one input clause delivered
matches_input : (n j : ℕ) (w : Writer) (m : Machine) (h : Listed) (y : List ℕ) → Matches n j w m h → m.above ≡ j → h.machine.named (suc j) ≡ Some y → j < n →
    Matches n (j + 1) (after_written w (puts_input j (canonical y))) (put_id j (canonical y) m) h
matches_input n j w m h y r exact stands low = record {
  announced = r.announced;
  inputs = λ i. grind (arith, r.inputs i);
  few = omega arith;
  above = omega arith;
  next = let p = r.next in let q = exact in omega arith;
  below = λ i c e. grind (arith, r.below i c);
  names = λ i c e. grind (arith, exact, stands, r.names i c, r.below i c, same_canonical y);
}

-- the input clauses, and then the steps after them
inputs_follow : (n : ℕ) (es : List HintStep) (ys : List (List ℕ)) (j : ℕ) (w : Writer) (m : Machine) (h : Listed) → Matches n j w m h →
    m.above ≡ j → StandFrom h.machine.named (suc j) ys → j + length ys ≤ n →
    no_input es ≡ true → IsRun m (input_steps j ys ++ es) → (l : Listed) × Follows h (lines_of w (input_steps j ys ++ es)) l
inputs_follow n es [] j w m h r exact stands few q g = steps_follow n j es w m h r q g
inputs_follow n es (y ∷ ys) j w m h r exact stands few q g =
    inputs_follow n es ys (j + 1) _ _ h (matches_input n j w m h y r exact stands.0 (omega arith)) (omega arith)
    (subst (λ x. StandFrom h.machine.named x ys) (omega arith) stands.1) (omega arith) q g.1

-- nothing delivered, and the whole formula listed
matches_new : (cs : List (List ℕ)) → Matches (length cs) 0 (new_writer (length cs)) empty_machine (listing cs)
matches_new cs = record {
  announced = refl;
  inputs = λ i. sym (le-ltb i 0 (omega arith));
  few = omega arith;
  above = omega arith;
  next = let p = listed_above cs 1 (record { named = λ i. None; above = 1 }) refl in omega arith;
  below = λ i c e. absurd (none-some c e);
  names = λ i c e. absurd (none-some c e);
}

formula_follows : (xs ys : List (List ℕ)) (es : List HintStep) → no_input es ≡ true → IsRun empty_machine (input_steps 0 xs ++ es) →
    (l : Listed) × Follows (listing (xs ++ ys)) (lines_of (new_writer (length (xs ++ ys))) (input_steps 0 xs ++ es)) l
formula_follows xs ys es q g =
    let cs = xs ++ ys in
    inputs_follow (length cs) es xs 0 (new_writer (length cs)) empty_machine (listing cs) (matches_new cs) refl
    (front_stand (listing cs).machine.named xs ys 1 (listed_stand cs 1 (record { named = λ i. None; above = 1 })))
    (let p = length-append xs ys in omega arith) q g

pub lines_follow : LinesFollow
lines_follow cs k es q g =
    subst (λ x. (l : Listed) × Follows (listing x) (lines_of (new_writer (length x)) (input_steps 0 (take k cs) ++ es)) l) (take-append-drop k cs)
    (formula_follows (take k cs) (drop k cs) es q g)
