-- What is before and behind a colon or a hyphen.
use Rattle.std.proofs.Common.{◌≡◌, ℕ, zero, suc, ◌+◌, ◌-◌, ◌≤◌, true, false, cond, nat_eq, List, [], ◌∷◌, Option, Some, None, length, take, drop, refl, sym, ◌∙◌, length-drop, arith}
use Rattle.std.specs.List.{position_from}
use Rattle.package_rules.specs.Debian.{behind_colon, behind_hyphen, epoch, has_colon, has_hyphen, until_colon, until_hyphen, without_epoch}
use Rattle.packages.specs.Versions.{last_hyphen}
use Rattle.packages.proofs.Numbers.{all_taken}

-- ---- the first colon

none_found : (i : ℕ) (v : List ℕ) → position_from (nat_eq 58) i v ≡ None → has_colon v ≡ false
none_found i [] h = refl
none_found i (c ∷ cs) h = grind (arith, h, none_found (i + 1) cs)

some_found : (i : ℕ) (v : List ℕ) (n : ℕ) → position_from (nat_eq 58) i v ≡ Some n → has_colon v ≡ true
some_found i [] n h = grind (arith, h)
some_found i (c ∷ cs) n h = grind (arith, h, some_found (i + 1) cs n)

not_before : (i : ℕ) (v : List ℕ) (n : ℕ) → position_from (nat_eq 58) i v ≡ Some n → i ≤ n
not_before i [] n h = grind (arith, h)
not_before i (c ∷ cs) n h = grind (arith, h, not_before (i + 1) cs n)

until_found : (i : ℕ) (v : List ℕ) (k n : ℕ) → n ≡ i + k → position_from (nat_eq 58) i v ≡ Some n → until_colon v ≡ take k v
until_found i [] k n e h = grind (arith, h)
until_found i (c ∷ cs) zero n e h = grind (arith, e, h, not_before (i + 1) cs n)
until_found i (c ∷ cs) (suc k) n e h = grind (arith, e, h, until_found (i + 1) cs k n)

behind_found : (i : ℕ) (v : List ℕ) (k n : ℕ) → n ≡ i + k → position_from (nat_eq 58) i v ≡ Some n → behind_colon v ≡ drop (k + 1) v
behind_found i [] k n e h = grind (arith, h)
behind_found i (c ∷ cs) zero n e h = grind (arith, e, h, not_before (i + 1) cs n)
behind_found i (c ∷ cs) (suc k) n e h = grind (arith, e, h, behind_found (i + 1) cs k n)

-- a slice from place n on
rest_of : (v : List ℕ) (n : ℕ) → take (length v - (n + 1)) (drop (n + 1) v) ≡ drop (n + 1) v
rest_of v n = all_taken (drop (n + 1) v) (length v - (n + 1)) (grind (arith, length-drop (n + 1) v))

pub no_epoch : (v : List ℕ) → position_from (nat_eq 58) 0 v ≡ None → epoch v ≡ []
no_epoch v h = grind (arith, none_found 0 v h)

pub all_behind : (v : List ℕ) → position_from (nat_eq 58) 0 v ≡ None → v ≡ without_epoch v
all_behind v h = grind (arith, none_found 0 v h)

pub epoch_at : (v : List ℕ) (n : ℕ) → position_from (nat_eq 58) 0 v ≡ Some n → take n v ≡ epoch v
epoch_at v n h = grind (arith, some_found 0 v n h, until_found 0 v n n (omega arith) h)

pub rest_at : (v : List ℕ) (n : ℕ) → position_from (nat_eq 58) 0 v ≡ Some n → take (length v - (n + 1)) (drop (n + 1) v) ≡ without_epoch v
rest_at v n h = grind (arith, rest_of v n, some_found 0 v n h, behind_found 0 v n n (omega arith) h)

-- ---- the last hyphen

all_before : (v : List ℕ) → has_hyphen v ≡ false → until_hyphen v ≡ v
all_before [] h = refl
all_before (c ∷ cs) h = grind (arith, h, all_before cs)

none_behind : (v : List ℕ) → has_hyphen v ≡ false → behind_hyphen v ≡ []
none_behind [] h = refl
none_behind (c ∷ cs) h = grind (arith, h, none_behind cs)

stays : (i : ℕ) (o : Option ℕ) (v : List ℕ) → has_hyphen v ≡ false → last_hyphen i o v ≡ o
stays i o [] h = refl
stays i o (c ∷ cs) h = grind (arith, h, stays (i + 1) (cond (nat_eq c 45) (Some i) o) cs)

later : (i : ℕ) (o : Option ℕ) (v : List ℕ) (n : ℕ) → has_hyphen v ≡ true → last_hyphen i o v ≡ Some n → i ≤ n
later i o [] n h k = grind (arith, h)
later i o (c ∷ cs) n h k =
    let o' = cond (nat_eq c 45) (Some i) o in
    grind (arith, h, k, later (i + 1) o' cs n, stays (i + 1) o' cs)

some_last : (i : ℕ) (o : Option ℕ) (v : List ℕ) → last_hyphen i o v ≡ None → has_hyphen v ≡ false × o ≡ None
some_last i o [] h = (refl, h)
some_last i o (c ∷ cs) h =
    let o' = cond (nat_eq c 45) (Some i) o in
    (grind (arith, some_last (i + 1) o' cs h), grind (arith, some_last (i + 1) o' cs h))

until_last : (i : ℕ) (o : Option ℕ) (v : List ℕ) (k n : ℕ) → n ≡ i + k → has_hyphen v ≡ true → last_hyphen i o v ≡ Some n → until_hyphen v ≡ take k v
until_last i o [] k n d h e = grind (arith, h)
until_last i o (c ∷ cs) zero n d h e =
    let o' = cond (nat_eq c 45) (Some i) o in
    grind (arith, d, h, e, later (i + 1) o' cs n, stays (i + 1) o' cs)
until_last i o (c ∷ cs) (suc k) n d h e =
    let o' = cond (nat_eq c 45) (Some i) o in
    grind (arith, d, h, e, until_last (i + 1) o' cs k n, stays (i + 1) o' cs)

behind_last : (i : ℕ) (o : Option ℕ) (v : List ℕ) (k n : ℕ) → n ≡ i + k → has_hyphen v ≡ true → last_hyphen i o v ≡ Some n → behind_hyphen v ≡ drop (k + 1) v
behind_last i o [] k n d h e = grind (arith, h)
behind_last i o (c ∷ cs) zero n d h e =
    let o' = cond (nat_eq c 45) (Some i) o in
    grind (arith, d, h, e, later (i + 1) o' cs n, stays (i + 1) o' cs)
behind_last i o (c ∷ cs) (suc k) n d h e =
    let o' = cond (nat_eq c 45) (Some i) o in
    grind (arith, d, h, e, behind_last (i + 1) o' cs k n, stays (i + 1) o' cs)

has_one : (v : List ℕ) (n : ℕ) → last_hyphen 0 None v ≡ Some n → has_hyphen v ≡ true
has_one v n h = grind (arith, h, stays 0 None v)

pub no_revision : (v : List ℕ) → last_hyphen 0 None v ≡ None → [] ≡ behind_hyphen v
no_revision v h = sym (none_behind v (some_last 0 None v h).0)

pub all_upstream : (v : List ℕ) → last_hyphen 0 None v ≡ None → v ≡ until_hyphen v
all_upstream v h = sym (all_before v (some_last 0 None v h).0)

pub upstream_at : (v : List ℕ) (n : ℕ) → last_hyphen 0 None v ≡ Some n → take n v ≡ until_hyphen v
upstream_at v n h = sym (until_last 0 None v n n (omega arith) (has_one v n h) h)

pub revision_at : (v : List ℕ) (n : ℕ) → last_hyphen 0 None v ≡ Some n → take (length v - (n + 1)) (drop (n + 1) v) ≡ behind_hyphen v
revision_at v n h = rest_of v n ∙ sym (behind_last 0 None v n n (omega arith) (has_one v n h) h)
