-- The columns of names and modes as one list.
use Rattle.std.proofs.Common.{◌≡◌, ℕ, zero, suc, ◌+◌, ◌<◌, ◌^◌, cond, List, [], ◌∷◌, ◌++◌, length, get_or, set}
use Rattle.std.proofs.Common.{replicate, Option, Some, None, refl, sym, ap, ◌∙◌, Bool, false, take, ◌-◌, arith}
use Rattle.std.specs.Option.{SomeIff}
use Rattle.std.proofs.lemmas.Bool.{le-ltb, lt-ltb}
use Rattle.std.proofs.lemmas.List.{length-append, length-replicate, length-set, take_all}
use Rattle.checker_rules.specs.KnownVars.{new_known}
use Rattle.checker_rules.specs.State.{Known, Mode, hide}
use Rattle.checker_rules.specs.Transcript.{known_at}
use Rattle.checker_parts.proofs.Marks.{marked_more, marked_same}
use Rattle.checker_parts.specs.Variables.{AreColumns, IsMarked, known_by, mode_of, name_of}
use Rattle.checker_parts.specs.declared.variables.SamplingMode.{SamplingMode}
use Rattle.checker_parts.specs.declared.variables.SamplingMode.TheVariants.{Hide, Sample}

pub name_of-some : (n : ℕ) → n < 2 ^ 28 → name_of n ≡ Some n
name_of-some n h = ap (λ b. cond b (Some n) None) (lt-ltb n (2 ^ 28) h)

pub name_of-read : (o : Option ℕ) (n : ℕ) → SomeIff o (n < 2 ^ 28) n → o ≡ name_of n
name_of-read None n h = sym (ap (λ b. cond b (Some n) None) (le-ltb n (2 ^ 28) (omega (arith, h))))
name_of-read (Some m) n h = ap (λ (k : ℕ). Some k) h.1 ∙ sym (name_of-some n h.0)

tail : (m : SamplingMode) (ms : List SamplingMode) (n : ℕ) (ns : List ℕ) → length (m ∷ ms) ≡ length (n ∷ ns) → length ms ≡ length ns
tail m ms n ns h = omega (arith, h)

pub length-known_by : (ns : List ℕ) (ms : List SamplingMode) → length ms ≡ length ns → length (known_by ns ms) ≡ length ns
length-known_by [] ms h = refl
length-known_by (n ∷ ns) [] h = absurd (omega (arith, h))
length-known_by (n ∷ ns) (m ∷ ms) h = ap suc (length-known_by ns ms (tail m ms n ns h))

pub known_at-known_by : (ns : List ℕ) (ms : List SamplingMode) (i n : ℕ) (m : SamplingMode) → length ms ≡ length ns → i < length ns
    → known_at (known_by ns ms) i ≡ record { name = name_of (get_or ns i n); mode = mode_of (get_or ms i m) }
known_at-known_by [] ms i n m h less = absurd (omega (arith, less))
known_at-known_by (k ∷ ns) [] i n m h less = absurd (omega (arith, h))
known_at-known_by (k ∷ ns) (l ∷ ms) zero n m h less = refl
known_at-known_by (k ∷ ns) (l ∷ ms) (suc i) n m h less = known_at-known_by ns ms i n m (tail l ms k ns h) (omega (arith, less))

-- one place is written
pub known_by-name : (ns : List ℕ) (ms : List SamplingMode) (i n : ℕ) → length ms ≡ length ns
    → known_by (set ns i n) ms ≡ set (known_by ns ms) i (record { name = name_of n; mode = (known_at (known_by ns ms) i).mode })
known_by-name [] ms i n h = refl
known_by-name (k ∷ ns) [] i n h = absurd (omega (arith, h))
known_by-name (k ∷ ns) (l ∷ ms) zero n h = refl
known_by-name (k ∷ ns) (l ∷ ms) (suc i) n h = ap (λ ks. record { name = name_of k; mode = mode_of l } ∷ ks) (known_by-name ns ms i n (tail l ms k ns h))

pub known_by-mode : (ns : List ℕ) (ms : List SamplingMode) (i : ℕ) (m : SamplingMode) → length ms ≡ length ns
    → known_by ns (set ms i m) ≡ set (known_by ns ms) i (record { name = (known_at (known_by ns ms) i).name; mode = mode_of m })
known_by-mode [] ms i m h = refl
known_by-mode (k ∷ ns) [] i m h = absurd (omega (arith, h))
known_by-mode (k ∷ ns) (l ∷ ms) zero m h = refl
known_by-mode (k ∷ ns) (l ∷ ms) (suc i) m h = ap (λ ks. record { name = name_of k; mode = mode_of l } ∷ ks) (known_by-mode ns ms i m (tail l ms k ns h))

pub known_by-both : (ns : List ℕ) (ms : List SamplingMode) (i n : ℕ) (m : SamplingMode) → length ms ≡ length ns
    → known_by (set ns i n) (set ms i m) ≡ set (known_by ns ms) i (record { name = name_of n; mode = mode_of m })
known_by-both [] ms i n m h = refl
known_by-both (k ∷ ns) [] i n m h = absurd (omega (arith, h))
known_by-both (k ∷ ns) (l ∷ ms) zero n m h = refl
known_by-both (k ∷ ns) (l ∷ ms) (suc i) n m h = ap (λ ks. record { name = name_of k; mode = mode_of l } ∷ ks) (known_by-both ns ms i n m (tail l ms k ns h))

-- new variables
pub known_by-more : (ns : List ℕ) (ms : List SamplingMode) (n k : ℕ) → name_of n ≡ None → length ms ≡ length ns
    → known_by (ns ++ replicate k n) (ms ++ replicate k Sample) ≡ known_by ns ms ++ replicate k new_known
known_by-more [] [] n zero none h = refl
known_by-more [] [] n (suc k) none h =
    ap (λ o. record { name = o; mode = mode_of Sample } ∷ known_by (replicate k n) (replicate k Sample)) none ∙ ap (λ ks. new_known ∷ ks) (known_by-more [] [] n k none refl)
known_by-more [] (m ∷ ms) n k none h = absurd (omega (arith, h))
known_by-more (l ∷ ns) [] n k none h = absurd (omega (arith, h))
known_by-more (l ∷ ns) (m ∷ ms) n k none h = ap (λ ks. record { name = name_of l; mode = mode_of m } ∷ ks) (known_by-more ns ms n k none (tail m ms l ns h))

-- the columns of the methods, at the lists that they see
pub length_by_view : (ns : List ℕ) (ms : List SamplingMode) (ks : List Known) → length ms ≡ length ns → known_by ns ms ≡ ks → length ks ≡ length ns
length_by_view ns ms ks h view = sym (ap (λ (ks : List Known). length ks) view) ∙ length-known_by ns ms h

pub within : (ns : List ℕ) (ms : List SamplingMode) (ts : List Bool) (ks : List Known) (i v : ℕ) → AreColumns ns ms ts → known_by ns ms ≡ ks → i ≡ v → v < length ks → i < length ns
within ns ms ts ks i v h view at less = omega (arith, length_by_view ns ms ks h.modes view)

pub mode-read : (ns : List ℕ) (ms : List SamplingMode) (ks : List Known) (i : ℕ) (m : SamplingMode) → length ms ≡ length ns →
    known_by ns ms ≡ ks → i < length ms → m ≡ get_or ms i m → mode_of m ≡ (known_at ks i).mode
mode-read ns ms ks i m h view less read =
    ap mode_of read ∙ sym (ap (λ (k : Known). k.mode) (known_at-known_by ns ms i 0 m h (omega (arith, h)))) ∙ ap (λ (ks : List Known). (known_at ks i).mode) view

pub known-parts : (k : Known) (o : Option ℕ) (w : Mode) → o ≡ k.name → w ≡ k.mode → record { name = o; mode = w } ≡ k
known-parts k o w name mode = ap (λ (o : Option ℕ). record { name = o; mode = w }) name ∙ ap (λ w. record { name = k.name; mode = w }) mode

pub columns_mode : (ns : List ℕ) (ms : List SamplingMode) (ts : List Bool) (i : ℕ) (m : SamplingMode) → AreColumns ns ms ts → i < length ns → AreColumns ns (set ms i m) ts
columns_mode ns ms ts i m h less = grind (arith, length-set, known_by-mode, marked_same, length-known_by)

-- a variable is hidden, and its name is removed
pub columns_hidden : (ns : List ℕ) (ms : List SamplingMode) (ts ts' : List Bool) (i n : ℕ) → name_of n ≡ None → AreColumns ns ms ts →
    length ts' ≡ length ts → IsMarked (set (known_by ns ms) i (record { name = None; mode = hide })) ts'
    → AreColumns (set ns i n) (set ms i Hide) ts'
columns_hidden ns ms ts ts' i n none h long marked = grind (arith, length-set, known_by-both)

-- the columns grow
pub known_by-grown : (ns ns' : List ℕ) (ms ms' : List SamplingMode) (n k : ℕ) → name_of n ≡ None → length ms ≡ length ns →
    ns' ≡ ns ++ replicate k n → ms' ≡ ms ++ replicate k Sample → known_by ns' ms' ≡ known_by ns ms ++ replicate k new_known
known_by-grown ns ns' ms ms' n k none h names modes = ap (λ ns. known_by ns ms') names ∙ ap (λ ms. known_by (ns ++ replicate k n) ms) modes ∙ known_by-more ns ms n k none h

pub columns_grown : (ns ns' : List ℕ) (ms ms' : List SamplingMode) (ts ts' : List Bool) (n k : ℕ) → name_of n ≡ None → AreColumns ns ms ts →
    ns' ≡ ns ++ replicate k n → ms' ≡ ms ++ replicate k Sample → ts' ≡ ts ++ replicate k false → AreColumns ns' ms' ts'
columns_grown ns ns' ms ms' ts ts' n k none h names modes taken = grind (arith, length-append, length-replicate, known_by-more, marked_more)

-- a column grows to n elements where it had m
pub grown : {X : Type 0} (old mid new : List X) (len m n : ℕ) (x : X) → length old ≡ m → mid ≡ old → len ≡ length mid →
    new ≡ take n mid ++ replicate (n - len) x → m < n → new ≡ old ++ replicate (n - m) x
grown old mid new len m n x long same at is less = grind (arith, take_all)
