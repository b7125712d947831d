-- Beginnings of texts that are written in parts.
use Rattle.std.proofs.Common.{ℕ, ◌+◌, List, ◌++◌, length, take, Result, Ok, Err, arith, length-append}
use Rattle.std.proofs.Math.Seq.{take-append-add, take-length}
use Rattle.std.proofs.lemmas.List.{take-append-le}
use Rattle.std.specs.Prelude.{OnErr}
use Rattle.std.specs.Io.KnownBytes.{Appends}
use Rattle.std.proofs.KnownBytes.{Appends-nil, Appends-trans}
use Rattle.sat_formula.specs.Readings.{Known}
use Rattle.whole_writes.specs.Beginnings.{AppendsBeginning}

-- nothing was written
pub begins_nothing : (a : Known) (bytes : List ℕ) → AppendsBeginning a a bytes
begins_nothing a bytes = record { count = 0; within = omega arith; appended = Appends-nil a }

-- so it is where an error came before
pub begun_none : {A E : Type 0} (r : Result A E) (a : Known) (bytes : List ℕ) → OnErr r (AppendsBeginning a a bytes)
begun_none (Ok x) a bytes = tt
begun_none (Err e) a bytes = begins_nothing a bytes

-- all was written
pub begins_whole : (a b : Known) (bytes : List ℕ) → Appends a b bytes → AppendsBeginning a b bytes
begins_whole a b bytes p = record { count = length bytes; within = omega arith; appended = rw take-length p }

-- more may have followed
pub begins_front : (a b : Known) (xs ys : List ℕ) → AppendsBeginning a b xs → AppendsBeginning a b (xs ++ ys)
begins_front a b xs ys p = record {
  count = p.count;
  within = omega (arith, length-append xs ys);
  appended = rw (take-append-le p.count xs ys p.within) p.appended;
}

-- the first part, and a beginning of the second
pub begins_past : (a b c : Known) (xs ys : List ℕ) → Appends a b xs → AppendsBeginning b c ys → AppendsBeginning a c (xs ++ ys)
begins_past a b c xs ys p q = record {
  count = length xs + q.count;
  within = omega (arith, length-append xs ys);
  appended = rw (take-append-add xs ys q.count) (Appends-trans a b c xs (take q.count ys) p q.appended);
}
