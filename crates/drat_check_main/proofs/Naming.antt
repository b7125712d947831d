-- The outputs of a run, and those that have their names.
use Rattle.std.proofs.Common.{◌≡◌, ℕ, inl, inr, List, [], Option, Some, None, Result, Ok, Err, refl}
use Rattle.std.specs.Io.Buffered.{writer_contents}
use Rattle.std.specs.Io.KnownBytes.{Appends}
use Rattle.std.specs.Prelude.{IfOk, IsErr, IsOk}
use Rattle.std.specs.declared.io.buffered.BufWriter.{BufWriter}
use Rattle.command.specs.Calls.{Choice}
use Rattle.command.specs.Outputs.{Gives, begun, place_of, written_in}
use Rattle.drat_check.specs.Outputs.{bytes_in}
use Rattle.drat_check.specs.declared.outputs.Outputs.{Outputs}
use Rattle.drat_check_main.specs.Named.{GivesAll, GivesSome, GivesTwo, LeavesReached, NamesReached, NamesSome, ThenNames, Written, bytes_of, core_name, empty_outputs, lrat_name, trim_name}
use Rattle.receipt_files.specs.Named.{NamesReceipt}
use Rattle.verdicts.specs.Statuses.{ShowsLine}
use Rattle.verdicts.specs.declared.piece.PieceVerdict.{PieceVerdict}

abbrev pub Given : Type 0
Given = Option (List (List ℕ × List ℕ))

-- one word for what an output holds
pub same_bytes : {F A : Type 0} (contents : F → Option (List ℕ)) (out : Option (BufWriter F A)) → bytes_in (writer_contents contents) out ≡ written_in contents out
same_bytes contents None = refl
same_bytes contents (Some w) = refl

-- nothing is in any of three files that were made
pub all_empty : {F A : Type 0} (contents : F → Option (List ℕ)) (options : List Choice) (outputs : Outputs (BufWriter F A) (BufWriter F A))
    → written_in contents outputs.lrat ≡ begun (lrat_name options)
    → written_in contents outputs.trim ≡ begun (trim_name options)
    → written_in contents outputs.core ≡ begun (core_name options)
    → bytes_of contents outputs ≡ empty_outputs options
all_empty contents options outputs lrat trim core =
    rw (same_bytes contents outputs.lrat, same_bytes contents outputs.trim, same_bytes contents outputs.core, lrat, trim, core) refl

-- ---- names that were given before a fault

pub two_given : (place : List ℕ → Option (List ℕ)) (options : List Choice) (written : Written) (old mid next new : Given)
    → Gives old mid (place_of place (lrat_name options)) written.lrat
    → Gives mid next (place_of place (trim_name options)) written.trim → new ≡ next → GivesTwo place options written old new
two_given place options written old mid next new first second same = record { with_lrat = mid; first = first; second = rw same second }

-- the bytes are known where there is a name
abbrev pub IsKnown : Option (List ℕ) → Option (List ℕ) → Type 0
IsKnown None bytes = Unit {0}
IsKnown (Some name) None = ⊥
IsKnown (Some name) (Some bytes) = Unit {0}

abbrev known : Option (List ℕ) → List ℕ
known None = []
known (Some bytes) = bytes

pub kept_known : (name new : Option (List ℕ)) → new ≡ begun name → IsKnown name new
kept_known None new e = tt
kept_known (Some name) None e = absurd (cc)
kept_known (Some name) (Some bytes) e = tt

pub appended_known : (name old new : Option (List ℕ)) (bs : List ℕ) → old ≡ begun name → Appends old new bs → IsKnown name new
appended_known None old new bs e h = tt
appended_known (Some name) None new bs e h = absurd (cc)
appended_known (Some name) (Some x) None bs e h = absurd h
appended_known (Some name) (Some x) (Some y) bs e h = tt

gives_known : (place : List ℕ → Option (List ℕ)) (name bytes : Option (List ℕ)) (old new : Given) → IsKnown name bytes
    → Gives old new (place_of place name) bytes → Gives old new (place_of place name) (Some (known bytes))
gives_known place None bytes old new k gives = gives
gives_known place (Some name) None old new k gives = absurd k
gives_known place (Some name) (Some bytes) old new k gives = gives

module _ (place : List ℕ → Option (List ℕ)) (options : List Choice) (old new : Given) where
  pub names_none : new ≡ old → NamesSome place options old new
  names_none same = record { lrat = []; trim = []; core = []; named = inl (inl same) }

  pub names_some : (written : Written) → IsKnown (lrat_name options) written.lrat → IsKnown (trim_name options) written.trim
      → IsKnown (core_name options) written.core → GivesSome place options written old new → NamesSome place options old new
  names_some written l t c (inl (inl same)) = names_none same
  names_some written l t c (inl (inr (inl first))) = record {
    lrat = known written.lrat;
    trim = known written.trim;
    core = known written.core;
    named = inl (inr (inl (gives_known place (lrat_name options) written.lrat _ _ l first)));
  }
  names_some written l t c (inl (inr (inr two))) = record {
    lrat = known written.lrat;
    trim = known written.trim;
    core = known written.core;
    named = inl (inr (inr (record {
      with_lrat = two.with_lrat;
      first = gives_known place (lrat_name options) written.lrat _ _ l two.first;
      second = gives_known place (trim_name options) written.trim _ _ t two.second;
    })));
  }
  names_some written l t c (inr all) = record {
    lrat = known written.lrat;
    trim = known written.trim;
    core = known written.core;
    named = inr (record {
      with_lrat = all.with_lrat;
      with_trim = all.with_trim;
      first = gives_known place (lrat_name options) written.lrat _ _ l all.first;
      second = gives_known place (trim_name options) written.trim _ _ t all.second;
      third = gives_known place (core_name options) written.core _ _ c all.third;
    });
  }

  -- a verdict that shows nothing has no receipt
  pub named_all : {F : Type 0} (contents : F → Option (List ℕ)) (written : Written) (file : Option F) → file ≡ None
      → ThenNames place options (NamesReceipt place options contents file) (GivesAll place options written old) new
      → GivesAll place options written old new
  named_all contents written (Some f) none left = absurd (cc)
  named_all contents written None none left = rw (← left.receipt_named) at left.named

-- ---- a verdict that was reached

module _ {F E : Type 0} (contents : F → Option (List ℕ)) (place : List ℕ → Option (List ℕ)) (options : List Choice) (written : Written) (receipt : Option F)
    (checked : Result PieceVerdict E) (old mid new : Given) where
  -- the outputs had their names, and then the receipt got its own
  pub kept_named : {E' E'' : Type 0} (named : Result PieceVerdict E') (kept : Result PieceVerdict E'')
      → IfOk named (λ verdict. checked ≡ Ok verdict) → IfOk kept (λ verdict. named ≡ Ok verdict)
      → (IsOk named → GivesAll place options written old mid) → (IsOk kept → NamesReceipt place options contents receipt mid new)
      → IfOk kept (NamesReached place options contents written receipt checked old new)
  kept_named named (Err fault) reached same all last = tt
  kept_named named (Ok verdict) reached same all last = (
    rw same at reached,
    record { outputs = mid; named = all (rw same refl); receipt_named = last refl },
  )

  -- or one of them did not
  pub kept_left : {E' E'' : Type 0} (named : Result PieceVerdict E') (kept : Result PieceVerdict E'')
      → IfOk named (λ verdict. checked ≡ Ok verdict)
      → (IsOk named → GivesAll place options written old mid) → (IsErr named → LeavesReached place options written checked old mid)
      → (IsErr kept → new ≡ mid) → IsErr kept → LeavesReached place options written checked old new
  kept_left (Ok verdict) kept reached all left last failed = rw (reached, last failed) (inr (all refl))
  kept_left (Err fault) kept reached all left last failed = rw (last failed) (left refl)

-- the line is that of the verdict that was reached
pub shown_reached : {E E' E'' : Type 0} (line : PieceVerdict → List ℕ) (old new : Option (List ℕ))
    (checked : Result PieceVerdict E) (named : Result PieceVerdict E') (kept r : Result PieceVerdict E'')
    → IfOk named (λ verdict. checked ≡ Ok verdict) → IfOk kept (λ verdict. named ≡ Ok verdict) → ShowsLine line kept old new r
    → IfOk r (λ verdict. checked ≡ Ok verdict)
shown_reached line old new checked named kept (Ok verdict) reached same shown = rw (rw shown.0 at same) at reached
shown_reached line old new checked named kept (Err fault) reached same shown = tt
