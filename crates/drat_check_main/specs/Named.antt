-- The files that a run names, by the options of its call.
--     lrat_name options, trim_name options, core_name options      the names that `--lrat`, `--trim` and `--core` give
--     form_asked options      how the lines of a proof are written
--     bytes_of contents outputs      what the three outputs hold
--     empty_outputs options      nothing, in each that the call asks for
--     GivesFirst, GivesAll      the first of the outputs got their names, or none did;  all got them
--     GivesSome      one of these two
--     ThenNames, ThenReceipt      and then a receipt has its name
--     NamesReached, LeavesReached      all have their names, once a verdict was reached;  some have, or none, since none was
--     NamesSome      a run gave no name but to outputs, to the first of them first
--     NamesProof      the outputs of a run that refutes a formula have their names
--     NamesPiece      those of a run over a piece that derives its target clauses
use Rattle.std.specs.Prelude.{◌≡◌, ◌⊎◌, ℕ, if◌then◌else◌, List, Option, IsSome, None, Some, Result, Ok, Err, codes}
use Rattle.std.specs.Io.Buffered.{writer_contents}
use Rattle.std.specs.declared.io.buffered.BufWriter.{BufWriter}
use Rattle.command.specs.Calls.{Choice, is_given, value_given}
use Rattle.command.specs.Outputs.{begun, place_of, Gives}
use Rattle.drat_check.specs.Outputs.{WroteCore, WroteProof, bytes_in}
use Rattle.drat_check.specs.PieceCores.{CoreShown}
use Rattle.drat_check.specs.Pieces.{WritesShown}
use Rattle.drat_check.specs.declared.outputs.Outputs.{Outputs}
use Rattle.verdicts.specs.Texts.{OfFormulas}
use Rattle.receipt_files.specs.Named.{GivesReceipt, NamesReceipt}
use Rattle.receipts.specs.declared.receipt.Receipt.{Receipt}
use Rattle.sat_output.specs.declared.form.LineForm.{LineForm}
use Rattle.sat_output.specs.declared.form.LineForm.TheVariants.{Binary, Text}
use Rattle.verdicts.specs.declared.piece.PieceVerdict.{PieceVerdict}

abbrev pub lrat_name : List Choice → Option (List ℕ)
lrat_name options = value_given options (codes "--lrat")

abbrev pub trim_name : List Choice → Option (List ℕ)
trim_name options = value_given options (codes "--trim")

abbrev pub core_name : List Choice → Option (List ℕ)
core_name options = value_given options (codes "--core")

-- text, unless the call asks for the binary form
abbrev pub form_asked : List Choice → LineForm
form_asked options = if is_given options (codes "--binary") then Binary else Text

-- what the three outputs hold, where there are such and it is known
pub record Written : Type 0 where
  pub lrat : Option (List ℕ)
  pub trim : Option (List ℕ)
  pub core : Option (List ℕ)

-- behind their buffers
abbrev pub bytes_of : {F A : Type 0} → (F → Option (List ℕ)) → Outputs (BufWriter F A) (BufWriter F A) → Written
bytes_of contents outputs = record {
  lrat = bytes_in (writer_contents contents) outputs.lrat;
  trim = bytes_in (writer_contents contents) outputs.trim;
  core = bytes_in (writer_contents contents) outputs.core;
}

-- nothing yet, or nothing at all
abbrev pub empty_outputs : List Choice → Written
empty_outputs options = record {
  lrat = begun (lrat_name options);
  trim = begun (trim_name options);
  core = begun (core_name options);
}

module _ (place : List ℕ → Option (List ℕ)) (options : List Choice) where
  -- first the lines, then their steps, then the clauses that they use
  pub record GivesAll (written : Written) (old new : Option (List (List ℕ × List ℕ))) : Type 0 where
    pub with_lrat : Option (List (List ℕ × List ℕ))
    pub with_trim : Option (List (List ℕ × List ℕ))
    pub first : Gives old with_lrat (place_of place (lrat_name options)) written.lrat
    pub second : Gives with_lrat with_trim (place_of place (trim_name options)) written.trim
    pub third : Gives with_trim new (place_of place (core_name options)) written.core

  -- first the lines, then their steps
  pub record GivesTwo (written : Written) (old new : Option (List (List ℕ × List ℕ))) : Type 0 where
    pub with_lrat : Option (List (List ℕ × List ℕ))
    pub first : Gives old with_lrat (place_of place (lrat_name options)) written.lrat
    pub second : Gives with_lrat new (place_of place (trim_name options)) written.trim

  -- none got its name, or the first one did, or the first two
  abbrev pub GivesFirst : Written → Option (List (List ℕ × List ℕ)) → Option (List (List ℕ × List ℕ)) → Type 0
  GivesFirst written old new =
      (new ≡ old)
      ⊎ Gives old new (place_of place (lrat_name options)) written.lrat
      ⊎ GivesTwo written old new

  -- the first of them or all got their names, and no other file
  abbrev pub GivesSome : Written → Option (List (List ℕ × List ℕ)) → Option (List (List ℕ × List ℕ)) → Type 0
  GivesSome written old new = GivesFirst written old new ⊎ GivesAll written old new

  -- of the files that were named before the receipt this holds
  pub record ThenNames (Named : Option (List (List ℕ × List ℕ)) → Option (List (List ℕ × List ℕ)) → Type 0)
      (P : Option (List (List ℕ × List ℕ)) → Type 0) (new : Option (List (List ℕ × List ℕ))) : Type 0 where
    pub outputs : Option (List (List ℕ × List ℕ))
    pub named : P outputs
    pub receipt_named : Named outputs new

  abbrev pub ThenReceipt : Receipt → (Option (List (List ℕ × List ℕ)) → Type 0) → Option (List (List ℕ × List ℕ)) → Type 0
  ThenReceipt receipt = ThenNames (GivesReceipt place options receipt)

  -- this verdict was reached, the outputs have their names, and then the whole receipt has its own
  abbrev pub NamesReached : {F E : Type 0} → (F → Option (List ℕ)) → Written → Option F → Result PieceVerdict E
      → Option (List (List ℕ × List ℕ)) → Option (List (List ℕ × List ℕ)) → PieceVerdict → Type 0
  NamesReached contents written receipt checked old new verdict = (checked ≡ Ok verdict)
      × ThenNames (NamesReceipt place options contents receipt) (GivesAll written old) new

  -- there was no verdict, and no file got its name; or there was, and the first of the outputs or all did
  abbrev pub LeavesReached : {E : Type 0} → Written → Result PieceVerdict E
      → Option (List (List ℕ × List ℕ)) → Option (List (List ℕ × List ℕ)) → Type 0
  LeavesReached written (Ok verdict) old new = GivesSome written old new
  LeavesReached written (Err fault) old new = new ≡ old

  -- files of some bytes, whose names are those of the first outputs
  pub record NamesSome (old new : Option (List (List ℕ × List ℕ))) : Type 0 where
    pub lrat : List ℕ
    pub trim : List ℕ
    pub core : List ℕ
    pub named : GivesSome (record { lrat = Some lrat; trim = Some trim; core = Some core }) old new

  -- lines that refute the formula were written, their steps, and a part of the formula, each where it is wanted, and these files have their names now
  pub record NamesProof (old new : Option (List (List ℕ × List ℕ))) (formula : List (List ℕ)) : Type 0 where
    pub written : Written
    pub proof : WroteProof (form_asked options) formula
        (begun (lrat_name options)) written.lrat (begun (trim_name options)) written.trim
    pub used : WroteCore formula (begun (core_name options)) written.core
    pub named : GivesAll written old new

  -- what the verdict relies on was written: the lines, where no part of the formula is wanted, or that part alone; and these files have their names now
  pub record NamesPiece (cnf holds : Option (List ℕ)) (verdict : PieceVerdict) (old new : Option (List (List ℕ × List ℕ))) : Type 0 where
    pub lrat : Option (List ℕ)
    pub core : Option (List ℕ)
    pub lines : core_name options ≡ None → OfFormulas cnf holds (λ formula wanted.
        WritesShown (form_asked options) formula wanted (begun (lrat_name options)) lrat verdict)
    pub apart : IsSome (core_name options) → lrat ≡ begun (lrat_name options)
    pub used : OfFormulas cnf holds (λ formula wanted.
        CoreShown formula wanted (begun (core_name options)) core verdict)
    pub named : GivesAll (record { lrat = lrat; trim = None; core = core }) old new
