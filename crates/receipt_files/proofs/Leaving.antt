-- Receipts that have their names.
use Rattle.std.proofs.Common.{◌≡◌, ℕ, Bool, true, List, Option, Some, None, MatchResult, Result, Ok, Err, refl}
use Rattle.std.specs.Prelude.{IsErrAnd, option_map}
use Rattle.command.specs.Calls.{Choice}
use Rattle.command.specs.Outputs.{Gives, place_of}
use Rattle.receipt_files.specs.Named.{GivesReceipt, NamesReceipt, held_by, receipt_in, receipt_name}
use Rattle.receipts.specs.Lines.{receipt_line}
use Rattle.receipts.specs.declared.receipt.Receipt.{Receipt}
use Rattle.verdicts.specs.Statuses.{status_of}
use Rattle.verdicts.specs.declared.status.Refusal.{Refusal}

-- the file has the receipt's line, where there is a name
gives_line : (place : List ℕ → Option (List ℕ)) (name : Option (List ℕ)) (receipt : Receipt) (bytes : Option (List ℕ)) (old new : Option (List (List ℕ × List ℕ)))
    → bytes ≡ option_map (λ name. receipt_line receipt) name → Gives old new (place_of place name) bytes
    → Gives old new (place_of place name) (Some (receipt_line receipt))
gives_line place None receipt bytes old new is given = given
gives_line place (Some name) receipt bytes old new is given = rw is at given

-- no file is whole only where there is none
no_name : (place : List ℕ → Option (List ℕ)) (name : Option (List ℕ)) (receipt : Receipt) (old new : Option (List (List ℕ × List ℕ)))
    → None ≡ option_map (λ name. receipt_line receipt) name → new ≡ old → Gives old new (place_of place name) (Some (receipt_line receipt))
no_name place None receipt old new is same = same
no_name place (Some name) receipt old new is same = absurd (cc)

pub gives_receipt : {F : Type 0} (contents : F → Option (List ℕ)) (place : List ℕ → Option (List ℕ)) (options : List Choice) (receipt : Receipt) (file : Option F) (old new : Option (List (List ℕ × List ℕ)))
    → held_by contents file ≡ receipt_in options receipt → NamesReceipt place options contents file old new
    → GivesReceipt place options receipt old new
gives_receipt contents place options receipt None old new is same = no_name place (receipt_name options) receipt old new is same
gives_receipt contents place options receipt (Some file) old new is given = gives_line place (receipt_name options) receipt (contents file) old new is given

-- the file that was returned
pub ok_none : {F : Type 0} {file : Option F} → ◌≡◌ {A = Result (Option F) Refusal} (Ok file) (Ok None) → file ≡ None
ok_none is = cc

-- a run that shows what is asked for
pub status_in : {V E : Type 0} (shows : V → Bool) (r : Result V E) (verdict : V) → r ≡ Ok verdict → shows verdict ≡ true → status_of shows r ≡ 0
status_in shows r verdict is holds = rw (is, holds) refl

-- a run whose fault is told in another way has the same verdict
pub ok_before : {V E D : Type 0} (Told : E → D → Type 0) (r : Result V E) (checked : Result V D) (verdict : V)
    → MatchResult r (λ shown. checked ≡ Ok shown) (λ fault. IsErrAnd checked (Told fault)) → checked ≡ Ok verdict → r ≡ Ok verdict
ok_before Told (Ok shown) checked verdict same is = cc
ok_before Told (Err fault) checked verdict same is = let none : IsErrAnd (Ok verdict) (Told fault) = rw is at same in absurd none
