-- How a call ends.
--     IsEnd status      of a call that ends before the program's own part begins
--     Asks said      the words ask for help or for the version
--     IsBegun said begun      the call that the words make, or none, where they ask that
use Rattle.std.specs.Prelude.{◌≡◌, ℕ, ◌⊎◌, true, codes, Option, Some, None, Result, IfOk, IsOk}
use Rattle.command.specs.Calls.{IsExampleAlone, IsSaid, State, Wrong, is_given}
use Rattle.command.specs.declared.call.Call.{Call}

-- its words ask what the program is, can't be read, or can't be run
abbrev pub IsEnd : ℕ → Type 0
IsEnd status = (status ≡ 0) ⊎ (status ≡ 1) ⊎ (status ≡ 2)

-- by an option that each program has
abbrev pub Asks : Result State Wrong → Type 0
Asks said = IsOk said × IfOk said (λ s.
    (is_given s.choices (codes "--help") ≡ true) ⊎ (is_given s.choices (codes "--version") ≡ true))

-- an example stands alone
abbrev pub IsBegun : Result State Wrong → Option Call → Type 0
IsBegun said None = Asks said
IsBegun said (Some call) = IsSaid said call × IsExampleAlone call
