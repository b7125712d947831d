use Rattle.std.proofs.Common.{◌≡◌, drop, map}
use Rattle.command.specs.Calls.{choice_of, given}
use Rattle.command.proofs.call.Call.setting.Given as goal

-- in the options to come it is the same one
abbrev pub invariant-loop-setting : goal.invariant-loop-setting
invariant-loop-setting l =
    given (map choice_of (drop l.setting-index l.self.settings.items)) l.flag
    ≡ given (map choice_of l.self.settings.items) l.flag
