use Rattle.std.proofs.Common.{◌≡◌, map, string_bytes, Ok}
use Rattle.std.specs.Vec.Iter.{into_iter_items}
use Rattle.command.specs.Calls.{names_of, said_after, said_by, state_of}
use Rattle.command.proofs.call.read_words.Given as goal

-- with the words to come the same is said, by the same options
abbrev pub invariant-loop-word : goal.invariant-loop-word
invariant-loop-word l =
    (said_after (names_of l.options) l.most (Ok (state_of l.reading)) (map string_bytes (into_iter_items l.word-iterator))
    ≡ said_by (names_of l.options) l.most (map string_bytes (into_iter_items l.fn.words)))
    × (l.reading.options.now ≡ l.options)
