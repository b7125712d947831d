-- What a reader that reports progress will return.
--     unread_of      the bytes to come: those of the reader within
use Rattle.std.specs.Prelude.{ℕ, List, Option}
use Rattle.progress.specs.declared.bytes.ToldBytes.{ToldBytes}

-- the bytes to come: those of the reader within
abbrev pub unread_of : {R H : Type 0} → (R → Option (List ℕ)) → ToldBytes R H → Option (List ℕ)
unread_of remaining reader = remaining reader.inner
