-- Lists of a line, item after item.
use Rattle.std.proofs.Common.{List, ◌++◌, Ok}
use Rattle.lrat_text.specs.Items.{Found, ◌>>=◌}

-- what was read before, and what is still read
abbrev pub with_front : {A : Type 0} → List A → Found (List A) → Found (List A)
with_front front read = read >>= λ l. Ok (front ++ l.0, l.1)
