-- What a caller knows of a writer.
use Rattle.proof_bytes.specs.declared.format.Format.{Format}
use Rattle.proof_bytes.specs.declared.writer.ProofWriter.{ProofWriter}

-- how it spelled its last step, or that there was none
abbrev pub format_in : ProofWriter → Format
format_in w = w.format
