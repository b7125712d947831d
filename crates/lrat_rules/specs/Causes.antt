-- Why a line is rejected.
--     id_taken      the id of the new clause is stored
--     unknown_id      a leading hint names no clause
--     not_unit      a leading hint names a clause with two literals that are not false
--     no_conflict      the leading hints end without a conflict, and there is no group
--     group_missing      a stored clause with the negation of the first literal has no group
--     group_fails      a group does not lead to a conflict

pub data Cause : Type 0 where
  id_taken unknown_id not_unit no_conflict group_missing group_fails : Cause
