-- What some texts say: their lines, with literals as codes (1 is 0, -1 is 1, 2 is 2, -2 is 3), and the ending.
use Rattle.std.specs.Prelude.{◌≡◌, ℕ, List, [], ◌∷◌, ◌++◌, codes}
use Rattle.session_text.specs.declared.fault.TextKind.TheVariants.{Malformed, NoHeader, NumberTooLarge, Unfinished}
use Rattle.session_text.specs.declared.format.Format.TheVariants.{Icnf, Lidrup}
use Rattle.session_text.specs.declared.line.LineKind.{LineKind}
use Rattle.session_text.specs.declared.line.LineKind.TheVariants.{Answer, Clause, Core, Deletion, Failed, Lemma, Model, Query, Several, Trail, Values, Weakening}
use Rattle.session_text.specs.declared.line.Status.TheVariants.{Satisfiable, Unknown, Unsatisfiable}
use Rattle.session_text.specs.Outcomes.{Ended, Faulty, Line}
use Rattle.session_text.specs.Texts.{outcome_of}

-- a line of this kind, with this id, these literals and these ids
abbrev line : LineKind → ℕ → List ℕ → List ℕ → Line
line kind id lits ids = record { kind = kind; content = record { id = id; lits = lits; ids = ids } }

-- a proof of these bytes
abbrev binary : List ℕ → List ℕ
binary bytes = codes "p lidrup\n" ++ bytes

-- one fact a row
pub record TextRows : Type 0 where
  pub clauses : outcome_of Lidrup (codes "p lidrup\ni 1 1 -2 0\ni 2 0\n")
      ≡ (line Clause 1 (0 ∷ 3 ∷ []) [] ∷ line Clause 2 [] [] ∷ [], Ended)
  pub lemma : outcome_of Lidrup (codes "p lidrup\nl 7 -1 0 1 3 0\n")
      ≡ (line Lemma 7 (1 ∷ []) (1 ∷ 3 ∷ []) ∷ [], Ended)
  pub gone : outcome_of Lidrup (codes "p lidrup\nd 1 2 0\nw 3 0\nr 3 0\n")
      ≡ (
        line Deletion 0 [] (1 ∷ 2 ∷ []) ∷ line Weakening 0 [] (3 ∷ [])
            ∷ line Weakening 0 [] (3 ∷ []) ∷ [],
        Ended,
      )
  pub model : outcome_of Lidrup (codes "p lidrup\nq -1 0\ns SATISFIABLE\nm -1 2 0\n")
      ≡ (
        line Query 0 (1 ∷ []) [] ∷ line (Answer Satisfiable) 0 [] []
            ∷ line Model 0 (1 ∷ 2 ∷ []) [] ∷ [],
        Ended,
      )
  pub core : outcome_of Lidrup (codes "p lidrup\nq 1 0\ns UNSATISFIABLE\nu 1 0 2 0\n")
      ≡ (
        line Query 0 (0 ∷ []) [] ∷ line (Answer Unsatisfiable) 0 [] []
            ∷ line Core 0 (0 ∷ []) (2 ∷ []) ∷ [],
        Ended,
      )
  pub trail : outcome_of Lidrup (codes "p lidrup\nq 0\ns UNKNOWN\ne 1 0\n")
      ≡ (line Query 0 [] [] ∷ line (Answer Unknown) 0 [] [] ∷ line Trail 0 (0 ∷ []) [] ∷ [], Ended)
  pub comments : outcome_of Lidrup (codes "c x\n\np lidrup \r\n  q  1\t0 \nc i 1 0\n \n")
      ≡ (line Query 0 (0 ∷ []) [] ∷ [], Ended)
  pub header_alone : outcome_of Lidrup (codes "p lidrup\n") ≡ ([], Ended)
  pub nothing : outcome_of Lidrup [] ≡ ([], Faulty 1 NoHeader)
  pub comment_alone : outcome_of Lidrup (codes "c x\n") ≡ ([], Faulty 2 NoHeader)
  pub no_header : outcome_of Lidrup (codes "c x\nq 1 0\ns UNKNOWN\n")
      ≡ (line Query 0 (0 ∷ []) [] ∷ line (Answer Unknown) 0 [] [] ∷ [], Ended)
  pub late_header : outcome_of Lidrup (codes "q 1 0\np lidrup\n")
      ≡ (line Query 0 (0 ∷ []) [] ∷ [], Faulty 2 Malformed)
  pub no_icnf_header : outcome_of Icnf (codes "q 1 0\n") ≡ ([], Faulty 1 NoHeader)
  pub other_letter_first : outcome_of Lidrup (codes "x 1 0\n") ≡ ([], Faulty 1 Malformed)
  pub several : outcome_of Lidrup (codes "s UNSATISFIABLE\nU 2\nu 1 0 2 0\nU 12 \n")
      ≡ (
        line (Answer Unsatisfiable) 0 [] [] ∷ line (Several 2) 0 [] []
            ∷ line Core 0 (0 ∷ []) (2 ∷ []) ∷ line (Several 12) 0 [] [] ∷ [],
        Ended,
      )
  pub several_of_none : outcome_of Lidrup (codes "U 0\n") ≡ ([], Faulty 1 Malformed)
  pub several_and_more : outcome_of Lidrup (codes "U 2 0\n") ≡ ([], Faulty 1 Malformed)
  pub several_of_icnf : outcome_of Icnf (codes "p icnf\nU 2\n") ≡ ([], Faulty 2 Malformed)
  pub other_header : outcome_of Lidrup (codes "p idrup\nq 1 0\n") ≡ ([], Faulty 1 NoHeader)
  pub longer_header : outcome_of Lidrup (codes "p lidrups\n") ≡ ([], Faulty 1 NoHeader)
  pub no_id : outcome_of Lidrup (codes "p lidrup\ni 0\n") ≡ ([], Faulty 2 Malformed)
  pub negative_id : outcome_of Lidrup (codes "p lidrup\ni -1 1 0\n") ≡ ([], Faulty 2 Malformed)
  pub negative_hint : outcome_of Lidrup (codes "p lidrup\nl 3 1 0 -2 0\n") ≡ ([], Faulty 2 Malformed)
  pub no_hints : outcome_of Lidrup (codes "p lidrup\nq 0\nl 3 1 0\n")
      ≡ (line Query 0 [] [] ∷ [], Faulty 3 Malformed)
  pub no_last_zero : outcome_of Lidrup (codes "p lidrup\nq 1\n0\n") ≡ ([], Faulty 2 Malformed)
  pub number_after_the_end : outcome_of Lidrup (codes "p lidrup\nq 1 0 0\n") ≡ ([], Faulty 2 Malformed)
  pub leading_zeros : outcome_of Lidrup (codes "p lidrup\nq 01 -002 00\n")
      ≡ (line Query 0 (0 ∷ 3 ∷ []) [] ∷ [], Ended)
  pub minus_zero : outcome_of Lidrup (codes "p lidrup\nq 1 -0\n") ≡ ([], Faulty 2 Malformed)
  pub no_blank : outcome_of Lidrup (codes "p lidrup\nq 0\nq1 0\n")
      ≡ (line Query 0 [] [] ∷ [], Faulty 3 Malformed)
  pub other_letter : outcome_of Lidrup (codes "p lidrup\nx 1 0\n") ≡ ([], Faulty 2 Malformed)
  pub half_a_status : outcome_of Lidrup (codes "p lidrup\ns SATIS\n") ≡ ([], Faulty 2 Malformed)
  pub longer_status : outcome_of Lidrup (codes "p lidrup\ns UNKNOWNS\n") ≡ ([], Faulty 2 Malformed)
  pub largest : outcome_of Lidrup (codes "p lidrup\nq -268435456 0\n")
      ≡ (line Query 0 (536870911 ∷ []) [] ∷ [], Ended)
  pub large_variable : outcome_of Lidrup (codes "p lidrup\nq 268435457 0\n")
      ≡ ([], Faulty 2 NumberTooLarge)
  pub large_id : outcome_of Lidrup (codes "p lidrup\ni 1152921504606846976 0\n")
      ≡ ([], Faulty 2 NumberTooLarge)
  pub cut_off : outcome_of Lidrup (codes "p lidrup\nq 1 0") ≡ ([], Faulty 2 Unfinished)
  pub cut_number : outcome_of Lidrup (codes "p lidrup\nq 1") ≡ ([], Faulty 2 Malformed)
  pub cut_header : outcome_of Icnf (codes "p icnf") ≡ ([], Faulty 1 Unfinished)
  pub cut_comment : outcome_of Lidrup (codes "p lidrup\nc") ≡ ([], Ended)
  pub cut_blanks : outcome_of Lidrup (codes "p lidrup\n ") ≡ ([], Ended)
  pub cut_comment_alone : outcome_of Icnf (codes "c") ≡ ([], Faulty 1 NoHeader)
  pub cut_letter : outcome_of Lidrup (codes "q") ≡ ([], Faulty 1 Unfinished)
  -- of interactions
  pub told : outcome_of Icnf (codes "p icnf\ni 1 -2 0\nq -1 0\ns SATISFIABLE\nv -1 0\nm 2 0\n")
      ≡ (
        line Clause 0 (0 ∷ 3 ∷ []) [] ∷ line Query 0 (1 ∷ []) [] ∷ line (Answer Satisfiable) 0 [] []
            ∷ line Values 0 (1 ∷ []) [] ∷ line Values 0 (2 ∷ []) [] ∷ [],
        Ended,
      )
  pub failed : outcome_of Icnf (codes "p icnf\ns UNSATISFIABLE\nf 1 0\nu 0\ni 0\n")
      ≡ (
        line (Answer Unsatisfiable) 0 [] [] ∷ line Failed 0 (0 ∷ []) [] ∷ line Failed 0 [] []
            ∷ line Clause 0 [] [] ∷ [],
        Ended,
      )
  pub proof_as_icnf : outcome_of Icnf (codes "p lidrup\n") ≡ ([], Faulty 1 NoHeader)
  pub icnf_as_proof : outcome_of Lidrup (codes "p icnf\n") ≡ ([], Faulty 1 NoHeader)
  pub lemma_of_icnf : outcome_of Icnf (codes "p icnf\nl 1 0\n") ≡ ([], Faulty 2 Malformed)
  pub hints_of_icnf : outcome_of Icnf (codes "p icnf\nu 1 0 1 0\n") ≡ ([], Faulty 2 Malformed)
  pub values_of_proof : outcome_of Lidrup (codes "p lidrup\nv 1 0\n") ≡ ([], Faulty 2 Malformed)
  -- in binary
  pub binary_clause : outcome_of Lidrup (binary (105 ∷ 1 ∷ 2 ∷ 5 ∷ 0 ∷ 105 ∷ 2 ∷ 0 ∷ []))
      ≡ (line Clause 1 (0 ∷ 3 ∷ []) [] ∷ line Clause 2 [] [] ∷ [], Ended)
  pub binary_lemma : outcome_of Lidrup
      (binary (108 ∷ 172 ∷ 2 ∷ 3 ∷ 128 ∷ 1 ∷ 0 ∷ 1 ∷ 200 ∷ 1 ∷ 0 ∷ 100 ∷ 1 ∷ 32 ∷ 0 ∷ []))
      ≡ (
        line Lemma 300 (1 ∷ 126 ∷ []) (1 ∷ 200 ∷ []) ∷ line Deletion 0 [] (1 ∷ 32 ∷ []) ∷ [],
        Ended,
      )
  pub binary_model : outcome_of Lidrup
      (binary (113 ∷ 3 ∷ 0 ∷ (codes "sSATISFIABLE" ++ 109 ∷ 3 ∷ 4 ∷ 0 ∷ [])))
      ≡ (
        line Query 0 (1 ∷ []) [] ∷ line (Answer Satisfiable) 0 [] []
            ∷ line Model 0 (1 ∷ 2 ∷ []) [] ∷ [],
        Ended,
      )
  pub binary_core : outcome_of Lidrup
      (binary (113 ∷ 2 ∷ 0 ∷ (codes "s UNSATISFIABLE\n" ++ 117 ∷ 2 ∷ 0 ∷ 2 ∷ 0 ∷ [])))
      ≡ (
        line Query 0 (0 ∷ []) [] ∷ line (Answer Unsatisfiable) 0 [] []
            ∷ line Core 0 (0 ∷ []) (2 ∷ []) ∷ [],
        Ended,
      )
  pub binary_trail : outcome_of Lidrup
      (binary (113 ∷ 0 ∷ (codes "sUNKNOWN" ++ 101 ∷ 2 ∷ 0 ∷ [])))
      ≡ (line Query 0 [] [] ∷ line (Answer Unknown) 0 [] [] ∷ line Trail 0 (0 ∷ []) [] ∷ [], Ended)
  pub binary_status_first : outcome_of Lidrup
      (codes "sUNSATISFIABLE" ++ 85 ∷ 172 ∷ 2 ∷ 117 ∷ 2 ∷ 0 ∷ 2 ∷ 0 ∷ [])
      ≡ ([], Faulty 1 Malformed)
  pub binary_no_header : outcome_of Lidrup
      (113 ∷ 2 ∷ 0 ∷ (codes "sUNSATISFIABLE" ++ 85 ∷ 172 ∷ 2 ∷ 117 ∷ 2 ∷ 0 ∷ 2 ∷ 0 ∷ []))
      ≡ (
        line Query 0 (0 ∷ []) [] ∷ line (Answer Unsatisfiable) 0 [] [] ∷ line (Several 300) 0 [] []
            ∷ line Core 0 (0 ∷ []) (2 ∷ []) ∷ [],
        Ended,
      )
  pub binary_largest : outcome_of Lidrup (binary (113 ∷ 129 ∷ 128 ∷ 128 ∷ 128 ∷ 2 ∷ 0 ∷ []))
      ≡ (line Query 0 (536870911 ∷ []) [] ∷ [], Ended)
  pub binary_variable : outcome_of Lidrup (binary (113 ∷ 130 ∷ 128 ∷ 128 ∷ 128 ∷ 2 ∷ 0 ∷ []))
      ≡ ([], Faulty 2 NumberTooLarge)
  pub binary_long : outcome_of Lidrup
      (binary (113 ∷ 130 ∷ 128 ∷ 128 ∷ 128 ∷ 128 ∷ 128 ∷ 128 ∷ 128 ∷ 128 ∷ 0 ∷ 0 ∷ []))
      ≡ ([], Faulty 2 NumberTooLarge)
  pub binary_one : outcome_of Lidrup (binary (113 ∷ 1 ∷ 0 ∷ [])) ≡ ([], Faulty 2 Malformed)
  pub binary_no_id : outcome_of Lidrup (binary (105 ∷ 0 ∷ 0 ∷ [])) ≡ ([], Faulty 2 Malformed)
  pub binary_blank : outcome_of Lidrup (binary (113 ∷ 0 ∷ 32 ∷ []))
      ≡ (line Query 0 [] [] ∷ [], Faulty 3 Malformed)
  pub binary_comment : outcome_of Lidrup (binary (113 ∷ 0 ∷ 99 ∷ 10 ∷ []))
      ≡ (line Query 0 [] [] ∷ [], Faulty 3 Malformed)
  pub binary_cut : outcome_of Lidrup (binary (113 ∷ 3 ∷ [])) ≡ ([], Faulty 2 Unfinished)
  pub binary_letter : outcome_of Lidrup (binary (113 ∷ 0 ∷ 117 ∷ []))
      ≡ (line Query 0 [] [] ∷ [], Faulty 3 Unfinished)
  pub binary_by_its_first_number : outcome_of Lidrup (binary (113 ∷ 9 ∷ 0 ∷ []))
      ≡ (line Query 0 (7 ∷ []) [] ∷ [], Ended)
  pub text_by_its_first_space : outcome_of Lidrup (binary (113 ∷ 32 ∷ 0 ∷ []))
      ≡ ([], Faulty 2 Malformed)
