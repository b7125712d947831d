-- The slots and the parts own what a box at the same types owns.
--     Session, Checker      the checkers, with the allocator that a box has
--     FromParts E      the parts of a box as a parameter
use mathlib.Core.List.{[]}
use mir.Syntax.{impl, tnil, dnil}
use denote.Param.Laws.{Laws}
use denote.RattleType.{RattleType}
use denote.Signature.{Slot, plain}
use Rattle.std_alloc.proofs.BoxSteps.Form.{Bx}
use Rattle.std_heap.specs.contracts.Global as heap
use Rattle.std_heap.specs.contracts.GlobalAllocator.TheImpl.{ghosts, dict}
use Rattle.std_heap.proofs.Global.TheLaws as heap_laws
use Rattle.session_checker.specs.contracts.checker.SessionChecker as session
use Rattle.session_checker.proofs.checker.SessionChecker.TheLaws as session_laws
use Rattle.handles.specs.contracts.checker_ported.Ported as ported
use Rattle.handles.proofs.checker_ported.Ported.TheLaws as ported_laws
use Rattle.handles.specs.contracts.parts.Parts as parts

abbrev boxed : (R : RattleType) → Laws R → Bx
boxed R laws = record {
  row = R;
  laws = laws;
  al = record { row = heap.the_row; laws = heap_laws.the_row_laws; g = ghosts; d = dict; drops = impl [] tnil dnil };
}

abbrev pub Session : Bx
Session = boxed session.the_row session_laws.the_row_laws

abbrev pub Checker : Bx
Checker = boxed ported.the_row ported_laws.the_row_laws

abbrev pub FromParts : Bx → Slot 1
FromParts E = plain (λ _. parts.the_row E.row heap.the_row ghosts)
