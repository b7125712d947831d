-- What the walks share: the names that they cite, and a pointer with its allocator as a machine value.
--     there      what an option holds that is `Some`
--     words E p hv, Fields E p a vs      the machine value of the two;  what they own as fields of a struct
--     ptr_typed, words_typed      a pointer, and one with an allocator, has its type
--     words_out, words_in      fields are the machine value and what the allocator owns;  and back
pub use mathlib.Core.Bool.{true}
pub use mathlib.Core.List.{List, [], ◌∷◌, ◌++◌}
pub use mathlib.Core.Path.{refl, sym, subst, ◌≡◌, ap, ◌∙◌}
pub use lib.Dec.{T}
use lib.Dec.{lit<}
use seplogic.Ra.Ura.{Ura}
pub use mir.MapTy.{inst_fn}
pub use mir.Raw.{raw as bare}
pub use mir.Syntax.{Args, a_type, dcons, dnil, Body, place, copy, assign, rv_opd, seq, return, named}
use mir.Syntax.{ty_ptr}
pub use mir.Val.{Val, vstruct, has_ty, of_list, vptr, WT}
use mir.Val.{vcons, vnil}
pub use base.Fml.{ftrue, fsep, flft}
use base.Fml.{Fml, fex}
pub use base.Fraction.{full_share}
pub use base.Logic.{SProp, ent, emp, id⊢, never, fst∗}
pub use prog.Wp.{WpFn}
pub use types.ByLocal.{alloc_all, pass_all, free_all, look_at, get, sets, get_in, lands_as, lands_last, env, through}
pub use types.Kit.{Item, ‵, raw, ◌⊛◌, ◌$◌, ◌∵◌, !, qed, by, move, drop, use1, join, split, fsplit, fjoin, feq_i, suffices, done, rewrite, some}
pub use types.Kit.{later, split3, pick, fpick, feq_l, await, at_ret, keep, fsplit3, fjoin3, regoal, prop}
use types.Kit.{fpack, Seq, Step, step, Goal}
pub use types.Logic.{sem}
use types.Logic.{Logic}
pub use types.Part.{agg, whole, sub, look_in, store_in}
pub use types.Run.{lit, no_more, and_then, returns, enter, stop, fld, of_opd, first, blocks, exec, load, assigns}
pub use contract.BorrowLft.{◌⊑◌}
pub use contract.Monad.{fact}
pub use contract.Running.{tables}
pub use denote.Exit.{yes, no}
pub use denote.Memory.{cell_at}
pub use denote.Param.{bounded}
pub use denote.RattleType.{RattleType}
use denote.RattleType.{Valss}
pub use denote.RawPtr.{null_ptr, Ptr, RawPtr, block_ptr, ptr_val, in_a_block}
pub use denote.Ref.{MutRef}
pub use denote.Signature.{Slot, type_at, plain}
pub use denote.Steps.{nothing, heard, only, opens, closes}
use denote.Struct.Owning.{shape}
use denote.Struct.Struct.{within}
pub use denote.Struct.Tuple.{Tuple}
pub use denote.Triple.Call.{calls_at, calls_at_last}
pub use denote.Triple.Spec.{triple_of}
pub use denote.Triple.Table.{framed}
pub use denote.Triple.Walked.{says, Stays, stay_dropped, walk_of, ends_at, Goes-dropped, stay_ref, Goes-ref}
pub use Rattle.core.proofs.alloc.Calls.{handle_tells, token, Goes-blank}
use Rattle.core.proofs.alloc.Calls.{α, Fits}
pub use Rattle.std.proofs.raw_atomic.Walks.{proved_at}
pub use Rattle.std.specs.Prelude.{None, Some, Option, is_some}
pub use Rattle.std_alloc.proofs.BoxSteps.Form.{D, B, word, box_typed, Bx, τ, R, P, args, box_ty}
use Rattle.std_alloc.proofs.BoxSteps.Form.{handle, owning}
pub use Rattle.std_alloc.proofs.BoxSteps.Steps.{box_out, box_in}
use Rattle.std_alloc.proofs.ResultValues.{and_tt}
pub use Rattle.std_alloc.specs.Box.Ownership.{box_owns}

pub there : {A : Type 0} (s : Option A) → is_some s ≡ true → (x : A) × (s ≡ Some x)
there (Some x) is = (x, refl)
there None is = absurd cc

pub ptr_typed : (p : Ptr) → T (has_ty ty_ptr (ptr_val p)) × WT (ptr_val p)
ptr_typed (block_ptr b o) = (tt, tt)
ptr_typed null_ptr = (tt, record { fits = lit< tt })

module _ (E : Bx) where
  abbrev pub words : Ptr → Val → Val
  words p hv = vstruct (vcons (ptr_val p) (vcons hv vnil))

  abbrev pub Fields : Ptr → E.al.row.Denot → List Val → Fml
  Fields p a vs = fex (Valss (RawPtr ∷ P E ∷ [])) (within (shape (owning E)) (p, (a, tt)) vs)

  pub words_typed : (p : Ptr) (hv : Val) → Fits E.al hv → T (has_ty (box_ty E) (words p hv)) × WT (words p hv)
  words_typed (block_ptr b o) hv fa = box_typed E hv b o fa
  words_typed null_ptr hv fa = (and_tt (has_ty (α E.al) hv) fa.0, (record { fits = lit< tt }, (fa.1, tt)))

  module _ {M : Type 1} {𝓤 : Ura M} {𝓛 : Logic 𝓤} {K : Type 0} {Γ : List (Item 𝓤)} {G : Goal 𝓤 𝓛.H} where
    pub words_out : K → (p : Ptr) (a : E.al.row.Denot) (vs : List Val) → ((hv : Val) → vs ≡ words p hv ∷ [] → Fits E.al hv → Seq K 𝓛 (‵ (handle E a hv) ∷ Γ) G) → Seq K 𝓛 (‵ (Fields p a vs) ∷ Γ) G
    words_out t p a vs k =
        fpick t (λ vss. fsplit t $ feq_l t (λ ev. fsplit t $ feq_l t (λ ep. fsplit t $ handle_tells E.al t a vss.1.0 (λ hv ea fa. move t (1 ∷ []) $ drop t $ k hv
        (subst (λ (ws : List Val). vs ≡ vstruct (of_list (ptr_val p ∷ (ws ++ []))) ∷ []) ea (subst (λ (ps : List Val). vs ≡ vstruct (of_list (ps ++ (vss.1.0 ++ []))) ∷ []) ep ev)) fa))))

    pub words_in : K → {hv : Val} (p : Ptr) (a : E.al.row.Denot) → Step K 𝓛 (‵ (Fields p a (words p hv ∷ [])) ∷ Γ) G (‵ (handle E a hv) ∷ Γ) G
    words_in t {hv} p a = step (λ s.
        nothing t $ move t (1 ∷ 0 ∷ []) $ fjoin t $ feq_i t (List Val) (ptr_val p ∷ []) (ptr_val p ∷ []) refl $ fjoin t $ feq_i t (List Val) (words p hv ∷ []) (words p hv ∷ []) refl $ fjoin t $
        fpack t (Valss (RawPtr ∷ P E ∷ [])) (within (shape (owning E)) (p, (a, tt)) (words p hv ∷ [])) (ptr_val p ∷ [], (hv ∷ [], tt)) $ s)
