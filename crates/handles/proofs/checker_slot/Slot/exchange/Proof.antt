-- `exchange` moves two fields each way, and what they own goes with them.
use Rattle.handles.proofs.Walks.{List, [], ◌∷◌, ◌++◌, refl, named, Val, vptr, ftrue, fsep, flft, full_share, SProp, emp, WpFn, alloc_all, pass_all, free_all, look_at}
use Rattle.handles.proofs.Walks.{get, sets, get_in, through, ‵, raw, ◌⊛◌, ◌$◌, ◌∵◌, !, qed, move, join, split, fsplit, fjoin, suffices, done, rewrite, keep, fsplit3}
use Rattle.handles.proofs.Walks.{fjoin3, regoal, prop, agg, whole, sub, look_in, store_in, no_more, and_then, returns, enter, stop, fld, of_opd, load, assigns, tables}
use Rattle.handles.proofs.Walks.{yes, cell_at, MutRef, Slot, type_at, plain, nothing, opens, closes, says, Stays, stay_dropped, walk_of, ends_at, Goes-dropped, stay_ref}
use Rattle.handles.proofs.Walks.{Goes-ref, proved_at, ptr_typed, words, words_typed, words_out, words_in}
use Rattle.handles.proofs.AsBox.{Checker as E, FromParts}
use Rattle.handles.specs.contracts.checker_slot.Slot as slot
use Rattle.handles.specs.contracts.checker_slot.Slot.exchange as F
use Rattle.handles.specs.contracts.checker_slot.Slot.exchange.Key.{name as #self}
use Rattle.handles.proofs.checker_slot.Slot.exchange.Statement as stated
use Rattle.handles.proofs.checker_slot.Slot.exchange.Code as code

abbrev From : Slot 1
From = FromParts E

abbrev stayed : Stays F.ended.signature.params F.ended.kept
stayed = (stay_ref (0 ∷ []) tt (plain (λ _. slot.the_row)), (stay_dropped From yes, tt))

pub exchange_spec : {M : Type 1} → stated.statement M
exchange_spec 𝓤 𝓛 𝓜 𝓡 wired =
    let c = F.clauses 𝓛 𝓜.mem 𝓡.returns in let 𝓣 = tables 𝓤 𝓛.H 𝓜 𝓡 𝓡.env in
    proved_at 𝓛 F.ended stayed c 𝓜 𝓡 (Goes-ref 𝓛 1 0 tt (plain (λ _. slot.the_row)), (Goes-dropped 𝓛 1 From yes (λ κs x f. refl), tt)) #self code.function (code.unfolded 𝓤 𝓛.H 𝓜 𝓡 wired) (λ z are.
    let κ = z.0.0.0 in let q = z.0.1.0 in let r = z.0.3.0 in let b = r.ref_ptr.0 in let o = r.ref_ptr.1 in let s = r.now in let p = z.0.3.1.0 in
    let Post : Val → SProp 𝓤 = (walk_of 𝓛 F.ended stayed c).post z in
    let To = type_at F.signature.result z.0.0 in let old : To.Denot = record { ptr = s.at; alloc = p.alloc; state = s.state } in let new : slot.the_row.Denot = record { at = p.ptr; alloc = s.alloc; state = p.state } in
    qed 𝓛 (((‵ (flft κ q) ⊛ ‵ ftrue) ⊛ ‵ ((MutRef (named 0) κ slot.the_row).own_val r z.0.4.0) ⊛ ‵ (fsep ((From.row z.0.0).own_val p z.0.4.1.0) ftrue)) ∷ raw (emp 𝓤) ∷ []) ∵ split ! $ split ! $ move ! (2 ∷ []) $ split ! $ move ! (1 ∷ []) $ fsplit ! $ keep ! (0 ∷ 2 ∷ 3 ∷ []) $
    -- [the parts; the reference; its token]
    fsplit ! $ words_out E ! p.ptr p.alloc z.0.4.1.0 (λ hp ep fp. let wp = words E p.ptr hp in
    regoal ! (λ (us : List Val). prop (WpFn 𝓤 𝓛.H 𝓣.C 𝓣.Λ code.function us Post)) (λ i. are.0.0 i ++ (ep i ++ [])) refl $
    enter ! 𝓣.C 𝓣.Λ code.function (vptr b o ∷ wp ∷ []) Post $ alloc_all ! (λ l. pass_all ! refl ((tt, tt), (words_typed E p.ptr hp fp, tt)) $
    move ! (2 ∷ []) $ fsplit3 ! $ move ! (1 ∷ 2 ∷ 5 ∷ []) $ opens ! tt slot.the_row b o (λ us. move ! (1 ∷ []) $ fsplit ! $ words_out E ! s.at s.alloc us (λ hs es fs.
    rewrite ! 2 (λ (ws : List Val). ‵ (cell_at full_share slot.the_row.mir ws b o)) es refl $
    -- [the slot's allocator and block; its cell; the open borrow, in three entries; the reference's words; the parts' allocator and block]
    sets ! (of_opd ! (get_in ! (fld ! refl (stop !)) (sub ! 0 refl (whole !)))) refl (ptr_typed p.ptr) $ sets ! (of_opd ! (get_in ! (fld ! refl (stop !)) (sub ! 1 refl (whole !)))) refl fp $
    sets ! (of_opd ! (load ! (through ! refl (fld ! refl (stop !))) (look_in ! 2 (sub ! 0 refl (whole !))))) refl (ptr_typed s.at) $ sets ! (of_opd ! (get ! refl)) refl (ptr_typed s.at) $
    sets ! (agg ! (and_then ! (get ! refl) (and_then ! (get ! refl) (no_more !)))) refl (words_typed E s.at hp fp) $
    sets ! (of_opd ! (get ! refl)) refl (ptr_typed p.ptr) $ assigns ! (of_opd ! (get ! refl)) (through ! refl (fld ! refl (stop !))) (store_in ! 2 (sub ! 0 refl (whole !)) (ptr_typed p.ptr)) $ sets ! (of_opd ! (get ! refl)) refl (words_typed E s.at hp fp) $
    move ! (0 ∷ 8 ∷ []) $ words_in E ! p.ptr s.alloc $ fjoin ! $ move ! (2 ∷ 0 ∷ 3 ∷ 4 ∷ 5 ∷ []) $ closes ! tt slot.the_row new (words E p.ptr hs ∷ []) b o $
    -- [the reference's last value and borrow; its token; the slot's block; the reference's words; the parts' allocator]
    move ! (5 ∷ 3 ∷ []) $ words_in E ! s.at p.alloc $ fjoin ! $ returns ! (look_at ! 0 refl) $ free_all ! refl $
    suffices ! _ (ends_at 𝓛 F.ended stayed c z (words E s.at hp) old (new, (tt, tt)) (tt, (tt, tt))) $ says ! (refl, refl) $
    move ! (4 ∷ 1 ∷ 2 ∷ []) $ fjoin3 ! $ nothing ! $ nothing ! $ fjoin ! $ move ! (1 ∷ 0 ∷ []) $ fjoin ! $ move ! (0 ∷ 1 ∷ []) $ join ! $ nothing ! $ move ! (2 ∷ 0 ∷ []) $ join ! $ join ! $ done !)))))
