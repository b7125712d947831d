-- `none` makes parts that own no block.
use Rattle.handles.proofs.Walks.{List, [], ◌∷◌, ◌++◌, refl, sym, subst, inst_fn, Val, ftrue, fsep, flft, ent, id⊢, WpFn, alloc_all, pass_all, free_all, look_at, get}
use Rattle.handles.proofs.Walks.{sets, Item, ‵, raw, ◌⊛◌, ◌$◌, ◌∵◌, !, qed, by, move, use1, join, split, fsplit, fjoin, suffices, done, keep, agg, lit, no_more}
use Rattle.handles.proofs.Walks.{and_then, returns, enter, of_opd, ◌⊑◌, fact, tables, no, RattleType, null_ptr, plain, nothing, says, Stays, stay_dropped, walk_of}
use Rattle.handles.proofs.Walks.{ends_at, Goes-dropped, handle_tells, proved_at, None, Bx, R, P, args, words, words_typed, words_in}
use Rattle.handles.specs.contracts.parts.Parts as parts
use Rattle.handles.specs.contracts.parts.Parts.none as F
use Rattle.handles.specs.contracts.parts.Parts.none.Key.{name as #self}
use Rattle.handles.proofs.parts.Parts.none.Statement as stated
use Rattle.handles.proofs.parts.Parts.none.Code as code

pub none_spec : {M : Type 1} → stated.statement M
none_spec 𝓤 𝓛 𝓜 𝓡 wired X Z LX LZ g d dd allocator md =
    let E : Bx = record { row = X; laws = LX; al = record { row = Z; laws = LZ; g = g; d = d; drops = dd } } in let fn = inst_fn (args E) code.function in
    let En = F.ended X Z g d dd in let c = F.clauses X Z g d dd 𝓛 𝓜.mem 𝓡.returns in let 𝓣 = tables 𝓤 𝓛.H 𝓜 𝓡 𝓡.env in
    let hs : Stays En.signature.params En.kept = (stay_dropped (plain (λ _. P E)) no, tt) in let To : RattleType = parts.the_row (R E) (P E) g in
    proved_at 𝓛 En hs c 𝓜 𝓡 (Goes-dropped 𝓛 2 (plain (λ _. P E)) no (λ κs x f. refl), tt) (#self (args E)) fn (code.unfolded 𝓤 𝓛.H 𝓜 𝓡 wired (X, (Z, tt)) d dd) (λ z are.
    let κs = z.0.0 in let qs = z.0.1 in let a = z.0.3.0 in let Post = (walk_of 𝓛 En hs c).post z in
    let ts : Item 𝓤 = ‵ (flft κs.0 qs.0) ⊛ ‵ (flft κs.1.0 qs.1.0) ⊛ ‵ ftrue in
    let alive : Item 𝓤 = raw (fact 𝓤 (κs.0 ⊑ X.lives)) ⊛ raw (fact 𝓤 (κs.1.0 ⊑ Z.lives)) ⊛ ‵ ftrue in
    let made : To.Denot = record { ptr = null_ptr; alloc = a; state = None } in
    qed 𝓛 ((ts ⊛ ‵ (fsep ((P E).own_val a z.0.4.0) ftrue)) ∷ alive ∷ []) ∵ split ! $ move ! (1 ∷ []) $ fsplit ! $
    handle_tells E.al ! a z.0.4.0 (λ hv ea fa. keep ! (0 ∷ 2 ∷ []) $
    -- [the handle; the tokens]
    let w = words E null_ptr hv in let Γ : List (Item 𝓤) = ‵ (To.own_val made (w ∷ [])) ∷ ts ∷ [] in
    nothing ! $ move ! (1 ∷ 0 ∷ []) $ words_in E ! null_ptr a $ fjoin ! $ use1 𝓛 (‵ (To.own_val made (w ∷ []))) (id⊢ 𝓤 _) $
    by ! (subst (λ (us : List Val). ent 𝓤 (types.Kit.⋆ 𝓛 Γ) (WpFn 𝓤 𝓛.H 𝓣.C 𝓣.Λ fn (us ++ []) Post)) (sym ea)
    (qed 𝓛 Γ ∵ enter ! 𝓣.C 𝓣.Λ fn (hv ∷ []) _ $ alloc_all ! (λ ls. pass_all ! refl (fa, tt) $
    sets ! (of_opd ! (get ! refl)) refl fa $ sets ! (agg ! (and_then ! (lit ! tt) (and_then ! (get ! refl) (no_more !)))) refl (words_typed E null_ptr hv fa) $ returns ! (look_at ! 0 refl) $ free_all ! refl $
    suffices ! _ (ends_at 𝓛 En hs c z w made (tt, tt) (tt, tt)) $ says ! refl $
    nothing ! $ nothing ! $ fjoin ! $ join ! $ move ! (1 ∷ 0 ∷ []) $ join ! $ done !)))))
