-- `nothing`: a null pointer beside the allocator, which owns nothing.
use Rattle.std.proofs.Common.{List, [], ◌∷◌, ◌++◌, refl, lit<, None}
use base.Logic.{emp, id⊢}
use base.Fml.{ftrue, fsep}
use contract.Running.{tables}
use mir.Val.{Val, vnull, vstruct, of_list, has_ty}
use prog.Wp.{WpFn}
use types.Kit.{prop, regoal, ‵, raw, ◌⊛◌, ◌$◌, ◌∵◌, !, qed, move, drop, use1, join, split, fsplit, fjoin, feq_i, fpack, suffices, done}
use types.Part.{agg}
use types.Run.{no_more, and_then, of_opd, lit, returns, enter}
use types.ByLocal.{alloc_all, pass_all, free_all, look_at, get, sets}
use denote.Exit.{yes}
use denote.RattleType.{Valss}
use denote.RawPtr.{RawPtr, null_ptr, ptr_val}
use denote.Struct.Struct.{within}
use denote.Struct.Owning.{shape, to}
use denote.Signature.{plain}
use denote.Steps.{nothing}
use denote.Triple.Walked.{says, Stays, stay_dropped, Goes-dropped, walk_of, ends_at}
use Rattle.std.proofs.alloc.Calls.{α, handle_tells}
use Rattle.std_alloc.proofs.ResultValues.{and_tt}
use Rattle.std.proofs.raw_atomic.Walks.{proved_at}
use Rattle.freeze_queue_c.proofs.FreezerBox.{E}
use Rattle.freeze_queue_c.specs.contracts.freezer_held.FreezerHeld.{the_row, the_type}
use Rattle.freeze_queue_c.specs.contracts.freezer_held.FreezerHeld.nothing as f
use Rattle.freeze_queue_c.proofs.freezer_held.FreezerHeld.nothing.Statement.{statement}
use Rattle.freeze_queue_c.proofs.freezer_held.FreezerHeld.nothing.Code as code

abbrev stayed : Stays f.ended.signature.params f.ended.kept
stayed = (stay_dropped (plain (λ _. E.al.row)) yes, tt)

abbrev w : Val → Val
w hv = vstruct (of_list (vnull ∷ hv ∷ []))

abbrev made : E.al.row.Denot → the_row.Denot
made a = record { at = null_ptr; alloc = a; freezer = None }

pub nothing_spec : {M : Type 1} → statement M
nothing_spec 𝓤 𝓛 𝓜 𝓡 wired =
    let H = 𝓛.H in let 𝓣 = tables 𝓤 H 𝓜 𝓡 𝓡.env in let c = f.clauses 𝓛 𝓜.mem 𝓡.returns in let W = walk_of 𝓛 f.ended stayed c in
    proved_at 𝓛 f.ended stayed c 𝓜 𝓡 (Goes-dropped 𝓛 0 (plain (λ _. E.al.row)) yes (λ κs x w. refl), tt) f.Key.name code.function (code.unfolded 𝓤 H 𝓜 𝓡 wired) (λ z are.
    qed 𝓛 ((‵ ftrue ⊛ ‵ (fsep (E.al.row.own_val z.0.3.0 z.0.4.0) ftrue)) ∷ raw (emp 𝓤) ∷ []) ∵ split ! $ drop ! $ fsplit ! $ move ! (1 ∷ 2 ∷ []) $ drop ! $ drop ! $
    handle_tells E.al ! z.0.3.0 z.0.4.0 (λ hv words fits.
    regoal ! (λ us. prop (WpFn 𝓤 H 𝓣.C 𝓣.Λ code.function (us ++ []) (W.post z))) words refl $
    enter ! _ _ _ _ _ $ alloc_all ! (λ ls. pass_all ! refl (fits, tt) $
    sets ! (of_opd ! (lit ! tt)) refl (tt, record { fits = lit< tt }) $
    sets ! (agg ! (and_then ! (get ! refl) (and_then ! (get ! refl) (no_more !)))) refl (and_tt (has_ty (α E.al) hv) fits.0, (record { fits = lit< tt }, (fits.1, tt))) $
    returns ! (look_at ! 0 refl) $ free_all ! refl $
    nothing ! $ nothing ! $ move ! (2 ∷ 0 ∷ []) $ fjoin ! $ feq_i ! (List Val) (vnull ∷ []) (ptr_val null_ptr ∷ []) refl $ fjoin ! $
    feq_i ! (List Val) (w hv ∷ []) (w hv ∷ []) refl $ fjoin ! $
    fpack ! (Valss (RawPtr ∷ E.al.row ∷ [])) (within (shape the_type) (to the_type (made z.0.3.0)) (w hv ∷ [])) (vnull ∷ [], (hv ∷ [], tt)) $ fjoin ! $
    use1 𝓛 (‵ (the_row.own_val (made z.0.3.0) (w hv ∷ []))) (id⊢ 𝓤 _) $
    suffices ! _ (ends_at 𝓛 f.ended stayed c z (w hv) (made z.0.3.0) (tt, tt) (tt, tt)) $ says ! refl $
    nothing ! $ nothing ! $ fjoin ! $ join ! $ nothing ! $ join ! $ done !)))
