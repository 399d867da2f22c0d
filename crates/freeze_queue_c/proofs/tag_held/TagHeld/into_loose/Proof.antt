-- `into_loose`: the two fields move, and the loose box owns what an open handle owned.
use Rattle.std.proofs.Common.{◌≡◌, [], ◌∷◌, ◌++◌, refl, Option, Some}
use base.Logic.{id⊢}
use base.Fml.{ftrue, fsep}
use contract.Monad.{fact}
use contract.Running.{tables}
use prog.Wp.{WpFn}
use types.Kit.{prop, regoal, rewrite, ‵, raw, ◌⊛◌, ◌$◌, ◌∵◌, !, qed, move, drop, use1, join, split, fsplit, fjoin, suffices, done}
use types.Part.{whole, sub, agg}
use types.Run.{stop, fld, no_more, and_then, of_opd, returns, enter}
use types.ByLocal.{alloc_all, pass_all, free_all, look_at, get, get_in, sets}
use denote.Exit.{yes}
use denote.Signature.{type_at}
use denote.Steps.{nothing, heard}
use denote.Triple.Walked.{says, Stays, stay_dropped, Goes-dropped, walk_of, ends_at}
use Rattle.std.proofs.raw_atomic.Walks.{proved_at}
use Rattle.std_alloc.proofs.BoxSteps.Form.{X, D, B, word, box_typed}
use Rattle.std_alloc.proofs.BoxSteps.Steps.{box_out, box_in}
use Rattle.freeze_queue_c.specs.contracts.tag_held.TagHeld.{the_row}
use Rattle.freeze_queue_c.proofs.TagBox.{E, FromHeld as From}
use Rattle.freeze_queue_c.specs.contracts.tag_held.TagHeld.into_loose as f
use Rattle.freeze_queue_c.proofs.tag_held.TagHeld.into_loose.Statement.{statement}
use Rattle.freeze_queue_c.proofs.tag_held.TagHeld.into_loose.Code as code

abbrev stayed : Stays f.ended.signature.params f.ended.kept
stayed = (stay_dropped From yes, tt)

pub into_loose_spec : {M : Type 1} → statement M
into_loose_spec 𝓤 𝓛 𝓜 𝓡 wired =
    let H = 𝓛.H in let 𝓣 = tables 𝓤 H 𝓜 𝓡 𝓡.env in let c = f.clauses 𝓛 𝓜.mem 𝓡.returns in let W = walk_of 𝓛 f.ended stayed c in
    let To = type_at f.signature.result tt in
    proved_at 𝓛 f.ended stayed c 𝓜 𝓡 (Goes-dropped 𝓛 0 From yes (λ κs x w. refl), tt) f.Key.name code.function (code.unfolded 𝓤 H 𝓜 𝓡 wired) (λ z are.
    let held = z.0.3.0 in
    qed 𝓛 ((‵ ftrue ⊛ ‵ (fsep (the_row.own_val held z.0.4.0) ftrue)) ∷ raw (fact 𝓤 ((s : X E) × (held.tag ≡ Some s))) ∷ []) ∵
    move ! (1 ∷ []) $ heard ! _ (λ is_open. split ! $ drop ! $ fsplit ! $
    let v : D E = record { ptr = held.at; alloc = held.alloc; value = is_open.0 } in
    rewrite ! 0 (λ (m : Option (X E)). ‵ (the_row.own_val (record { at = held.at; alloc = held.alloc; tag = m }) z.0.4.0)) is_open.1 refl $
    use1 𝓛 (‵ ((B E).own_val v z.0.4.0)) (id⊢ 𝓤 _) $
    box_out E ! v z.0.4.0 (λ b o hv at_b words fits.
    let w = word E hv b o in
    let made : To.Denot = record { at = v.ptr; alloc = v.alloc; value = v.value } in
    box_in E ! v b o v.value at_b refl $ use1 𝓛 (‵ (To.own_val made (w ∷ []))) (id⊢ 𝓤 _) $ move ! (1 ∷ []) $ drop ! $
    regoal ! (λ us. prop (WpFn 𝓤 H 𝓣.C 𝓣.Λ code.function (us ++ []) (W.post z))) words refl $
    enter ! _ _ _ _ _ $ alloc_all ! (λ ls. pass_all ! refl (box_typed E hv b o fits, tt) $
    sets ! (of_opd ! (get_in ! (fld ! refl (stop !)) (sub ! 0 refl (whole !)))) refl (tt, tt) $
    sets ! (of_opd ! (get_in ! (fld ! refl (stop !)) (sub ! 1 refl (whole !)))) refl fits $
    sets ! (of_opd ! (get ! refl)) refl (tt, tt) $
    sets ! (agg ! (and_then ! (get ! refl) (and_then ! (get ! refl) (no_more !)))) refl (box_typed E hv b o fits) $
    returns ! (look_at ! 0 refl) $ free_all ! refl $
    suffices ! _ (ends_at 𝓛 f.ended stayed c z w made (tt, tt) (tt, tt)) $ says ! is_open.1 $
    nothing ! $ nothing ! $ fjoin ! $ join ! $ nothing ! $ join ! $ done !))))
