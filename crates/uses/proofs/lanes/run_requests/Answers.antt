use Rattle.std.proofs.Common.{◌≡◌, ◌∙◌, ap, sym, subst, rules, ◌+◌, List, [], ◌∷◌, ◌++◌, Vec, Global, get_or, map, take}
use Rattle.std.proofs.lemmas.List.{map_push, take_more}
use Rattle.uses.specs.declared.cutting.Command.{Command}
use Rattle.uses.specs.declared.lanes.Request.{Request}
use Rattle.uses.specs.Lanes.{AreCut, IsCut}
use Rattle.uses.proofs.Cuts.{cut-push}
use Rattle.uses.proofs.lanes.run_requests.Goals as goal

abbrev commands_of : Vec Command Global → List Command
commands_of made = made.items

-- one request more
pub loop-request-preserved : goal.loop-request-preserved
loop-request-preserved g c =
    let requests : List Request = c.args.requests.now in
    let at = c.loop-request.request-index in
    let none : Request = record { first = 0; sectors = 0 } in
    let made : List (Vec Command Global) = c.loop-request.made.items in
    let cut = c.in_ok-cut.cut in
    let one : IsCut (get_or requests at none) cut.items = record { row = c.in_ok-cut.ensures.row; limits = c.submit_next.new.tag.limits; split = c.in_ok-cut.ensures.split } in
    let more : take (at + 1) requests ≡ take at requests ++ get_or requests at none ∷ [] = take_more requests at none c.loop-request-test.true in
    let pushed : map commands_of c.push.new.self.items ≡ map commands_of made ++ cut.items ∷ [] = ap (map commands_of) c.in_ok-push.ensures.items ∙ map_push commands_of made cut in
    let both = cut-push (take at requests) (map commands_of made) (get_or requests at none) cut.items c.loop-request.invariant.cut one in
    record {
      own = search rules;
      out = search rules;
      cut = subst (λ rs. AreCut rs (map commands_of c.push.new.self.items)) (sym more) (subst (AreCut (take at requests ++ get_or requests at none ∷ [])) (sym pushed) both);
    }
