-- Requests that have their commands, and one more.
use Rattle.std.proofs.Common.{List, [], ◌∷◌, ◌++◌}
use Rattle.uses.specs.declared.cutting.Command.{Command}
use Rattle.uses.specs.declared.lanes.Request.{Request}
use Rattle.uses.specs.Lanes.{AreCut, IsCut}

pub cut-push : (requests : List Request) (made : List (List Command)) (request : Request) (commands : List Command)
    → AreCut requests made → IsCut request commands → AreCut (requests ++ request ∷ []) (made ++ commands ∷ [])
cut-push [] [] request commands cut one = (one, tt)
cut-push [] (m ∷ made) request commands cut one = absurd cut
cut-push (r ∷ requests) [] request commands cut one = absurd cut
cut-push (r ∷ requests) (m ∷ made) request commands cut one = (cut.0, cut-push requests made request commands cut.1 one)
