-- What went out to a writer whose bytes are known.
use Rattle.std.proofs.Common.{◌≡◌, ℕ, ◌+◌, ◌-◌, List, Option, length, take, drop, arith, length-drop}
use Rattle.std.proofs.Math.Seq.{take-add}
use Rattle.std.proofs.lemmas.List.{take_all}
use Rattle.std.proofs.KnownBytes.{Appends-trans}
use Rattle.std.specs.Io.KnownBytes.{Appends}

-- the first bytes of a text, and then the first of its rest
pub sent_more : (a b c : Option (List ℕ)) (text : List ℕ) (sent more : ℕ) → Appends a b (take sent text)
    → Appends b c (take more (take (length text - sent) (drop sent text))) → Appends a c (take (sent + more) text)
sent_more a b c text sent more first then =
    let rest : take (length text - sent) (drop sent text) ≡ drop sent text =
    take_all (length text - sent) (drop sent text) (simp length-drop (omega arith)) in
    rw take-add (Appends-trans a b c (take sent text) (take more (drop sent text)) first (rw rest at then))
