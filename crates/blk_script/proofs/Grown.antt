-- Texts that have grown at their end.
use Rattle.std.proofs.Common.{◌≡◌, ◌∙◌, sym, ap, ℕ, List, [], ◌++◌, append_assoc, length, take}
use Rattle.std.specs.Prelude.{Result, Ok, Err, OnErr}
use Rattle.std.proofs.Math.Seq.{take-append_seam}
use Rattle.std.proofs.lemmas.List.{append-nil}
use Rattle.blk_script.specs.Closed.{HasGrown}

pub grown_none : (old new : List ℕ) → new ≡ old → HasGrown old new
grown_none old new same = ([], same ∙ sym (append-nil old))

pub grown_by : (old mid new text : List ℕ) → mid ≡ old ++ text → new ≡ mid → HasGrown old new
grown_by old mid new text first same = (text, same ∙ first)

pub grown_more : (old mid new text : List ℕ) → mid ≡ old ++ text → HasGrown mid new → HasGrown old new
grown_more old mid new text first more = (text ++ more.0, more.1 ∙ ap (λ t. t ++ more.0) first ∙ append_assoc old text more.0)

-- cut back, such a text is as it was
pub cut_back : (old new : List ℕ) → HasGrown old new → take (length old) new ≡ old
cut_back old new grown = ap (take (length old)) grown.1 ∙ take-append_seam old grown.0

-- what holds in any case holds on a refusal
pub on_err : {A E : Type 0} (r : Result A E) (P : Type 0) → P → OnErr r P
on_err (Ok x) P holds = tt
on_err (Err e) P holds = holds
