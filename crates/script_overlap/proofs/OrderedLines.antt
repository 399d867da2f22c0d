-- The ordered requests before a position, and the span there, one line further; and the numbers of their lines.
use Rattle.std.proofs.Common.{◌≡◌, ◌∙◌, refl, sym, ap, subst, ℕ, ◌+◌, ◌<◌, inl, inr, arith, List, [], ◌∷◌, ◌++◌, length, map, take, get_or, Some, None, false}
use Rattle.std.proofs.lemmas.List.{get_or_default, take_more}
use Rattle.std.proofs.lemmas.List.Elements.{Contains-push}
use Rattle.std.proofs.lemmas.Option.{slice_get_past}
use Rattle.std.specs.Option.{option_and_then}
use Rattle.std.proofs.lemmas.Bool.{cases_lt}
use Rattle.script_meaning.specs.Requests.{accepted_at, drains_at, number_at, queue_at}
use Rattle.script_meaning.specs.Script.{Meant, orders}
use Rattle.script_meaning.specs.Taken.{accepted, accepted_in, drains_in}
use Rattle.script_meaning.specs.declared.script.Line.{Line}
use Rattle.script_meaning.specs.declared.reply.Outcome.{Outcome}
use Rattle.script_meaning.specs.declared.reply.Request.{Request}
use Rattle.script_meaning.specs.declared.script.Version.{Version}
use Rattle.script_meaning.specs.declared.script.Version.TheVariants.{One, Two}
use Rattle.script_overlap.specs.Ordered.{AreOrdered, AreDrainsOf, NoneInVersionOne}
use Rattle.script_overlap.specs.Overlap.{HasNoOverlap, IsOverlap}
use Rattle.script_overlap.specs.SpanOfRequests.{Marks, IsEmpty, IsNext}
use Rattle.script_overlap.proofs.OrderedLemmas.{AreOrderedUpTo, none_up_to, up_to_further, up_to_pushed, not_yet}
use Rattle.script_overlap.proofs.Overlaps.{apart_here, none_ordered}
use Rattle.script_overlap.proofs.SpanLemmas.{IsSpanAt, span_first, span_stepped, span_waited}

-- these are the ordered requests before a position, and this is the span there
pub record IsOrderedUpTo (script : Meant) (here : ℕ) (span : Marks) (positions : List ℕ) : Type 0 where
  pub ordered : AreOrderedUpTo script positions here
  pub at : IsSpanAt script positions here span

pub ordered_first : (script : Meant) (span : Marks) → IsEmpty span → IsOrderedUpTo script 0 span []
ordered_first script span empty = record { ordered = none_up_to script; at = span_first script [] span empty }

-- a line whose request waits for no drain, and one whose does
pub ordered_stepped : (script : Meant) (i : ℕ) (old new : Marks) (positions : List ℕ) (came : Outcome) → accepted_at script i ≡ accepted_in came → drains_at script i ≡ drains_in came
    → IsNext old came None new → IsOrderedUpTo script i old positions → IsOrderedUpTo script (i + 1) new positions
ordered_stepped script i old new positions came accepted drains next before =
    let step = span_stepped script positions i old new came accepted drains next before.at in
    record { ordered = up_to_further script positions i step.joins before.ordered; at = step.at (not_yet script positions i before.ordered) }

pub ordered_waited : (script : Meant) (i : ℕ) (old new : Marks) (positions : List ℕ) (came : Outcome) (waits : Request) → accepted_at script i ≡ accepted_in came
    → IsNext old came (Some waits) new → IsOrderedUpTo script i old positions → IsOrderedUpTo script (i + 1) new (positions ++ i ∷ [])
ordered_waited script i old new positions came waits accepted next before =
    let step = span_waited script positions i old new came waits accepted next before.at in
    record { ordered = up_to_pushed script positions i step.waits before.ordered; at = step.at (positions ++ i ∷ []) (Contains-push positions i) }

-- where version 1 has ordered none up to a line, no request overlaps one before that line
pub apart_before : (script : Meant) (positions : List ℕ) (i : ℕ) → positions ≡ [] → AreOrderedUpTo script positions i → (e l : ℕ) → l < i → IsOverlap script e l → ⊥
apart_before script positions i none before e l less =
    apart_here script l (λ w.
    let P : List ℕ → Type 0 = λ ps. AreOrderedUpTo script ps i in
    none_ordered l ((subst P none before).all l less w)) e

-- so no two overlap where all are ordered as they have to be
pub none_overlaps : (script : Meant) (positions : List ℕ) → AreOrdered script positions → NoneInVersionOne script positions → HasNoOverlap script
none_overlaps script positions are none e l o =
    let P : List ℕ → Type 0 = λ ps. AreOrdered script ps in
    apart_here script l (λ w. none_ordered l ((subst P (none o.refuses) are).all l w)) e o

-- ---- the numbers of their lines

-- an accepted request stands at a line
pub accepted_within : (script : Meant) (p : ℕ) (request : Request) → accepted_at script p ≡ Some request → p < length script.lines
accepted_within script p request is =
    elim (cases_lt p (length script.lines)) [
      | inl less ↦ less
      | inr more ↦
          let past : accepted_at script p ≡ None = ap (option_and_then (λ (line : Line). accepted (queue_at script p) line.what)) (slice_get_past script.lines p more) in
          (let there : accepted_at script p ≡ Some request = is in cc)
    ]

-- so do the ordered requests
pub ordered_within : (script : Meant) (ordered items : List ℕ) (lines : List Line) (i : ℕ) → AreOrdered script ordered → items ≡ ordered → lines ≡ script.lines → i < length items
    → get_or items i 0 < length lines
ordered_within script ordered items lines i are same same_lines less =
    let inside : i < length ordered = omega (arith, less, ap length same) in
    let position : ℕ = get_or ordered i 0 in
    let w = are.wait position (i, inside, get_or_default ordered i position 0 inside) in
    let within : get_or ordered i 0 < length script.lines = accepted_within script position w.second w.second_accepted in
    omega (arith, within, ap (λ xs. get_or xs i 0) same, ap length same_lines)

map_push : {X Y : Type 0} (f : X → Y) (xs : List X) (x : X) → map f (xs ++ x ∷ []) ≡ map f xs ++ f x ∷ []
map_push f [] x = refl
map_push f (y ∷ xs) x = ap (λ ys. f y ∷ ys) (map_push f xs x)

-- one more number of those that were told
pub numbers_more : (script : Meant) (positions lines : List ℕ) (i position number : ℕ) → i < length positions → position ≡ get_or positions i position → number_at script position ≡ Some number
    → map (number_at script) (take i positions) ≡ map Some lines → map (number_at script) (take (i + 1) positions) ≡ map Some (lines ++ number ∷ [])
numbers_more script positions lines i position number less is told before =
    ap (map (number_at script)) (take_more positions i position less ∙ ap (λ p. take i positions ++ p ∷ []) (sym is)) ∙ map_push (number_at script) (take i positions) position
    ∙ ap (λ ns. ns ++ number_at script position ∷ []) before ∙ ap (λ n. map Some lines ++ n ∷ []) told ∙ sym (map_push Some lines number)

-- the lines before which a drain stands, by their numbers
pub drains_of : (version : Version) (script : Meant) (positions lines : List ℕ) → AreOrdered script positions → (orders version ≡ false → positions ≡ []) → map (number_at script) positions ≡ map Some lines
    → AreDrainsOf version script lines
drains_of One script positions lines are none numbers = no_lines lines (sym numbers ∙ ap (map (number_at script)) (none refl))
  where
    no_lines : (lines : List ℕ) → map Some lines ≡ [] → lines ≡ []
    no_lines [] e = refl
    no_lines (line ∷ lines) e = cc
drains_of Two script positions lines are none numbers = record { positions = positions; ordered = are; numbers = numbers }
