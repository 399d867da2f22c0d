-- A script's queue and state one line further, and what stands at a line.
use Rattle.std.proofs.Common.{◌≡◌, ◌∙◌, sym, ap, refl, ℕ, ◌+◌, ◌<◌, false, List, [], ◌∷◌, ◌++◌, length, take, get_or, Option, Some}
use Rattle.std.specs.List.{slice_get}
use Rattle.std.specs.Option.{option_and_then, option_map, option_map_or}
use Rattle.std.proofs.lemmas.List.{take_more}
use Rattle.script_meaning.specs.Meaning.{State, start_of, after, after_lines}
use Rattle.script_meaning.specs.Queue.{Queue, start_queue}
use Rattle.script_meaning.specs.Requests.{queue_after_lines, queue_at, state_at, accepted_at, drains_at, number_at}
use Rattle.script_meaning.specs.Script.{Meant}
use Rattle.script_meaning.specs.Taken.{outcome, queue_after, accepted, accepted_in, drains, drains_in}
use Rattle.script_meaning.specs.declared.script.Line.{Line}
use Rattle.script_meaning.specs.declared.reply.Outcome.{Outcome}

pub after_lines-push : (first : State) (lines : List Line) (line : Line) → after_lines first (lines ++ line ∷ []) ≡ after (after_lines first lines) line.what
after_lines-push first [] line = refl
after_lines-push first (next ∷ lines) line = after_lines-push (after first next.what) lines line

pub queue_after_lines-push : (first : Queue) (lines : List Line) (line : Line) → queue_after_lines first (lines ++ line ∷ []) ≡ queue_after (queue_after_lines first lines) line.what
queue_after_lines-push first [] line = refl
queue_after_lines-push first (next ∷ lines) line = queue_after_lines-push (queue_after first next.what) lines line

-- one line more of the front
pub front_more : (script : Meant) (i : ℕ) (line : Line) → i < length script.lines → line ≡ get_or script.lines i line → take (i + 1) script.lines ≡ take i script.lines ++ line ∷ []
front_more script i line lt is = take_more script.lines i line lt ∙ ap (λ (l : Line). take i script.lines ++ l ∷ []) (sym is)

pub state_at-next : (script : Meant) (i : ℕ) (line : Line) → i < length script.lines → line ≡ get_or script.lines i line → state_at script (i + 1) ≡ after (state_at script i) line.what
state_at-next script i line lt is = ap (after_lines (start_of script)) (front_more script i line lt is) ∙ after_lines-push (start_of script) (take i script.lines) line

pub queue_at-next : (script : Meant) (i : ℕ) (line : Line) → i < length script.lines → line ≡ get_or script.lines i line → queue_at script (i + 1) ≡ queue_after (queue_at script i) line.what
queue_at-next script i line lt is = ap (queue_after_lines (start_queue script)) (front_more script i line lt is) ∙ queue_after_lines-push (start_queue script) (take i script.lines) line

-- a queue that took the lines before a position, and now the one there
pub queue_took : (script : Meant) (i : ℕ) (line : Line) (queue next : Queue) → i < length script.lines → line ≡ get_or script.lines i line
    → queue ≡ queue_at script i → next ≡ queue_after queue line.what → next ≡ queue_at script (i + 1)
queue_took script i line queue next lt is stands took = took ∙ ap (λ q. queue_after q line.what) stands ∙ sym (queue_at-next script i line lt is)

-- what the line there came to is what stands at the position
pub came_at : (script : Meant) (i : ℕ) (line : Line) (queue : Queue) (came : Outcome) → slice_get script.lines i ≡ Some line
    → queue ≡ queue_at script i → came ≡ outcome queue line.what → (accepted_at script i ≡ accepted_in came) × (drains_at script i ≡ drains_in came)
came_at script i line queue came at stands is = (
  ap (option_and_then (λ (l : Line). accepted (queue_at script i) l.what)) at ∙ ap (λ q. accepted q line.what) (sym stands) ∙ ap accepted_in (sym is),
  ap (λ (o : Option Line). option_map_or (λ (l : Line). drains (queue_at script i) l.what) o false) at ∙ ap (λ q. drains q line.what) (sym stands) ∙ ap drains_in (sym is),
)

pub number_at_line : (script : Meant) (i : ℕ) (line : Line) → slice_get script.lines i ≡ Some line → number_at script i ≡ Some line.number
number_at_line script i line is = ap (option_map (λ (l : Line). l.number)) is
