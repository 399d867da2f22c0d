-- The numbers of accepted requests grow along a script.
use Rattle.std.proofs.Common.{zero, suc, ◌≡◌, ◌∙◌, ap, ℕ, ◌+◌, ◌<◌, arith, Bool, true, false, cond, List, [], ◌∷◌, ◌++◌, take, length, get_or, Option, is_some, refl}
use Rattle.std.specs.List.{slice_get}
use Rattle.std.specs.Option.{option_and_then}
use Rattle.script_meaning.specs.Queue.{Queue, start_queue}
use Rattle.script_meaning.specs.Requests.{queue_after_lines, queue_at, accepted_at, accepted_among, accepted_before, IsNumbered}
use Rattle.script_meaning.specs.Script.{Meant}
use Rattle.script_meaning.specs.Taken.{queue_after, accepted}
use Rattle.script_meaning.specs.declared.script.Line.{Line}
use Rattle.script_meaning.specs.declared.reply.Request.{Request}
use Rattle.script_meaning.proofs.Positions.{front_more}

-- the accepted request at a place of some lines
abbrev pub accepted_there : Queue → List Line → ℕ → Option Request
accepted_there q lines i = option_and_then (λ line. accepted (queue_after_lines q (take i lines)) line.what) (slice_get lines i)

counted_one : (test : Bool) (n : ℕ) → test ≡ true → 0 < cond test 1 0 + n
counted_one true n is = omega arith
counted_one false n is = cc

pub among_in_order : (q : Queue) (lines : List Line) (e l : ℕ) → e < l → is_some (accepted_there q lines e) ≡ true
    → accepted_among q (take e lines) < accepted_among q (take l lines)
among_in_order q [] e l lt is = cc
among_in_order q (line ∷ lines) e zero lt is = absurd (omega arith)
among_in_order q (line ∷ lines) zero (suc l) lt is = counted_one (is_some (accepted q line.what)) (accepted_among (queue_after q line.what) (take l lines)) is
among_in_order q (line ∷ lines) (suc e) (suc l) lt is =
    omega (arith, among_in_order (queue_after q line.what) lines e l (omega arith) is)

pub in_order : (script : Meant) (e l : ℕ) → e < l → is_some (accepted_at script e) ≡ true → accepted_before script e < accepted_before script l
in_order script e l lt is = among_in_order (start_queue script) script.lines e l lt is

-- ---- each number below the count is that of one request

-- the place of the request with this number
pub record Place (q : Queue) (lines : List Line) (number : ℕ) : Type 0 where
  pub place : ℕ
  pub accepted : is_some (accepted_there q lines place) ≡ true
  pub count : accepted_among q (take place lines) ≡ number

abbrev pub later : Queue → List Line → Type 0
later q lines = (m : ℕ) → m < accepted_among q lines → Place q lines m

none_more : (x n : ℕ) → x ≡ n → 0 + x ≡ n
none_more x n e = omega (arith, e)

one_more : (x n : ℕ) → x ≡ n → 1 + x ≡ suc n
one_more x n e = omega (arith, e)

place_in : (q : Queue) (line : Line) (lines : List Line) (n : ℕ) (test : Bool) → is_some (accepted q line.what) ≡ test
    → n < cond test 1 0 + accepted_among (queue_after q line.what) lines → later (queue_after q line.what) lines → Place q (line ∷ lines) n
place_in q line lines zero true is lt rest = record { place = 0; accepted = is; count = refl }
place_in q line lines (suc n) true is lt rest =
    let p = rest n (omega arith) in
    record {
      place = suc p.place;
      accepted = p.accepted;
      count = ap (λ (t : Bool). cond t 1 0 + accepted_among (queue_after q line.what) (take p.place lines)) is ∙ one_more (accepted_among (queue_after q line.what) (take p.place lines)) n p.count;
    }
place_in q line lines n false is lt rest =
    let p = rest n (omega arith) in
    record {
      place = suc p.place;
      accepted = p.accepted;
      count = ap (λ (t : Bool). cond t 1 0 + accepted_among (queue_after q line.what) (take p.place lines)) is ∙ none_more (accepted_among (queue_after q line.what) (take p.place lines)) n p.count;
    }

place_of : (q : Queue) (lines : List Line) → later q lines
place_of q [] n lt = absurd (omega arith)
place_of q (line ∷ lines) n lt = place_in q line lines n (is_some (accepted q line.what)) refl lt (place_of (queue_after q line.what) lines)

pub each_number : (script : Meant) (n : ℕ) → n < accepted_among (start_queue script) script.lines → IsNumbered script n
each_number script n lt =
    let p = place_of (start_queue script) script.lines n lt in
    record { position = p.place; accepted = p.accepted; count = p.count }

-- one line more
pub among_push : (q : Queue) (lines : List Line) (line : Line)
    → accepted_among q (lines ++ line ∷ []) ≡ accepted_among q lines + cond (is_some (accepted (queue_after_lines q lines) line.what)) 1 0
among_push q [] line = omega arith
among_push q (next ∷ lines) line = omega (arith, among_push (queue_after q next.what) lines line)

pub before_next : (script : Meant) (i : ℕ) (line : Line) → i < length script.lines → line ≡ get_or script.lines i line
    → accepted_before script (i + 1) ≡ accepted_before script i + cond (is_some (accepted (queue_at script i) line.what)) 1 0
before_next script i line lt is =
    ap (accepted_among (start_queue script)) (front_more script i line lt is) ∙ among_push (start_queue script) (take i script.lines) line
