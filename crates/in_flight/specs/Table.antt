-- How far a run has come in a script: the lines of the replies, and the disk.
use Rattle.std.specs.Prelude.{◌≡◌, ℕ, ◌+◌, ◌<◌, ◌≤◌, ◌⊎◌, ◌++◌, Bool, true, false, List, [], ◌∷◌, length, Contains, Option, Some, None, is_none, set, slice_get, flat_map}
use Rattle.std.specs.Option.{option_map_or}
use Rattle.ram_disk.specs.Disk.{sectors_written}
use Rattle.blk_script.specs.Texts.{reply_line}
use Rattle.script_meaning.specs.Meaning.{AreReplies, start_of}
use Rattle.script_meaning.specs.Requests.{accepted_at, drains_at, state_at}
use Rattle.script_meaning.specs.Script.{Meant}
use Rattle.script_meaning.specs.declared.script.Line.{Line}
use Rattle.script_meaning.specs.declared.reply.Reply.{Reply}
use Rattle.script_meaning.specs.declared.reply.Request.{Request}
use Rattle.script_overlap.specs.Ordered.{AreOrdered, JoinsItsSpan}
use Rattle.in_flight.specs.Requests.{IsReplyLine, IsAnswer}
use Rattle.in_flight.specs.Span.{AreInSpan, ClashesWithNone, IsDiskBut}

-- the reply to the line at a position is owed: it isn't there yet
abbrev pub is_owed : List (Option (List ℕ)) → ℕ → Bool
is_owed replies position = option_map_or is_none (slice_get replies position) false

-- how many replies are owed
abbrev pub owed_count : List (Option (List ℕ)) → ℕ
owed_count [] = 0
owed_count (None ∷ replies) = owed_count replies + 1
owed_count (Some line ∷ replies) = owed_count replies

-- the lines of the replies that are there, one after another
abbrev pub joined : List (Option (List ℕ)) → List ℕ
joined [] = []
joined (Some line ∷ replies) = line ++ joined replies
joined (None ∷ replies) = joined replies

-- the lines before a position are taken: each reply is there or owed, and the disk lacks only the writes that are owed
pub record IsUpTo (script : Meant) (here : ℕ) (replies : List (Option (List ℕ))) (disk : List (List ℕ)) : Type 0 where
  pub lines : length replies ≡ here
  pub told : (position : ℕ) (text : List ℕ) → slice_get replies position ≡ Some (Some text) → IsReplyLine script position text
  pub span : AreInSpan script (is_owed replies) here
  pub disk_is : IsDiskBut script (is_owed replies) here disk

-- no request after an owed one is ordered: a drain would have come between
abbrev pub NoneOrderedSince : Meant → List (Option (List ℕ)) → Type 0
NoneOrderedSince script replies = (position later : ℕ) (ordered : List ℕ) → is_owed replies position ≡ true → position < later → later < length replies
    → AreOrdered script ordered → Contains ordered later → ⊥

-- as many lines of the script are taken as there are replies
pub record Stands (script : Meant) (replies : List (Option (List ℕ))) (disk : List (List ℕ)) : Type 0 where
  pub within : length replies ≤ length script.lines
  pub up : IsUpTo script (length replies) replies disk
  pub in_order : NoneOrderedSince script replies

-- ---- the laws of submitting and collecting

-- at the start the disk is all zero
abbrev pub StartsUpTo : Type 0
StartsUpTo = (script : Meant) → IsUpTo script 0 [] (state_at script 0).disk

-- a line that isn't an accepted request doesn't change the disk. If it drains, nothing may be owed
abbrev pub TakesALine : Type 0
TakesALine = (script : Meant) (here : ℕ) (line : Line) (replies : List (Option (List ℕ))) (disk : List (List ℕ)) (text : List ℕ) → IsUpTo script here replies disk
    → slice_get script.lines here ≡ Some line → accepted_at script here ≡ None → (drains_at script here ≡ false) ⊎ ((p : ℕ) → is_owed replies p ≡ false) → IsReplyLine script here text
    → IsUpTo script (here + 1) (replies ++ Some text ∷ []) disk

-- an accepted request that clashes with no owed one is owed too
abbrev pub TakesARequest : Type 0
TakesARequest = (script : Meant) (here : ℕ) (line : Line) (replies : List (Option (List ℕ))) (disk : List (List ℕ)) (request : Request) → IsUpTo script here replies disk
    → slice_get script.lines here ≡ Some line → accepted_at script here ≡ Some request → ClashesWithNone script (is_owed replies) request
    → IsUpTo script (here + 1) (replies ++ None ∷ []) disk

-- any owed answer may be collected: then its reply is there, and the sectors that it leaves are installed
abbrev pub CollectsAnAnswer : Type 0
CollectsAnAnswer = (script : Meant) (here : ℕ) (replies : List (Option (List ℕ))) (disk : List (List ℕ)) (p : ℕ) (text : List ℕ) (start : ℕ) (sectors : List (List ℕ))
    → here ≤ length script.lines → IsUpTo script here replies disk → is_owed replies p ≡ true → IsAnswer script p text start sectors
    → IsUpTo script here (set replies p (Some text)) (sectors_written start sectors disk)

-- if nothing is owed, the disk is a single thread's
abbrev pub EndsWithTheDisk : Type 0
EndsWithTheDisk = (script : Meant) (here : ℕ) (replies : List (Option (List ℕ))) (disk : List (List ℕ)) → IsUpTo script here replies disk → owed_count replies ≡ 0
    → disk ≡ (state_at script here).disk

-- this is the text of a single thread's replies to a whole script
pub record AreJoined (script : Meant) (text : List ℕ) : Type 0 where
  pub replies : List (ℕ × Reply)
  pub replied : AreReplies (start_of script) script.lines replies
  pub told : text ≡ flat_map reply_line replies

-- so if every line is taken and nothing is owed, the lines that are there are a single thread's replies
abbrev pub EndsWithTheReplies : Type 0
EndsWithTheReplies = (script : Meant) (replies : List (Option (List ℕ))) (disk : List (List ℕ)) → IsUpTo script (length script.lines) replies disk → owed_count replies ≡ 0
    → AreJoined script (joined replies)

-- the next line may be taken: it doesn't drain, or nothing is owed
abbrev pub MayPass : Meant → List (Option (List ℕ)) → Type 0
MayPass script replies = (drains_at script (length replies) ≡ false) ⊎ (owed_count replies ≡ 0)

-- the next line's request may join those that are owed: it isn't ordered, or nothing is owed
abbrev pub MayJoin : Meant → List (Option (List ℕ)) → Type 0
MayJoin script replies = JoinsItsSpan script (length replies) ⊎ (owed_count replies ≡ 0)

-- the next line isn't an accepted request and may be taken, and this is the line of its reply
pub record MayTakeReply (script : Meant) (replies : List (Option (List ℕ))) (text : List ℕ) : Type 0 where
  pub refused : accepted_at script (length replies) ≡ None
  pub passes : MayPass script replies
  pub reply : IsReplyLine script (length replies) text

-- the next line is this accepted request, and may join those that are owed
pub record MayTakeRequest (script : Meant) (replies : List (Option (List ℕ))) (request : Request) : Type 0 where
  pub accepted : accepted_at script (length replies) ≡ Some request
  pub may_join : MayJoin script replies
