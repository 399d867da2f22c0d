-- A reply has pieces exactly where it is that to an accepted request.
use Rattle.std.proofs.Common.{◌≡◌, ◌∙◌, sym, ap, refl, true, is_some}
use Rattle.script_meaning.specs.Meaning.{State, IsAnswered, IsReplyTo, IsReply}
use Rattle.script_meaning.specs.Queue.{Queue}
use Rattle.script_meaning.specs.Replies.{is_ok_of_request}
use Rattle.script_meaning.specs.Taken.{outcome, accepted, accepted_in}
use Rattle.script_meaning.specs.declared.script.What.{What}
use Rattle.script_meaning.specs.declared.script.What.TheVariants.{Read, Write}
use Rattle.script_meaning.specs.declared.reply.Outcome.{Outcome}
use Rattle.script_meaning.specs.declared.reply.Outcome.TheVariants.{Accepted, Drained, Replied}
use Rattle.script_meaning.specs.declared.reply.Reply.{Reply}
use Rattle.script_meaning.specs.declared.reply.Reply.TheVariants.{Data, Written}
use Rattle.script_meaning.proofs.Queues.{IsGood, good}

has_pieces : (s : State) (what : What) (reply : Reply) → IsAnswered s what reply → true ≡ is_ok_of_request reply
has_pieces s (Read start count) (Data pieces runs) is = refl
has_pieces s (Read start count) reply is = absurd is
has_pieces s (Write start count pattern) (Written pieces) is = refl
has_pieces s (Write start count pattern) reply is = absurd is
has_pieces s what reply is = absurd is

by_outcome : (came : Outcome) (q : Queue) (s : State) (what : What) (reply : Reply) → IsGood q what came → IsReplyTo came s what reply → is_some (accepted_in came) ≡ is_ok_of_request reply
by_outcome (Accepted request) q s what reply holds is = has_pieces s what reply is
by_outcome (Drained told) q s what reply holds is = sym (ap is_ok_of_request is ∙ holds)
by_outcome (Replied told) q s what reply holds is = sym (ap is_ok_of_request is ∙ holds)

pub accepted_reply : (s : State) (what : What) (reply : Reply) → IsReply s what reply → is_some (accepted s.queue what) ≡ is_ok_of_request reply
accepted_reply s what reply is = by_outcome (outcome s.queue what) s.queue s what reply (good s.queue what) is
