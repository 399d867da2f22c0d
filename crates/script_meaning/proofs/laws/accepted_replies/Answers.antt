use Rattle.script_meaning.proofs.AcceptedReplies.{accepted_reply}
use Rattle.script_meaning.proofs.laws.accepted_replies.Goals as goal

pub returns : goal.returns
returns c = accepted_reply
