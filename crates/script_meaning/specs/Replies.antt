-- Which replies belong to an accepted request.
use Rattle.std.specs.Prelude.{Bool, true, false}
use Rattle.script_meaning.specs.declared.reply.Reply.{Reply}
use Rattle.script_meaning.specs.declared.reply.Reply.TheVariants.{Data, Written}

abbrev pub is_ok_of_request : Reply → Bool
is_ok_of_request (Data pieces runs) = true
is_ok_of_request (Written pieces) = true
is_ok_of_request reply = false
