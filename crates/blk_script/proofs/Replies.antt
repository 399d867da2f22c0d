-- The replies to the lines so far, and one reply more.
use Rattle.std.proofs.Common.{◌≡◌, ◌∙◌, sym, ap, refl, subst, ℕ, List, [], ◌∷◌, ◌++◌, flat_map}
use Rattle.std.proofs.lemmas.Grind.{flat_map-append}
use Rattle.std.proofs.lemmas.List.{append-nil}
use Rattle.ram_disk.specs.Runs.{IsRuns}
use Rattle.ram_disk.specs.Sector.{bytes_of}
use Rattle.blk_script.specs.Answer.{IsText}
use Rattle.script_meaning.specs.Meaning.{IsReply, AreReplies, after, after_lines}
use Rattle.script_meaning.specs.Script.{Meant}
use Rattle.script_meaning.specs.Meaning.{State, start_of}
use Rattle.blk_script.specs.Texts.{reply_line, disk_line}
use Rattle.script_meaning.proofs.Positions.{after_lines-push}
use Rattle.script_meaning.specs.declared.script.Line.{Line}
use Rattle.script_meaning.specs.declared.reply.Reply.{Reply}

-- from the state `first`, the lines were replied to by this text, and left the state `last`
pub record Told (first : State) (lines : List Line) (text : List ℕ) (last : State) : Type 0 where
  pub replies : List (ℕ × Reply)
  pub replied : AreReplies first lines replies
  pub told : text ≡ flat_map reply_line replies
  pub left : last ≡ after_lines first lines

pub nothing_told : (first : State) → Told first [] [] first
nothing_told first = record { replies = []; replied = tt; told = refl; left = refl }

AreReplies-push : (first : State) (lines : List Line) (replies : List (ℕ × Reply)) (line : Line) (reply : Reply) → AreReplies first lines replies → IsReply (after_lines first lines) line.what reply
    → AreReplies first (lines ++ line ∷ []) (replies ++ (line.number, reply) ∷ [])
AreReplies-push first [] [] line reply before here = (refl, here, tt)
AreReplies-push first [] (told ∷ replies) line reply before here = absurd before
AreReplies-push first (next ∷ lines) [] line reply before here = absurd before
AreReplies-push first (next ∷ lines) (told ∷ replies) line reply before here = (before.0, before.1, AreReplies-push (after first next.what) lines replies line reply before.2 here)

-- one line and its reply more
pub told_more : (first : State) (lines : List Line) (text : List ℕ) (last next : State) (line : Line) (reply : Reply) (longer : List ℕ)
    → Told first lines text last → IsReply last line.what reply → next ≡ after last line.what → longer ≡ text ++ reply_line (line.number, reply)
    → Told first (lines ++ line ∷ []) longer next
told_more first lines text last next line reply longer before here moved appended =
    let P : State → Type 0 = λ s. IsReply s line.what reply in
    record {
      replies = before.replies ++ (line.number, reply) ∷ [];
      replied = AreReplies-push first lines before.replies line reply before.replied (subst P before.left here);
      told = appended ∙ ap (λ t. t ++ reply_line (line.number, reply)) before.told
          ∙ ap (λ t. flat_map reply_line before.replies ++ t) (sym (append-nil (reply_line (line.number, reply))))
          ∙ sym (flat_map-append reply_line before.replies ((line.number, reply) ∷ []));
      left = moved ∙ ap (λ s. after s line.what) before.left ∙ sym (after_lines-push first lines line);
    }

-- all lines, and then the disk's
pub told_all : (script : Meant) (text whole : List ℕ) (last : State) (runs : List (ℕ × ℕ)) → Told (start_of script) script.lines text last → IsRuns runs (bytes_of last.disk) → whole ≡ text ++ disk_line runs → IsText script whole
told_all script text whole last runs before shown appended =
    let P : State → Type 0 = λ s. IsRuns runs (bytes_of s.disk) in
    record {
      replies = before.replies;
      runs = runs;
      replied = before.replied;
      left = subst P before.left shown;
      told = appended ∙ ap (λ t. t ++ disk_line runs) before.told;
    }
