-- The replies of a run, once none is owed: the lines that a single thread writes.
use Rattle.std.proofs.Common.{◌≡◌, ◌∙◌, refl, sym, ap, ℕ, zero, suc, ◌+◌, ◌<◌, arith, false, List, [], ◌∷◌, ◌++◌, length, drop, inl, inr, subst, Option, Some, None}
use Rattle.std.specs.List.{slice_get, flat_map}
use Rattle.std.proofs.lemmas.Bool.{false≢true}
use Rattle.std.proofs.lemmas.List.{drop_more}
use Rattle.std.proofs.lemmas.Option.{slice_get_cases, slice_get_within, get_or_from_slice_get}
use Rattle.blk_script.specs.Texts.{reply_line}
use Rattle.script_meaning.specs.Meaning.{State, AreReplies, IsReply}
use Rattle.script_meaning.specs.Requests.{state_at}
use Rattle.script_meaning.specs.Script.{Meant}
use Rattle.script_meaning.specs.declared.script.Line.{Line}
use Rattle.script_meaning.specs.declared.reply.Reply.{Reply}
use Rattle.in_flight.specs.Table.{is_owed, owed_count, joined, IsUpTo, AreJoined}
use Rattle.in_flight.specs.Requests.{IsReplyLine}
use Rattle.in_flight.proofs.LineSteps.{state_next}
use Rattle.in_flight.proofs.Places.{none_counted}

-- the replies to the lines from a position on, and the text of them
record FromHere (script : Meant) (here : ℕ) (replies : List (Option (List ℕ))) : Type 0 where
  told : List (ℕ × Reply)
  replied : AreReplies (state_at script here) (drop here script.lines) told
  text : joined (drop here replies) ≡ flat_map reply_line told

drop_all : {X : Type 0} (xs : List X) → drop (length xs) xs ≡ []
drop_all [] = refl
drop_all (x ∷ xs) = drop_all xs

-- a reply that is there, at its place
reply_there : (replies : List (Option (List ℕ))) (p : ℕ) → p < length replies → is_owed replies p ≡ false → (text : List ℕ) × (slice_get replies p ≡ Some (Some text))
reply_there [] p less none = absurd (omega (arith, less))
reply_there (None ∷ replies) zero less none = absurd (false≢true (sym none))
reply_there (Some text ∷ replies) zero less none = (text, refl)
reply_there (r ∷ replies) (suc p) less none = reply_there replies p (omega (arith, less)) none

drop_at_place : {X : Type 0} (xs : List X) (p : ℕ) (x : X) → slice_get xs p ≡ Some x → drop p xs ≡ x ∷ drop (p + 1) xs
drop_at_place xs p x at = drop_more xs p x (slice_get_within xs p x at) ∙ ap (λ y. y ∷ drop (p + 1) xs) (get_or_from_slice_get xs p x x at)

one_more : (script : Meant) (here : ℕ) (replies : List (Option (List ℕ))) (line : Line) (text : List ℕ) → slice_get script.lines here ≡ Some line → slice_get replies here ≡ Some (Some text)
    → IsReplyLine script here text → FromHere script (here + 1) replies → FromHere script here replies
one_more script here replies line text at there replied rest =
    let both : Some replied.line ≡ Some line = sym replied.at ∙ at in
    let same : replied.line ≡ line = cc in
    let number : replied.line.number ≡ line.number = ap (λ (l : Line). l.number) same in
    let P : Line → Type 0 = λ l. IsReply (state_at script here) l.what replied.reply in
    let Q : State → Type 0 = λ s. AreReplies s (drop (here + 1) script.lines) rest.told in
    let R : List Line → Type 0 = λ ls. AreReplies (state_at script here) ls ((line.number, replied.reply) ∷ rest.told) in
    record {
      told = (line.number, replied.reply) ∷ rest.told;
      replied = subst R (sym (drop_at_place script.lines here line at)) (refl, subst P same replied.replied, subst Q (state_next script here line at) rest.replied);
      text = ap joined (drop_at_place replies here (Some text) there) ∙ ap (λ t. t ++ joined (drop (here + 1) replies)) (replied.told ∙ ap (λ n. reply_line (n, replied.reply)) number)
          ∙ ap (λ t. reply_line (line.number, replied.reply) ++ t) rest.text;
    }

back : (script : Meant) (n here : ℕ) (replies : List (Option (List ℕ))) (disk : List (List ℕ)) → here + n ≡ length script.lines → IsUpTo script (length script.lines) replies disk
    → ((p : ℕ) → is_owed replies p ≡ false) → FromHere script here replies
back script zero here replies disk at up none =
    let here_is : here ≡ length script.lines = omega (arith, at) in
    let there_is : here ≡ length replies = here_is ∙ sym up.lines in
    record {
      told = [];
      replied = let R : List Line → Type 0 = λ ls. AreReplies (state_at script here) ls [] in subst R (sym (ap (λ k. drop k script.lines) here_is ∙ drop_all script.lines)) tt;
      text = ap (λ k. joined (drop k replies)) there_is ∙ ap joined (drop_all replies);
    }
back script (suc n) here replies disk at up none =
    let rest = back script n (here + 1) replies disk (omega (arith, at)) up none in
    let there = reply_there replies here (omega (arith, at, up.lines)) (none here) in
    elim (slice_get_cases script.lines here).1 [
      | inl found ↦ one_more script here replies found.0 there.0 found.2 there.1 (up.told here there.0 there.1) rest
      | inr past ↦ absurd (omega (arith, past.0, at))
    ]

pub are_joined : (script : Meant) (replies : List (Option (List ℕ))) (disk : List (List ℕ)) → IsUpTo script (length script.lines) replies disk → owed_count replies ≡ 0 → AreJoined script (joined replies)
are_joined script replies disk up none =
    let all = back script (length script.lines) 0 replies disk (omega arith) up (λ p. none_counted replies p none) in
    record { replies = all.told; replied = all.replied; told = all.text }
