-- One step further of the thread that submits and collects.
use Rattle.std.proofs.Common.{◌≡◌, ◌∙◌, refl, sym, ap, subst, ℕ, ◌+◌, ◌<◌, ◌≤◌, ◌⊎◌, inl, inr, arith, true, false, List, [], ◌∷◌, ◌++◌, length, take, drop, set, cond, is_some, Contains, Option, Some, None, is_none, length-append}
use Rattle.std.specs.Prelude.{Result, Ok, Err, OnOk}
use Rattle.std.specs.List.{slice_get}
use Rattle.std.specs.Option.{option_and_then}
use Rattle.ram_disk.specs.Disk.{sectors_read, sectors_written}
use Rattle.std.proofs.lemmas.Bool.{cases_eq, cases_lt, false≢true}
use Rattle.std.proofs.lemmas.List.{append-nil, length-set, take-append-drop}
use Rattle.std.proofs.lemmas.Option.{slice_get_within}
use Rattle.script_meaning.specs.Requests.{queue_at, state_at, accepted_at, drains_at}
use Rattle.script_meaning.specs.Script.{Meant}
use Rattle.script_meaning.specs.Taken.{outcome, accepted, accepted_in}
use Rattle.script_meaning.specs.declared.script.Line.{Line}
use Rattle.script_meaning.specs.declared.script.What.{What}
use Rattle.script_meaning.specs.Queue.{Queue}
use Rattle.script_meaning.specs.declared.script.What.TheVariants.{Read, Write}
use Rattle.script_meaning.specs.declared.reply.Outcome.{Outcome}
use Rattle.script_meaning.specs.declared.reply.Outcome.TheVariants.{Accepted, Drained, Replied}
use Rattle.script_meaning.proofs.Queues.{IsGood, good}
use Rattle.script_meaning.specs.declared.reply.Request.{Request}
use Rattle.script_meaning.proofs.Disks.{state_disk, state_queue, length-pattern_sectors}
use Rattle.script_overlap.specs.Overlap.{Clash}
use Rattle.script_overlap.specs.Ordered.{AreOrdered}
use Rattle.script_overlap.proofs.OrderedLemmas.{one_order, parts_all_clashes}
use Rattle.in_flight.specs.Table.{is_owed, owed_count, IsUpTo, MayJoin, MayPass, NoneOrderedSince, Stands}
use Rattle.in_flight.specs.Requests.{IsRequestAt, IsReplyLine, IsAnswer, first_of, found_at, left_by}
use Rattle.in_flight.specs.Span.{AreInSpan, ClashesWithNone, IsDiskBut}
use Rattle.in_flight.proofs.LineSteps.{IsWriteAt, accepted_drains, sector_stays, sectors_there, request_within, request_writes, writes_of}
use Rattle.in_flight.proofs.Places.{none_counted, get_push_below, get_push_at, get_set_same, get_set_other, owed_below, owed_push, owed_at, owed_set_other, owed_set_same}
use Rattle.in_flight.proofs.Spans.{fewer, none_owed, reads_stand, installed as installs}

-- a position of a list that grew by one is an old one, or the last
old_or_last : {X : Type 0} (xs : List X) (x : X) (p : ℕ) → p < length (xs ++ x ∷ []) → (p < length xs) ⊎ (p ≡ length xs)
old_or_last xs x p less =
    elim (cases_lt p (length xs)) [ inl below ↦ inl below | inr above ↦ inr (omega (arith, above, less, length-append xs (x ∷ []))) ]

-- a request that is owed after one more line was owed before, or is that line's
owed_before : (replies : List (Option (List ℕ))) (r : Option (List ℕ)) (p : ℕ) → is_owed (replies ++ r ∷ []) p ≡ true → (is_owed replies p ≡ true) ⊎ ((p ≡ length replies) × (is_none r ≡ true))
owed_before replies r p is =
    elim (old_or_last replies r p (owed_below (replies ++ r ∷ []) p is)) [
      | inl below ↦ inl (sym (owed_push replies r p below) ∙ is)
      | inr last ↦ inr (last, sym (owed_at replies r) ∙ sym (ap (is_owed (replies ++ r ∷ [])) last) ∙ is)
    ]

still_owed : (replies : List (Option (List ℕ))) (r : Option (List ℕ)) (p : ℕ) → is_owed replies p ≡ true → is_owed (replies ++ r ∷ []) p ≡ true
still_owed replies r p is = owed_push replies r p (owed_below replies p is) ∙ is

-- ---- a line whose reply is there at once

no_request : (o : Option Request) (request : Request) → o ≡ None → o ≡ Some request → ⊥
no_request o request none some = cc

-- it stays in the span: either it doesn't drain, or nothing is owed
abbrev Passes : Meant → ℕ → List (Option (List ℕ)) → Type 0
Passes script here replies = (drains_at script here ≡ false) ⊎ ((p : ℕ) → is_owed replies p ≡ false)

span_passes : (script : Meant) (here : ℕ) (replies : List (Option (List ℕ))) → AreInSpan script (is_owed replies) here → Passes script here replies
    → (p : ℕ) → is_owed replies p ≡ true → (cut : ℕ) → p < cut → cut < here + 1 → drains_at script cut ≡ false
span_passes script here replies span pass p is cut low high =
    elim (cases_lt cut here) [
      | inl less ↦ span.one_span p is cut low less
      | inr more ↦ let same : cut ≡ here = omega arith in ap (drains_at script) same ∙ elim pass [ inl stays ↦ stays | inr none ↦ absurd (false≢true (sym (none p) ∙ is)) ]
    ]

told_more : (script : Meant) (here : ℕ) (replies : List (Option (List ℕ))) (disk : List (List ℕ)) (r : Option (List ℕ)) → IsUpTo script here replies disk
    → ((text : List ℕ) → r ≡ Some text → IsReplyLine script here text) → (p : ℕ) (text : List ℕ) → slice_get (replies ++ r ∷ []) p ≡ Some (Some text) → IsReplyLine script p text
told_more script here replies disk r up replied p text at =
    elim (old_or_last replies r p (slice_get_within (replies ++ r ∷ []) p (Some text) at)) [
      | inl below ↦ up.told p text (sym (get_push_below replies r p below) ∙ at)
      | inr last ↦
          let both : Some r ≡ Some (Some text) = sym (get_push_at replies r) ∙ sym (ap (slice_get (replies ++ r ∷ [])) last) ∙ at in
          let is : r ≡ Some text = cc in
          let here_is : here ≡ p = sym up.lines ∙ sym last in
          subst (λ q. IsReplyLine script q text) here_is (replied text is)
    ]

pub line_taken : (script : Meant) (here : ℕ) (line : Line) (replies : List (Option (List ℕ))) (disk : List (List ℕ)) (text : List ℕ) → IsUpTo script here replies disk
    → slice_get script.lines here ≡ Some line → accepted_at script here ≡ None → Passes script here replies → IsReplyLine script here text
    → IsUpTo script (here + 1) (replies ++ Some text ∷ []) disk
line_taken script here line replies disk text up at refused pass replied = record {
  lines = length-append replies (Some text ∷ []) ∙ ap (λ n. n + 1) up.lines;
  told = told_more script here replies disk (Some text) up (λ other is. let same : text ≡ other = cc in subst (IsReplyLine script here) same replied);
  span = record {
    before = λ p is. elim (owed_before replies (Some text) p is) [ inl old ↦ omega (arith, up.span.before p old) | inr new ↦ absurd (false≢true new.1) ];
    one_span = λ p is. elim (owed_before replies (Some text) p is) [ inl old ↦ span_passes script here replies up.span pass p old | inr new ↦ absurd (false≢true new.1) ];
    apart = λ p later one other is low high there here_too clash.
        elim (owed_before replies (Some text) p is) [
          | inl old ↦ elim (cases_lt later here) [
            | inl less ↦ up.span.apart p later one other old low less there here_too clash
            | inr more ↦ let same : later ≡ here = omega arith in no_request (accepted_at script here) other refused (sym (ap (accepted_at script) same) ∙ here_too)
          ]
          | inr new ↦ absurd (false≢true new.1)
        ];
  };
  disk_is = record {
    whole = up.disk_is.whole;
    others = λ sector none.
        up.disk_is.others sector (λ awaited. none (record {
          position = awaited.position;
          request = awaited.request;
          is_owed = still_owed replies (Some text) awaited.position awaited.is_owed;
          accepted = awaited.accepted;
          writes = awaited.writes;
          inside = awaited.inside;
        }))
        ∙ sym (sector_stays script here line sector at (λ request is. absurd (no_request (accepted_at script here) request refused is)));
  };
}

-- ---- a request that is submitted

pub submitted : (script : Meant) (here : ℕ) (line : Line) (replies : List (Option (List ℕ))) (disk : List (List ℕ)) (request : Request) → IsUpTo script here replies disk
    → slice_get script.lines here ≡ Some line → accepted_at script here ≡ Some request → ClashesWithNone script (is_owed replies) request
    → IsUpTo script (here + 1) (replies ++ None ∷ []) disk
submitted script here line replies disk request up at accepted none = record {
  lines = length-append replies (None ∷ []) ∙ ap (λ n. n + 1) up.lines;
  told = told_more script here replies disk None up (λ text is. absurd (none_some text is));
  span = record {
    before = λ p is. elim (owed_before replies None p is) [ inl old ↦ omega (arith, up.span.before p old) | inr new ↦ omega (arith, new.0, up.lines) ];
    one_span = λ p is cut low high.
        elim (owed_before replies None p is) [
          | inl old ↦ span_passes script here replies up.span (inl (accepted_drains script here request accepted)) p old cut low high
          | inr new ↦ absurd (omega (arith, new.0, up.lines, low, high))
        ];
    apart = λ p later one other is low high there here_too clash.
        elim (owed_before replies None p is) [
          | inl old ↦ elim (cases_lt later here) [
            | inl less ↦ up.span.apart p later one other old low less there here_too clash
            | inr more ↦
                let same : later ≡ here = omega arith in
                let both : Some other ≡ Some request = sym here_too ∙ ap (accepted_at script) same ∙ accepted in
                let it_is : other ≡ request = cc in
                none p one old there (subst (Clash one) it_is clash)
          ]
          | inr new ↦ absurd (omega (arith, new.0, up.lines, low, high))
        ];
  };
  disk_is = record {
    whole = up.disk_is.whole;
    others = λ sector free.
        up.disk_is.others sector (λ awaited. free (record {
          position = awaited.position;
          request = awaited.request;
          is_owed = still_owed replies None awaited.position awaited.is_owed;
          accepted = awaited.accepted;
          writes = awaited.writes;
          inside = awaited.inside;
        }))
        ∙ sym (sector_stays script here line sector at (λ r is writes inside. free (record {
          position = here;
          request = r;
          is_owed = sym (ap (is_owed (replies ++ None ∷ [])) up.lines) ∙ owed_at replies None;
          accepted = is;
          writes = writes;
          inside = inside;
        })));
  };
}
  where
    none_some : (text : List ℕ) → None ≡ Some text → ⊥
    none_some text e = cc

-- ---- an answer that is collected

-- after a reply is there, those that were owed are owed but for it
left_owed : (replies : List (Option (List ℕ))) (p : ℕ) (text : List ℕ) (q : ℕ) → is_owed (set replies p (Some text)) q ≡ true → is_owed replies q ≡ true
left_owed replies p text q is =
    elim (cases_eq q p) [
      | inl same ↦
          let less : q < length replies = omega (arith, owed_below (set replies p (Some text)) q is, length-set replies p (Some text)) in
          absurd (false≢true (sym (owed_set_same replies p text (omega (arith, same, less))) ∙ sym (ap (is_owed (set replies p (Some text))) same) ∙ is))
      | inr other ↦ sym (owed_set_other replies p q (Some text) other) ∙ is
    ]

still_or_it : (replies : List (Option (List ℕ))) (p : ℕ) (text : List ℕ) (q : ℕ) → is_owed replies q ≡ true → (is_owed (set replies p (Some text)) q ≡ true) ⊎ (q ≡ p)
still_or_it replies p text q is = elim (cases_eq q p) [ inl same ↦ inr same | inr other ↦ inl (owed_set_other replies p q (Some text) other ∙ is) ]

told_set : (script : Meant) (here : ℕ) (replies : List (Option (List ℕ))) (disk : List (List ℕ)) (p : ℕ) (text : List ℕ) → IsUpTo script here replies disk → is_owed replies p ≡ true
    → IsReplyLine script p text → (q : ℕ) (t : List ℕ) → slice_get (set replies p (Some text)) q ≡ Some (Some t) → IsReplyLine script q t
told_set script here replies disk p text up owed replied q t at =
    elim (cases_eq q p) [
      | inl same ↦
          let both : Some (Some text) ≡ Some (Some t) = sym (get_set_same replies p (Some text) (owed_below replies p owed)) ∙ sym (ap (slice_get (set replies p (Some text))) same) ∙ at in
          let text_is : text ≡ t = cc in
          subst (λ k. IsReplyLine script k t) (sym same) (subst (IsReplyLine script p) text_is replied)
      | inr other ↦ up.told q t (sym (get_set_other replies p q (Some text) other) ∙ at)
    ]

-- an answer installs what its line leaves
abbrev installed : What → List (List ℕ) → List (List ℕ) → List (List ℕ)
installed (Write start count pattern) sectors disk = sectors_written start sectors disk
installed what sectors disk = disk

written_none : (start : ℕ) (disk : List (List ℕ)) → sectors_written start [] disk ≡ disk
written_none start disk =
    let same : start + 0 ≡ start = omega arith in
    ap (λ n. take start disk ++ [] ++ drop n disk) same ∙ ap (λ front. front ++ drop start disk) (append-nil (take start disk)) ∙ take-append-drop start disk

writes_as : (what : What) (start : ℕ) (sectors disk : List (List ℕ)) → start ≡ first_of what → sectors ≡ left_by what → sectors_written start sectors disk ≡ installed what sectors disk
writes_as (Write first count pattern) start sectors disk begins leaves = ap (λ n. sectors_written n sectors disk) begins
writes_as what start sectors disk begins leaves = ap (λ ss. sectors_written start ss disk) leaves ∙ written_none start disk

-- the disk once what the line leaves is installed
disk_collected : (script : Meant) (here : ℕ) (replies : List (Option (List ℕ))) (disk : List (List ℕ)) (p : ℕ) (text : List ℕ) (line : Line) (what : What) (sectors : List (List ℕ))
    → here ≤ length script.lines → IsUpTo script here replies disk → is_owed replies p ≡ true → IsRequestAt script p line → line.what ≡ what → sectors ≡ left_by what
    → IsDiskBut script (is_owed (set replies p (Some text))) here (installed what sectors disk)
disk_collected script here replies disk p text line (Write start count pattern) sectors end up owed request asks leaves =
    let w : IsWriteAt script p start count pattern = record { line = line; at = request.at; what = asks; accepted = request.accepted } in
    let P : List (List ℕ) → Type 0 = λ made. IsDiskBut script (is_owed (set replies p (Some text))) here (installed (Write start count pattern) made disk) in
    subst P (sym leaves) (installs script (is_owed replies) (is_owed (set replies p (Some text))) p here start count pattern disk up.span end up.disk_is owed w (still_or_it replies p text))
disk_collected script here replies disk p text line what sectors end up owed request asks leaves =
    fewer script (is_owed replies) (is_owed (set replies p (Some text))) here disk up.disk_is
    (λ sector awaited. record {
      position = awaited.position;
      request = awaited.request;
      is_owed = elim (still_or_it replies p text awaited.position awaited.is_owed) [ inl still ↦ still | inr it ↦ absurd (false≢true (sym (request_writes script p line awaited.request request.at (sym (ap (accepted_at script) it) ∙ awaited.accepted) ∙ ap writes_of asks) ∙ awaited.writes)) ];
      accepted = awaited.accepted;
      writes = awaited.writes;
      inside = awaited.inside;
    })

pub collected : (script : Meant) (here : ℕ) (replies : List (Option (List ℕ))) (disk : List (List ℕ)) (p : ℕ) (text : List ℕ) (start : ℕ) (sectors : List (List ℕ))
    → here ≤ length script.lines → IsUpTo script here replies disk → is_owed replies p ≡ true → IsAnswer script p text start sectors
    → IsUpTo script here (set replies p (Some text)) (sectors_written start sectors disk)
collected script here replies disk p text start sectors end up owed answer = record {
  lines = length-set replies p (Some text) ∙ up.lines;
  told = told_set script here replies disk p text up owed answer.text_is;
  span = record {
    before = λ q is. up.span.before q (left_owed replies p text q is);
    one_span = λ q is. up.span.one_span q (left_owed replies p text q is);
    apart = λ q later one other is. up.span.apart q later one other (left_owed replies p text q is);
  };
  disk_is =
      subst (IsDiskBut script (is_owed (set replies p (Some text))) here) (sym (writes_as answer.line.what start sectors disk answer.begins answer.leaves))
      (disk_collected script here replies disk p text answer.line answer.line.what sectors end up owed answer.request refl answer.leaves);
}

-- where nothing is owed the disk is that of a single thread
pub all_there : (script : Meant) (here : ℕ) (replies : List (Option (List ℕ))) (disk : List (List ℕ)) → IsUpTo script here replies disk → owed_count replies ≡ 0 → disk ≡ (state_at script here).disk
all_there script here replies disk up none = none_owed script (is_owed replies) here disk up.disk_is (λ p. none_counted replies p none)

-- at the start nothing is owed
pub first : (script : Meant) → IsUpTo script 0 [] (state_at script 0).disk
first script = record {
  lines = refl;
  told = λ p text at. absurd (none_there at);
  span = record { before = λ p is. absurd (false≢true is); one_span = λ p is. absurd (false≢true is); apart = λ p later one other is. absurd (false≢true is) };
  disk_is = record { whole = state_disk script 0; others = λ sector none. refl };
}
  where
    none_there : {A : Type 0} {x : A} → None ≡ Some x → ⊥
    none_there e = cc

-- ---- as many lines are taken as there are replies

end_within : (q : Queue) (what : What) (came : Outcome) → IsGood q what came → is_some (accepted_in came) ≡ true → first_of what + length (left_by what) ≤ q.sectors
end_within q (Read start count) (Accepted r) fits said = let at : r.start ≡ start = ap (λ (x : Request). x.start) fits.0 in omega (arith, fits.1, at)
end_within q (Write start count pattern) (Accepted r) fits said =
    let at : r.start ≡ start = ap (λ (x : Request). x.start) fits.0 in
    let size : r.count ≡ count = ap (λ (x : Request). x.count) fits.0 in
    omega (arith, fits.1, at, size, length-pattern_sectors pattern count)
end_within q what (Accepted r) fits said = absurd fits.0
end_within q what (Drained reply) fits said = absurd (false≢true said)
end_within q what (Replied reply) fits said = absurd (false≢true said)

-- what an answer leaves fits the disk
pub answer_fits : (script : Meant) (replies : List (Option (List ℕ))) (disk : List (List ℕ)) (p : ℕ) (text : List ℕ) (start : ℕ) (sectors : List (List ℕ)) → Stands script replies disk
    → IsAnswer script p text start sectors → start + length sectors ≤ length disk
answer_fits script replies disk p text start sectors stands answer =
    let what = answer.line.what in
    let q = (state_at script p).queue in
    let said : is_some (accepted q what) ≡ true = ap (λ x. is_some (accepted x what)) (state_queue script p) ∙ answer.request.accepted in
    omega (arith, stands.up.disk_is.whole, end_within q what (outcome q what) (good q what) said, answer.begins, ap length answer.leaves, sectors_there script p)

-- what stands behind a request that is owed, where no more are owed and where the next line isn't ordered
since_fewer : (script : Meant) (old new : List (Option (List ℕ))) → length new ≡ length old → ((p : ℕ) → is_owed new p ≡ true → is_owed old p ≡ true) → NoneOrderedSince script old
    → NoneOrderedSince script new
since_fewer script old new same fewer since = λ p later ordered is low high are there. since p later ordered (fewer p is) low (omega (arith, high, same)) are there

since_more : (script : Meant) (replies : List (Option (List ℕ))) (r : Option (List ℕ)) → ((p : ℕ) (ordered : List ℕ) → is_owed replies p ≡ true → AreOrdered script ordered → Contains ordered (length replies) → ⊥)
    → NoneOrderedSince script replies → NoneOrderedSince script (replies ++ r ∷ [])
since_more script replies r here since = λ p later ordered is low high are there.
    let len = length-append replies (r ∷ []) in
    elim (owed_before replies r p is) [
      | inr new ↦ absurd (omega (arith, new.0, low, high, len))
      | inl old ↦ elim (cases_lt later (length replies)) [
        | inl less ↦ since p later ordered old low less are there
        | inr more ↦ let last : later ≡ length replies = omega (arith, more, high, len) in here p ordered old are (subst (Contains ordered) last there)
      ]
    ]

pub stands_collected : (script : Meant) (replies : List (Option (List ℕ))) (disk : List (List ℕ)) (p : ℕ) (text : List ℕ) (start : ℕ) (sectors : List (List ℕ))
    → Stands script replies disk → is_owed replies p ≡ true → IsAnswer script p text start sectors → Stands script (set replies p (Some text)) (sectors_written start sectors disk)
stands_collected script replies disk p text start sectors stands owed answer =
    let len = length-set replies p (Some text) in
    let next = collected script (length replies) replies disk p text start sectors stands.within stands.up owed answer in
    record {
      within = omega (arith, len, stands.within);
      up = subst (λ n. IsUpTo script n (set replies p (Some text)) (sectors_written start sectors disk)) (sym len) next;
      in_order = since_fewer script replies (set replies p (Some text)) len (left_owed replies p text) stands.in_order;
    }

-- the next line is taken, with its reply
pub stands_line_taken : (script : Meant) (replies : List (Option (List ℕ))) (disk : List (List ℕ)) (text : List ℕ) → Stands script replies disk → accepted_at script (length replies) ≡ None
    → MayPass script replies → IsReplyLine script (length replies) text → Stands script (replies ++ Some text ∷ []) disk
stands_line_taken script replies disk text stands refused pass replied =
    let len = length-append replies (Some text ∷ []) in
    let less = slice_get_within script.lines (length replies) replied.line replied.at in
    let passes : Passes script (length replies) replies = elim pass [ inl stays ↦ inl stays | inr none ↦ inr (λ p. none_counted replies p none) ] in
    let next = line_taken script (length replies) replied.line replies disk text stands.up replied.at refused passes replied in
    record {
      within = omega (arith, len, less);
      up = subst (λ n. IsUpTo script n (replies ++ Some text ∷ []) disk) (sym len) next;
      in_order = since_more script replies (Some text) (λ p ordered is are there. no_request (accepted_at script (length replies)) ((are.wait (length replies) there).second) refused ((are.wait (length replies) there).second_accepted)) stands.in_order;
    }

-- or it is a request, and owed
pub request_line : (script : Meant) (p : ℕ) (request : Request) → accepted_at script p ≡ Some request → (line : Line) × (slice_get script.lines p ≡ Some line)
request_line script p request accepted = at_place (λ (l : Line). accepted_in (outcome (queue_at script p) l.what)) (slice_get script.lines p) accepted
  where
    none_some : (request : Request) → None ≡ Some request → ⊥
    none_some request e = cc

    at_place : (f : Line → Option Request) (o : Option Line) {request : Request} → option_and_then f o ≡ Some request → (line : Line) × (o ≡ Some line)
    at_place f None {request} is = absurd (none_some request is)
    at_place f (Some line) is = (line, refl)

none_is_owed : (replies : List (Option (List ℕ))) (p : ℕ) → owed_count replies ≡ 0 → is_owed replies p ≡ true → ⊥
none_is_owed replies p none is = false≢true (sym (none_counted replies p none) ∙ is)

-- a request that may join those that are owed isn't ordered where one is, and clashes with none
joins_none : (script : Meant) (replies : List (Option (List ℕ))) → MayJoin script replies → (p : ℕ) (ordered : List ℕ) → is_owed replies p ≡ true → AreOrdered script ordered
    → Contains ordered (length replies) → ⊥
joins_none script replies (inl joins) p ordered is are there =
    joins.is_none (subst (λ ps. Contains ps (length replies)) (one_order script ordered joins.positions are joins.are_ordered) there)
joins_none script replies (inr none) p ordered is are there = none_is_owed replies p none is

pub clashes_with_none : (script : Meant) (replies : List (Option (List ℕ))) (disk : List (List ℕ)) (request : Request) → Stands script replies disk → accepted_at script (length replies) ≡ Some request
    → MayJoin script replies → ClashesWithNone script (is_owed replies) request
clashes_with_none script replies disk request stands accepted (inl joins) = λ p first is there clash.
    parts_all_clashes script joins.positions joins.are_ordered p (length replies) first request there accepted (owed_below replies p is)
    (λ between low high. (stands.up.span.one_span p is between low high, stands.in_order p between joins.positions is low high joins.are_ordered)) joins.is_none clash
clashes_with_none script replies disk request stands accepted (inr none) = λ p first is there clash. none_is_owed replies p none is

pub stands_submitted : (script : Meant) (replies : List (Option (List ℕ))) (disk : List (List ℕ)) (request : Request) → Stands script replies disk
    → accepted_at script (length replies) ≡ Some request → MayJoin script replies → Stands script (replies ++ None ∷ []) disk
stands_submitted script replies disk request stands accepted joins =
    let len = length-append replies (None ∷ []) in
    let there = request_line script (length replies) request accepted in
    let less = slice_get_within script.lines (length replies) there.0 there.1 in
    let apart = clashes_with_none script replies disk request stands accepted joins in
    let next = submitted script (length replies) there.0 replies disk request stands.up there.1 accepted apart in
    record {
      within = omega (arith, len, less);
      up = subst (λ n. IsUpTo script n (replies ++ None ∷ []) disk) (sym len) next;
      in_order = since_more script replies None (joins_none script replies joins) stands.in_order;
    }

-- what an accepted request finds on the disk of the run
pub finds_there : (script : Meant) (replies : List (Option (List ℕ))) (disk : List (List ℕ)) (request : Request) → Stands script replies disk
    → accepted_at script (length replies) ≡ Some request → MayJoin script replies
    → cond request.writes [] (sectors_read request.start request.count disk) ≡ found_at script (length replies) request
finds_there script replies disk request stands accepted joins =
    ap (cond request.writes [])
    (reads_stand script (is_owed replies) (length replies) disk request (clashes_with_none script replies disk request stands accepted joins) stands.up.disk_is
    (request_within script (length replies) request accepted))

pub on_ok : {A E : Type 0} (r : Result A E) (P Q : Type 0) → (P → Q) → OnOk r P → OnOk r Q
on_ok (Ok x) P Q f h = f h
on_ok (Err e) P Q f h = tt
