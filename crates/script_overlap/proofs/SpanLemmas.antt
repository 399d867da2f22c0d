-- The sectors that a span's requests touch, one line further.
use Rattle.std.proofs.Common.{◌≡◌, ◌∙◌, refl, sym, ap, subst, ℕ, ◌+◌, ◌<◌, ◌≤◌, ◌⊎◌, inl, inr, arith, Bool, true, false, ◌||◌, List, Some, None, Contains}
use Rattle.std.proofs.lemmas.Bool.{cases_lt}
use Rattle.script_meaning.specs.Requests.{accepted_at, drains_at}
use Rattle.script_meaning.specs.Script.{Meant}
use Rattle.script_meaning.specs.Taken.{accepted_in, drains_in}
use Rattle.script_meaning.specs.declared.reply.Outcome.{Outcome}
use Rattle.script_meaning.specs.declared.reply.Outcome.TheVariants.{Accepted, Drained, Replied}
use Rattle.script_meaning.specs.declared.reply.Request.{Request}
use Rattle.script_overlap.specs.Ordered.{PartsNothing, WouldJoin, MustWait}
use Rattle.script_overlap.specs.Overlap.{HasSector, Clash}
use Rattle.script_overlap.specs.Span.{is_touched}
use Rattle.script_overlap.specs.SpanOfRequests.{Marks, marks_of, IsEmpty, Conflicts, ConflictsNot, Takes, Begins, IsNext}
use Rattle.script_overlap.proofs.PartnerLemmas.{before_or_here, same_accepted}

-- an accepted request from one position on, up to another, touches a sector
pub record Touches (script : Meant) (since here : ℕ) (writes : Bool) (sector : ℕ) : Type 0 where
  pub earlier : ℕ
  pub other : Request
  pub accepted : accepted_at script earlier ≡ Some other
  pub from : since ≤ earlier
  pub in_order : earlier < here
  pub inside : HasSector other sector
  pub how : other.writes ≡ writes

-- exactly the sectors of these requests are touched
pub record Reaches (script : Meant) (since here : ℕ) (span : Marks) : Type 0 where
  pub sound : (writes : Bool) (sector : ℕ) → is_touched (marks_of span writes) sector ≡ true → Touches script since here writes sector
  pub whole : (writes : Bool) (sector : ℕ) → Touches script since here writes sector → is_touched (marks_of span writes) sector ≡ true

untouched : (b : Bool) → b ≡ false → b ≡ true → ⊥
untouched b e f = cc

reaches_none : (script : Meant) (i : ℕ) (span : Marks) → IsEmpty span → Reaches script i i span
reaches_none script i span empty = record {
  sound = λ writes sector touched. absurd (untouched _ (empty writes sector) touched);
  whole = λ writes sector t. absurd (omega (arith, t.from, t.in_order));
}

touches_up : (script : Meant) (since i : ℕ) (writes : Bool) (sector : ℕ) → Touches script since i writes sector → Touches script since (i + 1) writes sector
touches_up script since i writes sector t =
    record { earlier = t.earlier; other = t.other; accepted = t.accepted; from = t.from; in_order = omega (arith, t.in_order); inside = t.inside; how = t.how }

touches_down : (script : Meant) (since i : ℕ) (writes : Bool) (sector : ℕ) (t : Touches script since (i + 1) writes sector) → t.earlier < i → Touches script since i writes sector
touches_down script since i writes sector t lt =
    record { earlier = t.earlier; other = t.other; accepted = t.accepted; from = t.from; in_order = lt; inside = t.inside; how = t.how }

-- a line that is no accepted request
reaches_same : (script : Meant) (since i : ℕ) (span : Marks) → accepted_at script i ≡ None → Reaches script since i span → Reaches script since (i + 1) span
reaches_same script since i span rejected before = record {
  sound = λ writes sector touched. touches_up script since i writes sector (before.sound writes sector touched);
  whole = λ writes sector t.
      elim (before_or_here t.earlier i t.in_order) [
        | inl lt ↦ before.whole writes sector (touches_down script since i writes sector t lt)
        | inr is ↦ let no : accepted_at script i ≡ Some t.other = sym (ap (accepted_at script) is) ∙ t.accepted in cc
      ];
}

pub same_or_not : (a b : Bool) → (a ≡ b) ⊎ (a ≡ b → false ≡ true)
same_or_not true true = inl refl
same_or_not true false = inr (λ e. cc)
same_or_not false true = inr (λ e. cc)
same_or_not false false = inl refl

-- where a sector stands against a request's
within_or_not : (start count sector : ℕ) → ((start ≤ sector) × (sector < start + count)) ⊎ ((sector < start) ⊎ (start + count ≤ sector))
within_or_not start count sector =
    elim (cases_lt sector start) [
      | inl less ↦ inr (inl less)
      | inr more ↦ elim (cases_lt sector (start + count)) [ inl less' ↦ inl (more, less') | inr more' ↦ inr (inr more') ]
    ]

takes_touched : (old new : Marks) (request : Request) (writes : Bool) (sector : ℕ) → Takes old new request → is_touched (marks_of new writes) sector ≡ true
    → (is_touched (marks_of old writes) sector ≡ true) ⊎ ((request.writes ≡ writes) × HasSector request sector)
takes_touched old new request writes sector takes touched =
    elim (same_or_not writes request.writes) [
      | inr other ↦ inl (sym (ap (λ (marks : List Bool). is_touched marks sector) (takes.keeps writes other)) ∙ touched)
      | inl same ↦
          let touched' : is_touched (marks_of new request.writes) sector ≡ true = sym (ap (λ (w : Bool). is_touched (marks_of new w) sector) same) ∙ touched in
          let back : is_touched (marks_of old request.writes) sector ≡ is_touched (marks_of old writes) sector = sym (ap (λ (w : Bool). is_touched (marks_of old w) sector) same) in
          elim (within_or_not request.start request.count sector) [
            | inl inside ↦ inr (sym same, inside)
            | inr outside ↦ inl (sym back ∙ elim outside [
              | inl less ↦ sym (takes.adds.below sector less) ∙ touched'
              | inr more ↦ sym (takes.adds.above sector more) ∙ touched'
            ])
          ]
    ]

pub takes_keeps : (old new : Marks) (request : Request) (writes : Bool) (sector : ℕ) → Takes old new request → is_touched (marks_of old writes) sector ≡ true → is_touched (marks_of new writes) sector ≡ true
takes_keeps old new request writes sector takes touched =
    elim (same_or_not writes request.writes) [
      | inr other ↦ ap (λ (marks : List Bool). is_touched marks sector) (takes.keeps writes other) ∙ touched
      | inl same ↦
          let touched' : is_touched (marks_of old request.writes) sector ≡ true = sym (ap (λ (w : Bool). is_touched (marks_of old w) sector) same) ∙ touched in
          ap (λ (w : Bool). is_touched (marks_of new w) sector) same
          ∙ elim (within_or_not request.start request.count sector) [
            | inl inside ↦ takes.adds.inside sector inside.0 inside.1
            | inr outside ↦ elim outside [
              | inl less ↦ takes.adds.below sector less ∙ touched'
              | inr more ↦ takes.adds.above sector more ∙ touched'
            ]
          ]
    ]

pub takes_here : (old new : Marks) (request : Request) (sector : ℕ) → Takes old new request → HasSector request sector → is_touched (marks_of new request.writes) sector ≡ true
takes_here old new request sector takes inside = takes.adds.inside sector inside.0 inside.1

-- an accepted request that joins the span
reaches_taken : (script : Meant) (since i : ℕ) (old new : Marks) (request : Request) → since ≤ i → accepted_at script i ≡ Some request → Takes old new request
    → Reaches script since i old → Reaches script since (i + 1) new
reaches_taken script since i old new request from accepted takes before = record {
  sound = λ writes sector touched.
      elim (takes_touched old new request writes sector takes touched) [
        | inl already ↦ touches_up script since i writes sector (before.sound writes sector already)
        | inr now ↦ record { earlier = i; other = request; accepted = accepted; from = from; in_order = omega arith; inside = now.1; how = now.0 }
      ];
  whole = λ writes sector t.
      elim (before_or_here t.earlier i t.in_order) [
        | inl lt ↦ takes_keeps old new request writes sector takes (before.whole writes sector (touches_down script since i writes sector t lt))
        | inr is ↦
            let same : t.other ≡ request = let e : Some t.other ≡ Some request = sym t.accepted ∙ ap (accepted_at script) is ∙ accepted in cc in
            let P : Request → Type 0 = λ r. HasSector r sector in
            let how : request.writes ≡ writes = sym (ap (λ (r : Request). r.writes) same) ∙ t.how in
            ap (λ (w : Bool). is_touched (marks_of new w) sector) (sym how) ∙ takes_here old new request sector takes (subst P same t.inside)
      ];
}

-- ---- where the span began

-- the requests of the span that reaches to a position are those since another
pub record Began (script : Meant) (ordered : List ℕ) (since here : ℕ) : Type 0 where
  pub in_order : since ≤ here
  pub joined : (earlier between : ℕ) → since ≤ earlier → earlier < between → between < here → PartsNothing script ordered between
  pub parted : (earlier : ℕ) (other : Request) → accepted_at script earlier ≡ Some other → earlier < since → WouldJoin script ordered earlier here → ⊥

began_first : (script : Meant) (ordered : List ℕ) → Began script ordered 0 0
began_first script ordered = record {
  in_order = omega arith;
  joined = λ earlier between from low high. absurd (omega arith);
  parted = λ earlier other accepted low joins. absurd (omega arith);
}

began_further : (script : Meant) (ordered : List ℕ) (since i : ℕ) → PartsNothing script ordered i → Began script ordered since i → Began script ordered since (i + 1)
began_further script ordered since i nothing before = record {
  in_order = omega (arith, before.in_order);
  joined = λ earlier between from low high.
      elim (before_or_here between i high) [
        | inl lt ↦ before.joined earlier between from low lt
        | inr is ↦ subst (PartsNothing script ordered) (sym is) nothing
      ];
  parted = λ earlier other accepted low joins. before.parted earlier other accepted low (λ between after upto. joins between after (omega arith));
}

began_drained : (script : Meant) (ordered : List ℕ) (i : ℕ) → accepted_at script i ≡ None → drains_at script i ≡ true → Began script ordered (i + 1) (i + 1)
began_drained script ordered i rejected drains = record {
  in_order = omega arith;
  joined = λ earlier between from low high. absurd (omega arith);
  parted = λ earlier other accepted low joins.
      elim (before_or_here earlier i low) [
        | inl lt ↦ untouched (drains_at script i) ((joins i lt (omega arith)).0) drains
        | inr is ↦ let no : accepted_at script i ≡ Some other = sym (ap (accepted_at script) is) ∙ accepted in cc
      ];
}

began_ordered : (script : Meant) (ordered : List ℕ) (i : ℕ) → Contains ordered i → Began script ordered i (i + 1)
began_ordered script ordered i is_ordered = record {
  in_order = omega arith;
  joined = λ earlier between from low high. absurd (omega arith);
  parted = λ earlier other accepted low joins. (joins i low (omega arith)).1 is_ordered;
}

-- ---- the span one line further

-- exactly the sectors of the requests of the span that reaches to a position are touched
pub record IsSpanAt (script : Meant) (ordered : List ℕ) (here : ℕ) (span : Marks) : Type 0 where
  pub since : ℕ
  pub began : Began script ordered since here
  pub reaches : Reaches script since here span

pub span_first : (script : Meant) (ordered : List ℕ) (span : Marks) → IsEmpty span → IsSpanAt script ordered 0 span
span_first script ordered span empty = record { since = 0; began = began_first script ordered; reaches = reaches_none script 0 span empty }

must_wait : (script : Meant) (ordered : List ℕ) (i : ℕ) (span : Marks) (request : Request) → accepted_at script i ≡ Some request → IsSpanAt script ordered i span → Conflicts span request → MustWait script ordered i
must_wait script ordered i span request accepted at conflicts =
    let t : Touches script at.since i conflicts.writes conflicts.sector = at.reaches.sound conflicts.writes conflicts.sector conflicts.touched in
    record {
      earlier = t.earlier;
      first = t.other;
      second = request;
      first_accepted = t.accepted;
      second_accepted = accepted;
      in_order = t.in_order;
      joins = λ between low high. at.began.joined t.earlier between t.from low high;
      clash = record { sector = conflicts.sector; in_first = t.inside; in_second = conflicts.inside; writes = ap (λ w. w || request.writes) t.how ∙ conflicts.one_writes };
    }

may_join : (script : Meant) (ordered : List ℕ) (i : ℕ) (span : Marks) (request : Request) → accepted_at script i ≡ Some request → IsSpanAt script ordered i span → ConflictsNot span request → MustWait script ordered i → ⊥
may_join script ordered i span request accepted at apart w =
    elim (cases_lt w.earlier at.since) [
      | inl less ↦ at.began.parted w.earlier w.first w.first_accepted less w.joins
      | inr more ↦
          let P : Request → Type 0 = λ r. Clash w.first r in
          let clash : Clash w.first request = subst P (same_accepted script i w.second request w.second_accepted accepted) w.clash in
          untouched _ (apart clash.sector w.first.writes clash.in_second clash.writes)
          (at.reaches.whole w.first.writes clash.sector
          (record { earlier = w.earlier; other = w.first; accepted = w.first_accepted; from = more; in_order = w.in_order; inside = clash.in_first; how = refl }))
    ]

none_waits : (script : Meant) (ordered : List ℕ) (i : ℕ) → accepted_at script i ≡ None → MustWait script ordered i → ⊥
none_waits script ordered i rejected w = let there : accepted_at script i ≡ Some w.second = w.second_accepted in cc

-- what the span is after a line, and whether the request there had to wait
pub record Stepped (script : Meant) (ordered : List ℕ) (i : ℕ) (new : Marks) : Type 0 where
  pub joins : MustWait script ordered i → ⊥
  pub at : (Contains ordered i → ⊥) → IsSpanAt script ordered (i + 1) new

pub record Waited (script : Meant) (ordered : List ℕ) (i : ℕ) (new : Marks) (request : Request) : Type 0 where
  pub accepted : accepted_at script i ≡ Some request
  pub waits : MustWait script ordered i
  pub at : (ordered' : List ℕ) → Contains ordered' i → IsSpanAt script ordered' (i + 1) new

begins_at : (script : Meant) (ordered : List ℕ) (i : ℕ) (new : Marks) (request : Request) → accepted_at script i ≡ Some request → Begins new request → Contains ordered i → IsSpanAt script ordered (i + 1) new
begins_at script ordered i new request accepted b is_ordered = record {
  since = i;
  began = began_ordered script ordered i is_ordered;
  reaches = reaches_taken script i i b.empty new request (omega arith) accepted b.takes (reaches_none script i b.empty b.is_empty);
}

pub span_waited : (script : Meant) (ordered : List ℕ) (i : ℕ) (old new : Marks) (came : Outcome) (waits : Request) → accepted_at script i ≡ accepted_in came
    → IsNext old came (Some waits) new → IsSpanAt script ordered i old → Waited script ordered i new waits
span_waited script ordered i old new (Accepted request) waits accepted next at =
    let there : accepted_at script i ≡ Some waits = accepted ∙ ap Some (sym next.0) in
    let P : Request → Type 0 = λ r. Begins new r in
    record {
      accepted = there;
      waits = must_wait script ordered i old request accepted at next.1;
      at = λ ordered' is_ordered. begins_at script ordered' i new request accepted next.2 is_ordered;
    }
span_waited script ordered i old new (Drained reply) waits accepted next at = let no : Some waits ≡ None = next.0 in cc
span_waited script ordered i old new (Replied reply) waits accepted next at = let no : Some waits ≡ None = next.0 in cc

pub span_stepped : (script : Meant) (ordered : List ℕ) (i : ℕ) (old new : Marks) (came : Outcome) → accepted_at script i ≡ accepted_in came → drains_at script i ≡ drains_in came
    → IsNext old came None new → IsSpanAt script ordered i old → Stepped script ordered i new
span_stepped script ordered i old new (Accepted request) accepted drains next at = record {
  joins = may_join script ordered i old request accepted at next.0;
  at = λ not_ordered. record {
    since = at.since;
    began = began_further script ordered at.since i (drains, not_ordered) at.began;
    reaches = reaches_taken script at.since i old new request at.began.in_order accepted next.1 at.reaches;
  };
}
span_stepped script ordered i old new (Drained reply) accepted drains next at = record {
  joins = none_waits script ordered i accepted;
  at = λ not_ordered. record { since = i + 1; began = began_drained script ordered i accepted drains; reaches = reaches_none script (i + 1) new next.1 };
}
span_stepped script ordered i old new (Replied reply) accepted drains next at = record {
  joins = none_waits script ordered i accepted;
  at = λ not_ordered. record {
    since = at.since;
    began = began_further script ordered at.since i (drains, not_ordered) at.began;
    reaches = subst (λ span. Reaches script at.since (i + 1) span) (sym next.1) (reaches_same script at.since i old accepted at.reaches);
  };
}
