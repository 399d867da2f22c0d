-- The requests that clash with a later one, one line further.
use Rattle.std.proofs.Common.{◌≡◌, ◌∙◌, refl, sym, ap, ℕ, ◌+◌, ◌<◌, ◌≤◌, ◌⊎◌, inl, inr, arith, Bool, true, false, List, length, take, get_or, Option, Some, None, is_none, is_some, not}
use Rattle.std.specs.List.{slice_get}
use Rattle.std.specs.Option.{option_and_then, option_map_or}
use Rattle.std.proofs.lemmas.Bool.{cases_lt}
use Rattle.std.proofs.lemmas.List.{length-take-le, get_or-take}
use Rattle.script_meaning.specs.Queue.{Queue}
use Rattle.script_meaning.specs.Requests.{accepted_at, drains_at, number_at, queue_at}
use Rattle.script_meaning.specs.Script.{Meant}
use Rattle.script_meaning.specs.Taken.{accepted, accepted_in, drains, drains_in, outcome}
use Rattle.script_meaning.specs.declared.script.Line.{Line}
use Rattle.script_meaning.specs.declared.reply.Outcome.{Outcome}
use Rattle.script_meaning.specs.declared.reply.Outcome.TheVariants.{Accepted, Drained, Replied}
use Rattle.script_meaning.specs.declared.reply.Request.{Request}
use Rattle.script_overlap.specs.Overlap.{InOneSpan, Clash}
use Rattle.script_overlap.specs.Partners.{NoneDrains, IsPartner, IsEarliest, Finds}

-- a span that reaches one line further
pub span_down : (script : Meant) (e i : ℕ) → NoneDrains script e (i + 1) → NoneDrains script e i
span_down script e i one_span = λ between low high. one_span between low (omega arith)

pub span_up : (script : Meant) (e i : ℕ) → drains_at script i ≡ false → NoneDrains script e i → NoneDrains script e (i + 1)
span_up script e i drains one_span = λ between low high.
    elim (cases_lt between i) [
      | inl lt ↦ one_span between low lt
      | inr ge ↦ let is : between ≡ i = omega arith in ap (drains_at script) is ∙ drains
    ]

-- of two positions of which the first is at most the second
pub before_or_here : (e i : ℕ) → e < i + 1 → (e < i) ⊎ (e ≡ i)
before_or_here e i lt = elim (cases_lt e i) [ inl less ↦ inl less | inr more ↦ inr (omega arith) ]

partner_down : (script : Meant) (i : ℕ) (request : Request) (e : ℕ) → e < i → IsPartner script (i + 1) request e → IsPartner script i request e
partner_down script i request e lt p =
    record { other = p.other; other_accepted = p.other_accepted; in_order = lt; one_span = span_down script e i p.one_span; clash = p.clash }

partner_up : (script : Meant) (i : ℕ) (request : Request) (e : ℕ) → drains_at script i ≡ false → IsPartner script i request e → IsPartner script (i + 1) request e
partner_up script i request e drains p =
    record { other = p.other; other_accepted = p.other_accepted; in_order = omega (arith, p.in_order); one_span = span_up script e i drains p.one_span; clash = p.clash }

none_before : (script : Meant) (request : Request) (e : ℕ) → IsPartner script 0 request e → ⊥
none_before script request e p = omega (arith, p.in_order)

pub finds_none_first : (script : Meant) (request : Request) → Finds script 0 request None
finds_none_first script request = none_before script request

-- after a drain there is none
pub finds_drained : (script : Meant) (i : ℕ) (request : Request) → accepted_at script i ≡ None → drains_at script i ≡ true → Finds script (i + 1) request None
finds_drained script i request rejected drains = λ e p.
    elim (before_or_here e i p.in_order) [
      | inl lt ↦ let no : drains_at script i ≡ false = p.one_span i lt (omega arith) in cc
      | inr is ↦ let no : accepted_at script i ≡ Some p.other = sym (ap (accepted_at script) is) ∙ p.other_accepted in cc
    ]

-- once there is one, it stays the first, whatever its span brings
finds_some : (script : Meant) (i : ℕ) (request : Request) (number : ℕ) → drains_at script i ≡ false → IsEarliest script i request number → IsEarliest script (i + 1) request number
finds_some script i request number drains before = record {
  earlier = before.earlier;
  partner = partner_up script i request before.earlier drains before.partner;
  least = λ e p.
      elim (before_or_here e i p.in_order) [
        | inl lt ↦ before.least e (partner_down script i request e lt p)
        | inr is ↦ omega (arith, before.partner.in_order)
      ];
  line = before.line;
}

pub finds_kept : (script : Meant) (i : ℕ) (request : Request) (found : Option ℕ) → drains_at script i ≡ false → is_none found ≡ false → Finds script i request found → Finds script (i + 1) request found
finds_kept script i request None drains some before = cc
finds_kept script i request (Some number) drains some before = finds_some script i request number drains before

-- a line that drains nothing and doesn't clash leaves what was found
pub finds_same : (script : Meant) (i : ℕ) (request : Request) (found : Option ℕ) → drains_at script i ≡ false
    → ((other : Request) → accepted_at script i ≡ Some other → Clash other request → ⊥) → Finds script i request found → Finds script (i + 1) request found
finds_same script i request None drains apart before = λ e p.
    elim (before_or_here e i p.in_order) [
      | inl lt ↦ before e (partner_down script i request e lt p)
      | inr is ↦ apart p.other (sym (ap (accepted_at script) is) ∙ p.other_accepted) p.clash
    ]
finds_same script i request (Some number) drains apart before = finds_some script i request number drains before

-- the first that clashes
pub finds_here : (script : Meant) (i : ℕ) (request other : Request) (number : ℕ) (found : Option ℕ) → accepted_at script i ≡ Some other → Clash other request → number_at script i ≡ Some number
    → is_none found ≡ true → Finds script i request found → Finds script (i + 1) request (Some number)
finds_here script i request other number None accepted clash line none before = record {
  earlier = i;
  partner = record { other = other; other_accepted = accepted; in_order = omega arith; one_span = λ between low high. absurd (omega arith); clash = clash };
  least = λ e p.
      elim (before_or_here e i p.in_order) [
        | inl lt ↦ absurd (before e (partner_down script i request e lt p))
        | inr is ↦ omega arith
      ];
  line = line;
}
finds_here script i request other number (Some earlier) accepted clash line none before = cc

-- ---- requests and lines of one position

-- two requests that are accepted at one position are one
pub same_accepted : (script : Meant) (i : ℕ) (a b : Request) → accepted_at script i ≡ Some a → accepted_at script i ≡ Some b → a ≡ b
same_accepted script i a b here there = cc

-- an item of a list's front is one of the list
pub line_of_front : (lines got : List Line) (n i : ℕ) (line : Line) → got ≡ lines → n ≤ length lines → i < length (take n got) → line ≡ get_or (take n got) i line → (i < length lines) × (line ≡ get_or lines i line)
line_of_front lines got n i line same within inside is =
    let front : length (take n lines) ≡ n = length-take-le n lines within in
    let inside' : i < length (take n lines) = omega (arith, ap (λ (ls : List Line). length (take n ls)) same) in
    (omega arith, is ∙ ap (λ (ls : List Line). get_or (take n ls) i line) same ∙ get_or-take n lines i line (omega arith))

-- what a test of an option said
pub is_none_said : (found : Option ℕ) (said answer : Bool) → is_some found ≡ not said → said ≡ answer → is_none found ≡ answer
is_none_said found true answer e is = ap not e ∙ is
is_none_said found false answer e is = ap not e ∙ is

-- an accepted request drains nothing
not_drained : (came : Outcome) (request : Request) → accepted_in came ≡ Some request → drains_in came ≡ false
not_drained (Accepted other) request is = refl
not_drained (Drained reply) request is = cc
not_drained (Replied reply) request is = refl

drains_none : (queue : Queue) (found : Option Line) (request : Request) → option_and_then (λ (l : Line). accepted queue l.what) found ≡ Some request
    → option_map_or (λ (l : Line). drains queue l.what) found false ≡ false
drains_none queue None request is = refl
drains_none queue (Some line) request is = not_drained (outcome queue line.what) request is

-- so the span that reaches to it has it too
pub span_with : (script : Meant) (e i : ℕ) (request : Request) → accepted_at script i ≡ Some request → NoneDrains script e i → InOneSpan (drains_at script) e i
span_with script e i request accepted none = λ cut low high.
    elim (cases_lt cut i) [
      | inl lt ↦ none cut low lt
      | inr ge ↦ let is : cut ≡ i = omega arith in ap (drains_at script) is ∙ drains_none (queue_at script i) (slice_get script.lines i) request accepted
    ]

pub span_before : (script : Meant) (e i : ℕ) → InOneSpan (drains_at script) e i → NoneDrains script e i
span_before script e i one_span = λ between low high. one_span between low (omega arith)
