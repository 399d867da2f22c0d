-- Which requests of a script are ordered: a request that clashes with a request of the span that it would join begins a new span, and the queue drains before
-- it.
use Rattle.std.specs.Prelude.{◌≡◌, ℕ, ◌<◌, false, List, [], Some, Contains, AllPairs, map}
use Rattle.script_meaning.specs.Requests.{accepted_at, drains_at, number_at}
use Rattle.script_meaning.specs.Script.{Meant, orders}
use Rattle.script_meaning.specs.declared.reply.Request.{Request}
use Rattle.script_meaning.specs.declared.script.Version.{Version}
use Rattle.script_meaning.specs.declared.script.Version.TheVariants.{One, Two}
use Rattle.script_overlap.specs.Overlap.{Clash}

-- a position ends no span: its line doesn't drain, and its request isn't ordered
abbrev pub PartsNothing : Meant → List ℕ → ℕ → Type 0
PartsNothing script ordered position = (drains_at script position ≡ false) × (Contains ordered position → ⊥)

-- a request at the later position would join the span of the earlier one
abbrev pub WouldJoin : Meant → List ℕ → ℕ → ℕ → Type 0
WouldJoin script ordered earlier later = (between : ℕ) → earlier < between → between < later → PartsNothing script ordered between

-- the accepted request at a position clashes with a request of the span that it would join
pub record MustWait (script : Meant) (ordered : List ℕ) (later : ℕ) : Type 0 where
  pub earlier : ℕ
  pub first : Request
  pub second : Request
  pub first_accepted : accepted_at script earlier ≡ Some first
  pub second_accepted : accepted_at script later ≡ Some second
  pub in_order : earlier < later
  pub joins : WouldJoin script ordered earlier later
  pub clash : Clash first second

-- these are the positions of the ordered requests, ascending
pub record AreOrdered (script : Meant) (ordered : List ℕ) : Type 0 where
  pub ascending : AllPairs (λ earlier later. earlier < later) ordered
  pub wait : (position : ℕ) → Contains ordered position → MustWait script ordered position
  pub all : (position : ℕ) → MustWait script ordered position → Contains ordered position

-- the request at a position is ordered, or it isn't and joins the span that reaches to it
pub record IsOrdered (script : Meant) (position : ℕ) : Type 0 where
  pub positions : List ℕ
  pub are_ordered : AreOrdered script positions
  pub is_one : Contains positions position

pub record JoinsItsSpan (script : Meant) (position : ℕ) : Type 0 where
  pub positions : List ℕ
  pub are_ordered : AreOrdered script positions
  pub is_none : Contains positions position → ⊥

-- these are the numbers of their lines
pub record AreOrderedLines (script : Meant) (lines : List ℕ) : Type 0 where
  pub positions : List ℕ
  pub ordered : AreOrdered script positions
  pub numbers : map (number_at script) positions ≡ map Some lines

-- the lines before which the queue has to drain: none in version 1, in which overlapping requests cause the script to be refused
abbrev pub AreDrainsOf : Version → Meant → List ℕ → Type 0
AreDrainsOf One script lines = lines ≡ []
AreDrainsOf Two script lines = AreOrderedLines script lines

-- version 1 orders nothing
abbrev pub NoneInVersionOne : Meant → List ℕ → Type 0
NoneInVersionOne script ordered = orders script.version ≡ false → ordered ≡ []

abbrev pub AreDrains : Meant → List ℕ → Type 0
AreDrains script lines = AreDrainsOf script.version script lines

-- a script has one list of ordered requests at most, and one list of the lines before which the queue has to drain
abbrev pub IsOneOrder : Type 0
IsOneOrder = (script : Meant) (a b : List ℕ) → AreOrdered script a → AreOrdered script b → a ≡ b

abbrev pub IsOneListOfDrains : Type 0
IsOneListOfDrains = (script : Meant) (a b : List ℕ) → AreDrains script a → AreDrains script b → a ≡ b

-- no two requests clash without a drain between them, by a line that drains or before an ordered request
abbrev pub PartsAllClashes : Type 0
PartsAllClashes = (script : Meant) (ordered : List ℕ) → AreOrdered script ordered
    → (earlier later : ℕ) (first second : Request) → accepted_at script earlier ≡ Some first → accepted_at script later ≡ Some second → earlier < later
    → WouldJoin script ordered earlier later → (Contains ordered later → ⊥) → Clash first second → ⊥
