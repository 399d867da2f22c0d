-- What a caller sees of the queues, and of the rights to push, draw, report and collect.
use Rattle.std.specs.Prelude.{◌≡◌, ℕ, ◌+◌, ◌||◌, ◌++◌, ◌∷◌, [], Bool, true, false, List, Option, Some, None}
use Rattle.atomic_table.specs.Seated.{TableId}
use Rattle.crossbeam_queue.specs.Passes.{Pass, view}
use Rattle.run_queues.specs.Numbers.{AllIncrease, times, times_in_all}
use Rattle.run_queues.specs.Requests.{all_parts}

-- which queue it is, and how many items it has room for
pub record QueueFacts : Type 0 where
  pub id : TableId
  pub room : ℕ

-- What the source, which pushes, knows.
pub record SourceFacts : Type 0 where
  pub queue : TableId
  -- how many of the parts of the right to draw are here
  pub parts : ℕ
  -- how many requests were pushed
  pub pushed : ℕ
  -- how many end marks were pushed: no request may follow one
  pub marks : ℕ
  -- one of the consumers that came back took an end mark
  pub drained : Bool
  -- the lists of the consumers that came back, in that order
  pub lists : List (List ℕ)
  -- how many lists there is memory for
  pub room : ℕ

-- what a source knows of a new queue, with memory for `room` lists: every part is here, and nothing was pushed or drawn
abbrev pub new_source : TableId → ℕ → SourceFacts
new_source queue room = record { queue = queue; parts = all_parts; pushed = 0; marks = 0; drained = false; lists = []; room = room }

-- What a consumer, which draws, knows.
pub record ConsumerFacts : Type 0 where
  pub queue : TableId
  -- it took an end mark
  pub drained : Bool
  -- the numbers that it drew, in order
  pub drawn : List ℕ
  -- how many numbers there is memory for
  pub room : ℕ

-- what the source knows once this consumer is back, with memory for `room` lists
abbrev pub after_gather : ConsumerFacts → ℕ → SourceFacts → SourceFacts
after_gather d room s = record s { parts = s.parts + 1; drained = s.drained || d.drained; lists = s.lists ++ d.drawn ∷ []; room = room }

-- what a consumer knows once it has taken a request or an end mark
abbrev pub after_draw : {T : Type 0} → (T → ℕ) → Option T → ConsumerFacts → ConsumerFacts
after_draw number None d = record d { drained = true }
after_draw number (Some request) d = record d { drawn = d.drawn ++ number request ∷ [] }

-- What the collector of completions knows.
pub record CollectorFacts : Type 0 where
  pub queue : TableId
  -- how many tokens were given
  pub given : ℕ
  -- the numbers of the completions that were collected, in order
  pub collected : List ℕ

-- which completion a token may report, or an acknowledgement says was reported
pub record TokenFacts : Type 0 where
  pub queue : TableId
  pub number : ℕ

-- What a taker of spares, or a count of spares put back, knows: the queue, and how many.
pub record CountFacts : Type 0 where
  pub queue : TableId
  pub count : ℕ

abbrev pub none_counted : TableId → CountFacts
none_counted queue = record { queue = queue; count = 0 }

abbrev pub one_more : CountFacts → CountFacts
one_more c = record c { count = c.count + 1 }

-- the lists increase, and together hold what the merged one holds
abbrev pub AreGathered : List (List ℕ) → List ℕ → Type 0
AreGathered lists drawn = AllIncrease lists × ((x : ℕ) → times x drawn ≡ times_in_all x lists)

-- what a pass of a queue knows
abbrev pub known : {T V : Type 0} → Pass T V → V
known pass = view pass
