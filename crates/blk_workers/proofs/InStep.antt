-- How the freezer comes into step with the queue that a line leaves.
use Rattle.std.proofs.Common.{◌≡◌, ◌∙◌, refl, sym, ap, subst, ℕ, ◌+◌, ◌-◌, arith, Bool, true, false, cond, eqb, nat_lt}
use Rattle.std.proofs.lemmas.Bool.Decides.{nat_tests}
use Rattle.queue_limits.specs.Bounds.{Bounds, is_physical_size}
use Rattle.queue_limits.specs.declared.limits.TheConstants.{CHUNK_LIMIT}
use Rattle.freeze_queue.specs.Queue.{FreezerFacts}
use Rattle.script_meaning.specs.Queue.{Queue}
use Rattle.script_meaning.specs.Taken.{request_counted, request_taken, limits_taken, taken_there, taken, outcome, queue_after}
use Rattle.script_meaning.specs.declared.script.What.{What}
use Rattle.script_meaning.specs.declared.script.What.TheVariants.{Read, Write, Freeze, Thaw, SetMax, SetChunk, SetPhysical, SetMode, Stat, Remove}
use Rattle.script_meaning.specs.declared.reply.Outcome.{Outcome}
use Rattle.script_meaning.specs.declared.reply.Outcome.TheVariants.{Accepted, Drained, Replied}
use Rattle.script_meaning.specs.declared.queue_state.TheConstants.{DEPTH_LIMIT}
use Rattle.script_meaning.specs.declared.reply.Reply.{Reply}
use Rattle.script_meaning.specs.declared.reply.Reply.TheVariants.{Done, Depth, NotFrozen, DepthFull, Again, PastEnd, Invalid, Gone}
use Rattle.script_meaning.specs.declared.reply.Request.{Request}
use Rattle.blk_workers.specs.Following.{IsFrozenFor, IsInStep, IsNear, depth_of, once_frozen, one_nearer}

-- ---- one step of a depth

nearer_itself : (d : ℕ) → one_nearer d d ≡ d
nearer_itself d = grind (arith, nat_tests)

nearer_from_frozen : (d : ℕ) → one_nearer (once_frozen d) d ≡ d
nearer_from_frozen d = grind (arith, nat_tests)

nearer_one_more : (d : ℕ) → one_nearer (once_frozen d) (d + 1) ≡ d + 1
nearer_one_more d = grind (arith, nat_tests)

nearer_one_less : (d : ℕ) → one_nearer d (d - 1) ≡ d - 1
nearer_one_less d = grind (arith, nat_tests)

some_depth : (d : ℕ) → once_frozen d ≡ 0 → ⊥
some_depth d none = grind (arith, nat_tests)

not_zero : (d : ℕ) → eqb d 0 ≡ false → d ≡ 0 → ⊥
not_zero d test none = grind (arith, nat_tests)

-- ---- what each line leaves

-- a drain has frozen the queue where it was live; where nothing drains, a live queue stays live with its limits
abbrev StepsTo : Queue → Outcome → Queue → Type 0
StepsTo q (Accepted request) next = Unit {0}
StepsTo q (Drained reply) next = one_nearer (once_frozen (depth_of q)) (depth_of next) ≡ depth_of next
StepsTo q (Replied reply) next = (one_nearer (depth_of q) (depth_of next) ≡ depth_of next) × (depth_of q ≡ 0 → (depth_of next ≡ 0) × (q.limits ≡ next.limits))

abbrev Steps : Queue → Outcome × Queue → Type 0
Steps q t = StepsTo q t.0 t.1

either : (P : Outcome × Queue → Type 0) (test : Bool) (x y : Outcome × Queue) → (test ≡ true → P x) → (test ≡ false → P y) → P (cond test x y)
either P true x y f g = f refl
either P false x y f g = g refl

stays : (q : Queue) → (one_nearer (depth_of q) (depth_of q) ≡ depth_of q) × (depth_of q ≡ 0 → (depth_of q ≡ 0) × (q.limits ≡ q.limits))
stays q = (nearer_itself (depth_of q), λ none. (none, refl))

-- the depth of a queue that isn't removed
depth_there : (q : Queue) → q.removed ≡ false → depth_of q ≡ q.depth
depth_there q there = rw there refl

steps_by_request : (q : Queue) (r : Request) → Steps q (request_taken q r)
steps_by_request q r =
    either (Steps q) (nat_lt 0 q.depth) (Replied Again, record q { again = q.again + 1 })
    (cond (nat_lt q.sectors (r.start + r.count)) (Replied PastEnd, record q { eio = q.eio + 1 }) (Accepted r, request_counted q r))
    (λ _. stays q)
    (λ _. either (Steps q) (nat_lt q.sectors (r.start + r.count)) (Replied PastEnd, record q { eio = q.eio + 1 }) (Accepted r, request_counted q r) (λ _. stays q) (λ _. tt))

steps_by_limits : (q : Queue) (limits : Bounds) → q.removed ≡ false → Steps q (limits_taken q limits)
steps_by_limits q limits there =
    let next : Queue = record q { limits = limits } in
    let replied : eqb q.depth 0 ≡ false → StepsTo q (Replied Done) next =
    λ test. (nearer_itself (depth_of q), λ none. absurd (not_zero q.depth test (sym (depth_there q there) ∙ none))) in
    let drained : StepsTo q (Drained Done) next = nearer_from_frozen (depth_of q) in
    let cases : (test : Bool) → eqb q.depth 0 ≡ test → Steps q (cond test (Drained Done) (Replied Done), next) =
    λ test. elim test as (λ b. eqb q.depth 0 ≡ b → Steps q (cond b (Drained Done) (Replied Done), next)) [ true ↦ λ _. drained | false ↦ replied ] in
    cases (eqb q.depth 0) refl

steps_there : (q : Queue) (what : What) → q.removed ≡ false → Steps q (taken_there q what)
steps_there q (Read start count) there = steps_by_request q (record { start = start; count = count; writes = false })
steps_there q (Write start count pattern) there = steps_by_request q (record { start = start; count = count; writes = true })
steps_there q Freeze there =
    let next : Queue = record q { depth = q.depth + 1 } in
    let now = depth_there q there in
    let then : depth_of next ≡ q.depth + 1 = depth_there next there in
    either (Steps q) (eqb q.depth DEPTH_LIMIT) (Replied DepthFull, q) (Drained (Depth (q.depth + 1)), next) (λ _. stays q) (λ _. rw (now, then) (nearer_one_more q.depth))
steps_there q Thaw there =
    let next : Queue = record q { depth = q.depth - 1 } in
    let now = depth_there q there in
    let then : depth_of next ≡ q.depth - 1 = depth_there next there in
    either (Steps q) (eqb q.depth 0) (Replied NotFrozen, q) (Replied (Depth (q.depth - 1)), next) (λ _. stays q)
    (λ test. (rw (now, then) (nearer_one_less q.depth), λ none. absurd (not_zero q.depth test (sym now ∙ none))))
steps_there q (SetMax value) there =
    let limits : Bounds = let old : Bounds = q.limits in record old { max = cond (eqb value 0) q.limits.hardware value } in
    either (Steps q) (nat_lt q.limits.hardware value) (Replied Invalid, q) (limits_taken q limits) (λ _. stays q) (λ _. steps_by_limits q limits there)
steps_there q (SetChunk value) there =
    let limits : Bounds = let old : Bounds = q.limits in record old { chunk = value } in
    either (Steps q) (nat_lt CHUNK_LIMIT value) (Replied Invalid, q) (limits_taken q limits) (λ _. stays q) (λ _. steps_by_limits q limits there)
steps_there q (SetPhysical value) there =
    let limits : Bounds = let old : Bounds = q.limits in record old { physical = value } in
    either (Steps q) (is_physical_size value) (limits_taken q limits) (Replied Invalid, q) (λ _. steps_by_limits q limits there) (λ _. stays q)
steps_there q (SetMode mode) there = stays q
steps_there q Stat there = nearer_from_frozen (depth_of q)
steps_there q Remove there =
    let now = depth_there q there in
    rw now (nearer_itself (once_frozen q.depth))

steps : (q : Queue) (what : What) → Steps q (taken q what)
steps q what = either (Steps q) q.removed (Replied Gone, q) (taken_there q what) (λ _. stays q) (λ there. steps_there q what there)

-- ---- where the freezer stands then

-- behind a drain
pub near_drained : (q next : Queue) (what : What) (reply : Reply) (f : FreezerFacts) → Drained reply ≡ outcome q what → next ≡ queue_after q what → IsFrozenFor q f → IsNear next f
near_drained q next what reply f came is frozen =
    let step : StepsTo q (Drained reply) (queue_after q what) = subst (λ (o : Outcome). StepsTo q o (queue_after q what)) (sym came) (steps q what) in
    let depth = frozen.depth in
    record {
      live = λ none. absurd (some_depth (depth_of q) (sym depth ∙ none));
      frozen = rw (depth, is) step;
    }

-- where nothing drains
pub near_replied : (q next : Queue) (what : What) (reply : Reply) (f : FreezerFacts) → Replied reply ≡ outcome q what → next ≡ queue_after q what → IsInStep q f → IsNear next f
near_replied q next what reply f came is in_step =
    let step : StepsTo q (Replied reply) (queue_after q what) = subst (λ (o : Outcome). StepsTo q o (queue_after q what)) (sym came) (steps q what) in
    let depth = in_step.depth in
    record {
      live = λ none.
          let left = step.1 (sym depth ∙ none) in
          (ap depth_of is ∙ left.0, in_step.limits ∙ left.1 ∙ sym (ap (λ (x : Queue). x.limits) is));
      frozen = rw (depth, is) step.0;
    }

-- and before an ordered request
pub near_itself : (q : Queue) (f : FreezerFacts) → IsFrozenFor q f → IsNear q f
near_itself q f frozen =
    let depth = frozen.depth in
    record {
      live = λ none. absurd (some_depth (depth_of q) (sym depth ∙ none));
      frozen = rw depth (nearer_from_frozen (depth_of q));
    }

-- an accepted request changes neither the depth, the limits nor the mode
pub in_step_counted : (q : Queue) (r : Request) (f : FreezerFacts) → IsInStep q f → IsInStep (request_counted q r) f
in_step_counted q r f now =
    elim r.writes as (λ b. IsInStep (cond b (record q { writes = q.writes + 1 }) (record q { reads = q.reads + 1 })) f) [
      | true ↦ record { depth = now.depth; limits = now.limits; mode = now.mode }
      | false ↦ record { depth = now.depth; limits = now.limits; mode = now.mode }
    ]
