-- Every case of the table: what a line can come to, and the queue that it can leave.
use Rattle.std.proofs.Common.{◌≡◌, refl, ℕ, ◌+◌, ◌-◌, ◌≤◌, arith, Bool, true, false, cond, eqb, nat_lt}
use Rattle.std.proofs.lemmas.Bool.Decides.{nat_tests}
use Rattle.queue_limits.specs.Bounds.{Bounds, is_physical_size}
use Rattle.queue_limits.specs.declared.limits.TheConstants.{CHUNK_LIMIT}
use Rattle.script_meaning.specs.Queue.{Queue, counted}
use Rattle.script_meaning.specs.Replies.{is_ok_of_request}
use Rattle.script_meaning.specs.Taken.{counts_of, request_taken, limits_taken, taken_there, taken}
use Rattle.script_meaning.specs.declared.script.What.{What}
use Rattle.script_meaning.specs.declared.script.What.TheVariants.{Read, Write, Freeze, Thaw, SetMax, SetChunk, SetPhysical, SetMode, Stat, Remove}
use Rattle.script_meaning.specs.declared.reply.Outcome.{Outcome}
use Rattle.script_meaning.specs.declared.queue_state.TheConstants.{DEPTH_LIMIT}
use Rattle.script_meaning.specs.declared.reply.Outcome.TheVariants.{Accepted, Drained, Replied}
use Rattle.script_meaning.specs.declared.reply.Reply.TheVariants.{Done, Depth, NotFrozen, DepthFull, Again, PastEnd, Invalid, Stat as Told, Removed, Gone}
use Rattle.script_meaning.specs.declared.reply.Request.{Request}

-- a later queue is on the same disk, with at most one more count
pub record Follows (old new : Queue) : Type 0 where
  pub sectors : new.sectors ≡ old.sectors
  pub counts : counted new ≤ counted old + 1

pub same : (q : Queue) → Follows q q
same q = record { sectors = refl; counts = omega arith }

-- the queue replies itself, and no reply of its own has pieces
abbrev pub IsOwn : Outcome → Type 0
IsOwn (Accepted request) = ⊥
IsOwn (Drained reply) = is_ok_of_request reply ≡ false
IsOwn (Replied reply) = is_ok_of_request reply ≡ false

-- the request is the one that the line makes
abbrev pub IsOf : What → Request → Type 0
IsOf (Read start count) request = request ≡ record { start = start; count = count; writes = false }
IsOf (Write start count pattern) request = request ≡ record { start = start; count = count; writes = true }
IsOf what request = ⊥

pub either : (P : Outcome × Queue → Type 0) (test : Bool) (x y : Outcome × Queue) → P x → (test ≡ false → P y) → P (cond test x y)
either P true x y f g = f
either P false x y f g = g refl

not_past : (size end : ℕ) → nat_lt size end ≡ false → end ≤ size
not_past size end fits = grind (arith, nat_tests)

-- a request is refused, or accepted within the disk
accepted_one : (P : Outcome × Queue → Type 0) (q : Queue) (r : Request) → P (Accepted r, record q { writes = q.writes + 1 }) → P (Accepted r, record q { reads = q.reads + 1 })
    → P (Accepted r, cond r.writes (record q { writes = q.writes + 1 }) (record q { reads = q.reads + 1 }))
accepted_one P q r w d = elim r.writes as (λ b. P (Accepted r, cond b (record q { writes = q.writes + 1 }) (record q { reads = q.reads + 1 }))) [ true ↦ w | false ↦ d ]

pub by_request : (P : Outcome × Queue → Type 0) (q : Queue) (r : Request)
    → ((came : Outcome) (next : Queue) → IsOwn came → Follows q next → P (came, next))
    → ((next : Queue) → r.start + r.count ≤ q.sectors → Follows q next → P (Accepted r, next))
    → P (request_taken q r)
by_request P q r own accepted =
    either P (nat_lt 0 q.depth) (Replied Again, record q { again = q.again + 1 })
    (cond (nat_lt q.sectors (r.start + r.count)) (Replied PastEnd, record q { eio = q.eio + 1 }) (Accepted r, cond r.writes (record q { writes = q.writes + 1 }) (record q { reads = q.reads + 1 })))
    (own (Replied Again) (record q { again = q.again + 1 }) refl (record { sectors = refl; counts = omega arith }))
    (λ unfrozen. either P (nat_lt q.sectors (r.start + r.count)) (Replied PastEnd, record q { eio = q.eio + 1 })
    (Accepted r, cond r.writes (record q { writes = q.writes + 1 }) (record q { reads = q.reads + 1 }))
    (own (Replied PastEnd) (record q { eio = q.eio + 1 }) refl (record { sectors = refl; counts = omega arith }))
    (λ fits. accepted_one P q r
    (accepted (record q { writes = q.writes + 1 }) (not_past q.sectors (r.start + r.count) fits) (record { sectors = refl; counts = omega arith }))
    (accepted (record q { reads = q.reads + 1 }) (not_past q.sectors (r.start + r.count) fits) (record { sectors = refl; counts = omega arith }))))

by_limits : (P : Outcome × Queue → Type 0) (q : Queue) (limits : Bounds) → ((came : Outcome) (next : Queue) → IsOwn came → Follows q next → P (came, next)) → P (limits_taken q limits)
by_limits P q limits own =
    let next : Queue = record q { limits = limits } in
    let follows : Follows q next = record { sectors = refl; counts = omega arith } in
    elim (eqb q.depth 0) as (λ b. P (cond b (Drained Done) (Replied Done), next)) [ true ↦ own (Drained Done) next refl follows | false ↦ own (Replied Done) next refl follows ]

by_there : (P : Outcome × Queue → Type 0) (q : Queue) (what : What)
    → ((came : Outcome) (next : Queue) → IsOwn came → Follows q next → P (came, next)) → ((r : Request) → IsOf what r → P (request_taken q r)) → P (taken_there q what)
by_there P q (Read start count) own request = request (record { start = start; count = count; writes = false }) refl
by_there P q (Write start count pattern) own request = request (record { start = start; count = count; writes = true }) refl
by_there P q Freeze own request =
    let next : Queue = record q { depth = q.depth + 1 } in
    either P (eqb q.depth DEPTH_LIMIT) (Replied DepthFull, q) (Drained (Depth (q.depth + 1)), next) (own (Replied DepthFull) q refl (same q))
    (λ _. own (Drained (Depth (q.depth + 1))) next refl (record { sectors = refl; counts = omega arith }))
by_there P q Thaw own request =
    let next : Queue = record q { depth = q.depth - 1 } in
    either P (eqb q.depth 0) (Replied NotFrozen, q) (Replied (Depth (q.depth - 1)), next) (own (Replied NotFrozen) q refl (same q))
    (λ _. own (Replied (Depth (q.depth - 1))) next refl (record { sectors = refl; counts = omega arith }))
by_there P q (SetMax value) own request =
    let limits : Bounds = let old : Bounds = q.limits in record old { max = cond (eqb value 0) q.limits.hardware value } in
    either P (nat_lt q.limits.hardware value) (Replied Invalid, q) (limits_taken q limits) (own (Replied Invalid) q refl (same q)) (λ _. by_limits P q limits own)
by_there P q (SetChunk value) own request =
    let limits : Bounds = let old : Bounds = q.limits in record old { chunk = value } in
    either P (nat_lt CHUNK_LIMIT value) (Replied Invalid, q) (limits_taken q limits) (own (Replied Invalid) q refl (same q)) (λ _. by_limits P q limits own)
by_there P q (SetPhysical value) own request =
    let limits : Bounds = let old : Bounds = q.limits in record old { physical = value } in
    either P (is_physical_size value) (limits_taken q limits) (Replied Invalid, q) (by_limits P q limits own) (λ _. own (Replied Invalid) q refl (same q))
by_there P q (SetMode mode) own request = own (Replied Done) (record q { mode = mode }) refl (record { sectors = refl; counts = omega arith })
by_there P q Stat own request = own (Drained (Told (counts_of q))) q refl (same q)
by_there P q Remove own request = own (Drained Removed) (record q { removed = true }) refl (record { sectors = refl; counts = omega arith })

-- what holds of each reply of the queue's own, and of each request that a line makes, holds of what the line comes to
pub by_line : (P : Outcome × Queue → Type 0) (q : Queue) (what : What)
    → ((came : Outcome) (next : Queue) → IsOwn came → Follows q next → P (came, next)) → ((r : Request) → IsOf what r → P (request_taken q r)) → P (taken q what)
by_line P q what own request =
    either P q.removed (Replied Gone, q) (taken_there q what) (own (Replied Gone) q refl (same q)) (λ _. by_there P q what own request)
