use Rattle.std.proofs.Common.{◌≡◌, ℕ, ◌<◌, ◌≤◌, ◌+◌, List, ◌∷◌, [], ◌++◌, length, take, get_or, refl, sym, ap, ◌∙◌, append_assoc, length-append, add-one, arith}
use Rattle.std.proofs.lemmas.List.{take_more, length-take-le}
use Rattle.ram_disk.specs.Runs.{IsRuns, bytes_of_runs}
use Rattle.ram_disk.proofs.RunLists.{last_run-le, longer_run, next_run}
use Rattle.ram_disk.proofs.run.add_bytes.Goals as goal
use Rattle.ram_disk.proofs.run.add_bytes.Goals.{then-next-byte, else-next-byte}

-- the bytes so far and the next one
with_next : (base bytes rest : List ℕ) (first index next : ℕ) → bytes ≡ first ∷ rest → index < length rest → next ≡ get_or rest index 0 → (base ++ take (index + 1) bytes) ++ next ∷ [] ≡ base ++ take (index + 1 + 1) bytes
with_next base bytes rest first index next split within is =
    let read : get_or bytes (index + 1) 0 ≡ get_or rest index 0 = ap (λ b. get_or b (index + 1) 0) split ∙ ap (λ i. get_or (first ∷ rest) i 0) (add-one index) in
    let size = ap length split in
    append_assoc base (take (index + 1) bytes) (next ∷ [])
    ∙ ap (λ b. base ++ (take (index + 1) bytes ++ b ∷ [])) (is ∙ sym read)
    ∙ ap (λ b. base ++ b) (sym (take_more bytes (index + 1) 0 (omega (arith, size))))

-- the open run is no longer than the bytes so far
open-le : (runs : List (ℕ × ℕ)) (byte count index : ℕ) (base bytes : List ℕ) → index + 1 ≤ length bytes → IsRuns (runs ++ (byte, count) ∷ []) (base ++ take (index + 1) bytes) → count ≤ length base + index + 1
open-le runs byte count index base bytes within is =
    let h = last_run-le runs (byte, count) (base ++ take (index + 1) bytes) is in
    omega (arith, h, length-append base (take (index + 1) bytes), length-take-le (index + 1) bytes within)

pub overflow_add-count : goal.overflow_add-count
overflow_add-count c =
    let parts = c.in-Some.ensures.cases in
    let bound = open-le c.loop-next.runs.items c.loop-next.byte c.loop-next.count c.loop-next.next-index (bytes_of_runs c.args.runs.now.items) c.args.bytes.now (omega arith) c.loop-next.invariant.so_far in
    elim c.if-next-byte.branch [ then-next-byte w ↦ omega arith | else-next-byte w ↦ omega arith ]

pub loop-next-preserved : goal.loop-next-preserved
loop-next-preserved c =
    let index = c.loop-next.next-index in
    let rest = c.in-Some.rest.now in
    let base = bytes_of_runs c.args.runs.now.items in
    let next = get_or rest index 0 in
    let so_far = c.loop-next.invariant.so_far in
    let more = with_next base c.args.bytes.now rest c.in-Some.first.now index next c.in-Some.ensures.cases.0 c.loop-next-test.true refl in
    elim c.if-next-byte.branch [
      | then-next-byte w ↦
          let longer = next_run c.loop-next.runs.items (c.loop-next.byte, c.loop-next.count) next 1 (base ++ take (index + 1) c.args.bytes.now) so_far (λ e. w.if-next-byte.true (sym e)) (omega arith) in
          record {
            so_far = rw (← more, ap (λ v. v.items) w.runs-is, w.push_reserved.ensures.items, w.byte-is, w.count-is) longer;
            room = rw w.runs-is (omega arith);
          }
      | else-next-byte w ↦
          let longer = longer_run c.loop-next.runs.items c.loop-next.byte c.loop-next.count 1 (base ++ take (index + 1) c.args.bytes.now) so_far in
          record {
            so_far = rw (← more, w.if-next-byte.false, ap (λ v. v.items) w.runs-is, w.byte-is, w.count-is) longer;
            room = rw w.runs-is (omega arith);
          }
    ]
