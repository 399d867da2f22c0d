-- What was taken from a reader whose bytes are known.
use Rattle.std.proofs.Common.{◌≡◌, ℕ, ◌+◌, ◌≤◌, List, [], ◌++◌, Option, None, Some, IfSome, length, take, sym, ap, ◌∙◌, append-nil, arith, length-append}
use Rattle.std.proofs.Math.Seq.{take-append_seam}
use Rattle.std.proofs.lemmas.List.{take_all}
use Rattle.std.proofs.KnownBytes.{Consumes-trans, Consumes-nil, Consumes-kept}
use Rattle.std.specs.Io.KnownBytes.{Consumes, IsAtEnd, Keeps}
use Rattle.counted_io.specs.Reading.{LosesUpTo}

-- if the reader is unchanged, nothing was taken
pub LosesUpTo-none : (a b : Option (List ℕ)) (most : ℕ) → Keeps a b → LosesUpTo a b most
LosesUpTo-none a b most kept = ([], Consumes-kept a a b [] (Consumes-nil a) kept, omega arith)

-- what was taken after what had been taken
pub LosesUpTo-more : (a b c : Option (List ℕ)) (xs : List ℕ) (room most : ℕ) → Consumes a b xs → LosesUpTo b c room → length xs + room ≤ most → LosesUpTo a c most
LosesUpTo-more a b c xs room most first then fits =
    (xs ++ then.0, Consumes-trans a b c xs then.0 first then.1, simp length-append (omega (arith, then.2)))

-- bytes that are all there were, few enough
pub whole_input : (a b : Option (List ℕ)) (xs : List ℕ) (n : ℕ) → Consumes a b xs → IsAtEnd b → length xs ≤ n → IfSome a (λ bytes. xs ≡ take n bytes)
whole_input None b xs n taken end few = tt
whole_input (Some x) None xs n taken end few = absurd taken
whole_input (Some x) (Some y) xs n taken end few =
    let all : x ≡ xs = taken ∙ ap (λ l. xs ++ l) end ∙ append-nil xs in
    rw all (sym (take_all n xs few))

-- as many bytes as are wanted
pub full_input : (a b : Option (List ℕ)) (xs : List ℕ) (n : ℕ) → Consumes a b xs → length xs ≡ n → IfSome a (λ bytes. xs ≡ take n bytes)
full_input None b xs n taken full = tt
full_input (Some x) None xs n taken full = absurd taken
full_input (Some x) (Some y) xs n taken full = rw (taken, ← full) (sym (take-append_seam xs y))
