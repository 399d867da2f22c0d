use Rattle.std.proofs.Common.{◌≡◌, ◌∙◌, sym, List, ℕ, MatchResult, is_ok, Result, Ok, Err}
use Rattle.std.specs.Str.{IsUtf8, is_utf8}
use Rattle.std.proofs.lemmas.Str.{IsUtf8-from_ascii, IsUtf8-from_is_utf8, is_utf8-from_IsUtf8}
use Rattle.line_text.proofs.LineLemmas.{is_false}
use Rattle.line_text.proofs.statements.is_text.Goals as goal

by_cases : {A E : Type 0} (bs : List ℕ) (r : Result A E) (P : A → Type 0) (Q : E → Type 0) → ((x : A) → P x → IsUtf8 bs) → ((e : E) → Q e → IsUtf8 bs → ⊥) → MatchResult r P Q → is_ok r ≡ is_utf8 bs
by_cases bs (Ok x) P Q text other h = sym (is_utf8-from_IsUtf8 bs (text x h))
by_cases bs (Err e) P Q text other h = sym (is_false (is_utf8 bs) (λ t. other e h (IsUtf8-from_is_utf8 bs t)))

pub returns-then-is_ascii : goal.returns-then-is_ascii
returns-then-is_ascii c = c.if-is_ascii.true ∙ sym (is_utf8-from_IsUtf8 c.args.line.now (IsUtf8-from_ascii c.args.line.now (c.is_ascii.ensures c.if-is_ascii.true)))

pub returns-else-is_ascii : goal.returns-else-is_ascii
returns-else-is_ascii c = c.is_ok.ensures.value ∙ by_cases c.args.line.now c.from_utf8.result _ _ (λ x h. h.1) (λ e h. h.0) c.from_utf8.ensures.cases
