-- The text of maximal runs that is made while more runs come: all but the last are closed.
use Rattle.std.proofs.Common.{◌≡◌, ℕ, List, [], ◌∷◌, ◌++◌, length, refl, sym, ap, ◌∙◌, append_assoc, arith}
use Rattle.std.proofs.lemmas.List.{append-nil}
use Rattle.blk_script.specs.Texts.{run_text, runs_text}
use Rattle.blk_script.specs.Closed.{closed_text}

pub closed_text-append : (runs others : List (ℕ × ℕ)) → closed_text (runs ++ others) ≡ closed_text runs ++ closed_text others
closed_text-append [] others = refl
closed_text-append (run ∷ runs) others =
    ap (λ text. (run_text run ++ 44 ∷ []) ++ text) (closed_text-append runs others)
    ∙ sym (append_assoc (run_text run ++ 44 ∷ []) (closed_text runs) (closed_text others))

pub closed_text-push : (runs : List (ℕ × ℕ)) (run : ℕ × ℕ) → closed_text (runs ++ run ∷ []) ≡ (closed_text runs ++ run_text run) ++ 44 ∷ []
closed_text-push runs run =
    closed_text-append runs (run ∷ []) ∙ ap (λ text. closed_text runs ++ text) (append-nil (run_text run ++ 44 ∷ []))
    ∙ sym (append_assoc (closed_text runs) (run_text run) (44 ∷ []))

-- closed runs, and then those that are left
pub runs_text-closed : (closed left : List (ℕ × ℕ)) → (length left ≡ 0 → length closed ≡ 0) → runs_text (closed ++ left) ≡ closed_text closed ++ runs_text left
runs_text-closed [] left some = refl
runs_text-closed (run ∷ closed) [] some = absurd (let none = some refl in omega (arith, none))
runs_text-closed (run ∷ []) (next ∷ left) some =
    sym (append_assoc (run_text run) (44 ∷ []) (runs_text (next ∷ left))) ∙ ap (λ text. text ++ runs_text (next ∷ left)) (sym (append-nil (run_text run ++ 44 ∷ [])))
runs_text-closed (run ∷ next ∷ closed) (other ∷ left) some =
    ap (λ text. run_text run ++ 44 ∷ text) (runs_text-closed (next ∷ closed) (other ∷ left) (λ none. absurd (omega (arith, none))))
    ∙ sym (append_assoc (run_text run) (44 ∷ []) (closed_text (next ∷ closed) ++ runs_text (other ∷ left)))
    ∙ sym (append_assoc (run_text run ++ 44 ∷ []) (closed_text (next ∷ closed)) (runs_text (other ∷ left)))
