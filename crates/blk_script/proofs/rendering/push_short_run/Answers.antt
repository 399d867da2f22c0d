use Rattle.std.proofs.Common.{◌≡◌, ℕ, ◌+◌, ◌<◌, List, [], ◌∷◌, ◌++◌, get_or, sym, ap, ◌∙◌}
use Rattle.std.proofs.lemmas.Fmt.{decimal_digit}
use Rattle.std.specs.Prelude.{Result, Ok, Err, OnErr, OnOk, is_ok, if◌then◌else◌}
use Rattle.hex.specs.Hex.{encode_lower, encode_with}
use Rattle.blk_script.specs.Texts.{run_text}
use Rattle.blk_script.proofs.rendering.push_short_run.Goals as goal

short : (byte count : ℕ) (digits : List ℕ) → count < 10 → digits ≡ encode_lower (byte ∷ []) → get_or digits 0 0 ∷ get_or digits 1 0 ∷ 42 ∷ (48 + count) ∷ [] ≡ run_text (byte, count)
unfolding encode_with
short byte count digits few is =
    ap (λ ds. get_or ds 0 0 ∷ get_or ds 1 0 ∷ 42 ∷ (48 + count) ∷ []) is ∙ ap (λ ds. encode_lower (byte ∷ []) ++ (42 ∷ ds)) (sym (decimal_digit count few))

appended : {A E : Type 0} (r : Result A E) (old new text wanted : List ℕ) → new ≡ (if is_ok r then old ++ text else old) → text ≡ wanted → OnOk r (new ≡ old ++ wanted)
appended (Ok x) old new text wanted e is = e ∙ ap (λ t. old ++ t) is
appended (Err x) old new text wanted e is = tt

kept : {A E : Type 0} (r : Result A E) (old new text : List ℕ) → new ≡ (if is_ok r then old ++ text else old) → OnErr r (new ≡ old)
kept (Ok x) old new text e = tt
kept (Err x) old new text e = e

pub returns-clause-err : goal.returns-clause-err
returns-clause-err c =
    let digits = c.hex_digits.result in
    kept c.extend_from_slice.result c.args.out.now.items c.extend_from_slice.new.self.items (get_or digits 0 0 ∷ get_or digits 1 0 ∷ 42 ∷ (48 + c.args.count) ∷ []) c.extend_from_slice.ensures.items

pub returns-clause-ok : goal.returns-clause-ok
returns-clause-ok c =
    let digits = c.hex_digits.result in
    appended c.extend_from_slice.result c.args.out.now.items c.extend_from_slice.new.self.items (get_or digits 0 0 ∷ get_or digits 1 0 ∷ 42 ∷ (48 + c.args.count) ∷ []) (run_text (c.args.byte, c.args.count))
    c.extend_from_slice.ensures.items (short c.args.byte c.args.count digits c.requires c.hex_digits.ensures)
