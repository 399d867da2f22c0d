use Rattle.std.proofs.Common.{◌≡◌, ◌∙◌, sym, ap, ℕ, List, Result, Ok, Err}
use Rattle.blk_script.specs.Answer.{IsText}
use Rattle.script_overlap.specs.Overlap.{IsReported}
use Rattle.blk_script.specs.Parsing.{meaning_of}
use Rattle.script_meaning.specs.Script.{Meant}
use Rattle.line_text.specs.declared.fault.Overlap.{Overlap as Pair}
use Rattle.line_text.specs.declared.fault.ParseFault.{ParseFault}
use Rattle.blkq_run.specs.Answer.{IsAnswerTo, IsAnswer}
use Rattle.blkq_run.specs.declared.fault.Fault.{Fault}
use Rattle.blkq_run.specs.declared.fault.Fault.TheVariants.{Parse, Overlap}
use Rattle.blkq_run.proofs.laws.one_answer.Goals as goal

abbrev OneText : Type 0
OneText = (script : Meant) (a b : List ℕ) → IsText script a → IsText script b → a ≡ b

abbrev OnePair : Type 0
OnePair = (script : Meant) (a b : Pair) → IsReported script a → IsReported script b → a ≡ b

by_meaning : OneText → OnePair → (meant : Result Meant ParseFault) (a b : Result (List ℕ) Fault) → IsAnswerTo meant a → IsAnswerTo meant b → a ≡ b
by_meaning texts pairs (Ok script) (Ok x) (Ok y) p q = ap Ok (texts script x y p.1 q.1)
by_meaning texts pairs (Ok script) (Ok x) (Err (Overlap pair)) p q = absurd (p.0 q.earlier q.later q.is_first.overlap)
by_meaning texts pairs (Ok script) (Ok x) (Err e) p q = absurd q
by_meaning texts pairs (Ok script) (Err (Overlap x)) (Ok y) p q = absurd (q.0 p.earlier p.later p.is_first.overlap)
by_meaning texts pairs (Ok script) (Err (Overlap x)) (Err (Overlap y)) p q = ap (λ pair. Err (Overlap pair)) (pairs script x y p q)
by_meaning texts pairs (Ok script) (Err (Overlap x)) b p q = absurd q
by_meaning texts pairs (Ok script) (Err e) b p q = absurd p
by_meaning texts pairs (Err fault) (Err (Parse x)) (Err (Parse y)) p q = ap (λ f. Err (Parse f)) (p ∙ sym q)
by_meaning texts pairs (Err fault) (Err (Parse x)) b p q = absurd q
by_meaning texts pairs (Err fault) a b p q = absurd p

pub returns : goal.returns
unfolding IsAnswer
returns c = λ input a b p q. by_meaning c.one_text.ensures c.one_first_overlap.ensures.pair (meaning_of input) a b p q
