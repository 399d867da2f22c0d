use Rattle.std.proofs.Common.{rules, ◌≡◌, string_bytes, arith}
use Rattle.std.specs.Prelude.{codes}
use Rattle.blkq_run.proofs.Wording.{map_one, map_four}
use Rattle.blkq_run.proofs.program.requested.Goals as goal

pub returns-in-len1-clause-run : goal.returns-in-len1-clause-run
returns-in-len1-clause-run c = λ sizes.
    let word : string_bytes c.word-item.result ≡ codes "run" = search rules in
    rw (map_one string_bytes c.args.words.now c.word-item.result (omega arith) (omega arith) c.word-item.is)
    (λ same. (word, cc), λ asked. cc)

pub returns-in-len1-2-clause-replay : goal.returns-in-len1-2-clause-replay
returns-in-len1-2-clause-replay c =
    let word : string_bytes c.word-item-then-words-lt2.result ≡ codes "replay" = search rules in
    rw (map_one string_bytes c.args.words.now c.word-item-then-words-lt2.result (omega arith) (omega arith) c.word-item-then-words-lt2.is) (λ same. word, λ asked. cc)

pub returns-in-Some-clause-run : goal.returns-in-Some-clause-run
returns-in-Some-clause-run c = λ sizes.
    let word : string_bytes c.word-item-then-words-lt5.result ≡ codes "run" = search rules in
    let asks = rw (c.as_str-in-len4.ensures.value, c.as_str-in-len4-2.ensures.value, c.as_str-in-len4-3.ensures.value) at (c.in-Some.ensures sizes) in
    rw (map_four string_bytes c.args.words.now c.word-item-then-words-lt5.result c.workers-item.result c.slots-item.result c.tags-item.result
    (omega arith) (omega arith) c.word-item-then-words-lt5.is c.workers-item.is c.slots-item.is c.tags-item.is) (
      λ same. let spelled = asks.0 (cc) in (word, spelled.0, spelled.1, spelled.2, spelled.3),
      λ asked. let same = asks.1 (asked.1, asked.2, asked.3, asked.4) in cc,
    )

pub returns-in-None-clause-run : goal.returns-in-None-clause-run
returns-in-None-clause-run c = λ sizes.
    let asks = rw (c.as_str-in-len4.ensures.value, c.as_str-in-len4-2.ensures.value, c.as_str-in-len4-3.ensures.value) at (c.in-None.ensures sizes) in
    rw (map_four string_bytes c.args.words.now c.word-item-then-words-lt5.result c.workers-item.result c.slots-item.result c.tags-item.result
    (omega arith) (omega arith) c.word-item-then-words-lt5.is c.workers-item.is c.slots-item.is c.tags-item.is)
    (λ same. cc, λ asked. let same = asks.1 (asked.1, asked.2, asked.3, asked.4) in cc)
