use Rattle.std.proofs.Common.{inl, ap, arith, length}
use Rattle.line_text.proofs.WordLemmas.{length-words_of-le}
use Rattle.line_text.proofs.word_list.Words.count_left.Goals as goal

pub count-requires-clause-fits : goal.count-requires-clause-fits
count-requires-clause-fits c = inl (omega (arith, ap length c.new.ensures, length-words_of-le c.self.inside.rest.now, c.self.told.1))
