use Rattle.std.proofs.Common.{◌≡◌, subst, ℕ, List, rules}
use Rattle.queue_limits.specs.Pieces.{IsSplit}
use Rattle.ram_disk.specs.Runs.{IsRuns}
use Rattle.ram_disk.specs.Sector.{bytes_of}
use Rattle.ram_disk.specs.Sectors.{sectors_of}
use Rattle.blk_script.specs.Texts.{reply_line}
use Rattle.script_meaning.specs.declared.reply.Reply.TheVariants.{Data}
use Rattle.in_flight.proofs.answer.read.Goals as goal

pub returns : goal.returns
returns c =
    let pieces = c.cut.new.self.pieces.items in
    let told : (runs : List (ℕ × ℕ)) × IsRuns runs (bytes_of (sectors_of c.args.found.now)) × (c.push_read.new.out.items ≡ reply_line (c.args.number, Data pieces runs)) = search rules in
    record {
      reply = Data pieces told.0;
      told = search rules;
      right = λ s limits found. (
        subst (λ l. IsSplit l c.args.start c.args.count pieces) limits c.in_ok-cut.ensures.cut,
        subst (λ f. IsRuns told.0 (bytes_of f)) found told.1,
      );
      leaves = search rules;
    }
