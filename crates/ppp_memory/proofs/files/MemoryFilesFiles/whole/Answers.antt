use Rattle.std.proofs.Common.{◌≡◌, ◌∙◌, sym, false}
use Rattle.ppp_outside.specs.Files.{file_of}
use Rattle.ppp_memory.specs.Files.{IsFound, counted_after}
use Rattle.ppp_memory.proofs.FilesLemmas.{after_found, answers_found, reads_found}
use Rattle.ppp_memory.proofs.files.MemoryFilesFiles.whole.Goals as goal

pub returns-clause-answers : goal.returns-clause-answers
returns-clause-answers c =
    let after : c.count.new.self ≡ counted_after c.args.self.now false = rw c.if-refused.false at c.count.ensures in
    let found : IsFound (file_of c.args.name.now c.args.self.now.files) c.copy_found.result = rw (c.found.ensures, after) at c.copy_found.ensures in
    answers_found c.args.self.now c.args.name.now c.copy_found.result (sym c.refuses-refused.ensures ∙ c.if-refused.false) found

pub returns-clause-reads : goal.returns-clause-reads
returns-clause-reads c =
    let after : c.count.new.self ≡ counted_after c.args.self.now false = rw c.if-refused.false at c.count.ensures in
    let found : IsFound (file_of c.args.name.now c.args.self.now.files) c.copy_found.result = rw (c.found.ensures, after) at c.copy_found.ensures in
    rw after (reads_found c.args.self.now c.args.name.now c.copy_found.result found)

pub returns-clause-after : goal.returns-clause-after
returns-clause-after c =
    let after : c.count.new.self ≡ counted_after c.args.self.now false = rw c.if-refused.false at c.count.ensures in
    after ∙ after_found c.args.self.now _ c.copy_found.result c.copy_found.ensures
