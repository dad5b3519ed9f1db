use Rattle.std.proofs.Common.{rules, ap}
use Rattle.bpf_file.specs.Private.Drafts.{part_of}
use Rattle.bpf_file.proofs.Arrays.{with_contents, put_at}
use Rattle.bpf_file.proofs.draft.Draft.put_data.Goals as goal

pub returns-clause-ok : goal.returns-clause-ok
returns-clause-ok c =
    ap (with_contents (part_of c.args.self.now))
    (put_at c.args.self.now.contents.items c.args.number c.index_mut.result.now c.put.new.first
    c.args.at c.args.bytes.now c.requires.number c.index_mut.ensures.value (search rules))
