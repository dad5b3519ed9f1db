use Rattle.bpf_file.specs.Statement.{said_by}
use Rattle.bpf_file.specs.Private.Drafts.{part_of}
use Rattle.bpf_file.proofs.Comes.{short_said, fields_say}
use Rattle.bpf_file.proofs.draft.Draft.read_fields.Goals as goal

pub add-requires-clause-short : goal.add-requires-clause-short
add-requires-clause-short c =
    short_said (part_of c.args.self.now) c.args.fields.now (λ f. f.now) (said_by c.in-Ok.said) c.in-len1-up.len_at_least c.in-Ok.ensures

pub returns-in-Ok : goal.returns-in-Ok
returns-in-Ok c =
    fields_say c.args.line (part_of c.args.self.now) _ c.args.fields.now (λ f. f.now) (said_by c.in-Ok.said) c.add.result
    c.in-len1-up.len_at_least c.in-Ok.ensures c.add.ensures
