use Rattle.bpf_file.specs.Private.Drafts.{part_of}
use Rattle.bpf_file.proofs.Puts.{array_max, array_value}
use Rattle.bpf_file.proofs.draft.Draft.shape_of.Goals as goal

pub returns-clause-value : goal.returns-clause-value
returns-clause-value c = array_value (part_of c.args.self.now) c.args.array c.array_at.result c.requires c.array_at.ensures

pub returns-clause-max : goal.returns-clause-max
returns-clause-max c = array_max (part_of c.args.self.now) c.args.array c.array_at.result c.requires c.array_at.ensures
