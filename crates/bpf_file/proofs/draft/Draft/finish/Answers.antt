use Rattle.std.proofs.Common.{rules, refl}
use Rattle.bpf_file.specs.Private.Drafts.{part_of}
use Rattle.bpf_file.proofs.Runs.{runnable}
use Rattle.bpf_file.proofs.draft.Draft.finish.Goals as goal

pub returns-clause-fits : goal.returns-clause-fits
returns-clause-fits c =
    runnable (record {
      shape = c.in-Ok-with_arrays.shape;
      pairs = c.args.self.pairs;
      programs = c.args.self.programs;
      jobs = c.args.self.jobs;
    }) (part_of c.args.self).file (search rules) (search rules) (search rules) refl refl refl c.requires.runs
