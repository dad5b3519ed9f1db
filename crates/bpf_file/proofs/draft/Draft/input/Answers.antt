use Rattle.std.proofs.Common.{arith}
use Rattle.std.specs.Option.{option_copied}
use Rattle.bpf_file.proofs.Fits.{context_short}
use Rattle.bpf_file.proofs.draft.Draft.input.Goals as goal

pub new-context-requires : goal.new-context-requires
new-context-requires c =
    let bytes = c.in_ok-context_of-in-None.field-0 in
    let short = context_short (option_copied c.args.job.context) bytes.items c.requires.0 c.in_ok-context_of-in-None.ensures in
    omega (arith, short, bytes.ok.0)
