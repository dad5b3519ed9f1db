use Rattle.std.proofs.Common.{rules, sym}
use Rattle.bpf_helpers.proofs.Binned.{one_more_binned}
use Rattle.bpf_helpers.proofs.bins.Bins.put.Goals as goal

pub returns : goal.returns
returns c = λ spans number are.
    one_more_binned c.args.self.now.latest c.args.self.now.earlier spans c.args.span c.bin_of-bin.result c.args.number
    (sym number) c.bin_of-bin.ensures.bin (search rules) (search rules) are
