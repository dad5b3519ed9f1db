use Rattle.std.proofs.Common.{sym, ◌∙◌}
use Rattle.bpf_helpers.proofs.Covering.{reaches_byte}
use Rattle.bpf_helpers.proofs.held.HeldSpans.reaches.Goals as goal

pub returns : goal.returns
returns c = c.covers.ensures ∙ sym (reaches_byte c.args.self.now c.args.address)
