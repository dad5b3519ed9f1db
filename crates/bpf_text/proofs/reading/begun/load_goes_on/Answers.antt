use Rattle.std.proofs.Common.{map}
use Rattle.bpf_text.specs.Private.Look.{look}
use Rattle.bpf_text.proofs.LoadsBegun.{load_goes_on_is}
use Rattle.bpf_text.proofs.reading.begun.load_goes_on.Goals as goal

pub returns : goal.returns
returns c = load_goes_on_is _ (map look c.args.tokens.now) c.begins_load.ensures
