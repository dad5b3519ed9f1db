use Rattle.bpf_text.specs.Private.Sources.{source_of}
use Rattle.bpf_text.proofs.sizes.line_size.Goals as goal

pub returns-clause-size : goal.returns-clause-size
returns-clause-size c = (source_of c.in_ok-source.source, c.in_ok-source.ensures.read, c.words_of.ensures.value)
