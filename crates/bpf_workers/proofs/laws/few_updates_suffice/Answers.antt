use Rattle.hop_words.proofs.Lacking.{few_updates_suffice as law}
use Rattle.bpf_file.specs.File.{shape_of}
use Rattle.bpf_workers.proofs.laws.few_updates_suffice.Goals as goal

pub returns : goal.returns
returns c = λ f asked printed r m few. law (shape_of f) 0 r.closed.history r.last m r.leads.causes few
