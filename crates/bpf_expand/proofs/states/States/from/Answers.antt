use Rattle.std.proofs.Common.{◌∙◌, List, ap, drop, map}
use Rattle.bpf_expand.proofs.PartLemmas.{left_mapped}
use Rattle.bpf_expand.proofs.states.States.from.Goals as goal

pub returns : goal.returns
returns c =
    left_mapped (λ v. v.items) c.as_slice-kept.result.now c.args.first
    ∙ ap (drop c.args.first) (ap (λ (l : List _). map (λ v. v.items) l) c.as_slice-kept.ensures.keys ∙ c.self.view_is)
