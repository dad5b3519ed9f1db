use Rattle.std.proofs.Common.{◌∙◌, List, ap, map}
use Rattle.bpf_expand.specs.Parts.{put}
use Rattle.bpf_expand.proofs.PartLemmas.{put_one}
use Rattle.bpf_expand.proofs.states.States.put.Goals as goal

pub returns : goal.returns
returns c = record {
  ok =
      ap (λ (l : List _). map (λ v. v.items) l) c.in-Ok.ensures.keys
      ∙ (put_one c.self.inside.kept.keys c.in_ok-bytes.bytes
      ∙ (ap (λ (l : List _). put l c.in_ok-bytes.bytes.items) c.self.view_is ∙ ap (put c.args.self.now) c.in_ok-bytes.ensures.items));
}
