use Rattle.bpf_shared.specs.Contents.{bytes_of_all}
use Rattle.bpf_plain.proofs.Places.{if_none}
use Rattle.bpf_plain.proofs.Lifting.{no_key}
use Rattle.bpf_plain.proofs.plain.PlainStore.key_at.Goals as goal

pub returns-clause-none : goal.returns-clause-none
returns-clause-none c =
    if_none c.key_at.result c.key_at.ensures.none (no_key (record
    { shape = c.self.inside.shape; maps = c.self.inside.maps; arrays = bytes_of_all c.self.inside.arrays.items }) c.args.self.now
    c.self.view_is c.args.address)
