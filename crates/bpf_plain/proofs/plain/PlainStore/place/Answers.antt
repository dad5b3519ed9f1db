use Rattle.std.proofs.Common.{subst}
use Rattle.bpf_shared.specs.Access.{bytes_in}
use Rattle.bpf_plain.specs.Private.Contents.{IsStore}
use Rattle.bpf_plain.proofs.Places.{some_bytes, array_there, inside}
use Rattle.bpf_plain.proofs.plain.PlainStore.place.Goals as goal

pub returns-clause-there : goal.returns-clause-there
returns-clause-there c = array_there c.args.self.now (subst IsStore c.self.view_is c.self.invariant) c.args.at (bytes_in c.args.size)
    (some_bytes c.args.size) c.requires

pub returns-clause-inside : goal.returns-clause-inside
returns-clause-inside c = inside c.args.self.now (subst IsStore c.self.view_is c.self.invariant) c.args.at (bytes_in c.args.size)
    (some_bytes c.args.size) c.requires
