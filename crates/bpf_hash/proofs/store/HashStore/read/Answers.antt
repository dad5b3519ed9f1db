use Rattle.bpf_hash.proofs.SavedNormal.{is_read, saves_none}
use Rattle.bpf_hash.proofs.Options.{at_some, at_none}
use Rattle.bpf_hash.proofs.store.HashStore.read.Goals as goal

pub returns-clause-read : goal.returns-clause-read
returns-clause-read c =
    let counted = at_some _ _ _ c.in-Some-2.is c.in_ok-count.ensures.some in
    is_read c.args.self.now c.in-Some.new c.args.bytes.now (at_some _ _ _ c.in-Some.is c.in_ok-new.ensures.read) c.in-Some-2.count counted.0
    (at_some _ _ _ c.in-Some.is c.in_ok-new.ensures.shape) counted.1

pub returns-in_default-2-clause-none : goal.returns-in_default-2-clause-none
returns-in_default-2-clause-none c = saves_none c.args.self.now c.in-Some.new c.args.bytes.now
    (at_some _ _ _ c.in-Some.is c.in_ok-new.ensures.read) (at_none _ _ c.in_default-2.is c.in_ok-count.ensures.none)
