use Rattle.std.proofs.Common.{map, subst}
use Rattle.bpf_buffering.specs.declared.pools.Pools.{Pools}
use Rattle.bpf_buffering.specs.Private.Kept.{AreNumbersOf}
use Rattle.bpf_buffering.proofs.Pooling.{adds_buffers, adds_jobs, pooled}
use Rattle.bpf_buffering.proofs.Waits.{items_of}
use Rattle.bpf_buffering.proofs.pools.Pools.number.Goals as goal

pub returns-in_err-jobs-clause-adds : goal.returns-in_err-jobs-clause-adds
returns-in_err-jobs-clause-adds c =
    adds_jobs c.args.machine.now.machine.store c.args.self.now c.number_store.new.self c.keep_all.new.self c.number_store.ensures.adds
    c.keep_all.ensures.grows

pub returns-in_err-buffers-clause-adds : goal.returns-in_err-buffers-clause-adds
returns-in_err-buffers-clause-adds c =
    let store = c.args.machine.now.machine.store in
    let q : Pools = record { stores = c.number_store.new.self.stores; jobs = c.keep_all.new.self; buffers = c.number_store.new.self.buffers } in
    adds_buffers store c.args.self.now q c.keep.new.self
    (adds_jobs store c.args.self.now c.number_store.new.self c.keep_all.new.self c.number_store.ensures.adds c.keep_all.ensures.grows)
    c.keep.ensures.grows

pub returns-clause-adds : goal.returns-clause-adds
returns-clause-adds c =
    let store = c.args.machine.now.machine.store in
    let q : Pools = record { stores = c.number_store.new.self.stores; jobs = c.keep_all.new.self; buffers = c.number_store.new.self.buffers } in
    adds_buffers store c.args.self.now q c.keep.new.self
    (adds_jobs store c.args.self.now c.number_store.new.self c.keep_all.new.self c.number_store.ensures.adds c.keep_all.ensures.grows)
    c.keep.ensures.grows

pub returns-clause-pooled : goal.returns-clause-pooled
returns-clause-pooled c =
    pooled c.args.machine.now
    (record { stores = c.number_store.new.self.stores; jobs = c.keep_all.new.self; buffers = c.keep.new.self })
    (record { store = c.in_ok-store.store; buffers = c.in_ok-buffers.buffers; jobs = c.in_ok-jobs.jobs.items })
    (map items_of c.waiting.result.now) c.in_ok-store.ensures.at
    (subst (AreNumbersOf c.keep_all.new.self c.in_ok-jobs.jobs.items) c.listed.ensures c.in_ok-jobs.ensures.numbers)
    c.in_ok-buffers.ensures.at c.waiting.ensures.state c.waiting.ensures.board
