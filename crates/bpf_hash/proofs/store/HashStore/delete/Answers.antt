use Rattle.bpf_hash.proofs.Answering.{delete_leaves, delete_calls}
use Rattle.bpf_hash.proofs.store.HashStore.delete.Goals as goal

pub invariant_of-self : goal.invariant_of-self
invariant_of-self c =
    let left = delete_leaves (record { runs = c.self.inside.runs.items; tables = c.self.inside.tables.items }) c.args.self.now
    c.self.view_is c.self.invariant c.args._cpu c.args.map c.args.key.now c.requires.key.0 c.requires.key.1 c.deref.result.now
    c.deref.ensures.value c.index_mut.result.now c.index_mut.ensures.value c.take.new.self c.take.ensures.table c.take.result
    c.take.ensures.takes in left.store

pub returns-clause-answered : goal.returns-clause-answered
returns-clause-answered c = delete_calls (record { runs = c.self.inside.runs.items; tables = c.self.inside.tables.items }) c.args.self.now
    c.self.view_is c.self.invariant c.args._cpu c.args.map c.args.key.now c.requires.key.0 c.requires.key.1 c.deref.result.now
    c.deref.ensures.value c.index_mut.result.now c.index_mut.ensures.value c.take.new.self c.take.ensures.table c.take.result
    c.take.ensures.takes c.requires.key.2 c.requires.in_run

pub returns-clause-held : goal.returns-clause-held
returns-clause-held c =
    let left = delete_leaves (record { runs = c.self.inside.runs.items; tables = c.self.inside.tables.items }) c.args.self.now
    c.self.view_is c.self.invariant c.args._cpu c.args.map c.args.key.now c.requires.key.0 c.requires.key.1 c.deref.result.now
    c.deref.ensures.value c.index_mut.result.now c.index_mut.ensures.value c.take.new.self c.take.ensures.table c.take.result
    c.take.ensures.takes in left.held

pub returns-clause-same : goal.returns-clause-same
returns-clause-same c =
    let left = delete_leaves (record { runs = c.self.inside.runs.items; tables = c.self.inside.tables.items }) c.args.self.now
    c.self.view_is c.self.invariant c.args._cpu c.args.map c.args.key.now c.requires.key.0 c.requires.key.1 c.deref.result.now
    c.deref.ensures.value c.index_mut.result.now c.index_mut.ensures.value c.take.new.self c.take.ensures.table c.take.result
    c.take.ensures.takes in (left.shapes, left.serves, left.running)
