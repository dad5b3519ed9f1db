use Rattle.bpf_hash.proofs.Answering.{update_leaves, update_calls, update_lacks}
use Rattle.bpf_hash.proofs.store.HashStore.update.Goals as goal

pub invariant_of-self : goal.invariant_of-self
invariant_of-self c =
    let left = update_leaves (record { runs = c.self.inside.runs.items; tables = c.self.inside.tables.items }) c.args.self.now
    c.self.view_is c.self.invariant c.args._cpu c.args.map c.args.key.now c.requires.pair.0 c.requires.pair.1 c.deref.result.now
    c.deref.ensures.value c.index_mut.result.now c.index_mut.ensures.value c.put.new.self c.put.ensures.table c.args.value.now
    c.args.flags c.put.result c.requires.pair.2 c.requires.pair.3 c.put.ensures.puts in left.store

pub returns-clause-answered : goal.returns-clause-answered
returns-clause-answered c = update_calls (record { runs = c.self.inside.runs.items; tables = c.self.inside.tables.items }) c.args.self.now
    c.self.view_is c.self.invariant c.args._cpu c.args.map c.args.key.now c.requires.pair.0 c.requires.pair.1 c.deref.result.now
    c.deref.ensures.value c.index_mut.result.now c.index_mut.ensures.value c.put.new.self c.put.ensures.table c.args.value.now c.args.flags
    c.put.result c.requires.pair.2 c.requires.pair.3 c.put.ensures.puts c.requires.in_run

pub returns-clause-shortage : goal.returns-clause-shortage
returns-clause-shortage c = update_lacks (record { runs = c.self.inside.runs.items; tables = c.self.inside.tables.items }) c.args.self.now
    c.self.view_is c.self.invariant c.args._cpu c.args.map c.args.key.now c.requires.pair.0 c.requires.pair.1 c.deref.result.now
    c.deref.ensures.value c.index_mut.result.now c.index_mut.ensures.value c.put.new.self c.put.ensures.table c.args.value.now c.args.flags
    c.put.result c.requires.pair.2 c.requires.pair.3 c.put.ensures.puts

pub returns-clause-held : goal.returns-clause-held
returns-clause-held c =
    let left = update_leaves (record { runs = c.self.inside.runs.items; tables = c.self.inside.tables.items }) c.args.self.now
    c.self.view_is c.self.invariant c.args._cpu c.args.map c.args.key.now c.requires.pair.0 c.requires.pair.1 c.deref.result.now
    c.deref.ensures.value c.index_mut.result.now c.index_mut.ensures.value c.put.new.self c.put.ensures.table c.args.value.now
    c.args.flags c.put.result c.requires.pair.2 c.requires.pair.3 c.put.ensures.puts in left.held

pub returns-clause-same : goal.returns-clause-same
returns-clause-same c =
    let left = update_leaves (record { runs = c.self.inside.runs.items; tables = c.self.inside.tables.items }) c.args.self.now
    c.self.view_is c.self.invariant c.args._cpu c.args.map c.args.key.now c.requires.pair.0 c.requires.pair.1 c.deref.result.now
    c.deref.ensures.value c.index_mut.result.now c.index_mut.ensures.value c.put.new.self c.put.ensures.table c.args.value.now
    c.args.flags c.put.result c.requires.pair.2 c.requires.pair.3 c.put.ensures.puts in (left.shapes, left.serves, left.running)
