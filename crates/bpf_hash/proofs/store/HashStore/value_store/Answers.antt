use Rattle.bpf_hash.proofs.Accessing.{is_at_value}
use Rattle.bpf_hash.proofs.Writing.{fits_there, write_leaves, stored_calls}
use Rattle.bpf_hash.proofs.store.HashStore.value_store.Goals as goal

pub reach-reach-requires : goal.reach-reach-requires
reach-reach-requires c = is_at_value c.args.self.now c.args._cpu c.args.at.at c.args.size c.requires.place

pub store-requires-clause-inside : goal.store-requires-clause-inside
store-requires-clause-inside c = fits_there (record { runs = c.self.inside.runs.items; tables = c.self.inside.tables.items })
    c.args.self.now c.self.view_is c.self.invariant c.args._cpu c.args.at.at c.args.size c.requires.place c.reach-reach.result.map
    c.reach-reach.result.element c.reach-reach.result.offset c.reach-reach.ensures.element c.reach-reach.ensures.at
    c.reach-reach.ensures.inside c.index_mut.result.now c.index_mut.ensures.value

pub invariant_of-self : goal.invariant_of-self
invariant_of-self c =
    let left = write_leaves (record { runs = c.self.inside.runs.items; tables = c.self.inside.tables.items }) c.args.self.now c.self.view_is
    c.self.invariant c.args._cpu c.args.at.at c.args.size c.requires.place c.reach-reach.result.map c.reach-reach.result.element
    c.reach-reach.result.offset c.reach-reach.ensures.element c.reach-reach.ensures.at c.reach-reach.ensures.inside
    c.index_mut.result.now c.index_mut.ensures.value c.args.word c.store.new.self c.store.ensures.table.1 c.store.ensures.stored in left.store

pub returns-clause-stored : goal.returns-clause-stored
returns-clause-stored c = stored_calls (record { runs = c.self.inside.runs.items; tables = c.self.inside.tables.items }) c.args.self.now
    c.self.view_is c.self.invariant c.args._cpu c.args.at.at c.args.size c.requires.place c.reach-reach.result.map
    c.reach-reach.result.element c.reach-reach.result.offset c.reach-reach.ensures.element c.reach-reach.ensures.at
    c.reach-reach.ensures.inside c.index_mut.result.now c.index_mut.ensures.value c.args.word c.store.new.self c.store.ensures.table.1
    c.store.ensures.stored c.requires.in_run

pub returns-clause-held : goal.returns-clause-held
returns-clause-held c =
    let left = write_leaves (record { runs = c.self.inside.runs.items; tables = c.self.inside.tables.items }) c.args.self.now c.self.view_is
    c.self.invariant c.args._cpu c.args.at.at c.args.size c.requires.place c.reach-reach.result.map c.reach-reach.result.element
    c.reach-reach.result.offset c.reach-reach.ensures.element c.reach-reach.ensures.at c.reach-reach.ensures.inside
    c.index_mut.result.now c.index_mut.ensures.value c.args.word c.store.new.self c.store.ensures.table.1 c.store.ensures.stored in left.held

pub returns-clause-same : goal.returns-clause-same
returns-clause-same c =
    let left = write_leaves (record { runs = c.self.inside.runs.items; tables = c.self.inside.tables.items }) c.args.self.now c.self.view_is
    c.self.invariant c.args._cpu c.args.at.at c.args.size c.requires.place c.reach-reach.result.map c.reach-reach.result.element
    c.reach-reach.result.offset c.reach-reach.ensures.element c.reach-reach.ensures.at c.reach-reach.ensures.inside
    c.index_mut.result.now c.index_mut.ensures.value c.args.word c.store.new.self c.store.ensures.table.1 c.store.ensures.stored in
    (left.shapes, left.serves, left.running)
