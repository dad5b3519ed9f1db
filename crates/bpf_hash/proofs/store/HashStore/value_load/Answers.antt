use Rattle.bpf_hash.proofs.Accessing.{is_at_value}
use Rattle.bpf_hash.proofs.Writing.{fits_there, loaded_calls}
use Rattle.bpf_hash.proofs.store.HashStore.value_load.Goals as goal

pub reach-reach-requires : goal.reach-reach-requires
reach-reach-requires c = is_at_value c.args.self.now c.args._cpu c.args.at.at c.args.size c.requires.place

pub load-requires-clause-inside : goal.load-requires-clause-inside
load-requires-clause-inside c = fits_there (record { runs = c.self.inside.runs.items; tables = c.self.inside.tables.items }) c.args.self.now
    c.self.view_is c.self.invariant c.args._cpu c.args.at.at c.args.size c.requires.place c.reach-reach.result.map
    c.reach-reach.result.element c.reach-reach.result.offset c.reach-reach.ensures.element c.reach-reach.ensures.at
    c.reach-reach.ensures.inside c.index.result.now c.index.ensures

pub returns-clause-loaded : goal.returns-clause-loaded
returns-clause-loaded c = loaded_calls (record { runs = c.self.inside.runs.items; tables = c.self.inside.tables.items }) c.args.self.now
    c.self.view_is c.self.invariant c.args._cpu c.args.at.at c.args.size c.requires.place c.reach-reach.result.map
    c.reach-reach.result.element c.reach-reach.result.offset c.reach-reach.ensures.element c.reach-reach.ensures.at
    c.reach-reach.ensures.inside c.index.result.now c.index.ensures c.load.result c.load.ensures.value c.requires.in_run
