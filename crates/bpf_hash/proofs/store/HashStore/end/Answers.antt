use Rattle.bpf_hash.proofs.Counting.{ended, ended_calls, ended_held}
use Rattle.bpf_hash.proofs.store.HashStore.end.Goals as goal

pub returns-clause-ended : goal.returns-clause-ended
returns-clause-ended c =
    let p = c.args.self.now in
    let left = ended p c.args.cpu c.requires.serves c.self.inside.runs.items c.self.inside.tables.items c.index_mut.result.now
    c.self.view_is c.index_mut.ensures.value in
    ended_calls p c.args.cpu c.requires.serves _ left c.requires.in_run

pub returns-clause-held : goal.returns-clause-held
returns-clause-held c =
    let p = c.args.self.now in
    let left = ended p c.args.cpu c.requires.serves c.self.inside.runs.items c.self.inside.tables.items c.index_mut.result.now
    c.self.view_is c.index_mut.ensures.value in
    ended_held p c.args.cpu c.requires.serves _ left
