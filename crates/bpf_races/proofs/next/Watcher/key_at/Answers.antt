use Rattle.bpf_races.proofs.GatherLaws.{index_shown}
use Rattle.bpf_races.proofs.next.Watcher.key_at.Goals as goal

pub returns-in_ok-index-in-None : goal.returns-in_ok-index-in-None
returns-in_ok-index-in-None c =
    index_shown c.args.machine.now c.store.result.now c.store-in-None.result.now c.args.at c.in_ok-index-in-None.index c.store.ensures
    c.store-in-None.ensures c.in-None.ensures.none c.in_ok-index-in-None.ensures.some c.in_ok-index-in-None.ensures.none
