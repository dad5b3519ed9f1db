use Rattle.bpf_hash.specs.Private.Saved.{all_below, map_block}
use Rattle.bpf_hash.proofs.Fronts.{still_starts}
use Rattle.bpf_hash.proofs.store.HashStore.push_blocks.Goals as goal

pub returns-in_err-push_blocks-clause-err : goal.returns-in_err-push_blocks-clause-err
returns-in_err-push_blocks-clause-err c =
    let before = all_below (map_block c.args.self.now) c.loop-map.map in
    still_starts c.from_residual.result c.args.out.now.items c.loop-map.out.items c.push_blocks.new.out.items before c.loop-map.invariant
    c.in_err-push_blocks.ensures.err
