use Rattle.std.proofs.Common.{◌∙◌, List, ℕ, ◌++◌, append_assoc, length, map, ap}
use Rattle.bpf_hash.specs.Private.Saved.{all_below, map_block, is_in_run}
use Rattle.bpf_hash.proofs.store.HashStore.push_all.Goals as goal

pub returns-clause-ok : goal.returns-clause-ok
returns-clause-ok c =
    let p = c.args.self.now in
    let old = c.args.out.now.items in
    let blocks = all_below (map_block p) (length p.tables) in
    c.in_ok-push_blocks.ensures.ok ∙ (ap (λ (bs : List ℕ). bs ++ blocks) c.in_ok-push_runs.ensures.ok ∙ append_assoc old (map is_in_run p.runs) blocks)
