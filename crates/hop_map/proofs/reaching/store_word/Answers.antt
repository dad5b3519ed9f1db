use Rattle.std.proofs.Common.{subst, arith}
use Rattle.bpf_shared.specs.Shape.{IsShape}
use Rattle.hop_layout.specs.declared.about.About.{About}
use Rattle.hop_map.proofs.Below.{changes_held, changes_fixed}
use Rattle.hop_map.proofs.reaching.store_word.Goals as goal

pub store_word_at-requires-clause-held : goal.store_word_at-requires-clause-held
store_word_at-requires-clause-held c =
    let shaped = subst (λ (x : About). IsShape x.shape) c.about.ensures c.cpus-cpus.ensures.in_range in
    changes_held c.args.table.now.about c.args.lane.now.known c.args.at.at 8 shaped (omega arith) c.if-at-eq0.true c.requires.place

pub store_fixed_word-requires-clause-free : goal.store_fixed_word-requires-clause-free
store_fixed_word-requires-clause-free c =
    let shaped = subst (λ (x : About). IsShape x.shape) c.about.ensures c.cpus-cpus.ensures.in_range in
    changes_fixed c.args.table.now.about c.args.lane.now.known c.args.at.at 8 shaped (omega arith) c.if-at-eq0.false c.requires.place
