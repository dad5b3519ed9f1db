use Rattle.std.proofs.Common.{subst}
use Rattle.bpf_shared.specs.Access.{bytes_in}
use Rattle.bpf_shared.specs.Shape.{IsShape}
use Rattle.hop_layout.specs.declared.about.About.{About}
use Rattle.hop_words.proofs.FixedWords.{some_bytes}
use Rattle.hop_map.proofs.Below.{changes_held, changes_fixed}
use Rattle.hop_map.proofs.reaching.change_part.Goals as goal

pub change_part_at-requires-clause-held : goal.change_part_at-requires-clause-held
change_part_at-requires-clause-held g c =
    let shaped = subst (λ (x : About). IsShape x.shape) c.about.ensures c.cpus-cpus.ensures.in_range in
    changes_held c.args.table.now.about c.args.lane.now.known c.args.at.at (bytes_in c.args.size) shaped (some_bytes c.args.size)
    c.if-at-eq0.true c.requires.place

pub change_fixed_part-requires-clause-free : goal.change_fixed_part-requires-clause-free
change_fixed_part-requires-clause-free g c =
    let shaped = subst (λ (x : About). IsShape x.shape) c.about.ensures c.cpus-cpus.ensures.in_range in
    changes_fixed c.args.table.now.about c.args.lane.now.known c.args.at.at (bytes_in c.args.size) shaped (some_bytes c.args.size)
    c.if-at-eq0.false c.requires.place
