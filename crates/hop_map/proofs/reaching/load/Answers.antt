use Rattle.std.proofs.Common.{subst}
use Rattle.bpf_shared.specs.Access.{bytes_in}
use Rattle.bpf_shared.specs.Shape.{IsShape}
use Rattle.hop_layout.specs.declared.about.About.{About}
use Rattle.hop_words.proofs.FixedWords.{some_bytes}
use Rattle.hop_map.proofs.Below.{loads_held, loads_fixed}
use Rattle.hop_map.proofs.reaching.load.Goals as goal

pub load_at-requires-clause-held : goal.load_at-requires-clause-held
load_at-requires-clause-held c =
    let shaped = subst (λ (x : About). IsShape x.shape) c.about.ensures c.cpus-cpus.ensures.in_range in
    loads_held c.args.table.now.about c.args.lane.now.known c.args.at.at (bytes_in c.args.size) shaped (some_bytes c.args.size)
    c.if-at-eq0.true c.requires.place

pub load_fixed-requires-clause-fixed : goal.load_fixed-requires-clause-fixed
load_fixed-requires-clause-fixed c =
    let shaped = subst (λ (x : About). IsShape x.shape) c.about.ensures c.cpus-cpus.ensures.in_range in
    loads_fixed c.args.table.now.about c.args.lane.now.known c.args.at.at (bytes_in c.args.size) shaped (some_bytes c.args.size)
    c.if-at-eq0.false c.requires.place
