use Rattle.std.proofs.Common.{◌≡◌, subst}
use Rattle.bpf_threads.specs.declared.spot.Spot.{Spot}
use Rattle.bpf_threads.specs.Private.Outside.{SpotReadsOutside}
use Rattle.bpf_threads.proofs.outside.place_reads_outside.Goals as goal

pub returns : goal.returns
returns c t p at =
    let spot = c.spot_at.ensures in
    let same : c.spot_at.result.now ≡ p = cc in
    subst (λ (q : Spot). SpotReadsOutside c.args.arrays.now c.args.program.now q) same (c.spot_reads_outside.ensures t)
