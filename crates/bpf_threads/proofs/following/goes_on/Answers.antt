use Rattle.std.proofs.Common.{◌+◌, ℕ, pos, subst}
use Rattle.bpf_threads.specs.Chart.{IsSpotThere}
use Rattle.bpf_threads.proofs.Straight.{straight}
use Rattle.bpf_threads.proofs.following.goes_on.Goals as goal

pub returns : goal.returns
returns c t =
    let spot = c.args.spot.now in
    let there = subst (λ (k : ℕ). IsSpotThere c.args.spots.now spot.next (pos (spot.pc + k)) spot.callers.items c.after-known.result)
    c.words.ensures (c.passes_with.ensures t) in
    straight c.args.spots.now spot c.args.insn c.requires c.after-known.result c.after-known.ensures there
