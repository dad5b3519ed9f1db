use Rattle.std.proofs.Common.{◌≡◌, map, take, true}
use Rattle.bpf_shared.specs.Chain.{Chain}
use Rattle.bpf_pairs.specs.Pairs.{pair_of}
use Rattle.bpf_pairs.specs.Putting.{put_events}
use Rattle.bpf_pairs.proofs.putting.update_all.Given as goal

abbrev pub invariant-loop-pair : goal.invariant-loop-pair
invariant-loop-pair g l =
    let S = g.S.Shared in
    record {
      served : S.serves l.shared ≡ S.serves l.fn.shared;
      shaped : S.shapes l.shared ≡ S.shapes l.fn.shared;
      runs : S.running l.shared ≡ S.running l.fn.shared;
      chain : l.done ≡ true → Chain S.passes S.serves l.cpu l.fn.shared l.shared (put_events (map pair_of (take l.pair-index l.pairs)));
    }
