-- A new store into whose maps CPU 0 has put pairs.
use Rattle.std.proofs.Common.{List, subst}
use Rattle.bpf_shared.specs.Chain.{Chain}
use Rattle.bpf_shared.specs.Shape.{Shape, IsShape}
use Rattle.bpf_shared.specs.Store.{as_made}
use Rattle.bpf_shared.proofs.Soundness.{as_made_sound}
use Rattle.bpf_plain.specs.PlainStore.{Contents, IsMade, Passes, StandsFor, has_cpu}
use Rattle.bpf_pairs.specs.Pairs.{Pair, ArePairs}
use Rattle.bpf_pairs.specs.Putting.{run_events}
use Rattle.bpf_pairs.specs.Filled.{filled}
use Rattle.bpf_pairs.proofs.Filling.{puts_leave_one_store}
use Rattle.bpf_machine.proofs.OwnEvents.{chain_leads}

pub shows_filled : (h : Shape) (ps : List Pair) (x y : Contents) → IsShape h → ArePairs h.maps ps → IsMade h x → Chain Passes has_cpu 0 x y
    (run_events ps) → StandsFor y (filled h ps)
shows_filled h ps x y is are made chain =
    let r = chain_leads x y 0 (run_events ps) chain (as_made h) (as_made_sound h is) made.shows in
    subst (StandsFor y) (puts_leave_one_store h ps r.0 is are r.1) r.3
