use Rattle.std.proofs.Common.{◌≡◌, ◌∙◌, List, length, sym, subst}
use Rattle.bpf_equal.specs.declared.peers.Peer.{Peer}
use Rattle.bpf_equal.specs.Races.{StaysExchanged}
use Rattle.bpf_explore.specs.Search.{CameTo, Richly}
use Rattle.bpf_races.specs.Races.{RaceFound}
use Rattle.bpf_races.specs.Private.Exchanging.{AreAllBy, CoversBelow}
use Rattle.bpf_races.proofs.Searching.{all_by, are_races_patiently, still_listed}
use Rattle.bpf_races.proofs.search.conclude_patiently.Goals as goal

pub returns : goal.returns
returns c w limit fits begins came =
    let own = c.args.explorer.now in
    let kept = own.kept in
    let sync = c.args.sync.now in
    let extent = c.args.extent in
    let peers = c.deref.result.now in
    let are : peers ≡ own.peers = c.deref.ensures.value ∙ c.in_ok-peers.ensures.peers in
    let stays = subst (λ (ps : List Peer). StaysExchanged ps w) (sym c.deref.ensures.value) (c.in_ok-peers.ensures.stays w begins) in
    let came_so = subst (λ (ps : List Peer). CameTo (Richly ps) kept extent limit) (sym are) came in
    let listed = c.in_ok-races.ensures in
    let old = c.in_ok-races.races.items in
    let handed = c.deref-2.ensures.value in
    let all = subst (λ (rs : List RaceFound). AreAllBy w sync rs) (sym handed) (all_by kept sync old w listed.gathered begins) in
    let new = c.in_ok-list.list.items in
    let covers = c.in_ok-list.ensures.covers in
    are_races_patiently kept w sync new extent limit c.is_whole.result c.is_refused.result c.in_ok-races.listed c.both-all.result fits begins
    (covers.each w sync stays all) covers.once (λ is. still_listed peers kept sync old new
    (subst (λ (rs : List RaceFound). CoversBelow peers rs new (length rs)) handed covers) (listed.listed is)) c.both-all.ensures.both
    c.is_whole.ensures c.is_refused.ensures c.permuted_patient_races_are_kept.ensures c.permuted_patient_sets_have_turns.ensures
    c.turning_race_free_is_same.ensures peers c.in_ok-list.ensures.closed came_so
