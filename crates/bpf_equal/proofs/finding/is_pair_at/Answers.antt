use Rattle.std.proofs.Common.{◌≡◌, Some, subst}
use Rattle.std.specs.Prelude.{slice_get}
use Rattle.bpf_cpu.specs.Task.{Task}
use Rattle.bpf_machine.specs.Parts.{chosen}
use Rattle.bpf_equal.specs.Peers.{Peer}
use Rattle.bpf_equal.specs.Private.Finding.{ArePair}
use Rattle.bpf_equal.proofs.FoundLaws.{read_part}
use Rattle.bpf_equal.proofs.finding.is_pair_at.Goals as goal

pub returns : goal.returns
returns c is differ task later one other at there first second =
    let parts = c.args.parts.now in
    let numbers = c.args.numbers.now in
    let x = c.index-parts-numbers.result in
    let y = c.index-parts-numbers-2.result in
    let here : slice_get (chosen parts numbers) c.args.place ≡ Some x = read_part parts numbers c.args.place x c.requires.place
    c.requires.within c.index-parts-numbers.is in
    let there_y : slice_get (chosen parts numbers) c.args.other ≡ Some y = read_part parts numbers c.args.other y c.requires.other
    c.requires.within c.index-parts-numbers-2.is in
    let p = c.peer_at-one.ensures in
    let q = c.peer_at-two.ensures in
    let same_x : x ≡ task = cc in
    let same_y : y ≡ later = cc in
    let same_p : c.peer_at-one.result ≡ one = cc in
    let same_q : c.peer_at-two.result ≡ other = cc in
    subst (λ (t : Task). ArePair t later one other) same_x
    (subst (λ (t : Task). ArePair x t one other) same_y
    (subst (λ (r : Peer). ArePair x y r other) same_p
    (subst (λ (r : Peer). ArePair x y c.peer_at-one.result r) same_q (c.is_pair.ensures is))))
