use Rattle.std.proofs.Common.{◌∙◌, ◌<◌, ℕ, sym, arith, length}
use Rattle.bpf_machine.specs.Parts.{chosen}
use Rattle.bpf_equal.specs.Private.Finding.{IsFoundAt}
use Rattle.bpf_equal.proofs.FoundLaws.{are_peers, are_jobs, equally_fresh, next_found, read_part}
use Rattle.bpf_equal.proofs.Settling.{chosen_many}
use Rattle.bpf_equal.proofs.finding.are_found.Goals as goal

pub loop-place-preserved : goal.loop-place-preserved
loop-place-preserved c =
    let parts = c.args.parts.now in
    let numbers = c.args.numbers.now in
    let place = c.loop-place.place in
    let x = c.index-parts-numbers.result in
    next_found c.args.shape.now c.args.programs.now (chosen parts numbers) c.args.peers.now place x c.peer_at-peer.result c.loop-place.invariant
    (read_part parts numbers place x c.loop-place-test.true c.requires c.index-parts-numbers.is) c.peer_at-peer.ensures
    (c.is_peer.ensures c.if-not-is_peer.false)
    (λ k inside. c.are_pairs.ensures c.if-not-are_pairs.false k (let same = c.if-peers-numbers.false in omega (arith, inside, same)))

pub returns : goal.returns
returns c is =
    let parts = c.args.parts.now in
    let numbers = c.args.numbers.now in
    let jobs = chosen parts numbers in
    let h = c.args.shape.now in
    let programs = c.args.programs.now in
    let peers = c.args.peers.now in
    let many = chosen_many parts numbers ∙ sym c.if-peers-numbers.false in
    let found : (j : ℕ) → j < length peers → IsFoundAt h programs jobs peers j =
    (λ j inside. c.loop-place.invariant j (let same = c.if-peers-numbers.false in omega (arith, inside, same, c.loop-place-test.false))) in (
      are_peers h programs jobs peers many found,
      are_jobs h programs jobs peers many found,
      equally_fresh h programs jobs peers many found,
    )
