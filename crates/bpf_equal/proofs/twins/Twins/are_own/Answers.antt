use Rattle.std.proofs.Common.{◌≡◌, ◌∙◌, Some, List, subst, arith, length}
use Rattle.std.specs.Prelude.{slice_get}
use Rattle.std.proofs.lemmas.Option.{slice_get_within}
use Rattle.bpf_machine.specs.Parts.{chosen}
use Rattle.bpf_equal.specs.Peers.{Peer}
use Rattle.bpf_equal.proofs.FoundLaws.{next_own, read_part}
use Rattle.bpf_equal.proofs.Settling.{chosen_many}
use Rattle.bpf_equal.proofs.twins.Twins.are_own.Goals as goal

pub loop-place-preserved : goal.loop-place-preserved
loop-place-preserved c =
    let parts = c.args.parts.now in
    let numbers = c.args.numbers.now in
    let place = c.loop-place.place in
    let x = c.index-parts-numbers.result in
    let p = c.peer_at-peer.result in
    next_own c.args.self.now.peers.items (chosen parts numbers) place p x c.loop-place.invariant
    (subst (λ (ps : List Peer). slice_get ps place ≡ Some p) c.deref.ensures.value c.peer_at-peer.ensures)
    (read_part parts numbers place x c.loop-place-test.true c.requires.within c.index-parts-numbers.is) (c.is_of.ensures c.if-not-is_of.false)

pub returns-clause-own : goal.returns-clause-own
returns-clause-own c is =
    let many : length (chosen c.args.parts.now c.args.numbers.now) ≡ length c.args.self.now.peers.items =
    chosen_many c.args.parts.now c.args.numbers.now ∙ omega (arith, c.if-numbers-many.false, c.len-many.ensures) in
    record {
      many = many;
      each = λ j peer task at there.
          let low = slice_get_within c.args.self.now.peers.items j peer at in
          c.loop-place.invariant j peer task (omega (arith, low, c.if-numbers-many.false, c.len-many.ensures, c.loop-place-test.false)) at there;
    }
