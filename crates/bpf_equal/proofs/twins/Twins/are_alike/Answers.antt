use Rattle.std.proofs.Common.{◌∙◌, ◌++◌, ℕ, List, refl, sym, ap, subst, get_or, arith}
use Rattle.std.proofs.lemmas.Option.{slice_get-get_or}
use Rattle.bpf_live.specs.Live.{Table}
use Rattle.bpf_equal.specs.Peers.{Peer}
use Rattle.bpf_equal.specs.Private.Twins.{FitsAt, IsOrder}
use Rattle.bpf_equal.proofs.Settling.{all_alike, first_order, next_settled}
use Rattle.bpf_equal.proofs.twins.Twins.are_alike.Goals as goal

pub loop-place-init : goal.loop-place-init
loop-place-init c =
    let numbers = c.args.numbers.now in
    let same = c.in_ok-extend_from_slice.ensures.items ∙ ap (λ (ns : List ℕ). ns ++ numbers) c.clear.ensures.items in
    record {
      peers = refl;
      tables = refl;
      order = subst (IsOrder c.args.self.now.peers.items c.args.parts.now numbers) (sym same)
          (first_order c.args.self.now.peers.items c.args.parts.now numbers c.requires.within);
      settled = λ j m o less. absurd (omega (arith, less));
    }

pub loop-place-preserved : goal.loop-place-preserved
loop-place-preserved c =
    let i = c.loop-place.invariant in
    let parts = c.args.parts.now in
    let numbers = c.args.numbers.now in
    let others = c.args.others.now in
    let place = c.loop-place.place in
    let old = c.loop-place.self.order.items in
    let new = c.settle.new.self.order.items in
    let peers = ap (λ ps. ps.items) i.peers in
    let tables = ap (λ ts. ts.items) i.tables in
    record {
      peers = c.settle.ensures.peers ∙ i.peers;
      tables = c.settle.ensures.tables ∙ i.tables;
      order = subst (λ (ps : List Peer). IsOrder ps parts numbers new) peers
          (c.settle.ensures.order numbers (subst (λ (ps : List Peer). IsOrder ps parts numbers old) (sym peers) i.order));
      settled = next_settled c.args.self.now.tables.items c.args.self.now.peers.items parts old new others place (get_or others place 0) i.settled
          c.settle.ensures.before (slice_get-get_or others place 0 c.loop-place-test.true)
          (λ m at. subst (λ (ts : List Table). FitsAt ts c.args.self.now.peers.items parts place m (get_or others place 0)) tables
          (subst (λ (ps : List Peer). FitsAt c.loop-place.self.tables.items ps parts place m (get_or others place 0)) peers
          (c.settle.ensures.fits c.if-not-settle.false m at)));
    }

pub returns-clause-alike : goal.returns-clause-alike
returns-clause-alike c is =
    let i = c.loop-place.invariant in
    let others = c.args.others.now in
    all_alike c.args.self.now.peers.items c.args.self.now.tables.items c.args.parts.now c.args.numbers.now c.loop-place.self.order.items others
    (c.are_own.ensures.some c.if-not-are_own.false) c.if-others-numbers.false i.order
    (λ j m o less. i.settled j m o (omega (arith, less, c.loop-place-test.false)))
