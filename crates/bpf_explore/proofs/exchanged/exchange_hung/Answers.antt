use Rattle.std.proofs.Common.{◌≡◌, ◌∙◌, Some, length, sym, ap, arith, refl}
use Rattle.std.specs.Prelude.{slice_get}
use Rattle.std.proofs.lemmas.Option.{slice_get_read}
use Rattle.bpf_explore.proofs.ExchangedLaws.{all_closed, closed_on, grows_not, grows_on, none_closed}
use Rattle.bpf_explore.proofs.exchanged.exchange_hung.Goals as goal

pub loop-next-init : goal.loop-next-init
loop-next-init c = record {
  closed = none_closed c.args.peers.now c.args.hung.now.items;
  grows = grows_not c.args.peers.now c.args.hung.now.items;
}

pub add_around-requires : goal.add_around-requires
add_around-requires c =
    let mid = c.loop-next.hung.items in
    let next = c.loop-next.next in (
      next,
      slice_get_read mid (length mid) next c.index.result.now refl (omega (arith, c.len.ensures)) c.index.ensures
          ∙ ap Some (sym (c.deref.ensures.value ∙ (c.in_ok-by.ensures ∙ c.by.ensures))),
    )

pub loop-next-preserved : goal.loop-next-preserved
loop-next-preserved c =
    let peers = c.args.peers.now in
    let mid = c.loop-next.hung.items in
    let new = c.add_around.new.hung.items in
    let next = c.loop-next.next in
    let at : slice_get mid next ≡ Some c.deref.result.now =
    slice_get_read mid (length mid) next c.index.result.now refl (omega (arith, c.len.ensures)) c.index.ensures
    ∙ ap Some (sym (c.deref.ensures.value ∙ (c.in_ok-by.ensures ∙ c.by.ensures))) in
    let step = c.in_ok-add_around.ensures in
    record {
      closed = closed_on peers mid new c.deref.result.now next step.grows at c.loop-next.invariant.closed step.listed;
      grows = grows_on peers c.args.hung.now.items mid new c.loop-next.invariant.grows step.grows;
    }

pub returns-clause-exchanged : goal.returns-clause-exchanged
returns-clause-exchanged c =
    all_closed c.args.peers.now c.loop-next.hung.items c.loop-next.next (omega (arith, c.len.ensures)) c.loop-next.invariant.closed
