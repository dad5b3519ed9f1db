use Rattle.std.proofs.Common.{map, ap, subst}
use Rattle.std.specs.Prelude.{IfOk}
use Rattle.std.proofs.lemmas.Result.{IfOk-weaker}
use Rattle.bpf_buffering.specs.Search.{BufferedState}
use Rattle.bpf_buffering.proofs.Waits.{items_of}
use Rattle.bpf_buffer_expand.specs.State.{ExpanderState, IsStateOf}
use Rattle.bpf_buffer_expand.specs.Private.Home.{IsSavedWith}
use Rattle.bpf_buffer_expand.proofs.Stating.{state_fit}
use Rattle.bpf_buffer_expand.proofs.expander.BufferExpander.state.Goals as goal

pub returns : goal.returns
returns c =
    let e = c.self.inside in
    let waiting = map items_of c.waiting-waiting.result.now in
    let S : ExpanderState → Type 0 = λ x. IfOk c.save.result (λ v. IsSavedWith x.machine waiting v.items) → IfOk c.save.result
    (λ v. IsStateOf x.host x.machine v.items) in
    subst S c.self.view_is
    (IfOk-weaker c.save.result _ _ (λ v saved. state_fit e.patient e.shape e.room.first.items e.machine waiting v.items
    (c.in_ok-is_of_host.ensures c.if-not-branch.false) (ap (λ (m : BufferedState). m.buffers) c.waiting-waiting.ensures.state)
    c.self.invariant.shape c.self.invariant.lists saved))
    c.save.ensures
