use Rattle.std.proofs.Common.{option_map, subst}
use Rattle.std.specs.Prelude.{IfOk}
use Rattle.std.proofs.lemmas.Result.{IfOk-weaker}
use Rattle.bpf_expand.specs.State.{ExpanderState, IsSavedState, IsStateOf}
use Rattle.bpf_expand.proofs.Fitting.{is_state_of}
use Rattle.bpf_expand.proofs.expander.Expander.state.Goals as goal

pub returns : goal.returns
returns c =
    let e = c.self.inside in
    let S : ExpanderState → Type 0 = λ x. IfOk c.save.result (λ v. IsSavedState x.machine v.items) → IfOk c.save.result
    (λ v. IsStateOf x.host x.machine v.items) in
    subst S c.self.view_is
    (IfOk-weaker c.save.result _ _ (λ v saved. is_state_of e.patient e.shape e.machine e.room e.first.items e.numbers.items v.items
    e.jobs.items (option_map (λ v. v.items) e.read) e.is_placed c.self.invariant c.stands.ensures c.jobs_fit_bytes.ensures saved))
    c.save.ensures
