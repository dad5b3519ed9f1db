-- Calls of a CPU are the same beside other CPUs' buffers.
use Rattle.std.proofs.Common.{◌≡◌, ℕ, List, [], ◌∷◌, inl, inr, refl, sym, ap, subst, ◌∙◌}
use Rattle.bpf_shared.specs.declared.events.Event.{Event}
use Rattle.bpf_shared.specs.Store.{Plain, put}
use Rattle.bpf_shared.proofs.Puts.{equal_or_not, put-same, put-other}
use Rattle.bpf_x86.specs.Buffers.{Buffered, CallsAll}
use Rattle.bpf_x86.specs.Machine.{none_waits}
use Rattle.bpf_buffering.specs.Search.{alone, CallsAreLocal}
use Rattle.bpf_x86.proofs.Alike.{same_functions}
use Rattle.bpf_buffering.proofs.Beside.{calls_too}
use Rattle.bpf_buffering.proofs.AtLast.{calls_others}

pub all_too : (c : ℕ) (es : List Event) (b m t : Buffered) → m.memory ≡ b.memory → m.buffers c ≡ b.buffers c → CallsAll m c es t →
    (u : Buffered) × CallsAll b c es u × (u.memory ≡ t.memory) × (u.buffers c ≡ t.buffers c)
all_too c [] b m t memory own calls = (b, refl, sym (ap (λ (z : Buffered). z.memory) calls ∙ memory), sym (ap (λ (z : Buffered). z.buffers c) calls ∙ own))
all_too c (e ∷ es) b m t memory own calls =
    let first = calls_too b m c memory own e calls.0 calls.1 in
    let rest = all_too c es first.0 calls.0 t (sym first.2) (sym first.3) calls.2 in
    (rest.0, (first.0, first.1, rest.1), rest.2, rest.3)

pub calls_are_local : CallsAreLocal
calls_are_local s t c es events fs others is calls =
    let b : Buffered = record { memory = s; buffers = others } in
    let r = all_too c events b (alone s c es) (alone t c fs) refl (put-same none_waits c c es refl ∙ sym is) calls in
    let buffers : r.0.buffers ≡ put others c fs = same_functions r.0.buffers (put others c fs) (λ k. elim (equal_or_not k c) [
      | inl same ↦ ap r.0.buffers same ∙ r.3 ∙ put-same none_waits c c fs refl ∙ sym (put-same others c k fs same)
      | inr ne ↦ calls_others c k ne events b r.0 r.1 ∙ sym (put-other others c k fs ne)
    ]) in
    let one : r.0 ≡ record { memory = t; buffers = put others c fs } =
    ap (λ (p : Plain). record { memory = p; buffers = r.0.buffers }) r.2 ∙ ap (λ (f : ℕ → List Event). record { memory = t; buffers = f }) buffers in
    subst (CallsAll b c events) one r.1
