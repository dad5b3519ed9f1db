use Rattle.std.proofs.Common.{◌∷◌, [], Option, Vec, Global, inr, refl, subst, sym}
use Rattle.std.specs.Prelude.{IfSome}
use Rattle.std.proofs.lemmas.Result.{IfOk-weaker}
use Rattle.bpf_expand.specs.declared.successor.Successor.{Successor}
use Rattle.bpf_expand.specs.State.{AreSuccessors, Host}
use Rattle.bpf_expand.proofs.calls.expand.Goals as goal

pub returns-then-is_empty-clause-found : goal.returns-then-is_empty-clause-found
returns-then-is_empty-clause-found c =
    IfOk-weaker c.put_end.result _ _
    (λ is ended there. (let e = ended there in ([], e.0 ∷ [], inr (e.0, e.1, refl, refl), c.put_end.ensures.known, e.2)))
    c.put_end.ensures.put

pub returns-clause-traced : goal.returns-clause-traced
returns-clause-traced c =
    let h : Host = c.successors.new.self.host in
    let bytes = c.args.bytes.now in
    let are : AreSuccessors h bytes c.in-Some.led.items = subst (λ (o : Option (Vec Successor Global)). IfSome o
    (λ found. AreSuccessors h bytes found.items)) c.in-Some.is
    c.in_ok-led.ensures.some in
    let here = subst (AreSuccessors h bytes) (sym c.deref.ensures.value) are in
    λ _ read first at start. (
      c.in_ok-put_found.ensures.traced h read first (λ k d less. (bytes, at, here.each k d less)) start.0,
      start.1,
    )
