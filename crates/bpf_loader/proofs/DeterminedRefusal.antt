-- A list has one first refusal at most.
use Rattle.std.proofs.Common.{◌≡◌, ℕ, ◌≤◌, List, sym, ap, ◌∙◌, arith}
use Rattle.bpf_loader.specs.declared.named.Named.{Named}
use Rattle.bpf_insn.specs.declared.instruction.Insn.{Insn}
use Rattle.bpf_loader.specs.declared.refusal.LoadError.{LoadError}
use Rattle.bpf_loader.specs.Sound.{IsFirstRefusal, refusal_number, place}
use Rattle.bpf_loader.specs.Laws.{FirstIsDetermined}
use Rattle.bpf_loader.proofs.CheckLemmas.{error_at, error_at_code}

one_first : (named : Named) (is : List Insn) (e f : LoadError) → IsFirstRefusal named is e → IsFirstRefusal named is f → e ≡ f
one_first named is e f x y =
    let low : place e ≤ place f = x.first.lowest f y.first.applies in
    let high : place f ≤ place e = y.first.lowest e x.first.applies in
    let at : place e ≡ place f = omega arith in
    let least : refusal_number e ≤ refusal_number f = x.first.least f y.first.applies (sym at) in
    let most : refusal_number f ≤ refusal_number e = y.first.least e x.first.applies at in
    let number : refusal_number e ≡ refusal_number f = omega arith in
    sym (error_at_code e) ∙ ap (λ (n : ℕ). error_at n (place e)) number ∙ ap (λ (n : ℕ). error_at (refusal_number f) n) at ∙ error_at_code f

pub first_is_determined : FirstIsDetermined
first_is_determined = (λ named is e f x y. one_first named is e f x y, λ named is e s x. s e x.first.applies)
