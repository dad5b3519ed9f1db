-- The lines of the values that a run holds, one after the other.
use Rattle.std.proofs.Common.{◌≡◌, ℕ, suc, ◌+◌, List, ◌++◌, subst, arith}
use Rattle.bpf_shared.specs.declared.events.Span.{Span}
use Rattle.bpf_shared.specs.Store.{Plain}
use Rattle.bpf_cpu.specs.declared.cpu.Cpu.{Cpu}
use Rattle.bpf_debug.specs.Held.{IsHeldLine, TellsHeld, span_of}

pub held_more : (names : List (List ℕ)) (s : Plain) (state : Cpu) (n : ℕ) (p : Span) (old new line : List ℕ) → p ≡ span_of state.held n →
    TellsHeld names s state n old
    → IsHeldLine names s state p line → new ≡ old ++ line → TellsHeld names s state (n + 1) new
held_more names s state n p old new line is before one put =
    let all : TellsHeld names s state (suc n) new = (old, line, before, subst (λ (q : Span). IsHeldLine names s state q line) is one, put) in
    let next : suc n ≡ n + 1 = omega arith in
    subst (λ (k : ℕ). TellsHeld names s state k new) next all
