-- A CPU lists the keys of the maps, or not: all else stays, and there is one course.
use Rattle.std.proofs.Common.{◌≡◌, ℕ, List, inl, inr, sym, ap, ◌∙◌}
use Rattle.bpf_shared.specs.Store.{Plain}
use Rattle.bpf_cpu.specs.declared.outcome.Outcome.{Outcome}
use Rattle.bpf_cpu.specs.Task.{Task, Ended}
use Rattle.bpf_machine.specs.Hands.{SomeWaits, NoneWaits, with_stage}
use Rattle.bpf_machine.specs.Headways.{with_jobs}
use Rattle.bpf_machine.specs.Schedule.{World, Lists}

-- the world as a job of its has ended, before its CPU lists
abbrev pub with_end : World → ℕ → Task → Outcome → Plain → World
with_end w j task end s = record w { store = s; jobs = with_stage w.jobs j task (Ended end) }

pub lists_jobs : (w : World) (c : ℕ) (z : World) → Lists w c z → z.jobs ≡ w.jobs
lists_jobs w c z (inl (some, same)) = ap (λ (x : World). x.jobs) same
lists_jobs w c z (inr (none, same)) = ap (λ (x : World). x.jobs) same

pub lists_store : (w : World) (c : ℕ) (z : World) → Lists w c z → z.store ≡ w.store
lists_store w c z (inl (some, same)) = ap (λ (x : World). x.store) same
lists_store w c z (inr (none, same)) = ap (λ (x : World). x.store) same

pub lists_programs : (w : World) (c : ℕ) (z : World) → Lists w c z → z.programs ≡ w.programs
lists_programs w c z (inl (some, same)) = ap (λ (x : World). x.programs) same
lists_programs w c z (inr (none, same)) = ap (λ (x : World). x.programs) same

-- over other jobs of which the same CPUs have one that waits
pub lists_along : (w : World) (c : ℕ) (z : World) (jobs : List Task) → (SomeWaits w.jobs c → SomeWaits jobs c) → (NoneWaits w.jobs c → NoneWaits jobs c)
    → Lists w c z → Lists (with_jobs w jobs) c (with_jobs z jobs)
lists_along w c z jobs some none (inl (waits, same)) = inl (some waits, ap (λ (x : World). with_jobs x jobs) same)
lists_along w c z jobs some none (inr (idle, same)) = inr (none idle, ap (λ (x : World). with_jobs x jobs) same)

pub one_list : (w : World) (c : ℕ) (y z : World) → Lists w c y → Lists w c z → y ≡ z
one_list w c y z (inl a) (inl b) = a.1 ∙ sym b.1
one_list w c y z (inl (some, a)) (inr (none, b)) = absurd (none some.0 some.1 some.2 some.3)
one_list w c y z (inr (none, a)) (inl (some, b)) = absurd (none some.0 some.1 some.2 some.3)
one_list w c y z (inr a) (inr b) = a.1 ∙ sym b.1
