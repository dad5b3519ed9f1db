use Rattle.std.proofs.Common.{◌≡◌, ℕ, false, List, Result, Ok, Err, map, ap, subst, ◌∙◌}
use Rattle.std.specs.Prelude.{IfOk, String, string_bytes}
use Rattle.std.specs.declared.alloc.Global.{Global}
use Rattle.bpf_shared.specs.Shape.{Shape}
use Rattle.bpf_pairs.specs.Pairs.{Pair, pair_of}
use Rattle.bpf_loader.specs.Loaded.{Loaded}
use Rattle.bpf_cpu.specs.Task.{Task, waiting}
use Rattle.bpf_jobs.specs.Printed.{first_world}
use Rattle.bpf_x86.specs.Machine.{drained}
use Rattle.bpf_buffering.specs.Search.{BufferedState, ShowsX86}
use Rattle.bpf_expand.specs.State.{Host}
use Rattle.bpf_expand.specs.Filter.{host_of}
use Rattle.bpf_expand.specs.Lines.{state_line}
use Rattle.bpf_buffer_expand.specs.Filter.{IsFirstLine}
use Rattle.bpf_buffer_expand.specs.State.{IsStateOf}
use Rattle.bpf_buffer_expand.proofs.filter.first_line.Goals as goal

told : {E : Type 0} (h : Shape) (pairs : List Pair) (programs : List Loaded) (jobs : List Task) (m : BufferedState) (b bytes : List ℕ)
    (r : Result (String Global) E) → ShowsX86 m (drained (first_world h pairs programs jobs)) → IsStateOf (host_of false h programs jobs) m b → bytes ≡ b
    → IfOk r (λ t. string_bytes t ≡ state_line bytes)
    → IfOk r (λ t. IsFirstLine h pairs programs jobs (string_bytes t))
told h pairs programs jobs m b bytes (Ok t) shows state same line = (m, b, shows, state, line ∙ ap state_line same)
told h pairs programs jobs m b bytes (Err e) shows state same line = tt

pub returns : goal.returns
returns c =
    let e = c.in_ok-expander.expander in
    let s = c.args.setup in
    told s.shape (map pair_of s.pairs.items) s.programs.items (map waiting s.jobs.items) e.machine c.in_ok-bytes.bytes.items
    c.deref.result.now c.state_line.result c.in_ok-expander.ensures.machine
    (subst (λ (h : Host). IsStateOf h e.machine c.in_ok-bytes.bytes.items) c.in_ok-expander.ensures.host c.in_ok-bytes.ensures)
    c.deref.ensures.value c.state_line.ensures
