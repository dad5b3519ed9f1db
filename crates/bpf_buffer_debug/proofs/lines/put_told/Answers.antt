use Rattle.std.proofs.Common.{◌≡◌, ℕ, List, [], ◌++◌, sym, ap, ◌∙◌, append-nil}
use Rattle.std.specs.Prelude.{string_bytes, slice_get}
use Rattle.bpf_debug.specs.Told.{told_job}
use Rattle.bpf_debug.proofs.ToldLaws.{no_cpu}
use Rattle.bpf_buffer_debug.proofs.lines.put_told.Goals as goal

pub returns-in_default-clause-text : goal.returns-in_default-clause-text
returns-in_default-clause-text c =
    let before = string_bytes c.args.out.now in
    let job = slice_get c.args.machine.now.machine.jobs c.args.job in
    let none : told_job c.args.job job ≡ [] = no_cpu c.args.job job (sym c.cpu_of.ensures ∙ c.in_default.is) in
    sym (ap (λ (text : List ℕ). before ++ text) none ∙ append-nil before)
