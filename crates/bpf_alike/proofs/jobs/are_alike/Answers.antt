use Rattle.std.proofs.Common.{◌≡◌, ◌∙◌, ℕ, inr, refl, ap, subst}
use Rattle.bpf_cpu.specs.Task.{Stage, InHand}
use Rattle.bpf_live.specs.Alike.{AreAlike}
use Rattle.bpf_alike.specs.Worlds.{table_at}
use Rattle.bpf_alike.proofs.jobs.are_alike.Goals as goal

pub returns : goal.returns
returns c is programs program right loaded =
    let job = c.args.job.now in
    let other = c.args.other.now in
    let tables = table_at c.args.tables.now in
    let same = c.if-not-is_same_job.ensures refl in
    let s = c.are_stages_alike.ensures is in
    let here : job.stage ≡ InHand s.0 s.1 = s.3 in
    let there : other.stage ≡ InHand s.2 s.1 = s.4 in
    let whole : other ≡ record job { stage = InHand s.2 s.1 } =
    ap (λ (n : ℕ). record { cpu = n; program = other.program; budget = other.budget; stage = other.stage }) same.0
    ∙ (ap (λ (n : ℕ). record { cpu = job.cpu; program = n; budget = other.budget; stage = other.stage }) same.1
    ∙ (ap (λ (n : ℕ). record { cpu = job.cpu; program = job.program; budget = n; stage = other.stage }) same.2 ∙ ap
    (λ (t : Stage). record job { stage = t }) there)) in
    let alike : AreAlike program (tables job.program) s.0 s.2 = subst (λ (n : ℕ). AreAlike program (tables n) s.0 s.2) c.program.ensures (s.5 program) in
    inr (program, s.0, s.1, s.2, loaded, here, whole, (1, (tables job.program, s.2, right job.program program loaded, alike, refl)))
