use Rattle.std.proofs.Common.{ℕ, Option, sym, subst}
use Rattle.std.specs.Prelude.{IfOk, string_bytes}
use Rattle.bpf_debug.specs.Command.{StepTimes}
use Rattle.bpf_debug.specs.Session.{Leaves}
use Rattle.bpf_debug.proofs.session.Session.step_times.Goals as goal

pub returns-clause-answered : goal.returns-clause-answered
returns-clause-answered c =
    let P : Option ℕ → Type 0 = λ o. IfOk c.step_times_at.result
    (λ text. Leaves c.args.self.now (StepTimes o c.args.count) (string_bytes text) c.step_times_at.new.self) in
    subst P (sym c.in-Some.ensures.some.0) c.step_times_at.ensures.answered
