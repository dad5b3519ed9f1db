use Rattle.std.proofs.Common.{sym, subst}
use Rattle.std.specs.Prelude.{IfOk, string_bytes}
use Rattle.bpf_debug.specs.Command.{command_order}
use Rattle.bpf_debug.specs.declared.command.Command.{Command}
use Rattle.bpf_buffer_debug.specs.Command.{Plain}
use Rattle.bpf_buffer_debug.specs.Session.{Leaves}
use Rattle.bpf_buffer_debug.proofs.session.Session.follow.Goals as goal

pub returns-in-Break-clause-answered : goal.returns-in-Break-clause-answered
returns-in-Break-clause-answered c =
    let P : Command → Type 0 = λ o. IfOk c.break_cpu.result (λ text. Leaves c.args.self.now (Plain (command_order o)) (string_bytes text)
    c.break_cpu.new.self) in
    subst P (sym c.in-Break.is) c.break_cpu.ensures.answered

pub returns-in-Delete-clause-answered : goal.returns-in-Delete-clause-answered
returns-in-Delete-clause-answered c =
    let P : Command → Type 0 = λ o. IfOk c.delete.result (λ text. Leaves c.args.self.now (Plain (command_order o)) (string_bytes text) c.delete.new.self) in
    subst P (sym c.in-Delete.is) c.delete.ensures.answered

pub returns-in-Step-clause-answered : goal.returns-in-Step-clause-answered
returns-in-Step-clause-answered c =
    let P : Command → Type 0 = λ o. IfOk c.step.result (λ text. Leaves c.args.self.now (Plain (command_order o)) (string_bytes text) c.step.new.self) in
    subst P (sym c.in-Step.is) c.step.ensures.answered

pub returns-in-StepTimes-clause-answered : goal.returns-in-StepTimes-clause-answered
returns-in-StepTimes-clause-answered c =
    let P : Command → Type 0 = λ o. IfOk c.step_times.result (λ text. Leaves c.args.self.now (Plain (command_order o)) (string_bytes text)
    c.step_times.new.self) in
    subst P (sym c.in-StepTimes.is) c.step_times.ensures.answered

pub returns-in-Go-clause-answered : goal.returns-in-Go-clause-answered
returns-in-Go-clause-answered c =
    let P : Command → Type 0 = λ o. IfOk c.go.result (λ text. Leaves c.args.self.now (Plain (command_order o)) (string_bytes text) c.go.new.self) in
    subst P (sym c.in-Go.is) c.go.ensures.answered

pub returns-in-GoTo-clause-answered : goal.returns-in-GoTo-clause-answered
returns-in-GoTo-clause-answered c =
    let P : Command → Type 0 = λ o. IfOk c.go_to.result (λ text. Leaves c.args.self.now (Plain (command_order o)) (string_bytes text) c.go_to.new.self) in
    subst P (sym c.in-GoTo.is) c.go_to.ensures.answered

pub returns-in-Back-clause-answered : goal.returns-in-Back-clause-answered
returns-in-Back-clause-answered c =
    let P : Command → Type 0 = λ o. IfOk c.back.result (λ text. Leaves c.args.self.now (Plain (command_order o)) (string_bytes text) c.back.new.self) in
    subst P (sym c.in-Back.is) c.back.ensures.answered

pub returns-in-Registers-clause-answered : goal.returns-in-Registers-clause-answered
returns-in-Registers-clause-answered c =
    let P : Command → Type 0 = λ o. IfOk c.registers.result (λ text. Leaves c.args.self.now (Plain (command_order o)) (string_bytes text) c.args.self.now) in
    subst P (sym c.in-Registers.is) c.registers.ensures.answered

pub returns-in-Where-clause-answered : goal.returns-in-Where-clause-answered
returns-in-Where-clause-answered c =
    let P : Command → Type 0 = λ o. IfOk c.standing.result (λ text. Leaves c.args.self.now (Plain (command_order o)) (string_bytes text) c.args.self.now) in
    subst P (sym c.in-Where.is) c.standing.ensures.answered

pub returns-in-Memory-clause-answered : goal.returns-in-Memory-clause-answered
returns-in-Memory-clause-answered c =
    let P : Command → Type 0 = λ o. IfOk c.memory.result (λ text. Leaves c.args.self.now (Plain (command_order o)) (string_bytes text) c.memory.new.self) in
    subst P (sym c.in-Memory.is) c.memory.ensures.answered

pub returns-in-Map-clause-answered : goal.returns-in-Map-clause-answered
returns-in-Map-clause-answered c =
    let P : Command → Type 0 = λ o. IfOk c.map.result (λ text. Leaves c.args.self.now (Plain (command_order o)) (string_bytes text) c.args.self.now) in
    subst P (sym c.in-Map.is) c.map.ensures.answered

pub returns-in-Keys-clause-answered : goal.returns-in-Keys-clause-answered
returns-in-Keys-clause-answered c =
    let P : Command → Type 0 = λ o. IfOk c.keys.result (λ text. Leaves c.args.self.now (Plain (command_order o)) (string_bytes text) c.args.self.now) in
    subst P (sym c.in-Keys.is) c.keys.ensures.answered

pub returns-in-Schedule-clause-answered : goal.returns-in-Schedule-clause-answered
returns-in-Schedule-clause-answered c =
    let P : Command → Type 0 = λ o. IfOk c.schedule.result (λ text. Leaves c.args.self.now (Plain (command_order o)) (string_bytes text) c.args.self.now) in
    subst P (sym c.in-Schedule.is) c.schedule.ensures.answered

pub returns-in-Maps-clause-answered : goal.returns-in-Maps-clause-answered
returns-in-Maps-clause-answered c =
    let P : Command → Type 0 = λ o. IfOk c.maps.result (λ text. Leaves c.args.self.now (Plain (command_order o)) (string_bytes text) c.args.self.now) in
    subst P (sym c.in-Maps.is) c.maps.ensures.answered

pub returns-in-Variables-clause-answered : goal.returns-in-Variables-clause-answered
returns-in-Variables-clause-answered c =
    let P : Command → Type 0 = λ o. IfOk c.variables.result (λ text. Leaves c.args.self.now (Plain (command_order o)) (string_bytes text) c.args.self.now) in
    subst P (sym c.in-Variables.is) c.variables.ensures.answered

pub returns-in-Number-clause-answered : goal.returns-in-Number-clause-answered
returns-in-Number-clause-answered c =
    let P : Command → Type 0 = λ o. IfOk c.number.result (λ text. Leaves c.args.self.now (Plain (command_order o)) (string_bytes text) c.args.self.now) in
    subst P (sym c.in-Number.is) c.number.ensures.answered

pub returns-in-Jobs-clause-answered : goal.returns-in-Jobs-clause-answered
returns-in-Jobs-clause-answered c =
    let P : Command → Type 0 = λ o. IfOk c.jobs.result (λ text. Leaves c.args.self.now (Plain (command_order o)) (string_bytes text) c.args.self.now) in
    subst P (sym c.in-Jobs.is) c.jobs.ensures.answered

pub returns-in-Mark-clause-answered : goal.returns-in-Mark-clause-answered
returns-in-Mark-clause-answered c =
    let P : Command → Type 0 = λ o. IfOk c.mark.result (λ text. Leaves c.args.self.now (Plain (command_order o)) (string_bytes text) c.args.self.now) in
    subst P (sym c.in-Mark.is) c.mark.ensures.answered

pub returns-in-Help-clause-answered : goal.returns-in-Help-clause-answered
returns-in-Help-clause-answered c =
    let P : Command → Type 0 = λ o. IfOk c.help.result (λ text. Leaves c.args.self.now (Plain (command_order o)) (string_bytes text) c.args.self.now) in
    subst P (sym c.in-Help.is) c.help.ensures.answered

pub returns-in-Held-clause-answered : goal.returns-in-Held-clause-answered
returns-in-Held-clause-answered c =
    let P : Command → Type 0 = λ o. IfOk c.held.result (λ text. Leaves c.args.self.now (Plain (command_order o)) (string_bytes text) c.held.new.self) in
    subst P (sym c.in-Held.is) c.held.ensures.answered

pub returns-in-Nearby-clause-answered : goal.returns-in-Nearby-clause-answered
returns-in-Nearby-clause-answered c =
    let P : Command → Type 0 = λ o. IfOk c.nearby.result (λ text. Leaves c.args.self.now (Plain (command_order o)) (string_bytes text) c.args.self.now) in
    subst P (sym c.in-Nearby.is) c.nearby.ensures.answered

pub returns-in-Last-clause-answered : goal.returns-in-Last-clause-answered
returns-in-Last-clause-answered c =
    let P : Command → Type 0 = λ o. IfOk c.last.result (λ text. Leaves c.args.self.now (Plain (command_order o)) (string_bytes text)
    c.last.new.self) in
    subst P (sym c.in-Last.is) c.last.ensures.answered

pub returns-in-Show-clause-answered : goal.returns-in-Show-clause-answered
returns-in-Show-clause-answered c =
    let P : Command → Type 0 = λ o. IfOk c.show.result (λ text. Leaves c.args.self.now (Plain (command_order o)) (string_bytes text)
    c.show.new.self) in
    subst P (sym c.in-Show.is) c.show.ensures.answered

pub returns-in-Watch-clause-answered : goal.returns-in-Watch-clause-answered
returns-in-Watch-clause-answered c =
    let P : Command → Type 0 = λ o. IfOk c.watch.result (λ text. Leaves c.args.self.now (Plain (command_order o)) (string_bytes text)
    c.watch.new.self) in
    subst P (sym c.in-Watch.is) c.watch.ensures.answered

pub returns-in-WatchVariable-clause-answered : goal.returns-in-WatchVariable-clause-answered
returns-in-WatchVariable-clause-answered c =
    let P : Command → Type 0 = λ o. IfOk c.watch_variable.result (λ text. Leaves c.args.self.now (Plain (command_order o)) (string_bytes text)
    c.watch_variable.new.self) in
    subst P (sym c.in-WatchVariable.is) c.watch_variable.ensures.answered

pub returns-in-Unwatch-clause-answered : goal.returns-in-Unwatch-clause-answered
returns-in-Unwatch-clause-answered c =
    let P : Command → Type 0 = λ o. IfOk c.unwatch.result (λ text. Leaves c.args.self.now (Plain (command_order o)) (string_bytes text)
    c.unwatch.new.self) in
    subst P (sym c.in-Unwatch.is) c.unwatch.ensures.answered
