use Rattle.std.proofs.Common.{ℕ, List, sym, ◌∙◌, map}
use Rattle.std.specs.Prelude.{string_bytes}
use Rattle.std.proofs.Common.{String, Global, Bor}
use Rattle.bpf_debug.specs.Command.{command_order}
use Rattle.bpf_debug.specs.Session.{Leaves, LeavesLine, RefusesHere, RefusesLine}
use Rattle.bpf_debug.specs.declared.error.DebugError.{DebugError}
use Rattle.bpf_debug.proofs.SessionLaws.{line_done, line_refused}
use Rattle.bpf_debug.proofs.Weaker.{ok_weaker, err_weaker}
use Rattle.bpf_debug.proofs.session.Session.obey_few.Goals as goal

pub returns-in-Some-clause-answered : goal.returns-in-Some-clause-answered
returns-in-Some-clause-answered c =
    let fields = map (λ (f : Bor (List ℕ)). f.now) c.args.fields.now in
    let order = command_order c.in-Some.command in
    let P : String Global → Type 0 = λ text. Leaves c.args.self.now order (string_bytes text) c.follow.new.self in
    let Q : String Global → Type 0 = λ text. LeavesLine c.args.self.now fields (string_bytes text) c.follow.new.self in
    ok_weaker P Q c.follow.result (λ text leaves. line_done c.args.self.now c.follow.new.self fields order (string_bytes text)
    (c.in-Some.ensures ∙ sym c.requires.few) leaves) c.follow.ensures.answered

pub returns-in-Some-clause-refused : goal.returns-in-Some-clause-refused
returns-in-Some-clause-refused c =
    let fields = map (λ (f : Bor (List ℕ)). f.now) c.args.fields.now in
    let order = command_order c.in-Some.command in
    let P : DebugError → Type 0 = λ e. RefusesHere c.args.self.now order e in
    let Q : DebugError → Type 0 = λ e. RefusesLine c.args.self.now fields e in
    err_weaker P Q c.follow.result (λ e refuses. line_refused c.args.self.now fields order e (c.in-Some.ensures ∙ sym c.requires.few)
    refuses) c.follow.ensures.refused
