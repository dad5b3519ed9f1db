use Rattle.std.proofs.Common.{◌≡◌, ℕ, List, Some, sym, subst, ◌∙◌, map, rules}
use Rattle.std.specs.Prelude.{IfOk, IfErr, string_bytes}
use Rattle.std.proofs.Common.{String, Global, Bor}
use Rattle.bpf_debug.specs.Command.{Steps, schedule_in}
use Rattle.bpf_debug.specs.Session.{Leaves, LeavesLine, RefusesHere, RefusesLine}
use Rattle.bpf_debug.specs.declared.error.DebugError.{DebugError}
use Rattle.bpf_debug.proofs.SessionLaws.{line_done, line_refused}
use Rattle.bpf_debug.proofs.Weaker.{ok_weaker, err_weaker}
use Rattle.bpf_debug.proofs.session.Session.obey_schedule.Goals as goal

pub returns-clause-answered : goal.returns-clause-answered
returns-clause-answered c =
    let words = map (λ (f : Bor (List ℕ)). f.now) c.args.words.now in
    let fields = map (λ (f : Bor (List ℕ)). f.now) c.args.fields.now in
    let order = Steps c.in-Some.runs.items in
    let said : schedule_in words ≡ Some order = search rules in
    let R : List (ℕ × ℕ) → Type 0 = λ runs. IfOk c.steps.result (λ text. Leaves c.args.self.now (Steps runs) (string_bytes text) c.steps.new.self) in
    let P : String Global → Type 0 = λ text. Leaves c.args.self.now order (string_bytes text) c.steps.new.self in
    let Q : String Global → Type 0 = λ text. LeavesLine c.args.self.now fields (string_bytes text) c.steps.new.self in
    ok_weaker P Q c.steps.result (λ text leaves. line_done c.args.self.now c.steps.new.self fields order (string_bytes text)
    (sym (c.requires.said ∙ said)) leaves) (subst R c.deref.ensures.value c.steps.ensures.answered)

pub returns-clause-refused : goal.returns-clause-refused
returns-clause-refused c =
    let words = map (λ (f : Bor (List ℕ)). f.now) c.args.words.now in
    let fields = map (λ (f : Bor (List ℕ)). f.now) c.args.fields.now in
    let order = Steps c.in-Some.runs.items in
    let said : schedule_in words ≡ Some order = search rules in
    let R : List (ℕ × ℕ) → Type 0 = λ runs. IfErr c.steps.result (λ e. RefusesHere c.args.self.now (Steps runs) e) in
    let P : DebugError → Type 0 = λ e. RefusesHere c.args.self.now order e in
    let Q : DebugError → Type 0 = λ e. RefusesLine c.args.self.now fields e in
    err_weaker P Q c.steps.result (λ e refuses. line_refused c.args.self.now fields order e (sym (c.requires.said ∙ said)) refuses)
    (subst R c.deref.ensures.value c.steps.ensures.refused)
