use Rattle.std.proofs.Common.{◌≡◌, ℕ, List, Some, sym, subst, ◌∙◌, map, rules, Bor, String, Global}
use Rattle.std.specs.Prelude.{IfOk, string_bytes}
use Rattle.bpf_debug.specs.Command.{Steps}
use Rattle.bpf_debug.proofs.Weaker.{ok_weaker}
use Rattle.bpf_buffer_debug.specs.Command.{Plain, schedule_in}
use Rattle.bpf_buffer_debug.specs.Session.{Leaves, LeavesLine}
use Rattle.bpf_buffer_debug.proofs.LineLaws.{line_done}
use Rattle.bpf_buffer_debug.proofs.session.Session.obey_schedule.Goals as goal

pub returns-clause-answered : goal.returns-clause-answered
returns-clause-answered c =
    let words = map (λ (f : Bor (List ℕ)). f.now) c.args.words.now in
    let fields = map (λ (f : Bor (List ℕ)). f.now) c.args.fields.now in
    let order = Plain (Steps c.in-Some.runs.items) in
    let said : schedule_in words ≡ Some order = search rules in
    let R : List (ℕ × ℕ) → Type 0 = λ runs. IfOk c.steps.result (λ text. Leaves c.args.self.now (Plain (Steps runs)) (string_bytes text) c.steps.new.self) in
    let P : String Global → Type 0 = λ text. Leaves c.args.self.now order (string_bytes text) c.steps.new.self in
    let Q : String Global → Type 0 = λ text. LeavesLine c.args.self.now fields (string_bytes text) c.steps.new.self in
    ok_weaker P Q c.steps.result (λ text leaves. line_done c.args.self.now c.steps.new.self fields order (string_bytes text)
    (sym (c.requires.said ∙ said)) leaves) (subst R c.deref.ensures.value c.steps.ensures.answered)
