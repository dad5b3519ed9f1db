use Rattle.std.proofs.Common.{◌≡◌, ℕ, List, Some, subst, sym, ◌∙◌, map, Bor, String, Global}
use Rattle.std.specs.Prelude.{string_bytes}
use Rattle.bpf_debug.specs.declared.error.DebugError.{DebugError}
use Rattle.bpf_debug.specs.Command.{command_order}
use Rattle.bpf_debug.proofs.Weaker.{err_weaker, ok_weaker}
use Rattle.bpf_buffer_debug.specs.declared.command.Asked.{Asked}
use Rattle.bpf_buffer_debug.specs.Command.{Plain, Flush, Buffer, asked_order, order_of}
use Rattle.bpf_buffer_debug.specs.Session.{Leaves, LeavesLine, RefusesHere, RefusesLine}
use Rattle.bpf_buffer_debug.proofs.LineLaws.{line_done, line_refused}
use Rattle.bpf_buffer_debug.proofs.session.Session.obey_few.Goals as goal

pub returns-in-Some-Plain-clause-answered : goal.returns-in-Some-Plain-clause-answered
returns-in-Some-Plain-clause-answered c =
    let fields = map (λ (f : Bor (List ℕ)). f.now) c.args.fields.now in
    let order = Plain (command_order c.in-Some-Plain.command) in
    let P : String Global → Type 0 = λ text. Leaves c.args.self.now order (string_bytes text) c.follow.new.self in
    let Q : String Global → Type 0 = λ text. LeavesLine c.args.self.now fields (string_bytes text) c.follow.new.self in
    ok_weaker P Q c.follow.result (λ text leaves. line_done c.args.self.now c.follow.new.self fields order (string_bytes text)
    (subst (λ (a : Asked). Some (asked_order a) ≡ order_of fields) c.in-Some-Plain.field-0-is
    (c.in-Some-Plain.ensures ∙ sym c.requires.few)) leaves) c.follow.ensures.answered

pub returns-in-Some-Plain-clause-refused : goal.returns-in-Some-Plain-clause-refused
returns-in-Some-Plain-clause-refused c =
    let fields = map (λ (f : Bor (List ℕ)). f.now) c.args.fields.now in
    let order = Plain (command_order c.in-Some-Plain.command) in
    let P : DebugError → Type 0 = λ e. RefusesHere c.args.self.now order e in
    let Q : DebugError → Type 0 = λ e. RefusesLine c.args.self.now fields e in
    err_weaker P Q c.follow.result (λ e refuses. line_refused c.args.self.now fields order e
    (subst (λ (a : Asked). Some (asked_order a) ≡ order_of fields) c.in-Some-Plain.field-0-is (c.in-Some-Plain.ensures ∙ sym c.requires.few))
    refuses) c.follow.ensures.refused

pub returns-in-Some-Flush-clause-answered : goal.returns-in-Some-Flush-clause-answered
returns-in-Some-Flush-clause-answered c =
    let fields = map (λ (f : Bor (List ℕ)). f.now) c.args.fields.now in
    let order = Flush c.in-Some-Flush.cpu in
    let P : String Global → Type 0 = λ text. Leaves c.args.self.now order (string_bytes text) c.flush.new.self in
    let Q : String Global → Type 0 = λ text. LeavesLine c.args.self.now fields (string_bytes text) c.flush.new.self in
    ok_weaker P Q c.flush.result (λ text leaves. line_done c.args.self.now c.flush.new.self fields order (string_bytes text)
    (subst (λ (a : Asked). Some (asked_order a) ≡ order_of fields) c.in-Some-Flush.field-0-is
    (c.in-Some-Flush.ensures ∙ sym c.requires.few)) leaves) c.flush.ensures.answered

pub returns-in-Some-Buffer-clause-answered : goal.returns-in-Some-Buffer-clause-answered
returns-in-Some-Buffer-clause-answered c =
    let fields = map (λ (f : Bor (List ℕ)). f.now) c.args.fields.now in
    let order = Buffer c.in-Some-Buffer.cpu in
    let P : String Global → Type 0 = λ text. Leaves c.args.self.now order (string_bytes text) c.args.self.now in
    let Q : String Global → Type 0 = λ text. LeavesLine c.args.self.now fields (string_bytes text) c.args.self.now in
    ok_weaker P Q c.buffer.result (λ text leaves. line_done c.args.self.now c.args.self.now fields order (string_bytes text)
    (subst (λ (a : Asked). Some (asked_order a) ≡ order_of fields) c.in-Some-Buffer.field-0-is
    (c.in-Some-Buffer.ensures ∙ sym c.requires.few)) leaves) c.buffer.ensures.answered
