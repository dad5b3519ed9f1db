use Rattle.std.proofs.Common.{◌≡◌, List, ℕ, ◌∷◌, Option, Result, Bor, map, sym, ap, subst, ◌∙◌, String, Global}
use Rattle.std.specs.Option.{option_copied}
use Rattle.bpf_lines.specs.Lines.{lines_behind, lines_of}
use Rattle.bpf_debug.specs.declared.error.DebugError.{DebugError}
use Rattle.bpf_debug.specs.Script.{Answer, answer_of}
use Rattle.bpf_buffer_debug.proofs.ScriptLaws.{Far, far_start, far_next, far_end, more_answers}
use Rattle.bpf_buffer_debug.proofs.script.follow_lines.Goals as goal

pub lines-init : goal.lines-init
lines-init c =
    let lines = lines_of c.args.script.now in
    let P : List (Result (String Global) DebugError) → Type 0 = λ items. Far lines c.args.session.now c.args.session.now (map answer_of items) lines in
    subst P (sym c.in_ok-answers.ensures.items) (far_start lines c.args.session.now)

pub lines-preserved : goal.lines-preserved
lines-preserved c =
    let lines = lines_of c.args.script.now in
    let old = c.args.session.now in
    let mid = c.lines.session in
    let new = c.answer.new.session in
    let line = c.first_line.result.0.now in
    let rest = lines_behind (option_copied c.first_line.result.1) in
    let before = map answer_of c.lines.answers.items in
    let cut : lines_behind (option_copied c.lines.rest) ≡ line ∷ rest = ap (λ (r : Option (Bor (List ℕ))). lines_behind (option_copied r))
    c.in-Some.is ∙ c.first_line.ensures.lines in
    let here = subst (λ (ls : List (List ℕ)). Far lines old mid before ls) cut c.lines.invariant in
    let items : map answer_of c.push.new.self.items ≡ _ = ap (map answer_of) c.in_ok-push.ensures.items
    ∙ more_answers c.lines.answers.items c.answer.result in
    subst (λ (answers : List Answer). Far lines old new answers rest) (sym items)
    (far_next lines old mid new before line rest (answer_of c.answer.result) here c.answer.ensures)

pub returns : goal.returns
returns c =
    let lines = lines_of c.args.script.now in
    let answers = map answer_of c.lines.answers.items in
    far_end lines c.args.session.now c.lines.session answers
    (subst (λ (r : Option (Bor (List ℕ))). Far lines c.args.session.now c.lines.session answers (lines_behind (option_copied r)))
    c.in_default.is c.lines.invariant)
