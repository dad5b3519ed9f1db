use Rattle.std.proofs.Common.{List, map, subst}
use Rattle.bpf_text.specs.declared.assembly.Kept.{Kept}
use Rattle.bpf_text.specs.Private.Labels.{found}
use Rattle.bpf_text.specs.Symbols.{names_in}
use Rattle.bpf_text.specs.Private.Sources.{kept_view, kept_program}
use Rattle.bpf_text.proofs.Unique.{Answers, gathered_outcome, answered, answered_refusal, answered_only}
use Rattle.bpf_text.proofs.assembly.assemble_with.Goals as goal
use Rattle.bpf_text.proofs.assembly.assemble_with.Goals.{After-drop-lines}
use Rattle.bpf_text.specs.Assembly.{AssemblesWith}

-- what the lines mean is what the text stands for, and that is answered
stands_for : (c : After-drop-lines) → AssemblesWith (names_in c.args.symbols) c.args.text.now
    (kept_program (found c.in_ok-lines.labels) 0 (map kept_view c.in_ok-lines.lines.items))
stands_for c =
    gathered_outcome (names_in c.args.symbols) c.args.text.now _ _ c.in_ok-lines.ensures.gathered

is_answered : (c : After-drop-lines) → Answers (λ v. v.items) c.program.result
    (kept_program (found c.in_ok-lines.labels) 0 (map kept_view c.in_ok-lines.lines.items))
is_answered c =
    let P : List Kept → Type 0 = λ ls. Answers (λ v. v.items) c.program.result (kept_program (found c.in_ok-lines.labels) 0 (map kept_view ls)) in
    subst P c.deref.ensures.value c.program.ensures

pub returns-clause-only : goal.returns-clause-only
returns-clause-only c = λ other h. answered_only (λ v. v.items) (names_in c.args.symbols) c.args.text.now _ other c.program.result
    (stands_for c) (is_answered c) h

pub returns-clause-assembled : goal.returns-clause-assembled
returns-clause-assembled c = answered (λ v. v.items) (names_in c.args.symbols) c.args.text.now _ c.program.result (stands_for c) (is_answered c)

pub returns-clause-refused : goal.returns-clause-refused
returns-clause-refused c = answered_refusal (λ v. v.items) (names_in c.args.symbols) c.args.text.now _ c.program.result (stands_for c) (is_answered c)
