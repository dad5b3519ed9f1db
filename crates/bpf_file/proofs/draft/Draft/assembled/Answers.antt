use Rattle.std.proofs.Common.{Option, ap, subst, ◌∙◌}
use Rattle.std.specs.Option.{option_map}
use Rattle.bpf_loader.specs.declared.named.Named.{Named}
use Rattle.bpf_text.specs.Symbols.{Table, table_of}
use Rattle.bpf_file.specs.Programs.{OfAssembly}
use Rattle.bpf_file.specs.Symbols.{names_for}
use Rattle.bpf_file.specs.Private.Answers.{OrMemory}
use Rattle.bpf_file.specs.Private.Drafts.{part_of}
use Rattle.bpf_file.proofs.draft.Draft.assembled.Goals as goal

pub returns : goal.returns
returns c =
    let P : Named → Option Table → Type 0 = λ named names. OrMemory (OfAssembly c.args.line named names c.args.text.now) c.of_assembly.result in
    let names = ap (option_map table_of) c.as_ref.ensures.value ∙ c.in_ok-symbols.ensures.named in
    subst (λ n. P n (names_for (part_of c.args.self.now))) c.named.ensures (subst (P c.named.result) names c.of_assembly.ensures)
