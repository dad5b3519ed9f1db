use Rattle.std.proofs.Common.{◌≡◌, ℕ, List, Option, Ok, Err, ◌⊎◌, inl, inr, sym, ap, subst, ◌∙◌}
use Rattle.bpf_loader.specs.declared.named.Named.{Named}
use Rattle.bpf_text.specs.declared.error.TextError.{TextError}
use Rattle.bpf_text.specs.declared.error.TextError.TheVariants as text
use Rattle.bpf_text.specs.Assembly.{AssemblesWith}
use Rattle.bpf_text.specs.Symbols.{Table, names_in}
use Rattle.bpf_file.specs.declared.error.FileError.{FileError}
use Rattle.bpf_file.specs.Programs.{LoadsProgram, OfAssembly, refusal_behind}
use Rattle.bpf_file.specs.Private.Answers.{OrMemory}
use Rattle.bpf_file.proofs.Answering.{or_memory, or_right}
use Rattle.bpf_file.proofs.LineNumbers.{line_has_number}
use Rattle.bpf_file.proofs.program.of_assembly.Goals as goal

pub behind-requires : goal.behind-requires
behind-requires c =
    line_has_number (names_in c.args.symbols) c.args.text.now c.args.line c.in-Err.error c.in-Err.ensures.refused c.requires

pub returns-in-Ok : goal.returns-in-Ok
returns-in-Ok c =
    or_memory (LoadsProgram c.args.line c.args.named c.in-Ok.insns.items)
    (OfAssembly c.args.line c.args.named (names_in c.args.symbols) c.args.text.now)
    (λ r l. (Ok c.in-Ok.insns.items, c.in-Ok.ensures.assembled, l)) c.loaded.result c.loaded.ensures

-- a refusal of the text is one of the program
refused : (line : ℕ) (named : Named) (names : Option Table) (assembly : List ℕ) (e : TextError) (f : FileError) → f ≡ refusal_behind line e
    → (e ≡ text.OutOfMemory) ⊎ AssemblesWith names assembly (Err e) → OrMemory (OfAssembly line named names assembly) (Err f)
refused line named names assembly e f same (inl memory) =
    let P : FileError → Type 0 = λ g. OrMemory (OfAssembly line named names assembly) (Err g) in
    subst P (sym (same ∙ ap (refusal_behind line) memory)) tt
refused line named names assembly e f same (inr a) =
    or_right (OfAssembly line named names assembly) (Err f) (Err e, a, ap Err same)

pub returns-in-Err : goal.returns-in-Err
returns-in-Err c =
    refused c.args.line c.args.named (names_in c.args.symbols) c.args.text.now c.in-Err.error
    c.behind.result c.behind.ensures c.in-Err.ensures.refused
