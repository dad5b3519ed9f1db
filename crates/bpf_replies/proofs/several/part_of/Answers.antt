use Rattle.std.proofs.Common.{ℕ, List, subst}
use Rattle.std.specs.Prelude.{IfOk}
use Rattle.bpf_replies.specs.Several.{IsPart, seen}
use Rattle.bpf_replies.specs.declared.refusal.Refusal.TheVariants as refusal
use Rattle.bpf_replies.specs.declared.several.FilePart.{FilePart}
use Rattle.bpf_replies.proofs.SeveralFiles.{of_file, of_no_file}
use Rattle.bpf_replies.proofs.several.part_of.Goals as goal

pub returns-in-Ok-clause-part : goal.returns-in-Ok-clause-part
returns-in-Ok-clause-part g c =
    let P : List ℕ → FilePart → Type 0 = λ bytes p. IsPart g.D.Racer.finds c.args.options.now c.args.file.name.now c.args.file.before bytes (seen p) in
    of_file (g.R.Source.file c.args.source.now c.args.file.name.now) c.in-Ok.bytes.items c.bytes_part.result P c.in-Ok.ensures.whole
    (subst (λ (bytes : List ℕ). IfOk c.bytes_part.result (P bytes)) c.deref.ensures.value c.bytes_part.ensures)

pub returns-in-Err-clause-part : goal.returns-in-Err-clause-part
returns-in-Err-clause-part g c =
    of_no_file g.D.Racer.finds (g.R.Source.file c.args.source.now c.args.file.name.now) c.args.options.now c.args.file.name.now c.args.file.before
    (refusal.Input c.in-Err.error) c.refused_part.result c.in-Err.ensures.refused c.refused_part.ensures
