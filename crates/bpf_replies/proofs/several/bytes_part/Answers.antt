use Rattle.std.proofs.Common.{◌≡◌, rules}
use Rattle.std.specs.Prelude.{IsUtf8}
use Rattle.bpf_replies.specs.Input.{RefusesInput}
use Rattle.bpf_replies.specs.declared.refusal.Refusal.TheVariants as refusal
use Rattle.bpf_replies.proofs.SeveralFiles.{of_no_text, of_text}
use Rattle.bpf_replies.proofs.several.bytes_part.Goals as goal

pub returns-in-Err : goal.returns-in-Err
returns-in-Err g c =
    let refuses : RefusesInput c.args.bytes.now refusal.NotText = search rules in
    of_no_text g.D.Racer.finds c.args.options.now c.args.file.name.now c.args.file.before c.args.bytes.now refusal.NotText c.refused_part.result
    refuses c.refused_part.ensures

pub returns-in-Ok : goal.returns-in-Ok
returns-in-Ok g c =
    let bytes = c.args.bytes.now in
    let text = c.in-Ok.text.now in
    let valid : IsUtf8 bytes = search rules in
    let same : text ≡ bytes = search rules in
    of_text g.D.Racer.finds c.args.options.now c.args.file.name.now c.args.file.before bytes text c.text_part.result c.requires.short valid
    same c.text_part.ensures
