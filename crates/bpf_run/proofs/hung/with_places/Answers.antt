use Rattle.std.proofs.Common.{◌∙◌, ap, string_bytes}
use Rattle.std.specs.Option.{option_copied}
use Rattle.bpf_lines.specs.Lines.{lines_behind, lines_of}
use Rattle.bpf_run.proofs.PrintedPlaces.{no_more, one_more}
use Rattle.bpf_run.proofs.hung.with_places.Goals as goal

pub lines-preserved : goal.lines-preserved
lines-preserved c =
    one_more c.args.x86 c.args.file.now (lines_of c.args.printed.now) (lines_behind (option_copied c.lines.rest))
    (lines_behind (option_copied c.first_line.result.1)) c.first_line.result.0.now (string_bytes c.lines.text) (string_bytes c.push_line.new.text)
    c.lines.invariant (ap (λ r. lines_behind (option_copied r)) c.in-Some.is ∙ c.first_line.ensures.lines) c.in_ok-push_line.ensures

pub returns : goal.returns
returns c =
    no_more c.args.x86 c.args.file.now (lines_of c.args.printed.now) (lines_behind (option_copied c.lines.rest)) (string_bytes c.lines.text)
    c.lines.invariant (ap (λ r. lines_behind (option_copied r)) c.in_default.is)
