use Rattle.std.proofs.Common.{map, string_bytes}
use Rattle.bpf_replies.specs.Several.{AreChecked}
use Rattle.bpf_replies.proofs.Replied.{replied}
use Rattle.bpf_replies.proofs.several.check_files.Goals as goal

pub returns : goal.returns
returns g c =
    replied (AreChecked g.D.Racer.finds c.args.options.now (g.R.Source.file c.args.source.now) (map string_bytes c.args.names.now))
    c.checked.result c.of.result c.of.ensures c.checked.ensures
