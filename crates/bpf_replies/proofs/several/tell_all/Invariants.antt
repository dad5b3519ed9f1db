use Rattle.std.proofs.Common.{◌≡◌}
use Rattle.bpf_replies.specs.Several.{counted, no_part}
use Rattle.bpf_replies.proofs.SeveralFiles.{Follows}
use Rattle.bpf_replies.proofs.several.tell_all.Given as goal

abbrev pub invariant-loop-name : goal.invariant-loop-name
invariant-loop-name g l = record {
  follows : Follows g.D.Racer.finds l.options (g.R.Source.file l.initial.source) l.names l.name-index no_part (counted l.tally);
  same : g.R.Source.file l.source ≡ g.R.Source.file l.initial.source;
}
