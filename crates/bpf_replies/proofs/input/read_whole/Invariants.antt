use Rattle.std.proofs.Common.{length, ◌≡◌, ◌≤◌, ◌+◌, false}
use Rattle.std.specs.Io.KnownBytes.{Consumes}
use Rattle.bpf_replies.proofs.input.read_whole.Given as goal

-- each read so far brought a byte at least
abbrev pub invariant-loop : goal.invariant-loop
invariant-loop g l = (l.counter ≤ length l.input.items) × (length l.input.items ≤ 16777216) × (length l.chunk ≡ 65536)
    × Consumes (g.R.Source.remaining l.initial.source) (g.R.Source.remaining l.source) l.input.items
    × (g.R.Source.has_failed l.source ≡ false)
    × (g.R.Source.reads l.source ≤ g.R.Source.reads l.initial.source + l.counter)
    × (g.R.Source.file l.source ≡ g.R.Source.file l.initial.source)
