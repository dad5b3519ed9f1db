use Rattle.std.proofs.Common.{◌≡◌, ◌++◌, length}
use Rattle.std.specs.Prelude.{All}
use Rattle.std.specs.List.{flat_map}
use Rattle.bpf_helpers.specs.Saved.{span_saved, AreOnce, IsWide}
use Rattle.bpf_helpers.proofs.held.HeldSpans.read_spans.Given as goal

abbrev pub invariant-loop-number : goal.invariant-loop-number
invariant-loop-number l = record {
  count : length l.self ≡ l._number;
  once : AreOnce l.self;
  wide : All IsWide l.self;
  read : l.bytes ≡ flat_map span_saved l.self ++ l.rest;
}
