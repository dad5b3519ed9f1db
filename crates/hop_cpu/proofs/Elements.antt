-- The maps of a table, and the spans that a port's run holds.
use Rattle.std.proofs.Common.{◌≡◌, ℕ, ◌<◌, true, length, ◌==◌, arith}
use Rattle.std.proofs.lemmas.Bool.{and_parts}
use Rattle.std.proofs.lemmas.Option.{slice_get_within}
use Rattle.bpf_shared.specs.declared.events.Span.{Span}
use Rattle.bpf_shared.specs.Shape.{Shape, AreMaps, IsElement, IsShape}
use Rattle.hop_words.specs.Inside.{Shown}
use Rattle.hop_map.specs.Port.{Port, IsPortOf, port_holds}
use Rattle.hop_map.proofs.Spans.{held_spans_lie}
use Rattle.hop_cpu.specs.Serving.{serves_span}
use Rattle.hop_cpu.proofs.Calling.{with_port}

pub shape_maps : (s : Shape) → IsShape s → AreMaps s.maps
shape_maps s is m h at =
    let there : m < length s.maps = slice_get_within s.maps m h at in
    let few = is.count in
    (omega arith, is.each m h at)

pub holds_elements : (t : Shown) (q : Port) (c : ℕ) → IsPortOf t q → (p : Span) → serves_span (with_port t q) c p ≡ true → IsElement t.about.shape.maps p
holds_elements t q c fits p h = held_spans_lie t.about.shape q.known.cpu q.known.seen fits.legal p (and_parts (c == q.known.cpu) (port_holds q p) h).1
