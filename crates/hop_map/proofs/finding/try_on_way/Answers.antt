use Rattle.std.proofs.Common.{ℕ, ap, sym, subst, ◌∙◌, arith}
use Rattle.hop_words.specs.declared.known.Known.{Known}
use Rattle.hop_map.specs.Private.Finding.{Walked}
use Rattle.hop_map.proofs.Onces.{disturbed_first, way_of}
use Rattle.hop_map.proofs.Loads.{loads_stopped}
use Rattle.hop_map.proofs.finding.try_on_way.Goals as goal

pub walk-lane-requires-clause-begins : goal.walk-lane-requires-clause-begins
walk-lane-requires-clause-begins c = (c.requires.begins.0, c.requires.begins.2)

pub walk-lane-requires-clause-idle : goal.walk-lane-requires-clause-idle
walk-lane-requires-clause-idle c =
    let (l, asks, near) = c.requires.begins in
    ap (λ (z : Known). z.locks) near.after ∙ asks.locks

pub returns-then-stamp-eq1-clause-ends : goal.returns-then-stamp-eq1-clause-ends
returns-then-stamp-eq1-clause-ends c = λ l asks near.
    let a = c.args.table.now.about in
    let m = c.args.from.map in
    let key = c.args.key.now in
    let w = c.walk-lane in
    let walked = w.ensures.walked l near in
    let way = way_of a m w.result.1 c.args.from.home key walked.way c.requires.home walked.is_way in
    disturbed_first a l m w.result.1 w.result.2 key asks walked.way way w.result.0.known c.if-stamp-eq1.true (walked.locked c.if-stamp-eq1.true)

pub returns-then-stamp-eq1-clause-loads : goal.returns-then-stamp-eq1-clause-loads
returns-then-stamp-eq1-clause-loads c = λ l asks near.
    let w = c.walk-lane in
    loads_stopped c.args.table.now.about l c.args.from.map c.args.from.home w.result.1 w.result.2 w.result.0.known
    (w.ensures.walked l near) c.if-stamp-eq1.true

pub read_segment-lane-requires-clause-homed : goal.read_segment-lane-requires-clause-homed
read_segment-lane-requires-clause-homed c = record {
  home = c.homed-at.ensures.home ∙ c.requires.home;
  key_size = c.homed-at.ensures.key;
  small = c.homed-at.ensures.small;
  elements = c.homed-at.ensures.elements;
}

pub read_segment-lane-requires-clause-even : goal.read_segment-lane-requires-clause-even
read_segment-lane-requires-clause-even c = let z = c.if-stamp-eq1.false in omega arith

pub read_segment-lane-requires-clause-begins : goal.read_segment-lane-requires-clause-begins
read_segment-lane-requires-clause-begins c =
    let (l, asks, near) = c.requires.begins in
    let w = c.walk-lane in (
      l,
      asks,
      subst (λ (h : ℕ). Walked c.args.table.now.about l c.args.from.map h w.result.1 w.result.2 w.result.0.known)
          (sym c.homed-at.ensures.home) (w.ensures.walked l near),
    )

pub returns-then-read-stamp-clause-ends : goal.returns-then-read-stamp-clause-ends
returns-then-read-stamp-clause-ends c = λ l asks near.
    let w = c.walk-lane in
    c.read_segment-lane.ensures.other l asks (subst (λ (h : ℕ). Walked c.args.table.now.about l c.args.from.map h w.result.1 w.result.2
    w.result.0.known) (sym c.homed-at.ensures.home) (w.ensures.walked l near)) c.if-read-stamp.true

pub returns-then-read-stamp-clause-loads : goal.returns-then-read-stamp-clause-loads
returns-then-read-stamp-clause-loads c = λ l asks near.
    let w = c.walk-lane in
    c.read_segment-lane.ensures.loads l asks (subst (λ (h : ℕ). Walked c.args.table.now.about l c.args.from.map h w.result.1 w.result.2
    w.result.0.known) (sym c.homed-at.ensures.home) (w.ensures.walked l near))

pub returns-clause-ends : goal.returns-clause-ends
returns-clause-ends c = λ l asks near.
    let w = c.walk-lane in
    c.read_segment-lane.ensures.same l asks (subst (λ (h : ℕ). Walked c.args.table.now.about l c.args.from.map h w.result.1 w.result.2
    w.result.0.known) (sym c.homed-at.ensures.home) (w.ensures.walked l near)) c.if-read-stamp.false

pub returns-clause-loads : goal.returns-clause-loads
returns-clause-loads c = λ l asks near.
    let w = c.walk-lane in
    c.read_segment-lane.ensures.loads l asks (subst (λ (h : ℕ). Walked c.args.table.now.about l c.args.from.map h w.result.1 w.result.2
    w.result.0.known) (sym c.homed-at.ensures.home) (w.ensures.walked l near))
