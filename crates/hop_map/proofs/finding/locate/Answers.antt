use Rattle.std.proofs.Common.{ℕ, Option, sym, subst, arith}
use Rattle.hop_words.specs.Kinds.{found_span}
use Rattle.hop_map.specs.Private.Finding.{LooksUp}
use Rattle.hop_map.proofs.Onces.{disturbed_first, way_of, tries_none, tries_more, reading_spares}
use Rattle.hop_map.proofs.Ways.{first_stopped, first_there, first_near, first_grows}
use Rattle.hop_map.proofs.finding.locate.Goals as goal

pub read_segment-lane-requires-clause-homed : goal.read_segment-lane-requires-clause-homed
read_segment-lane-requires-clause-homed g c = record {
  home = c.homing-at.ensures.home;
  key_size = c.homing-at.ensures.key;
  small = c.homing-at.ensures.small;
  elements = c.homing-at.ensures.elements;
}

pub read_segment-lane-requires-clause-even : goal.read_segment-lane-requires-clause-even
read_segment-lane-requires-clause-even g c = let z = c.if-first-from.true in let l = c.from.ensures in omega arith

pub read_segment-lane-requires-clause-begins : goal.read_segment-lane-requires-clause-begins
read_segment-lane-requires-clause-begins g c = (
  c.args.lane.known,
  c.requires.asks,
  (first_there c.args.table.now.about c.args.lane.known c.args.map c.homing-at.result.home c.see_stamp-first.result c.first_way-way.result
      c.see_stamp-first.new.self.known c.first_way-way.ensures.inside c.first_way-way.ensures.way c.first_way-way.ensures.level
      c.first_way-way.ensures.few c.see_stamp-first.ensures.seen (let z = c.if-first-from.true in let l = c.from.ensures in omega arith)
      (let z = c.if-first-from.true in let l = c.from.ensures in let f = c.first_way-way.ensures.few in omega arith)),
)

pub returns-then-read-first-clause-found : goal.returns-then-read-first-clause-found
returns-then-read-first-clause-found g c =
    let a = c.args.table.now.about in
    let m = c.args.map in
    let key = c.args.key.now in
    let l = c.args.lane.known in
    let asks = c.requires.asks in
    let r = c.read_segment-lane in
    let e = r.ensures.same l asks (first_there c.args.table.now.about c.args.lane.known c.args.map c.homing-at.result.home
    c.see_stamp-first.result c.first_way-way.result c.see_stamp-first.new.self.known c.first_way-way.ensures.inside
    c.first_way-way.ensures.way c.first_way-way.ensures.level c.first_way-way.ensures.few c.see_stamp-first.ensures.seen
    (let z = c.if-first-from.true in let l = c.from.ensures in omega arith)
    (let z = c.if-first-from.true in let l = c.from.ensures in let f = c.first_way-way.ensures.few in omega arith)) c.if-read-first.true in
    (e.0, reading_spares a l m key 0 l (tries_none a l m key) (found_span a m r.result.1.found) r.result.0.known e.1)

pub look_again-lane-requires-clause-begins : goal.look_again-lane-requires-clause-begins
look_again-lane-requires-clause-begins g c =
    let a = c.args.table.now.about in
    let m = c.args.map in
    let key = c.args.key.now in
    let l = c.args.lane.known in
    let asks = c.requires.asks in (
      l,
      asks,
      (tries_more a l m key 0 l (tries_none a l m key) c.see_stamp-first.result c.read_segment-lane.result.1.last
          c.read_segment-lane.result.0.known (c.read_segment-lane.ensures.other l asks
          (first_there c.args.table.now.about c.args.lane.known c.args.map c.homing-at.result.home c.see_stamp-first.result
          c.first_way-way.result c.see_stamp-first.new.self.known c.first_way-way.ensures.inside c.first_way-way.ensures.way
          c.first_way-way.ensures.level c.first_way-way.ensures.few c.see_stamp-first.ensures.seen
          (let z = c.if-first-from.true in let l = c.from.ensures in omega arith)
          (let z = c.if-first-from.true in let l = c.from.ensures in let f = c.first_way-way.ensures.few in omega arith)) c.if-read-first.false)),
    )

pub returns-then-first-from-clause-found : goal.returns-then-first-from-clause-found
returns-then-first-from-clause-found g c =
    let a = c.args.table.now.about in
    let m = c.args.map in
    let key = c.args.key.now in
    let l = c.args.lane.known in
    let asks = c.requires.asks in
    let r = c.look_again-lane in
    subst (λ (f : Option ℕ). LooksUp a l m key f r.result.0.known) (sym c.item.ensures)
    (r.ensures.found l asks (tries_more a l m key 0 l (tries_none a l m key) c.see_stamp-first.result c.read_segment-lane.result.1.last
    c.read_segment-lane.result.0.known (c.read_segment-lane.ensures.other l asks
    (first_there c.args.table.now.about c.args.lane.known c.args.map c.homing-at.result.home c.see_stamp-first.result
    c.first_way-way.result c.see_stamp-first.new.self.known c.first_way-way.ensures.inside c.first_way-way.ensures.way
    c.first_way-way.ensures.level c.first_way-way.ensures.few c.see_stamp-first.ensures.seen
    (let z = c.if-first-from.true in let l = c.from.ensures in omega arith)
    (let z = c.if-first-from.true in let l = c.from.ensures in let f = c.first_way-way.ensures.few in omega arith)) c.if-read-first.false)))

pub look_again-lane-requires-then-first-eq1-clause-begins : goal.look_again-lane-requires-then-first-eq1-clause-begins
look_again-lane-requires-then-first-eq1-clause-begins g c =
    let a = c.args.table.now.about in
    let m = c.args.map in
    let key = c.args.key.now in
    let odd = c.if-first-eq1.true in
    let walked = first_stopped c.args.table.now.about c.args.lane.known c.args.map c.homing-at.result.home c.see_stamp-first.result
    c.first_way-way.result c.see_stamp-first.new.self.known c.first_way-way.ensures.inside c.first_way-way.ensures.way
    c.first_way-way.ensures.level c.first_way-way.ensures.few c.see_stamp-first.ensures.seen odd in
    let way = way_of a m c.first_way-way.result.segment c.homing-at.result.home key walked.way c.homing-at.ensures.home walked.is_way in
    let l = c.args.lane.known in (
      l,
      c.requires.asks,
      (tries_more a l m key 0 l (tries_none a l m key) c.see_stamp-first.result c.see_stamp-first.result
          c.see_stamp-first.new.self.known (disturbed_first a c.args.lane.known m c.first_way-way.result.segment c.see_stamp-first.result key
          c.requires.asks walked.way way c.see_stamp-first.new.self.known odd (walked.locked odd))),
    )

pub returns-then-first-eq1-clause-found : goal.returns-then-first-eq1-clause-found
returns-then-first-eq1-clause-found g c =
    let a = c.args.table.now.about in
    let m = c.args.map in
    let key = c.args.key.now in
    let odd = c.if-first-eq1.true in
    let walked = first_stopped c.args.table.now.about c.args.lane.known c.args.map c.homing-at.result.home c.see_stamp-first.result
    c.first_way-way.result c.see_stamp-first.new.self.known c.first_way-way.ensures.inside c.first_way-way.ensures.way
    c.first_way-way.ensures.level c.first_way-way.ensures.few c.see_stamp-first.ensures.seen odd in
    let way = way_of a m c.first_way-way.result.segment c.homing-at.result.home key walked.way c.homing-at.ensures.home walked.is_way in
    let l = c.args.lane.known in
    let r = c.look_again-lane-then-first-eq1 in
    subst (λ (f : Option ℕ). LooksUp a l m key f r.result.0.known) (sym c.item-then-first-eq1.ensures)
    (r.ensures.found l c.requires.asks (tries_more a l m key 0 l (tries_none a l m key) c.see_stamp-first.result
    c.see_stamp-first.result c.see_stamp-first.new.self.known (disturbed_first a c.args.lane.known m c.first_way-way.result.segment
    c.see_stamp-first.result key c.requires.asks walked.way way c.see_stamp-first.new.self.known odd (walked.locked odd))))

pub look_on_way-lane-requires-clause-grows : goal.look_on_way-lane-requires-clause-grows
look_on_way-lane-requires-clause-grows g c = first_grows c.args.table.now.about c.args.lane.known c.args.map c.homing-at.result.home
    c.see_stamp-first.result c.first_way-way.result c.see_stamp-first.new.self.known c.first_way-way.ensures.inside
    c.first_way-way.ensures.way c.first_way-way.ensures.level c.first_way-way.ensures.few c.see_stamp-first.ensures.seen
    (λ e. c.if-first-from.false (let z = c.if-first-eq1.false in let l = c.from.ensures in omega (arith, e)))

pub look_on_way-lane-requires-clause-begins : goal.look_on_way-lane-requires-clause-begins
look_on_way-lane-requires-clause-begins g c = (
  c.args.lane.known,
  c.requires.asks,
  (first_near c.args.table.now.about c.args.lane.known c.args.map c.homing-at.result.home c.see_stamp-first.result c.first_way-way.result
      c.see_stamp-first.new.self.known c.first_way-way.ensures.inside c.first_way-way.ensures.way c.first_way-way.ensures.level
      c.first_way-way.ensures.few c.see_stamp-first.ensures.seen (let z = c.if-first-eq1.false in omega arith)),
)

pub returns-clause-found : goal.returns-clause-found
returns-clause-found g c =
    let a = c.args.table.now.about in
    let m = c.args.map in
    let key = c.args.key.now in
    let l = c.args.lane.known in
    let asks = c.requires.asks in
    let r = c.look_on_way-lane in
    subst (λ (f : Option ℕ). LooksUp a l m key f r.result.0.known) (sym c.item-2.ensures)
    (r.ensures.found l asks (first_near c.args.table.now.about c.args.lane.known c.args.map c.homing-at.result.home
    c.see_stamp-first.result c.first_way-way.result c.see_stamp-first.new.self.known c.first_way-way.ensures.inside
    c.first_way-way.ensures.way c.first_way-way.ensures.level c.first_way-way.ensures.few c.see_stamp-first.ensures.seen
    (let z = c.if-first-eq1.false in omega arith)))
