use Rattle.std.proofs.Common.{◌≡◌, ℕ, ◌%◌, ◌<◌, [], ◌∷◌, refl, ap, sym, subst, ◌∙◌, arith}
use Rattle.hop_layout.specs.declared.place.Place.TheVariants.{Stamp}
use Rattle.hop_layout.specs.Layout.{power}
use Rattle.hop_words.specs.declared.known.Known.{Known}
use Rattle.hop_words.specs.Depths.{stamp_depth}
use Rattle.hop_words.specs.Sights.{look}
use Rattle.hop_words.specs.Walking.{IsNextSegment}
use Rattle.hop_map.proofs.Ways.{small, near_there, near_inside, near_born, nearer, near_stopped}
use Rattle.hop_map.proofs.finding.walk.Goals as goal

pub way-init : goal.way-init
way-init c = record { table = refl; near = λ k t. ([], t); idle = c.requires.idle; so_far = omega arith }

pub towards-requires : goal.towards-requires
towards-requires c =
    let a = c.args.table.now.about in
    let m = c.args.from.map in
    let home = c.args.from.home in
    let i = c.way.invariant in
    let b = c.requires.begins in
    let t = i.near b.0 b.1 in
    let d = c.depth_of.ensures in
    let z = small a m c.way.way.segment c.way.stamp t.1.deep in
    record {
      way = t.1.on_way;
      level = (let y = t.1.level in omega arith);
      room = subst (λ (i : ℕ). c.way.way.segment < power i) (sym d) t.1.deep.room;
      small = (let e = d in omega arith);
    }

pub returns-in_default-clause-walked : goal.returns-in_default-clause-walked
returns-in_default-clause-walked c = λ k begins.
    let a = c.args.table.now.about in
    let m = c.args.from.map in
    let home = c.args.from.home in
    let i = c.way.invariant in
    let b = c.requires.begins in
    let t = i.near b.0 b.1 in
    let d = c.depth_of.ensures in
    let u = i.near k begins in
    near_there a k m home c.way.stamp c.way.way u.0 c.way.lane.known u.1 c.requires.grows (ap (λ (i : ℕ). home % power i) (sym d) ∙ c.in_default.ensures.way)

pub see_stamp-stamp-requires-clause-inside : goal.see_stamp-stamp-requires-clause-inside
see_stamp-stamp-requires-clause-inside c =
    let a = c.args.table.now.about in
    let m = c.args.from.map in
    let home = c.args.from.home in
    let i = c.way.invariant in
    let b = c.requires.begins in
    let t = i.near b.0 b.1 in
    let d = c.depth_of.ensures in
    let e = c.in-Some.ensures.way in
    let on : IsNextSegment c.way.way (stamp_depth c.way.stamp) c.in-Some.next = subst (λ (i : ℕ). IsNextSegment c.way.way i c.in-Some.next) d e.1 in
    near_inside a b.0 m home c.way.stamp c.way.way t.0 c.way.lane.known t.1 c.in-Some.next e.0 on

pub see_stamp-stamp-requires-clause-born : goal.see_stamp-stamp-requires-clause-born
see_stamp-stamp-requires-clause-born c =
    let a = c.args.table.now.about in
    let m = c.args.from.map in
    let home = c.args.from.home in
    let i = c.way.invariant in
    let b = c.requires.begins in
    let t = i.near b.0 b.1 in
    let d = c.depth_of.ensures in
    let e = c.in-Some.ensures.way in
    let on : IsNextSegment c.way.way (stamp_depth c.way.stamp) c.in-Some.next = subst (λ (i : ℕ). IsNextSegment c.way.way i c.in-Some.next) d e.1 in
    near_born a b.0 m home c.way.stamp c.way.way t.0 c.way.lane.known t.1 c.in-Some.next e.0 on

pub returns-then-stamp-eq1-clause-walked : goal.returns-then-stamp-eq1-clause-walked
returns-then-stamp-eq1-clause-walked c = λ k begins.
    let a = c.args.table.now.about in
    let m = c.args.from.map in
    let home = c.args.from.home in
    let i = c.way.invariant in
    let b = c.requires.begins in
    let t = i.near b.0 b.1 in
    let d = c.depth_of.ensures in
    let u = i.near k begins in
    let e = c.in-Some.ensures.way in
    let on : IsNextSegment c.way.way (stamp_depth c.way.stamp) c.in-Some.next = subst (λ (i : ℕ). IsNextSegment c.way.way i c.in-Some.next) d e.1 in
    near_stopped a k m home c.way.stamp c.way.way u.0 c.way.lane.known u.1 c.in-Some.next e.0 on c.see_stamp-stamp.result
    c.see_stamp-stamp.new.self.known c.see_stamp-stamp.ensures.seen c.requires.grows c.if-stamp-eq1.true

pub way-preserved : goal.way-preserved
way-preserved c =
    let a = c.args.table.now.about in
    let m = c.args.from.map in
    let home = c.args.from.home in
    let i = c.way.invariant in
    let b = c.requires.begins in
    let t = i.near b.0 b.1 in
    let d = c.depth_of.ensures in
    let e = c.in-Some.ensures.way in
    let on : IsNextSegment c.way.way (stamp_depth c.way.stamp) c.in-Some.next = subst (λ (i : ℕ). IsNextSegment c.way.way i c.in-Some.next) d e.1 in
    let even : c.see_stamp-stamp.result % 2 ≡ 0 = (let z = c.if-stamp-eq1.false in omega arith) in
    record {
      table = c.see_stamp-stamp.ensures.table ∙ i.table;
      near = λ k begins. (let u = i.near k begins in (
        look (Stamp m c.way.way.segment) c.way.stamp ∷ u.0,
        nearer a k m home c.way.stamp
            c.way.way u.0 c.way.lane.known u.1 c.in-Some.next e.0 on c.see_stamp-stamp.result c.see_stamp-stamp.new.self.known
            c.see_stamp-stamp.ensures.seen even,
      ));
      idle = ap (λ (x : Known). x.locks) (c.see_stamp-stamp.ensures.seen.1 even) ∙ i.idle;
      so_far = (let z = on.1 in let y = on.3 in let x = i.so_far in omega arith);
    }

pub unreachable-requires : goal.unreachable-requires
unreachable-requires c =
    let i = c.way.invariant in
    let b = c.requires.begins in
    let t = i.near b.0 b.1 in
    let z = t.1.level in
    let y = i.so_far in
    let x = c.way-test.false in
    omega arith
