use Rattle.std.proofs.Common.{refl, sym, subst, ◌∙◌, arith}
use Rattle.hop_map.specs.Private.Listing.{ReadsMore}
use Rattle.hop_map.proofs.Ways.{known, still, locks_before, sought_before}
use Rattle.hop_map.proofs.waiting.lock_home.Goals as goal

pub tries-init : goal.tries-init
tries-init g c = record { table = refl; kept = refl }

pub seek-at-requires-clause-table : goal.seek-at-requires-clause-table
seek-at-requires-clause-table g c = c.tries.invariant.table ∙ c.requires.table

pub lock-requires-clause-born : goal.lock-requires-clause-born
lock-requires-clause-born g c =
    let a = c.args.table.now.about in
    let l = c.args.lane.now.known in
    let x = c.tries.lane.known in
    let at = c.seek-at in
    let y = at.new.lane.known in
    let q = sought_before a l x c.args.map c.args.home at.result.segment at.result.stamp y c.tries.invariant.kept at.ensures.sought in
    let kept : ReadsMore l y = still a l c.args.map c.args.home at.result.segment at.result.stamp y q in
    known a l c.args.map c.args.home at.result.segment at.result.stamp y q

pub lock-requires-clause-inside : goal.lock-requires-clause-inside
lock-requires-clause-inside g c = c.seek-at.ensures.sought.inside

pub tries-preserved-then-at-eq1 : goal.tries-preserved-then-at-eq1
tries-preserved-then-at-eq1 g c =
    let a = c.args.table.now.about in
    let l = c.args.lane.now.known in
    let x = c.tries.lane.known in
    let at = c.seek-at in
    let y = at.new.lane.known in
    let q = sought_before a l x c.args.map c.args.home at.result.segment at.result.stamp y c.tries.invariant.kept at.ensures.sought in
    let kept : ReadsMore l y = still a l c.args.map c.args.home at.result.segment at.result.stamp y q in
    record { table = at.ensures.table ∙ c.tries.invariant.table; kept = kept }

pub tries-preserved : goal.tries-preserved
tries-preserved g c =
    let a = c.args.table.now.about in
    let l = c.args.lane.now.known in
    let x = c.tries.lane.known in
    let at = c.seek-at in
    let y = at.new.lane.known in
    let q = sought_before a l x c.args.map c.args.home at.result.segment at.result.stamp y c.tries.invariant.kept at.ensures.sought in
    let kept : ReadsMore l y = still a l c.args.map c.args.home at.result.segment at.result.stamp y q in
    record {
      table = c.lock.ensures.table ∙ (at.ensures.table ∙ c.tries.invariant.table);
      kept = subst (ReadsMore l) (sym (c.if-lock.ensures.missed refl)) kept;
    }

pub returns-then-lock-clause-taken : goal.returns-then-lock-clause-taken
returns-then-lock-clause-taken g c =
    let a = c.args.table.now.about in
    let l = c.args.lane.now.known in
    let x = c.tries.lane.known in
    let at = c.seek-at in
    let y = at.new.lane.known in
    let q = sought_before a l x c.args.map c.args.home at.result.segment at.result.stamp y c.tries.invariant.kept at.ensures.sought in
    let kept : ReadsMore l y = still a l c.args.map c.args.home at.result.segment at.result.stamp y q in
    record {
      inside = q.inside;
      even = (let z = c.if-at-eq1.false in omega arith);
      locked = locks_before a l y c.args.map at.result.segment at.result.stamp c.lock.new.self.known kept (c.if-lock.ensures.locked refl);
      here = q.here;
    }

pub returns-then-lock-clause-table : goal.returns-then-lock-clause-table
returns-then-lock-clause-table g c = c.lock.ensures.table ∙ (c.seek-at.ensures.table ∙ c.tries.invariant.table)
