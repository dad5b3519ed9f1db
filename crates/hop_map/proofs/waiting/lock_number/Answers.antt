use Rattle.std.proofs.Common.{◌≡◌, ℕ, refl, sym, subst, ◌∙◌, arith}
use Rattle.hop_map.specs.Private.Listing.{ReadsMore}
use Rattle.hop_map.specs.Private.Locks.{Sought}
use Rattle.hop_map.proofs.Ways.{known, still, locks_before, sought_before}
use Rattle.hop_map.proofs.waiting.lock_number.Goals as goal

pub tries-init : goal.tries-init
tries-init g c = record { table = refl; kept = refl }

pub seek-at-requires-clause-table : goal.seek-at-requires-clause-table
seek-at-requires-clause-table g c = c.tries.invariant.table ∙ c.requires.table

pub lock-requires-clause-born : goal.lock-requires-clause-born
lock-requires-clause-born g c =
    let a = c.args.table.now.about in
    let l = c.args.lane.now.known in
    let x = c.tries.lane.known in
    let at = c.seek-at in
    let y = at.new.lane.known in
    let q = sought_before a l x c.args.map c.args.segment at.result.segment at.result.stamp y c.tries.invariant.kept at.ensures.sought in
    let kept : ReadsMore l y = still a l c.args.map c.args.segment at.result.segment at.result.stamp y q in
    let same : at.result.segment ≡ c.args.segment = omega (arith, c.if-at-segment.false) in
    known a l c.args.map c.args.segment c.args.segment at.result.stamp y (subst (λ (i : ℕ). Sought a l c.args.map c.args.segment i at.result.stamp y) same q)

pub tries-preserved-then-at-eq1 : goal.tries-preserved-then-at-eq1
tries-preserved-then-at-eq1 g c =
    let a = c.args.table.now.about in
    let l = c.args.lane.now.known in
    let x = c.tries.lane.known in
    let at = c.seek-at in
    let y = at.new.lane.known in
    let q = sought_before a l x c.args.map c.args.segment at.result.segment at.result.stamp y c.tries.invariant.kept at.ensures.sought in
    let kept : ReadsMore l y = still a l c.args.map c.args.segment at.result.segment at.result.stamp y q in
    record { table = at.ensures.table ∙ c.tries.invariant.table; kept = kept }

pub tries-preserved : goal.tries-preserved
tries-preserved g c =
    let a = c.args.table.now.about in
    let l = c.args.lane.now.known in
    let x = c.tries.lane.known in
    let at = c.seek-at in
    let y = at.new.lane.known in
    let q = sought_before a l x c.args.map c.args.segment at.result.segment at.result.stamp y c.tries.invariant.kept at.ensures.sought in
    let kept : ReadsMore l y = still a l c.args.map c.args.segment at.result.segment at.result.stamp y q in
    record {
      table = c.lock.ensures.table ∙ (at.ensures.table ∙ c.tries.invariant.table);
      kept = subst (ReadsMore l) (sym (c.if-lock.ensures.missed refl)) kept;
    }

pub returns-then-lock-clause-ends : goal.returns-then-lock-clause-ends
returns-then-lock-clause-ends g c =
    let a = c.args.table.now.about in
    let l = c.args.lane.now.known in
    let x = c.tries.lane.known in
    let at = c.seek-at in
    let y = at.new.lane.known in
    let q = sought_before a l x c.args.map c.args.segment at.result.segment at.result.stamp y c.tries.invariant.kept at.ensures.sought in
    let kept : ReadsMore l y = still a l c.args.map c.args.segment at.result.segment at.result.stamp y q in
    (at.result.stamp, locks_before a l y c.args.map c.args.segment at.result.stamp c.lock.new.self.known kept (c.if-lock.ensures.locked refl))

pub returns-then-lock-clause-table : goal.returns-then-lock-clause-table
returns-then-lock-clause-table g c = c.lock.ensures.table ∙ (c.seek-at.ensures.table ∙ c.tries.invariant.table)

pub returns-then-at-segment-clause-ends : goal.returns-then-at-segment-clause-ends
returns-then-at-segment-clause-ends g c =
    let a = c.args.table.now.about in
    let l = c.args.lane.now.known in
    let x = c.tries.lane.known in
    let at = c.seek-at in
    let y = at.new.lane.known in
    let q = sought_before a l x c.args.map c.args.segment at.result.segment at.result.stamp y c.tries.invariant.kept at.ensures.sought in
    let kept : ReadsMore l y = still a l c.args.map c.args.segment at.result.segment at.result.stamp y q in
    record { owner = at.result.segment; stamp = at.result.stamp; sought = q; other = c.if-at-segment.true }

pub returns-then-at-segment-clause-table : goal.returns-then-at-segment-clause-table
returns-then-at-segment-clause-table g c = c.seek-at.ensures.table ∙ c.tries.invariant.table
