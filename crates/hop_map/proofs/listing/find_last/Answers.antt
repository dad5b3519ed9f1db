use Rattle.std.proofs.Common.{◌≡◌, ℕ, ◌+◌, ◌-◌, List, refl, ap, sym, subst, ◌∙◌, arith}
use Rattle.hop_words.specs.declared.known.Known.{Known}
use Rattle.hop_words.specs.declared.known.Lock.{Lock}
use Rattle.hop_map.specs.Private.Listing.{Covers, IsOwnedAmong}
use Rattle.hop_map.proofs.Ways.{read_on}
use Rattle.hop_map.proofs.Gathering.{covers_none}
use Rattle.hop_map.proofs.listing.find_last.Goals as goal

pub down-init : goal.down-init
down-init g c = record {
  table = refl;
  kept = refl;
  covers = (let e : c.args.count ≡ c.args.count - 0 = omega arith in subst
      (λ (i : ℕ). Covers c.args.table.now.about c.args.map i c.args.lane.now.known.locks) e c.requires.covers);
}

pub has_lock-requires-clause-table : goal.has_lock-requires-clause-table
has_lock-requires-clause-table g c = c.down.invariant.table ∙ c.requires.table

pub has_lock-requires-clause-inside : goal.has_lock-requires-clause-inside
has_lock-requires-clause-inside g c = (c.requires.map, (let z = c.requires.count in let y = c.requires.some in omega arith))

pub has_lock-requires-clause-covers : goal.has_lock-requires-clause-covers
has_lock-requires-clause-covers g c =
    let e : c.args.count - c.down.passed ≡ c.args.count - 1 - c.down.passed + 1 = omega arith in
    subst (λ (i : ℕ). Covers c.args.table.now.about c.args.map i c.down.lane.known.locks) e c.down.invariant.covers

pub down-preserved : goal.down-preserved
down-preserved g c =
    let e : c.args.count - 1 - c.down.passed ≡ c.args.count - (c.down.passed + 1) = omega arith in
    record {
      table = c.has_lock.ensures.table ∙ c.down.invariant.table;
      kept = read_on c.args.lane.now.known c.down.lane.known c.has_lock.new.lane.known c.down.invariant.kept c.has_lock.ensures.kept;
      covers = subst (λ (i : ℕ). Covers c.args.table.now.about c.args.map i c.has_lock.new.lane.known.locks) e (c.if-has_lock.ensures.none refl);
    }

pub returns-then-has_lock-clause-table : goal.returns-then-has_lock-clause-table
returns-then-has_lock-clause-table g c = c.has_lock.ensures.table ∙ c.down.invariant.table

pub returns-then-has_lock-clause-kept : goal.returns-then-has_lock-clause-kept
returns-then-has_lock-clause-kept g c = read_on c.args.lane.now.known c.down.lane.known c.has_lock.new.lane.known c.down.invariant.kept c.has_lock.ensures.kept

pub returns-then-has_lock-clause-inside : goal.returns-then-has_lock-clause-inside
returns-then-has_lock-clause-inside g c = (c.requires.map, (let z = c.requires.count in let y = c.requires.some in omega arith))

pub returns-then-has_lock-clause-last : goal.returns-then-has_lock-clause-last
returns-then-has_lock-clause-last g c = c.if-has_lock.ensures.last refl

pub returns-then-has_lock-clause-covers : goal.returns-then-has_lock-clause-covers
returns-then-has_lock-clause-covers g c =
    let e : c.args.count - c.down.passed ≡ c.args.count - 1 - c.down.passed + 1 = omega arith in
    subst (λ (ks : List Lock). Covers c.args.table.now.about c.args.map (c.args.count - 1 - c.down.passed + 1) ks)
    (sym (ap (λ (x : Known). x.locks) c.has_lock.ensures.kept))
    (subst (λ (i : ℕ). Covers c.args.table.now.about c.args.map i c.down.lane.known.locks) e c.down.invariant.covers)

pub unreachable-requires : goal.unreachable-requires
unreachable-requires g c =
    let e : c.args.count - c.down.passed ≡ 0 = (let t = c.down-test.false in omega arith) in
    let none = covers_none c.args.table.now.about c.args.map c.down.lane.known.locks
    (subst (λ (i : ℕ). Covers c.args.table.now.about c.args.map i c.down.lane.known.locks) e c.down.invariant.covers) in
    let here : IsOwnedAmong 0 c.down.lane.known.locks = subst (IsOwnedAmong 0) (sym (ap (λ (x : Known). x.locks) c.down.invariant.kept))
    (c.requires.covers.owned 0 c.requires.some) in
    subst (IsOwnedAmong 0) none here
