use Rattle.std.proofs.Common.{◌≡◌, ℕ, ◌+◌, ◌-◌, List, ◌∷◌, ap, sym, subst, ◌∙◌, refl, arith}
use Rattle.bpf_shared.specs.KeyOrder.{in_order}
use Rattle.hop_layout.specs.Layout.{depth, segments}
use Rattle.hop_words.specs.declared.known.Known.{Known}
use Rattle.hop_words.specs.declared.known.Lock.{Lock}
use Rattle.hop_words.specs.Ghost.{shape_at, Each}
use Rattle.hop_words.specs.Locking.{lock_of, other_locks, HasLastLock}
use Rattle.hop_words.specs.Listing.{ListsSegment, ListsMap}
use Rattle.hop_map.specs.Private.Listing.{Gathers, Covers, IsOwnedAmong, NotesLocks, LocksMore, Listed}
use Rattle.hop_map.proofs.Homes.{some_power}
use Rattle.hop_map.proofs.Gathering.{takes_one, notes_none, notes_read, locked_on, locked_read, gathers_none, covers_others, covers_none}
use Rattle.hop_map.proofs.Gathering.{lists_map, listed_whole, unlocked_on, passed_on, passed_gives, gives_on}
use Rattle.hop_map.proofs.listing.list_keys.Goals as goal

pub segments-init : goal.segments-init
segments-init g c = record {
  table = refl;
  list = c.clear.ensures.shape;
  locks = refl;
  noted = notes_none c.args.table.now.about c.args.lane.now.known c.args.map c.requires.idle;
  gathers = subst (Gathers c.args.table.now.about c.args.lane.now.known c.args.map 0) (sym c.clear.ensures.keys)
      (gathers_none c.args.table.now.about c.args.lane.now.known c.args.map c.requires.idle);
}

pub segments-preserved : goal.segments-preserved
segments-preserved g c =
    let i = c.segments.invariant in
    let before = c.segments.lane.known in
    let after = c.list_segment.new.lane.known in
    record {
      table = c.list_segment.ensures.table ∙ i.table;
      list = c.list_segment.ensures.list ∙ i.list;
      locks = locked_on c.args.lane.now.known before after i.locks c.list_segment.ensures.locks;
      noted = takes_one c.args.table.now.about c.args.map c.segments.segment c.args.lane.now.known before after i.noted c.list_segment.ensures.noted;
      gathers = c.list_segment.ensures.gathers;
    }

pub find_last-last-requires-clause-some : goal.find_last-last-requires-clause-some
find_last-last-requires-clause-some g c =
    let a = c.args.table.now.about in
    let m = c.args.map in
    let n = c.segments-count.result in
    let is : n ≡ segments (shape_at a m) = c.segments-count.ensures ∙ ap segments c.shape_of.ensures.shape in
    let some = some_power (depth (shape_at a m)) in
    omega arith

pub find_last-last-requires-clause-count : goal.find_last-last-requires-clause-count
find_last-last-requires-clause-count g c =
    let a = c.args.table.now.about in
    let m = c.args.map in
    let n = c.segments-count.result in
    let is : n ≡ segments (shape_at a m) = c.segments-count.ensures ∙ ap segments c.shape_of.ensures.shape in
    let some = some_power (depth (shape_at a m)) in
    omega arith

pub find_last-last-requires-clause-covers : goal.find_last-last-requires-clause-covers
find_last-last-requires-clause-covers g c =
    let a = c.args.table.now.about in
    let m = c.args.map in
    let n = c.segments-count.result in
    let is : n ≡ segments (shape_at a m) = c.segments-count.ensures ∙ ap segments c.shape_of.ensures.shape in
    let some = some_power (depth (shape_at a m)) in
    let t = c.segments-test.false in
    let e = c.segments.auto.segment-end in
    let all : c.segments.segment ≡ n = omega arith in
    let l0 = c.segments.lane.known in
    let g0 = subst (λ (i : ℕ). Gathers a l0 m i c.segments.list.keys) all c.segments.invariant.gathers in
    g0.covers

pub unlock_keys-requires-clause-lock : goal.unlock_keys-requires-clause-lock
unlock_keys-requires-clause-lock g c = subst (λ (l : Known). HasLastLock l c.args.map c.find_last-last.result)
    (sym c.read_locked_stamp-stamp.ensures.same) c.find_last-last.ensures.last

pub unlock_keys-requires-clause-lists : goal.unlock_keys-requires-clause-lists
unlock_keys-requires-clause-lists g c =
    let a = c.args.table.now.about in
    let m = c.args.map in
    let n = c.segments-count.result in
    let is : n ≡ segments (shape_at a m) = c.segments-count.ensures ∙ ap segments c.shape_of.ensures.shape in
    let some = some_power (depth (shape_at a m)) in
    let t = c.segments-test.false in
    let e = c.segments.auto.segment-end in
    let all : c.segments.segment ≡ n = omega arith in
    let l0 = c.segments.lane.known in
    let g0 = subst (λ (i : ℕ). Gathers a l0 m i c.segments.list.keys) all c.segments.invariant.gathers in
    let q = c.find_last-last in
    let l1 = q.new.lane.known in
    let locks : l1.locks ≡ l0.locks = ap (λ (x : Known). x.locks) q.ensures.kept in
    subst (λ (l : Known). ListsMap a l m c.segments.list.keys) (sym c.read_locked_stamp-stamp.ensures.same)
    (lists_map a l1 m q.result c.segments.list.keys c.requires.map q.ensures.last q.ensures.covers
    (subst (Each (ListsSegment a c.segments.list.keys)) (sym locks) g0.lists)
    (λ t less. subst (IsOwnedAmong t) (sym locks) (g0.covers.owned t (omega arith))))

pub others-init : goal.others-init
others-init g c =
    let a = c.args.table.now.about in
    let m = c.args.map in
    let q = c.find_last-last in
    let l1 = q.new.lane.known in
    let given = c.unlock_keys.ensures.listed in
    let locks : c.unlock_keys.new.self.known.locks ≡ other_locks l1 = ap (λ (x : Known). x.locks) given.2 ∙
    (ap (λ (x : Known). x.locks) given.1.after ∙ ap (λ (x : Known). other_locks x) c.read_locked_stamp-stamp.ensures.same) in
    let none : q.result - 0 ≡ q.result = omega arith in
    record {
      table = refl;
      covers = subst (λ (i : ℕ). Covers a m i c.unlock_keys.new.self.known.locks) (sym none)
          (subst (Covers a m q.result) (sym locks) (covers_others a l1 m q.result q.ensures.last q.ensures.covers));
      kept = refl;
      gives = refl;
    }

pub has_lock-requires-clause-inside : goal.has_lock-requires-clause-inside
has_lock-requires-clause-inside g c = (c.requires.map, (let z = c.find_last-last.ensures.inside.1 in omega arith))

pub has_lock-requires-clause-covers : goal.has_lock-requires-clause-covers
has_lock-requires-clause-covers g c =
    let a = c.args.table.now.about in
    let m = c.args.map in
    let last = c.find_last-last.result in
    let i = c.others.invariant in
    let e : last - c.others.left ≡ last - 1 - c.others.left + 1 = omega arith in
    subst (λ (j : ℕ). Covers a m j c.others.lane.known.locks) e i.covers

pub unlock_last-requires-clause-inside : goal.unlock_last-requires-clause-inside
unlock_last-requires-clause-inside g c = (c.requires.map, (let z = c.find_last-last.ensures.inside.1 in omega arith))

pub unlock_last-requires-clause-last : goal.unlock_last-requires-clause-last
unlock_last-requires-clause-last g c = c.if-not-has_lock.ensures.last refl

pub unlock_last-requires-clause-covers : goal.unlock_last-requires-clause-covers
unlock_last-requires-clause-covers g c =
    let a = c.args.table.now.about in
    let m = c.args.map in
    let last = c.find_last-last.result in
    let i = c.others.invariant in
    let e : last - c.others.left ≡ last - 1 - c.others.left + 1 = omega arith in
    subst (λ (ks : List Lock). Covers a m (last - 1 - c.others.left + 1) ks) (sym (ap (λ (x : Known). x.locks) c.has_lock.ensures.kept))
    (subst (λ (j : ℕ). Covers a m j c.others.lane.known.locks) e i.covers)

pub others-preserved : goal.others-preserved
others-preserved g c =
    let a = c.args.table.now.about in
    let m = c.args.map in
    let last = c.find_last-last.result in
    let i = c.others.invariant in
    let e : last - 1 - c.others.left ≡ last - (c.others.left + 1) = omega arith in
    record {
      table = c.unlock_last.ensures.table ∙ (c.has_lock.ensures.table ∙ i.table);
      covers = subst (λ (j : ℕ). Covers a m j c.unlock_last.new.lane.known.locks) e c.unlock_last.ensures.covers;
      kept = unlocked_on c.unlock_keys.new.self.known c.others.lane.known c.has_lock.new.lane.known c.unlock_last.new.lane.known i.kept
          c.has_lock.ensures.kept c.unlock_last.ensures.given;
      gives = gives_on c.others.lane.known c.has_lock.new.lane.known c.unlock_last.new.lane.known c.has_lock.ensures.kept
          (c.if-not-has_lock.ensures.last refl).0 c.unlock_last.ensures.given ∙ i.gives;
    }

pub others-preserved-then-not-has_lock : goal.others-preserved-then-not-has_lock
others-preserved-then-not-has_lock g c =
    let a = c.args.table.now.about in
    let m = c.args.map in
    let last = c.find_last-last.result in
    let i = c.others.invariant in
    let e : last - 1 - c.others.left ≡ last - (c.others.left + 1) = omega arith in
    record {
      table = c.has_lock.ensures.table ∙ i.table;
      covers = subst (λ (j : ℕ). Covers a m j c.has_lock.new.lane.known.locks) e (c.if-not-has_lock.ensures.none refl);
      kept = passed_on c.unlock_keys.new.self.known c.others.lane.known c.has_lock.new.lane.known i.kept c.has_lock.ensures.kept;
      gives = passed_gives c.others.lane.known c.has_lock.new.lane.known c.has_lock.ensures.kept ∙ i.gives;
    }

pub returns-clause-listed : goal.returns-clause-listed
returns-clause-listed g c =
    let a = c.args.table.now.about in
    let m = c.args.map in
    let n = c.segments-count.result in
    let is : n ≡ segments (shape_at a m) = c.segments-count.ensures ∙ ap segments c.shape_of.ensures.shape in
    let some = some_power (depth (shape_at a m)) in
    let t = c.segments-test.false in
    let e = c.segments.auto.segment-end in
    let all : c.segments.segment ≡ n = omega arith in
    let l0 = c.segments.lane.known in
    let g0 = subst (λ (i : ℕ). Gathers a l0 m i c.segments.list.keys) all c.segments.invariant.gathers in
    let q = c.find_last-last in
    let l1 = q.new.lane.known in
    let l = c.args.lane.now.known in
    let l2 = c.read_locked_stamp-stamp.new.self.known in
    let l3 = c.others.lane.known in
    let t2 = c.others-test.false in
    let e2 = c.others.auto.left-end in
    let same = c.read_locked_stamp-stamp.ensures.same in
    let locked : LocksMore l l2 = subst (LocksMore l) (sym same) (locked_read l l0 l1 c.segments.invariant.locks q.ensures.kept) in
    let none : q.result - c.others.left ≡ 0 = omega arith in
    let empty = covers_none a m l3.locks (subst (λ (i : ℕ). Covers a m i l3.locks) none c.others.invariant.covers) in
    let noted = subst (λ (x : Known). NotesLocks a l m (segments (shape_at a m)) x) (sym same)
    (notes_read a l m (segments (shape_at a m)) l0 l1 (subst (λ (i : ℕ). NotesLocks a l m i l0) (all ∙ is)
    c.segments.invariant.noted) q.ensures.kept) in
    let last = subst (λ (x : Known). x.locks ≡ lock_of x ∷ other_locks x) (sym same) q.ensures.last.0 in
    subst (λ (keys : List (List ℕ)). Listed a l m keys l3) (sym c.sort.ensures.keys)
    (listed_whole a l l2 c.unlock_keys.new.self.known l3 m (in_order c.segments.list.keys) c.requires.idle locked noted last
    c.unlock_keys.ensures.listed c.others.invariant.kept c.others.invariant.gives empty)
