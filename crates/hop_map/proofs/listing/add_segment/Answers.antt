use Rattle.std.proofs.Common.{◌≡◌, ℕ, ◌+◌, ◌++◌, ◌∷◌, [], ◌≤◌, true, Option, Some, ap, sym, subst, ◌∙◌, arith}
use Rattle.hop_words.specs.declared.known.Known.{Known}
use Rattle.hop_layout.specs.declared.place.Place.{Place}
use Rattle.hop_layout.specs.Layout.{mem, is_place}
use Rattle.hop_words.proofs.Locked.{link_there}
use Rattle.hop_words.specs.Content.{item}
use Rattle.hop_words.specs.Ghost.{shape_at}
use Rattle.hop_words.specs.Rule.{image}
use Rattle.hop_words.specs.Kinds.{MayLink}
use Rattle.hop_words.specs.Locking.{lock_of, other_locks}
use Rattle.hop_words.specs.Guarded.{IsGuarded}
use Rattle.bpf_shared.specs.declared.shapes.MapShape.{MapShape}
use Rattle.hop_map.specs.Private.LockedSegment.{spelled_key}
use Rattle.hop_map.proofs.Adding.{inside, may, Passed, passed_none, passed_reached, passed_room, passed_more, passed_all, passed_most}
use Rattle.hop_map.proofs.listing.add_segment.Goals as goal

pub list-init : goal.list-init
list-init c =
    let a = c.args.table.now.about in
    let l = c.args.lane.now.known in
    let m = c.args.map in
    let s = c.args.segment in
    let o = c.requires.opens in
    let k = c.add_placed.ensures.known in
    let guard : IsGuarded a c.add_placed.new.lane.known c.head_place.result = subst (λ (x : Known). IsGuarded a x c.head_place.result)
    (sym k) (subst (IsGuarded a l) (sym c.head_place.ensures) (o.last.1, o.last.2)) in
    let word = c.read_guarded.ensures.word guard ∙ (ap (λ (x : Known). mem a.shape (lock_of x).copy c.head_place.result) k ∙ ap
    (mem a.shape (lock_of l).copy) c.head_place.ensures) in
    record {
      table = c.read_guarded.ensures.table ∙ c.add_placed.ensures.table;
      known = c.read_guarded.ensures.same ∙ k;
      list = c.add_placed.ensures.list;
      opens = o;
      passed = subst (λ (x : Option ℕ). Passed a l m s c.args.list.now.keys o c.add_placed.new.list.keys x 0)
          (sym (c.item-at.ensures ∙ ap item word)) (passed_none a l m s c.args.list.now.keys o c.add_placed.new.list.keys c.add_placed.ensures.part);
    }

pub add_key-requires-clause-element : goal.add_key-requires-clause-element
add_key-requires-clause-element c =
    let a = c.args.table.now.about in
    let l = c.args.lane.now.known in
    let i = c.list.invariant in
    let o = i.opens in
    let m = c.args.map in
    let s = c.args.segment in
    let old = c.args.list.now.keys in
    let e = c.in-Some.element in
    let at_e : Passed a l m s old o c.list.list.keys (Some e) c.list._passed = subst
    (λ (x : Option ℕ). Passed a l m s old o c.list.list.keys x c.list._passed) c.in-Some.is i.passed in
    let r = passed_reached a l m s old o c.list.list.keys e c.list._passed at_e in
    (c.requires.inside.0, inside a l m s o.shows o.last e r)

pub add_key-requires-clause-held : goal.add_key-requires-clause-held
add_key-requires-clause-held c = subst (λ (x : Known). x.locks ≡ lock_of x ∷ other_locks x) (sym c.list.invariant.known) c.requires.opens.last.0

pub add_key-requires-clause-map : goal.add_key-requires-clause-map
add_key-requires-clause-map c = subst (λ (x : Known). (lock_of x).map ≡ c.args.map) (sym c.list.invariant.known) c.requires.opens.last.1

pub add_key-requires-clause-linked : goal.add_key-requires-clause-linked
add_key-requires-clause-linked c =
    let a = c.args.table.now.about in
    let l = c.args.lane.now.known in
    let i = c.list.invariant in
    let o = i.opens in
    let m = c.args.map in
    let s = c.args.segment in
    let old = c.args.list.now.keys in
    let e = c.in-Some.element in
    let at_e : Passed a l m s old o c.list.list.keys (Some e) c.list._passed = subst
    (λ (x : Option ℕ). Passed a l m s old o c.list.list.keys x c.list._passed) c.in-Some.is i.passed in
    let r = passed_reached a l m s old o c.list.list.keys e c.list._passed at_e in
    subst (λ (x : Known). MayLink a x (lock_of x) e) (sym i.known) (may a l m s o.shows o.last e r)

pub add_key-requires-clause-room : goal.add_key-requires-clause-room
add_key-requires-clause-room c =
    let a = c.args.table.now.about in
    let l = c.args.lane.now.known in
    let i = c.list.invariant in
    let o = i.opens in
    let m = c.args.map in
    let s = c.args.segment in
    let old = c.args.list.now.keys in
    let e = c.in-Some.element in
    let at_e : Passed a l m s old o c.list.list.keys (Some e) c.list._passed = subst
    (λ (x : Option ℕ). Passed a l m s old o c.list.list.keys x c.list._passed) c.in-Some.is i.passed in
    let r = passed_reached a l m s old o c.list.list.keys e c.list._passed at_e in
    passed_room a l m s old o c.list.list.keys e c.list._passed at_e

pub read_guarded-requires-in-list-clause-there : goal.read_guarded-requires-in-list-clause-there
read_guarded-requires-in-list-clause-there c =
    let a = c.args.table.now.about in
    let l = c.args.lane.now.known in
    let i = c.list.invariant in
    let o = i.opens in
    let m = c.args.map in
    let s = c.args.segment in
    let old = c.args.list.now.keys in
    let e = c.in-Some.element in
    let at_e : Passed a l m s old o c.list.list.keys (Some e) c.list._passed = subst
    (λ (x : Option ℕ). Passed a l m s old o c.list.list.keys x c.list._passed) c.in-Some.is i.passed in
    let r = passed_reached a l m s old o c.list.list.keys e c.list._passed at_e in
    subst (λ (p : Place). is_place a.shape p ≡ true) (sym c.link_place.ensures) (link_there a m e (c.requires.inside.0, inside a l m s o.shows o.last e r))

pub list-preserved : goal.list-preserved
list-preserved c =
    let a = c.args.table.now.about in
    let l = c.args.lane.now.known in
    let i = c.list.invariant in
    let o = i.opens in
    let m = c.args.map in
    let s = c.args.segment in
    let old = c.args.list.now.keys in
    let e = c.in-Some.element in
    let at_e : Passed a l m s old o c.list.list.keys (Some e) c.list._passed = subst
    (λ (x : Option ℕ). Passed a l m s old o c.list.list.keys x c.list._passed) c.in-Some.is i.passed in
    let r = passed_reached a l m s old o c.list.list.keys e c.list._passed at_e in
    let k = c.add_key.ensures.known ∙ i.known in
    let more = c.add_key.ensures.key ∙ ap (λ (x : Known). c.list.list.keys ++ spelled_key a m (image a (lock_of x).copy) e ∷ []) i.known in
    let mine = may a l m s o.shows o.last e r in
    let guard : IsGuarded a c.add_key.new.lane.known c.link_place.result = subst (λ (x : Known). IsGuarded a x c.link_place.result) (sym k)
    (subst (IsGuarded a l) (sym c.link_place.ensures) (o.last.1, mine)) in
    let word = c.read_guarded-in-list.ensures.word guard ∙ (ap (λ (x : Known). mem a.shape (lock_of x).copy c.link_place.result) k ∙ ap
    (mem a.shape (lock_of l).copy) c.link_place.ensures) in
    record {
      table = c.read_guarded-in-list.ensures.table ∙ (c.add_key.ensures.table ∙ i.table);
      known = c.read_guarded-in-list.ensures.same ∙ k;
      list = c.add_key.ensures.list ∙ i.list;
      opens = o;
      passed = subst (λ (x : Option ℕ). Passed a l m s old o c.add_key.new.list.keys x (c.list._passed + 1))
          (sym (c.item-at-in-list.ensures ∙ ap item word)) (passed_more a l m s old o c.list.list.keys e c.list._passed at_e
          c.add_key.new.list.keys more);
    }

pub returns-in_default-clause-adds : goal.returns-in_default-clause-adds
returns-in_default-clause-adds c =
    let a = c.args.table.now.about in
    let l = c.args.lane.now.known in
    let i = c.list.invariant in
    passed_all a l c.args.map c.args.segment c.args.list.now.keys i.opens c.list.list.keys c.list._passed
    (subst (λ (x : Option ℕ). Passed a l c.args.map c.args.segment c.args.list.now.keys i.opens c.list.list.keys x c.list._passed) c.in_default.is i.passed)

pub returns-clause-adds : goal.returns-clause-adds
returns-clause-adds c =
    let a = c.args.table.now.about in
    let i = c.list.invariant in
    let most : (shape_at a c.args.map).max ≤ c.list._passed =
    (let t = c.list-test.false in let g = ap (λ (h : MapShape). h.max) c.shape_of-most.ensures.shape in omega arith) in
    passed_most a c.args.lane.now.known c.args.map c.args.segment c.args.list.now.keys i.opens c.list.list.keys c.list.at c.list._passed most i.passed
