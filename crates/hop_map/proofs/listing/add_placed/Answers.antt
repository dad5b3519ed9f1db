use Rattle.std.proofs.Common.{◌≡◌, ◌++◌, ◌∷◌, [], Some, None, refl, ap, sym, subst, ◌∙◌}
use Rattle.hop_words.specs.declared.known.Known.{Known}
use Rattle.hop_layout.specs.Layout.{mem}
use Rattle.hop_words.specs.Content.{item}
use Rattle.hop_words.specs.Rule.{image}
use Rattle.hop_words.specs.Kinds.{MayLink}
use Rattle.hop_words.specs.Locking.{lock_of, other_locks}
use Rattle.hop_words.specs.Guarded.{IsGuarded}
use Rattle.hop_map.specs.Private.LockedSegment.{spelled_key}
use Rattle.hop_map.proofs.Adding.{inside, may, none_stands, place_none, place_reached, place_room, place_more}
use Rattle.hop_map.proofs.listing.add_placed.Goals as goal

pub places-init : goal.places-init
places-init c = record {
  table = refl;
  known = refl;
  list = refl;
  part = none_stands c.args.table.now.about c.args.lane.now.known c.args.map c.args.segment c.args.list.now.keys c.requires.opens;
}

pub add_key-requires-clause-element : goal.add_key-requires-clause-element
add_key-requires-clause-element c =
    let a = c.args.table.now.about in
    let l = c.args.lane.now.known in
    let o = c.requires.opens in
    let i = c.places.invariant in
    let n = c.places.place in
    let k = c.places.lane.known in
    let guard : IsGuarded a k c.slot_place.result = subst (λ (x : Known). IsGuarded a x c.slot_place.result) (sym i.known)
    (subst (IsGuarded a l) (sym c.slot_place.ensures) (o.last.1, o.last.2)) in
    let word = c.read_guarded.ensures.word guard ∙ (ap (λ (x : Known). mem a.shape (lock_of x).copy c.slot_place.result) i.known ∙ ap
    (mem a.shape (lock_of l).copy) c.slot_place.ensures) in
    let is : item ((image a (lock_of l).copy).slot c.args.map c.args.segment n) ≡ Some c.in-Some.element = ap item (sym word) ∙
    (sym c.item.ensures ∙ c.in-Some.is) in
    let r = place_reached a l c.args.map c.args.segment c.args.list.now.keys o c.places.list.keys n c.places-test.true i.part c.in-Some.element is in
    (c.requires.inside.0, inside a l c.args.map c.args.segment o.shows o.last c.in-Some.element r)

pub add_key-requires-clause-held : goal.add_key-requires-clause-held
add_key-requires-clause-held c =
    let same : c.read_guarded.new.self.known ≡ c.args.lane.now.known = c.read_guarded.ensures.same ∙ c.places.invariant.known in
    subst (λ (x : Known). x.locks ≡ lock_of x ∷ other_locks x) (sym same) c.requires.opens.last.0

pub add_key-requires-clause-map : goal.add_key-requires-clause-map
add_key-requires-clause-map c =
    let same : c.read_guarded.new.self.known ≡ c.args.lane.now.known = c.read_guarded.ensures.same ∙ c.places.invariant.known in
    subst (λ (x : Known). (lock_of x).map ≡ c.args.map) (sym same) c.requires.opens.last.1

pub add_key-requires-clause-linked : goal.add_key-requires-clause-linked
add_key-requires-clause-linked c =
    let a = c.args.table.now.about in
    let l = c.args.lane.now.known in
    let o = c.requires.opens in
    let i = c.places.invariant in
    let n = c.places.place in
    let k = c.places.lane.known in
    let guard : IsGuarded a k c.slot_place.result = subst (λ (x : Known). IsGuarded a x c.slot_place.result) (sym i.known)
    (subst (IsGuarded a l) (sym c.slot_place.ensures) (o.last.1, o.last.2)) in
    let word = c.read_guarded.ensures.word guard ∙ (ap (λ (x : Known). mem a.shape (lock_of x).copy c.slot_place.result) i.known ∙ ap
    (mem a.shape (lock_of l).copy) c.slot_place.ensures) in
    let is : item ((image a (lock_of l).copy).slot c.args.map c.args.segment n) ≡ Some c.in-Some.element = ap item (sym word) ∙
    (sym c.item.ensures ∙ c.in-Some.is) in
    let r = place_reached a l c.args.map c.args.segment c.args.list.now.keys o c.places.list.keys n c.places-test.true i.part c.in-Some.element is in
    let same : c.read_guarded.new.self.known ≡ l = c.read_guarded.ensures.same ∙ i.known in
    subst (λ (x : Known). MayLink a x (lock_of x) c.in-Some.element) (sym same) (may a l c.args.map c.args.segment o.shows o.last c.in-Some.element r)

pub add_key-requires-clause-room : goal.add_key-requires-clause-room
add_key-requires-clause-room c =
    let a = c.args.table.now.about in
    let l = c.args.lane.now.known in
    let o = c.requires.opens in
    let i = c.places.invariant in
    let n = c.places.place in
    let k = c.places.lane.known in
    let guard : IsGuarded a k c.slot_place.result = subst (λ (x : Known). IsGuarded a x c.slot_place.result) (sym i.known)
    (subst (IsGuarded a l) (sym c.slot_place.ensures) (o.last.1, o.last.2)) in
    let word = c.read_guarded.ensures.word guard ∙ (ap (λ (x : Known). mem a.shape (lock_of x).copy c.slot_place.result) i.known ∙ ap
    (mem a.shape (lock_of l).copy) c.slot_place.ensures) in
    let is : item ((image a (lock_of l).copy).slot c.args.map c.args.segment n) ≡ Some c.in-Some.element = ap item (sym word) ∙
    (sym c.item.ensures ∙ c.in-Some.is) in
    place_room a l c.args.map c.args.segment c.args.list.now.keys o c.places.list.keys n c.places-test.true i.part c.in-Some.element is

pub places-preserved : goal.places-preserved
places-preserved c =
    let a = c.args.table.now.about in
    let l = c.args.lane.now.known in
    let o = c.requires.opens in
    let i = c.places.invariant in
    let n = c.places.place in
    let k = c.places.lane.known in
    let guard : IsGuarded a k c.slot_place.result = subst (λ (x : Known). IsGuarded a x c.slot_place.result) (sym i.known)
    (subst (IsGuarded a l) (sym c.slot_place.ensures) (o.last.1, o.last.2)) in
    let word = c.read_guarded.ensures.word guard ∙ (ap (λ (x : Known). mem a.shape (lock_of x).copy c.slot_place.result) i.known ∙ ap
    (mem a.shape (lock_of l).copy) c.slot_place.ensures) in
    let is : item ((image a (lock_of l).copy).slot c.args.map c.args.segment n) ≡ Some c.in-Some.element = ap item (sym word) ∙
    (sym c.item.ensures ∙ c.in-Some.is) in
    let same : c.read_guarded.new.self.known ≡ l = c.read_guarded.ensures.same ∙ i.known in
    let more = c.add_key.ensures.key ∙ ap (λ (x : Known). c.places.list.keys ++ spelled_key a c.args.map (image a (lock_of x).copy)
    c.in-Some.element ∷ []) same in
    record {
      table = c.add_key.ensures.table ∙ (c.read_guarded.ensures.table ∙ i.table);
      known = c.add_key.ensures.known ∙ same;
      list = c.add_key.ensures.list ∙ i.list;
      part = place_more a l c.args.map c.args.segment c.args.list.now.keys o c.places.list.keys n c.places-test.true i.part
          c.in-Some.element is c.add_key.new.list.keys more;
    }

pub places-preserved-in_default : goal.places-preserved-in_default
places-preserved-in_default c =
    let a = c.args.table.now.about in
    let l = c.args.lane.now.known in
    let o = c.requires.opens in
    let i = c.places.invariant in
    let n = c.places.place in
    let k = c.places.lane.known in
    let guard : IsGuarded a k c.slot_place.result = subst (λ (x : Known). IsGuarded a x c.slot_place.result) (sym i.known)
    (subst (IsGuarded a l) (sym c.slot_place.ensures) (o.last.1, o.last.2)) in
    let word = c.read_guarded.ensures.word guard ∙ (ap (λ (x : Known). mem a.shape (lock_of x).copy c.slot_place.result) i.known ∙ ap
    (mem a.shape (lock_of l).copy) c.slot_place.ensures) in
    let is : item ((image a (lock_of l).copy).slot c.args.map c.args.segment n) ≡ None = ap item (sym word) ∙ (sym c.item.ensures ∙ c.in_default.is) in
    let same : c.read_guarded.new.self.known ≡ l = c.read_guarded.ensures.same ∙ i.known in
    record {
      table = c.read_guarded.ensures.table ∙ i.table;
      known = same;
      list = i.list;
      part = place_none a l c.args.map c.args.segment c.args.list.now.keys o c.places.list.keys n c.places-test.true i.part is;
    }
