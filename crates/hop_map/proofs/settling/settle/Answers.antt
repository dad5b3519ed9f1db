use Rattle.std.proofs.Common.{◌≡◌, ℕ, ◌+◌, ◌<◌, List, [], ◌∷◌, ◌++◌, Option, map, length, All, refl, ap, sym, subst, ◌∙◌, arith, append_assoc}
use Rattle.std.proofs.lemmas.List.{length-append}
use Rattle.std.proofs.lemmas.List.Elements.{All-nil, All-cons, All-head, All-tail, All-append}
use Rattle.hop_words.specs.declared.known.Known.{Known}
use Rattle.hop_words.specs.Inside.{Standing}
use Rattle.hop_map.specs.declared.settling.Aside.{Aside}
use Rattle.hop_map.specs.Port.{Port, known_of}
use Rattle.hop_map.specs.Private.Port.{standing_in, HasNothing}
use Rattle.hop_map.proofs.Ports.{port_is}
use Rattle.hop_map.proofs.Dealing.{map_snoc, moved_over}
use Rattle.hop_map.proofs.Settled.{aside_parts, port_parts, one_more, all_of, few_given, still_nothing, next_lane, have_seen, whole}
use Rattle.hop_map.proofs.settling.settle.Goals as goal

pub taken-init : goal.taken-init
taken-init c =
    let none = c.new-back.ensures.none in (
      c.new-back.ensures.table,
      c.into_iter-port-iterator.ensures.into_iter_gives.0,
      none,
      subst (All HasNothing) (sym none) (All-nil HasNothing),
      ap (map aside_parts) c.in_ok-asides.ensures.items,
    )

pub taken-preserved : goal.taken-preserved
taken-preserved c =
    let i = c.taken.invariant in
    let lane = c.in-Some-lane.lane in
    let port = c.in-Some.port in
    let rest = c.next.new.self.rest.items in
    let known : lane.known ≡ port.known = ap known_of (sym (port_is c.port.inside c.port.inside.lane lane refl c.in-Some-lane.is) ∙ c.port.view_is) in
    let nothing : HasNothing lane.known = subst (λ (o : Option Standing). HasNothing (standing_in o).known) c.in-Some-lane.is c.port.invariant.1 in (
      c.take.ensures.table ∙ i.0,
      append_assoc c.taken.yielded (port ∷ []) rest ∙ (ap (λ (l : List Port). c.taken.yielded ++ l) (sym c.in-Some.ensures.steps.0) ∙ i.1),
      c.take.ensures.taken ∙ (ap (λ (ls : List Known). ls ++ lane.known ∷ []) i.2 ∙
          (ap (λ (k : Known). map known_of c.taken.yielded ++ k ∷ []) known ∙ sym (map_snoc c.taken.yielded port))),
      subst (All HasNothing) (sym c.take.ensures.taken) (All-append HasNothing c.taken.back.lanes (lane.known ∷ []) i.3
          (All-cons HasNothing lane.known [] nothing (All-nil HasNothing))),
      one_more aside_parts port_parts c.taken.asides.items c.push.new.self.items c.taken.yielded _ port c.in_ok-push.ensures.items
          (ap port_parts c.port.view_is) i.4,
    )

pub given-init : goal.given-init
given-init c =
    let i = c.taken.invariant in
    let none = c.in_ok-settled.ensures.items in
    let s = c.settle.ensures.settled in (
      c.settle.ensures.table ∙ i.0,
      refl,
      ap (λ (ps : List Port). map known_of ps ++ c.settle.new.self.lanes) none,
      subst (All HasNothing) (sym s.after) (still_nothing s.log c.taken.back.lanes i.3),
      ap (map port_parts) none,
      ap length (sym none),
      subst (All (λ (p : Port). p.table ≡ c.args.table.now.id)) (sym none) (All-nil (λ (p : Port). p.table ≡ c.args.table.now.id)),
    )

pub give-lane-requires-clause-first : goal.give-lane-requires-clause-first
give-lane-requires-clause-first c =
    let i = c.taken.invariant in
    let g = c.given.invariant in
    let ports = c.args.ports.items in
    let rest = c.taken.port-iterator.rest in
    let none_left = c.in-None.ensures.steps.0 in
    let all : c.taken.yielded ≡ ports = all_of c.taken.yielded rest.items ports (omega (arith, rest.ok.0, none_left)) i.1 in
    let asides : map aside_parts c.taken.asides.items ≡ map port_parts ports = i.4 ∙ ap (map port_parts) all in
    let few : length c.given.settled.items < length ports = few_given c.given.yielded c.given.aside-iterator.rest.items c.taken.asides.items
    c.in-Some-aside.aside c.next-in-given.new.self.rest.items c.given.settled.items ports
    (g.1 ∙ c.into_iter-aside-iterator.ensures.into_iter_gives.0) c.in-Some-aside.ensures.steps.0 asides g.4 in
    let n = next_lane c.args.table.now ports c.requires c.taken.back.lanes c.settle.new.self.lanes (i.2 ∙ ap (map known_of) all)
    c.settle.ensures.settled c.given.settled.items c.given.back.lanes g.2 few in
    (n.0, n.1, n.2, n.3 ∙ sym g.5)

pub invariant_of-push : goal.invariant_of-push
invariant_of-push c = (
  refl,
  All-head HasNothing c.give-lane.result.known c.give-lane.new.self.lanes
      (subst (All HasNothing) c.give-lane.ensures.given.0 c.given.invariant.3),
)

pub overflow_add-cpu : goal.overflow_add-cpu
overflow_add-cpu c =
    let i = c.taken.invariant in
    let g = c.given.invariant in
    let ports = c.args.ports.items in
    let rest = c.taken.port-iterator.rest in
    let none_left = c.in-None.ensures.steps.0 in
    let all : c.taken.yielded ≡ ports = all_of c.taken.yielded rest.items ports (omega (arith, rest.ok.0, none_left)) i.1 in
    let asides : map aside_parts c.taken.asides.items ≡ map port_parts ports = i.4 ∙ ap (map port_parts) all in
    let few : length c.given.settled.items < length ports = few_given c.given.yielded c.given.aside-iterator.rest.items c.taken.asides.items
    c.in-Some-aside.aside c.next-in-given.new.self.rest.items c.given.settled.items ports
    (g.1 ∙ c.into_iter-aside-iterator.ensures.into_iter_gives.0) c.in-Some-aside.ensures.steps.0 asides g.4 in
    let cpus : c.cpus-few.result ≡ c.args.table.now.about.shape.cpus = c.cpus-few.ensures.cpus ∙ ap (λ a. a.shape.cpus) c.about.ensures in
    let most = c.cpus-few.ensures.in_range in
    let count = c.requires.count in
    let number = g.5 in
    omega arith

pub given-preserved : goal.given-preserved
given-preserved c =
    let g = c.given.invariant in
    let lane = c.give-lane.result in
    let aside = c.in-Some-aside.aside in
    let port : Port = record { table = lane.table; known = lane.known; arenas = aside.arenas.items; batches = aside.batches.items; spilled = aside.spilled } in
    let items : c.push-in-given.new.self.items ≡ c.given.settled.items ++ port ∷ [] = c.in_ok-push-2.ensures.items in
    let left = c.give-lane.new.self.lanes in
    let given = c.give-lane.ensures.given in
    let IsOurs : Port → Type 0 = λ p. p.table ≡ c.args.table.now.id in (
      c.give-lane.ensures.table ∙ g.0,
      append_assoc c.given.yielded (aside ∷ []) c.next-in-given.new.self.rest.items ∙
          (ap (λ (l : List Aside). c.given.yielded ++ l) (sym c.in-Some-aside.ensures.steps.0) ∙ g.1),
      ap (λ (ps : List Port). map known_of ps ++ left) items ∙ moved_over c.given.settled.items port lane.known c.given.back.lanes left
          c.settle.new.self.lanes given.0 refl g.2,
      All-tail HasNothing lane.known left (subst (All HasNothing) given.0 g.3),
      one_more port_parts aside_parts c.given.settled.items c.push-in-given.new.self.items c.given.yielded port aside items refl g.4,
      ap (λ (n : ℕ). n + 1) g.5 ∙ sym (ap length items ∙ length-append c.given.settled.items (port ∷ [])),
      subst (All IsOurs) (sym items) (All-append IsOurs c.given.settled.items (port ∷ []) g.6 (All-cons IsOurs port [] (given.1 ∙ g.0) (All-nil IsOurs))),
    )

pub returns-clause-ports : goal.returns-clause-ports
returns-clause-ports c =
    let i = c.taken.invariant in
    let g = c.given.invariant in
    let ports = c.args.ports.items in
    let rest = c.taken.port-iterator.rest in
    let none_left = c.in-None.ensures.steps.0 in
    let all : c.taken.yielded ≡ ports = all_of c.taken.yielded rest.items ports (omega (arith, rest.ok.0, none_left)) i.1 in
    let asides : map aside_parts c.taken.asides.items ≡ map port_parts ports = i.4 ∙ ap (map port_parts) all in
    let given = c.given.aside-iterator.rest in
    let none_given = c.in-None-aside.ensures.steps.0 in
    let back : c.given.yielded ≡ c.taken.asides.items = all_of c.given.yielded given.items c.taken.asides.items
    (omega (arith, given.ok.0, none_given)) (g.1 ∙ c.into_iter-aside-iterator.ensures.into_iter_gives.0) in
    have_seen c.args.table.now ports c.requires c.taken.back.lanes c.settle.new.self.lanes (i.2 ∙ ap (map known_of) all)
    c.settle.ensures.settled c.given.settled.items c.given.back.lanes g.2
    (g.4 ∙ (ap (map aside_parts) back ∙ asides)) g.6

pub returns-clause-history : goal.returns-clause-history
returns-clause-history c =
    let i = c.taken.invariant in
    let g = c.given.invariant in
    let ports = c.args.ports.items in
    let rest = c.taken.port-iterator.rest in
    let none_left = c.in-None.ensures.steps.0 in
    let all : c.taken.yielded ≡ ports = all_of c.taken.yielded rest.items ports (omega (arith, rest.ok.0, none_left)) i.1 in
    let asides : map aside_parts c.taken.asides.items ≡ map port_parts ports = i.4 ∙ ap (map port_parts) all in
    let given = c.given.aside-iterator.rest in
    let none_given = c.in-None-aside.ensures.steps.0 in
    let back : c.given.yielded ≡ c.taken.asides.items = all_of c.given.yielded given.items c.taken.asides.items
    (omega (arith, given.ok.0, none_given)) (g.1 ∙ c.into_iter-aside-iterator.ensures.into_iter_gives.0) in
    whole c.args.table.now ports c.requires c.taken.back.lanes c.settle.new.self.lanes (i.2 ∙ ap (map known_of) all)
    c.settle.ensures.settled c.given.settled.items c.given.back.lanes g.2
    (g.4 ∙ (ap (map aside_parts) back ∙ asides)) g.6
