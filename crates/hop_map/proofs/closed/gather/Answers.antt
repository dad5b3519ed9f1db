use Rattle.std.proofs.Common.{◌≡◌, List, [], ◌∷◌, ◌++◌, Option, map, All, refl, ap, sym, subst, ◌∙◌, arith, get_or, append_assoc}
use Rattle.std.proofs.lemmas.List.{append-nil, nil_from_length, get_or_default}
use Rattle.std.proofs.lemmas.List.Elements.{All-nil, All-cons, All-append}
use Rattle.atomic_table.proofs.Lists.{at_index}
use Rattle.hop_words.specs.declared.known.Known.{Known}
use Rattle.hop_words.specs.Inside.{Standing}
use Rattle.hop_map.specs.Port.{Port, known_of}
use Rattle.hop_map.specs.Private.Port.{standing_in, IsFree}
use Rattle.hop_map.proofs.Ports.{port_is}
use Rattle.hop_map.proofs.Dealing.{map_snoc, legal_of, known_at, all_back}
use Rattle.hop_map.proofs.Dealing.{last_caused}
use Rattle.hop_map.proofs.closed.gather.Goals as goal

pub ports-preserved : goal.ports-preserved
ports-preserved c =
    let i = c.ports.invariant in
    let lane = c.in-Some-lane.lane in
    let port = c.in-Some.port in
    let rest = c.next.new.self.rest.items in
    let known : lane.known ≡ port.known = ap known_of (sym (port_is c.port.inside c.port.inside.lane lane refl c.in-Some-lane.is) ∙ c.port.view_is) in
    let free : IsFree lane.known = subst (λ (o : Option Standing). IsFree (standing_in o).known) c.in-Some-lane.is
    (c.port.invariant.1.locks, c.port.invariant.1.fresh) in (
      c.take.ensures.table ∙ i.0,
      append_assoc c.ports.yielded (port ∷ []) rest ∙ (ap (λ (l : List Port). c.ports.yielded ++ l) (sym c.in-Some.ensures.steps.0) ∙ i.1),
      c.take.ensures.taken ∙ (ap (λ (ls : List Known). ls ++ lane.known ∷ []) i.2 ∙
          (ap (λ (k : Known). map known_of c.ports.yielded ++ k ∷ []) known ∙ sym (map_snoc c.ports.yielded port))),
      subst (All IsFree) (sym c.take.ensures.taken) (All-append IsFree c.ports.back.lanes (lane.known ∷ []) i.3
          (All-cons IsFree lane.known [] free (All-nil IsFree))),
    )

pub close-rest-requires-clause-all : goal.close-rest-requires-clause-all
close-rest-requires-clause-all c =
    let i = c.ports.invariant in
    let rest = c.ports.port-iterator.rest in
    let none_left = c.in-None.ensures.steps.0 in
    let empty : rest.items ≡ [] = nil_from_length rest.items (omega (arith, rest.ok.0, none_left)) in
    let all : c.ports.yielded ≡ c.args.ports.items = sym (append-nil c.ports.yielded) ∙ (ap (λ (l : List Port). c.ports.yielded ++ l) (sym empty) ∙ i.1) in
    all_back c.args.table c.args.ports.items c.ports.back.lanes c.requires.all (i.2 ∙ ap (map known_of) all) i.3

pub returns-clause-legal : goal.returns-clause-legal
returns-clause-legal c = legal_of c.close-rest.result.about c.close-rest.result.history c.close-rest.result.words c.close-rest.ensures.whole

pub returns-clause-last : goal.returns-clause-last
returns-clause-last c = last_caused c.close-rest.result c.close-rest.ensures.whole

pub returns-clause-parts : goal.returns-clause-parts
returns-clause-parts c = λ k d inside.
    let i = c.ports.invariant in
    let rest = c.ports.port-iterator.rest in
    let none_left = c.in-None.ensures.steps.0 in
    let empty : rest.items ≡ [] = nil_from_length rest.items (omega (arith, rest.ok.0, none_left)) in
    let ports = c.args.ports.items in
    let all : c.ports.yielded ≡ ports = sym (append-nil c.ports.yielded) ∙ (ap (λ (l : List Port). c.ports.yielded ++ l) (sym empty) ∙ i.1) in
    let p = get_or ports k d in
    c.close-rest.ensures.within k p.known (known_at ports c.ports.back.lanes k p (i.2 ∙ ap (map known_of) all)
    (at_index ports k p inside (get_or_default ports k d p inside)))
