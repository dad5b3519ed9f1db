use Rattle.std.proofs.Common.{◌++◌, List, [], ◌∷◌, All, map, ap, sym, subst, ◌∙◌, arith}
use Rattle.std.proofs.lemmas.List.Elements.{All-nil, All-cons, All-tail, All-append}
use Rattle.hop_words.specs.Opens.{lanes_from}
use Rattle.hop_map.specs.Port.{Port, IsPortOf, known_of}
use Rattle.hop_map.specs.Stores.{IsNewLane}
use Rattle.hop_map.proofs.Dealing.{lanes_new, moved_over}
use Rattle.hop_map.proofs.store.deal_ports.Goals as goal

pub all-init : goal.all-init
all-init c =
    let t = c.args.table.now in
    let a = t.about in
    let none = c.in_ok-ports.ensures.items in (
      c.requires.table,
      ap (λ (ps : List Port). map known_of ps ++ c.args.lanes.lanes) none ∙ c.requires.new,
      subst (All (IsNewLane a)) (sym c.requires.new) (lanes_new a 0 a.shape.cpus (omega arith)),
      subst (All (IsPortOf t)) (sym none) (All-nil (IsPortOf t)),
    )

pub all-preserved : goal.all-preserved
all-preserved c =
    let t = c.args.table.now in
    let a = t.about in
    let i = c.all.invariant in
    let lane = c.in-Some.lane in
    let rest = c.deal.new.self.lanes in
    let port = c.in_ok-new_port.field-0 in
    let ports = c.all.ports.items in
    let dealt = c.in-Some.ensures.dealt in
    let items = c.in_ok-push.ensures.items in (
      c.deal.ensures.table ∙ i.0,
      ap (λ (ps : List Port). map known_of ps ++ rest) items
          ∙ moved_over ports port lane.known c.all.lanes.lanes rest (lanes_from a 0 a.shape.cpus) dealt.0 c.in_ok-new_port.ensures.known i.1,
      All-tail (IsNewLane a) lane.known rest (subst (All (IsNewLane a)) dealt.0 i.2),
      subst (All (IsPortOf t)) (sym items) (All-append (IsPortOf t) ports (port ∷ []) i.3
          (All-cons (IsPortOf t) port [] c.in_ok-new_port.ensures.port (All-nil (IsPortOf t)))),
    )
