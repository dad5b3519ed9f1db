use Rattle.std.proofs.Common.{◌≡◌, ap, sym, subst, ◌∙◌}
use Rattle.hop_layout.proofs.Maps.{map_of}
use Rattle.hop_map.specs.Port.{Port, runs, IsPortOf}
use Rattle.hop_map.proofs.Ports.{port_with, port_is, listed_fits, listed_runs}
use Rattle.hop_map.proofs.port.HopPort.keys.Goals as goal

pub list_keys-requires-clause-map : goal.list_keys-requires-clause-map
list_keys-requires-clause-map g c = (map_of c.args.table.now.about.shape c.args.map c.args.list.now.shape c.requires.list).0

pub list_keys-requires-clause-list : goal.list_keys-requires-clause-list
list_keys-requires-clause-list g c = sym (map_of c.args.table.now.about.shape c.args.map c.args.list.now.shape c.requires.list).1

pub returns-clause-fits : goal.returns-clause-fits
returns-clause-fits g c =
    let i = c.self.inside in
    let s = c.in-Some.lane in
    let p = port_with s i.arenas.items i.batches.items i.spilled in
    let t = c.args.table.now in
    let is : p ≡ c.args.self.now = sym (port_is i c.take.result s c.take.ensures.value c.in-Some.is) ∙ c.self.view_is in
    let l = c.list_keys.new.lane in
    let e = c.list_keys.ensures in
    listed_fits t p l.table l.known c.args.map c.list_keys.new.list.keys (subst (IsPortOf t) (sym is) c.requires.fits) e.table e.listed

pub returns-clause-in_run : goal.returns-clause-in_run
returns-clause-in_run g c =
    let i = c.self.inside in
    let s = c.in-Some.lane in
    let p = port_with s i.arenas.items i.batches.items i.spilled in
    let is : p ≡ c.args.self.now = sym (port_is i c.take.result s c.take.ensures.value c.in-Some.is) ∙ c.self.view_is in
    listed_runs c.args.table.now.about s.known c.list_keys.new.lane.known c.args.map c.list_keys.new.list.keys c.list_keys.ensures.listed ∙
    ap (λ (q : Port). runs q) is
