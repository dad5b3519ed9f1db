use Rattle.std.proofs.Common.{refl, ap, sym, subst, ◌∙◌}
use Rattle.bpf_shared.specs.Shape.{Shape}
use Rattle.hop_layout.specs.declared.about.About.{About}
use Rattle.hop_words.specs.Inside.{Shown}
use Rattle.hop_map.specs.Stores.{ArePorts}
use Rattle.hop_bench.proofs.Trials.{trial_made, new_ports_are}
use Rattle.hop_bench.proofs.crew.new_ports.Goals as goal

pub returns : goal.returns
returns c =
    let t = c.ports.result.0 in
    let made = c.in_ok-new.ensures.made in
    let maps = ap (λ (z : Shown). z.about.shape.maps) c.ports.ensures.table ∙
    (ap (λ (a : About). a.shape.maps) made ∙ (ap (λ (s : Shape). s.maps) c.in_ok-shape.ensures.made ∙ c.in_ok-vec.ensures.items)) in
    let count = ap (λ (z : Shown). z.about.count) c.ports.ensures.table ∙ ap (λ (a : About). a.count) made in
    new_ports_are t c.ports.result.1.items (trial_made t.about _ maps refl refl count)
    (subst (λ (z : Shown). ArePorts z c.ports.result.1.items) (sym c.ports.ensures.table) c.ports.ensures.ports)
