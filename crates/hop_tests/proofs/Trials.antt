-- Ports in the tests.
use Rattle.std.proofs.Common.{◌≡◌, ℕ, zero, suc, ◌+◌, List, [], ◌∷◌, All, map, ap}
use Rattle.std.proofs.lemmas.List.Elements.{All-nil, All-cons, All-head, All-tail}
use Rattle.bpf_shared.specs.History.{events_of}
use Rattle.hop_words.specs.declared.known.Known.{Known}
use Rattle.hop_words.specs.Inside.{Shown, nobody}
use Rattle.hop_words.specs.Owning.{tail_of}
use Rattle.bpf_shared.specs.Own.{in_run}
use Rattle.hop_words.specs.Opens.{new_lane, lanes_from}
use Rattle.hop_map.specs.Port.{Port, IsPortOf, known_of}
use Rattle.hop_map.specs.Stores.{ArePorts}
use Rattle.hop_tests.specs.Trial.{IsIdlePort}

abbrev first : List Known → Known
first [] = nobody
first (l ∷ ls) = l

-- a CPU that has seen nothing is in no run
idle_ports : (t : Shown) (ps : List Port) (c n : ℕ) → All (IsPortOf t) ps → map known_of ps ≡ lanes_from t.about c n → All (IsIdlePort t) ps
idle_ports t [] c n fit is = All-nil (IsIdlePort t)
idle_ports t (p ∷ ps) c zero fit is = let z = is in cc
idle_ports t (p ∷ ps) c (suc n) fit is =
    let here : p.known ≡ new_lane t.about c = ap (λ (ls : List Known). first ls) is in
    All-cons (IsIdlePort t) p ps
    (All-head (IsPortOf t) p ps fit, ap (λ (l : Known). in_run (events_of l.cpu l.seen)) here)
    (idle_ports t ps (c + 1) n (All-tail (IsPortOf t) p ps fit) (ap (λ (ls : List Known). tail_of ls) is))

pub new_ports_idle : (t : Shown) (ps : List Port) → ArePorts t ps → All (IsIdlePort t) ps
new_ports_idle t ps p = idle_ports t ps 0 t.about.shape.cpus p.each p.new
