-- New ports of a store for keys and values of eight bytes.
use Rattle.std.proofs.Common.{◌≡◌, ℕ, zero, suc, ◌+◌, ◌%◌, ◌<◌, true, false, List, [], ◌∷◌, All, map, length, slice_index_or, ap, sym, subst, ◌∙◌, arith}
use Rattle.std.proofs.lemmas.Bool.Decides.{nat_tests}
use Rattle.std.proofs.lemmas.List.Elements.{All-nil, All-cons, All-head, All-tail}
use Rattle.bpf_shared.specs.declared.events.Event.{Event}
use Rattle.bpf_shared.specs.declared.events.Event.TheVariants.{Begin}
use Rattle.bpf_shared.specs.declared.shapes.MapShape.{MapShape}
use Rattle.hop_layout.specs.Layout.{no_map}
use Rattle.hop_layout.specs.declared.about.About.{About}
use Rattle.hop_words.specs.declared.known.Known.{Known}
use Rattle.hop_words.specs.Inside.{Shown, nobody}
use Rattle.hop_words.specs.Owning.{tail_of}
use Rattle.bpf_shared.specs.Own.{in_run, turns_of}
use Rattle.bpf_shared.specs.History.{events_of}
use Rattle.hop_words.specs.Opens.{new_lane, lanes_from}
use Rattle.hop_bench.specs.Trial.{IsNewPort}
use Rattle.hop_words.specs.Trial.{IsTrial}
use Rattle.hop_map.specs.Port.{Port, IsPortOf, PortDoes, runs, known_of}
use Rattle.hop_map.specs.Stores.{ArePorts}
use Rattle.hop_map.proofs.Ports.{turned}

pub runs_on : (a : About) (p q : Port) (e : Event) → PortDoes a p e q → turns_of (e ∷ []) ≡ 0 → runs p ≡ true → runs q ≡ true
runs_on a p q e d quiet is = let n = turned a p.known q.known e d.seen d.cpu in grind (arith, nat_tests)

pub begun_runs : (a : About) (p q : Port) → PortDoes a p Begin q → runs p ≡ false → runs q ≡ true
begun_runs a p q d is = let n = turned a p.known q.known Begin d.seen d.cpu in grind (arith, nat_tests)

abbrev first : List Known → Known
first [] = nobody
first (l ∷ ls) = l

-- a store of one map
pub trial_made : (a : About) (h : MapShape) → a.shape.maps ≡ h ∷ [] → h.key ≡ 8 → h.value ≡ 8 → a.count ≡ 0 → IsTrial a
trial_made a h maps key value count = record {
  map = subst (λ (gs : List MapShape). 0 < length gs) (sym maps) (omega arith);
  key = ap (λ (gs : List MapShape). (slice_index_or gs 0 no_map).key) maps ∙ key;
  value = ap (λ (gs : List MapShape). (slice_index_or gs 0 no_map).value) maps ∙ value;
  even = ap (λ (n : ℕ). n % 2) count;
}

-- a CPU that has seen nothing is in no run
idle_ports : (t : Shown) (ps : List Port) (c n : ℕ) → IsTrial t.about → All (IsPortOf t) ps → map known_of ps ≡ lanes_from t.about c n → All (IsNewPort t) ps
idle_ports t [] c n trial fit is = All-nil (IsNewPort t)
idle_ports t (p ∷ ps) c zero trial fit is = let z = is in cc
idle_ports t (p ∷ ps) c (suc n) trial fit is =
    let here : p.known ≡ new_lane t.about c = ap (λ (ls : List Known). first ls) is in
    All-cons (IsNewPort t) p ps
    (All-head (IsPortOf t) p ps fit, trial, ap (λ (l : Known). in_run (events_of l.cpu l.seen)) here)
    (idle_ports t ps (c + 1) n trial (All-tail (IsPortOf t) p ps fit) (ap (λ (ls : List Known). tail_of ls) is))

pub new_ports_are : (t : Shown) (ps : List Port) → IsTrial t.about → ArePorts t ps → All (IsNewPort t) ps
new_ports_are t ps trial p = idle_ports t ps 0 t.about.shape.cpus trial p.each p.new
