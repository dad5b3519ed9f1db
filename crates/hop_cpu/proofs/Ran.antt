-- A whole job, from what a run over any shared store promises.
use Rattle.std.proofs.Common.{◌≡◌, ℕ, Bool, false, List, ◌==◌, ◌&&◌, ap, sym, subst, ◌∙◌, refl, eq-eqb}
use Rattle.bpf_shared.specs.declared.events.Event.{Event}
use Rattle.bpf_shared.specs.Chain.{Chain}
use Rattle.bpf_shared.specs.History.{IsLegal}
use Rattle.bpf_loader.specs.Loaded.{Loaded}
use Rattle.bpf_cpu.specs.declared.cpu.Cpu.{Cpu}
use Rattle.bpf_cpu.specs.declared.outcome.Outcome.{Outcome}
use Rattle.bpf_cpu.specs.Step.{Explains}
use Rattle.hop_words.specs.Inside.{Shown}
use Rattle.hop_map.specs.Port.{Port, runs}
use Rattle.hop_cpu.specs.Serving.{Serving, serves, running, IsPortWorn}
use Rattle.hop_cpu.specs.Passing.{ExtendsHistory}
use Rattle.hop_cpu.specs.Running.{RanJob}
use Rattle.hop_cpu.proofs.Calling.{own_value, and_false}

pub ran : (x y : Serving) (t : Shown) (p : Port) (program : Loaded) (budget : ℕ) (first : Cpu) (end : Outcome) → record
    { table = t; port = p } ≡ y → IsLegal t.about.shape p.known.seen
    → ((events : List Event) × Chain ExtendsHistory serves first.number x y events × Explains (IsPortWorn x first.number)
    x.table.about.shape program budget first events end)
    → RanJob x y program budget first end
ran x y t p program budget first end is legal (events, chain, explains) =
    let last : IsLegal y.table.about.shape y.port.known.seen = subst (λ (z : Serving). IsLegal z.table.about.shape z.port.known.seen) is legal in record {
      table = chain.passage.table;
      cpu = chain.passage.cpu;
      log = chain.log;
      seen = chain.passage.seen;
      legal = subst (λ (s : Shown). IsLegal s.about.shape y.port.known.seen) chain.passage.table last;
      explains = subst (λ (es : List Event). Explains (IsPortWorn x first.number) x.table.about.shape program budget first es end) (sym chain.own) explains;
      noted = chain.passage.noted;
    }

pub idle_again : (x y : Serving) → running y ≡ running x → runs x.port ≡ false → runs y.port ≡ false
idle_again x y same idle =
    let c : ℕ = y.port.known.cpu in
    own_value y.port c false (runs y.port) (eq-eqb c c refl)
    (ap (λ (f : ℕ → Bool). f c) same ∙ (ap (λ (b : Bool). (c == x.port.known.cpu) && b) idle ∙ and_false (c == x.port.known.cpu)))
