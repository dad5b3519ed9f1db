-- A job goes on over a store of which its CPU's stores wait: so it does on the x86 machine, where that CPU is
-- alone.
use Rattle.std.proofs.Common.{◌≡◌, ℕ, Bool, true, false, List, [], ◌∷◌, Option, Some, None, inl, inr, if◌then◌else◌, refl, sym}
use Rattle.std.proofs.Common.{ap, subst, ◌∙◌, eq-eqb}
use Rattle.std.specs.Prelude.{map}
use Rattle.bpf_shared.specs.Shape.{Shape}
use Rattle.bpf_shared.specs.declared.events.Event.{Event}
use Rattle.bpf_shared.specs.declared.events.Event.TheVariants.{End}
use Rattle.bpf_shared.specs.Store.{Plain}
use Rattle.bpf_shared.specs.Sound.{IsSoundStore}
use Rattle.bpf_shared.specs.History.{events_of, entry}
use Rattle.bpf_shared.specs.Passage.{Calls as Called}
use Rattle.bpf_shared.specs.Chain.{Chain}
use Rattle.bpf_shared.proofs.Chains.{chain_one}
use Rattle.bpf_plain.specs.PlainStore.{StandsFor}
use Rattle.bpf_loader.specs.Loaded.{Loaded}
use Rattle.bpf_cpu.specs.declared.cpu.Cpu.{Cpu}
use Rattle.bpf_cpu.specs.declared.outcome.Outcome.{Outcome}
use Rattle.bpf_cpu.specs.Step.{Step}
use Rattle.bpf_cpu.specs.Task.{Stage, InHand, Ended}
use Rattle.bpf_x86.specs.Buffers.{Buffered, Calls, CallsAll}
use Rattle.bpf_x86.specs.Machine.{Advances}
use Rattle.bpf_buffering.specs.Search.{alone}
use Rattle.bpf_buffering.specs.Waiting.{WaitingContents, IsSameCpu, PassesWaiting, serves_one, buffer_of}
use Rattle.bpf_buffering.specs.Going.{LeadAlone, AdvancesOver, GoesAlone, GoesOver}

own_entries : (c : ℕ) (es : List Event) → events_of c (map (entry c) es) ≡ es
own_entries c [] = refl
own_entries c (e ∷ es) =
    ap (λ (b : Bool). if b then e ∷ events_of c (map (entry c) es) else events_of c (map (entry c) es)) (eq-eqb c c refl) ∙ ap
    (λ (l : List Event). e ∷ l) (own_entries c es)

pub chain_alone : (x y : WaitingContents) (c : ℕ) (events : List Event) → c ≡ x.cpu → Chain PassesWaiting serves_one c x y events → LeadAlone x events y
chain_alone x y c events is chain kept =
    let p = chain.passage in
    let own : p.0 ≡ events = sym (own_entries x.cpu p.0) ∙ ap (events_of x.cpu) (sym p.1) ∙ ap (λ (k : ℕ). events_of k chain.log) (sym is) ∙ chain.own in
    let r = p.3 kept in (
      r.0,
      λ s so shows. (let t = r.1 s so shows in (
        t.0,
        t.1,
        t.2,
        subst
            (λ (es : List Event). CallsAll (alone s x.cpu (buffer_of x)) x.cpu es (alone t.0 x.cpu (buffer_of y))) own t.3,
      )),
    )

-- a call
pub call_alone : (x y : WaitingContents) (c : ℕ) (e : Event) → c ≡ x.cpu → serves_one x c ≡ true → Called (PassesWaiting x y) (serves_one x)
    c e → serves_one y ≡ serves_one x → y.lost ≡ false
    → (x.lost ≡ false) × ((s : Plain) → IsSoundStore s → StandsFor x.store s → (t : Plain) × IsSoundStore t × StandsFor y.store t × Calls
    (alone s x.cpu (buffer_of x)) x.cpu e (alone t x.cpu (buffer_of y)))
call_alone x y c e is served call same kept =
    let r = chain_alone x y c (e ∷ []) is (chain_one PassesWaiting serves_one c x y e served call same) kept in
    (r.0, λ s so shows. (let t = r.1 s so shows in (t.0, t.1, t.2, subst (λ (b : Buffered). Calls (alone s x.cpu (buffer_of x)) x.cpu e b) (sym t.3.2) t.3.1)))

-- ---- a step
pub over_cpu : (program : Loaded) (x y : WaitingContents) (old new : Cpu) (left rest : ℕ) (end : Option Outcome) → AdvancesOver program x
    old left end y new rest → IsSameCpu x y
over_cpu program x y old new left rest end (inl a) = subst (λ (w : WaitingContents). IsSameCpu x w) (sym a.2) (record { cpu = refl; serves = refl })
over_cpu program x y old new left rest end (inr a) = a.5.passage.2

abbrev pub AdvancesAlone : Loaded → WaitingContents → Cpu → ℕ → Option Outcome → WaitingContents → Cpu → ℕ → Type 0
AdvancesAlone program x old left end y new rest =
    y.lost ≡ false → (x.lost ≡ false) × ((s : Plain) → IsSoundStore s → StandsFor x.store s
    → (t : Plain) × IsSoundStore t × StandsFor y.store t × Advances program x.cpu (alone s x.cpu (buffer_of x)) old left end
    (alone t x.cpu (buffer_of y)) new rest)

pub advances_alone : (program : Loaded) (x y : WaitingContents) (old new : Cpu) (left rest : ℕ) (end : Option Outcome) → old.number ≡ x.cpu
    → AdvancesOver program x old left end y new rest → AdvancesAlone program x old left end y new rest
advances_alone program x y old new left rest end number (inl (none, ends, same, stays, last)) kept = (
  ap (λ (w : WaitingContents). w.lost) (sym same) ∙ kept,
  λ s so shows. (
    s,
    so,
    subst (λ (w : WaitingContents). StandsFor w.store s) (sym same) shows,
    subst (λ (k : ℕ). Advances program x.cpu (alone s x.cpu (buffer_of x)) old k end (alone s x.cpu (buffer_of y)) new rest) (sym none)
        (ends, ap (λ (w : WaitingContents). alone s x.cpu (buffer_of w)) same, stays, last),
  ),
)
advances_alone program x y old new left rest end number (inr (n, events, progress, more, last, chain, step, ends)) kept =
    let r = chain_alone x y old.number events number chain kept in (
      r.0,
      λ s so shows.
          (let t = r.1 s so shows in (
            t.0,
            t.1,
            t.2,
            subst (λ (k : ℕ). Advances program x.cpu (alone s x.cpu (buffer_of x)) old k end (alone t.0 x.cpu (buffer_of y)) new rest) (sym more)
                (events, progress, subst (λ (h : Shape). Step h program old events progress new) (sym shows.shape) step, t.3, ends, last),
          )),
    )

-- ---- the job stays in hand, or ends
pub goes_kept : (program : Loaded) (x y : WaitingContents) (was stage : Stage) (old new : Cpu) (left rest : ℕ) → old.number ≡ x.cpu → was ≡
    InHand old left → stage ≡ InHand new rest → AdvancesOver program x old left None y new rest
    → GoesOver program x was None y stage
goes_kept program x y was stage old new left rest number at is over kept =
    let r = advances_alone program x y old new left rest None number over kept in
    (r.0, λ s so shows. (let t = r.1 s so shows in (t.0, t.1, t.2, (old, left, new, rest, at, is, t.3))))

pub goes_ended : (program : Loaded) (x m y : WaitingContents) (was stage : Stage) (old new : Cpu) (left rest : ℕ) (end : Outcome) →
    old.number ≡ x.cpu → was ≡ InHand old left → stage ≡ Ended end
    → AdvancesOver program x old left (Some end) m new rest → (c : ℕ) → c ≡ m.cpu → serves_one m c ≡ true → Called (PassesWaiting m y)
    (serves_one m) c End → serves_one y ≡ serves_one m
    → GoesOver program x was (Some end) y stage
goes_ended program x m y was stage old new left rest end number at is over c of served call same kept =
    let last = call_alone m y c End of served call same kept in
    let cpu : m.cpu ≡ x.cpu = (over_cpu program x m old new left rest (Some end) over).cpu in
    let first = advances_alone program x m old new left rest (Some end) number over last.0 in (
      first.0,
      λ s so shows.
          (let b = first.1 s so shows in
          let t = last.1 b.0 b.1 b.2 in
          let ends : Calls (alone b.0 x.cpu (buffer_of m)) x.cpu End (alone t.0 x.cpu (buffer_of y)) =
          subst (λ (k : ℕ). Calls (alone b.0 k (buffer_of m)) k End (alone t.0 k (buffer_of y))) cpu t.3 in
          (t.0, t.1, t.2, (old, left, b.0, buffer_of m, new, rest, at, is, b.3, ends))),
    )
