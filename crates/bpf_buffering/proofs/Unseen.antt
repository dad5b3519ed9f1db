-- Steps that no other CPU sees, one after the other, over a store of which the CPU's stores wait.
use Rattle.std.proofs.Common.{◌≡◌, ◌≢◌, ℕ, zero, suc, ◌+◌, ◌-◌, ◌<◌, ◌≤◌, Bool, true, false, List, [], ◌∷◌, ◌++◌, Some, ◌⊎◌, inl, inr, refl}
use Rattle.std.proofs.Common.{sym, ap, subst, ◌∙◌}
use Rattle.std.proofs.Common.{append_assoc, append-nil, arith}
use Rattle.bpf_insn.specs.declared.instruction.Insn.{Insn}
use Rattle.bpf_insn.specs.declared.instruction.Insn.TheVariants as insn
use Rattle.bpf_insn.specs.declared.operation.sizes.Size.{Size}
use Rattle.bpf_shared.specs.Chain.{Chain}
use Rattle.bpf_shared.specs.Shape.{Shape}
use Rattle.bpf_shared.specs.Store.{Plain}
use Rattle.bpf_shared.specs.declared.events.Event.{Event}
use Rattle.bpf_loader.specs.Laws.{OneInstructionBegins}
use Rattle.bpf_loader.specs.Loaded.{Loaded}
use Rattle.bpf_loader.specs.Places.{Begins}
use Rattle.bpf_plain.specs.PlainStore.{has_cpu, is_running, held_spans, shape_of}
use Rattle.bpf_helpers.specs.Held.{AreHeld}
use Rattle.bpf_cpu.specs.declared.cpu.Cpu.{Cpu}
use Rattle.bpf_cpu.specs.declared.outcome.Outcome.{Outcome}
use Rattle.bpf_cpu.specs.declared.outcome.Progress.{Progress}
use Rattle.bpf_cpu.specs.declared.outcome.Progress.TheVariants.{On, Done}
use Rattle.bpf_cpu.specs.Row.{Stores}
use Rattle.bpf_cpu.specs.Values.{StoresValue}
use Rattle.bpf_cpu.specs.Step.{IsReady, Executes, Step, MakesQuietSteps}
use Rattle.bpf_cpu.specs.Task.{Stage, InHand}
use Rattle.bpf_x86.specs.Buffers.{Buffered, CallsAll}
use Rattle.bpf_x86.specs.Forwarding.{AreStores}
use Rattle.bpf_buffering.specs.Search.{alone}
use Rattle.bpf_buffering.specs.Waiting.{WaitingContents, IsSameCpu, PassesWaiting, serves_one, buffer_of}
use Rattle.bpf_buffering.specs.Going.{LeadAlone, StepsAhead, GoesAhead, IsPlainStore, TriesStore, CanGoOn, LeavesOthers}
use Rattle.bpf_buffering.specs.Lemmas.Passages.{calls_joined}
use Rattle.bpf_buffering.proofs.Advancing.{chain_alone}
use Rattle.bpf_buffering.proofs.Serving.{its_cpu, has_its}
use Rattle.bpf_buffering.proofs.Stepping.{HandFits, Keeps, serves_its}

-- ---- the step of a plain store
-- it goes on, and calls stores alone; or it ends the job, and nothing is changed
data StoreStep (events : List Event) (progress : Progress) (old new : Cpu) : Type 0 where
  Made : progress ≡ On → AreStores events → StoreStep events progress old new
  Refused : progress ≢ On → events ≡ [] → new ≡ old → StoreStep events progress old new

pub off_done : (progress : Progress) (end : Outcome) → progress ≡ Done end → progress ≢ On
off_done progress end is on = let no : Done end ≡ On = sym is ∙ on in cc

own_store : (z : Size) (a x : ℕ) (old : Cpu) (events : List Event) (progress : Progress) (new : Cpu) → events ≡ [] → Stores z a x old progress
    new → StoreStep events progress old new
own_store z a x old events progress new none (inl (missed, (ends, same))) = Refused (off_done progress _ ends) none same
own_store z a x old events progress new none (inr (reached, on, left)) = Made on (subst AreStores (sym none) tt)

value_store : (h : Shape) (z : Size) (a x : ℕ) (old : Cpu) (events : List Event) (progress : Progress) (new : Cpu) → StoresValue h z a x old events
    progress new → StoreStep events progress old new
value_store h z a x old events progress new (inl (fault, why, none, (ends, same))) = Refused (off_done progress _ ends) none same
value_store h z a x old events progress new (inr (place, is, on, left)) = Made on (subst AreStores (sym is) tt)

row_store : (h : Shape) (i : Insn) (old : Cpu) (events : List Event) (progress : Progress) (new : Cpu) → IsPlainStore i → Executes h i old
    events progress new → StoreStep events progress old new
row_store h (insn.Store z b o s) old events progress new it (inl (asks, none, quiet)) = own_store z _ _ old events progress new none quiet
row_store h (insn.Store z b o s) old events progress new it (inr (inl (number, is, helper))) =
    let no : insn.Store z b o s ≡ insn.CallHelper number = is in cc
row_store h (insn.Store z b o s) old events progress new it (inr (inr (asks, stores))) = value_store h z _ _ old events progress new stores
row_store h (insn.StoreImmediate z b o n) old events progress new it (inl (asks, none, quiet)) = own_store z _ _ old events progress new none quiet
row_store h (insn.StoreImmediate z b o n) old events progress new it (inr (inl (number, is, helper))) =
    let no : insn.StoreImmediate z b o n ≡ insn.CallHelper number = is in cc
row_store h (insn.StoreImmediate z b o n) old events progress new it (inr (inr (asks, stores))) = value_store h z _ _ old events progress new stores
row_store h _ old events progress new it row = absurd it

module _ (begins : OneInstructionBegins) (program : Loaded) (x y : WaitingContents) (old new : Cpu) (i : Insn)
    (at : Begins program.instructions old.pc i) (it : IsPlainStore i) (number : old.number ≡ x.cpu) (progress : Progress)
    (step : (events : List Event) × Chain PassesWaiting serves_one old.number x y events × Step (shape_of x.store) program old events progress new) where
  kind : StoreStep step.0 progress old new
  kind =
      let s = step.2 in
      let same : s.instruction ≡ i = begins program.instructions old.pc s.instruction i s.begins at in
      row_store (shape_of x.store) i old step.0 progress new it
      (subst (λ (k : Insn). Executes (shape_of x.store) k old step.0 progress new) same s.row)

  lead : LeadAlone x step.0 y
  lead = chain_alone x y old.number step.0 number step.1

  pub store_made : progress ≡ On → TriesStore program x old true y new
  store_made on = elim kind [
    | Made going stores ↦ (
      step.0,
      step.1.passage.2,
      lead,
      λ is. (subst (λ (p : Progress). Step (shape_of x.store) program old step.0 p new) going step.2, stores),
      λ not. cc,
    )
    | Refused not none same ↦ absurd (not on)
  ]

  pub store_refused : progress ≢ On → TriesStore program x old false y new
  store_refused off = elim kind [
    | Made going stores ↦ absurd (off going)
    | Refused not none same ↦ (step.0, step.1.passage.2, lead, λ is. cc, λ is. (none, same))
  ]

-- nothing is called
pub lead_nowhere : (x : WaitingContents) → LeadAlone x [] x
lead_nowhere x kept = (kept, λ s so shows. (s, so, shows, refl))

pub not_tried : (program : Loaded) (x : WaitingContents) (old : Cpu) → TriesStore program x old false x old
not_tried program x old = ([], record { cpu = refl; serves = refl }, lead_nowhere x, λ is. cc, λ is. (refl, refl))

-- ---- steps after steps
pub lead_joined : (x y z : WaitingContents) (es fs : List Event) → y.cpu ≡ x.cpu → LeadAlone x es y → LeadAlone y fs z → LeadAlone x (es ++ fs) z
lead_joined x y z es fs cpu first later kept =
    let q = later kept in
    let p = first q.0 in (
      p.0,
      λ s so shows.
          (let m = p.1 s so shows in
          let t = q.1 m.0 m.1 m.2 in
          let there : CallsAll (alone m.0 x.cpu (buffer_of y)) x.cpu fs (alone t.0 x.cpu (buffer_of z)) =
          subst (λ (c : ℕ). CallsAll (alone m.0 c (buffer_of y)) c fs (alone t.0 c (buffer_of z))) cpu t.3 in (
            t.0,
            t.1,
            t.2,
            calls_joined x.cpu es fs (alone s x.cpu (buffer_of x)) (alone m.0 x.cpu (buffer_of y)) (alone t.0 x.cpu (buffer_of z)) m.3 there,
          )),
    )

pub steps_joined : (h : Shape) (program : Loaded) (n m : ℕ) (old mid new : Cpu) (left more rest : ℕ) (es fs : List Event) → StepsAhead h program n
    old left es mid more → StepsAhead h program m mid more fs new rest → StepsAhead h program (n + m) old left (es ++ fs) new rest
steps_joined h program zero m old mid new left more rest es fs (none, stays, same) later =
    let e : m ≡ 0 + m = omega arith in
    subst (λ (k : ℕ). StepsAhead h program k old left (es ++ fs) new rest) e
    (subst (λ (gs : List Event). StepsAhead h program m old left (gs ++ fs) new rest) (sym none)
    (subst (λ (k : ℕ). StepsAhead h program m old k fs new rest) same (subst (λ (c : Cpu). StepsAhead h program m c more fs new rest) stays later)))
steps_joined h program (suc n) m old mid new left more rest es fs (k, first, others, next, is, parts, step, stores, steps) later =
    let e : suc (n + m) ≡ suc n + m = omega arith in
    subst (λ (k : ℕ). StepsAhead h program k old left (es ++ fs) new rest) e (
      k,
      first,
      others ++ fs,
      next,
      is,
      ap (λ (gs : List Event). gs ++ fs) parts ∙ append_assoc first others fs,
      step,
      stores,
      steps_joined h program n m next mid new (suc k) more rest others fs steps later,
    )

pub steps_count : (h : Shape) (program : Loaded) (n : ℕ) (old new : Cpu) (left rest : ℕ) (es : List Event) → StepsAhead h program n old left es
    new rest → left ≡ n + rest
steps_count h program zero old new left rest es steps = let e : rest ≡ left = steps.2 in omega (arith, e)
steps_count h program (suc n) old new left rest es (k, first, others, next, is, parts, step, stores, steps) =
    let e : suc k ≡ n + rest = steps_count h program n next new (suc k) rest others steps in
    omega (arith, is, e)

-- steps in the CPU's own registers and memory
pub quiet_ahead : (h : Shape) (program : Loaded) (n : ℕ) (old new : Cpu) (left rest : ℕ) → left ≡ n + rest → 0 < rest → MakesQuietSteps program n
    old new → StepsAhead h program n old left [] new rest
quiet_ahead h program zero old new left rest is some made = (refl, made, omega (arith, is))
quiet_ahead h program (suc n) old new left rest is some (mid, step, more) =
    let k : ℕ = (n + rest) - 1 in
    let many : left ≡ suc (suc k) = omega (arith, is, some) in
    let fewer : suc k ≡ n + rest = omega (arith, some) in
    (k, [], [], mid, many, refl, step h, tt, quiet_ahead h program n mid new (suc k) rest fewer some more)

pub same_cpu_joined : (x y z : WaitingContents) → IsSameCpu x y → IsSameCpu y z → IsSameCpu x z
same_cpu_joined x y z p q = record { cpu = q.cpu ∙ p.cpu; serves = q.serves ∙ p.serves }

pub ahead_joined : (program : Loaded) (x y z : WaitingContents) (old mid new : Cpu) (left more rest : ℕ) → shape_of y.store ≡ shape_of x.store →
    GoesAhead program x old left y mid more → GoesAhead program y mid more z new rest → GoesAhead program x old left z new rest
ahead_joined program x y z old mid new left more rest shape p q = (
  p.0 + q.0,
  p.1 ++ q.1,
  same_cpu_joined x y z p.2 q.2,
  steps_joined (shape_of x.store) program p.0 q.0 old mid new left more rest p.1 q.1 p.3
      (subst (λ (h : Shape). StepsAhead h program q.0 mid more q.1 new rest) shape q.3),
  lead_joined x y z p.1 q.1 p.2.cpu p.4 q.4,
)

pub ahead_nowhere : (program : Loaded) (x : WaitingContents) (old : Cpu) (left : ℕ) → GoesAhead program x old left x old left
ahead_nowhere program x old left = (0, [], record { cpu = refl; serves = refl }, (refl, refl, refl), lead_nowhere x)

-- own steps alone
pub ahead_quiet : (program : Loaded) (x : WaitingContents) (n : ℕ) (old new : Cpu) (left rest : ℕ) → left ≡ n + rest → 0 < rest → MakesQuietSteps
    program n old new → GoesAhead program x old left x new rest
ahead_quiet program x n old new left rest is some made =
    (n, [], record { cpu = refl; serves = refl }, quiet_ahead (shape_of x.store) program n old new left rest is some made, lead_nowhere x)

-- a store that is refused
pub ahead_refused : (program : Loaded) (x y : WaitingContents) (old new : Cpu) (left : ℕ) → TriesStore program x old false y new → GoesAhead
    program x old left y new left
ahead_refused program x y old new left (events, same, lead, made, not) =
    let stays = not refl in
    (0, events, same, (stays.0, stays.1, refl), lead)

-- one that is made
pub ahead_stored : (program : Loaded) (x y : WaitingContents) (old new : Cpu) (left rest : ℕ) → left ≡ suc rest → 0 < rest → TriesStore program x
    old true y new → GoesAhead program x old left y new rest
ahead_stored program x y old new left rest is some (events, same, lead, made, not) =
    let step = made refl in
    let k : ℕ = rest - 1 in
    let many : left ≡ suc (suc k) = omega (arith, is, some) in
    let last : rest ≡ suc k = omega (arith, some) in
    (1, events, same, (k, events, [], new, many, sym (append-nil events), step.0, step.1, (refl, refl, last)), lead)

-- ---- what is left fits
module _ (program : Loaded) (h k : WaitingContents) (old new : Cpu) (left rest : ℕ) (fits : HandFits program h old)
    (ahead : GoesAhead program h old left k new rest) (number : new.number ≡ old.number) (keeps : Keeps old.number h k) where
  cpu : k.cpu ≡ h.cpu
  cpu = ahead.2.cpu

  pub served_still : has_cpu k.store k.cpu ≡ true
  served_still =
      ap (λ (f : ℕ → Bool). f k.cpu) ahead.2.serves ∙ ap (has_cpu h.store) (cpu ∙ sym fits.number) ∙ has_its h old.number fits.serves

  pub fits_still : IsReady program new → AreHeld (held_spans k.store old.number) new.held → HandFits program k new
  fits_still ready held =
      let now : new.number ≡ k.cpu = number ∙ fits.number ∙ sym cpu in
      record {
        number = now;
        ready = ready;
        serves = serves_its k new.number now served_still;
        runs = ap (λ (f : ℕ → Bool). f new.number) keeps.runs ∙ ap (is_running h.store) number ∙ fits.runs;
        held = subst (λ (n : ℕ). AreHeld (held_spans k.store n) new.held) (sym number) held;
      }

  pub leaves_others : LeavesOthers h.cpu h.store k.store
  leaves_others = record {
    shape = keeps.shape;
    serves = ahead.2.serves;
    runs = λ d ne. ap (λ (f : ℕ → Bool). f d) keeps.runs;
    held = λ d ne. keeps.others d (λ q. ne (q ∙ fits.number));
  }

  pub can_go_on_still : (s : Stage) → s ≡ InHand new rest → IsReady program new → AreHeld (held_spans k.store old.number) new.held → CanGoOn program k s
  can_go_on_still s is ready held =
      let f = fits_still ready held in
      record {
        state = new;
        left = rest;
        at = is;
        number = f.number;
        ready = ready;
        held = subst (λ (n : ℕ). AreHeld (held_spans k.store n) new.held) f.number f.held;
        runs = ap (is_running k.store) (sym f.number) ∙ f.runs;
        served = served_still;
      }

-- ---- some more
keeps_joined : (c : ℕ) (x y z : WaitingContents) → Keeps c x y → Keeps c y z → Keeps c x z
keeps_joined c x y z p q = record {
  shape = q.shape ∙ p.shape;
  runs = q.runs ∙ p.runs;
  others = λ d ne. q.others d ne ∙ p.others d ne;
}

pub keeps_all : (c : ℕ) (x : WaitingContents) → Keeps c x x
keeps_all c x = record { shape = refl; runs = refl; others = λ d ne. refl }

-- some steps were made, after which the CPU may go on
pub record Gone (program : Loaded) (x : WaitingContents) (old : Cpu) (left : ℕ) (y : WaitingContents) (new : Cpu) (rest : ℕ) : Type 0 where
  pub ahead : GoesAhead program x old left y new rest
  pub ready : IsReady program new
  pub number : new.number ≡ old.number
  pub held : AreHeld (held_spans y.store old.number) new.held
  pub keeps : Keeps old.number x y

pub hand_of : (program : Loaded) (x : WaitingContents) (old : Cpu) → IsReady program old → serves_one x old.number ≡ true → is_running x.store
    old.number ≡ true → AreHeld (held_spans x.store old.number) old.held → HandFits program x old
hand_of program x old ready serves runs held =
    record { number = its_cpu x old.number serves; ready = ready; serves = serves; runs = runs; held = held }

pub hand_still : (program : Loaded) (x y : WaitingContents) (old new : Cpu) (left rest : ℕ) → HandFits program x old → Gone program x old left y new
    rest → HandFits program y new
hand_still program x y old new left rest fits g = fits_still program x y old new left rest fits g.ahead g.number g.keeps g.ready g.held

pub not_gone : (program : Loaded) (x : WaitingContents) (old : Cpu) (left : ℕ) → HandFits program x old → Gone program x old left x old left
not_gone program x old left fits = record {
  ahead = ahead_nowhere program x old left;
  ready = fits.ready;
  number = refl;
  held = fits.held;
  keeps = keeps_all old.number x;
}

pub gone_more : (program : Loaded) (x y z : WaitingContents) (old mid new : Cpu) (left more rest : ℕ) → Gone program x old left y mid more → Gone
    program y mid more z new rest → Gone program x old left z new rest
gone_more program x y z old mid new left more rest p q = record {
  ahead = ahead_joined program x y z old mid new left more rest p.keeps.shape p.ahead q.ahead;
  ready = q.ready;
  number = q.number ∙ p.number;
  held = subst (λ (n : ℕ). AreHeld (held_spans z.store n) new.held) p.number q.held;
  keeps = keeps_joined old.number x y z p.keeps (subst (λ (n : ℕ). Keeps n y z) p.number q.keeps);
}
