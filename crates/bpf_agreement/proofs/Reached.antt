-- Where each step that turns reach is calm, so is each of a history.
use Rattle.std.proofs.Common.{◌≡◌, ℕ, suc, true, List, [], ◌∷◌, Some, None, inl, inr, refl, sym, ap, subst, ◌∙◌}
use Rattle.std.specs.Prelude.{map}
use Rattle.bpf_shared.specs.declared.events.Event.{Event}
use Rattle.bpf_shared.specs.declared.events.Event.TheVariants.{Begin, End, Lookup, Update, Delete, Keys, Load, Store, Atomic}
use Rattle.bpf_shared.specs.Shape.{Shape}
use Rattle.bpf_shared.specs.Store.{Plain}
use Rattle.bpf_shared.specs.Sound.{IsSoundStore}
use Rattle.bpf_shared.specs.Choice.{PlainlyAllowed}
use Rattle.bpf_shared.specs.History.{PlainlyLegal, entry}
use Rattle.bpf_shared.specs.Laws.{LegalIsSound, CallsHaveOneReply, asked}
use Rattle.bpf_shared.proofs.Soundness.{allowed_sound}
use Rattle.bpf_loader.specs.Loaded.{Loaded}
use Rattle.bpf_loader.specs.Laws.{OneInstructionBegins}
use Rattle.bpf_mem.specs.Laws.{IsMemory, WritesAreDetermined}
use Rattle.bpf_helpers.specs.Laws.{AreAskedAlike, first_call}
use Rattle.bpf_cpu.specs.declared.cpu.Cpu.{Cpu}
use Rattle.bpf_cpu.specs.declared.outcome.Progress.{Progress}
use Rattle.bpf_cpu.specs.Step.{Step}
use Rattle.bpf_cpu.specs.Task.{Task}
use Rattle.bpf_cpu.proofs.DeterminedRuns.{steps_are_determined, start_memory}
use Rattle.bpf_machine.specs.Schedule.{World}
use Rattle.bpf_machine.specs.Laws.{IsFresh}
use Rattle.bpf_machine.proofs.DeterminedTurns.{IsWorld, runs_world, fresh_world}
use Rattle.bpf_agreement.specs.Calm.{leaves_maps, IsCalm, StepsAreCalm}
use Rattle.bpf_agreement.specs.Laws.{CalmHistoriesAreSchedules}
use Rattle.bpf_agreement.specs.Steps.{IsNextStep}
use Rattle.bpf_agreement.proofs.Alike.{LeavesMaps, made_too}
use Rattle.bpf_agreement.proofs.Acting.{AreCalm}
use Rattle.bpf_agreement.proofs.Agreeing.{leads_too}

-- ---- events that are asked alike
kind_asked : (e : Event) → leaves_maps (asked e) ≡ leaves_maps e
kind_asked Begin = refl
kind_asked End = refl
kind_asked (Lookup m key found) = refl
kind_asked (Update m key bytes flags answer) = refl
kind_asked (Delete m key answer) = refl
kind_asked (Keys m ks) = refl
kind_asked (Load a size found) = refl
kind_asked (Store a size x) = refl
kind_asked (Atomic a size op operand expected found) = refl

leaves : (e : Event) → leaves_maps e ≡ true → LeavesMaps e
leaves Begin h = cc
leaves End h = cc
leaves (Lookup m key found) h = tt
leaves (Update m key bytes flags answer) h = cc
leaves (Delete m key answer) h = cc
leaves (Keys m ks) h = cc
leaves (Load a size found) h = tt
leaves (Store a size x) h = tt
leaves (Atomic a size op operand expected found) h = tt

some_call : (e f : Event) → Some e ≡ Some f → e ≡ f
some_call e f h = cc

no_call : (e : Event) → Some e ≡ None → ⊥
no_call e h = cc

first_none : (events : List Event) → first_call events ≡ None → events ≡ []
first_none [] h = refl
first_none (e ∷ es) h = absurd (no_call (asked e) h)

one_program : (p q : Loaded) → Some p ≡ Some q → p ≡ q
one_program p q e = cc

-- nothing is asked of states
abbrev Any_state : Loaded → Cpu → Type 0
Any_state program state = Unit {0}

-- two steps from one state, over one store that is sound: the events of the one are calm, and what the other
-- asks first the store may do; so it asks nothing else
module _ (law : WritesAreDetermined) (begins : OneInstructionBegins) (replies : CallsHaveOneReply) where
  alone : (s : Plain) (c : ℕ) (program : Loaded) (state new other : Cpu) (e : Event) (more events : List Event) (answer end : Progress)
      (t : Plain) → IsSoundStore s → IsMemory state.memory
      → Step s.shape program state (e ∷ more) answer new → Step s.shape program state events end other → PlainlyLegal s (map (entry c) events) t → IsCalm events
      → (leaves_maps e ≡ true → (u : Plain) × PlainlyAllowed s c e u) → (more ≡ []) × (leaves_maps e ≡ true)
  alone s c program state new other e more events answer end t sound memory step plain legal calm may = go events alike legal calm
    where
      alike : AreAskedAlike (e ∷ more) events
      alike = (steps_are_determined law begins s.shape program state new other (e ∷ more) events answer end memory step plain).0

      go : (events : List Event) → AreAskedAlike (e ∷ more) events → PlainlyLegal s (map (entry c) events) t → IsCalm events → (more ≡ []) ×
          (leaves_maps e ≡ true)
      go [] alike legal calm = absurd (no_call (asked e) (alike [] (e ∷ more) [] refl refl))
      go (f ∷ []) alike legal calm =
          let same_asked : asked e ≡ asked f = some_call (asked e) (asked f) (alike [] (e ∷ more) (f ∷ []) refl refl) in
          let kind : leaves_maps e ≡ true = sym (kind_asked e) ∙ ap leaves_maps same_asked ∙ kind_asked f ∙ calm in
          let made = may kind in
          let same : e ≡ f = (replies s made.0 legal.0 c e f sound made.1 legal.1 same_asked).0 in
          let none : first_call more ≡ None = alike (e ∷ []) more [] refl (ap (λ (g : Event). g ∷ []) (sym same)) in
          (first_none more none, kind)
      go (f ∷ next ∷ rest) alike legal calm = absurd calm

  module _ (w : World) (fresh : IsFresh w) (steps : StepsAreCalm w) where
    next_sound : (z : World) (c j : ℕ) (task : Task) (state : Cpu) (left : ℕ) (s : Plain) → IsWorld z → IsNextStep z c j task state left s →
        IsSoundStore s × IsMemory state.memory
    next_sound z c j task state left s world (inl (at, same)) = (subst IsSoundStore (sym same) world.store, world.memory c j task state left at)
    next_sound z c j task state left s world (inr b) = (
      allowed_sound z.store s c Begin world.store b.begun.0,
      subst (λ (from : Cpu). IsMemory from.memory) (sym b.fresh) (start_memory c b.input (world.short c j task b.input b.at)),
    )

    calm : (h : Shape) → AreCalm h Any_state w
    calm h s m c e more t =
        let world = runs_world law begins replies t.schedule w t.world (fresh_world law begins replies w fresh) t.runs in
        let ok = next_sound t.world c t.job t.task t.state (suc t.left) t.store world t.next in
        let k = steps t.schedule t.world t.runs c t.job t.task t.state t.left t.store t.next in
        let same : k.program ≡ t.program = one_program k.program t.program (sym k.loaded ∙ t.loaded) in
        let plain : Step t.store.shape t.program t.state k.events k.answer k.new = subst
        (λ (p : Loaded). Step t.store.shape p t.state k.events k.answer k.new) same k.step in
        let r = alone t.store c t.program t.state t.new k.new e more k.events t.answer k.answer k.store ok.0 ok.1 t.step plain k.legal k.calm
        (λ kind. let made = made_too s m t.store c e t.like t.runs_too t.holds (leaves e kind) t.allowed in (made.next, made.allowed)) in
        (r.0, leaves e r.1, λ on. tt)

pub calm_histories_are_schedules : WritesAreDetermined → OneInstructionBegins → CallsHaveOneReply → LegalIsSound → CalmHistoriesAreSchedules
calm_histories_are_schedules law begins replies sound h programs tasks ends lists history last w shape few is fresh steps explained legal =
    leads_too law begins replies sound h programs tasks ends lists history last w is.store is.programs is.jobs shape fresh few explained legal Any_state
    (λ k task input program at waits loaded. tt) (λ program state mid good step. tt) (calm law begins replies w fresh steps h)
