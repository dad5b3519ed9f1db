-- Files of arrays alone, whose calls read outside of values.
use Rattle.std.proofs.Common.{◌≡◌, ℕ, zero, suc, ◌<◌, false, List, [], ◌∷◌, Some, None, ◌⊎◌, inl, inr, refl, sym, ap, subst, ◌∙◌, arith}
use Rattle.std.specs.Prelude.{All, slice_get}
use Rattle.bpf_insn.specs.declared.instruction.Insn.TheVariants.{CallHelper}
use Rattle.bpf_shared.specs.declared.events.Event.{Event}
use Rattle.bpf_shared.specs.declared.events.Entry.{Entry}
use Rattle.bpf_shared.specs.Shape.{Shape, IsShape}
use Rattle.bpf_shared.specs.Store.{Plain, as_made}
use Rattle.bpf_shared.specs.History.{Legal}
use Rattle.bpf_shared.specs.Sound.{IsSoundStore}
use Rattle.bpf_shared.specs.Laws.{LegalIsSound, CallsHaveOneReply}
use Rattle.bpf_loader.specs.Loaded.{Loaded}
use Rattle.bpf_loader.specs.Laws.{OneInstructionBegins}
use Rattle.bpf_loader.specs.Places.{Begins}
use Rattle.bpf_mem.specs.Laws.{WritesAreDetermined}
use Rattle.bpf_helpers.specs.Given.{AsksOnce}
use Rattle.bpf_cpu.specs.declared.cpu.Cpu.{Cpu}
use Rattle.bpf_cpu.specs.declared.outcome.Outcome.{Outcome}
use Rattle.bpf_cpu.specs.declared.outcome.Progress.{Progress}
use Rattle.bpf_cpu.specs.declared.outcome.Progress.TheVariants.{On}
use Rattle.bpf_cpu.specs.Step.{Step}
use Rattle.bpf_cpu.specs.Task.{Task}
use Rattle.bpf_machine.specs.Schedule.{World}
use Rattle.bpf_machine.specs.Laws.{IsFresh}
use Rattle.bpf_sched.specs.Explained.{IsExplained}
use Rattle.bpf_threads.specs.Outside.{AllReadOutside, LeadsInSteps, ReadsOutside}
use Rattle.bpf_threads.specs.Threads.{AreOnOneCpu, IsReadWhole}
use Rattle.bpf_agreement.proofs.Alike.{LeavesMaps}
use Rattle.bpf_agreement.specs.Arrays.{HasArraysAlone}
use Rattle.bpf_agreement.specs.Ends.{LeadsToo}
use Rattle.bpf_agreement.specs.Laws.{HistoriesAreSchedules, IsFirst}
use Rattle.bpf_agreement.proofs.Acting.{AreCalm, IsKeptUp, heads, tails}
use Rattle.bpf_agreement.proofs.Simulating.{AreGoodFirst}
use Rattle.bpf_agreement.proofs.OneEvent.{IsOne, one_step, positive}
use Rattle.bpf_agreement.proofs.Agreeing.{leads_too}
use Rattle.bpf_agreement.proofs.OneCpu.{one_cpu_leads}

-- what is so of each element is so of one
all_at : {A : Type 0} (P : A → Type 0) (xs : List A) (k : ℕ) (x : A) → All P xs → slice_get xs k ≡ Some x → P x
all_at P [] k x all at = absurd (nothing x at)
  where
    nothing : {A : Type 0} (x : A) → None ≡ Some x → ⊥
    nothing x e = cc
all_at P (y ∷ ys) zero x all at = subst P (same y x at) (all 0 y (omega arith))
  where
    same : {A : Type 0} (y x : A) → Some y ≡ Some x → y ≡ x
    same y x e = cc
all_at P (y ∷ ys) (suc k) x all at = all_at P ys k x (λ i d inside. all (suc i) d (omega arith)) at

one_program : (p q : Loaded) → Some p ≡ Some q → p ≡ q
one_program p q e = cc

module _ (h : Shape) (is_shape : IsShape h) (bare : h.maps ≡ []) where
  -- the state holds nothing, and from it on calls read outside of values
  abbrev IsGood : Loaded → Cpu → Type 0
  IsGood program state = (state.held ≡ []) × ((steps n : ℕ) (now : Cpu) → LeadsInSteps h program steps state now → Begins
      program.instructions now.pc (CallHelper n) → AsksOnce n ⊎ ReadsOutside h.arrays n now.registers)

  later : (program : Loaded) (state new : Cpu) (events : List Event) → Step h program state events On new → IsGood program state → new.held
      ≡ [] → IsGood program new
  later program state new events step good none = (none, λ steps n now leads begins. good.1 (suc steps) n now (inr (events, new, step, leads)) begins)

  one : (program : Loaded) (state new : Cpu) (events : List Event) (answer : Progress) → IsGood program state → Step h program state events
      answer new → IsOne events × (new.held ≡ [])
  one program state new events answer good step = one_step h is_shape bare program state new events answer good.0
      (λ n begins. good.1 0 n state refl begins) step

  up : IsKeptUp h IsGood
  up program state mid good step = later program state mid [] step good (one program state mid [] On good step).1

  calm : (w : World) → AreCalm h IsGood w
  calm w s m c e more t =
      let step : Step h t.program t.state (e ∷ more) t.answer t.new = subst
      (λ (k : Shape). Step k t.program t.state (e ∷ more) t.answer t.new) t.shape t.step in
      let r = one t.program t.state t.new (e ∷ more) t.answer t.good step in
      let alone = single r.0 in (
        alone.0,
        alone.1,
        λ on. later t.program t.state t.new (e ∷ more)
            (subst (λ (p : Progress). Step h t.program t.state (e ∷ more) p t.new) on step) t.good r.1,
      )
    where
      none_of : e ∷ more ≡ [] → ⊥
      none_of is = cc

      single : IsOne (e ∷ more) → (more ≡ []) × LeavesMaps e
      single (inl none) = absurd (none_of none)
      single (inr (f, is, leaves)) = (tails e f more [] is, subst LeavesMaps (sym (heads e f more [] is)) leaves)

  good_first : (programs : List Loaded) (tasks : List Task) (ends : List Outcome) → All (IsReadWhole h programs) tasks → AreGoodFirst
      (record { shape = h; programs = programs; tasks = tasks; ends = ends }) IsGood
  good_first programs tasks ends whole k task input program at waits loaded =
      let is = all_at (IsReadWhole h programs) tasks k task whole at in
      let same : is.0 ≡ program = one_program is.0 program (sym is.1 ∙ loaded) in
      let outside : AllReadOutside h program = subst (AllReadOutside h) same is.2 in
      (refl, λ steps n now leads begins. outside task.cpu steps input now n leads begins)

module _ (law : WritesAreDetermined) (begins : OneInstructionBegins) (replies : CallsHaveOneReply) (sound : LegalIsSound)
    (h : Shape) (programs : List Loaded) (tasks : List Task) (ends : List Outcome) (lists : ℕ → List (List (List ℕ))) (history : List Entry)
    (last : Plain) (w : World)
    (arrays : HasArraysAlone h programs tasks) (is : IsFirst h programs tasks w)
    (explained : IsExplained h 0 [] programs tasks false ends lists history) (legal : Legal (as_made h) history last) where
  fresh : IsFresh w
  fresh = record {
    store = subst (λ (s : Plain). IsSoundStore s) (sym is.store) (sound h [] (as_made h) arrays.shape refl);
    waits = λ k task at. arrays.waits k task (ap (λ (ts : List Task). slice_get ts k) (sym is.jobs) ∙ at);
  }

  -- one CPU has all jobs
  alone : (c : ℕ) → c < h.cpus → ((k : ℕ) (task : Task) → slice_get tasks k ≡ Some task → task.cpu ≡ c) → LeadsToo w tasks ends last
  alone = one_cpu_leads law begins replies sound h programs tasks ends lists history last w is.store is.programs is.jobs arrays.shape fresh
      arrays.few explained legal arrays.maps

  alone_on : (c : ℕ) → All (λ (task : Task). task.cpu ≡ c) tasks → (some : List Task) → tasks ≡ some → LeadsToo w tasks ends last
  alone_on c all [] none = alone 0 (positive h.cpus arrays.shape.cpus.0)
      (λ k task at. absurd (nothing task (ap (λ (ts : List Task). slice_get ts k) (sym none) ∙ at)))
    where
      nothing : (x : Task) → None ≡ Some x → ⊥
      nothing x e = cc
  alone_on c all (one ∷ more) is_some =
      let at : slice_get tasks 0 ≡ Some one = ap (λ (ts : List Task). slice_get ts 0) is_some in
      let its : one.cpu ≡ c = all_at (λ (task : Task). task.cpu ≡ c) tasks 0 one all at in
      alone c (subst (λ (k : ℕ). k < h.cpus) its (explained.each_has_cpu one 0 at))
      (λ k task there. all_at (λ (task : Task). task.cpu ≡ c) tasks k task all there)

  leads : AreOnOneCpu tasks ⊎ All (IsReadWhole h programs) tasks → LeadsToo w tasks ends last
  leads (inl one) = alone_on one.0 one.1 tasks refl
  leads (inr whole) =
      leads_too law begins replies sound h programs tasks ends lists history last w is.store is.programs is.jobs arrays.shape fresh
      arrays.few explained legal (IsGood h arrays.shape arrays.maps)
      (good_first h arrays.shape arrays.maps programs tasks ends whole) (up h arrays.shape arrays.maps) (calm h arrays.shape arrays.maps w)

pub histories_are_schedules : WritesAreDetermined → OneInstructionBegins → CallsHaveOneReply → LegalIsSound → HistoriesAreSchedules
histories_are_schedules law begins replies sound h programs tasks ends lists history last w arrays is explained legal =
    leads law begins replies sound h programs tasks ends lists history last w arrays is explained legal arrays.whole
