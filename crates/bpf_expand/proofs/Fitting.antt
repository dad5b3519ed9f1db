-- Machines whose jobs fit into bytes.
use Rattle.std.proofs.Common.{◌≡◌, Bool, ℕ, zero, suc, List, [], ◌∷◌, Option, Some, None, is_some, true, refl, sym, ap}
use Rattle.std.specs.Prelude.{IfSome, map, slice_get}
use Rattle.std.proofs.lemmas.List.Elements.{All-weaker}
use Rattle.bpf_shared.specs.Shape.{Shape, IsElement, IsValueSpan}
use Rattle.bpf_plain.specs.PlainStore.{Contents, held_spans, shapes_of, IsSavedAs}
use Rattle.bpf_plain.proofs.Elements.{are_maps, held_is_element}
use Rattle.bpf_cpu.specs.declared.job.Job.{Job}
use Rattle.bpf_cpu.specs.Task.{Stage, Task, Waiting, InHand, Ended, waiting}
use Rattle.bpf_machine.specs.Machine.{MachineState}
use Rattle.bpf_machine.specs.Parts.{CanStand}
use Rattle.bpf_machine.specs.Saved.{FitsBytes, HoldWhatMayBe, HoldsWhatMayBe}
use Rattle.bpf_machine.proofs.ComingFrom.{come_later}
use Rattle.bpf_expand.specs.State.{AllWait, IsSavedState, IsStateOf}
use Rattle.bpf_expand.specs.Private.Home.{IsHome}

abbrev pub FitInBytes : List Task → Type 0
FitInBytes jobs = (j : ℕ) (task : Task) → slice_get jobs j ≡ Some task → FitsBytes task.stage

hold_all : (jobs : List Task) → ((j : ℕ) (task : Task) → slice_get jobs j ≡ Some task → HoldsWhatMayBe task.stage) → HoldWhatMayBe jobs
hold_all [] each = tt
hold_all (t ∷ ts) each = (each 0 t refl, hold_all ts (λ j task at. each (suc j) task at))

module _ (m : MachineState) (bytes : List ℕ) (stands : CanStand m) (saved : IsSavedAs m.store bytes) (fit : FitInBytes m.jobs) where
  holds : (j : ℕ) (task : Task) → slice_get m.jobs j ≡ Some task → (stage : Stage) → task.stage ≡ stage → FitsBytes stage → HoldsWhatMayBe stage
  holds j task at (Waiting input) is fits = tt
  holds j task at (InHand state left) is fits =
      let hand = stands.hand task.cpu j task state left (record { listed = at; of = refl; at = is }) in
      record {
        savable = fits.1.held;
        elements = (
          shapes_of m.store,
          are_maps m.store saved.0,
          All-weaker (λ p. (held_spans m.store task.cpu p ≡ true) × IsValueSpan p)
              (IsElement (shapes_of m.store)) (λ p h. held_is_element m.store saved.0 task.cpu p h.0) state.held hand.held,
        );
        once = fits.2;
      }
  holds j task at (Ended end) is fits = tt

  -- their runs hold what a run may hold
  pub hold : HoldWhatMayBe m.jobs
  hold = hold_all m.jobs (λ j task at. holds j task at task.stage refl (fit j task at))

-- the machine of an expander is determined by its bytes
pub is_state_of : (patient : Bool) (h : Shape) (m : MachineState) (room : Contents) (first : List Task) (numbers bytes : List ℕ)
    (jobs : List Task) (read : Option (List ℕ)) (placed : Bool) → IsHome h m room first numbers jobs read placed → CanStand m → FitInBytes
    m.jobs → IsSavedState m bytes
    → IsStateOf (record { shape = h; programs = m.programs; jobs = first; patient = patient }) m bytes
is_state_of patient h m room first numbers bytes jobs read placed home stands fit saved = record {
  of = record {
    shape = home.shape;
    programs = refl;
    jobs = come_later first m.jobs home.come fit;
    held = hold m saved.0 stands saved.1 fit;
    lists = home.lists;
    stands = stands;
  };
  saved = saved;
}

-- jobs as they are at first wait
pub first_wait : (jobs : List Job) → AllWait (map waiting jobs)
first_wait [] j task at = cc
first_wait (x ∷ xs) zero task at = (let same : waiting x ≡ task = cc in (x.input, ap (λ (t : Task). t.stage) (sym same)))
first_wait (x ∷ xs) (suc j) task at = first_wait xs j task at

pub some_is : (P : ℕ → Type 0) (o : Option ℕ) → is_some o ≡ true → IfSome o P → (j : ℕ) × P j
some_is P None e holds = cc
some_is P (Some j) e holds = (j, holds)
