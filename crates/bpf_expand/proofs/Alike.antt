-- Machines of one host that are saved as the same bytes.
use Rattle.std.proofs.Common.{◌≡◌, ◌∙◌, ℕ, List, Option, sym, ap, subst}
use Rattle.bpf_plain.specs.PlainStore.{IsSavedAs}
use Rattle.bpf_plain.specs.Alike.{AlikeStandAlike, IsSameShape, SavedAlikeLookAlike}
use Rattle.bpf_cpu.specs.Task.{Task}
use Rattle.bpf_machine.specs.Hands.{IsFree, NoneWaits}
use Rattle.bpf_machine.specs.Listings.{Listing, listing_at}
use Rattle.bpf_machine.specs.Schedule.{World}
use Rattle.bpf_machine.specs.Machine.{MachineState, Shows}
use Rattle.bpf_machine.specs.Cover.{TurnsTo}
use Rattle.bpf_machine.proofs.JobLemmas.{jobs_told}
use Rattle.bpf_expand.specs.State.{Host, IsStateOf}

-- they have the same jobs
pub same_jobs : (h : Host) (x y : MachineState) (bytes : List ℕ) → IsStateOf h x bytes → IsStateOf h y bytes → x.jobs ≡ y.jobs
same_jobs h x y bytes a b = (jobs_told h.jobs x.jobs y.jobs a.saved.0 b.saved.0 a.of.jobs b.of.jobs (sym a.saved.2 ∙ b.saved.2)).0

-- they show the same worlds
pub shows_too : SavedAlikeLookAlike → AlikeStandAlike → (h : Host) (x y : MachineState) (bytes : List ℕ) → IsStateOf h x bytes → IsStateOf h
    y bytes → (w : World) → Shows x w → Shows y w
shows_too look stand h x y bytes a b w shown =
    let told = jobs_told h.jobs x.jobs y.jobs a.saved.0 b.saved.0 a.of.jobs b.of.jobs (sym a.saved.2 ∙ b.saved.2) in
    let shape : IsSameShape x.store y.store = (λ c. b.of.shape.1 c ∙ sym (a.of.shape.1 c), b.of.shape.0 ∙ sym a.of.shape.0) in
    let saved : IsSavedAs y.store a.saved.0 = subst (λ (l : List ℕ). IsSavedAs y.store l) (sym told.1) b.saved.1 in
    record {
      store = stand x.store y.store w.store (look x.store y.store a.saved.0 shape a.saved.1 saved) shown.store;
      sound = shown.sound;
      programs = shown.programs ∙ (a.of.programs ∙ sym b.of.programs);
      jobs = shown.jobs ∙ told.0;
      lists = shown.lists ∙ ap (λ (l : Option (List Listing)). listing_at l) (a.of.lists ∙ sym b.of.lists);
    }

-- a turn from the one is one from the other
pub turns_too : (x y : MachineState) (c : ℕ) (new : MachineState) → ((w : World) → Shows y w → Shows x w) → TurnsTo x c new → TurnsTo y c new
turns_too x y c new same (answer, mid, headway, turn, ahead) = (answer, mid, headway, λ w shown. turn w (same w shown), ahead)

pub free_too : (x y : List Task) (c : ℕ) → x ≡ y → IsFree x c → IsFree y c
free_too x y c same free = subst (λ (l : List Task). IsFree l c) same free

pub waits_too : (x y : List Task) (c : ℕ) → x ≡ y → NoneWaits x c → NoneWaits y c
waits_too x y c same none = subst (λ (l : List Task). NoneWaits l c) same none
