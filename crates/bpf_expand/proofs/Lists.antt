-- Lists that are gone through, and lists of numbers that count up.
use Rattle.std.proofs.Common.{◌≡◌, ◌∙◌, ℕ, zero, suc, ◌+◌, ◌<◌, List, [], ◌∷◌, ◌++◌, Some, append_assoc, length, take, get_or, refl, sym, ap, subst, arith}
use Rattle.std.specs.Prelude.{All, slice_get, slice_index_or}
use Rattle.std.proofs.Math.Seq.{take-length}
use Rattle.std.proofs.lemmas.List.{ext_get_or, get_or-map, length-map}
use Rattle.std.proofs.lemmas.List.Elements.{All-from_get_or}
use Rattle.std.proofs.lemmas.Option.{slice_get-get_or}
use Rattle.bpf_cpu.specs.Task.{Stage, Task, Waiting, InHand, Ended}
use Rattle.bpf_machine.specs.Machine.{MachineState}
use Rattle.bpf_machine.specs.Parts.{CanStand, chosen, no_task}
use Rattle.bpf_cpu.specs.Input.{IsShort}
use Rattle.bpf_machine.specs.Saved.{input_of, jobs_saved, stage_saved}
use Rattle.bpf_machine.proofs.JobLemmas.{saved_last}
use Rattle.bpf_expand.specs.Private.Home.{AreShort, CountUp}

pub take_next : {A : Type 0} (xs : List A) (n : ℕ) (x : A) → slice_get xs n ≡ Some x → take (suc n) xs ≡ take n xs ++ x ∷ []
take_next [] n x at = cc
take_next (y ∷ ys) zero x at = cc
take_next (y ∷ ys) (suc n) x at = ap (λ (l : List _). y ∷ l) (take_next ys n x at)

pub take_more : {A : Type 0} (xs : List A) (n : ℕ) (x : A) → slice_get xs n ≡ Some x → take (n + 1) xs ≡ take n xs ++ x ∷ []
take_more xs n x at = (let more : n + 1 ≡ suc n = omega arith in ap (λ (k : ℕ). take k xs) more) ∙ take_next xs n x at

pub take_whole : {A : Type 0} (xs : List A) (n : ℕ) → n ≡ length xs → take n xs ≡ xs
take_whole xs n e = ap (λ (k : ℕ). take k xs) e ∙ take-length xs

pub take_front : {A : Type 0} (n : ℕ) (xs ys : List A) → n ≡ length xs → take n (xs ++ ys) ≡ xs
take_front zero [] ys e = refl
take_front (suc n) [] ys e = absurd (omega arith)
take_front zero (x ∷ xs) ys e = absurd (omega arith)
take_front (suc n) (x ∷ xs) ys e = ap (λ (l : List _). x ∷ l) (take_front n xs ys (omega arith))

-- one more job is saved
pub saved_next : (mid new before : List ℕ) (jobs : List Task) (n : ℕ) (task : Task) → slice_get jobs n ≡ Some task → mid ≡ before ++
    jobs_saved (take n jobs) → new ≡ mid ++ stage_saved task.stage → new ≡ before ++ jobs_saved (take (n + 1) jobs)
saved_next mid new before jobs n task at so_far more =
    more ∙ (ap (λ (l : List ℕ). l ++ stage_saved task.stage) so_far
    ∙ (append_assoc before (jobs_saved (take n jobs)) (stage_saved task.stage)
    ∙ (ap (λ (l : List ℕ). before ++ l) (sym (saved_last (take n jobs) task)) ∙ ap (λ (l : List Task). before ++ jobs_saved l)
    (sym (take_more jobs n task at)))))

-- ---- numbers that count up
pub chosen_all : (parts : List Task) (numbers : List ℕ) → CountUp numbers (length parts) → chosen parts numbers ≡ parts
chosen_all parts numbers up =
    ext_get_or no_task (chosen parts numbers) parts (length-map numbers (λ n. slice_index_or parts n no_task) ∙ up.count)
    (λ i inside. let within : i < length numbers = subst (λ (n : ℕ). i < n) (length-map numbers (λ n. slice_index_or parts n no_task)) inside in
    get_or-map (λ n. slice_index_or parts n no_task) numbers i 0 no_task within ∙ ap (λ (n : ℕ). slice_index_or parts n no_task)
    (up.each i (subst (λ (n : ℕ). i < n) up.count within)))

pub all_within : (numbers : List ℕ) (n : ℕ) → CountUp numbers n → All (λ k. k < n) numbers
all_within numbers n up = All-from_get_or (λ k. k < n) numbers 0
    (λ i inside. let less : i < n = subst (λ (k : ℕ). i < k) up.count inside in subst (λ (k : ℕ). k < n) (sym (up.each i less)) less)

-- ---- inputs of jobs that are there
pub are_short : (m : MachineState) → CanStand m → AreShort m.jobs
are_short m stands = All-from_get_or (λ task. IsShort (input_of task.stage)) m.jobs no_task
    (λ i inside. short i (get_or m.jobs i no_task) (slice_get-get_or m.jobs i no_task inside))
  where
    waits : (i : ℕ) (task : Task) → slice_get m.jobs i ≡ Some task → (stage : Stage) → task.stage ≡ stage → IsShort (input_of stage)
    waits i task at (Waiting input) is = stands.short task.cpu i task input (record { listed = at; of = refl; at = is })
    waits i task at (InHand state left) is = (omega arith, omega arith)
    waits i task at (Ended outcome) is = (omega arith, omega arith)

    short : (i : ℕ) (task : Task) → slice_get m.jobs i ≡ Some task → IsShort (input_of task.stage)
    short i task at = waits i task at task.stage refl
