-- Lists of jobs, of arrays and of buffers that are looked through.
use Rattle.std.proofs.Common.{◌≡◌, ◌∙◌, ℕ, zero, suc, ◌<◌, Bool, true, false, List, [], ◌∷◌, Some, Vec}
use Rattle.std.proofs.Common.{Global, get_or, length, map, sym, ap, subst, arith}
use Rattle.std.specs.Prelude.{◌↔◌, IsTrue, slice_get, slice_index_or}
use Rattle.std.proofs.lemmas.Bool.{false≢true}
use Rattle.std.proofs.lemmas.List.{get_or-map, length-map}
use Rattle.std.proofs.lemmas.Option.{slice_get-get_or, slice_get_within}
use Rattle.bpf_shared.specs.Shape.{Shape, IsArrayShape, IsShape}
use Rattle.bpf_shared.specs.declared.shapes.ArrayShape.{ArrayShape}
use Rattle.bpf_helpers.specs.Arrays.{array_start}
use Rattle.bpf_cpu.specs.Task.{Task}
use Rattle.bpf_buffering.specs.declared.jobs.Listed.{Listed}
use Rattle.bpf_buffering.specs.declared.waiting.Stored.{Stored}
use Rattle.bpf_buffering.specs.Jobs.{task_of, tasks_of}
use Rattle.bpf_buffering.proofs.Waits.{items_of}
use Rattle.bpf_buffer_expand.specs.State.{IsOpenIn}
use Rattle.bpf_buffer_expand.specs.Private.Fits.{IsInArray}

pub task_at : (jobs : List Listed) (i : ℕ) (x : Listed) → i < length jobs → x ≡ get_or jobs i x → slice_get (tasks_of jobs) i ≡ Some (task_of x)
task_at [] i x within at = absurd (omega (arith, within))
task_at (y ∷ ys) zero x within at = ap (λ (z : Listed). Some (task_of z)) (sym at)
task_at (y ∷ ys) (suc i) x within at = task_at ys i x (omega (arith, within)) at

pub same_task_at : (jobs : List Listed) (i : ℕ) (x : Listed) (task : Task) → i < length jobs → x ≡ get_or jobs i x → slice_get (tasks_of jobs) i ≡ Some task
    → task_of x ≡ task
same_task_at jobs i x task within at is =
    let two : Some (task_of x) ≡ Some task = sym (task_at jobs i x within at) ∙ is in
    let same : task_of x ≡ task = cc in
    same

pub jobs_within : (jobs : List Listed) (i : ℕ) (task : Task) → slice_get (tasks_of jobs) i ≡ Some task → i < length jobs
jobs_within jobs i task at = subst (λ (n : ℕ). i < n) (length-map jobs task_of) (slice_get_within (tasks_of jobs) i task at)

pub buffer_at_cpu : (bs : List (Vec Stored Global)) (i : ℕ) (b : Vec Stored Global) → i < length bs → b ≡ get_or bs i b
    → slice_index_or (map items_of bs) i [] ≡ items_of b
buffer_at_cpu bs i b within at = get_or-map items_of bs i b [] within ∙ ap items_of (sym at)

pub not_true : (b : Bool) → b ≡ false → b ≡ true → ⊥
not_true b e is = false≢true (sym e ∙ is)

pub open_in : (h : Shape) (a n number cpus start : ℕ) (g : ArrayShape) (r : Bool) → slice_get h.arrays number ≡ Some g → cpus ≡ h.cpus
    → start ≡ array_start number → (IsTrue r ↔ IsInArray cpus g start a n) → IsTrue r ↔ IsOpenIn h a n number
open_in h a n number cpus start g r at few begins (there, back) = (
  λ is. (let t = subst (λ (s : ℕ). IsInArray h.cpus g s a n) begins (subst (λ (c : ℕ). IsInArray c g start a n) few (there is)) in
      (g, at, t.0, t.1, t.2)),
  λ (other, here, frozen, from, within). (
      let two : Some other ≡ Some g = sym here ∙ at in
      let same : other ≡ g = cc in
      let t : IsInArray h.cpus g (array_start number) a n = subst (λ (k : ArrayShape). IsInArray h.cpus k (array_start number) a n) same
      (frozen, from, within) in
      back (subst (λ (c : ℕ). IsInArray c g start a n) (sym few) (subst (λ (s : ℕ). IsInArray h.cpus g s a n) (sym begins) t))),
)

-- an array of a shape, where it is there
pub array_there : (h : Shape) (arrays : List ArrayShape) (number : ℕ) (d : ArrayShape) → arrays ≡ h.arrays → number < length h.arrays
    → slice_get h.arrays number ≡ Some (get_or arrays number d)
array_there h arrays number d same inside =
    slice_get-get_or h.arrays number d inside ∙ ap (λ (l : List ArrayShape). Some (get_or l number d)) (sym same)

pub array_shaped : (h : Shape) (cpus number : ℕ) (g : ArrayShape) → IsShape h → cpus ≡ h.cpus → slice_get h.arrays number ≡ Some g → IsArrayShape cpus g
array_shaped h cpus number g is few at = subst (λ (n : ℕ). IsArrayShape n g) (sym few) (is.arrays number g at).0
