-- What is true of each of the jobs that have some numbers.
use Rattle.std.proofs.Common.{◌≡◌, ◌∙◌, ℕ, ◌+◌, ◌<◌, ◌≤◌, List, Some, inl, inr, length, drop, sym, ap, subst, arith}
use Rattle.std.specs.Prelude.{slice_get, slice_index_or}
use Rattle.std.proofs.lemmas.Bool.{cases_lt}
use Rattle.std.proofs.lemmas.Option.{slice_get_within, slice_get-get_or}
use Rattle.bpf_cpu.specs.Task.{Task, Waiting, InHand, Ended}
use Rattle.bpf_machine.specs.Hands.{IsFree, NoneWaits}
use Rattle.bpf_machine.specs.Parts.{chosen, chosen_at, no_task}
use Rattle.bpf_machine.proofs.PartLaws.{chosen_is, chosen_count}
use Rattle.bpf_explore.specs.Album.{HaveBudgets}
use Rattle.bpf_explore.specs.Tuples.{tuple_at}
use Rattle.bpf_explore.specs.Private.Album.{Shelf, machines, IsState, HasEndedOn}
use Rattle.bpf_explore.proofs.AlbumLaws.{kept_is, kept_jobs}
use Rattle.bpf_explore.proofs.TellLaws.{this_part}

-- it is true of those below a number
abbrev pub EachBelow : (Task → Type 0) → List Task → ℕ → Type 0
EachBelow P jobs n = (j : ℕ) (task : Task) → j < n → slice_get jobs j ≡ Some task → P task

pub next_each : (P : Task → Type 0) (parts : List Task) (numbers : List ℕ) (n : ℕ) (part : Task) → n < length numbers → slice_index_or
    numbers n 0 < length parts → part ≡ slice_index_or parts (slice_index_or numbers n 0) part → EachBelow P (chosen parts numbers) n → P
    part → EachBelow P (chosen parts numbers) (n + 1)
next_each P parts numbers n part inside within read far here j task less at = elim (cases_lt j n) [
  | inl below ↦ far j task below at
  | inr past ↦
      let same : j ≡ n = omega arith in
      subst P (this_part parts numbers n part inside within read task (ap (slice_get (chosen parts numbers)) (sym same) ∙ at)) here
]

pub all_each : (P : Task → Type 0) (parts : List Task) (numbers : List ℕ) (n : ℕ) → length numbers ≤ n → EachBelow P (chosen parts numbers)
    n → (j : ℕ) (task : Task) → slice_get (chosen parts numbers) j ≡ Some task → P task
all_each P parts numbers n past far j task at =
    let inside = slice_get_within (chosen parts numbers) j task at in
    let count = chosen_count parts numbers in
    far j task (omega arith) at

-- ---- jobs of a CPU, all of which have ended
pub idle_jobs : (jobs : List Task) (c : ℕ) → ((j : ℕ) (task : Task) → slice_get jobs j ≡ Some task → HasEndedOn c task) → IsFree jobs c × NoneWaits jobs c
idle_jobs jobs c ended = (
  λ j task state left at. (let end = ended j task at.listed at.of in let no : InHand state left ≡ Ended end.0 = sym at.at ∙ end.1 in cc),
  λ j task input at. (let end = ended j task at.listed at.of in let no : Waiting input ≡ Ended end.0 = sym at.at ∙ end.1 in cc),
)

-- ---- budgets
pub have_budgets : (s : Shelf) (least : ℕ) → ((i : ℕ) → i < s.states.count → IsState s (tuple_at s.states i)) →
    ((n : ℕ) (task : Task) → slice_get s.parts n ≡ Some task → least ≤ task.budget) → HaveBudgets (machines s s.states.count) least
have_budgets s least states all i j m task at there =
    let k = kept_is s i m at in
    let numbers = drop 1 (tuple_at s.states i) in
    let jobs = kept_jobs s i m at in
    let chosen_there : slice_get (chosen s.parts numbers) j ≡ Some task = ap (λ (ts : List Task). slice_get ts j) (sym jobs) ∙ there in
    let inside = slice_get_within (chosen s.parts numbers) j task chosen_there in
    let count = chosen_count s.parts numbers in
    let less : j < length numbers = omega arith in
    let within = (states i k.0).within j 0 less in
    let two : Some (chosen_at s.parts numbers j) ≡ Some task = sym (chosen_is s.parts numbers j less) ∙ chosen_there in
    let one : chosen_at s.parts numbers j ≡ task = cc in
    all (slice_index_or numbers j 0) task (slice_get-get_or s.parts (slice_index_or numbers j 0) no_task within ∙ ap Some one)
