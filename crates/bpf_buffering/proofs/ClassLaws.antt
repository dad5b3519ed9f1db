-- Jobs that are alike, by their numbers, and states that count as one with the machine.
use Rattle.std.proofs.Common.{◌≡◌, ◌∙◌, ℕ, zero, suc, ◌+◌, ◌<◌, List, [], ◌∷◌, Option, Some, inl, inr, length, refl, sym, ap, subst, arith}
use Rattle.std.specs.Prelude.{IfSome, slice_get, option_map}
use Rattle.std.proofs.lemmas.Bool.{cases_lt}
use Rattle.std.proofs.lemmas.Option.{slice_get-map, slice_get_within, get_or_from_slice_get}
use Rattle.std.proofs.lemmas.List.{length-map}
use Rattle.bpf_plain.specs.PlainStore.{StandsFor}
use Rattle.bpf_loader.specs.Loaded.{Loaded}
use Rattle.bpf_cpu.specs.Task.{Task}
use Rattle.bpf_live.specs.Live.{Table}
use Rattle.bpf_alike.specs.Worlds.{AllAlike, AreLiveTables, IsAlike, table_at}
use Rattle.bpf_alike.proofs.Like.{all_like}
use Rattle.bpf_machine.specs.Listings.{listing_at}
use Rattle.bpf_machine.specs.Parts.{chosen, chosen_at, no_task}
use Rattle.bpf_buffering.specs.declared.jobs.Listed.{Listed}
use Rattle.bpf_buffering.specs.declared.pools.Pools.{Pools}
use Rattle.bpf_buffering.specs.Alike.{IsKeptAlikeAtX86}
use Rattle.bpf_buffering.specs.Jobs.{task_of, tasks_of}
use Rattle.bpf_buffering.specs.Search.{BufferedState, buffer_at}
use Rattle.bpf_buffering.specs.Private.Classes.{AreLoaded, IsLikeAt, job_at}
use Rattle.bpf_buffering.specs.Private.Kept.{Numbers, IsPooled, buffers_of, jobs_of, kept_state, state_with, store_of}
use Rattle.bpf_buffering.proofs.AlbumLaws.{states, state_at}

pub job_read : (kept : List Listed) (n : ℕ) (x : Listed) → slice_get kept n ≡ Some x → job_at (tasks_of kept) n ≡ task_of x
job_read kept n x at = get_or_from_slice_get (tasks_of kept) n (task_of x) no_task (slice_get-map task_of kept n ∙ ap (option_map task_of) at)

pub chosen_there : (jobs : List Task) (numbers : List ℕ) (k : ℕ) → k < length numbers → slice_get (chosen jobs numbers) k ≡ Some (chosen_at jobs numbers k)
chosen_there jobs [] k inside = absurd (omega arith)
chosen_there jobs (n ∷ ns) zero inside = refl
chosen_there jobs (n ∷ ns) (suc k) inside = chosen_there jobs ns k (omega arith)

-- jobs below a number are alike, of two lists of numbers
abbrev pub AlikeBelow : List Loaded → List Task → List ℕ → List ℕ → ℕ → Type 0
AlikeBelow programs jobs numbers others n = (k : ℕ) → k < n → IsAlike programs (chosen_at jobs numbers k) (chosen_at jobs others k)

pub next_alike : (programs : List Loaded) (jobs : List Task) (numbers others : List ℕ) (n : ℕ) → AlikeBelow programs jobs numbers others n
    → IsAlike programs (chosen_at jobs numbers n) (chosen_at jobs others n) → AlikeBelow programs jobs numbers others (n + 1)
next_alike programs jobs numbers others n far one k less = elim (cases_lt k n) [
  | inl below ↦ far k below
  | inr past ↦ let e : n ≡ k = omega arith in subst (λ (i : ℕ). IsAlike programs (chosen_at jobs numbers i) (chosen_at jobs others i)) e one
]

pub all_alike_below : (programs : List Loaded) (jobs : List Task) (numbers others : List ℕ) → length others ≡ length numbers
    → AlikeBelow programs jobs numbers others (length numbers) → AllAlike programs (chosen jobs numbers) (chosen jobs others)
all_alike_below programs jobs [] [] count all = tt
all_alike_below programs jobs [] (o ∷ os) count all = cc
all_alike_below programs jobs (n ∷ ns) [] count all = cc
all_alike_below programs jobs (n ∷ ns) (o ∷ os) count all =
    let rest : length os ≡ length ns = omega arith in
    (all 0 (omega arith), all_alike_below programs jobs ns os rest (λ k less. all (suc k) (omega arith)))

-- ---- a state that counts as one with the machine
-- the machine's jobs have programs
pub are_loaded : (p : Pools) (m : BufferedState) (k : Numbers) → IsPooled p m k → AreLoaded m.machine.programs (jobs_of p k)
are_loaded p m k pooled j task at =
    there m.machine.programs task.program (pooled.fits.board.stands.loaded j task at)
  where
    there : (ps : List Loaded) (i : ℕ) → i < length ps → (program : Loaded) × (slice_get ps i ≡ Some program)
    there [] i less = absurd (omega arith)
    there (q ∷ ps) zero less = (q, refl)
    there (q ∷ ps) (suc i) less = there ps i (omega arith)

pub kept_alike : (tables : List Table) (p : Pools) (m : BufferedState) (kept : List Numbers) (k : Numbers) (n : ℕ)
    → AreLiveTables m.machine.programs (table_at tables) → IsPooled p m k → IsLikeAt tables p.jobs kept k n
    → IsKeptAlikeAtX86 (states m p kept) n m
kept_alike tables p m kept k n right pooled (other, at, like) x shown =
    let programs = m.machine.programs in
    let s : BufferedState = kept_state p programs other in
    let jobs : m.machine.jobs ≡ jobs_of p k = ap (λ (b : BufferedState). b.machine.jobs) (sym pooled.is) in
    let all : AllAlike programs (jobs_of p k) (jobs_of p other) = like.alike programs right (are_loaded p m k pooled) in
    let here : AllAlike programs x.world.jobs (jobs_of p other) =
    subst (λ (ts : List Task). AllAlike programs ts (jobs_of p other)) (sym (shown.world.jobs ∙ jobs)) all in
    let same : kept_state p programs k ≡ state_with (store_of p other) programs (jobs_of p k) (buffers_of p other) =
    ap (λ (i : ℕ). state_with (store_of p (record k { store = i })) programs (jobs_of p k) (buffers_of p k)) (sym like.store)
    ∙ ap (λ (i : ℕ). state_with (store_of p other) programs (jobs_of p k) (buffers_of p (record k { buffers = i }))) (sym like.buffers) in
    let is : m ≡ state_with (store_of p other) programs (jobs_of p k) (buffers_of p other) = sym pooled.is ∙ same in (
      jobs_of p other,
      subst (λ (ps : List Loaded). AllAlike ps x.world.jobs (jobs_of p other)) (sym shown.world.programs) here,
      (
        s,
        state_at m p kept n other at,
        record {
          world = record {
            store = subst (λ (b : BufferedState). StandsFor b.machine.store x.world.store) is shown.world.store;
            sound = shown.world.sound;
            programs = shown.world.programs;
            jobs = refl;
            lists = shown.world.lists ∙ ap (λ (b : BufferedState). listing_at b.machine.lists) is;
          };
          buffers = shown.buffers ∙ ap (λ (b : BufferedState). buffer_at b.buffers) is;
        },
      ),
    )

-- one is found
pub found_at : (tables : List Table) (jobs : List Task) (kept : List Numbers) (k : Numbers) (found : Option ℕ) (n : ℕ) → found ≡ Some n
    → IfSome found (IsLikeAt tables jobs kept k) → IsLikeAt tables jobs kept k n
found_at tables jobs kept k found n is like = subst (λ (o : Option ℕ). IfSome o (IsLikeAt tables jobs kept k)) is like

pub inside_states : (m : BufferedState) (p : Pools) (kept : List Numbers) (n : ℕ) (k : Numbers) → slice_get kept n ≡ Some k
    → n < length (states m p kept)
inside_states m p kept n k at =
    subst (λ (count : ℕ). n < count) (sym (length-map kept (kept_state p m.machine.programs))) (slice_get_within kept n k at)

-- the machine itself
pub kept_itself : (m : BufferedState) (kept : List BufferedState) (n : ℕ) → slice_get kept n ≡ Some m → IsKeptAlikeAtX86 kept n m
kept_itself m kept n at x shown = (x.world.jobs, all_like x.world.programs x.world.jobs, (m, at, shown))
