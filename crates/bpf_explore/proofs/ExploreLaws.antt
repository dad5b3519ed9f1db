-- From a shape and its jobs to the answers.
use Rattle.std.proofs.Common.{◌≡◌, ◌∙◌, ℕ, zero, suc, ◌<◌, Bool, true, false, List, [], ◌∷◌, Option, Some, None, length, map, refl, sym, ap, arith}
use Rattle.std.specs.Prelude.{All, nat_lt, slice_get}
use Rattle.std.proofs.lemmas.List.{get_or_past}
use Rattle.std.proofs.lemmas.Option.{slice_get_within}
use Rattle.bpf_base.proofs.Lists.{slice_get-front}
use Rattle.bpf_shared.specs.Shape.{Shape}
use Rattle.bpf_names.specs.Names.{Names}
use Rattle.bpf_pairs.specs.Pairs.{Pair}
use Rattle.bpf_pairs.proofs.Filling.{filled_shape}
use Rattle.bpf_loader.specs.Loaded.{Loaded}
use Rattle.bpf_cpu.specs.Input.{IsShort}
use Rattle.bpf_cpu.specs.declared.input.Input.{Input}
use Rattle.bpf_cpu.specs.declared.job.Job.{Job}
use Rattle.bpf_cpu.specs.Task.{Task, Waiting, waiting}
use Rattle.bpf_machine.specs.Laws.{IsFresh}
use Rattle.bpf_machine.specs.Listings.{Listing, Never, Due, first_lists, listing_at}
use Rattle.bpf_machine.specs.Machine.{MachineState, Shows}
use Rattle.bpf_machine.specs.Schedule.{World}
use Rattle.bpf_jobs.specs.Printed.{first_world}
use Rattle.bpf_explore.specs.Laws.{CoverTellsAll}
use Rattle.bpf_explore.specs.Outcomes.{Found, AreOutcomes, IsExplored}
use Rattle.bpf_explore.specs.Search.{Alike, CameTo, CameToEnds, CoversAll, Extends, ShowsEnds, is_whole, is_refused}
use Rattle.bpf_explore.specs.declared.frontier.Extent.{Extent}
use Rattle.bpf_explore.specs.declared.frontier.Extent.TheVariants.{Whole, Limited, Refused}
use Rattle.bpf_explore.specs.Stores.{IsOfShape}
use Rattle.bpf_explore.specs.Album.{BeginsAt, IsShownAt, ShowsFirst, AreApart, AreLed}
use Rattle.bpf_explore.proofs.TrailLaws.{are_reached}
use Rattle.bpf_explore.specs.Private.Answers.{IsFirst, IsAnsweredAt, StartsFresh}

-- ---- the first machine
pub first_shape : (h : Shape) (m : MachineState) (pairs : List Pair) (programs : List Loaded) (jobs : List Task) → Shows m
    (first_world h pairs programs jobs) → IsOfShape h m.store
first_shape h m pairs programs jobs shows = (
  sym shows.store.shape ∙ filled_shape h pairs,
  λ c. ap (λ (n : ℕ). nat_lt c n) (sym shows.store.maps.cpus ∙ ap (λ (k : Shape). k.cpus) (filled_shape h pairs)),
)

none_of : (o : Option (List Listing)) → first_lists false ≡ listing_at o → o ≡ None
none_of None e = refl
none_of (Some all) e =
    let two : Never ≡ Due = ap (λ (f : ℕ → Listing). f (length all)) e ∙ get_or_past all (length all) Due (omega arith) in
    cc

pub first_lists_none : (h : Shape) (m : MachineState) (pairs : List Pair) (programs : List Loaded) (jobs : List Task) → Shows m
    (first_world h pairs programs jobs) → m.lists ≡ None
first_lists_none h m pairs programs jobs shows = none_of m.lists shows.lists

-- each job waits
job_waits : (jobs : List Job) → All (λ job. IsShort job.input) jobs → (j : ℕ) (task : Task) → slice_get (map waiting jobs) j ≡ Some task
    → (input : Input) × (task.stage ≡ Waiting input) × (IsShort input)
job_waits [] all j task at = cc
job_waits (x ∷ xs) all zero task at =
    let same : waiting x ≡ task = cc in
    let short : IsShort x.input = all 0 x (omega arith) in
    (x.input, sym (ap (λ (t : Task). t.stage) same), short)
job_waits (x ∷ xs) all (suc j) task at = job_waits xs (λ k d h. all (suc k) d (omega arith)) j task at

pub first_fresh : (h : Shape) (m : MachineState) (pairs : List Pair) (programs : List Loaded) (jobs : List Job) → All
    (λ job. IsShort job.input) jobs → Shows m (first_world h pairs programs (map waiting jobs)) → IsFresh
    (first_world h pairs programs (map waiting jobs))
first_fresh h m pairs programs jobs short shows = record { store = shows.sound; waits = job_waits jobs short }

-- ---- what is kept first
pub first_shown : (kept : List MachineState) (m : MachineState) (w : World) → ShowsFirst kept m → Shows m w → IsShownAt kept 0 w
first_shown kept m w (one, at, shows) here = (one, at, shows w here)

-- it stays first
pub still_begins : (old new : List MachineState) (w : World) → BeginsAt old w → Extends old new → BeginsAt new w
still_begins old new w (fresh, (one, at, here)) more = (
  fresh,
  (
    one,
    ap (λ (ms : List MachineState). slice_get ms 0) more.1 ∙
        (slice_get-front old more.0 0 (slice_get_within old 0 one at) ∙ at),
    here,
  ),
)

pub starts_fresh : (kept : List MachineState) (w : World) → BeginsAt kept w → StartsFresh kept
starts_fresh kept w begins = (w, begins.0, begins.1)

pub one_there : (kept : List MachineState) → StartsFresh kept → 0 < length kept
one_there kept (w, fresh, (one, at, here)) = slice_get_within kept 0 one at

-- ---- how far the search came
pub whole_of : (e : Extent) → is_whole e ≡ true → e ≡ Whole
whole_of Whole h = refl
whole_of Limited h = cc
whole_of Refused h = cc

pub limited_of : (e : Extent) → is_whole e ≡ false → is_refused e ≡ false → e ≡ Limited
limited_of Whole h n = cc
limited_of Limited h n = refl
limited_of Refused h n = cc

pub refused_of : (e : Extent) → is_refused e ≡ true → e ≡ Refused
refused_of Whole h = cc
refused_of Limited h = cc
refused_of Refused h = refl

pub not_whole : (e : Extent) → is_refused e ≡ true → is_whole e ≡ false
not_whole Whole h = cc
not_whole Limited h = refl
not_whole Refused h = refl

-- what covers all shows each end
shows_ends : (kept : List MachineState) → CoversAll Alike kept → ShowsEnds kept
shows_ends kept covers w z schedule (fresh, (one, at, here)) runs ended = (covers w z schedule fresh (0, one, at, here) runs).1 ended

pub came_to_ends : (kept : List MachineState) (extent : Extent) (limit : ℕ) → CameTo Alike kept extent limit → CameToEnds ShowsEnds kept extent limit
came_to_ends kept extent limit came = record { ends = λ is. shows_ends kept (came.covers is); met = came.met; short = came.short }

pub explored : CoverTellsAll → (kept : List MachineState) (w : World) (names : Names) (maps : Bool) (answers : List Found) (extent : Extent)
    (limit : ℕ) → BeginsAt kept w → CameToEnds ShowsEnds kept extent limit
    → ((u : World) → IsFirst kept u → AreOutcomes u names maps answers) →
    (extent ≡ Whole → (i : ℕ) → IsAnsweredAt kept names maps answers i) → AreLed kept → AreApart kept → IsExplored w names maps answers
    (is_whole extent) (is_refused extent) limit (length kept)
explored law kept w names maps answers extent limit begins came outcomes answered led apart =
    let first = begins.1 in
    record {
      outcomes = outcomes w first;
      complete = λ is. law kept w names maps answers (came.ends (whole_of extent is)) begins (λ i m at ended. answered (whole_of extent is) i m at ended);
      counted = are_reached kept w first led apart;
      met = λ is uncut. came.met (limited_of extent is uncut);
      short = λ is. (not_whole extent is, came.short (refused_of extent is));
    }
