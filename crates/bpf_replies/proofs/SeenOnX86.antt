-- What a search with store buffers shows of an outcome, its schedule and rounds after it show again.
use Rattle.std.proofs.Common.{◌≡◌, ◌∙◌, ℕ, zero, Bool, true, false, List, [], ◌∷◌, ◌++◌, Some, Ok, inl, refl, ap, subst, map, string_bytes}
use Rattle.std.specs.Prelude.{slice_get}
use Rattle.bpf_names.specs.Names.{Names}
use Rattle.bpf_machine.specs.Schedule.{World, unrolled}
use Rattle.bpf_x86.specs.Machine.{X86, Move, RunsMoves, drained}
use Rattle.bpf_buffering.specs.Search.{move_of}
use Rattle.bpf_explore.specs.Outcomes.{Found}
use Rattle.bpf_file.specs.File.{File}
use Rattle.bpf_file.specs.Laws.{FilesAreDetermined, FilesCanRun}
use Rattle.bpf_file.specs.Reading.{IsRunFile}
use Rattle.bpf_flushes.specs.Moves.{MakesAll}
use Rattle.bpf_flushes.specs.Printed.{IsReportWithBuffers, ReportsWithBuffersAreDetermined}
use Rattle.bpf_buffer_events.specs.Printed.{HistoriesAreOfReportsWithBuffers}
use Rattle.bpf_reorderings.specs.Outcomes.{EndsByX86}
use Rattle.bpf_replies.proofs.FreshFiles.{fresh}
use Rattle.bpf_replies.proofs.Shaped.{shaped}
use Rattle.bpf_replies.specs.Laws.{ShownOnX86AreFound, WitnessesOnX86AreSeenAgain}
use Rattle.bpf_replies.specs.Reordering.{AreFoundOnX86}
use Rattle.bpf_replies.specs.Script.{first_world_of}

-- moves that can be made are made in a run too
makes_all : (x : X86) (moves : List Move) (z : X86) → RunsMoves x moves z → MakesAll x moves z
makes_all x [] z e = e
makes_all x (move ∷ moves) z (y, here, rest) = (y, inl here, makes_all y moves z rest)

-- so the report of an outcome's schedule is that outcome
reported : (w : World) (names : Names) (maps : Bool) (found : Found) → EndsByX86 w names maps found
    → IsReportWithBuffers w found.by names maps found.text found.stopped
reported w names maps found (z, runs, ended, tells) =
    (drained z, (drained z, makes_all (drained w) (map move_of (unrolled found.by)) (drained z) runs, (zero, (ended, refl))), tells)

-- what a search found is the outcome of its schedule
abbrev IsFoundIn : List ℕ → Found → Type 0
IsFoundIn text found = (f : File) × IsRunFile text (Ok f) × EndsByX86 (first_world_of f) f.names true found

is_found : (patient : Bool) (text : List ℕ) (answers : List Found) (all : Bool) (limit states i : ℕ) (found : Found)
    → AreFoundOnX86 patient text limit answers all states → slice_get answers i ≡ Some found → IsFoundIn text found
is_found false text answers all limit states i found (e, (f, said, explored), same, whole, many) at =
    (f, said, explored.outcomes.each i found (subst (λ (xs : List Found). slice_get xs i ≡ Some found) same at))
is_found true text answers all limit states i found (e, (f, said, explored), same, whole, many) at =
    let ends = explored.outcomes.each i found (subst (λ (xs : List Found). slice_get xs i ≡ Some found) same at) in
    (f, said, (ends.0, ends.1, ends.2, ends.4))

-- and the report of that schedule
one_report : FilesAreDetermined → FilesCanRun → ReportsWithBuffersAreDetermined → (text : List ℕ) (found : Found) (g : File)
    (printed : List ℕ) (stopped : Bool) → IsFoundIn text found → IsRunFile text (Ok g)
    → IsReportWithBuffers (first_world_of g) found.by g.names true printed stopped
    → (printed ≡ found.text) × (stopped ≡ found.stopped)
one_report files runs reports text found g printed stopped (f, said, ends) read report =
    let both : Ok g ≡ Ok f = files text (Ok g) (Ok f) read said in
    let same : g ≡ f = cc in
    let known = subst (λ (h : File). IsReportWithBuffers (first_world_of h) found.by h.names true printed stopped) same report in
    reports (first_world_of f) found.by f.names true printed found.text stopped found.stopped (fresh f (shaped text f said) (runs text f said))
    known (reported (first_world_of f) f.names true found ends)

pub witnesses_on_x86_are_seen_again : FilesAreDetermined → FilesCanRun → ReportsWithBuffersAreDetermined → WitnessesOnX86AreSeenAgain
witnesses_on_x86_are_seen_again files runs reports patient text answers all limit states i found printed stopped explored at (g, read, report) =
    one_report files runs reports text found g (string_bytes printed) stopped (is_found patient text answers all limit states i found explored at) read report

pub shown_on_x86_are_found : FilesAreDetermined → FilesCanRun → ReportsWithBuffersAreDetermined → HistoriesAreOfReportsWithBuffers
    → ShownOnX86AreFound
shown_on_x86_are_found files runs reports histories patient text answers all limit states i found printed stopped explored at (g, read, history) =
    let (lines, told, report, both) = histories (first_world_of g) found.by g.names true (string_bytes printed) stopped history in
    let one = one_report files runs reports text found g told stopped (is_found patient text answers all limit states i found explored at) read report in
    (lines, both ∙ ap (λ (t : List ℕ). lines ++ t) one.0, one.1)
